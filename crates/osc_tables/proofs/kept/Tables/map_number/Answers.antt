-- A page more, in its place.
use Rattle.std.proofs.Common.{◌≡◌, ◌<◌, ◌^◌, ◌∙◌, suc, ap, None, length, arith}
use Rattle.osc_paging.specs.KeptTables.{KeptTables, mapping_at}
use Rattle.osc_tables.proofs.KeptChanges.{kept-with_page}
use Rattle.osc_tables.proofs.kept.Tables.map_number.Goals as goal

pub put-requires-clause-room : goal.put-requires-clause-room
put-requires-clause-room c =
    let same = c.self.view_is ∙ c.link_down.ensures.rest in
    let pages : length c.self.inside.pages.pages ≡ length c.args.self.now.pages = ap (λ (t : KeptTables). length t.pages) same in
    let room : c.self.inside.pages.room ≡ c.args.self.now.room = ap (λ (t : KeptTables). t.room) same in
    omega (arith, c.requires.left)

pub invariant_of-self : goal.invariant_of-self
invariant_of-self c =
    let same = c.self.view_is ∙ c.link_down.ensures.rest in
    let pages : c.self.inside.pages.pages ≡ c.args.self.now.pages = ap (λ (t : KeptTables). t.pages) same in
    let long : length c.self.inside.pages.pages ≡ length c.args.self.now.pages = ap length pages in
    let room : c.self.inside.pages.room ≡ c.args.self.now.room = ap (λ (t : KeptTables). t.room) same in
    let none : mapping_at c.self.inside.pages.pages c.args.number ≡ None = rw pages c.requires.unmapped in
    let top : c.self.inside.top ≡ c.args.self.now.top = ap (λ (t : KeptTables). t.top) same in
    let range : c.args.number < 512 ^ suc c.self.inside.top = rw top c.requires.range in
    rw c.put.ensures (
      kept-with_page c.self.inside.top c.self.inside.pages.pages c.self.inside.tables.items c.self.inside.aside.items c.self.inside.pages.room c.self.inside.count c.args.number c.args.mapping c.self.invariant.0 (omega (arith, c.requires.left)) range none,
      c.self.invariant.1,
      c.self.invariant.2,
    )

pub returns-in-Some-clause-taken : goal.returns-in-Some-clause-taken
returns-in-Some-clause-taken c =
    let taken = rw (← c.self.view_is) at c.link_down.ensures.taken in
    record { count = taken.count; tables = taken.tables; aside = taken.aside }
