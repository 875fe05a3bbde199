-- By the law of mappings.
use Rattle.std.proofs.Common.{◌≡◌, ◌∙◌, ◌+◌, ap, arith, Some}
use Rattle.std.proofs.Math.Nat.{mod-lt}
use Rattle.osc_frames.specs.Free.{free_count}
use Rattle.osc_sv39.specs.Walk.{number_of}
use Rattle.osc_paging.specs.KeptTables.{KeptTables, levels_of, mapping_at, need, root_of}
use Rattle.osc_paging.specs.TableChanges.{Changed}
use Rattle.osc_paging.proofs.TableLawProofs.{mapping_takes_need, positive}
use Rattle.osc_paging.proofs.Needed.{map_page-top}
use Rattle.osc_tables.specs.Calls.{changed}
use Rattle.osc_tables.specs.Inside.{IsTop}
use Rattle.osc_tables.proofs.Canonical.{maps_to, some_root}
use Rattle.osc_tables.proofs.KeptChanges.{unmapped_at}
use Rattle.osc_tables.proofs.kept.Tables.map.Goals as goal

pub map_number-requires-clause-range : goal.map_number-requires-clause-range
map_number-requires-clause-range c =
    let t = c.args.self.now in
    let number : c.number_of-number.result ≡ number_of (levels_of t) c.args.page = c.number_of-number.ensures ∙ ap (λ (u : KeptTables). number_of (levels_of u) c.args.page) c.self.view_is in
    rw number (mod-lt c.args.page (positive (levels_of t)))

pub map_number-requires-clause-unmapped : goal.map_number-requires-clause-unmapped
map_number-requires-clause-unmapped c =
    let t = c.args.self.now in
    let number : c.number_of-number.result ≡ number_of (levels_of t) c.args.page = c.number_of-number.ensures ∙ ap (λ (u : KeptTables). number_of (levels_of u) c.args.page) c.self.view_is in
    rw number (unmapped_at t c.args.page c.requires.canonical c.requires.unmapped)

pub map_number-requires-clause-spare : goal.map_number-requires-clause-spare
map_number-requires-clause-spare c =
    let top : c.self.inside.top ≡ c.args.self.now.top = ap (λ (t : KeptTables). t.top) c.self.view_is in
    omega (arith, c.self.invariant.0.range.1, c.requires.spare)

pub returns-clause-next : goal.returns-clause-next
returns-clause-next c =
    let t = c.args.self.now in
    let number : c.number_of-number.result ≡ number_of (levels_of t) c.args.page = c.number_of-number.ensures ∙ ap (λ (u : KeptTables). number_of (levels_of u) c.args.page) c.self.view_is in
    let next = rw number at c.map_number.ensures.next in
    next

pub returns-clause-mapped : goal.returns-clause-mapped
returns-clause-mapped c =
    let t = c.args.self.now in
    let number : c.number_of-number.result ≡ number_of (levels_of t) c.args.page = c.number_of-number.ensures ∙ ap (λ (u : KeptTables). number_of (levels_of u) c.args.page) c.self.view_is in
    let next = rw number at c.map_number.ensures.next in
    let range : IsTop t.top = rw (← c.self.view_is) c.self.invariant.0.range in
    let root = some_root (root_of t) c.requires.opened in
    let law = mapping_takes_need (number_of (levels_of t) c.args.page) root.0 c.args.mapping (changed t c.args.frames.now c.args.jobs.now.pushed) root.1 (mod-lt c.args.page (positive (levels_of t))) c.requires.need in
    let top = ap (λ (d : Changed). d.tables.top) next ∙ map_page-top (number_of (levels_of t) c.args.page) c.args.mapping (changed t c.args.frames.now c.args.jobs.now.pushed) in
    maps_to t c.map_number.new.self c.args.page (Some c.args.mapping) range top c.requires.canonical (λ n. ap (λ (d : Changed). mapping_at d.tables.pages n) next ∙ law.pages n)

pub returns-clause-frames : goal.returns-clause-frames
returns-clause-frames c =
    let t = c.args.self.now in
    let number : c.number_of-number.result ≡ number_of (levels_of t) c.args.page = c.number_of-number.ensures ∙ ap (λ (u : KeptTables). number_of (levels_of u) c.args.page) c.self.view_is in
    let next = rw number at c.map_number.ensures.next in
    let root = some_root (root_of t) c.requires.opened in
    let law = mapping_takes_need (number_of (levels_of t) c.args.page) root.0 c.args.mapping (changed t c.args.frames.now c.args.jobs.now.pushed) root.1 (mod-lt c.args.page (positive (levels_of t))) c.requires.need in
    ap (λ (d : Changed). free_count d.free + need t (number_of (levels_of t) c.args.page) 1) next ∙ law.taken

pub returns-clause-root : goal.returns-clause-root
returns-clause-root c =
    let t = c.args.self.now in
    let number : c.number_of-number.result ≡ number_of (levels_of t) c.args.page = c.number_of-number.ensures ∙ ap (λ (u : KeptTables). number_of (levels_of u) c.args.page) c.self.view_is in
    let next = rw number at c.map_number.ensures.next in
    let root = some_root (root_of t) c.requires.opened in
    let law = mapping_takes_need (number_of (levels_of t) c.args.page) root.0 c.args.mapping (changed t c.args.frames.now c.args.jobs.now.pushed) root.1 (mod-lt c.args.page (positive (levels_of t))) c.requires.need in
    ap (λ (d : Changed). root_of d.tables) next ∙ law.root

pub returns-clause-top : goal.returns-clause-top
returns-clause-top c =
    let t = c.args.self.now in
    let number : c.number_of-number.result ≡ number_of (levels_of t) c.args.page = c.number_of-number.ensures ∙ ap (λ (u : KeptTables). number_of (levels_of u) c.args.page) c.self.view_is in
    let next = rw number at c.map_number.ensures.next in
    ap (λ (d : Changed). d.tables.top) next ∙ map_page-top (number_of (levels_of t) c.args.page) c.args.mapping (changed t c.args.frames.now c.args.jobs.now.pushed)
