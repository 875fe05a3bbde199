-- The page is taken from the list.
use Rattle.std.proofs.Common.{◌≡◌, ◌∙◌, ap, None}
use Rattle.osc_sv39.specs.Walk.{number_of}
use Rattle.osc_paging.specs.KeptTables.{KeptTables, levels_of, mapping_at, root_of}
use Rattle.osc_paging.proofs.TableLists.{mapping_at-without_page}
use Rattle.osc_tables.specs.Inside.{IsTop}
use Rattle.osc_tables.proofs.Canonical.{maps_to, canonical_mapped}
use Rattle.osc_tables.proofs.KeptChanges.{taken-pages}
use Rattle.osc_tables.proofs.kept.Tables.unmap.Goals as goal

pub returns-clause-next : goal.returns-clause-next
returns-clause-next c =
    let t = c.args.self.now in
    let number : c.number_of-number.result ≡ number_of (levels_of t) c.args.page = c.number_of-number.ensures ∙ ap (λ (u : KeptTables). number_of (levels_of u) c.args.page) c.self.view_is in
    rw number at c.unmap_number.ensures.next

pub returns-clause-unmapped : goal.returns-clause-unmapped
returns-clause-unmapped c =
    let t = c.args.self.now in
    let number : c.number_of-number.result ≡ number_of (levels_of t) c.args.page = c.number_of-number.ensures ∙ ap (λ (u : KeptTables). number_of (levels_of u) c.args.page) c.self.view_is in
    let range : IsTop t.top = rw (← c.self.view_is) c.self.invariant.0.range in
    let pages = rw number at c.unmap_number.ensures.pages in
    let top = ap (λ (u : KeptTables). u.top) pages in
    let canonical = (canonical_mapped t c.args.page c.requires.mapped).0 in
    maps_to t c.unmap_number.new.self c.args.page None range top canonical
    (λ n. ap (λ (u : KeptTables). mapping_at u.pages n) pages ∙ mapping_at-without_page t.pages (number_of (levels_of t) c.args.page) n)

pub returns-clause-taken : goal.returns-clause-taken
returns-clause-taken c = λ free h. rw c.unmap_number.ensures.pages (taken-pages c.args.self.now free _ h)

pub returns-clause-root : goal.returns-clause-root
returns-clause-root c = ap (λ (t : KeptTables). root_of t) c.unmap_number.ensures.pages
