-- A page that is not there changes nothing.
use Rattle.std.proofs.Common.{◌≡◌, None, ap, refl}
use Rattle.osc_paging.specs.KeptTables.{mapping_at}
use Rattle.osc_tables.specs.Listed.{Listed}
use Rattle.osc_tables.specs.Slots.{pages_in}
use Rattle.osc_tables.proofs.PagePlaces.{without_page-none}
use Rattle.osc_tables.proofs.page_list.PageList.remove.Goals as goal

pub returns-in_default : goal.returns-in_default
returns-in_default c =
    let pages : pages_in c.self.inside.slots.items ≡ c.args.self.now.pages = ap (λ (l : Listed). l.pages) c.self.view_is in
    let none : mapping_at c.args.self.now.pages c.args.number ≡ None = rw (c.deref.ensures.value, pages) at c.in_default.ensures in
    rw (without_page-none c.args.number c.args.self.now.pages none) refl
