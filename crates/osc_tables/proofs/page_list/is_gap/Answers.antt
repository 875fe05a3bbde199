-- The slot at the place decides.
use Rattle.std.proofs.Common.{◌≡◌, ◌∙◌, sym, refl, Bool, true, false, not, Option, Some, None, is_some, is_none}
use Rattle.osc_sv39.specs.declared.entries.Mapping.{Mapping}
use Rattle.osc_tables.proofs.PagePlaces.{is_gap-at}
use Rattle.osc_tables.proofs.page_list.is_gap.Goals as goal

none_or_some : (x : Option Mapping) (b : Bool) → is_some x ≡ not b → b ≡ is_none x
none_or_some None true e = refl
none_or_some None false e = cc
none_or_some (Some m) true e = cc
none_or_some (Some m) false e = refl

pub returns-then-at-slots : goal.returns-then-at-slots
returns-then-at-slots c = none_or_some _ c.is_none.result c.is_none.ensures ∙ sym (is_gap-at c.args.slots.now c.args.at _ c.if-at-slots.true)
