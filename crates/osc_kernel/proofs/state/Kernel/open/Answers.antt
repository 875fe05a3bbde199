-- The kernel agrees when it opens.
use Rattle.std.proofs.Common.{sym, ◌∙◌, subst}
use Rattle.osc_open.specs.Laying.{pages_of}
use Rattle.osc_kernel.specs.Sound.{Sound}
use Rattle.osc_kernel.proofs.Laid.{opened_sound, started_is}
use Rattle.osc_kernel.proofs.state.Kernel.open.Goals as goal

pub invariant_of-result : goal.invariant_of-result
invariant_of-result c =
    let pages = pages_of c.args.pages.now in
    let config = c.args.config.now in
    let opened = c.in_ok-first.ensures.opened in
    let state = c.in_ok-state.ensures in
    subst Sound (sym c.in_ok-state-2.ensures) (opened_sound pages config c.in_ok-state.state _ c.requires.valid c.requires.pages opened.enough
    (state.kernel ∙ started_is pages config c.in_ok-first.first _ _ opened) state.rooms state.fresh)
