-- An answer leaves the hart within its machine.
use Rattle.std.proofs.Common.{sym, subst}
use Rattle.osc_guest.specs.User.{Answered}
use Rattle.osc_hart.specs.Answers.{said}
use Rattle.osc_hart.specs.Seen.{SeenHart}
use Rattle.osc_hart.specs.Within.{InRange, ToldWithin}
use Rattle.osc_hart.proofs.Ranges.{told_in_range}
use Rattle.osc_hart.proofs.hart.UserHart.told.Goals as goal

pub invariant_of-self : goal.invariant_of-self
invariant_of-self c =
    let within = subst (λ (s : SeenHart). ToldWithin (said c.args.told) s.hart) (sym c.self.view_is) c.requires.within in
    subst (λ (a : Answered). InRange a.hart) (sym c.told.ensures)
    (told_in_range c.asks_within.ensures.kept c.hands_move.ensures.moves c.self.inside.state.hart (said c.args.told) c.self.invariant within)
