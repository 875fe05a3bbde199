-- What is exactly a share's plan fits as the plan does.
use Rattle.std.proofs.Common.{ℕ, sym, subst}
use Rattle.osc_space.specs.Space.{Space}
use Rattle.osc_space.specs.Share.{Sharing}
use Rattle.osc_parts.specs.ShareLaws.{ShareFits}
use Rattle.osc_parts.proofs.ShareParts.{shares_fit}
use Rattle.osc_share.specs.declared.sharing.SharePlan.TheVariants.{Given}
use Rattle.osc_share.specs.Plan.{IsSharePlan}
use Rattle.osc_share.specs.Fits.{FitsAfter, draft_with}

pub given_fits : (n address : ℕ) (space : Space) (old new : Sharing) → IsSharePlan n old (Given address) new → FitsAfter n space old (Given address) new
given_fits n address space old new plan kind batch entries words settled =
    let is = plan.2 in
    subst (λ (s : Sharing). ShareFits kind batch entries words old.regions n (draft_with space old) s) (sym is)
    (shares_fit kind batch entries words old.regions n (draft_with space old) settled plan.0)
