-- What is exactly a fork's plan fits as the plan does.
use Rattle.std.proofs.Common.{ℕ, ◌≡◌, List, ap, sym, subst}
use Rattle.osc_paging.specs.KeptTables.{KeptTables}
use Rattle.osc_space.specs.Space.{Space}
use Rattle.osc_space.specs.Fork.{Forked, fork_plan}
use Rattle.osc_space.specs.Share.{join}
use Rattle.osc_parts.specs.ForkFits.{ForkFits}
use Rattle.osc_parts.proofs.ForkParts.{forks_fit}
use Rattle.osc_fork.specs.declared.plan.ForkPlan.TheVariants.{Copied}
use Rattle.osc_fork.specs.Plan.{Forking, IsForkPlan}
use Rattle.osc_fork.specs.Fits.{FitsForked, draft_before}

pub copied_fits : (s : Space) (old new : Forking) (names : List ℕ) → IsForkPlan s Copied old names new → FitsForked s old names new
copied_fits s old new names plan =
    let made = fork_plan s old.free in
    let tables : new.tables ≡ (fork_plan s old.free).child.tables = ap (λ (f : Forked). f.child.tables) plan.1 in
    record {
      made = made;
      is = plan.1;
      fits = λ kind batch entries words regions settled.
          subst (λ (t : KeptTables). ForkFits kind batch entries words regions (join t regions) (draft_before s old) (fork_plan s old.free)) (sym tables)
          (forks_fit kind batch entries words regions (draft_before s old) settled plan.0);
    }
