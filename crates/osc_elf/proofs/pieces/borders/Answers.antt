use Rattle.std.proofs.lemmas.List.Sorted.{IsNonDecreasingBy-from_sort, Contains-permutation}
use Rattle.osc_elf.proofs.pieces.borders.Goals as goal

pub returns-clause-rising : goal.returns-clause-rising
returns-clause-rising c = IsNonDecreasingBy-from_sort (λ b. b) _ c.sort_unstable.ensures.sorted

pub returns-clause-zero : goal.returns-clause-zero
returns-clause-zero c = Contains-permutation _ _ 0 c.sort_unstable.ensures.permutation c.in_ok-borders.ensures.zero

pub returns-clause-both : goal.returns-clause-both
returns-clause-both c = λ k s inside.
    let both = c.in_ok-borders.ensures.both k s inside in (
      Contains-permutation _ _ _ c.sort_unstable.ensures.permutation both.0,
      Contains-permutation _ _ _ c.sort_unstable.ensures.permutation both.1,
    )
