use Rattle.std.proofs.Common.{◌+◌, ◌-◌, leb, leb-true, arith, rules, inl, inr}
use Rattle.std.proofs.lemmas.Bool.{cases_lt}
use Rattle.std.proofs.lemmas.Bool.Decides.{nat_tests}
use Rattle.std.proofs.lemmas.List.Sorted.{IsPartitionPoint-from_clause, IsPartitionedBy-leb}
use Rattle.osc_elf.proofs.Owning.{border-at}
use Rattle.osc_elf.proofs.pieces.piece_at.Goals as goal

some_below : goal.overflow_sub-result
some_below c =
    let parted = IsPartitionedBy-leb (λ b. b) _ c.args.address c.requires.rising in
    let point = IsPartitionPoint-from_clause (λ b. leb b c.args.address) _ _ c.partition_point.ensures.partitioned parted (λ a r q k. search rules) in
    let zero = border-at c.args.borders.now 0 c.requires.zero in
    elim (cases_lt 0 c.partition_point.result) [
      | inl some ↦ omega arith
      | inr none ↦ let failed = point.1 zero.0 0 (omega arith) zero.1 in absurd (grind (arith, nat_tests, failed, zero.2))
    ]

pub overflow_sub-result : goal.overflow_sub-result
overflow_sub-result c = some_below c

pub returns : goal.returns
returns c =
    let parted = IsPartitionedBy-leb (λ b. b) _ c.args.address c.requires.rising in
    let point = IsPartitionPoint-from_clause (λ b. leb b c.args.address) _ _ c.partition_point.ensures.partitioned parted (λ a r q k. search rules) in
    let some = some_below c in
    record {
      inside = omega (arith, some, c.partition_point.ensures.bound);
      low = leb-true _ _ (point.0 (c.partition_point.result - 1) 0 (omega arith) (omega (arith, some)));
      high = λ more. let failed = point.1 (c.partition_point.result - 1 + 1) 0 (omega (arith, some)) more in grind (arith, nat_tests, failed);
    }
