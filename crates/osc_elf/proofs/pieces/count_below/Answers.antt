use Rattle.std.proofs.Common.{ltb, ltb-true, arith, rules}
use Rattle.std.proofs.lemmas.Bool.Decides.{nat_tests}
use Rattle.std.proofs.lemmas.List.Sorted.{IsPartitionPoint-from_clause, IsPartitionedBy-ltb}
use Rattle.osc_elf.proofs.pieces.count_below.Goals as goal

pub returns-clause-below : goal.returns-clause-below
returns-clause-below c =
    let parted = IsPartitionedBy-ltb (λ b. b) _ c.args.address c.requires in
    let point = IsPartitionPoint-from_clause (λ b. ltb b c.args.address) _ _ c.partition_point.ensures.partitioned parted (λ a r q k. search rules) in
    λ k low. ltb-true _ _ (point.0 k 0 (omega arith) low)

pub returns-clause-from : goal.returns-clause-from
returns-clause-from c =
    let parted = IsPartitionedBy-ltb (λ b. b) _ c.args.address c.requires in
    let point = IsPartitionPoint-from_clause (λ b. ltb b c.args.address) _ _ c.partition_point.ensures.partitioned parted (λ a r q k. search rules) in
    λ k low inside. let failed = point.1 k 0 low inside in grind (arith, nat_tests, failed)
