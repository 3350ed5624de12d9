use Rattle.std.proofs.Common.{nat_lt, rules}
use Rattle.std.proofs.lemmas.List.Sorted.{IsPartitionPoint-from_clause, IsPartitionedBy-ltb}
use Rattle.cfg_base.proofs.newlinecache.count_before.Goals as goal

pub returns-clause-point : goal.returns-clause-point
returns-clause-point c =
    IsPartitionPoint-from_clause (λ p. nat_lt p c.args.byte) c.args.offsets.now c.partition_point.result c.partition_point.ensures.partitioned
    (IsPartitionedBy-ltb (λ p. p) c.args.offsets.now c.args.byte c.requires)
    (λ a r f' called. search rules)
