use Rattle.std.proofs.Common.{nat_le, rules}
use Rattle.std.proofs.lemmas.List.Sorted.{IsPartitionPoint-from_clause, IsPartitionedBy-leb}
use Rattle.language_server.proofs.places.lines_upto.Goals as goal

pub returns-clause-point : goal.returns-clause-point
returns-clause-point c = λ sorted.
    IsPartitionPoint-from_clause (λ p. nat_le p c.args.offset) c.args.starts.now c.partition_point.result c.partition_point.ensures.partitioned
    (IsPartitionedBy-leb (λ p. p) c.args.starts.now c.args.offset sorted)
    (λ a r f' called. search rules)
