use Rattle.std.proofs.Common.{nat_lt, rules}
use Rattle.std.proofs.lemmas.List.Sorted.{IsPartitionPoint-from_clause, IsPartitionedBy-ltb}
use Rattle.dsec_keys.proofs.index.first_from.Goals as goal

pub returns-clause-split : goal.returns-clause-split
returns-clause-split c rises =
    IsPartitionPoint-from_clause (λ e. nat_lt e c.args.least) c.args.entries.now c.partition_point.result c.partition_point.ensures.partitioned (IsPartitionedBy-ltb (λ x. x) c.args.entries.now c.args.least rises) (λ a r f' k. search rules)
