use Rattle.std.proofs.Common.{rules, ◌≤◌, length, arith}
use Rattle.std.proofs.lemmas.List.{length-take-le}
use Rattle.std.proofs.lemmas.List.Sorted.{IsPartitionPoint-from_clause}
use Rattle.scav_table.proofs.Given.{has_address, window_divided, given_ends}
use Rattle.scav_table.proofs.table.given.Goals as goal

pub returns-clause-rows : goal.returns-clause-rows
returns-clause-rows c =
    let xs = c.args.list.now in
    let i = c.partition_point.result in
    let point = IsPartitionPoint-from_clause has_address xs i c.partition_point.ensures.partitioned (window_divided 1024 xs c.requires) (λ a r f' k. search rules) in
    let within : i ≤ length xs = omega arith in
    given_ends xs i within (λ k d l. point.0 k d (omega arith) l) (λ d l. point.1 i d (omega arith) l)

pub returns-clause-most : goal.returns-clause-most
returns-clause-most c = let size = c.requires.size in let within = c.partition_point.ensures.bound in omega (arith, length-take-le c.partition_point.result c.args.list.now within)
