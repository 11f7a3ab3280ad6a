use Rattle.std.proofs.Common.{arith, drop, length, ◌-◌}
use Rattle.std.proofs.lemmas.List.{length-drop, take_all}
use Rattle.file_pages.proofs.claims.after_first.Goals as goal

pub returns : goal.returns
returns c = let less = length-drop c.args.count c.args.bytes.now in take_all (length c.args.bytes.now - c.args.count) (drop c.args.count c.args.bytes.now) (omega (arith, less))
