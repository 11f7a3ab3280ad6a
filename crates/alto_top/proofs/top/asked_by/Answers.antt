use Rattle.std.proofs.Common.{rules, ◌≡◌, codes, arith}
use Rattle.std.proofs.lemmas.Slice.Eq.{text_from_reads}
use Rattle.alto_top.proofs.top.asked_by.Goals as goal

pub returns-in-scavenge : goal.returns-in-scavenge
returns-in-scavenge c = let is : c.args.word.now ≡ codes "scavenge" = text_from_reads c.args.word.now (codes "scavenge") (omega arith) (search rules) in cc
