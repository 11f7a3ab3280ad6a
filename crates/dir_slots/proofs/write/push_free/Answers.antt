use Rattle.std.proofs.Common.{◌++◌, ap, ◌∙◌}
use Rattle.dir_slots.proofs.Writing.{space-written}
use Rattle.dir_slots.proofs.write.push_free.Goals as goal

pub returns : goal.returns
returns c = c.in_ok-extend_from_slice.ensures.items ∙ ap (λ l. c.args.words.now.items ++ l) (space-written 1023 c.args.length c.requires.least c.requires.most)
