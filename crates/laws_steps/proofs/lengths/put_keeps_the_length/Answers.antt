use Rattle.laws_steps.proofs.inside.Lengths.{put_keeps_the_length}
use Rattle.laws_steps.proofs.lengths.put_keeps_the_length.Goals as goal

pub returns : goal.returns
returns c = put_keeps_the_length
