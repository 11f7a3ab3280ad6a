use Rattle.pack_laws.proofs.Putting.{value_write_is_the_put}
use Rattle.pack_laws.proofs.puts.value_write_is_the_put.Goals as goal

pub returns : goal.returns
returns c = value_write_is_the_put
