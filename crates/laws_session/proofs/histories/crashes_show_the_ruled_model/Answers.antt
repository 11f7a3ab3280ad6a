use Rattle.laws_session.proofs.inside.Ruling.{crashes_show_the_ruled_model}
use Rattle.laws_session.proofs.histories.crashes_show_the_ruled_model.Goals as goal

pub returns : goal.returns
returns c = crashes_show_the_ruled_model
