use Rattle.std.proofs.Common.{◌∙◌, arith}
use Rattle.scav_names.proofs.Taking.{none_kept, rest_kept}
use Rattle.scav_names.proofs.rooms.Rooms.keep_rest.Goals as goal

pub returns-in_ok-insert-clause-free : goal.returns-in_ok-insert-clause-free
returns-in_ok-insert-clause-free c = λ before rest sizes here e. c.in_ok-insert.ensures.entries ∙ rest_kept c.args.place c.args.words before rest c.args.self.now.free.entries sizes here c.if-words-gt0.true e

pub returns-else-words-gt0-clause-free : goal.returns-else-words-gt0-clause-free
returns-else-words-gt0-clause-free c = λ before rest sizes here e. none_kept c.args.place c.args.words before rest c.args.self.now.free.entries here (omega arith) e
