use Rattle.exec_session.proofs.Looking.{looks_about_none}
use Rattle.std.proofs.Common.{refl}
use Rattle.exec_steps.proofs.rooms.lacks_own_room.Goals as goal

-- ---- SysDir
pub returns-then-eq-clause-unrefused : goal.returns-then-eq-clause-unrefused
returns-then-eq-clause-unrefused g c = tt

pub returns-then-eq-clause-misled : goal.returns-then-eq-clause-misled
returns-then-eq-clause-misled g c = λ told stands. tt

pub returns-then-eq-clause-cause : goal.returns-then-eq-clause-cause
returns-then-eq-clause-cause g c = refl

pub returns-then-eq-clause-want : goal.returns-then-eq-clause-want
returns-then-eq-clause-want g c = λ told is. cc

pub returns-then-eq-clause-looks : goal.returns-then-eq-clause-looks
returns-then-eq-clause-looks g c = looks_about_none 4298375168 (g.D.Tape.tape c.args.disk.now) c.args.session.now

-- ---- another one
pub returns-clause-unrefused : goal.returns-clause-unrefused
returns-clause-unrefused g c = c.lacks_room.ensures.unrefused

pub returns-clause-misled : goal.returns-clause-misled
returns-clause-misled g c = c.lacks_room.ensures.misled

pub returns-clause-cause : goal.returns-clause-cause
returns-clause-cause g c = c.lacks_room.ensures.cause

pub returns-clause-want : goal.returns-clause-want
returns-clause-want g c = c.lacks_room.ensures.want

pub returns-clause-looks : goal.returns-clause-looks
returns-clause-looks g c = c.lacks_room.ensures.looks
