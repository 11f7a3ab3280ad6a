use Rattle.std.proofs.Common.{◌≡◌, Some}
use Rattle.disk_records.specs.Tapes.{pack}
use Rattle.scav_pages.proofs.Doing.{does_ok, going_here}
use Rattle.scav_pages.proofs.Rooting.{root_stays}
use Rattle.scav_pages.proofs.root.mend_root.Goals as goal

pub returns-in-Some-eq1-clause-does : goal.returns-in-Some-eq1-clause-does
returns-in-Some-eq1-clause-does g c = λ told may.
    let a = g.D.Tape.tape c.args.disk.now in
    let is : c.args.root ≡ Some 1 = cc in
    does_ok tt (going_here a) (root_stays (pack a) c.args.root may is)
