use Rattle.disk_records.specs.Tapes.{pack}
use Rattle.directory.proofs.LeavingEntry.{found_of_stands}
use Rattle.directory.proofs.Misleading.{dir_never_led}
use Rattle.directory.proofs.leaving.leave.Goals as goal

pub returns-clause-operates : goal.returns-clause-operates
returns-clause-operates g c told stands ordinary = c.free_entry.ensures.operates told stands.stands.whole stands.stands.tidy (found_of_stands (pack (g.D.Tape.tape c.args.disk.now)) c.args.dir.now stands) ordinary

pub returns-clause-frees : goal.returns-clause-frees
returns-clause-frees g c told stands = c.free_entry.ensures.frees told (found_of_stands (pack (g.D.Tape.tape c.args.disk.now)) c.args.dir.now stands)

pub returns-clause-absent : goal.returns-clause-absent
returns-clause-absent g c told stands = c.free_entry.ensures.absent told stands.stands.whole (found_of_stands (pack (g.D.Tape.tape c.args.disk.now)) c.args.dir.now stands)

pub returns-clause-misled : goal.returns-clause-misled
returns-clause-misled g c told stands = c.free_entry.ensures.misled told (found_of_stands (pack (g.D.Tape.tape c.args.disk.now)) c.args.dir.now stands)

pub returns-clause-quick : goal.returns-clause-quick
returns-clause-quick g c told stands = c.free_entry.ensures.quick told (found_of_stands (pack (g.D.Tape.tape c.args.disk.now)) c.args.dir.now stands)

pub returns-clause-true_links : goal.returns-clause-true_links
returns-clause-true_links g c told stands links =
    let p = pack (g.D.Tape.tape c.args.disk.now) in
    dir_never_led p c.args.dir.now c.free_entry.result (g.met.D.Disk.formed c.args.disk.now told) stands links (c.free_entry.ensures.misled told (found_of_stands p c.args.dir.now stands))
