use Rattle.disk_records.specs.Tapes.{pack}
use Rattle.directory.proofs.Answering.{by_slots_map}
use Rattle.directory.proofs.LeavingEntry.{drop_ended}
use Rattle.directory.proofs.Misleading.{misled_map}
use Rattle.directory.proofs.OthersTrue.{never_led_but}
use Rattle.directory.proofs.leaving.free_slot.Goals as goal

pub returns-clause-unwritten : goal.returns-clause-unwritten
returns-clause-unwritten g c told = by_slots_map _ _ c.free_entry.result (λ quiet. quiet.silent) (c.free_entry.ensures.unwritten told)

pub returns-clause-quiet : goal.returns-clause-quiet
returns-clause-quiet g c told = misled_map c.free_entry.result (c.free_entry.ensures.quiet told) (λ place at wanted found quiet. quiet.silent)

pub returns-clause-true_links : goal.returns-clause-true_links
returns-clause-true_links g c f told found whole tidy links =
    never_led_but (pack (g.D.Tape.tape c.args.disk.now)) f c.args.dir.now c.free_entry.result (g.met.D.Disk.formed c.args.disk.now told) found whole tidy links (c.free_entry.ensures.misled told found)

pub returns-clause-ends : goal.returns-clause-ends
returns-clause-ends g c f told found whole tidy dead of =
    drop_ended (pack (g.D.Tape.tape c.args.disk.now)) c.args.dir.now.fid c.args.name.now f c.free_entry.result whole tidy dead of (c.free_entry.ensures.frees told found)
