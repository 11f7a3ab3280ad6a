use Rattle.disk_records.proofs.Growing.{alone_twice}
use Rattle.disk_records.specs.Tapes.{pack}
use Rattle.alto_top.proofs.Scavenged.{refused, reported, writes_of_scavenge}
use Rattle.alto_top.proofs.scavenging.scavenge_disk.Goals as goal

pub returns-in_ok-text-in-Ok-clause-scavenges : goal.returns-in_ok-text-in-Ok-clause-scavenges
returns-in_ok-text-in-Ok-clause-scavenges g c = λ told.
    let all = c.in-Ok.ensures.scavenges told in
    let same = (c.flush_disk.ensures.told told).1 in
    rw same (record {
      writes = writes_of_scavenge all (c.in-Ok.ensures.frame told);
      tells = (record { taken = all.answers.0; ends = all.done }, reported (pack (g.D.Tape.tape c.args.disk.now)) c.in-Ok.report c.in_ok-text-in-Ok.text.items all.answers c.in_ok-text-in-Ok.ensures);
    })

pub returns-in_ok-flush_disk-in-Err-clause-scavenges :
    goal.returns-in_ok-flush_disk-in-Err-clause-scavenges
returns-in_ok-flush_disk-in-Err-clause-scavenges g c = λ told.
    let all = c.in-Err.ensures.scavenges told in
    let same = (c.flush_disk-in-Err.ensures.told told).1 in
    rw same (record {
      writes = writes_of_scavenge all (c.in-Err.ensures.frame told);
      tells = refused (pack (g.D.Tape.tape c.args.disk.now)) c.in-Err.error c.in_ok-text-in-Err.text.items all.answers c.in_ok-text-in-Err.ensures;
    })

pub returns-in_err-flush_disk-in-Ok-clause-alone : goal.returns-in_err-flush_disk-in-Ok-clause-alone
returns-in_err-flush_disk-in-Ok-clause-alone g c = alone_twice c.in-Ok.ensures.alone c.flush_disk.ensures.alone

pub returns-in_err-text-in-Ok-clause-alone : goal.returns-in_err-text-in-Ok-clause-alone
returns-in_err-text-in-Ok-clause-alone g c = alone_twice c.in-Ok.ensures.alone c.flush_disk.ensures.alone

pub returns-in_ok-text-in-Ok-clause-alone : goal.returns-in_ok-text-in-Ok-clause-alone
returns-in_ok-text-in-Ok-clause-alone g c = alone_twice c.in-Ok.ensures.alone c.flush_disk.ensures.alone

pub returns-in_err-flush_disk-in-Err-clause-alone :
    goal.returns-in_err-flush_disk-in-Err-clause-alone
returns-in_err-flush_disk-in-Err-clause-alone g c = alone_twice c.in-Err.ensures.alone c.flush_disk-in-Err.ensures.alone

pub returns-in_ok-flush_disk-in-Err-clause-alone :
    goal.returns-in_ok-flush_disk-in-Err-clause-alone
returns-in_ok-flush_disk-in-Err-clause-alone g c = alone_twice c.in-Err.ensures.alone c.flush_disk-in-Err.ensures.alone
