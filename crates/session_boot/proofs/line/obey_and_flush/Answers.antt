use Rattle.disk_records.proofs.Growing.{alone_twice}
use Rattle.std.proofs.Common.{refl}
use Rattle.exec_session.specs.Ends.{cause_of_reply}
use Rattle.exec_words.specs.declared.reply.Reply.TheVariants as reply
use Rattle.session_boot.proofs.Flushed.{flushed_cause}
use Rattle.session_boot.proofs.Framing.{usable_still}
use Rattle.session_boot.proofs.line.obey_and_flush.Goals as goal

pub returns-clause-turns : goal.returns-clause-turns
returns-clause-turns g c told = let same = c.after_flush.ensures.told told in rw (same.0, same.1) (c.obey-reply.ensures.turns told)

pub returns-clause-cause : goal.returns-clause-cause
returns-clause-cause g c = flushed_cause cause_of_reply reply.DiskFault refl _ _ _ c.obey-reply.result c.after_flush.result c.obey-reply.ensures.alone.grown c.after_flush.ensures.alone.grown c.after_flush.ensures.cause c.obey-reply.ensures.cause

pub returns-clause-alone : goal.returns-clause-alone
returns-clause-alone g c = alone_twice c.obey-reply.ensures.alone c.after_flush.ensures.alone

pub returns-clause-frame : goal.returns-clause-frame
returns-clause-frame g c = usable_still c.obey-reply.ensures.alone.grown (λ told. (c.after_flush.ensures.told told).1) c.obey-reply.ensures.frame
