use Rattle.std.proofs.Common.{Err, []}
use Rattle.disk_records.specs.Tapes.{pack}
use Rattle.page_seeking.proofs.Easing.{keeps_handy}
use Rattle.page_seeking.proofs.Once.{full_before_byte, once_of_whole}
use Rattle.page_seeking.proofs.Stopping.{lists_end, lists_next}
use Rattle.page_seeking.proofs.TrueLinks.{never_led}
use Rattle.page_seeking.proofs.read.read_part.Goals as goal

pub returns-in-Ok-clause-read : goal.returns-in-Ok-clause-read
returns-in-Ok-clause-read g c told whole = c.in-Ok.ensures.read told (once_of_whole (pack (g.D.Tape.tape c.args.disk.now)) whole) (c.in-Ok.ensures.reached told whole)

pub returns-in-Ok-clause-read_once : goal.returns-in-Ok-clause-read_once
returns-in-Ok-clause-read_once g c told once within = c.in-Ok.ensures.read told once (full_before_byte (pack (g.D.Tape.tape c.args.disk.now)) c.args.file.now.fid c.args.offset within)

pub returns-in-Err-clause-beyond_once : goal.returns-in-Err-clause-beyond_once
returns-in-Err-clause-beyond_once g c told once within = c.in-Err.ensures.beyond_once told once (full_before_byte (pack (g.D.Tape.tape c.args.disk.now)) c.args.file.now.fid c.args.offset within)

pub returns-in-Ok-clause-listed : goal.returns-in-Ok-clause-listed
returns-in-Ok-clause-listed g c = lists_end c.in-Ok.ensures.stops

pub returns-in-Ok-clause-next : goal.returns-in-Ok-clause-next
returns-in-Ok-clause-next g c told whole links = lists_next whole links told c.in-Ok.ensures.stops

pub returns-in-Ok-clause-handy : goal.returns-in-Ok-clause-handy
returns-in-Ok-clause-handy g c told = keeps_handy c.read_pages.ensures.sought told

pub returns-in-Err-clause-handy : goal.returns-in-Err-clause-handy
returns-in-Err-clause-handy g c told = keeps_handy c.read_pages.ensures.sought told

pub returns-in-Err-clause-true_links : goal.returns-in-Err-clause-true_links
returns-in-Err-clause-true_links g c told stands links =
    never_led {T = Unit {0}} (pack (g.D.Tape.tape c.args.disk.now)) [] c.args.file.now.fid c.args.file.now (Err c.in-Err.error) (g.met.D.Disk.formed c.args.disk.now told) stands links (c.in-Err.ensures.misled told stands.from)
