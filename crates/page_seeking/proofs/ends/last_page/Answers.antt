use Rattle.page_seeking.specs.declared.links.Below.{Below}
use Rattle.page_seeking.proofs.Easing.{keeps_handy, quick_cache}
use Rattle.page_seeking.proofs.Erring.{caused_length}
use Rattle.page_seeking.proofs.Forgetting.{highest_left, lists_forgotten}
use Rattle.page_seeking.proofs.Recalling.{sought_kept}
use Rattle.page_seeking.proofs.Lasting.{is_last}
use Rattle.page_seeking.proofs.Seeking.{ends_of}
use Rattle.std.proofs.Common.{arith, Err, []}
use Rattle.page_seeking.proofs.TrueLinks.{never_led}
use Rattle.disk_records.specs.Tapes.{pack}
use Rattle.page_seeking.proofs.ends.last_page.Goals as goal

pub returns-in-Ok-clause-last : goal.returns-in-Ok-clause-last
returns-in-Ok-clause-last g c told whole = is_last whole told (ends_of c.in-Ok.ensures.ends c.in-Ok.ensures.found)

pub returns-in-Err-clause-cause : goal.returns-in-Err-clause-cause
returns-in-Err-clause-cause g c = caused_length Below (g.D.Tape.tape c.args.disk.now) (g.D.Tape.tape c.seek_last.new.disk) c.in-Err.error c.in-Err.ensures.cause c.in-Err.ensures.never_beyond

pub returns-in-Ok-clause-handy : goal.returns-in-Ok-clause-handy
returns-in-Ok-clause-handy g c told = keeps_handy (sought_kept c.forget_after.ensures.refused c.forget_after.ensures.each c.seek_last.ensures.sought) told

pub returns-in-Err-clause-handy : goal.returns-in-Err-clause-handy
returns-in-Err-clause-handy g c told = keeps_handy c.seek_last.ensures.sought told

pub returns-in-Ok-clause-quick : goal.returns-in-Ok-clause-quick
returns-in-Ok-clause-quick g c told quick named = c.in-Ok.ensures.quick told (quick_cache quick) named

pub returns-in-Err-clause-true_links : goal.returns-in-Err-clause-true_links
returns-in-Err-clause-true_links g c told stands links =
    never_led {T = Unit {0}} (pack (g.D.Tape.tape c.args.disk.now)) [] c.args.file.now.fid c.args.file.now (Err c.in-Err.error) (g.met.D.Disk.formed c.args.disk.now told) stands links (c.in-Err.ensures.misled told stands.from)

pub returns-in-Ok-clause-listed : goal.returns-in-Ok-clause-listed
returns-in-Ok-clause-listed g c = lists_forgotten c.args.hints.now.cache c.seek_last.new.cache c.forget_after.new.cache c.in-Ok.ensures.ends c.forget_after.ensures.refused (c.forget_after.ensures.lower c.in-Ok.last.number (omega arith)) c.in-Ok.ensures.found.lists

pub returns-in-Ok-clause-highest : goal.returns-in-Ok-clause-highest
returns-in-Ok-clause-highest g c told whole low =
    let last = is_last whole told (ends_of c.in-Ok.ensures.ends c.in-Ok.ensures.found) in
    highest_left c.args.hints.now.cache c.forget_after.new.cache last low (returns-in-Ok-clause-listed g c) c.forget_after.ensures.none
