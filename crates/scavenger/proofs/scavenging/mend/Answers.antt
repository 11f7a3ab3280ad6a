use Rattle.std.proofs.Common.{◌∙◌, rules, refl}
use Rattle.disk_records.specs.Tapes.{pack}
use Rattle.disk_records.proofs.Growing.{alone_here, alone_twice}
use Rattle.disk_records.proofs.Framing.{usable_twice}
use Rattle.scavenger.specs.Answers.{error_of_stop, error_of_sweep}
use Rattle.scavenger.proofs.Ending.{ends_early, has_pages, its_pages, last_part, mid_on, mid_open, mid_opens, mid_stop, not_ended, of_stop, of_sweep}
use Rattle.scavenger.proofs.MarkPlaces.{opens_some}
use Rattle.scavenger.proofs.Causing.{cause_of_stopped, cause_of_unswept}
use Rattle.scavenger.proofs.scavenging.mend.Goals as goal

pub returns-in_err-freed-clause-alone : goal.returns-in_err-freed-clause-alone
returns-in_err-freed-clause-alone g c = alone_twice c.in_ok-open_mark.ensures.alone c.in_err-freed.ensures.alone

pub returns-in_err-freed-clause-frame : goal.returns-in_err-freed-clause-frame
returns-in_err-freed-clause-frame g c = usable_twice c.in_ok-open_mark.ensures.alone c.in_err-freed.ensures.alone c.in_ok-open_mark.ensures.frame c.in_err-freed.ensures.frame

pub returns-in_err-adopted-clause-alone : goal.returns-in_err-adopted-clause-alone
returns-in_err-adopted-clause-alone g c = alone_twice (alone_twice c.in_ok-open_mark.ensures.alone c.in_ok-freed.ensures.alone) c.in_err-adopted.ensures.alone

pub returns-in_err-adopted-clause-frame : goal.returns-in_err-adopted-clause-frame
returns-in_err-adopted-clause-frame g c =
    let one = c.in_ok-open_mark.ensures in
    let two = c.in_ok-freed.ensures in
    let pages = usable_twice one.alone two.alone one.frame two.frame in
    usable_twice (alone_twice one.alone two.alone) c.in_err-adopted.ensures.alone pages c.in_err-adopted.ensures.frame

pub returns-in_err-describe-clause-alone : goal.returns-in_err-describe-clause-alone
returns-in_err-describe-clause-alone g c = alone_twice (alone_twice (alone_twice c.in_ok-open_mark.ensures.alone c.in_ok-freed.ensures.alone) c.in_ok-adopted.ensures.alone) c.in_err-describe.ensures.alone

pub returns-in_err-describe-clause-frame : goal.returns-in_err-describe-clause-frame
returns-in_err-describe-clause-frame g c =
    let one = c.in_ok-open_mark.ensures in
    let two = c.in_ok-freed.ensures in
    let pages = usable_twice one.alone two.alone one.frame two.frame in
    let three = c.in_ok-adopted.ensures in
    let before = alone_twice one.alone two.alone in
    let names = usable_twice before three.alone pages three.frame in
    usable_twice (alone_twice before three.alone) c.in_err-describe.ensures.alone names c.in_err-describe.ensures.frame

pub returns-clause-alone : goal.returns-clause-alone
returns-clause-alone g c = alone_twice (alone_twice (alone_twice c.in_ok-open_mark.ensures.alone c.in_ok-freed.ensures.alone) c.in_ok-adopted.ensures.alone) c.in_ok-describe.ensures.alone

pub returns-clause-frame : goal.returns-clause-frame
returns-clause-frame g c =
    let one = c.in_ok-open_mark.ensures in
    let two = c.in_ok-freed.ensures in
    let pages = usable_twice one.alone two.alone one.frame two.frame in
    let three = c.in_ok-adopted.ensures in
    let before = alone_twice one.alone two.alone in
    let names = usable_twice before three.alone pages three.frame in
    usable_twice (alone_twice before three.alone) c.in_ok-describe.ensures.alone names c.in_ok-describe.ensures.frame

pub returns-in_err-freed-clause-mends : goal.returns-in_err-freed-clause-mends
returns-in_err-freed-clause-mends g c = λ told may counted.
    let opens = c.in_ok-open_mark.ensures.opens told counted.mark in
    let one = mid_open c.in_ok-open_mark.ensures.alone.grown opens in
    let mends = (c.in_err-freed.ensures.mends told (one.keeps.scavengeable may)).mends in
    ends_early c.args.counts.now c.args.bad (error_of_stop c.in_err-freed.field-0.0) c.from_residual-in_err-freed.result (search rules) (of_stop c.in_err-freed.field-0.0) (mid_opens one c.in_err-freed.ensures.alone.grown) (not_ended (mid_stop one c.in_err-freed.ensures.alone.grown mends.kept (mends.unclean one.unmarked)))

pub returns-in_err-adopted-clause-mends : goal.returns-in_err-adopted-clause-mends
returns-in_err-adopted-clause-mends g c = λ told may counted.
    let opens = c.in_ok-open_mark.ensures.opens told counted.mark in
    let one = mid_open c.in_ok-open_mark.ensures.alone.grown opens in
    let pages = (c.in_ok-freed.ensures.mends told (one.keeps.scavengeable may)).mends in
    let two = mid_on one c.in_ok-freed.ensures.alone.grown pages.kept (pages.unclean one.unmarked) (pages.unmarked one.unmarked) in
    let mends = c.in_err-adopted.ensures.mends told (two.keeps.scavengeable may) pages.mended.mended in
    ends_early c.args.counts.now c.args.bad (error_of_sweep c.in_err-adopted.field-0.0) c.from_residual-in_err-adopted.result (search rules) (of_sweep c.in_err-adopted.field-0.0) (mid_opens two c.in_err-adopted.ensures.alone.grown) (not_ended (mid_stop two c.in_err-adopted.ensures.alone.grown mends.kept (mends.unclean two.unmarked)))

pub returns-in_err-describe-clause-mends : goal.returns-in_err-describe-clause-mends
returns-in_err-describe-clause-mends g c = λ told may counted.
    let opens = c.in_ok-open_mark.ensures.opens told counted.mark in
    let one = mid_open c.in_ok-open_mark.ensures.alone.grown opens in
    let pages = (c.in_ok-freed.ensures.mends told (one.keeps.scavengeable may)).mends in
    let two = mid_on one c.in_ok-freed.ensures.alone.grown pages.kept (pages.unclean one.unmarked) (pages.unmarked one.unmarked) in
    let names = c.in_ok-adopted.ensures.mends told (two.keeps.scavengeable may) pages.mended.mended in
    let three = mid_on two c.in_ok-adopted.ensures.alone.grown names.kept (names.unclean two.unmarked) (names.unmarked two.unmarked) in
    let named = names.mended.mended in
    let closes = c.in_err-describe.ensures.closes told (its_pages (pack (g.D.Tape.tape c.mend_names.new.disk))) (has_pages (pack (g.D.Tape.tape c.mend_names.new.disk)) named) in
    let all = last_part c.args.counts.now.last three c.in_err-describe.ensures.alone.grown named (g.met.D.Disk.formed c.mend_names.new.disk told) counted.last closes.some in
    ends_early c.args.counts.now c.args.bad (error_of_stop c.in_err-describe.field-0.0) c.from_residual-in_err-describe.result (search rules) (of_stop c.in_err-describe.field-0.0) (mid_opens three c.in_err-describe.ensures.alone.grown) all.0

pub returns-clause-mends : goal.returns-clause-mends
returns-clause-mends g c = λ told may counted.
    let opens = c.in_ok-open_mark.ensures.opens told counted.mark in
    let one = mid_open c.in_ok-open_mark.ensures.alone.grown opens in
    let pages = (c.in_ok-freed.ensures.mends told (one.keeps.scavengeable may)).mends in
    let two = mid_on one c.in_ok-freed.ensures.alone.grown pages.kept (pages.unclean one.unmarked) (pages.unmarked one.unmarked) in
    let names = c.in_ok-adopted.ensures.mends told (two.keeps.scavengeable may) pages.mended.mended in
    let three = mid_on two c.in_ok-adopted.ensures.alone.grown names.kept (names.unclean two.unmarked) (names.unmarked two.unmarked) in
    let named = names.mended.mended in
    let closes = c.in_ok-describe.ensures.closes told (its_pages (pack (g.D.Tape.tape c.mend_names.new.disk))) (has_pages (pack (g.D.Tape.tape c.mend_names.new.disk)) named) in
    let all = last_part c.args.counts.now.last three c.in_ok-describe.ensures.alone.grown named (g.met.D.Disk.formed c.mend_names.new.disk told) counted.last closes.some in
    let freed = pages.mended.freed_is ∙ opens.opened.freed in
    let adopted = names.mended.adopted_is ∙ pages.mended.adopted ∙ opens.opened.adopted in
    record {
      opens = mid_opens three c.in_ok-describe.ensures.alone.grown;
      writes = all.0;
      done = all.1 closes.ok;
      unrefused = tt;
      report = λ i. record { files = c.args.counts.now.files; freed = freed i; bad = c.from.ensures i; adopted = adopted i };
    }

pub returns-in_err-open_mark-clause-mends : goal.returns-in_err-open_mark-clause-mends
returns-in_err-open_mark-clause-mends g c = λ told may counted. ends_early c.args.counts.now c.args.bad (error_of_stop c.in_err-open_mark.field-0.0) c.from_residual.result (search rules) (of_stop c.in_err-open_mark.field-0.0) (opens_some _ _ (c.in_err-open_mark.ensures.opens told counted.mark).some) (not_ended (c.in_err-open_mark.ensures.opens told counted.mark).mends)

-- no fault came in any part
pub returns-clause-cause : goal.returns-clause-cause
returns-clause-cause g c = c.in_ok-describe.ensures.cause ∙ c.in_ok-adopted.ensures.cause ∙ c.in_ok-freed.ensures.cause ∙ c.in_ok-open_mark.ensures.cause

-- ---- an error that a part answered
pub returns-in_err-open_mark-clause-cause : goal.returns-in_err-open_mark-clause-cause
returns-in_err-open_mark-clause-cause g c = cause_of_stopped c.in_err-open_mark.field-0.0 c.from_residual.result (alone_here _) refl c.in_err-open_mark.ensures.alone c.in_err-open_mark.ensures.cause c.from_residual.ensures.1

pub returns-in_err-freed-clause-cause : goal.returns-in_err-freed-clause-cause
returns-in_err-freed-clause-cause g c = cause_of_stopped c.in_err-freed.field-0.0 c.from_residual-in_err-freed.result c.in_ok-open_mark.ensures.alone c.in_ok-open_mark.ensures.cause c.in_err-freed.ensures.alone c.in_err-freed.ensures.cause c.from_residual-in_err-freed.ensures.1

pub returns-in_err-adopted-clause-cause : goal.returns-in_err-adopted-clause-cause
returns-in_err-adopted-clause-cause g c = cause_of_unswept c.in_err-adopted.field-0.0 c.from_residual-in_err-adopted.result (alone_twice c.in_ok-open_mark.ensures.alone c.in_ok-freed.ensures.alone) (c.in_ok-freed.ensures.cause ∙ c.in_ok-open_mark.ensures.cause) c.in_err-adopted.ensures.alone c.in_err-adopted.ensures.cause c.from_residual-in_err-adopted.ensures.1

pub returns-in_err-describe-clause-cause : goal.returns-in_err-describe-clause-cause
returns-in_err-describe-clause-cause g c = cause_of_stopped c.in_err-describe.field-0.0 c.from_residual-in_err-describe.result (alone_twice (alone_twice c.in_ok-open_mark.ensures.alone c.in_ok-freed.ensures.alone) c.in_ok-adopted.ensures.alone) (c.in_ok-adopted.ensures.cause ∙ c.in_ok-freed.ensures.cause ∙ c.in_ok-open_mark.ensures.cause) c.in_err-describe.ensures.alone c.in_err-describe.ensures.cause c.from_residual-in_err-describe.ensures.1

pub returns-in_err-open_mark-clause-alone : goal.returns-in_err-open_mark-clause-alone
returns-in_err-open_mark-clause-alone g c = c.in_err-open_mark.ensures.alone

pub returns-in_err-open_mark-clause-frame : goal.returns-in_err-open_mark-clause-frame
returns-in_err-open_mark-clause-frame g c = c.in_err-open_mark.ensures.frame
