use Rattle.std.proofs.Common.{◌≡◌, ◌≢◌, Some, sym, ◌∙◌, rules, refl}
use Rattle.alto_words.specs.Fid.{disk_descriptor}
use Rattle.disk_records.specs.Packs.{carried}
use Rattle.disk_records.specs.Tapes.{pack}
use Rattle.disk_records.proofs.Growing.{alone_here}
use Rattle.disk_records.proofs.Looking.{looks_none}
use Rattle.scav_pages.proofs.Causing.{cause_of_guarded}
use Rattle.scavenger.proofs.MarkPlaces.{mark_carried, no_mark_sector}
use Rattle.scavenger.proofs.system.first_words.Goals as goal

pub returns-then-at-eq0-clause-words : goal.returns-then-at-eq0-clause-words
returns-then-at-eq0-clause-words g c = λ told is at here. absurd (no_mark_sector (pack (g.D.Tape.tape c.args.disk.now)) at (sym is ∙ c.if-at-eq0.true) here)

pub returns-in_err-read_page-clause-found : goal.returns-in_err-read_page-clause-found
returns-in_err-read_page-clause-found g c = λ told is.
    let some : c.args.at ≢ 0 = search rules in
    let guard : carried (pack (g.D.Tape.tape c.args.disk.now)) c.args.at ≡ Some (record { fid = disk_descriptor; number = 1 }) = mark_carried (pack (g.D.Tape.tape c.args.disk.now)) c.args.at is some in
    search rules

pub returns-in_err-read_page-clause-cause : goal.returns-in_err-read_page-clause-cause
returns-in_err-read_page-clause-cause g c = cause_of_guarded c.in_err-read_page.field-0.0 c.from_residual.result (alone_here _) refl c.in_err-read_page.ensures.looks.alone c.in_err-read_page.ensures.cause c.from_residual.ensures.1

pub returns-then-at-eq0-clause-want : goal.returns-then-at-eq0-clause-want
returns-then-at-eq0-clause-want g c = λ told memory. cc

pub returns-then-at-eq0-clause-found : goal.returns-then-at-eq0-clause-found
returns-then-at-eq0-clause-found g c = λ told is astray. cc

pub returns-then-at-eq0-clause-cause : goal.returns-then-at-eq0-clause-cause
returns-then-at-eq0-clause-cause g c = refl

pub returns-then-at-eq0-clause-looks : goal.returns-then-at-eq0-clause-looks
returns-then-at-eq0-clause-looks g c = looks_none 1 (g.D.Tape.tape c.args.disk.now)

pub returns-in_err-read_page-clause-looks : goal.returns-in_err-read_page-clause-looks
returns-in_err-read_page-clause-looks g c = c.in_err-read_page.ensures.looks

pub returns-clause-want : goal.returns-clause-want
returns-clause-want g c = λ told memory. cc

pub returns-clause-found : goal.returns-clause-found
returns-clause-found g c = λ told is astray. cc

pub returns-clause-cause : goal.returns-clause-cause
returns-clause-cause g c = c.in_ok-read_page.ensures.cause

pub returns-clause-looks : goal.returns-clause-looks
returns-clause-looks g c = c.in_ok-read_page.ensures.looks
