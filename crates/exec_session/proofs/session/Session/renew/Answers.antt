use Rattle.std.proofs.Common.{OnErr, OnOk, Result, ap, refl, subst, sym, ◌≡◌, ◌∙◌}
use Rattle.alto_words.specs.Fid.{disk_descriptor}
use Rattle.disk_descriptor.specs.Opening.{HasCleanPage}
use Rattle.disk_descriptor.specs.declared.errors.OpenError.{OpenError}
use Rattle.disk_records.proofs.Growing.{alone_here, nothing_added}
use Rattle.disk_records.specs.Addresses.{pages_of}
use Rattle.disk_records.specs.Causes.{HasCause}
use Rattle.disk_records.specs.Tapes.{first_pack, pack}
use Rattle.hint_cache.specs.Caches.{Cached}
use Rattle.directory.specs.laws_midway.proofs.loops.Laws.{each_sector_stays}
use Rattle.page_seeking.proofs.Once.{once_of_whole}
use Rattle.exec_session.specs.Meant.{kept}
use Rattle.page_seeking.specs.Seeking.{all_listed}
use Rattle.session_model.specs.Keeping.{Formed}
use Rattle.exec_session.specs.Opens.{GoesOn, OpensAgain, Renews, cause_of_open}
use Rattle.exec_session.proofs.PackOpening.{answer_is}
use Rattle.exec_session.proofs.Sessions.{is_renewed, renewed_of, renews_not}
use Rattle.exec_session.proofs.session.Session.renew.Goals as goal

pub returns-in_err-opened-clause-opens : goal.returns-in_err-opened-clause-opens
returns-in_err-opened-clause-opens g c = λ told once.
    subst (OpensAgain (pack (g.D.Tape.tape c.args.disk.now))) (sym (answer_is c.from_residual.result c.from_residual.ensures.1)) (c.in_err-opened.ensures.refused told once)

pub returns-in_err-opened-clause-renews : goal.returns-in_err-opened-clause-renews
returns-in_err-opened-clause-renews g c = λ told mended.
    let p = pack (g.D.Tape.tape c.args.disk.now) in
    let refused = c.in_err-opened.ensures.refused told (once_of_whole p mended.sound.whole) in
    subst (Renews p (kept c.args.self.now) (kept c.args.self.now)) (sym (answer_is c.from_residual.result c.from_residual.ensures.1)) (renews_not p mended (g.met.D.Disk.formed c.args.disk.now told) c.in_err-opened.field-0.0 refused)

pub returns-clause-opens : goal.returns-clause-opens
returns-clause-opens g c = λ told once. (c.in_ok-opened.ensures.opened told once).0

pub returns-clause-renews : goal.returns-clause-renews
returns-clause-renews g c = λ told mended.
    let old = g.D.Tape.tape c.args.disk.now in
    let p = pack old in
    let one = c.args.self.now in
    let o = c.in_ok-opened.opened in
    let opened = c.in_ok-opened.ensures.opened told (once_of_whole p mended.sound.whole) in
    is_renewed one (renewed_of one o.descriptor c.in-Ok.cache o.hints.table) (ap (λ (k : Cached). renewed_of one o.descriptor k o.hints.table) c.in-Ok.ensures) p mended
    (each_sector_stays (first_pack old) old.events (g.met.D.Disk.sized c.args.disk.now told)) opened.1

-- ---- no memory is left for the addresses
pub returns-in-Err-clause-silent : goal.returns-in-Err-clause-silent
returns-in-Err-clause-silent g c = λ told. nothing_added (g.D.Tape.tape c.args.disk.now).events

pub returns-in-Err-clause-formed : goal.returns-in-Err-clause-formed
returns-in-Err-clause-formed g c = c.requires.formed

pub returns-in-Err-clause-alone : goal.returns-in-Err-clause-alone
returns-in-Err-clause-alone g c = alone_here (g.D.Tape.tape c.args.disk.now)

pub returns-in-Err-clause-clean_page : goal.returns-in-Err-clause-clean_page
returns-in-Err-clause-clean_page g c = λ told. tt

-- ---- the pack isn't opened
pub returns-in_err-opened-clause-clean_page : goal.returns-in_err-opened-clause-clean_page
returns-in_err-opened-clause-clean_page g c = λ told. subst (λ (r : Result (Unit {0}) OpenError). OnOk r (HasCleanPage (pack (g.D.Tape.tape c.args.disk.now)) disk_descriptor)) (sym (answer_is c.from_residual.result c.from_residual.ensures.1)) tt

pub returns-in_err-opened-clause-silent : goal.returns-in_err-opened-clause-silent
returns-in_err-opened-clause-silent g c = c.in_err-opened.ensures.looks.silent

pub returns-in_err-opened-clause-goes_on : goal.returns-in_err-opened-clause-goes_on
returns-in_err-opened-clause-goes_on g c = subst (λ (r : Result (Unit {0}) OpenError). OnOk r (GoesOn (kept c.args.self.now) (kept c.args.self.now))) (sym (answer_is c.from_residual.result c.from_residual.ensures.1)) tt

pub returns-in_err-opened-clause-left : goal.returns-in_err-opened-clause-left
returns-in_err-opened-clause-left g c = subst (λ (r : Result (Unit {0}) OpenError). OnErr r (c.args.self.now ≡ c.args.self.now)) (sym (answer_is c.from_residual.result c.from_residual.ensures.1)) refl

pub returns-in_err-opened-clause-formed : goal.returns-in_err-opened-clause-formed
returns-in_err-opened-clause-formed g c = subst (λ f. Formed f (kept c.args.self.now)) (sym c.in_err-opened.ensures.looks.alone.grown.form) c.requires.formed

pub returns-in_err-opened-clause-cause : goal.returns-in_err-opened-clause-cause
returns-in_err-opened-clause-cause g c =
    subst (λ (r : Result (Unit {0}) OpenError). HasCause cause_of_open (g.D.Tape.tape c.args.disk.now) (g.D.Tape.tape c.open_pack.new.disk) r) (sym (answer_is c.from_residual.result c.from_residual.ensures.1)) c.in_err-opened.ensures.cause

pub returns-in_err-opened-clause-alone : goal.returns-in_err-opened-clause-alone
returns-in_err-opened-clause-alone g c = c.in_err-opened.ensures.looks.alone

-- ---- it is
pub returns-clause-clean_page : goal.returns-clause-clean_page
returns-clause-clean_page g c = c.in_ok-opened.ensures.clean_page

pub returns-clause-silent : goal.returns-clause-silent
returns-clause-silent g c = c.in_ok-opened.ensures.looks.silent

pub returns-clause-goes_on : goal.returns-clause-goes_on
returns-clause-goes_on g c = record { world = refl; streams = refl; tally = refl; cache = ap all_listed c.in-Ok.ensures }

pub returns-clause-left : goal.returns-clause-left
returns-clause-left g c = tt

pub returns-clause-formed : goal.returns-clause-formed
returns-clause-formed g c =
    let form = c.in_ok-opened.ensures.looks.alone.grown.form in
    let formed = c.in_ok-opened.ensures.formed in
    let was = c.requires.formed in
    record { shape = form ∙ sym formed.0; bits = formed.1 ∙ ap pages_of (sym form); memory = was.memory; streams = was.streams; apart = was.apart }

pub returns-clause-cause : goal.returns-clause-cause
returns-clause-cause g c = c.in_ok-opened.ensures.cause

pub returns-clause-alone : goal.returns-clause-alone
returns-clause-alone g c = c.in_ok-opened.ensures.looks.alone
