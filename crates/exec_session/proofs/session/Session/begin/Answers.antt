use Rattle.std.proofs.Common.{IfOk, Result, ap, subst, sym, ◌∙◌}
use Rattle.alto_words.specs.Fid.{disk_descriptor}
use Rattle.disk_descriptor.specs.Opening.{HasCleanPage}
use Rattle.disk_descriptor.specs.declared.errors.OpenError.{OpenError}
use Rattle.disk_records.specs.Addresses.{pages_of}
use Rattle.disk_records.specs.Causes.{HasCause}
use Rattle.disk_records.specs.Tapes.{first_pack, pack}
use Rattle.session_model.specs.Keeping.{Formed}
use Rattle.exec_session.specs.Meant.{kept}
use Rattle.exec_session.specs.Opens.{IsFresh, Opens, cause_of_open}
use Rattle.exec_session.specs.declared.session.Session.{Session}
use Rattle.exec_session.proofs.PackOpening.{answer_is}
use Rattle.directory.specs.laws_midway.proofs.loops.Laws.{each_sector_stays}
use Rattle.exec_session.proofs.Sessions.{begun_of, is_begun, is_formed, is_fresh, is_made}
use Rattle.exec_session.proofs.session.Session.begin.Goals as goal

pub returns-clause-opens : goal.returns-clause-opens
returns-clause-opens g c = λ told once.
    let old = g.D.Tape.tape c.args.disk.now in
    let o = c.in_ok-opened.opened in
    let opened = c.in_ok-opened.ensures.opened told once in
    let s = begun_of o.descriptor o.hints c.in-Ok.world c.none.result c.args.moment c.args.limit in
    let made = is_made o.descriptor o.hints c.in-Ok.world c.none.result c.args.moment c.args.limit c.in-Ok.ensures.memory c.in-Ok.ensures.level in
    (opened.0, λ sound. is_begun c.args.moment c.args.limit s made (pack old) (each_sector_stays (first_pack old) old.events (g.met.D.Disk.sized c.args.disk.now told)) sound opened.1)

pub returns-clause-fresh : goal.returns-clause-fresh
returns-clause-fresh g c =
    let o = c.in_ok-opened.opened in
    let s = begun_of o.descriptor o.hints c.in-Ok.world c.none.result c.args.moment c.args.limit in
    is_fresh c.args.moment c.args.limit s (is_made o.descriptor o.hints c.in-Ok.world c.none.result c.args.moment c.args.limit c.in-Ok.ensures.memory c.in-Ok.ensures.level) c.in_ok-opened.ensures.clean

pub returns-clause-formed : goal.returns-clause-formed
returns-clause-formed g c =
    let o = c.in_ok-opened.opened in
    let s = begun_of o.descriptor o.hints c.in-Ok.world c.none.result c.args.moment c.args.limit in
    let form = c.in_ok-opened.ensures.looks.alone.grown.form in
    let formed = c.in_ok-opened.ensures.formed in
    is_formed c.args.moment c.args.limit s (is_made o.descriptor o.hints c.in-Ok.world c.none.result c.args.moment c.args.limit c.in-Ok.ensures.memory c.in-Ok.ensures.level)
    (g.D.Tape.tape c.open_pack.new.disk).form (formed.0 ∙ sym form) (formed.1 ∙ ap pages_of (sym form))

-- ---- the pack isn't opened
pub returns-in_err-opened-clause-opens : goal.returns-in_err-opened-clause-opens
returns-in_err-opened-clause-opens g c = λ told once.
    subst (Opens (pack (g.D.Tape.tape c.args.disk.now)) c.args.moment c.args.limit) (sym (answer_is c.from_residual.result c.from_residual.ensures.1)) (c.in_err-opened.ensures.refused told once)

pub returns-in_err-opened-clause-silent : goal.returns-in_err-opened-clause-silent
returns-in_err-opened-clause-silent g c = c.in_err-opened.ensures.looks.silent

pub returns-in_err-opened-clause-fresh : goal.returns-in_err-opened-clause-fresh
returns-in_err-opened-clause-fresh g c = subst (λ (r : Result Session OpenError). IfOk r (λ s. IsFresh c.args.moment c.args.limit (kept s))) (sym (answer_is c.from_residual.result c.from_residual.ensures.1)) tt

pub returns-in_err-opened-clause-formed : goal.returns-in_err-opened-clause-formed
returns-in_err-opened-clause-formed g c = subst (λ (r : Result Session OpenError). IfOk r (λ s. Formed (g.D.Tape.tape c.open_pack.new.disk).form (kept s))) (sym (answer_is c.from_residual.result c.from_residual.ensures.1)) tt

pub returns-in_err-opened-clause-cause : goal.returns-in_err-opened-clause-cause
returns-in_err-opened-clause-cause g c =
    subst (λ (r : Result Session OpenError). HasCause cause_of_open (g.D.Tape.tape c.args.disk.now) (g.D.Tape.tape c.open_pack.new.disk) r) (sym (answer_is c.from_residual.result c.from_residual.ensures.1)) c.in_err-opened.ensures.cause

pub returns-in_err-opened-clause-alone : goal.returns-in_err-opened-clause-alone
returns-in_err-opened-clause-alone g c = c.in_err-opened.ensures.looks.alone

pub returns-in_err-opened-clause-clean_page : goal.returns-in_err-opened-clause-clean_page
returns-in_err-opened-clause-clean_page g c = λ told. subst (λ (r : Result Session OpenError). IfOk r (λ s. HasCleanPage (pack (g.D.Tape.tape c.args.disk.now)) disk_descriptor)) (sym (answer_is c.from_residual.result c.from_residual.ensures.1)) tt

-- ---- it is
pub returns-clause-clean_page : goal.returns-clause-clean_page
returns-clause-clean_page g c = c.in_ok-opened.ensures.clean_page

pub returns-clause-silent : goal.returns-clause-silent
returns-clause-silent g c = c.in_ok-opened.ensures.looks.silent

pub returns-clause-cause : goal.returns-clause-cause
returns-clause-cause g c = c.in_ok-opened.ensures.cause

pub returns-clause-alone : goal.returns-clause-alone
returns-clause-alone g c = c.in_ok-opened.ensures.looks.alone
