use Rattle.std.proofs.Common.{List, ap, refl, subst, sym, ◌∙◌, ◌≡◌}
use Rattle.disk_records.proofs.FirstOnes.{first_all, none_of_none}
use Rattle.disk_records.specs.Events.{IsFirstOf}
use Rattle.disk_records.specs.Tapes.{added, pack}
use Rattle.disk_records.specs.declared.records.Event.{Event}
use Rattle.disk_descriptor.specs.Fields.{FitsDisk}
use Rattle.exec_session.specs.laws_call.proofs.counts.Laws.{count_of_a_call}
use Rattle.exec_session.specs.laws_hint.specs.LineLinks.{opening_writes}
use Rattle.exec_session.specs.Meant.{kept}
use Rattle.exec_steps.proofs.MarkOpening.{found_opened, midway_opened, none_when_open, same_place}
use Rattle.exec_session.proofs.Causing.{cause_by_desc, cause_passed}
use Rattle.exec_session.specs.Stops.{stop_of_desc}
use Rattle.disk_records.specs.Causes.{never}
use Rattle.disk_descriptor.proofs.Framing.{usable_own}
use Rattle.exec_steps.proofs.marking.open_mark.Goals as goal

pub returns-in_err-mark_open-clause-unwritten : goal.returns-in_err-mark_open-clause-unwritten
returns-in_err-mark_open-clause-unwritten g c = λ told fits is.
    let opens = c.in_err-mark_open.ensures.opens told fits in
    none_of_none _ (subst (λ (ws : List Event). IsFirstOf ws (added (g.D.Tape.tape c.args.disk.now) (g.D.Tape.tape c.mark_open.new.disk))) (none_when_open (pack (g.D.Tape.tape c.args.disk.now)) opens.at (fits.mark_is ∙ is)) opens.writes.some)

pub returns-clause-starts : goal.returns-clause-starts
returns-clause-starts g c = λ one at reserved told may.
    let a = g.D.Tape.tape c.args.disk.now in
    let b = g.D.Tape.tape c.mark_open.new.disk in
    let two = record c.args.session.now { descriptor = c.mark_open.new.self } in
    let h = c.in_ok-mark_open.ensures in
    let opens = h.opens told may.fits in
    let all : added a b ≡ opening_writes (pack a) at = opens.writes.ok ∙ ap (opening_writes (pack a)) (same_place opens.at at (sym opens.placed ∙ may.placed)) in
    let disk : FitsDisk (pack a) c.args.session.now.descriptor = record { whole = may.sound.whole; tidy = may.sound.tidy; fits = may.fits } in
    let there = h.fits told disk in
    let first = g.met.D.Disk.counted c.args.disk.now told in
    record {
      some = subst (λ (l : List Event). IsFirstOf (opening_writes (pack a) at) l) (sym all) (first_all (opening_writes (pack a) at));
      midway = λ o ops. midway_opened a b one (kept c.args.session.now) (kept two) at reserved may h.alone.grown all (count_of_a_call a b h.alone.grown first (g.met.D.Disk.counted c.mark_open.new.disk told)) first
          (h.reads told disk).reads there.whole there.tidy refl refl o ops there.fits;
      found = found_opened a b one (kept c.args.session.now) (kept two) at reserved may h.alone.grown all;
      tally = may.tally;
      failing = tt;
    }

pub returns-in_err-mark_open-clause-cause : goal.returns-in_err-mark_open-clause-cause
returns-in_err-mark_open-clause-cause g c = cause_passed (g.D.Tape.tape c.args.disk.now) (g.D.Tape.tape c.mark_open.new.disk) (stop_of_desc c.in_err-mark_open.field-0.0) c.from_residual.result c.from_residual.ensures.1 (cause_by_desc never tt (g.D.Tape.tape c.args.disk.now) (g.D.Tape.tape c.mark_open.new.disk) c.in_err-mark_open.field-0.0 c.in_err-mark_open.ensures.cause)

pub returns-in_err-mark_open-clause-alone : goal.returns-in_err-mark_open-clause-alone
returns-in_err-mark_open-clause-alone g c = c.in_err-mark_open.ensures.alone

pub returns-in_err-mark_open-clause-frame : goal.returns-in_err-mark_open-clause-frame
returns-in_err-mark_open-clause-frame g c = usable_own c.in_err-mark_open.ensures.guarded

pub returns-clause-alone : goal.returns-clause-alone
returns-clause-alone g c = c.in_ok-mark_open.ensures.alone

pub returns-clause-frame : goal.returns-clause-frame
returns-clause-frame g c = usable_own c.in_ok-mark_open.ensures.guarded
