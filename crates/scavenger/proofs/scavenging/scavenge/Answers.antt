use Rattle.std.proofs.Common.{◌≡◌, None, IfSome, ap, sym, subst, ◌∙◌, refl}
use Rattle.disk_records.specs.Packs.{Pack}
use Rattle.disk_records.specs.Tapes.{pack}
use Rattle.disk_records.proofs.Looking.{looks_pack}
use Rattle.disk_records.proofs.Growing.{alone_here, alone_twice, pack-silent, silent_twice}
use Rattle.disk_records.proofs.Framing.{usable_looks, usable_twice, writes_silent}
use Rattle.pack_model.specs.reading.Sights.{sights}
use Rattle.pack_model.specs.scavenger.Scavenging.{first_refusal}
use Rattle.pack_model.specs.states.InUse.{bad_sectors}
use Rattle.scavenger.specs.Answers.{IsRefusal, error_of_stop, error_of_sweep, refused}
use Rattle.scavenger.specs.Counting.{Counted}
use Rattle.scavenger.proofs.Ending.{of_stop, of_sweep}
use Rattle.scavenger.proofs.Safety.{refusal_cause, refused_answers, scavenges_after, scavenges_none, stops_none}
use Rattle.scavenger.proofs.Causing.{cause_of_stopped, cause_of_unswept, cause_sooner}
use Rattle.scavenger.proofs.scavenging.scavenge.Goals as goal

pub returns-in_err-counts-clause-alone : goal.returns-in_err-counts-clause-alone
returns-in_err-counts-clause-alone g c = alone_twice c.in_ok-table.ensures.looks.alone c.in_err-counts.ensures.alone

pub returns-in_err-counts-clause-frame : goal.returns-in_err-counts-clause-frame
returns-in_err-counts-clause-frame g c = usable_twice c.in_ok-table.ensures.looks.alone c.in_err-counts.ensures.alone (usable_looks c.in_ok-table.ensures.looks) (λ told. writes_silent _ _ (c.in_err-counts.ensures.silent told))

pub returns-in_err-refusal-clause-alone : goal.returns-in_err-refusal-clause-alone
returns-in_err-refusal-clause-alone g c = alone_twice (alone_twice c.in_ok-table.ensures.looks.alone c.in_ok-counts.ensures.alone) c.in_err-refusal.ensures.alone

pub returns-in_err-refusal-clause-frame : goal.returns-in_err-refusal-clause-frame
returns-in_err-refusal-clause-frame g c =
    let one = c.in_ok-table.ensures.looks in
    let two = c.in_ok-counts.ensures in
    let quiet = usable_twice one.alone two.alone (usable_looks one) (λ told. writes_silent _ _ (two.silent told)) in
    usable_twice (alone_twice one.alone two.alone) c.in_err-refusal.ensures.alone quiet (λ told. writes_silent _ _ (c.in_err-refusal.ensures.silent told))

pub returns-in-Some-clause-alone : goal.returns-in-Some-clause-alone
returns-in-Some-clause-alone g c = alone_twice (alone_twice c.in_ok-table.ensures.looks.alone c.in_ok-counts.ensures.alone) c.in_ok-refusal.ensures.alone

pub returns-in-Some-clause-frame : goal.returns-in-Some-clause-frame
returns-in-Some-clause-frame g c =
    let one = c.in_ok-table.ensures.looks in
    let two = c.in_ok-counts.ensures in
    let quiet = usable_twice one.alone two.alone (usable_looks one) (λ told. writes_silent _ _ (two.silent told)) in
    let three = c.in_ok-refusal.ensures in
    let before = alone_twice one.alone two.alone in
    usable_twice before three.alone quiet (λ told. writes_silent _ _ (three.silent told))

pub returns-clause-cause : goal.returns-clause-cause
returns-clause-cause g c =
    cause_sooner (g.D.Tape.tape c.args.disk.now) (g.D.Tape.tape c.refuse.new.disk) (g.D.Tape.tape c.mend.new.disk) c.mend.result (c.in_ok-refusal.ensures.cause ∙ c.in_ok-counts.ensures.cause ∙ c.in_ok-table.ensures.cause) c.mend.ensures.cause

pub returns-clause-alone : goal.returns-clause-alone
returns-clause-alone g c = alone_twice (alone_twice (alone_twice c.in_ok-table.ensures.looks.alone c.in_ok-counts.ensures.alone) c.in_ok-refusal.ensures.alone) c.mend.ensures.alone

pub returns-clause-frame : goal.returns-clause-frame
returns-clause-frame g c =
    let one = c.in_ok-table.ensures.looks in
    let two = c.in_ok-counts.ensures in
    let quiet = usable_twice one.alone two.alone (usable_looks one) (λ told. writes_silent _ _ (two.silent told)) in
    let three = c.in_ok-refusal.ensures in
    let before = alone_twice one.alone two.alone in
    let all = usable_twice before three.alone quiet (λ told. writes_silent _ _ (three.silent told)) in
    usable_twice (alone_twice before three.alone) c.mend.ensures.alone all c.mend.ensures.frame

pub returns-in-Some-clause-cause : goal.returns-in-Some-clause-cause
returns-in-Some-clause-cause g c = refusal_cause (g.D.Tape.tape c.args.disk.now) (g.D.Tape.tape c.refuse.new.disk) c.in-Some.refusal (c.in_ok-refusal.ensures.cause ∙ c.in_ok-counts.ensures.cause ∙ c.in_ok-table.ensures.cause) (subst (λ o. IfSome o IsRefusal) c.in-Some.is c.in_ok-refusal.ensures.refusal)

pub returns-in-Some-clause-scavenges : goal.returns-in-Some-clause-scavenges
returns-in-Some-clause-scavenges g c = λ told.
    let before = alone_twice c.in_ok-table.ensures.looks.alone c.in_ok-counts.ensures.alone in
    let quiet = silent_twice c.in_ok-table.ensures.looks.alone.grown c.in_ok-counts.ensures.alone.grown (c.in_ok-table.ensures.looks.silent told) (c.in_ok-counts.ensures.silent told) in
    let all = silent_twice before.grown c.in_ok-refusal.ensures.alone.grown quiet (c.in_ok-refusal.ensures.silent told) in
    let here = pack-silent before.grown quiet in
    let counted = subst (λ (q : Pack). Counted q c.in_ok-counts.counts) (looks_pack c.in_ok-table.ensures.looks told ∙ sym here) (c.in_ok-counts.ensures.counted told) in
    let bad : c.bad-bad.result ≡ bad_sectors (sights (pack (g.D.Tape.tape c.count_pages.new.disk))) = c.bad-bad.ensures ∙ c.in_ok-table.ensures.window.wrong told ∙ ap (λ (q : Pack). bad_sectors (sights q)) (sym here) in
    let refuses = c.in_ok-refusal.ensures.refuses told counted bad in
    let is = sym (ap refused c.in-Some.is) ∙ refuses ∙ ap first_refusal here in
    scavenges_none c.in-Some.refusal all (refused_answers (pack (g.D.Tape.tape c.args.disk.now)) c.in-Some.refusal is)

pub returns-clause-scavenges : goal.returns-clause-scavenges
returns-clause-scavenges g c = λ told.
    let before = alone_twice c.in_ok-table.ensures.looks.alone c.in_ok-counts.ensures.alone in
    let quiet = silent_twice c.in_ok-table.ensures.looks.alone.grown c.in_ok-counts.ensures.alone.grown (c.in_ok-table.ensures.looks.silent told) (c.in_ok-counts.ensures.silent told) in
    let both = alone_twice before c.in_ok-refusal.ensures.alone in
    let all = silent_twice before.grown c.in_ok-refusal.ensures.alone.grown quiet (c.in_ok-refusal.ensures.silent told) in
    let here = pack-silent before.grown quiet in
    let first = subst (λ (q : Pack). Counted q c.in_ok-counts.counts) (looks_pack c.in_ok-table.ensures.looks told) (c.in_ok-counts.ensures.counted told) in
    let counted = subst (λ (q : Pack). Counted q c.in_ok-counts.counts) (sym here) first in
    let at_first : c.bad-bad.result ≡ bad_sectors (sights (pack (g.D.Tape.tape c.args.disk.now))) = c.bad-bad.ensures ∙ c.in_ok-table.ensures.window.wrong told in
    let bad : c.bad-bad.result ≡ bad_sectors (sights (pack (g.D.Tape.tape c.count_pages.new.disk))) = at_first ∙ ap (λ (q : Pack). bad_sectors (sights q)) (sym here) in
    let refuses = c.in_ok-refusal.ensures.refuses told counted bad in
    let none : first_refusal (pack (g.D.Tape.tape c.args.disk.now)) ≡ None = sym (sym (ap refused c.in_default.is) ∙ refuses ∙ ap first_refusal here) in
    scavenges_after c.in_ok-counts.counts c.bad-bad.result c.mend.result both.grown c.mend.ensures.alone.grown all none first at_first (λ may now. c.mend.ensures.mends told may now)

-- ---- it ends before its first record write
pub returns-in_err-table-clause-cause : goal.returns-in_err-table-clause-cause
returns-in_err-table-clause-cause g c = cause_of_unswept c.in_err-table.field-0.0 c.from_residual.result (alone_here _) refl c.in_err-table.ensures.looks.alone c.in_err-table.ensures.cause c.from_residual.ensures.1

pub returns-in_err-table-clause-scavenges : goal.returns-in_err-table-clause-scavenges
returns-in_err-table-clause-scavenges g c = λ told. stops_none (error_of_sweep c.in_err-table.field-0.0) c.from_residual.result c.from_residual.ensures.1 (c.in_err-table.ensures.looks.silent told) (of_sweep c.in_err-table.field-0.0)

pub returns-in_err-counts-clause-cause : goal.returns-in_err-counts-clause-cause
returns-in_err-counts-clause-cause g c = cause_of_stopped c.in_err-counts.field-0.0 c.from_residual-in_err-counts.result c.in_ok-table.ensures.looks.alone c.in_ok-table.ensures.cause c.in_err-counts.ensures.alone c.in_err-counts.ensures.cause c.from_residual-in_err-counts.ensures.1

pub returns-in_err-counts-clause-scavenges : goal.returns-in_err-counts-clause-scavenges
returns-in_err-counts-clause-scavenges g c = λ told.
    let quiet = silent_twice c.in_ok-table.ensures.looks.alone.grown c.in_err-counts.ensures.alone.grown (c.in_ok-table.ensures.looks.silent told) (c.in_err-counts.ensures.silent told) in
    stops_none (error_of_stop c.in_err-counts.field-0.0) c.from_residual-in_err-counts.result c.from_residual-in_err-counts.ensures.1 quiet (of_stop c.in_err-counts.field-0.0)

pub returns-in_err-refusal-clause-cause : goal.returns-in_err-refusal-clause-cause
returns-in_err-refusal-clause-cause g c = cause_of_stopped c.in_err-refusal.field-0.0 c.from_residual-in_err-refusal.result (alone_twice c.in_ok-table.ensures.looks.alone c.in_ok-counts.ensures.alone) (c.in_ok-counts.ensures.cause ∙ c.in_ok-table.ensures.cause) c.in_err-refusal.ensures.alone c.in_err-refusal.ensures.cause c.from_residual-in_err-refusal.ensures.1

pub returns-in_err-refusal-clause-scavenges : goal.returns-in_err-refusal-clause-scavenges
returns-in_err-refusal-clause-scavenges g c = λ told.
    let before = alone_twice c.in_ok-table.ensures.looks.alone c.in_ok-counts.ensures.alone in
    let quiet = silent_twice c.in_ok-table.ensures.looks.alone.grown c.in_ok-counts.ensures.alone.grown (c.in_ok-table.ensures.looks.silent told) (c.in_ok-counts.ensures.silent told) in
    let all = silent_twice before.grown c.in_err-refusal.ensures.alone.grown quiet (c.in_err-refusal.ensures.silent told) in
    stops_none (error_of_stop c.in_err-refusal.field-0.0) c.from_residual-in_err-refusal.result c.from_residual-in_err-refusal.ensures.1 all (of_stop c.in_err-refusal.field-0.0)

pub returns-in_err-table-clause-alone : goal.returns-in_err-table-clause-alone
returns-in_err-table-clause-alone g c = c.in_err-table.ensures.looks.alone

pub returns-in_err-table-clause-frame : goal.returns-in_err-table-clause-frame
returns-in_err-table-clause-frame g c = usable_looks c.in_err-table.ensures.looks
