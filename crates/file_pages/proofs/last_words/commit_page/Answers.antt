use Rattle.std.proofs.Common.{Err, List, Ok, [], ap, arith, subst, ℕ, ◌∙◌, ◌≡◌, refl}
use Rattle.disk_records.proofs.Growing.{alone_twice}
use Rattle.disk_records.specs.Commands.{relabel_writes}
use Rattle.disk_records.specs.declared.records.Place.TheVariants.{Held}
use Rattle.label_check.specs.Guarded.{Carries, Guarded}
use Rattle.file_pages.specs.Counting.{counted_after}
use Rattle.file_pages.proofs.Erring.{never_misled, wrong_at}
use Rattle.file_pages.proofs.LastWrites.{carried_still, label_done, label_not_done, value_not_done, value_stands}
use Rattle.file_pages.specs.Calls.{WasHeld}
use Rattle.disk_records.specs.Packs.{sector_at}
use Rattle.disk_records.specs.Tapes.{pack}
use Rattle.label_check.proofs.Framing.{guarded_writes, relabel_here, value_here}
use Rattle.file_pages.proofs.Framed.{writes_join}
use Rattle.file_pages.proofs.last_words.commit_page.Goals as goal

pub returns-in-Err-clause-commits : goal.returns-in-Err-clause-commits
returns-in-Err-clause-commits g c told carries =
    let a = g.D.Tape.tape c.args.disk.now in
    let b = g.D.Tape.tape c.write_value.new.disk in
    value_not_done a b c.args.at c.args.page c.args.label c.args.value.now c.write_value.ensures.alone c.args.tally.now c.in-Err.error (Held c.args.at) c.args.at _ c.error_at.result c.error_at.ensures (c.in-Err.ensures.guarded told)

pub returns-in-Ok-labelled-clause-commits : goal.returns-in-Ok-labelled-clause-commits
returns-in-Ok-labelled-clause-commits g c told carries =
    let a = g.D.Tape.tape c.args.disk.now in
    let b = g.D.Tape.tape c.write_value.new.disk in
    let d = g.D.Tape.tape c.relabel-labelled.new.disk in
    let t = c.args.tally.now in
    let done = (c.in-Ok.ensures.guarded told).ok in
    let one = c.write_value.ensures.alone in
    let two = c.relabel-labelled.ensures.alone in
    let stands = value_stands a b c.args.at c.args.page c.args.label c.args.value.now one carries done in
    let guarded = subst (λ (v : List ℕ). Guarded {T = Unit {0}} (Carries c.args.at c.args.page) c.args.at [] (relabel_writes c.args.at c.args.label v) 2 b d (Ok tt)) stands (rw c.in-Ok-labelled.is at (c.relabel-labelled.ensures.guarded told)) in
    let counts : c.count_operation.new.tally ≡ counted_after b.writes 1 d.writes (Ok tt) t =
    c.count_operation.ensures ∙ ap (λ k. counted_after k 1 c.writes-now.result c.relabel-labelled.result t) c.writes-before.ensures ∙ ap (λ k. counted_after b.writes 1 k c.relabel-labelled.result t) c.writes-now.ensures ∙ ap (λ r. counted_after b.writes 1 d.writes r t) c.in-Ok-labelled.is in
    let limit = c.limit_of-limit.ensures in
    label_done a b c.args.at c.args.page c.args.label c.args.value.now one carries done d two (g.met.D.Disk.counted c.args.disk.now told) (g.met.D.Disk.counted c.write_value.new.disk told) (g.met.D.Disk.counted c.relabel-labelled.new.disk told) t (omega (arith, limit)) guarded counts

pub returns-in-Err-labelled-clause-commits : goal.returns-in-Err-labelled-clause-commits
returns-in-Err-labelled-clause-commits g c told carries =
    let a = g.D.Tape.tape c.args.disk.now in
    let b = g.D.Tape.tape c.write_value.new.disk in
    let d = g.D.Tape.tape c.relabel-labelled.new.disk in
    let t = c.args.tally.now in
    let error = c.in-Err-labelled.error in
    let done = (c.in-Ok.ensures.guarded told).ok in
    let one = c.write_value.ensures.alone in
    let two = c.relabel-labelled.ensures.alone in
    let stands = value_stands a b c.args.at c.args.page c.args.label c.args.value.now one carries done in
    let guarded = subst (λ (v : List ℕ). Guarded {T = Unit {0}} (Carries c.args.at c.args.page) c.args.at [] (relabel_writes c.args.at c.args.label v) 2 b d (Err error)) stands (rw c.in-Err-labelled.is at (c.relabel-labelled.ensures.guarded told)) in
    let counts : c.count_operation.new.tally ≡ counted_after b.writes 1 d.writes (Err error) t =
    c.count_operation.ensures ∙ ap (λ k. counted_after k 1 c.writes-now.result c.relabel-labelled.result t) c.writes-before.ensures ∙ ap (λ k. counted_after b.writes 1 k c.relabel-labelled.result t) c.writes-now.ensures ∙ ap (λ r. counted_after b.writes 1 d.writes r t) c.in-Err-labelled.is in
    let limit = c.limit_of-limit.ensures in
    label_not_done a b c.args.at c.args.page c.args.label c.args.value.now one carries done d two (g.met.D.Disk.counted c.args.disk.now told) (g.met.D.Disk.counted c.write_value.new.disk told) (g.met.D.Disk.counted c.relabel-labelled.new.disk told) t (omega (arith, limit))
    error (Held c.args.at) c.args.at _ c.error_at-in-Err-labelled.result c.error_at-in-Err-labelled.ensures guarded counts

pub returns-in-Err-labelled-clause-misled : goal.returns-in-Err-labelled-clause-misled
returns-in-Err-labelled-clause-misled g c told carries =
    let a = g.D.Tape.tape c.args.disk.now in
    let b = g.D.Tape.tape c.write_value.new.disk in
    let d = g.D.Tape.tape c.relabel-labelled.new.disk in
    let done = (c.in-Ok.ensures.guarded told).ok in
    let still = carried_still a b c.args.at c.args.page c.args.label c.args.value.now c.write_value.ensures.alone carries done in
    never_misled (Carries c.args.at c.args.page) c.args.at b d c.in-Err-labelled.error (Held c.args.at) c.args.at _ c.error_at-in-Err-labelled.result c.error_at-in-Err-labelled.ensures (rw c.in-Err-labelled.is at (c.relabel-labelled.ensures.guarded told)).wrong still

pub returns-in-Ok-labelled-clause-alone : goal.returns-in-Ok-labelled-clause-alone
returns-in-Ok-labelled-clause-alone g c = alone_twice c.write_value.ensures.alone c.relabel-labelled.ensures.alone

pub returns-in-Err-labelled-clause-alone : goal.returns-in-Err-labelled-clause-alone
returns-in-Err-labelled-clause-alone g c = alone_twice c.write_value.ensures.alone c.relabel-labelled.ensures.alone

pub returns-in-Err-clause-held : goal.returns-in-Err-clause-held
returns-in-Err-clause-held g c = wrong_at (Unit {0}) (WasHeld c.args.at c.args.page) c.in-Err.error (Held c.args.at) c.args.at c.args.page c.error_at.result c.error_at.ensures (λ found. record { held = refl; address = refl; page_is = refl })

pub returns-in-Err-labelled-clause-held : goal.returns-in-Err-labelled-clause-held
returns-in-Err-labelled-clause-held g c =
    wrong_at (Unit {0}) (WasHeld c.args.at c.args.page) c.in-Err-labelled.error (Held c.args.at) c.args.at c.args.page c.error_at-in-Err-labelled.result c.error_at-in-Err-labelled.ensures (λ found. record { held = refl; address = refl; page_is = refl })

pub returns-in-Err-clause-guards : goal.returns-in-Err-clause-guards
returns-in-Err-clause-guards g c told = (c.in-Err.ensures.guarded told).guarded

pub returns-in-Ok-labelled-clause-guards : goal.returns-in-Ok-labelled-clause-guards
returns-in-Ok-labelled-clause-guards g c told some = (c.in-Ok.ensures.guarded told).ok.held

pub returns-in-Err-labelled-clause-guards : goal.returns-in-Err-labelled-clause-guards
returns-in-Err-labelled-clause-guards g c told some = (c.in-Ok.ensures.guarded told).ok.held

pub returns-in-Err-clause-frame : goal.returns-in-Err-clause-frame
returns-in-Err-clause-frame g c told =
    let Here : ℕ → Type 0 = λ i. i ≡ c.args.at in
    guarded_writes Here (c.write_value.ensures.guarded told) (λ held. value_here Here c.args.at refl c.args.value.now)

pub returns-in-Ok-labelled-clause-frame : goal.returns-in-Ok-labelled-clause-frame
returns-in-Ok-labelled-clause-frame g c told =
    let Here : ℕ → Type 0 = λ i. i ≡ c.args.at in
    writes_join Here c.write_value.ensures.alone.grown c.relabel-labelled.ensures.alone.grown
    (guarded_writes Here (c.write_value.ensures.guarded told) (λ held. value_here Here c.args.at refl c.args.value.now))
    (guarded_writes Here (c.relabel-labelled.ensures.guarded told) (λ held. relabel_here Here c.args.at refl c.args.label (sector_at (pack (g.D.Tape.tape c.write_value.new.disk)) c.args.at).value))

pub returns-in-Err-labelled-clause-frame : goal.returns-in-Err-labelled-clause-frame
returns-in-Err-labelled-clause-frame g c told =
    let Here : ℕ → Type 0 = λ i. i ≡ c.args.at in
    writes_join Here c.write_value.ensures.alone.grown c.relabel-labelled.ensures.alone.grown
    (guarded_writes Here (c.write_value.ensures.guarded told) (λ held. value_here Here c.args.at refl c.args.value.now))
    (guarded_writes Here (c.relabel-labelled.ensures.guarded told) (λ held. relabel_here Here c.args.at refl c.args.label (sector_at (pack (g.D.Tape.tape c.write_value.new.disk)) c.args.at).value))
