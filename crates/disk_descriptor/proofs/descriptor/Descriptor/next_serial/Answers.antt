use Rattle.std.proofs.Common.{Err, Ok, [], arith, rules, subst, sym, ℕ, ◌+◌, ◌∷◌, ◌≡◌}
use Rattle.std.proofs.lemmas.List.{append-nil}
use Rattle.disk_records.specs.Tapes.{added, pack}
use Rattle.disk_descriptor.proofs.Guards.{held_of, own_err, own_ok}
use Rattle.disk_descriptor.proofs.Keeping.{first_never_held, fits_after_serial, gives_after, kept_of, own_gives, own_spent}
use Rattle.disk_descriptor.proofs.Readings.{above_after_serial, reads_after_serial}
use Rattle.disk_descriptor.proofs.Writings.{writes_all, writes_stop}
use Rattle.disk_descriptor.specs.Answers.{IfHeld}
use Rattle.disk_descriptor.specs.Fields.{Fits, FitsDisk, GivesOne, first_kept, gives_kept}
use Rattle.disk_descriptor.specs.Writing.{WritesOwn}
use Rattle.disk_descriptor.specs.declared.errors.DescError.TheVariants.{Memory, Spent}
use Rattle.disk_descriptor.proofs.descriptor.Descriptor.next_serial.Goals as goal

pub returns-then-self-ge-MOST_LAST-clause-guarded : goal.returns-then-self-ge-MOST_LAST-clause-guarded
returns-then-self-ge-MOST_LAST-clause-guarded g c = λ told.
    let d = c.self.inside in
    let a = g.D.Tape.tape c.args.disk.now in
    subst (λ k. WritesOwn {T = ℕ} (first_kept k ∷ []) (gives_kept (pack a) k) 3 a a (Err (Spent d.last))) c.self.view_is (own_spent d.shape d.last d.mark d.pages a)

pub returns-in_err-change_words-clause-guarded : goal.returns-in_err-change_words-clause-guarded
returns-in_err-change_words-clause-guarded g c = λ told.
    let d = c.self.inside in
    let a = g.D.Tape.tape c.args.disk.now in
    let b = g.D.Tape.tape c.change_words.new.disk in
    let e = c.in_err-change_words.field-0.0 in
    let is : c.from_residual.result ≡ Err e = search rules in
    subst (λ k. WritesOwn {T = ℕ} (first_kept k ∷ []) (gives_kept (pack a) k) 3 a b c.from_residual.result) c.self.view_is
    (subst (λ r. WritesOwn {T = ℕ} (first_kept (kept_of d.shape d.last d.mark d.pages) ∷ []) (gives_kept (pack a) (kept_of d.shape d.last d.mark d.pages)) 3 a b r) (sym is)
    (own_gives d.shape d.last d.mark d.pages (own_err {U = ℕ} e _ _ 3 (c.in_err-change_words.ensures.guarded told))))

pub returns-clause-guarded : goal.returns-clause-guarded
returns-clause-guarded g c = λ told.
    let d = c.self.inside in
    let a = g.D.Tape.tape c.args.disk.now in
    let b = g.D.Tape.tape c.change_words.new.disk in
    subst (λ k. WritesOwn {T = ℕ} (first_kept k ∷ []) (gives_kept (pack a) k) 3 a b (Ok (d.last + 1))) c.self.view_is
    (own_gives d.shape d.last d.mark d.pages (own_ok (d.last + 1) _ _ 3 (c.in_ok-change_words.ensures.guarded told)))

pub returns-in_err-change_words-clause-gives : goal.returns-in_err-change_words-clause-gives
returns-in_err-change_words-clause-gives g c = λ told fits.
    let d = c.self.inside in
    let a = g.D.Tape.tape c.args.disk.now in
    let b = g.D.Tape.tape c.change_words.new.disk in
    let e = c.in_err-change_words.field-0.0 in
    let here : Fits (pack a) (kept_of d.shape d.last d.mark d.pages) = subst (Fits (pack a)) (sym c.self.view_is) fits in
    let is : c.from_residual.result ≡ Err e = search rules in
    subst (λ k. GivesOne {T = ℕ} Memory k a b c.from_residual.result) c.self.view_is
    (subst (λ r. GivesOne {T = ℕ} Memory (kept_of d.shape d.last d.mark d.pages) a b r) (sym is)
    (gives_after d.shape d.last d.mark d.pages here c.if-self-ge-MOST_LAST.false
    (writes_stop {U = ℕ} Memory e _ [] _ 3 3 (sym (append-nil _)) (omega arith) (c.in_err-change_words.ensures.guarded told).writes)))

pub returns-in_err-change_words-clause-held : goal.returns-in_err-change_words-clause-held
returns-in_err-change_words-clause-held g c = λ told fits.
    let d = c.self.inside in
    let a = g.D.Tape.tape c.args.disk.now in
    let is : c.from_residual.result ≡ Err c.in_err-change_words.field-0.0 = search rules in
    subst (λ r. IfHeld r (λ at found. ⊥)) (sym is)
    (held_of (Unit {0}) ℕ (λ at found. ⊥) c.in_err-change_words.field-0.0
    (first_never_held d.shape d.last d.mark d.pages {T = Unit {0}} (pack a) (added a (g.D.Tape.tape c.change_words.new.disk)) (Err c.in_err-change_words.field-0.0) (subst (Fits (pack a)) (sym c.self.view_is) fits)
    (c.in_err-change_words.ensures.guarded told).held))

pub returns-clause-gives : goal.returns-clause-gives
returns-clause-gives g c = λ told fits.
    let d = c.self.inside in
    let a = g.D.Tape.tape c.args.disk.now in
    let b = g.D.Tape.tape c.change_words.new.disk in
    let here : Fits (pack a) (kept_of d.shape d.last d.mark d.pages) = subst (Fits (pack a)) (sym c.self.view_is) fits in
    let wrote = (c.in_ok-change_words.ensures.guarded told).writes in
    subst (λ k. GivesOne {T = ℕ} Memory k a b (Ok (d.last + 1))) c.self.view_is
    (gives_after d.shape d.last d.mark d.pages here c.if-self-ge-MOST_LAST.false (writes_all Memory (d.last + 1) _ 3 wrote.ok wrote.runs))

pub returns-clause-fits : goal.returns-clause-fits
returns-clause-fits g c = λ told fits.
    let d = c.self.inside in
    let a = g.D.Tape.tape c.args.disk.now in
    let here : FitsDisk (pack a) (kept_of d.shape d.last d.mark d.pages) = subst (FitsDisk (pack a)) (sym c.self.view_is) fits in
    fits_after_serial d.shape d.last d.mark d.pages here c.in_ok-change_words.ensures.alone.grown (c.in_ok-change_words.ensures.guarded told).writes.ok

pub returns-clause-reads : goal.returns-clause-reads
returns-clause-reads g c = λ told fits.
    let d = c.self.inside in
    let a = g.D.Tape.tape c.args.disk.now in
    let here : FitsDisk (pack a) (kept_of d.shape d.last d.mark d.pages) = subst (FitsDisk (pack a)) (sym c.self.view_is) fits in
    reads_after_serial d.shape d.last d.mark d.pages here c.in_ok-change_words.ensures.alone.grown (c.in_ok-change_words.ensures.guarded told).writes.ok

pub returns-clause-above : goal.returns-clause-above
returns-clause-above g c = λ told fits.
    let d = c.self.inside in
    let a = g.D.Tape.tape c.args.disk.now in
    let here : FitsDisk (pack a) (kept_of d.shape d.last d.mark d.pages) = subst (FitsDisk (pack a)) (sym c.self.view_is) fits in
    above_after_serial d.shape d.last d.mark d.pages here c.in_ok-change_words.ensures.alone.grown (c.in_ok-change_words.ensures.guarded told).writes.ok
