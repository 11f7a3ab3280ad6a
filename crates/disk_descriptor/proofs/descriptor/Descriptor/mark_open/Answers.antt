use Rattle.std.proofs.Common.{Err, Ok, [], rules, subst, sym, ◌∷◌, ◌≡◌}
use Rattle.disk_records.specs.Tapes.{added, pack}
use Rattle.disk_descriptor.proofs.Keeping.{first_never_held, fits_after_opening, kept_of, opens_after, opens_not, own_opened, own_opens}
use Rattle.disk_descriptor.proofs.Readings.{reads_after_opening, reads_itself}
use Rattle.disk_descriptor.specs.Answers.{IfHeld}
use Rattle.disk_descriptor.specs.Fields.{Fits, FitsDisk, Opens, first_kept, opens_kept}
use Rattle.disk_descriptor.specs.Writing.{WritesOwn}
use Rattle.disk_descriptor.specs.declared.errors.DescError.TheVariants.{Memory}
use Rattle.disk_descriptor.proofs.descriptor.Descriptor.mark_open.Goals as goal

pub returns-then-self-eq-OPEN-clause-guarded : goal.returns-then-self-eq-OPEN-clause-guarded
returns-then-self-eq-OPEN-clause-guarded g c = λ told.
    let d = c.self.inside in
    let a = g.D.Tape.tape c.args.disk.now in
    subst (λ k. WritesOwn {T = Unit {0}} (first_kept k ∷ []) (opens_kept (pack a) k) 3 a a (Ok tt)) c.self.view_is (own_opened d.shape d.last d.mark d.pages a c.if-self-eq-OPEN.true)

pub returns-in_err-change_and_settle-clause-guarded : goal.returns-in_err-change_and_settle-clause-guarded
returns-in_err-change_and_settle-clause-guarded g c = λ told.
    let d = c.self.inside in
    let a = g.D.Tape.tape c.args.disk.now in
    let b = g.D.Tape.tape c.change_and_settle.new.disk in
    let e = c.in_err-change_and_settle.field-0.0 in
    let is : c.from_residual.result ≡ Err e = search rules in
    subst (λ k. WritesOwn {T = Unit {0}} (first_kept k ∷ []) (opens_kept (pack a) k) 3 a b c.from_residual.result) c.self.view_is
    (subst (λ r. WritesOwn {T = Unit {0}} (first_kept (kept_of d.shape d.last d.mark d.pages) ∷ []) (opens_kept (pack a) (kept_of d.shape d.last d.mark d.pages)) 3 a b r) (sym is)
    (own_opens d.shape d.last d.mark d.pages c.if-self-eq-OPEN.false (c.in_err-change_and_settle.ensures.guarded told)))

pub returns-clause-guarded : goal.returns-clause-guarded
returns-clause-guarded g c = λ told.
    let d = c.self.inside in
    let a = g.D.Tape.tape c.args.disk.now in
    let b = g.D.Tape.tape c.change_and_settle.new.disk in
    subst (λ k. WritesOwn {T = Unit {0}} (first_kept k ∷ []) (opens_kept (pack a) k) 3 a b (Ok tt)) c.self.view_is
    (own_opens d.shape d.last d.mark d.pages c.if-self-eq-OPEN.false (c.in_ok-change_and_settle.ensures.guarded told))

pub returns-then-self-eq-OPEN-clause-opens : goal.returns-then-self-eq-OPEN-clause-opens
returns-then-self-eq-OPEN-clause-opens g c = λ told fits.
    let d = c.self.inside in
    let a = g.D.Tape.tape c.args.disk.now in
    opens_not d.shape d.last d.mark d.pages a (subst (Fits (pack a)) (sym c.self.view_is) fits) c.if-self-eq-OPEN.true

pub returns-in_err-change_and_settle-clause-opens : goal.returns-in_err-change_and_settle-clause-opens
returns-in_err-change_and_settle-clause-opens g c = λ told fits.
    let d = c.self.inside in
    let a = g.D.Tape.tape c.args.disk.now in
    let b = g.D.Tape.tape c.change_and_settle.new.disk in
    let here : Fits (pack a) _ = subst (Fits (pack a)) (sym c.self.view_is) fits in
    let is : c.from_residual.result ≡ Err c.in_err-change_and_settle.field-0.0 = search rules in
    subst (λ r. Opens Memory a b r) (sym is) (opens_after d.shape d.last d.mark d.pages here c.if-self-eq-OPEN.false (c.in_err-change_and_settle.ensures.guarded told).writes)

pub returns-in_err-change_and_settle-clause-held : goal.returns-in_err-change_and_settle-clause-held
returns-in_err-change_and_settle-clause-held g c = λ told fits.
    let d = c.self.inside in
    let a = g.D.Tape.tape c.args.disk.now in
    let is : c.from_residual.result ≡ Err c.in_err-change_and_settle.field-0.0 = search rules in
    subst (λ r. IfHeld r (λ at found. ⊥)) (sym is)
    (first_never_held d.shape d.last d.mark d.pages {T = Unit {0}} (pack a) (added a (g.D.Tape.tape c.change_and_settle.new.disk)) (Err c.in_err-change_and_settle.field-0.0) (subst (Fits (pack a)) (sym c.self.view_is) fits)
    (c.in_err-change_and_settle.ensures.guarded told).held)

pub returns-clause-opens : goal.returns-clause-opens
returns-clause-opens g c = λ told fits.
    let d = c.self.inside in
    let a = g.D.Tape.tape c.args.disk.now in
    let here : Fits (pack a) _ = subst (Fits (pack a)) (sym c.self.view_is) fits in
    opens_after d.shape d.last d.mark d.pages here c.if-self-eq-OPEN.false (c.in_ok-change_and_settle.ensures.guarded told).writes

pub returns-clause-fits : goal.returns-clause-fits
returns-clause-fits g c = λ told fits.
    let d = c.self.inside in
    let a = g.D.Tape.tape c.args.disk.now in
    let here : FitsDisk (pack a) _ = subst (FitsDisk (pack a)) (sym c.self.view_is) fits in
    fits_after_opening d.shape d.last d.mark d.pages here c.if-self-eq-OPEN.false c.in_ok-change_and_settle.ensures.alone.grown (c.in_ok-change_and_settle.ensures.guarded told).writes.ok

pub returns-then-self-eq-OPEN-clause-reads : goal.returns-then-self-eq-OPEN-clause-reads
returns-then-self-eq-OPEN-clause-reads g c = λ told fits. reads_itself (pack (g.D.Tape.tape c.args.disk.now))

pub returns-clause-reads : goal.returns-clause-reads
returns-clause-reads g c = λ told fits.
    let d = c.self.inside in
    let a = g.D.Tape.tape c.args.disk.now in
    let here : FitsDisk (pack a) _ = subst (FitsDisk (pack a)) (sym c.self.view_is) fits in
    reads_after_opening d.shape d.last d.mark d.pages here c.if-self-eq-OPEN.false c.in_ok-change_and_settle.ensures.alone.grown (c.in_ok-change_and_settle.ensures.guarded told).writes.ok
