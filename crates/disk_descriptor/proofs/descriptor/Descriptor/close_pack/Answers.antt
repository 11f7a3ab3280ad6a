use Rattle.std.proofs.Common.{Err, Ok, ap, length, rules, subst, sym, take, ℕ, ◌*◌, ◌∙◌, ◌≡◌}
use Rattle.std.specs.Prelude.{reverse}
use Rattle.disk_records.specs.Tapes.{added, pack}
use Rattle.pack_model.specs.operations.Commands.{values_writes}
use Rattle.pack_model.specs.sessions.Descriptor.{closed_values, data_pages}
use Rattle.disk_descriptor.proofs.Keeping.{closes_after, fits_after_closing, kept_of, never_held, own_closed, own_closes}
use Rattle.disk_descriptor.proofs.Readings.{describes_after_closing, reads_after_closing, reads_itself}
use Rattle.disk_descriptor.specs.Answers.{IfHeld}
use Rattle.disk_descriptor.specs.Fields.{Fits, FitsDisk, closes, closes_kept}
use Rattle.disk_descriptor.specs.Writing.{StopsAt, Writes, WritesOwn}
use Rattle.disk_descriptor.specs.declared.errors.DescError.TheVariants.{Memory}
use Rattle.disk_descriptor.proofs.descriptor.Descriptor.close_pack.Goals as goal

pub returns-then-self-eq-CLEAN-clause-guarded : goal.returns-then-self-eq-CLEAN-clause-guarded
returns-then-self-eq-CLEAN-clause-guarded g c = λ told.
    let d = c.self.inside in
    let a = g.D.Tape.tape c.args.disk.now in
    let busy = c.args.table.now in
    subst (λ k. WritesOwn {T = Unit {0}} k.pages (closes_kept busy k) (2 * length k.pages) a a (Ok tt)) c.self.view_is
    (own_closed d.shape d.last d.mark d.pages a busy (2 * length (take (data_pages d.shape) d.pages)) c.if-self-eq-CLEAN.true)

pub returns-in_err-write_pages-clause-guarded : goal.returns-in_err-write_pages-clause-guarded
returns-in_err-write_pages-clause-guarded g c = λ told.
    let d = c.self.inside in
    let a = g.D.Tape.tape c.args.disk.now in
    let b = g.D.Tape.tape c.write_pages.new.disk in
    let busy = c.args.table.now in
    let e = c.in_err-write_pages.field-0.0 in
    let count : c.from-count.result ≡ data_pages d.shape = c.from-count.ensures ∙ c.data_pages.ensures.pages in
    let form : a.form ≡ d.shape = sym (ap (λ k. k.shape) c.self.view_is ∙ c.requires.shape) in
    let failed : c.from_residual.result ≡ Err e = search rules in
    let pages = λ (n : ℕ). take n d.pages in
    subst (λ k. WritesOwn {T = Unit {0}} k.pages (closes_kept busy k) (2 * length k.pages) a b c.from_residual.result) c.self.view_is
    (subst (λ r. WritesOwn {T = Unit {0}} (pages (data_pages d.shape)) (closes_kept busy (kept_of d.shape d.last d.mark d.pages)) (2 * length (pages (data_pages d.shape))) a b r) (sym failed)
    (own_closes d.shape d.last d.mark d.pages busy (2 * length (pages (data_pages d.shape))) c.if-self-eq-CLEAN.false
    (subst (λ s. WritesOwn {T = Unit {0}} (pages (data_pages d.shape)) (values_writes (reverse (closed_values s d.last busy 0 (pages (data_pages d.shape))))) (2 * length (pages (data_pages d.shape))) a b (Err e)) form
    (subst (λ n. WritesOwn {T = Unit {0}} (pages n) (values_writes (reverse (closed_values a.form d.last busy 0 (pages n)))) (2 * length (pages n)) a b (Err e)) count (c.in_err-write_pages.ensures.guarded told)))))

pub returns-clause-guarded : goal.returns-clause-guarded
returns-clause-guarded g c = λ told.
    let d = c.self.inside in
    let a = g.D.Tape.tape c.args.disk.now in
    let b = g.D.Tape.tape c.write_pages.new.disk in
    let busy = c.args.table.now in
    let count : c.from-count.result ≡ data_pages d.shape = c.from-count.ensures ∙ c.data_pages.ensures.pages in
    let form : a.form ≡ d.shape = sym (ap (λ k. k.shape) c.self.view_is ∙ c.requires.shape) in
    let pages = λ (n : ℕ). take n d.pages in
    subst (λ k. WritesOwn {T = Unit {0}} k.pages (closes_kept busy k) (2 * length k.pages) a b (Ok tt)) c.self.view_is
    (own_closes d.shape d.last d.mark d.pages busy (2 * length (pages (data_pages d.shape))) c.if-self-eq-CLEAN.false
    (subst (λ s. WritesOwn {T = Unit {0}} (pages (data_pages d.shape)) (values_writes (reverse (closed_values s d.last busy 0 (pages (data_pages d.shape))))) (2 * length (pages (data_pages d.shape))) a b (Ok tt)) form
    (subst (λ n. WritesOwn {T = Unit {0}} (pages n) (values_writes (reverse (closed_values a.form d.last busy 0 (pages n)))) (2 * length (pages n)) a b (Ok tt)) count (c.in_ok-write_pages.ensures.guarded told))))

pub returns-in_err-write_pages-clause-writes : goal.returns-in_err-write_pages-clause-writes
returns-in_err-write_pages-clause-writes g c = λ told fits.
    let d = c.self.inside in
    let a = g.D.Tape.tape c.args.disk.now in
    let b = g.D.Tape.tape c.write_pages.new.disk in
    let busy = c.args.table.now in
    let e = c.in_err-write_pages.field-0.0 in
    let here : Fits (pack a) (kept_of d.shape d.last d.mark d.pages) = subst (Fits (pack a)) (sym c.self.view_is) fits in
    let count : c.from-count.result ≡ data_pages d.shape = c.from-count.ensures ∙ c.data_pages.ensures.pages in
    let form : a.form ≡ d.shape = sym (ap (λ k. k.shape) c.self.view_is ∙ c.requires.shape) in
    let failed : c.from_residual.result ≡ Err e = search rules in
    subst (λ k. Writes {T = Unit {0}} Memory (closes (pack a) busy k) (2 * length k.pages) a b c.from_residual.result) c.self.view_is
    (subst (λ r. Writes {T = Unit {0}} Memory (closes (pack a) busy (kept_of d.shape d.last d.mark d.pages)) (2 * length (take (data_pages d.shape) d.pages)) a b r) (sym failed)
    (closes_after d.shape d.last d.mark d.pages busy (2 * length (take (data_pages d.shape) d.pages)) here c.if-self-eq-CLEAN.false
    (subst (λ s. Writes {T = Unit {0}} Memory (values_writes (reverse (closed_values s d.last busy 0 (take (data_pages d.shape) d.pages)))) (2 * length (take (data_pages d.shape) d.pages)) a b (Err e)) form
    (subst (λ n. Writes {T = Unit {0}} Memory (values_writes (reverse (closed_values a.form d.last busy 0 (take n d.pages)))) (2 * length (take n d.pages)) a b (Err e)) count (c.in_err-write_pages.ensures.guarded told).writes))))

pub returns-in_err-write_pages-clause-held : goal.returns-in_err-write_pages-clause-held
returns-in_err-write_pages-clause-held g c = λ told fits.
    let d = c.self.inside in
    let a = g.D.Tape.tape c.args.disk.now in
    let b = g.D.Tape.tape c.write_pages.new.disk in
    let here : Fits (pack a) (kept_of d.shape d.last d.mark d.pages) = subst (Fits (pack a)) (sym c.self.view_is) fits in
    let count : c.from-count.result ≡ data_pages d.shape = c.from-count.ensures ∙ c.data_pages.ensures.pages in
    let failed : c.from_residual.result ≡ Err c.in_err-write_pages.field-0.0 = search rules in
    subst (λ r. IfHeld {T = Unit {0}} r (λ at found. ⊥)) (sym failed)
    (never_held d.shape d.last d.mark d.pages {T = Unit {0}} (pack a) (added a b) (Err c.in_err-write_pages.field-0.0) here
    (subst (λ n. IfHeld {T = Unit {0}} (Err c.in_err-write_pages.field-0.0) (StopsAt (pack a) (take n d.pages) (added a b))) count (c.in_err-write_pages.ensures.guarded told).held))

pub returns-clause-writes : goal.returns-clause-writes
returns-clause-writes g c = λ told fits.
    let d = c.self.inside in
    let a = g.D.Tape.tape c.args.disk.now in
    let b = g.D.Tape.tape c.write_pages.new.disk in
    let busy = c.args.table.now in
    let here : Fits (pack a) (kept_of d.shape d.last d.mark d.pages) = subst (Fits (pack a)) (sym c.self.view_is) fits in
    let count : c.from-count.result ≡ data_pages d.shape = c.from-count.ensures ∙ c.data_pages.ensures.pages in
    let form : a.form ≡ d.shape = sym (ap (λ k. k.shape) c.self.view_is ∙ c.requires.shape) in
    subst (λ k. Writes {T = Unit {0}} Memory (closes (pack a) busy k) (2 * length k.pages) a b (Ok tt)) c.self.view_is
    (closes_after d.shape d.last d.mark d.pages busy (2 * length (take (data_pages d.shape) d.pages)) here c.if-self-eq-CLEAN.false
    (subst (λ s. Writes {T = Unit {0}} Memory (values_writes (reverse (closed_values s d.last busy 0 (take (data_pages d.shape) d.pages)))) (2 * length (take (data_pages d.shape) d.pages)) a b (Ok tt)) form
    (subst (λ n. Writes {T = Unit {0}} Memory (values_writes (reverse (closed_values a.form d.last busy 0 (take n d.pages)))) (2 * length (take n d.pages)) a b (Ok tt)) count (c.in_ok-write_pages.ensures.guarded told).writes)))

pub returns-clause-fits : goal.returns-clause-fits
returns-clause-fits g c = λ told fits.
    let d = c.self.inside in
    let a = g.D.Tape.tape c.args.disk.now in
    let b = g.D.Tape.tape c.write_pages.new.disk in
    let busy = c.args.table.now in
    let here : FitsDisk (pack a) (kept_of d.shape d.last d.mark d.pages) = subst (FitsDisk (pack a)) (sym c.self.view_is) fits in
    let count : c.from-count.result ≡ data_pages d.shape = c.from-count.ensures ∙ c.data_pages.ensures.pages in
    let form : a.form ≡ d.shape = sym (ap (λ k. k.shape) c.self.view_is ∙ c.requires.shape) in
    let wrote = (c.in_ok-write_pages.ensures.guarded told).writes.ok in
    fits_after_closing d.shape d.last d.mark d.pages busy here (g.met.D.Disk.formed c.args.disk.now told) c.if-self-eq-CLEAN.false c.in_ok-write_pages.ensures.alone.grown
    (wrote ∙ (λ i. values_writes (reverse (closed_values (form i) d.last busy 0 (take (count i) d.pages)))))

pub returns-then-self-eq-CLEAN-clause-reads : goal.returns-then-self-eq-CLEAN-clause-reads
returns-then-self-eq-CLEAN-clause-reads g c = λ told fits. reads_itself (pack (g.D.Tape.tape c.args.disk.now))

pub returns-clause-reads : goal.returns-clause-reads
returns-clause-reads g c = λ told fits.
    let d = c.self.inside in
    let a = g.D.Tape.tape c.args.disk.now in
    let b = g.D.Tape.tape c.write_pages.new.disk in
    let busy = c.args.table.now in
    let here : FitsDisk (pack a) (kept_of d.shape d.last d.mark d.pages) = subst (FitsDisk (pack a)) (sym c.self.view_is) fits in
    let count : c.from-count.result ≡ data_pages d.shape = c.from-count.ensures ∙ c.data_pages.ensures.pages in
    let form : a.form ≡ d.shape = sym (ap (λ k. k.shape) c.self.view_is ∙ c.requires.shape) in
    let wrote = (c.in_ok-write_pages.ensures.guarded told).writes.ok in
    reads_after_closing d.shape d.last d.mark d.pages busy here (g.met.D.Disk.formed c.args.disk.now told) c.if-self-eq-CLEAN.false c.in_ok-write_pages.ensures.alone.grown
    (wrote ∙ (λ i. values_writes (reverse (closed_values (form i) d.last busy 0 (take (count i) d.pages)))))

pub returns-then-self-eq-CLEAN-clause-describes : goal.returns-then-self-eq-CLEAN-clause-describes
returns-then-self-eq-CLEAN-clause-describes g c = λ told fits other. absurd (other (sym (ap (λ k. k.mark) c.self.view_is) ∙ c.if-self-eq-CLEAN.true))

pub returns-clause-describes : goal.returns-clause-describes
returns-clause-describes g c = λ told fits other.
    let d = c.self.inside in
    let a = g.D.Tape.tape c.args.disk.now in
    let busy = c.args.table.now in
    let here : FitsDisk (pack a) (kept_of d.shape d.last d.mark d.pages) = subst (FitsDisk (pack a)) (sym c.self.view_is) fits in
    let count : c.from-count.result ≡ data_pages d.shape = c.from-count.ensures ∙ c.data_pages.ensures.pages in
    let form : a.form ≡ d.shape = sym (ap (λ k. k.shape) c.self.view_is ∙ c.requires.shape) in
    let wrote = (c.in_ok-write_pages.ensures.guarded told).writes.ok in
    describes_after_closing d.shape d.last d.mark d.pages busy here (g.met.D.Disk.formed c.args.disk.now told) c.if-self-eq-CLEAN.false c.in_ok-write_pages.ensures.alone.grown
    (wrote ∙ (λ i. values_writes (reverse (closed_values (form i) d.last busy 0 (take (count i) d.pages)))))
