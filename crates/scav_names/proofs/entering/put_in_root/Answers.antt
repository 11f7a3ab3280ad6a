use Rattle.std.proofs.Common.{◌≡◌, ◌≢◌, ◌+◌, ◌/◌, ◌<◌, get_or, Err, None, Some, sym, ap, subst, ◌∙◌, refl}
use Rattle.disk_records.specs.Addresses.{pages_of}
use Rattle.disk_records.specs.Packs.{carried}
use Rattle.disk_records.specs.Tapes.{pack}
use Rattle.disk_records.specs.Causes.{IsCause}
use Rattle.disk_records.proofs.Growing.{alone_here}
use Rattle.disk_records.proofs.Framing.{usable_here}
use Rattle.scav_names.specs.Words.{WritesPageWords, page_writes, page_with}
use Rattle.pack_model.specs.operations.PageWords.{in_page}
use Rattle.alto_words.specs.Fid.{sys_dir}
use Rattle.scav_pages.specs.Stops.{cause_of_stop}
use Rattle.scav_pages.proofs.Causing.{cause_of_part}
use Rattle.scav_names.proofs.RootPages.{root_page}
use Rattle.scav_names.proofs.entering.put_in_root.Goals as goal

pub returns-in_err-found-clause-writes : goal.returns-in_err-found-clause-writes
returns-in_err-found-clause-writes g c = λ told pages within.
    let a = g.D.Tape.tape c.args.disk.now in
    let h = root_page (pack a) c.args.root.now.pages c.args.place pages within in
    let other : page_with sys_dir c.args.place ≢ None = λ none. (let no = sym h.page ∙ none in cc) in
    absurd (c.in_err-found.ensures.found other within h.first (subst (λ f. get_or c.args.root.now.pages (c.args.place / 256) 0 < pages_of f) (sym c.shape.ensures) h.within) (ap Err c.in_err-found.ensures.astray))

pub returns-clause-writes : goal.returns-clause-writes
returns-clause-writes g c = λ told pages within.
    let a = g.D.Tape.tape c.args.disk.now in
    let found = c.in_ok-found.found in
    let h = root_page (pack a) c.args.root.now.pages c.args.place pages within in
    let at = c.in_ok-found.ensures.at in
    let page : Some found.page ≡ Some (record { fid = sys_dir; number = c.args.place / 256 + 1 }) = sym c.in_ok-found.ensures.page ∙ h.page in
    let here : carried (pack a) found.at ≡ Some found.page = ap (carried (pack a)) at ∙ h.carries ∙ sym page in
    subst (λ i. WritesPageWords (page_writes (pack a) i (in_page c.args.place) c.args.words.now) a (g.D.Tape.tape c.put_words.new.disk) c.put_words.result) at (c.put_words.ensures.writes told here)

pub returns-in_err-found-clause-cause : goal.returns-in_err-found-clause-cause
returns-in_err-found-clause-cause g c = cause_of_part c.in_err-found.field-0.0 c.from_residual.result (alone_here (g.D.Tape.tape c.args.disk.now)) refl (alone_here _) (subst (λ s. IsCause (g.D.Tape.tape c.args.disk.now) (g.D.Tape.tape c.args.disk.now) (cause_of_stop s)) (sym c.in_err-found.ensures.astray) refl) c.from_residual.ensures.1

pub returns-clause-cause : goal.returns-clause-cause
returns-clause-cause g c = c.put_words.ensures.cause

pub returns-in_err-found-clause-alone : goal.returns-in_err-found-clause-alone
returns-in_err-found-clause-alone g c = alone_here _

pub returns-in_err-found-clause-frame : goal.returns-in_err-found-clause-frame
returns-in_err-found-clause-frame g c = usable_here (g.D.Tape.tape c.args.disk.now)

pub returns-clause-alone : goal.returns-clause-alone
returns-clause-alone g c = c.put_words.ensures.alone

pub returns-clause-frame : goal.returns-clause-frame
returns-clause-frame g c = c.put_words.ensures.frame

pub put_words-requires-clause-first : goal.put_words-requires-clause-first
put_words-requires-clause-first g c = c.in_ok-found.ensures.first

pub put_words-requires-clause-place : goal.put_words-requires-clause-place
put_words-requires-clause-place g c = subst (λ f. c.in_ok-found.found.at < pages_of f) c.shape.ensures c.in_ok-found.ensures.within
