-- A whole and tidy pack whose links are true is opened, unless its mark isn't the clean one.
use Rattle.std.proofs.Common.{Err, List, None, Ok, Option, Result, Some, [], ap, arith, cond, refl, sym, true, ℕ, ◌∙◌, ◌∷◌, ◌≡◌}
use Rattle.std.proofs.lemmas.Bool.Decides.{nat_tests}
use Rattle.std.specs.List.{AllByRecursion}
use Rattle.std.specs.Prelude.{◌==◌}
use Rattle.alto_words.specs.declared.fid.Fid.{Fid}
use Rattle.disk_records.specs.Causes.{HasCause}
use Rattle.disk_records.specs.Packs.{AreFormed, Pack}
use Rattle.disk_records.specs.Tapes.{Taped}
use Rattle.disk_records.specs.Words.{word}
use Rattle.laws_format.specs.laws_contents.proofs.pages.Laws.{formed_pages_have_256_words}
use Rattle.laws_format.specs.laws_lookup.proofs.hints.Laws.{true_hints_never_mislead}
use Rattle.pack_model.specs.hints.Links.{LinksTrue}
use Rattle.pack_model.specs.reading.Model.{descriptor_words}
use Rattle.pack_model.specs.reading.Sights.{sights}
use Rattle.pack_model.specs.states.Whole.{Whole}
use Rattle.page_seeking.specs.Refs.{FileStands, MisledBy}
use Rattle.page_seeking.specs.declared.refs.FileRef.{FileRef}
use Rattle.disk_descriptor.specs.Opening.{HasBadWord, HasWrongLength, IfBadDescriptor, IfOpenMisled, IfWrongLength, OpensIfClean, bad_word, cause_of_opening, shape_words}
use Rattle.disk_descriptor.specs.declared.errors.OpenError.{OpenError}
use Rattle.disk_descriptor.specs.declared.errors.OpenError.TheVariants.{BadDescriptor, DiskFault, Memory, Misled, NoDescriptor, NoRoot, NotClean, WrongLength}

-- words that are as they have to be
none_bad : (ws : List (ℕ × ℕ)) (words : List ℕ) → AllByRecursion (λ w. word words w.0 ≡ w.1) ws → bad_word ws words ≡ None
none_bad [] words all = refl
none_bad (w ∷ ws) words all =
    let same : word words w.0 ≡ w.1 = all.0 in
    let here : (word words w.0 == w.1) ≡ true = grind (arith, nat_tests) in
    ap (λ b. cond b (bad_word ws words) (Some (w.0, word words w.0))) here ∙ none_bad ws words all.1

right_length : (p : Pack) (size : ℕ) → Whole p → HasWrongLength p size → ⊥
right_length p size whole wrong = wrong.differs (wrong.is ∙ whole.descriptor_fits.size)

right_words : (p : Pack) (w found : ℕ) → Whole p → HasBadWord p w found → ⊥
right_words p w found whole bad =
    let says = whole.descriptor_fits.says in
    let none : bad_word (shape_words p.shape) (descriptor_words (sights p)) ≡ None = none_bad (shape_words p.shape) (descriptor_words (sights p)) (says.disks, (says.cylinders, (says.heads, (says.sectors, (says.table, tt))))) in
    let both : ◌≡◌ {A = Option (ℕ × ℕ)} None (Some (w, found)) = sym none ∙ bad.first in
    cc

module _ {T : Type 0} (p : Pack) (f : Fid) (file : FileRef) (old new : Taped) (formed : AreFormed p) (stands : FileStands p file) (links : LinksTrue p) where
  -- the refusals that a whole pack with true links has no cause for don't come
  pub entered : (result : Result T OpenError) → IfWrongLength result (HasWrongLength p) → IfBadDescriptor result (HasBadWord p) → IfOpenMisled result (MisledBy p [] f) → HasCause cause_of_opening old new result → OpensIfClean result
  entered (Ok x) size word misled cause = tt
  entered (Err (NoRoot found)) size word misled cause = cause
  entered (Err NoDescriptor) size word misled cause = cause
  entered (Err (Misled place at wanted found)) size word misled cause =
      true_hints_never_mislead p place at wanted stands.whole stands.tidy (λ i page e. formed_pages_have_256_words p i page formed e) links (misled.answers.on_disk stands.whole) misled.answers.misled
  entered (Err (WrongLength length)) size word misled cause = right_length p length stands.whole size
  entered (Err (BadDescriptor w found)) size word misled cause = right_words p w found stands.whole word
  entered (Err (NotClean mark)) size word misled cause = tt
  entered (Err DiskFault) size word misled cause = tt
  entered (Err Memory) size word misled cause = tt
