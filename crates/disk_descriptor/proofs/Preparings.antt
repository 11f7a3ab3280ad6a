-- One sector more that preparing has written, and what is so at its end.
use Rattle.std.proofs.Common.{Err, List, [], ap, append_assoc, arith, length, min, refl, subst, suc, sym, take, zero, ℕ, ◌++◌, ◌*◌, ◌+◌, ◌-◌, ◌∙◌, ◌∷◌, ◌≡◌, ◌≤◌}
use Rattle.disk_records.proofs.Growing.{added-twice, length-pack, pack-after}
use Rattle.disk_records.specs.Addresses.{pages_of}
use Rattle.disk_records.specs.Events.{IsFirstOf}
use Rattle.disk_records.specs.Packs.{after, crash}
use Rattle.disk_records.specs.Tapes.{DiskAlone, Grown, Taped, added, pack}
use Rattle.disk_records.specs.declared.records.Event.{Event}
use Rattle.disk_records.specs.declared.shape.Shape.{Shape}
use Rattle.laws_format.proofs.preparing.Laws.{preparing_frees_the_drive, preparing_goes_on, preparing_shows_same}
use Rattle.laws_format.specs.Preparing.{HasUnusedDrive, IsPrepared, drive_pages, prepare_writes, prepared_writes, preparing_writes}
use Rattle.pack_model.specs.showing.Settling.{show}
use Rattle.disk_descriptor.proofs.Writings.{writes_stop, writes_then}
use Rattle.disk_descriptor.specs.Writing.{Writes}
use Rattle.disk_descriptor.specs.declared.errors.FormatError.TheVariants.{Memory}
use Rattle.disk_descriptor.specs.declared.errors.FormatError.{FormatError}

-- the two drives have as many sectors
pub halves_are : (s : Shape) → s.disks ≡ 2 → pages_of s ≡ drive_pages s + drive_pages s
halves_are s two = let e = ap (λ d. d * s.cylinders * 24) two in omega (arith, e)

-- all of some sectors and those after them
split_at : (shape : Shape) (number at n m : ℕ) → (rest : List Event) × (preparing_writes shape number at (n + m) ≡ preparing_writes shape number at n ++ rest)
split_at shape number at zero m = let e : 0 + m ≡ m = omega arith in (preparing_writes shape number at m, ap (preparing_writes shape number at) e)
split_at shape number at (suc n) m =
    let e : suc n + m ≡ suc (n + m) = omega arith in
    let later = split_at shape number (suc at) n m in
    (later.0, ap (preparing_writes shape number at) e ∙ ap (λ es. prepared_writes shape number at ++ es) later.1 ∙ sym (append_assoc (prepared_writes shape number at) (preparing_writes shape number (suc at) n) later.0))

-- a prefix of a list of events is what some crash point of it has written
first_is_cut : (ws events : List Event) → IsFirstOf ws events → events ≡ take (length events) ws
first_is_cut ws [] h = refl
first_is_cut [] (x ∷ events) h = absurd h
first_is_cut (w ∷ ws) (x ∷ events) h = (λ i. h.0 i ∷ first_is_cut ws events h.1 i)

-- a crash point of a prefix
cut_twice : (k n : ℕ) (ws : List Event) → take k (take n ws) ≡ take (min k n) ws
cut_twice zero n ws = let e : 0 ≡ min 0 n = omega arith in ap (λ m. take m ws) e
cut_twice (suc k) zero ws = let e : 0 ≡ min (suc k) 0 = omega arith in ap (λ m. take m ws) e
cut_twice (suc k) (suc n) [] = let e : suc (min k n) ≡ min (suc k) (suc n) = omega arith in ap (λ m. take {A = Event} m []) e
cut_twice (suc k) (suc n) (w ∷ ws) = let e : suc (min k n) ≡ min (suc k) (suc n) = omega arith in ap (λ (es : List Event). w ∷ es) (cut_twice k n ws) ∙ ap (λ m. take m (w ∷ ws)) e

module _ {x y z : Taped} (number at next : ℕ) (done : ℕ) (first : DiskAlone x y) (later : DiskAlone y z)
    (is : next ≡ at + done) (wrote : added x y ≡ preparing_writes x.form number at done) where
  -- one sector more
  pub sector_done : added y z ≡ prepared_writes y.form number next → added x z ≡ preparing_writes x.form number at (suc done)
  sector_done now =
      added-twice first.grown later.grown ∙ (λ i. wrote i ++ now i) ∙ ap (λ s. preparing_writes x.form number at done ++ prepared_writes s number next) first.grown.form ∙ sym (preparing_goes_on x.form number at done next is)

  -- it broke off at this sector
  pub sector_failed : {T U : Type 0} (e : FormatError) (all : ℕ) → suc done ≤ all → y.runs ≤ x.runs + 2 * done → Writes {T = T} Memory (prepared_writes y.form number next) 2 y z (Err e) → Writes {T = U} Memory (preparing_writes x.form number at all) (2 * all) x z (Err e)
  sector_failed {T} {U} e all within ran broken =
      let left = split_at x.form number at (suc done) (all - suc done) in
      let size : suc done + (all - suc done) ≡ all = omega arith in
      let goes : preparing_writes x.form number at all ≡ (preparing_writes x.form number at done ++ prepared_writes x.form number next) ++ left.0 =
      ap (preparing_writes x.form number at) (sym size) ∙ left.1 ∙ ap (λ es. es ++ left.0) (preparing_goes_on x.form number at done next is) in
      writes_stop {T = T} Memory e (preparing_writes x.form number at done ++ prepared_writes x.form number next) left.0 (preparing_writes x.form number at all) (2 * done + 2) (2 * all) goes (omega arith)
      (writes_then Memory (preparing_writes x.form number at done) (prepared_writes x.form number next) (2 * done) 2 first.grown later.grown wrote ran
      (subst (λ s. Writes {T = T} Memory (prepared_writes s number next) 2 y z (Err e)) first.grown.form broken))

-- ---- the whole call
module _ {x y : Taped} (number : ℕ) (two : x.form.disks ≡ 2) (sized : length x.base ≡ pages_of x.form) (grown : Grown x y) where
  -- a prefix of the record writes shows at each crash point what was shown before
  pub shows_throughout : (k : ℕ) → IsFirstOf (prepare_writes x.form number) (added x y) → HasUnusedDrive (pack x) → show (crash (pack x) (added x y) k) ≡ show (pack x)
  shows_throughout k some unused =
      let ws : List Event = prepare_writes x.form number in
      let cut : take k (added x y) ≡ take (min k (length (added x y))) ws = ap (take k) (first_is_cut ws (added x y) some) ∙ cut_twice k (length (added x y)) ws in
      ap (λ es. show (after (pack x) es)) cut ∙ preparing_shows_same (pack x) number (min k (length (added x y))) two (length-pack x ∙ sized) unused

  -- all of them leave the drive free
  pub drive_prepared : added x y ≡ prepare_writes x.form number → IsPrepared (pack x) (pack y)
  drive_prepared wrote =
      subst (IsPrepared (pack x)) (sym (pack-after grown ∙ ap (after (pack x)) wrote)) (preparing_frees_the_drive (pack x) number two (length-pack x ∙ sized))
