-- Packs with a word or a link changed, and when they differ from the pack in hints alone.
use Rattle.std.proofs.Common.{◌≡◌, ◌⊎◌, ℕ, zero, suc, ◌/◌, List, [], ◌∷◌, length, drop, get_or, set, refl, sym, ap, subst, ◌∙◌, arith, inl, inr}
use Rattle.std.proofs.lemmas.Bool.{cases_eq}
use Rattle.std.proofs.lemmas.List.{length-set}
use Rattle.pack_laws.specs.disk_records.specs.declared.records.Sector.{Sector}
use Rattle.pack_laws.specs.disk_records.specs.Packs.{Pack, no_sector, sector_at}
use Rattle.pack_laws.specs.pack_model.specs.reading.Bytes.{bytes_of}
use Rattle.pack_laws.specs.pack_model.specs.hints.HintWords.{IsHintByte, SameButHints, byte_at}

-- ---- changes: one word of a sector's value; the first three words of a label
abbrev pub valued : ℕ → ℕ → Sector → Sector
valued w x s = record s { value = set s.value w x }

abbrev pub relinked : ℕ → ℕ → ℕ → Sector → Sector
relinked a b c s = record s { label = a ∷ b ∷ c ∷ drop 3 s.label }

abbrev pub with_sector : ℕ → Sector → Pack → Pack
with_sector at s p = record { shape = p.shape; sectors = set p.sectors at s }

abbrev pub with_word : ℕ → ℕ → ℕ → Pack → Pack
with_word at w x p = with_sector at (valued w x (sector_at p at)) p

abbrev pub with_links : ℕ → ℕ → ℕ → ℕ → Pack → Pack
with_links at a b c p = with_sector at (relinked a b c (sector_at p at)) p

-- what holds of the old sector, and of the new one in its place
each_sector : (P : Sector → Type 0) (ss : List Sector) (i at : ℕ) (s : Sector) → P (get_or ss i no_sector) → (i ≡ at → P s) → P (get_or (set ss at s) i no_sector)
each_sector P [] i at s old new = old
each_sector P (x ∷ ss) zero zero s old new = new refl
each_sector P (x ∷ ss) (suc i) zero s old new = old
each_sector P (x ∷ ss) zero (suc at) s old new = old
each_sector P (x ∷ ss) (suc i) (suc at) s old new = each_sector P ss i at s old (λ e. new (ap suc e))

same_bytes : (words : List ℕ) (w x k : ℕ) → (k / 2 ≡ w → ⊥) → get_or (bytes_of (set words w x)) k 0 ≡ get_or (bytes_of words) k 0
same_bytes [] w x k apart = refl
same_bytes (v ∷ words) zero x zero apart = absurd (apart (omega arith))
same_bytes (v ∷ words) zero x (suc zero) apart = absurd (apart (omega arith))
same_bytes (v ∷ words) zero x (suc (suc k)) apart = refl
same_bytes (v ∷ words) (suc w) x zero apart = refl
same_bytes (v ∷ words) (suc w) x (suc zero) apart = refl
same_bytes (v ∷ words) (suc w) x (suc (suc k)) apart = same_bytes words w x k (λ e. apart (omega arith))

abbrev IsSame : Pack → ℕ → ℕ → Sector → Type 0
IsSame p i k s = (get_or (bytes_of s.value) k 0 ≡ byte_at p i k) ⊎ IsHintByte p i k

-- one more word that is a hint, or one more label's links
pub changed : (p q : Pack) (at w x : ℕ) → ((k : ℕ) → k / 2 ≡ w → IsHintByte p at k) → SameButHints p q → SameButHints p (with_word at w x q)
changed p q at w x hint h = record {
  shape = h.shape;
  sectors = length-set q.sectors at new ∙ h.sectors;
  headers = λ i. each_sector (λ s. s.header ≡ (sector_at p i).header) q.sectors i at new (h.headers i) (λ e. subst (λ j. new.header ≡ (sector_at p j).header) (sym e) (h.headers at));
  labels = λ i. each_sector (λ s. drop 3 s.label ≡ drop 3 (sector_at p i).label) q.sectors i at new (h.labels i) (λ e. subst (λ j. drop 3 new.label ≡ drop 3 (sector_at p j).label) (sym e) (h.labels at));
  sizes = λ i. each_sector (λ s. length s.value ≡ length (sector_at p i).value) q.sectors i at new (h.sizes i) (λ e. subst (λ j. length new.value ≡ length (sector_at p j).value) (sym e) (length-set (sector_at q at).value w x ∙ h.sizes at));
  values = λ i k. each_sector (IsSame p i k) q.sectors i at new (h.values i k) (λ e. subst (λ j. IsSame p j k new) (sym e) (by k (cases_eq (k / 2) w) (h.values at k)));
}
  where
    new : Sector
    new = valued w x (sector_at q at)

    by : (k : ℕ) → (k / 2 ≡ w) ⊎ (k / 2 ≡ w → ⊥) → IsSame p at k (sector_at q at) → IsSame p at k new
    by k (inl is) old = inr (hint k is)
    by k (inr apart) (inl same) = inl (same_bytes (sector_at q at).value w x k apart ∙ same)
    by k (inr apart) (inr is) = inr is

pub linked : (p q : Pack) (at a b c : ℕ) → SameButHints p q → SameButHints p (with_links at a b c q)
linked p q at a b c h = record {
  shape = h.shape;
  sectors = length-set q.sectors at new ∙ h.sectors;
  headers = λ i. each_sector (λ s. s.header ≡ (sector_at p i).header) q.sectors i at new (h.headers i) (λ e. subst (λ j. new.header ≡ (sector_at p j).header) (sym e) (h.headers at));
  labels = λ i. each_sector (λ s. drop 3 s.label ≡ drop 3 (sector_at p i).label) q.sectors i at new (h.labels i) (λ e. subst (λ j. drop 3 new.label ≡ drop 3 (sector_at p j).label) (sym e) (h.labels at));
  sizes = λ i. each_sector (λ s. length s.value ≡ length (sector_at p i).value) q.sectors i at new (h.sizes i) (λ e. subst (λ j. length new.value ≡ length (sector_at p j).value) (sym e) (h.sizes at));
  values = λ i k. each_sector (IsSame p i k) q.sectors i at new (h.values i k) (λ e. subst (λ j. IsSame p j k new) (sym e) (h.values at k));
}
  where
    new : Sector
    new = relinked a b c (sector_at q at)

pub itself : (p : Pack) → SameButHints p p
itself p = record { shape = refl; sectors = refl; headers = λ i. refl; labels = λ i. refl; sizes = λ i. refl; values = λ i k. inl refl }
