-- The free sectors of a formatted pack, and the map in its DiskDescriptor.
use Rattle.std.proofs.Common.{◌≡◌, ℕ, zero, suc, ◌<◌, Bool, true, false, not, List, ◌∷◌, ◌++◌, refl, sym, ap, subst, ◌∙◌, arith, replicate, map, get_or}
use Rattle.std.specs.Prelude.{◌&&◌, nat_le, nat_lt}
use Rattle.std.proofs.lemmas.Bool.{le-leb, lt-leb, lt-ltb}
use Rattle.laws_hint.specs.disk_records.specs.declared.shape.Shape.{Shape}
use Rattle.laws_hint.specs.disk_records.specs.Addresses.{pages_of}
use Rattle.laws_hint.specs.disk_records.specs.Packs.{Pack, is_free_at}
use Rattle.laws_hint.specs.pack_model.specs.reading.Sights.{Sight, sights}
use Rattle.laws_hint.specs.pack_model.specs.reading.Sights.Sight.{hidden, free}
use Rattle.laws_hint.specs.pack_model.specs.states.InUse.{free_sector_count, how_many, is_free_sight}
use Rattle.laws_hint.specs.pack_model.specs.hints.Tables.{free_table}
use Rattle.laws_hint.specs.pack_model.specs.sessions.Descriptor.{data_pages}
use Rattle.laws_hint.specs.pack_model.specs.sessions.Format.{format_table, formatted, free_after_format, sectors_used}
use Rattle.laws_hint.specs.laws_room.proofs.Found.{found_shown}
use Rattle.laws_format.proofs.inside.Pages.{its_bytes}
use Rattle.laws_format.proofs.inside.Shown.{each, later_shown, sector_of, shown}
use Rattle.laws_format.proofs.inside.Sighting.{formatted_sights, used_few}

-- ---- the map of free sectors
frees_mapped : (n : ℕ) → map (λ s. not (is_free_sight s)) (replicate n free) ≡ replicate n false
frees_mapped zero = refl
frees_mapped (suc n) = ap (λ r. false ∷ r) (frees_mapped n)

later_mapped : (b : ℕ → List ℕ) (n k frees : ℕ) → map (λ s. not (is_free_sight s)) (later_shown b n k frees) ≡ replicate k true ++ replicate frees false
later_mapped b n zero frees = frees_mapped frees
later_mapped b n (suc k) frees = ap (λ r. true ∷ r) (later_mapped b (suc n) k frees)

-- the number of free sectors in it
frees_many : (n : ℕ) → how_many not (replicate n false) ≡ n
frees_many zero = refl
frees_many (suc n) = let e = frees_many n in omega arith

pub table_many : (used frees : ℕ) → how_many not (replicate used true ++ replicate frees false) ≡ frees
table_many zero frees = frees_many frees
table_many (suc used) frees = let e = table_many used frees in omega arith

shown_many : (n : ℕ) → how_many is_free_sight (replicate n free) ≡ n
shown_many zero = refl
shown_many (suc n) = let e = shown_many n in omega arith

later_many : (b : ℕ → List ℕ) (n k frees : ℕ) → how_many is_free_sight (later_shown b n k frees) ≡ frees
later_many b n zero frees = shown_many frees
later_many b n (suc k) frees = let e = later_many b (suc n) k frees in omega arith

module _ (shape : Shape) (number moment : ℕ) where
  abbrev p : Pack
  p = formatted shape number moment

  abbrev ss : List Sight
  ss = shown moment (its_bytes shape) (data_pages shape) (free_after_format shape)

  pub free_map : free_table p ≡ format_table shape
  free_map =
      let z : suc (suc (suc (suc (data_pages shape)))) ≡ sectors_used shape = omega arith in
      ap (map (λ s. not (is_free_sight s))) (formatted_sights shape number moment)
      ∙ ap (λ r. true ∷ true ∷ true ∷ true ∷ r) (later_mapped (its_bytes shape) 0 (data_pages shape) (free_after_format shape))
      ∙ ap (λ n. replicate n true ++ replicate (free_after_format shape) false) z

  pub free_many : free_sector_count (sights p) ≡ free_after_format shape
  free_many =
      let e = later_many (its_bytes shape) 0 (data_pages shape) (free_after_format shape) in
      ap free_sector_count (formatted_sights shape number moment) ∙ (omega arith)

  -- ---- which they are
  abbrev is_later : ℕ → Bool
  is_later at = nat_le (sectors_used shape) at && nat_lt at (pages_of shape)

  before : (at : ℕ) → at < sectors_used shape → false ≡ is_later at
  before at low = sym (ap (λ b. b && nat_lt at (pages_of shape)) (lt-leb (sectors_used shape) at low))

  which_shown : (i : ℕ) → is_free_sight (get_or ss i hidden) ≡ is_later i
  which_shown =
      let used = used_few shape in
      each (λ i s. is_free_sight s ≡ is_later i) moment (its_bytes shape) (data_pages shape) (free_after_format shape)
      (before 0 (omega arith))
      (before 1 (omega arith))
      (before 2 (omega arith))
      (before 3 (omega arith))
      (λ j low. before (sector_of j) (omega arith))
      (λ i low high. sym (λ t. le-leb (sectors_used shape) (sector_of i) (omega arith) t && lt-ltb (sector_of i) (pages_of shape) (omega arith) t))
      (λ i low. sym (λ t. le-leb (sectors_used shape) (sector_of i) (omega arith) t && lt-leb (suc (sector_of i)) (pages_of shape) (omega arith) t))

  pub which : (at : ℕ) → is_free_at p at ≡ is_later at
  which at = found_shown p at ∙ subst (λ ss. is_free_sight (get_or ss at hidden) ≡ is_later at) (sym (formatted_sights shape number moment)) (which_shown at)
