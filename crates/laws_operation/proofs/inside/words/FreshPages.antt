-- The claims of new pages: their sectors are free in turn, and they hold the bytes that are wanted, laid as a file's pages are.
use Rattle.std.proofs.Common.{List, [], ap, append-nil, arith, drop, get_or, inl, inr, length, min, refl, set, suc, sym, take, take-append-drop, true, ℕ, ◌%◌, ◌++◌, ◌+◌, ◌-◌, ◌/◌, ◌<◌, ◌∙◌, ◌∷◌, ◌≡◌, ◌≢◌, ◌≤◌, ◌⊎◌}
use Rattle.std.proofs.lemmas.Bool.{lt-ltb}
use Rattle.std.proofs.lemmas.List.{get_or-set_other, length-drop, length-take, length-take-le, take_all}
use Rattle.std.proofs.lemmas.List.Elements.{All-drop, All-take}
use Rattle.std.specs.List.{AllPairs}
use Rattle.std.specs.Prelude.{All}
use Rattle.laws_contents.specs.alto_words.specs.Fid.{is_full_name}
use Rattle.laws_contents.specs.alto_words.specs.declared.fid.Fid.{Fid}
use Rattle.laws_contents.specs.disk_records.specs.Addresses.{real_of}
use Rattle.laws_contents.specs.disk_records.specs.Packs.{Pack, is_free_at}
use Rattle.laws_contents.specs.disk_records.specs.declared.shape.Shape.{Shape}
use Rattle.laws_contents.specs.pack_model.specs.reading.Bytes.{bytes_of}
use Rattle.laws_contents.specs.pack_model.specs.operations.Commands.{Claimable, all_claimed, claims_of, past_last}
use Rattle.laws_contents.specs.pack_model.specs.operations.PageWords.{link_to_first, page_value}
use Rattle.laws_contents.specs.pack_model.specs.reading.Sights.{Sight, sights}
use Rattle.laws_contents.specs.pack_model.specs.reading.Sights.Sight.{free, hidden}
use Rattle.laws_contents.specs.pack_model.specs.states.Whole.{IsLaid, PageAt}
use Rattle.laws_operation.specs.ByteLaws.{together}
use Rattle.laws_operation.proofs.inside.words.Filled.{page_counted}
use Rattle.laws_operation.proofs.inside.words.Labels.{label_range}
use Rattle.laws_contents.specs.laws_record.proofs.Recording.{free_sight}

-- ---- their sectors
-- each of them is free in these sights
abbrev pub FreeIn : List Sight → List ℕ → Type 0
FreeIn ss fresh = All (λ i. get_or ss i hidden ≡ free) fresh

-- so are free sectors of a pack
pub free_in : (p : Pack) (fresh : List ℕ) → All (λ i. is_free_at p i ≡ true) fresh → FreeIn (sights p) fresh
free_in p fresh h k d l = free_sight p (get_or fresh k d) (h k d l)

-- where the first is taken the others are free still
others_free : (ss : List Sight) (at : ℕ) (fresh : List ℕ) (s : Sight) → FreeIn ss (at ∷ fresh) → AllPairs (λ i j. i ≢ j) (at ∷ fresh) → FreeIn (set ss at s) fresh
others_free ss at fresh s all apart k d l = get_or-set_other ss at (get_or fresh k d) s hidden (λ e. apart 0 (suc k) d (omega arith) (omega arith) (sym e)) ∙ all (suc k) d (omega arith)

-- they can be claimed one after another, by labels with numbers that are words
pub claims_able : (shape : Shape) (f : Fid) (past fresh : List ℕ) (ss : List Sight) (k previous : ℕ) (bytes : List ℕ) → is_full_name f ≡ true → FreeIn ss fresh → AllPairs (λ i j. i ≢ j) fresh → k + length fresh ≤ 65535
    → Claimable ss f k (claims_of shape f (suc k) previous bytes past fresh)
claims_able shape f past [] ss k previous bytes full all apart few = tt
claims_able shape f past (at ∷ fresh) ss k previous bytes full all apart few =
    let count : ℕ = min 512 (length bytes) in (
      all 0 0 (omega arith),
      refl,
      label_range f (suc k) count (link_to_first shape fresh) (real_of shape previous) full (omega arith) (omega arith),
      claims_able shape f past fresh _ (suc k) at (drop 512 bytes) full (others_free ss at fresh _ all apart) (λ i j d l m. apart (suc i) (suc j) d (omega arith) (omega arith)) (omega arith),
    )

-- ---- their bytes
-- these bytes in these sectors, as many in each as go into a page
abbrev pub in_pages : List ℕ → List ℕ → List PageAt
in_pages bytes [] = []
in_pages bytes (at ∷ fresh) = (at, take 512 bytes) ∷ in_pages (drop 512 bytes) fresh

-- as many sectors as the bytes want, the last of which isn't full
abbrev pub Hold : List ℕ → List ℕ → Type 0
Hold bytes fresh = length fresh ≡ suc (length bytes / 512)

-- the words after the last page are words, also where there are none
pub after_below : (past fresh : List ℕ) → All (λ w. w < 65536) past → All (λ w. w < 65536) (past_last past fresh)
after_below past [] words = words
after_below past (next ∷ fresh) words = λ k d l. absurd (omega arith)

-- the bytes that the claims make
pub claims_hold : (shape : Shape) (f : Fid) (past fresh : List ℕ) (number previous : ℕ) (bytes : List ℕ) → All (λ x. x < 256) bytes → All (λ w. w < 65536) past → length bytes % 512 + length (bytes_of past) ≤ 512
    → length fresh ≡ 0 ⊎ Hold bytes fresh → all_claimed (claims_of shape f number previous bytes past fresh) ≡ in_pages bytes fresh
claims_hold shape f past [] number previous bytes below words room many = refl
claims_hold shape f past (at ∷ fresh) number previous bytes below words room many =
    let own : List ℕ = take 512 bytes in
    let rest : length (drop 512 bytes) ≡ length bytes - 512 = length-drop 512 bytes in
    let size : length own ≡ min 512 (length bytes) = length-take 512 bytes in
    let hold : suc (length fresh) ≡ suc (length bytes / 512) = elim many [ inl none ↦ absurd (omega arith) | inr h ↦ h ] in
    let one : take (min 512 (length bytes)) (bytes_of (page_value own (past_last past fresh))) ≡ own = ap (λ n. take n (bytes_of (page_value own (past_last past fresh)))) (sym size) ∙ page_counted own (past_last past fresh) (fits fresh hold size) (All-take (λ x. x < 256) 512 bytes below) (after_below past fresh words) in
    (λ i. (at, one i) ∷ claims_hold shape f past fresh (suc number) at (drop 512 bytes) (All-drop (λ x. x < 256) 512 bytes below) words (omega arith) (later fresh hold rest) i)
  where
    fits : (fresh : List ℕ) → suc (length fresh) ≡ suc (length bytes / 512) → length (take 512 bytes) ≡ min 512 (length bytes) → length (take 512 bytes) + length (bytes_of (past_last past fresh)) ≤ 512
    fits [] h size = omega arith
    fits (next ∷ fresh) h size = omega arith

    later : (fresh : List ℕ) → suc (length fresh) ≡ suc (length bytes / 512) → length (drop 512 bytes) ≡ length bytes - 512 → length fresh ≡ 0 ⊎ Hold (drop 512 bytes) fresh
    later [] h rest = inl refl
    later (next ∷ fresh) h rest = inr (omega arith)

-- together they are these bytes
pub pages_together : (fresh bytes : List ℕ) → Hold bytes fresh → together (in_pages bytes fresh) ≡ bytes
pages_together [] bytes h = absurd (omega arith)
pages_together (at ∷ []) bytes h = append-nil (take 512 bytes) ∙ take_all 512 bytes (omega arith)
pages_together (at ∷ next ∷ fresh) bytes h =
    let rest : length (drop 512 bytes) ≡ length bytes - 512 = length-drop 512 bytes in
    ap (λ r. take 512 bytes ++ r) (pages_together (next ∷ fresh) (drop 512 bytes) (omega arith)) ∙ take-append-drop 512 bytes

-- and laid as a file's
pub pages_laid : (fresh bytes : List ℕ) → Hold bytes fresh → IsLaid (in_pages bytes fresh)
pages_laid [] bytes h = absurd (omega arith)
pages_laid (at ∷ []) bytes h = let size : length (take 512 bytes) ≡ min 512 (length bytes) = length-take 512 bytes in lt-ltb (length (take 512 bytes)) 512 (omega arith)
pages_laid (at ∷ next ∷ fresh) bytes h =
    let rest : length (drop 512 bytes) ≡ length bytes - 512 = length-drop 512 bytes in
    (length-take-le 512 bytes (omega arith), pages_laid (next ∷ fresh) (drop 512 bytes) (omega arith))
