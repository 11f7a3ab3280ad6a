-- A file and free sectors for more of its pages: together they are no more than the pack's sectors, so their numbers are words.
use Rattle.std.proofs.Common.{Bool, List, Some, [], ap, arith, eqb-true, false, get_or, length, refl, suc, sym, true, ℕ, ◌++◌, ◌+◌, ◌/◌, ◌<◌, ◌==◌, ◌∙◌, ◌∷◌, ◌≡◌, ◌≢◌, ◌≤◌}
use Rattle.std.proofs.lemmas.Bool.{ltb-true}
use Rattle.std.proofs.lemmas.Bool.Decides.{Decides-eqb}
use Rattle.std.proofs.lemmas.List.{length-append}
use Rattle.std.proofs.lemmas.List.Elements.{All-cons}
use Rattle.std.proofs.lemmas.List.Kept.{AllPairs-cons}
use Rattle.std.proofs.lemmas.Map.Made.{IsDistinct-from_AllPairs}
use Rattle.std.proofs.lemmas.Map.Steps.{length-le_from_distinct_below}
use Rattle.std.specs.List.{AllPairs, list_any}
use Rattle.std.specs.Prelude.{All, nat_lt, ◌||◌}
use Rattle.laws_contents.specs.alto_words.specs.declared.fid.Fid.{Fid}
use Rattle.laws_contents.specs.disk_records.specs.Addresses.{pages_of}
use Rattle.laws_contents.specs.disk_records.specs.Packs.{Pack, is_usable, sector_at}
use Rattle.laws_contents.specs.pack_model.specs.operations.Commands.{sectors_of}
use Rattle.laws_contents.specs.pack_model.specs.operations.Committing.{page_of_byte}
use Rattle.laws_contents.specs.pack_model.specs.reading.Files.{file_bytes, place}
use Rattle.laws_contents.specs.pack_model.specs.reading.Model.{good_one}
use Rattle.laws_contents.specs.pack_model.specs.reading.Sights.{Sight, sights}
use Rattle.laws_contents.specs.pack_model.specs.reading.Sights.Sight.{free, hidden, holds}
use Rattle.laws_contents.specs.pack_model.specs.states.Whole.{PageAt, Seated, Whole}
use Rattle.laws_contents.specs.laws_record.proofs.Heads.{and_left, and_right}
use Rattle.laws_operation.proofs.Grown.{last_page}
use Rattle.laws_operation.proofs.Lying.{bytes_laid, same_number}
use Rattle.laws_operation.proofs.Rows.{pages_by_bytes}
use Rattle.laws_operation.proofs.Seating.{carries_none}
use Rattle.laws_operation.proofs.Showing.{usable_is}
use Rattle.laws_operation.specs.ByteLaws.{together}
use Rattle.laws_operation.proofs.inside.words.FreshPages.{FreeIn}

-- ---- numbers below another
-- a number among those below n is below n
below_any : (n : ℕ) (xs : List ℕ) → All (λ i. i < n) xs → (q : ℕ) → list_any (λ x. q == x) xs ≡ true → q < n
below_any n [] below q h = absurd cc
below_any n (x ∷ xs) below q h = by (q == x) refl h (below_any n xs (λ k d l. below (suc k) d (omega arith)) q)
  where
    by : (t : Bool) → (q == x) ≡ t → (t || list_any (λ y. q == y) xs) ≡ true → (list_any (λ y. q == y) xs ≡ true → q < n) → q < n
    by true e h later = let z : q ≡ x = eqb-true q x e in let l = below 0 0 (omega arith) in omega arith
    by false e h later = later h

-- distinct ones are at most n
distinct_few : (n : ℕ) (xs : List ℕ) → AllPairs (λ i j. i ≢ j) xs → All (λ i. i < n) xs → length xs ≤ n
distinct_few n xs apart below = length-le_from_distinct_below xs n (IsDistinct-from_AllPairs Decides-eqb xs apart) (below_any n xs below)

-- ---- pages in their sectors, and free sectors
module _ (ss : List Sight) (f : Fid) (fresh : List ℕ) (all : FreeIn ss fresh) (apart : AllPairs (λ i j. i ≢ j) fresh) where
  -- a page's sector isn't one of later pages, nor free
  other_seats : (k at : ℕ) (bytes : List ℕ) → get_or ss at hidden ≡ holds f k bytes → (m : ℕ) (cs : List PageAt) → k < m → Seated ss f m cs → All (λ j. at ≢ j) (sectors_of cs ++ fresh)
  other_seats k at bytes is m [] less seated = λ i d l e. let clash : holds f k bytes ≡ free = sym is ∙ ap (λ j. get_or ss j hidden) e ∙ all i d l in absurd cc
  other_seats k at bytes is m (c ∷ cs) less seated =
      All-cons (λ j. at ≢ j) c.0 (sectors_of cs ++ fresh) (λ e. let z : k ≡ m = same_number f k m bytes c.1 (sym is ∙ ap (λ j. get_or ss j hidden) e ∙ seated.0) in omega arith)
      (other_seats k at bytes is (suc m) cs (omega arith) seated.1)

  -- so they are distinct
  seats_apart : (k : ℕ) (cs : List PageAt) → Seated ss f k cs → AllPairs (λ i j. i ≢ j) (sectors_of cs ++ fresh)
  seats_apart k [] seated = apart
  seats_apart k (c ∷ cs) seated = AllPairs-cons (λ i j. i ≢ j) c.0 (sectors_of cs ++ fresh) (other_seats k c.0 c.1 seated.0 (suc k) cs (omega arith) seated.1) (seats_apart (suc k) cs seated.1)

  -- and good
  seats_good : (k : ℕ) (cs : List PageAt) → Seated ss f k cs → All (λ j. good_one (get_or ss j hidden) ≡ 1) (sectors_of cs ++ fresh)
  seats_good k [] seated = λ i d l. ap good_one (all i d l)
  seats_good k (c ∷ cs) seated = All-cons (λ j. good_one (get_or ss j hidden) ≡ 1) c.0 (sectors_of cs ++ fresh) (ap good_one seated.0) (seats_good (suc k) cs seated.1)

-- as many sectors as pages
sectors_many : (cs : List PageAt) → length (sectors_of cs) ≡ length cs
sectors_many [] = refl
sectors_many (c ∷ cs) = ap suc (sectors_many cs)

-- a good sector isn't the first, and is one of the pack's
good_within : (p : Pack) (i : ℕ) → good_one (get_or (sights p) i hidden) ≡ 1 → (0 < i) × (i < pages_of p.shape)
good_within p i good =
    let usable : is_usable p.shape i (sector_at p i) ≡ true = usable_is p i good in (
      ltb-true 0 i (and_left (nat_lt 0 i) _ usable),
      ltb-true i (pages_of p.shape) (and_left (nat_lt i (pages_of p.shape)) _ (and_right (nat_lt 0 i) _ usable)),
    )

-- the pages of a whole file and those that may come are fewer than the pack's sectors
pub few_pages : (p : Pack) (f : Fid) (at : ℕ) (fresh : List ℕ) → Whole p → place (sights p) f (page_of_byte (length (file_bytes (sights p) f))) ≡ Some at → FreeIn (sights p) fresh → AllPairs (λ i j. i ≢ j) fresh
    → page_of_byte (length (file_bytes (sights p) f)) + length fresh < pages_of p.shape
few_pages p f at fresh w sector all apart =
    let ss : List Sight = sights p in
    let last = last_page ss f at (w.files f) sector in
    let h = last.spot in
    let pages : List PageAt = h.front ++ (at, last.old) ∷ h.later in
    let size : length (file_bytes ss f) ≡ length (together pages) = ap length (bytes_laid ss f pages (length pages) [] (carries_none ss f pages 0 (length pages) h.carries) (omega arith) h.laid h.few) in
    let many : length pages ≡ suc (length (together pages) / 512) = pages_by_bytes pages h.laid in
    let used : List ℕ = sectors_of pages ++ fresh in
    let good = seats_good ss f fresh all apart 0 pages h.carries.seated in
    let within : All (λ j. (0 < j) × (j < pages_of p.shape)) used = λ k d l. good_within p (get_or used k d) (good k d l) in
    let usable : at < pages_of p.shape = (good_within p at (ap good_one last.shows)).1 in
    let first : AllPairs (λ i j. i ≢ j) (0 ∷ used) = AllPairs-cons (λ i j. i ≢ j) 0 used (λ k d l e. let a = (within k d l).0 in omega arith) (seats_apart ss f fresh all apart 0 pages h.carries.seated) in
    let below : All (λ j. j < pages_of p.shape) (0 ∷ used) = All-cons (λ j. j < pages_of p.shape) 0 used (omega arith) (λ k d l. (within k d l).1) in
    let most : suc (length used) ≤ pages_of p.shape = distinct_few (pages_of p.shape) (0 ∷ used) first below in
    let both : length used ≡ length (sectors_of pages) + length fresh = length-append (sectors_of pages) fresh in
    let seats : length (sectors_of pages) ≡ length pages = sectors_many pages in
    omega (arith, size, many, most, both, seats)
