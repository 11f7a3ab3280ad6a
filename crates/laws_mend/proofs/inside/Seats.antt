-- The sectors of pages one after another: as many as pages, and fewer than the pack has.
use Rattle.std.proofs.Common.{Bool, List, Some, [], ap, arith, eqb-true, false, length, ltb-true, nat_lt, refl, suc, sym, true, zero, ℕ, ◌<◌, ◌==◌, ◌∙◌, ◌∷◌, ◌≡◌, ◌≢◌}
use Rattle.std.proofs.lemmas.Bool.Decides.{Decides-eqb}
use Rattle.std.proofs.lemmas.List.Elements.{All-cons}
use Rattle.std.proofs.lemmas.List.Kept.{AllPairs-cons}
use Rattle.std.proofs.lemmas.Map.Made.{IsDistinct-from_AllPairs}
use Rattle.std.proofs.lemmas.Map.Steps.{length-le_from_distinct_below}
use Rattle.std.specs.List.{AllPairs, list_any}
use Rattle.std.specs.Prelude.{All, ◌||◌}
use Rattle.laws_room.specs.alto_words.specs.declared.fid.Fid.{Fid}
use Rattle.laws_room.specs.disk_records.specs.Addresses.{pages_of}
use Rattle.laws_room.specs.disk_records.specs.Packs.{Pack, is_usable, sector_at}
use Rattle.laws_room.specs.pack_model.specs.reading.Files.{place}
use Rattle.laws_room.specs.pack_model.specs.reading.Sights.{sights}
use Rattle.laws_room.specs.pack_laws.proofs.Guarding.{carried_parts}
use Rattle.laws_room.specs.pack_laws.proofs.Placing.{one_page}
use Rattle.laws_room.specs.laws_record.proofs.Copying.{place_carried}
use Rattle.laws_room.specs.laws_record.proofs.Heads.{and_left, and_right}

-- a number among those below n is below n
below_any : (n : ℕ) (xs : List ℕ) → All (λ i. i < n) xs → (q : ℕ) → list_any (λ x. q == x) xs ≡ true → q < n
below_any n [] below q h = absurd cc
below_any n (x ∷ xs) below q h = by (q == x) refl h (below_any n xs (λ k d l. below (suc k) d (omega arith)) q)
  where
    by : (t : Bool) → (q == x) ≡ t → (t || list_any (λ y. q == y) xs) ≡ true → (list_any (λ y. q == y) xs ≡ true → q < n) → q < n
    by true e h later = let z : q ≡ x = eqb-true q x e in let l = below 0 0 (omega arith) in omega arith
    by false e h later = later h

-- the sector of a page is one of the pack's, from sector 1 up
place_within : (p : Pack) (d : Fid) (n at : ℕ) → place (sights p) d n ≡ Some at → (0 < at) × (at < pages_of p.shape)
place_within p d n at is =
    let usable : is_usable p.shape at (sector_at p at) ≡ true = (carried_parts p at (record { fid = d; number = n }) (place_carried p (record { fid = d; number = n }) at is)).0 in (
      ltb-true 0 at (and_left (nat_lt 0 at) _ usable),
      ltb-true at (pages_of p.shape) (and_left (nat_lt at (pages_of p.shape)) _ (and_right (nat_lt 0 at) _ usable)),
    )

-- As many sectors as pages from the first on, each once, each of the pack.
record Seats (p : Pack) (d : Fid) (n : ℕ) : Type 0 where
  ats : List ℕ
  many : length ats ≡ n
  within : All (λ i. (0 < i) × (i < pages_of p.shape)) ats
  pages : All (λ i. (j : ℕ) × (j < n) × (place (sights p) d (suc j) ≡ Some i)) ats
  apart : AllPairs (λ i j. i ≢ j) ats

seats : (p : Pack) (d : Fid) (n : ℕ) → ((j : ℕ) → j < n → (at : ℕ) × (place (sights p) d (suc j) ≡ Some at)) → Seats p d n
seats p d zero has = record { ats = []; many = refl; within = λ k e l. absurd (omega arith); pages = λ k e l. absurd (omega arith); apart = λ i j e l m. absurd (omega arith) }
seats p d (suc n) has =
    let s = seats p d n (λ j l. has j (omega arith)) in
    let h = has n (omega arith) in
    record {
      ats = h.0 ∷ s.ats;
      many = ap suc s.many;
      within = All-cons (λ i. (0 < i) × (i < pages_of p.shape)) h.0 s.ats (place_within p d (suc n) h.0 h.1) s.within;
      pages = All-cons (λ i. (j : ℕ) × (j < suc n) × (place (sights p) d (suc j) ≡ Some i)) h.0 s.ats (n, omega arith, h.1) (λ k e l. let x = s.pages k e l in let m = x.1 in (x.0, omega arith, x.2));
      apart = AllPairs-cons (λ i j. i ≢ j) h.0 s.ats (λ k e l same. let x = s.pages k e l in let one = one_page (sights p) d d (suc n) (suc x.0) h.0 h.1 (x.2 ∙ ap Some (sym same)) in let y = one.1 in let m = x.1 in omega arith) s.apart;
    }

-- as sector 0 has no page, they are fewer than the pack's sectors
pub few_seats : (p : Pack) (d : Fid) (n : ℕ) → ((j : ℕ) → j < n → (at : ℕ) × (place (sights p) d (suc j) ≡ Some at)) → n < pages_of p.shape
few_seats p d n has =
    let s = seats p d n has in
    let apart : AllPairs (λ i j. i ≢ j) (0 ∷ s.ats) = AllPairs-cons (λ i j. i ≢ j) 0 s.ats (λ k e l same. let a = (s.within k e l).0 in omega arith) s.apart in
    let below : All (λ i. i < pages_of p.shape) (0 ∷ s.ats) = All-cons (λ i. i < pages_of p.shape) 0 s.ats (let least = p.shape.least_pages in omega arith) (λ k e l. (s.within k e l).1) in
    let few = length-le_from_distinct_below (0 ∷ s.ats) (pages_of p.shape) (IsDistinct-from_AllPairs Decides-eqb (0 ∷ s.ats) apart) (below_any (pages_of p.shape) (0 ∷ s.ats) below) in
    let many = s.many in
    omega arith
