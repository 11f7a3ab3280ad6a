-- Available sectors, and those in use, when one sector shows something else.
use Rattle.std.proofs.Common.{◌+◌, ◌<◌, ◌∙◌, ◌∷◌, ◌≡◌, ◌≢◌, Bool, List, None, Option, Some, [], ap, arith, false, get_or, inl, inr, length, not, refl, set, subst, suc, sym, true, zero, ℕ}
use Rattle.std.proofs.Math.ListN.{length-set}
use Rattle.std.proofs.lemmas.Bool.{cases_eq, cases_lt}
use Rattle.std.proofs.lemmas.List.{get_or-set_other, get_or-set_same}
use Rattle.std.specs.Prelude.{◌&&◌}
use Rattle.laws_room.specs.alto_words.specs.declared.fid.Fid.{Fid}
use Rattle.laws_room.specs.disk_records.specs.declared.shape.Shape.{Shape}
use Rattle.laws_room.specs.pack_model.specs.reading.Files.{carries_page, numbered, place}
use Rattle.laws_room.specs.pack_model.specs.reading.Sights.{Sight}
use Rattle.laws_room.specs.pack_model.specs.reading.Sights.Sight.{hidden, free, stray, leads, holds}
use Rattle.laws_room.specs.pack_model.specs.states.InUse.{available, counts, how_many, in_use, is_available, is_good, is_place, one_if}
use Rattle.laws_room.specs.pack_model.specs.states.Sentences.{EachOnce}
use Rattle.laws_room.specs.pack_laws.proofs.Keys.{is_fid-itself}
use Rattle.laws_room.specs.pack_laws.proofs.Placing.{carries-holds, place_from, place_is, place_none, place_same}

-- ---- how many pass a test
-- as many, if each passes the one test as its neighbour passes the other
alike_many : (t u : ℕ × Sight → Bool) (from : ℕ) (ss tt : List Sight) → length tt ≡ length ss → ((j : ℕ) → u (from + j, get_or tt j hidden) ≡ t (from + j, get_or ss j hidden)) → how_many u (numbered from tt) ≡ how_many t (numbered from ss)
alike_many t u from [] [] l h = refl
alike_many t u from [] (y ∷ tt) l h = absurd (omega arith)
alike_many t u from (x ∷ ss) [] l h = absurd (omega arith)
alike_many t u from (x ∷ ss) (y ∷ tt) l h =
    let z : from ≡ from + 0 = omega arith in
    let here : u (from, y) ≡ t (from, x) = ap (λ n. u (n, y)) z ∙ h 0 ∙ ap (λ n. t (n, x)) (sym z) in
    let rest : how_many u (numbered (suc from) tt) ≡ how_many t (numbered (suc from) ss) =
    alike_many t u (suc from) ss tt (omega arith) (λ j. let s : suc from + j ≡ from + suc j = omega arith in ap (λ n. u (n, get_or tt j hidden)) s ∙ h (suc j) ∙ ap (λ n. t (n, get_or ss j hidden)) (sym s)) in
    λ i. one_if (here i) + rest i

-- one sight is another
pub one_changed : (t : Sight → Bool) (ss : List Sight) (i : ℕ) (s : Sight) → i < length ss → how_many t (set ss i s) + one_if (t (get_or ss i hidden)) ≡ how_many t ss + one_if (t s)
one_changed t [] i s l = absurd (omega arith)
one_changed t (x ∷ ss) zero s l = omega arith
one_changed t (x ∷ ss) (suc i) s l = let r = one_changed t ss i s (omega arith) in omega arith

-- ---- one sector that shows the same
-- it is in use as before, if its page counts and has its place as before
pub same_in_use : (shape : Shape) (ss tt : List Sight) (j : ℕ) (x : Sight) → ((g : Fid) (m : ℕ) → counts shape tt g m ≡ counts shape ss g m) → ((g : Fid) (m : ℕ) → carries_page g m x ≡ true → is_place j (place tt g m) ≡ is_place j (place ss g m)) → in_use shape tt (j, x) ≡ in_use shape ss (j, x)
same_in_use shape ss tt j hidden c h = refl
same_in_use shape ss tt j free c h = refl
same_in_use shape ss tt j stray c h = refl
same_in_use shape ss tt j (leads g r l) c h = let a = c g 0 in let b = h g 0 (is_fid-itself g) in λ i. a i && b i
same_in_use shape ss tt j (holds g k bytes) c h = let a = c g (suc k) in let b = h g (suc k) (carries-holds g k bytes) in λ i. a i && b i

-- ---- all sectors
pub available_alike : (shape : Shape) (ss tt : List Sight) → length tt ≡ length ss → ((j : ℕ) → is_available shape tt (j, get_or tt j hidden) ≡ is_available shape ss (j, get_or ss j hidden)) → available shape tt ≡ available shape ss
unfolding available
available_alike shape ss tt l h =
    alike_many (is_available shape ss) (is_available shape tt) 0 ss tt l
    (λ j. let z : 0 + j ≡ j = omega arith in ap (λ k. is_available shape tt (k, get_or tt j hidden)) z ∙ h j ∙ ap (λ k. is_available shape ss (k, get_or ss j hidden)) (sym z))

-- a free sector carries none
pub none_free : (g : Fid) (m : ℕ) → carries_page g m free ≡ false
none_free g zero = refl
none_free g (suc m) = refl

-- ---- a sector becomes free
module _ (shape : Shape) (ss : List Sight) (at : ℕ) (within : at < length ss) where
  abbrev tt : List Sight
  tt = set ss at free

  -- every other sector that carries a page is its place as before
  abbrev pub PlacesStay : Type 0
  PlacesStay = (j : ℕ) (g : Fid) (m : ℕ) → j ≢ at → carries_page g m (get_or ss j hidden) ≡ true → is_place j (place tt g m) ≡ is_place j (place ss g m)

  abbrev pub CountsStay : Type 0
  CountsStay = (g : Fid) (m : ℕ) → counts shape tt g m ≡ counts shape ss g m

  -- as many are available, if it was good and not in use
  pub freed_available : CountsStay → PlacesStay → is_good (get_or ss at hidden) ≡ true → in_use shape ss (at, get_or ss at hidden) ≡ false → available shape tt ≡ available shape ss
  freed_available counted placed good unused = available_alike shape ss tt (length-set ss at free) each
    where
      each : (j : ℕ) → is_available shape tt (j, get_or tt j hidden) ≡ is_available shape ss (j, get_or ss j hidden)
      each j = elim (cases_eq j at) [
        | inl same ↦
            ap (λ k. is_available shape tt (k, get_or tt k hidden)) same ∙ ap (λ x. is_available shape tt (at, x)) (get_or-set_same ss at free hidden within)
            ∙ (λ i. sym good i && not (sym unused i)) ∙ sym (ap (λ k. is_available shape ss (k, get_or ss k hidden)) same)
        | inr other ↦
            ap (λ x. is_available shape tt (j, x)) (get_or-set_other ss at j free hidden other)
            ∙ ap (λ b. is_good (get_or ss j hidden) && not b) (same_in_use shape ss tt j (get_or ss j hidden) counted (λ g m. placed j g m other))
      ]

  -- where no page is carried twice, every other page has its place as before
  pub once_place : EachOnce ss → (j : ℕ) (g : Fid) (m : ℕ) → j ≢ at → carries_page g m (get_or ss j hidden) ≡ true → place tt g m ≡ place ss g m
  once_place alone j g m other has = by (carries_page g m (get_or ss at hidden)) refl
    where
      by : (b : Bool) → carries_page g m (get_or ss at hidden) ≡ b → place tt g m ≡ place ss g m
      by true e = absurd (other (alone g m j at has e))
      by false e = place_same ss at free g m within (none_free g m ∙ sym e)

  -- where a lower sector carries its page, all pages have
  pub copy_place : (lower : ℕ) → lower < at → ((g : Fid) (m : ℕ) → carries_page g m (get_or ss at hidden) ≡ true → carries_page g m (get_or ss lower hidden) ≡ true) → (g : Fid) (m : ℕ) → place tt g m ≡ place ss g m
  copy_place lower less copied g m = by (carries_page g m (get_or ss at hidden)) refl
    where
      found : carries_page g m (get_or ss at hidden) ≡ true → (r : Option ℕ) → place ss g m ≡ r → place tt g m ≡ r
      found has None e = absurd (let none = place_none ss g m at hidden e within in let c : true ≡ false = sym has ∙ none in cc)
      found has (Some k) e =
          let old = place_is ss g m k e in
          let low : k < at = elim (cases_lt lower k) [
            | inl above ↦ absurd (let c : true ≡ false = sym (copied g m has) ∙ old.lowest lower hidden above in cc)
            | inr not_above ↦ omega arith
          ] in
          place_from tt g m k (record {
            within = subst (λ n. k < n) (sym (length-set ss at free)) old.within;
            carries = λ d. ap (carries_page g m) (get_or-set_other ss at k free d (omega arith)) ∙ old.carries d;
            lowest = λ j d lower. ap (carries_page g m) (get_or-set_other ss at j free d (omega arith)) ∙ old.lowest j d lower;
          })

      by : (b : Bool) → carries_page g m (get_or ss at hidden) ≡ b → place tt g m ≡ place ss g m
      by false e = place_same ss at free g m within (none_free g m ∙ sym e)
      by true e = found e (place ss g m) refl

  -- no page comes to be carried twice
  pub freed_once : EachOnce ss → EachOnce tt
  freed_once alone f n i j a b = alone f n i j (was i a) (was j b)
    where
      was : (k : ℕ) → carries_page f n (get_or tt k hidden) ≡ true → carries_page f n (get_or ss k hidden) ≡ true
      was k has = elim (cases_eq k at) [
        | inl same ↦ absurd (let c : true ≡ false = sym has ∙ ap (λ j. carries_page f n (get_or tt j hidden)) same ∙ ap (carries_page f n) (get_or-set_same ss at free hidden within) ∙ none_free f n in cc)
        | inr other ↦ sym (ap (carries_page f n) (get_or-set_other ss at k free hidden other)) ∙ has
      ]
