-- The place of a page, among numbered sectors.
use Rattle.std.proofs.Common.{◌≡◌, ℕ, zero, suc, ◌+◌, ◌<◌, Bool, true, false, cond, List, [], ◌∷◌, length, get_or, set, Some, None, refl, sym, ap, subst, ◌∙◌, arith}
use Rattle.pack_model.specs.alto_words.specs.declared.fid.Fid.{Fid}
use Rattle.pack_model.specs.reading.Sights.{Sight}
use Rattle.pack_model.specs.reading.Sights.Sight.{hidden}
use Rattle.pack_model.specs.reading.Files.{first, Bears, numbered, carries_page, place_at, place}
use Rattle.pack_laws.proofs.Firsts.{first_of_bears, bears_of_first, first_same, none_each}

-- ---- which sectors carry a page
-- of sectors that carry a page the place is the lowest
pub record IsPlace (ss : List Sight) (f : Fid) (n at : ℕ) : Type 0 where
  pub within : at < length ss
  pub carries : (d : Sight) → carries_page f n (get_or ss at d) ≡ true
  pub lowest : (j : ℕ) (d : Sight) → j < at → carries_page f n (get_or ss j d) ≡ false

-- as many as there are
length-numbered : (from : ℕ) (ss : List Sight) → length (numbered from ss) ≡ length ss
length-numbered from [] = refl
length-numbered from (s ∷ ss) = ap suc (length-numbered (suc from) ss)

-- each with its address
get_or-numbered : (from : ℕ) (ss : List Sight) (i : ℕ) (d : ℕ × Sight) (e : Sight) → i < length ss → get_or (numbered from ss) i d ≡ (from + i, get_or ss i e)
get_or-numbered from [] i d e l = absurd (omega arith)
get_or-numbered from (s ∷ ss) zero d e l = let z : from ≡ from + 0 = omega arith in λ i. (z i, s)
get_or-numbered from (s ∷ ss) (suc i) d e l = let z : suc from + i ≡ from + suc i = omega arith in get_or-numbered (suc from) ss i d e (omega arith) ∙ (λ j. (z j, get_or ss i e))

-- what an answer says
place_at-Some : (f : Fid) (n at i : ℕ) (s : Sight) → place_at f n (i, s) ≡ Some at → (i ≡ at) × (carries_page f n s ≡ true)
place_at-Some f n at i s e = by (carries_page f n s) refl e
  where
    by : (t : Bool) → carries_page f n s ≡ t → cond t (Some i) None ≡ Some at → (i ≡ at) × (carries_page f n s ≡ true)
    by true is same = (cc, is)
    by false is same = absurd cc

-- what no answer says
place_at-None : (f : Fid) (n i : ℕ) (s : Sight) → place_at f n (i, s) ≡ None → carries_page f n s ≡ false
place_at-None f n i s e = by (carries_page f n s) refl e
  where
    by : (t : Bool) → carries_page f n s ≡ t → cond t (Some i) None ≡ None → carries_page f n s ≡ false
    by true is same = absurd cc
    by false is same = is

-- what is found is the place
pub place_is : (ss : List Sight) (f : Fid) (n at : ℕ) → place ss f n ≡ Some at → IsPlace ss f n at
place_is ss f n at e =
    let found = bears_of_first (place_at f n) (numbered 0 ss) at e in
    let i : ℕ = found.0 in
    let b : Bears (place_at f n) (numbered 0 ss) i at = found.1 in
    let w = b.within in
    let l : i < length ss = omega (arith, length-numbered 0 ss) in
    let z : 0 + i ≡ i = omega arith in
    let here : (d : Sight) → (0 + i ≡ at) × (carries_page f n (get_or ss i d) ≡ true) =
    λ d. place_at-Some f n at (0 + i) (get_or ss i d) (sym (ap (place_at f n) (get_or-numbered 0 ss i (0, d) d l)) ∙ b.answers (0, d)) in
    let same : i ≡ at = sym z ∙ (here hidden).0 in
    record {
      within = subst (λ k. k < length ss) same l;
      carries = λ d. ap (λ k. carries_page f n (get_or ss k d)) (sym same) ∙ (here d).1;
      lowest = λ j d m.
          let k : j < i = omega arith in
          place_at-None f n (0 + j) (get_or ss j d) (sym (ap (place_at f n) (get_or-numbered 0 ss j (0, d) d (omega arith))) ∙ b.lowest j (0, d) k);
    }

-- and the place is found
pub place_from : (ss : List Sight) (f : Fid) (n at : ℕ) → IsPlace ss f n at → place ss f n ≡ Some at
place_from ss f n at p =
    let l = p.within in
    let z : 0 + at ≡ at = omega arith in
    first_of_bears (place_at f n) (numbered 0 ss) at at (record {
      within = omega (arith, length-numbered 0 ss);
      answers = λ d. ap (place_at f n) (get_or-numbered 0 ss at d hidden l) ∙ ap (λ b. cond b (Some (0 + at)) None) (p.carries hidden) ∙ ap Some z;
      lowest = λ j d m. ap (place_at f n) (get_or-numbered 0 ss j d hidden (omega arith)) ∙ ap (λ b. cond b (Some (0 + j)) None) (p.lowest j hidden m);
    })

-- where there is no place no sector carries the page
pub place_none : (ss : List Sight) (f : Fid) (n at : ℕ) (d : Sight) → place ss f n ≡ None → at < length ss → carries_page f n (get_or ss at d) ≡ false
place_none ss f n at d e l =
    place_at-None f n (0 + at) (get_or ss at d)
    (sym (ap (place_at f n) (get_or-numbered 0 ss at (0, d) d l)) ∙ none_each (place_at f n) (numbered 0 ss) at (0, d) e (omega (arith, length-numbered 0 ss)))

-- ---- a place and its page
-- the addresses stay
numbered-set : (from : ℕ) (ss : List Sight) (i : ℕ) (s : Sight) → numbered from (set ss i s) ≡ set (numbered from ss) i (from + i, s)
numbered-set from [] i s = refl
numbered-set from (x ∷ ss) zero s = let z : from ≡ from + 0 = omega arith in λ j. (z j, s) ∷ numbered (suc from) ss
numbered-set from (x ∷ ss) (suc i) s = let z : suc from + i ≡ from + suc i = omega arith in ap (λ r. (from, x) ∷ r) (numbered-set (suc from) ss i s ∙ (λ j. set (numbered (suc from) ss) i (z j, s)))

-- places stay where a sector carries the same page as before
pub place_same : (ss : List Sight) (i : ℕ) (s : Sight) (f : Fid) (n : ℕ) → i < length ss → carries_page f n s ≡ carries_page f n (get_or ss i hidden) → place (set ss i s) f n ≡ place ss f n
place_same ss i s f n l e =
    ap (first (place_at f n)) (numbered-set 0 ss i s)
    ∙ first_same (place_at f n) (numbered 0 ss) i (0 + i, s) (0, hidden)
    (ap (λ b. cond b (Some (0 + i)) None) e ∙ ap (place_at f n) (sym (get_or-numbered 0 ss i (0, hidden) hidden l)))
