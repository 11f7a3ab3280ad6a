-- The first answer of a list: when one place changes, step by step, and the place that bears it.
use Rattle.std.proofs.Common.{◌≡◌, ℕ, zero, suc, ◌<◌, ◌≢◌, List, [], ◌∷◌, ◌++◌, length, get_or, set, Option, Some, None, refl, sym, ap, ◌∙◌, arith}
use Rattle.std.specs.Option.{option_or}
use Rattle.std.proofs.lemmas.List.{get_or_default}
use Rattle.pack_model.specs.reading.Files.{first, Bears}
use Rattle.pack_laws.specs.FileLaws.{FirstIsBorne}

-- where neither answers the left one doesn't
none_left : {X : Type 0} (r q : Option X) → option_or r q ≡ None → r ≡ None
none_left None q e = refl
none_left (Some x) q e = cc

-- nor does the right one
none_right : {X : Type 0} (r q : Option X) → option_or r q ≡ None → q ≡ None
none_right None q e = e
none_right (Some x) q e = cc

-- what stands after an answer doesn't count
answered : {X : Type 0} (r p q : Option X) → (r ≡ None → ⊥) → option_or r p ≡ option_or r q
answered None p q some = absurd (some refl)
answered (Some x) p q some = refl

-- an answer twice is that answer
same_twice : {X : Type 0} (r : Option X) → option_or r r ≡ r
same_twice None = refl
same_twice (Some x) = refl

-- nothing after an answer
pub or_none : {X : Type 0} (r : Option X) → option_or r None ≡ r
or_none None = refl
or_none (Some x) = refl

-- three in a row
pub or_assoc : {X : Type 0} (p q r : Option X) → option_or (option_or p q) r ≡ option_or p (option_or q r)
or_assoc None q r = refl
or_assoc (Some x) q r = refl

module _ {S X : Type 0} (answer : S → Option X) where
  -- the new entry answers as the old one did
  pub first_same : (ss : List S) (i : ℕ) (s d : S) → answer s ≡ answer (get_or ss i d) → first answer (set ss i s) ≡ first answer ss
  unfolding first
  first_same [] i s d e = refl
  first_same (x ∷ ss) zero s d e = ap (λ r. option_or r (first answer ss)) e
  first_same (x ∷ ss) (suc i) s d e = ap (option_or (answer x)) (first_same ss i s d e)

  -- no entry answers
  pub first_none : (ss : List S) → ((k : ℕ) (d : S) → k < length ss → answer (get_or ss k d) ≡ None) → first answer ss ≡ None
  unfolding first
  first_none [] e = refl
  first_none (x ∷ ss) e = ap (λ r. option_or r (first answer ss)) (e 0 x (omega arith)) ∙ first_none ss (λ k d l. e (suc k) d (omega arith))

  -- and the other way
  pub none_each : (ss : List S) (k : ℕ) (d : S) → first answer ss ≡ None → k < length ss → answer (get_or ss k d) ≡ None
  unfolding first
  none_each [] k d e l = absurd (omega arith)
  none_each (x ∷ ss) zero d e l = none_left (answer x) (first answer ss) e
  none_each (x ∷ ss) (suc k) d e l = none_each ss k d (none_right (answer x) (first answer ss) e) (omega arith)

  -- no other entry answers
  pub first_alone : (ss : List S) (i : ℕ) (s : S) → i < length ss → ((k : ℕ) (d : S) → k < length ss → k ≢ i → answer (get_or ss k d) ≡ None) → first answer (set ss i s) ≡ answer s
  unfolding first
  first_alone [] i s l e = absurd (omega arith)
  first_alone (x ∷ ss) zero s l e = ap (option_or (answer s)) (first_none ss (λ k d m. e (suc k) d (omega arith) (omega arith))) ∙ or_none (answer s)
  first_alone (x ∷ ss) (suc i) s l e = ap (λ r. option_or r (first answer (set ss i s))) (e 0 x (omega arith) (omega arith)) ∙ first_alone ss i s (omega arith) (λ k d m n. e (suc k) d (omega arith) (omega arith))

  -- nobody answered before
  pub first_new : (ss : List S) (i : ℕ) (s : S) → i < length ss → first answer ss ≡ None → first answer (set ss i s) ≡ answer s
  first_new ss i s l e = first_alone ss i s l (λ k d m n. none_each ss k d e m)

  -- no lower entry answers, and the new one does
  pub first_lowest : (ss : List S) (i : ℕ) (s : S) (y : X) → i < length ss → ((k : ℕ) (d : S) → k < i → answer (get_or ss k d) ≡ None) → answer s ≡ Some y → first answer (set ss i s) ≡ Some y
  unfolding first
  first_lowest [] i s y l low e = absurd (omega arith)
  first_lowest (x ∷ ss) zero s y l low e = ap (λ r. option_or r (first answer ss)) e
  first_lowest (x ∷ ss) (suc i) s y l low e = ap (λ r. option_or r (first answer (set ss i s))) (low 0 x (omega arith)) ∙ first_lowest ss i s y (omega arith) (λ k d m. low (suc k) d (omega arith)) e

  -- a higher entry changes, and a lower one answers
  pub first_copy : (ss : List S) (i j : ℕ) (s d : S) → j < i → (answer (get_or ss j d) ≡ None → ⊥) → first answer (set ss i s) ≡ first answer ss
  unfolding first
  first_copy [] i j s d l some = refl
  first_copy (x ∷ ss) zero j s d l some = absurd (omega arith)
  first_copy (x ∷ ss) (suc i) zero s d l some = answered (answer x) _ _ some
  first_copy (x ∷ ss) (suc i) (suc j) s d l some = ap (option_or (answer x)) (first_copy ss i j s d (omega arith) some)

  -- an entry that didn't answer comes to answer as all do
  pub first_again : (ss : List S) (i : ℕ) (s d : S) → answer (get_or ss i d) ≡ None → answer s ≡ first answer ss → first answer (set ss i s) ≡ first answer ss
  unfolding first
  first_again [] i s d none e = refl
  first_again (x ∷ ss) zero s d none e =
      let z : first answer (x ∷ ss) ≡ first answer ss = ap (λ r. option_or r (first answer ss)) none in
      ap (λ r. option_or r (first answer ss)) (e ∙ z) ∙ same_twice (first answer ss) ∙ sym z
  first_again (x ∷ ss) (suc i) s d none e = by (answer x) refl e (first_again ss i s d none)
    where
      by : (r : Option X) → answer x ≡ r → answer s ≡ option_or r (first answer ss) → (answer s ≡ first answer ss → first answer (set ss i s) ≡ first answer ss)
          → option_or (answer x) (first answer (set ss i s)) ≡ option_or (answer x) (first answer ss)
      by None is e again = ap (option_or (answer x)) (again e)
      by (Some y) is e again = ap (λ r. option_or r (first answer (set ss i s))) is ∙ sym (ap (λ r. option_or r (first answer ss)) is)

-- ---- a step through a list
module _ {S X : Type 0} (answer : S → Option X) where
  -- a front that has been seen, and the rest
  pub first_append : (ss tt : List S) → first answer (ss ++ tt) ≡ option_or (first answer ss) (first answer tt)
  unfolding first
  first_append [] tt = refl
  first_append (x ∷ ss) tt = ap (option_or (answer x)) (first_append ss tt) ∙ sym (or_assoc (answer x) (first answer ss) (first answer tt))

  -- one more entry after them
  pub first_more : (ss : List S) (s : S) → first answer (ss ++ s ∷ []) ≡ option_or (first answer ss) (answer s)
  unfolding first
  first_more ss s = first_append ss (s ∷ []) ∙ ap (option_or (first answer ss)) (or_none (answer s))

-- ---- the place that bears the first answer
module _ {S X : Type 0} (answer : S → Option X) where
  -- what a place bears is the first answer
  pub first_of_bears : (ss : List S) (i : ℕ) (x : X) → Bears answer ss i x → first answer ss ≡ Some x
  unfolding first
  first_of_bears [] i x b = let l = b.within in absurd (omega arith)
  first_of_bears (s ∷ ss) zero x b = ap (λ r. option_or r (first answer ss)) (b.answers s)
  first_of_bears (s ∷ ss) (suc i) x b =
      ap (λ r. option_or r (first answer ss)) (b.lowest 0 s (omega arith))
      ∙ first_of_bears ss i x (let w = b.within in record { within = omega arith; answers = b.answers; lowest = λ j d l. b.lowest (suc j) d (omega arith) })

  -- the first answer is borne by some place
  pub bears_of_first : (ss : List S) (x : X) → first answer ss ≡ Some x → (i : ℕ) × Bears answer ss i x
  unfolding first
  bears_of_first [] x e = absurd cc
  bears_of_first (s ∷ ss) x e = by (bears_of_first ss x) (answer s) refl
    where
      by : (first answer ss ≡ Some x → (i : ℕ) × Bears answer ss i x) → (r : Option X) → answer s ≡ r → (i : ℕ) × Bears answer (s ∷ ss) i x
      by again (Some y) is =
          let same : y ≡ x = (let both : Some y ≡ Some x = ap (λ r. option_or r (first answer ss)) (sym is) ∙ e in cc) in
          (0, record { within = omega arith; answers = λ d. is ∙ ap Some same; lowest = λ j d l. absurd (omega arith) })
      by again None is =
          let rest = again (ap (λ r. option_or r (first answer ss)) (sym is) ∙ e) in
          let w = rest.1.within in (
            suc rest.0,
            record {
              within = omega arith;
              answers = rest.1.answers;
              lowest = λ j d. elim j as (λ j. j < suc rest.0 → answer (get_or (s ∷ ss) j d) ≡ None) [ zero ↦ λ l. is | suc j ↦ λ l. rest.1.lowest j d (omega arith) ];
            },
          )

  -- the place that bears an answer bears a new one, where its new entry answers
  pub first_borne : (ss : List S) (i : ℕ) (x y : X) (s : S) → Bears answer ss i x → answer s ≡ Some y → first answer (set ss i s) ≡ Some y
  first_borne ss i x y s b e = first_lowest answer ss i s y b.within b.lowest e

  -- both ways
  pub first_is_borne : (ss : List S) → FirstIsBorne answer ss
  first_is_borne ss = record { given = first_of_bears ss; borne = bears_of_first ss }

module _ {S X : Type 0} (answer : S → Option X) where
  -- the next one that answers gives the same answer, and so the first one may go
  pub first_moves : (ss : List S) (i j : ℕ) (s d : S) (x : X) → i < j → j < length ss → answer (get_or ss i d) ≡ Some x → answer (get_or ss j d) ≡ Some x → ((k : ℕ) (e : S) → i < k → k < j → answer (get_or ss k e) ≡ None) → answer s ≡ None → first answer (set ss i s) ≡ first answer ss
  unfolding first
  first_moves [] i j s d x l w here there none e = refl
  first_moves (y ∷ ss) zero zero s d x l w here there none e = absurd (omega arith)
  first_moves (y ∷ ss) zero (suc j) s d x l w here there none e =
      ap (λ r. option_or r (first answer ss)) e
      ∙ first_of_bears answer ss j x (record { within = omega arith; answers = λ c. ap answer (get_or_default ss j c d (omega arith)) ∙ there; lowest = λ k c m. none (suc k) c (omega arith) (omega arith) })
      ∙ sym (ap (λ r. option_or r (first answer ss)) here)
  first_moves (y ∷ ss) (suc i) zero s d x l w here there none e = absurd (omega arith)
  first_moves (y ∷ ss) (suc i) (suc j) s d x l w here there none e =
      ap (option_or (answer y)) (first_moves ss i j s d x (omega arith) (omega arith) here there (λ k c m n. none (suc k) c (omega arith) (omega arith)) e)
