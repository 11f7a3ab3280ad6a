-- A page of a file has one place: how many sectors hold the pages of one file.
use Rattle.std.proofs.Common.{◌&&◌, ◌+◌, ◌<◌, ◌==◌, ◌∙◌, ◌∷◌, ◌≡◌, ◌≢◌, ◌≤◌, Bool, List, None, Some, [], ap, arith, cond, eq-eqb, eqb-true, false, le-leb, leb-false, leb-true, nat_le, ne_eqb, refl, suc, sym, true, zero, ℕ}
use Rattle.std.proofs.lemmas.Bool.{eqb-false, lt-leb}
use Rattle.std.specs.Option.{is_some, option_or}
use Rattle.laws_operation.specs.alto_words.specs.Fid.{is_fid}
use Rattle.laws_operation.specs.alto_words.specs.declared.fid.Fid.{Fid}
use Rattle.laws_operation.specs.pack_model.specs.reading.Files.{carries_page, first, numbered, place, place_at}
use Rattle.laws_operation.specs.pack_model.specs.states.InUse.{how_many, is_place, of_page, one_if}
use Rattle.laws_operation.specs.pack_model.specs.reading.Sights.{Sight}
use Rattle.laws_operation.specs.pack_model.specs.reading.Sights.Sight.{free, hidden, holds, leads, stray}
use Rattle.laws_room.specs.CountLaws.{placed_pages}
use Rattle.laws_operation.specs.pack_laws.proofs.Keys.{is_fid-sym, same_fid}

-- ---- sums
-- a test that is the sum of two others holds as often as both together
pub sum_many : {X : Type 0} (t u v : X → Bool) → ((x : X) → one_if (t x) ≡ one_if (u x) + one_if (v x)) → (xs : List X) → how_many t xs ≡ how_many u xs + how_many v xs
sum_many t u v e [] = omega arith
sum_many t u v e (x ∷ xs) = let h = e x in let r = sum_many t u v e xs in omega arith

-- equal tests hold equally often
pub same_many : {X : Type 0} (t u : X → Bool) → ((x : X) → t x ≡ u x) → (xs : List X) → how_many t xs ≡ how_many u xs
same_many t u e [] = refl
same_many t u e (x ∷ xs) = ap (λ b. one_if b + how_many t xs) (e x) ∙ ap (λ n. one_if (u x) + n) (same_many t u e xs)

-- a test that never holds
pub none_many : {X : Type 0} (t : X → Bool) → ((x : X) → t x ≡ false) → (xs : List X) → how_many t xs ≡ 0
none_many t e [] = refl
none_many t e (x ∷ xs) = let h = ap one_if (e x) in let r = none_many t e xs in omega arith

-- the same of tests of pages
pub sum_page : (t u v : Fid → ℕ → Bool) → ((f : Fid) (n : ℕ) → one_if (t f n) ≡ one_if (u f n) + one_if (v f n)) → (s : Sight) → one_if (of_page t s) ≡ one_if (of_page u s) + one_if (of_page v s)
sum_page t u v e hidden = refl
sum_page t u v e free = refl
sum_page t u v e stray = refl
sum_page t u v e (leads f r l) = e f 0
sum_page t u v e (holds f n bytes) = e f (suc n)

-- equal tests of pages are equal on each sector
pub same_page : (t u : Fid → ℕ → Bool) → ((f : Fid) (n : ℕ) → t f n ≡ u f n) → (s : Sight) → of_page t s ≡ of_page u s
same_page t u e hidden = refl
same_page t u e free = refl
same_page t u e stray = refl
same_page t u e (leads f r l) = e f 0
same_page t u e (holds f n bytes) = e f (suc n)

-- a test that holds of no page
pub none_page : (s : Sight) → of_page (λ f n. false) s ≡ false
none_page hidden = refl
none_page free = refl
none_page stray = refl
none_page (leads f r l) = refl
none_page (holds f n bytes) = refl

-- ---- one page has one place
-- no sector from b on has an address below b
far_places : (t : Sight → Bool) (a b : ℕ) (ss : List Sight) → a < b → how_many (λ e. t e.1 && is_place e.0 (Some a)) (numbered b ss) ≡ 0
far_places t a b [] l = refl
far_places t a b (s ∷ ss) l =
    let h : (b == a) ≡ false = ne_eqb b a (omega arith) in
    ap (λ c. one_if (t s && c) + how_many (λ e. t e.1 && is_place e.0 (Some a)) (numbered (suc b) ss)) h
    ∙ ap (λ n. one_if (t s && false) + n) (far_places t a (suc b) ss (omega arith)) ∙ nothing (t s)
  where
    nothing : (c : Bool) → one_if (c && false) + 0 ≡ 0
    nothing true = refl
    nothing false = refl

-- of the sectors that carry a page one is its place, if it has one
one_place : (f : Fid) (n a : ℕ) (ss : List Sight) → how_many (λ e. carries_page f n e.1 && is_place e.0 (first (place_at f n) (numbered a ss))) (numbered a ss) ≡ one_if (is_some (first (place_at f n) (numbered a ss)))
unfolding first
one_place f n a [] = refl
one_place f n a (s ∷ ss) = by (one_place f n (suc a) ss) (carries_page f n s)
  where
    by : how_many (λ e. carries_page f n e.1 && is_place e.0 (first (place_at f n) (numbered (suc a) ss))) (numbered (suc a) ss) ≡ one_if (is_some (first (place_at f n) (numbered (suc a) ss)))
        → (c : Bool) → one_if (c && is_place a (option_or (cond c (Some a) None) (first (place_at f n) (numbered (suc a) ss)))) + how_many (λ e. carries_page f n e.1 && is_place e.0 (option_or (cond c (Some a) None) (first (place_at f n) (numbered (suc a) ss)))) (numbered (suc a) ss)
        ≡ one_if (is_some (option_or (cond c (Some a) None) (first (place_at f n) (numbered (suc a) ss))))
    by again false = let h = again in omega arith
    by again true = let h : (a == a) ≡ true = eq-eqb a a refl in ap (λ c. one_if c + how_many (λ e. carries_page f n e.1 && is_place e.0 (Some a)) (numbered (suc a) ss)) h ∙ (let r = far_places (carries_page f n) a (suc a) ss (omega arith) in omega arith)

-- ---- tests
-- a test and a true one
and_true : (b : Bool) → (b && true) ≡ b
and_true true = refl
and_true false = refl

-- a test and a false one
nothing_left : (c d : Bool) → (c && false && d) ≡ false
nothing_left true d = refl
nothing_left false d = refl

-- numbers one higher are equal where they are
suc_test : (n k : ℕ) → (suc n == suc k) ≡ (n == k)
suc_test n k = elim (n == k) as (λ b. (n == k) ≡ b → (suc n == suc k) ≡ b) [
  | true ↦ λ e. eq-eqb (suc n) (suc k) (let z = eqb-true n k e in omega arith)
  | false ↦ λ e. ne_eqb (suc n) (suc k) (let z = eqb-false n k e in omega arith)
] refl

-- ---- the pages of one file
module _ (ss : List Sight) (f : Fid) where
  -- the file's pages up to number n, each in its place
  abbrev pub up_to : ℕ → ℕ × Sight → Bool
  up_to n e = of_page (λ g k. is_fid g f && nat_le k n && is_place e.0 (place ss g k)) e.1

  -- page n alone
  abbrev only : ℕ → ℕ × Sight → Bool
  only n e = carries_page f n e.1 && is_place e.0 (place ss f n)

  -- a page of that file and number is this one
  only_same : (n at : ℕ) (g : Fid) (k : ℕ) → (is_fid g f && k == n && is_place at (place ss g k)) ≡ (is_fid f g && n == k && is_place at (place ss f n))
  only_same n at g k = by (is_fid g f) (k == n) refl refl
    where
      by : (a b : Bool) → is_fid g f ≡ a → (k == n) ≡ b → (a && b && is_place at (place ss g k)) ≡ (is_fid f g && n == k && is_place at (place ss f n))
      by true true p q =
          let e : k ≡ n = eqb-true k n q in
          sym (ap (λ c. c && n == k && is_place at (place ss f n)) (is_fid-sym f g ∙ p) ∙ ap (λ c. c && is_place at (place ss f n)) (eq-eqb n k (sym e)) ∙ ap (λ h. is_place at (place ss h n)) (sym (same_fid g f p)) ∙ ap (λ m. is_place at (place ss g m)) (sym e))
      by true false p q = sym (ap (λ c. is_fid f g && c && is_place at (place ss f n)) (ne_eqb n k (λ e. let x : true ≡ false = sym (eq-eqb k n (sym e)) ∙ q in cc)) ∙ nothing_left (is_fid f g) _)
      by false b p q = sym (ap (λ c. c && n == k && is_place at (place ss f n)) (is_fid-sym f g ∙ p))

  -- so on each sector
  only_page : (n at : ℕ) (s : Sight) → of_page (λ g k. is_fid g f && k == n && is_place at (place ss g k)) s ≡ (carries_page f n s && is_place at (place ss f n))
  only_page n at hidden = refl
  only_page n at free = refl
  only_page n at stray = refl
  only_page zero at (leads g r l) = only_same 0 at g 0 ∙ ap (λ b. b && is_place at (place ss f 0)) (and_true (is_fid f g))
  only_page (suc n) at (leads g r l) = ap (λ b. is_fid g f && b && is_place at (place ss g 0)) (ne_eqb 0 (suc n) (omega arith)) ∙ nothing_left (is_fid g f) (is_place at (place ss g 0))
  only_page zero at (holds g k bytes) = ap (λ b. is_fid g f && b && is_place at (place ss g (suc k))) (ne_eqb (suc k) 0 (omega arith)) ∙ nothing_left (is_fid g f) (is_place at (place ss g (suc k)))
  only_page (suc n) at (holds g k bytes) = only_same (suc n) at g (suc k) ∙ ap (λ b. is_fid f g && b && is_place at (place ss f (suc n))) (suc_test n k)

  -- pages up to n + 1 are pages up to n, and page n + 1
  one_more : (n k : ℕ) (a p : Bool) → one_if (a && nat_le k (suc n) && p) ≡ one_if (a && k == suc n && p) + one_if (a && nat_le k n && p)
  one_more n k false p = omega arith
  one_more n k true p = by (k == suc n) (nat_le k n) refl refl
    where
      by : (b c : Bool) → (k == suc n) ≡ b → nat_le k n ≡ c → one_if (nat_le k (suc n) && p) ≡ one_if (b && p) + one_if (c && p)
      by true true x y = absurd (let e : k ≡ suc n = eqb-true k (suc n) x in let l : k ≤ n = leb-true k n y in omega arith)
      by true false x y = let e : k ≡ suc n = eqb-true k (suc n) x in let h : nat_le k (suc n) ≡ true = le-leb k (suc n) (omega arith) in let r = ap (λ b. one_if (b && p)) h in omega arith
      by false true x y = let l : k ≤ n = leb-true k n y in let h : nat_le k (suc n) ≡ true = le-leb k (suc n) (omega arith) in let r = ap (λ b. one_if (b && p)) h in omega arith
      by false false x y =
          let e : k ≢ suc n = eqb-false k (suc n) x in
          let l : n < k = leb-false k n y in
          let h : nat_le k (suc n) ≡ false = lt-leb k (suc n) (omega arith) in
          let r = ap (λ b. one_if (b && p)) h in omega arith

  -- pages up to the leader are the leader
  first_page : (k : ℕ) (a p : Bool) → (a && nat_le k 0 && p) ≡ (a && k == 0 && p)
  first_page k false p = refl
  first_page k true p = by (k == 0) refl
    where
      by : (b : Bool) → (k == 0) ≡ b → (nat_le k 0 && p) ≡ (b && p)
      by true x = let e : k ≡ 0 = eqb-true k 0 x in ap (λ c. c && p) (le-leb k 0 (omega arith))
      by false x = let e : k ≢ 0 = eqb-false k 0 x in ap (λ c. c && p) (lt-leb k 0 (omega arith))

  -- page n has one sector, if some sector carries it
  only_many : (n : ℕ) → how_many (λ e. of_page (λ g k. is_fid g f && k == n && is_place e.0 (place ss g k)) e.1) (numbered 0 ss) ≡ one_if (is_some (place ss f n))
  only_many n = same_many _ (only n) (λ e. only_page n e.0 e.1) (numbered 0 ss) ∙ one_place f n 0 ss

  -- a file's pages up to number n have as many sectors as are carried
  pub file_many : (n : ℕ) → how_many (up_to n) (numbered 0 ss) ≡ placed_pages ss f n
  file_many zero = same_many (up_to 0) (λ e. of_page (λ g k. is_fid g f && k == 0 && is_place e.0 (place ss g k)) e.1) (λ e. same_page (λ g k. is_fid g f && nat_le k 0 && is_place e.0 (place ss g k)) (λ g k. is_fid g f && k == 0 && is_place e.0 (place ss g k)) (λ g k. first_page k (is_fid g f) (is_place e.0 (place ss g k))) e.1) (numbered 0 ss) ∙ only_many 0
  file_many (suc n) =
      let h = sum_many (up_to (suc n)) (λ e. of_page (λ g k. is_fid g f && k == suc n && is_place e.0 (place ss g k)) e.1) (up_to n)
      (λ e. sum_page (λ g k. is_fid g f && nat_le k (suc n) && is_place e.0 (place ss g k)) (λ g k. is_fid g f && k == suc n && is_place e.0 (place ss g k)) (λ g k. is_fid g f && nat_le k n && is_place e.0 (place ss g k)) (λ g k. one_more n k (is_fid g f) (is_place e.0 (place ss g k))) e.1) (numbered 0 ss) in
      let r = file_many n in
      let o = only_many (suc n) in
      omega arith
