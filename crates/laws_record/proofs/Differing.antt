-- Bytes that differ at most in some places: pages, files, and words.
use Rattle.std.proofs.Common.{◌*◌, ◌++◌, ◌+◌, ◌-◌, ◌/◌, ◌<◌, ◌∙◌, ◌∷◌, ◌≡◌, ◌≤◌, ◌⊎◌, Bool, List, None, Option, Some, [], ap, arith, cond, false, get_or, inl, inr, length, length-append, ltb-false, nat_lt, refl, subst, suc, sym, true, zero, ℕ}
use Rattle.std.proofs.lemmas.Bool.{cases_lt}
use Rattle.std.proofs.lemmas.Grind.{same_number_lists}
use Rattle.std.proofs.lemmas.List.{get_or-append_right, get_or_append_left}
use Rattle.pack_laws.specs.disk_records.specs.Words.{word}
use Rattle.pack_laws.specs.pack_model.specs.reading.Bytes.{words_of}
use Rattle.pack_laws.specs.pack_model.specs.reading.Files.{joined}
use Rattle.pack_laws.proofs.Bytes.{length-words_of}
use Rattle.pack_laws.proofs.Joining.{AreShort, continue, joined-suc, joined-zero}

-- as many bytes, and the same but in these places, which count from a base on
pub record DiffersIn (D : ℕ → Type 0) (base : ℕ) (a b : List ℕ) : Type 0 where
  pub size : length b ≡ length a
  pub bytes : (k : ℕ) → k < length a → (get_or b k 0 ≡ get_or a k 0) ⊎ D (base + k)

-- both pages are missing, or neither is
abbrev pub PageDiffersIn : (ℕ → Type 0) → ℕ → Option (List ℕ) → Option (List ℕ) → Type 0
PageDiffersIn D base None None = Unit {0}
PageDiffersIn D base None (Some b) = ⊥
PageDiffersIn D base (Some a) None = ⊥
PageDiffersIn D base (Some a) (Some b) = DiffersIn D base a b

module _ (D : ℕ → Type 0) where
  -- a full page, and the rest
  differs_append : (base : ℕ) (a b x y : List ℕ) → length a ≡ 512 → DiffersIn D base a b → DiffersIn D (base + 512) x y → DiffersIn D base (a ++ x) (b ++ y)
  differs_append base a b x y full h g =
      let sa = length-append a x in
      let sb = length-append b y in
      let hs = h.size in
      let gs = g.size in
      record {
        size = omega arith;
        bytes = λ k l. elim (cases_lt k 512) [
          | inl low ↦ (let e = get_or_append_left a x 0 k (omega arith) in let f = get_or_append_left b y 0 k (omega arith) in elim (h.bytes k (omega arith)) [ inl same ↦ inl (f ∙ same ∙ sym e) | inr d ↦ inr d ])
          | inr high ↦ (let e = get_or-append_right a x 512 k 0 full high in let f = get_or-append_right b y 512 k 0 (hs ∙ full) high in
              let z : base + 512 + (k - 512) ≡ base + k = omega arith in
              elim (g.bytes (k - 512) (omega arith)) [ inl same ↦ inl (f ∙ same ∙ sym e) | inr d ↦ inr (subst D z d) ])
        ];
      }

  -- pages in order
  pub joined_differs : (fuel : ℕ) (P Q : ℕ → Option (List ℕ)) (base : ℕ) → AreShort P → ((n : ℕ) → PageDiffersIn D (base + 512 * n) (P n) (Q n)) → DiffersIn D base (joined fuel P) (joined fuel Q)
  joined_differs zero P Q base short h =
      let p = ap length (joined-zero P) in
      let q = ap length (joined-zero Q) in
      record { size = omega arith; bytes = λ k l. absurd (omega arith) }
  joined_differs (suc fuel) P Q base short h =
      let z : base + 512 * 0 ≡ base = omega arith in
      let rest : DiffersIn D (base + 512) (joined fuel (λ n. P (suc n))) (joined fuel (λ n. Q (suc n))) =
      joined_differs fuel (λ n. P (suc n)) (λ n. Q (suc n)) (base + 512) (record { short = λ n. short.short (suc n) })
      (λ n. let w : base + 512 * suc n ≡ base + 512 + 512 * n = omega arith in subst (λ x. PageDiffersIn D x (P (suc n)) (Q (suc n))) w (h (suc n))) in
      let one : DiffersIn D base (continue (P 0) (joined fuel (λ n. P (suc n)))) (continue (Q 0) (joined fuel (λ n. Q (suc n)))) =
      by (P 0) (Q 0) (short.short 0) (subst (λ x. PageDiffersIn D x (P 0) (Q 0)) z (h 0)) rest in
      subst (λ x. DiffersIn D base x (joined (suc fuel) Q)) (sym (joined-suc fuel P)) (subst (DiffersIn D base (continue (P 0) (joined fuel (λ n. P (suc n))))) (sym (joined-suc fuel Q)) one)
    where
      split : (a b x y : List ℕ) (t : Bool) → nat_lt (length a) 512 ≡ t → length a ≤ 512 → DiffersIn D base a b → DiffersIn D (base + 512) x y → DiffersIn D base (cond t a (a ++ x)) (cond t b (b ++ y))
      split a b x y true e short h g = h
      split a b x y false e short h g = let full = ltb-false (length a) 512 e in differs_append base a b x y (omega arith) h g

      by : (r s : Option (List ℕ)) → ((bytes : List ℕ) → r ≡ Some bytes → length bytes ≤ 512) → PageDiffersIn D base r s → DiffersIn D (base + 512) (joined fuel (λ n. P (suc n))) (joined fuel (λ n. Q (suc n)))
          → DiffersIn D base (continue r (joined fuel (λ n. P (suc n)))) (continue s (joined fuel (λ n. Q (suc n))))
      by None None short h g = record { size = refl; bytes = λ k l. inl refl }
      by None (Some b) short h g = absurd h
      by (Some a) None short h g = absurd h
      by (Some a) (Some b) short h g =
          subst (λ t. DiffersIn D base (cond (nat_lt (length a) 512) a (a ++ joined fuel (λ n. P (suc n)))) (cond t b (b ++ joined fuel (λ n. Q (suc n))))) (ap (λ n. nat_lt n 512) (sym h.size))
          (split a b (joined fuel (λ n. P (suc n))) (joined fuel (λ n. Q (suc n))) (nat_lt (length a) 512) refl (short a refl) h g)

  -- bytes that differ nowhere
  pub differs_nowhere : (a b : List ℕ) → DiffersIn D 0 a b → ((k : ℕ) → D k → ⊥) → b ≡ a
  differs_nowhere a b h none = same_number_lists b a h.size
      (λ k l. let s = h.size in let z : 0 + k ≡ k = omega arith in elim (h.bytes k (omega arith)) [ inl e ↦ e | inr d ↦ absurd (none k (subst D z d)) ])

-- ---- words of bytes
-- a word is two bytes
pub word_bytes : (bytes : List ℕ) (w : ℕ) → w < length (words_of bytes) → word (words_of bytes) w ≡ get_or bytes (2 * w) 0 * 256 + get_or bytes (suc (2 * w)) 0
word_bytes [] w l = absurd (omega arith)
word_bytes (a ∷ []) w l = absurd (omega arith)
word_bytes (a ∷ b ∷ bytes) zero l = refl
word_bytes (a ∷ b ∷ bytes) (suc w) l =
    let x : suc (suc (2 * w)) ≡ 2 * suc w = omega arith in
    word_bytes bytes w (omega arith) ∙ (λ i. get_or (a ∷ b ∷ bytes) (x i) 0 * 256 + get_or (a ∷ b ∷ bytes) (suc (x i)) 0)

-- words differ where their bytes do
pub words_differ : (D : ℕ → Type 0) (a b : List ℕ) → DiffersIn D 0 a b → (w : ℕ) → w < length (words_of a) → (word (words_of b) w ≡ word (words_of a) w) ⊎ (D (2 * w) ⊎ D (suc (2 * w)))
words_differ D a b h w l =
    let sa = length-words_of a in
    let sb = length-words_of b in
    let s = h.size in
    let words : length (words_of b) ≡ length (words_of a) = sb ∙ ap (λ n. n / 2) s ∙ sym sa in
    let x : 0 + 2 * w ≡ 2 * w = omega arith in
    let y : 0 + suc (2 * w) ≡ suc (2 * w) = omega arith in
    by (subst D x) (subst D y) (word_bytes a w l) (word_bytes b w (omega arith)) (h.bytes (2 * w) (omega arith)) (h.bytes (suc (2 * w)) (omega arith))
  where
    by : (D (0 + 2 * w) → D (2 * w)) → (D (0 + suc (2 * w)) → D (suc (2 * w))) → word (words_of a) w ≡ get_or a (2 * w) 0 * 256 + get_or a (suc (2 * w)) 0 → word (words_of b) w ≡ get_or b (2 * w) 0 * 256 + get_or b (suc (2 * w)) 0
        → (get_or b (2 * w) 0 ≡ get_or a (2 * w) 0) ⊎ D (0 + 2 * w) → (get_or b (suc (2 * w)) 0 ≡ get_or a (suc (2 * w)) 0) ⊎ D (0 + suc (2 * w))
        → (word (words_of b) w ≡ word (words_of a) w) ⊎ (D (2 * w) ⊎ D (suc (2 * w)))
    by x y wa wb (inl p) (inl q) = inl (wb ∙ (λ i. p i * 256 + q i) ∙ sym wa)
    by x y wa wb (inr d) r = inr (inl (x d))
    by x y wa wb (inl p) (inr d) = inr (inr (y d))
