-- Words that are put one part after the other.
use Rattle.std.proofs.Common.{◌≡◌, ℕ, ◌+◌, ◌-◌, List, [], ◌++◌, length, take, drop, replicate, refl, sym, ap, ◌∙◌, arith, append-nil}
use Rattle.std.proofs.lemmas.List.{length-append, take_at, drop_at, drop-replicate, drop-drop}
use Rattle.pack_model.specs.reading.Bytes.{put_at}

-- a part goes after those in front, in the place of zeros
pub put_after : (at m n : ℕ) (front new : List ℕ) → length front ≡ at → m ≡ length new + n → put_at at new (front ++ replicate m 0) ≡ (front ++ new) ++ replicate n 0
put_after at m n front new len more =
    let zeros : List ℕ = replicate m 0 in
    let first : take at (front ++ zeros) ≡ front = take_at front zeros at len in
    let seam : drop (at + length new) (front ++ zeros) ≡ drop (length new) (drop at (front ++ zeros)) = sym (drop-drop (length new) at (front ++ zeros)) in
    let back : drop at (front ++ zeros) ≡ zeros = drop_at front zeros at len in
    let left : m - length new ≡ n = omega (arith, more) in
    let rest : drop (length new) zeros ≡ replicate (m - length new) 0 = drop-replicate (length new) m 0 in
    let tail : drop (at + length new) (front ++ zeros) ≡ replicate n 0 = seam ∙ ap (drop (length new)) back ∙ rest ∙ ap (λ (k : ℕ). replicate k 0) left in
    λ i. (first i ++ new) ++ tail i

-- six parts, one after the other, in the place of 256 zeros
module _ (a b c d e g v₁ v₂ v₃ v₄ v₅ v₆ : List ℕ) (la : length a ≡ 2) (lb : length b ≡ 2) (lc : length c ≡ 2) (ld : length d ≡ 20) (le : length e ≡ 220) (lg : length g ≡ 10) (p₁ : v₁ ≡ put_at 0 a (replicate 256 0)) (p₂ : v₂ ≡ put_at 2 b v₁) (p₃ : v₃ ≡ put_at 4 c v₂) (p₄ : v₄ ≡ put_at 6 d v₃) (p₅ : v₅ ≡ put_at 26 e v₄) (p₆ : v₆ ≡ put_at 246 g v₅) where
  e₁ : v₁ ≡ a ++ replicate 254 0
  e₁ = p₁ ∙ put_after 0 256 254 [] a refl (omega (arith, la))

  e₂ : v₂ ≡ (a ++ b) ++ replicate 252 0
  e₂ = p₂ ∙ ap (put_at 2 b) e₁ ∙ put_after 2 254 252 a b la (omega (arith, lb))

  l₂ : length (a ++ b) ≡ 4
  l₂ = length-append a b ∙ omega (arith, la, lb)

  e₃ : v₃ ≡ ((a ++ b) ++ c) ++ replicate 250 0
  e₃ = p₃ ∙ ap (put_at 4 c) e₂ ∙ put_after 4 252 250 (a ++ b) c l₂ (omega (arith, lc))

  l₃ : length ((a ++ b) ++ c) ≡ 6
  l₃ = length-append (a ++ b) c ∙ omega (arith, l₂, lc)

  e₄ : v₄ ≡ (((a ++ b) ++ c) ++ d) ++ replicate 230 0
  e₄ = p₄ ∙ ap (put_at 6 d) e₃ ∙ put_after 6 250 230 ((a ++ b) ++ c) d l₃ (omega (arith, ld))

  l₄ : length (((a ++ b) ++ c) ++ d) ≡ 26
  l₄ = length-append ((a ++ b) ++ c) d ∙ omega (arith, l₃, ld)

  e₅ : v₅ ≡ ((((a ++ b) ++ c) ++ d) ++ e) ++ replicate 10 0
  e₅ = p₅ ∙ ap (put_at 26 e) e₄ ∙ put_after 26 230 10 (((a ++ b) ++ c) ++ d) e l₄ (omega (arith, le))

  l₅ : length ((((a ++ b) ++ c) ++ d) ++ e) ≡ 246
  l₅ = length-append (((a ++ b) ++ c) ++ d) e ∙ omega (arith, l₄, le)

  pub all_put : v₆ ≡ a ++ b ++ c ++ d ++ e ++ g
  all_put = p₆ ∙ ap (put_at 246 g) e₅ ∙ put_after 246 10 0 ((((a ++ b) ++ c) ++ d) ++ e) g l₅ (omega (arith, lg)) ∙ append-nil (a ++ b ++ c ++ d ++ e ++ g)
