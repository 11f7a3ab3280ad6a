-- A short text in an array of 39 bytes.
use Rattle.std.specs.Prelude.{◌≡◌, ℕ, ◌-◌, ◌≤◌, List, ◌++◌, length, take, drop, replicate}
use Rattle.std.proofs.Common.{ap, sym, ◌∙◌, subst, take-append-drop}
use Rattle.std.proofs.lemmas.List.{length-take-le}

-- n bytes of text stand in front, zeros after
pub record HoldsText (n : ℕ) (bytes : List ℕ) : Type 0 where
  pub room : length bytes ≡ 39
  pub fits : n ≤ 39
  pub padded : drop n bytes ≡ replicate (39 - n) 0

-- the text gives its length
pub HoldsText-length : {n : ℕ} {bytes : List ℕ} → HoldsText n bytes → length (take n bytes) ≡ n
HoldsText-length {n} {bytes} h = length-take-le n bytes (subst (λ k. n ≤ k) (sym h.room) h.fits)

-- the text, padded, gives the array
pub HoldsText-bytes : {n : ℕ} {bytes : List ℕ} → HoldsText n bytes → take n bytes ++ replicate (39 - length (take n bytes)) 0 ≡ bytes
HoldsText-bytes {n} {bytes} h =
    ap (λ k. take n bytes ++ replicate (39 - k) 0) (HoldsText-length h) ∙ ap (λ zeros. take n bytes ++ zeros) (sym h.padded) ∙ take-append-drop n bytes
