-- Bytes appended to a short text.
use Rattle.std.proofs.Common.{◌≡◌, ℕ, ◌+◌, ◌-◌, ◌≤◌, List, length, take, drop, replicate, ap, sym, ◌∙◌, arith, length-append, length-drop, length-take}
use Rattle.std.proofs.lemmas.List.{drop-drop, drop-replicate}
use Rattle.std.proofs.lemmas.Slice.{drop-put_mid}
use borrow.Rule.Slice.PartMut.{put_mid}
use Rattle.alto_words.specs.Texts.{HoldsText, HoldsText-length}

-- a part with room, written after the text, leaves a text
pub HoldsText-push : {n : ℕ} {bytes : List ℕ} (old part written : List ℕ) → HoldsText n bytes → take n bytes ≡ old → length old + length part ≤ 39 → written ≡ part
    → HoldsText (n + length part) (put_mid n (n + length part - n) bytes written)
HoldsText-push {n} {bytes} old part written h is fits wrote =
    let size : n ≡ length old = sym (HoldsText-length h) ∙ ap length is in
    let long : length written ≡ length part = ap length wrote in
    let behind : n + (n + length part - n) ≤ n + length part = omega arith in
    let within : n ≤ length bytes = omega (arith, h.fits, h.room) in
    let parts : length written ≡ n + length part - n = omega arith in
    record {
      room = simp (length-append, length-take, length-drop) (omega (arith, h.room, h.fits));
      fits = omega arith;
      padded =
          drop-put_mid n (n + length part - n) bytes written (n + length part) behind within parts
          ∙ sym (drop-drop (length part) n bytes) ∙ ap (drop (length part)) h.padded ∙ drop-replicate (length part) (39 - n) 0
          ∙ ap (λ k. replicate k 0) (omega arith);
    }
