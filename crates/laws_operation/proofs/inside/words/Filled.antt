-- Bytes with zeros after them, as words and back.
use Rattle.std.proofs.Common.{List, ap, append_assoc, arith, drop, drop-drop, length, refl, sym, take, ℕ, ◌*◌, ◌++◌, ◌+◌, ◌-◌, ◌<◌, ◌∙◌, ◌≡◌, ◌≤◌}
use Rattle.std.proofs.lemmas.List.{drop_at, length-append, length-replicate, length-take-le, take_at}
use Rattle.std.proofs.lemmas.List.Elements.{All-append, All-replicate}
use Rattle.std.specs.Prelude.{All, replicate}
use Rattle.laws_contents.specs.pack_model.specs.reading.Bytes.{bytes_of, put_at, words_of}
use Rattle.laws_contents.specs.pack_model.specs.operations.PageWords.{filled, page_value}
use Rattle.laws_contents.specs.pack_laws.proofs.Bytes.{bytes_below, bytes_of-words_of, pairs_of_bytes}

-- as many as are wanted
pub length-filled : (n : ℕ) (items : List ℕ) → length items ≤ n → length (filled n items) ≡ n
length-filled n items few =
    let zeros : List ℕ = replicate (n - length items) 0 in
    let all : length zeros ≡ n - length items = length-replicate {A = ℕ} (n - length items) 0 in
    let both : length (items ++ zeros) ≡ length items + length zeros = length-append items zeros in
    omega arith

-- bytes still
pub filled_below : (n : ℕ) (items : List ℕ) → All (λ b. b < 256) items → All (λ b. b < 256) (filled n items)
filled_below n items below = All-append (λ b. b < 256) items (replicate (n - length items) 0) below (All-replicate (λ b. b < 256) (n - length items) 0 (omega arith))

-- they survive as words, where there is an even number of them
pub filled_back : (n : ℕ) (items : List ℕ) → length items ≤ 2 * n → All (λ b. b < 256) items → bytes_of (words_of (filled (2 * n) items)) ≡ filled (2 * n) items
filled_back n items few below = bytes_of-words_of (filled (2 * n) items) (pairs_of_bytes (filled (2 * n) items) n (length-filled (2 * n) items few) (filled_below (2 * n) items below))

-- the bytes of a new page's value are its own, and then others
pub page_counted : (bytes past : List ℕ) → length bytes + length (bytes_of past) ≤ 512 → All (λ b. b < 256) bytes → All (λ w. w < 65536) past → take (length bytes) (bytes_of (page_value bytes past)) ≡ bytes
page_counted bytes past few below words =
    let items : List ℕ = bytes ++ bytes_of past in
    let zeros : List ℕ = replicate (512 - length items) 0 in
    let size : length items ≡ length bytes + length (bytes_of past) = length-append bytes (bytes_of past) in
    ap (take (length bytes)) (filled_back 256 items (omega (arith, size, few)) (All-append (λ b. b < 256) bytes (bytes_of past) below (bytes_below past words)))
    ∙ ap (take (length bytes)) (append_assoc bytes (bytes_of past) zeros)
    ∙ take_at bytes (bytes_of past ++ zeros) (length bytes) refl

-- ---- items in the place of others
-- those after them stay
pub drop-put_at : (n at : ℕ) (new old : List ℕ) → at ≤ length old → at + length new ≤ n → drop n (put_at at new old) ≡ drop n old
drop-put_at n at new old within behind =
    let m : ℕ = at + length new in
    let k : ℕ = n - m in
    let z : m + k ≡ n = omega arith in
    let front : length (take at old ++ new) ≡ m = let a : length (take at old ++ new) ≡ length (take at old) + length new = length-append (take at old) new in let b : length (take at old) ≡ at = length-take-le at old within in omega arith in
    ap (λ x. drop x (put_at at new old)) (sym z) ∙ sym (drop-drop k m (put_at at new old)) ∙ ap (drop k) (drop_at (take at old ++ new) (drop m old) m front) ∙ drop-drop k m old ∙ ap (λ x. drop x old) z

-- and they are there
pub take-drop-put_at : (at : ℕ) (new old : List ℕ) → at ≤ length old → take (length new) (drop at (put_at at new old)) ≡ new
take-drop-put_at at new old within =
    let rest : List ℕ = drop (at + length new) old in
    ap (λ x. take (length new) (drop at x)) (append_assoc (take at old) new rest)
    ∙ ap (take (length new)) (drop_at (take at old) (new ++ rest) at (length-take-le at old within))
    ∙ take_at new rest (length new) refl

-- the first ones, up to some of the new
pub take-put_front : (at : ℕ) (new more old : List ℕ) → at ≤ length old → take (at + length new) (put_at at (new ++ more) old) ≡ take at old ++ new
take-put_front at new more old within =
    let rest : List ℕ = drop (at + length (new ++ more)) old in
    let front : length (take at old ++ new) ≡ at + length new = let a : length (take at old ++ new) ≡ length (take at old) + length new = length-append (take at old) new in let b : length (take at old) ≡ at = length-take-le at old within in omega arith in
    ap (λ x. take (at + length new) (x ++ rest)) (sym (append_assoc (take at old) new more))
    ∙ ap (take (at + length new)) (append_assoc (take at old ++ new) more rest)
    ∙ take_at (take at old ++ new) (more ++ rest) (at + length new) front

-- and those before them alone
pub take-put_before : (at : ℕ) (new old : List ℕ) → at ≤ length old → take at (put_at at new old) ≡ take at old
take-put_before at new old within = ap (take at) (append_assoc (take at old) new (drop (at + length new) old)) ∙ take_at (take at old) (new ++ drop (at + length new) old) at (length-take-le at old within)
