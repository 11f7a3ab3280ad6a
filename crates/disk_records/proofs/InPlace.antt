-- Bytes put into words, one at a time.
use Rattle.std.proofs.Common.{◌≡◌, ℕ, zero, suc, ◌+◌, ◌*◌, ◌/◌, ◌%◌, ◌<◌, ◌≤◌, List, [], ◌∷◌, ◌++◌, length, take, drop, get_or, refl, sym, ◌∙◌, ap, arith, append_assoc}
use Rattle.std.proofs.lemmas.List.{length-append, length-take, drop-drop, take_more, take_all}
use Rattle.std.proofs.Math.ListN.{set}
use borrow.Rule.Slice.PartMut.{put_mid}
use Rattle.disk_records.specs.Bytes.{bytes_of, words_of, put_at}
use Rattle.disk_records.proofs.Bytes.{put_at-nil, put_at-later, put_at-here, put_at-append_right, words_of-bytes_of, length-bytes_of, length-put_at}

-- ---- some bytes more
put_at-joined : (at : ℕ) (new more old : List ℕ) → at ≤ length old → put_at at (new ++ more) old ≡ put_at (at + length new) more (put_at at new old)
put_at-joined at new more old within =
    let front = take at old ++ new in
    let rest = drop (at + length new) old in
    let size : at + length new ≡ length (take at old ++ new) + 0 = omega (arith, length-append (take at old) new, length-take at old) in
    let past : drop (at + length (new ++ more)) old ≡ drop (length more) rest = ap (λ n. drop n old) (omega (arith, length-append new more)) ∙ sym (drop-drop (length more) (at + length new) old) in
    let none : length more ≡ 0 + length more = omega arith in
    ap (λ r. take at old ++ (new ++ more) ++ r) past
    ∙ ap (λ l. l ++ drop (length more) rest) (sym (append_assoc (take at old) new more))
    ∙ append_assoc front more (drop (length more) rest)
    ∙ ap (λ n. front ++ (more ++ drop n rest)) none
    ∙ sym (put_at-append_right 0 more front rest)
    ∙ ap (λ n. put_at n more (front ++ rest)) (sym size)

-- the next of some bytes
put_at-next : (at i : ℕ) (bytes old : List ℕ) → i < length bytes → at ≤ length old → put_at at (take (i + 1) bytes) old ≡ put_at (at + i) (get_or bytes i 0 ∷ []) (put_at at (take i bytes) old)
put_at-next at i bytes old more within =
    let size : at + length (take i bytes) ≡ at + i = omega (arith, length-take i bytes) in
    ap (λ l. put_at at l old) (take_more bytes i 0 more)
    ∙ put_at-joined at (take i bytes) (get_or bytes i 0 ∷ []) old within
    ∙ ap (λ n. put_at n (get_or bytes i 0 ∷ []) (put_at at (take i bytes) old)) size

-- ---- one byte in a word
twice : ℕ → ℕ
twice zero = 0
twice (suc k) = suc (suc (twice k))

twice-is : (k : ℕ) → twice k ≡ 2 * k
unfolding twice
twice-is zero = refl
twice-is (suc k) = let e = twice-is k in omega arith

-- the high byte
high_at : (k b : ℕ) (words : List ℕ) → k < length words → bytes_of (set words k (b * 256 + get_or words k 0 % 256)) ≡ put_at (twice k) (b ∷ []) (bytes_of words)
unfolding twice
high_at k b [] within = absurd (omega arith)
high_at zero b (w ∷ words) within =
    let high : (b * 256 + w % 256) / 256 ≡ b = omega arith in
    let low : (b * 256 + w % 256) % 256 ≡ w % 256 = omega arith in
    (λ i. high i ∷ low i ∷ bytes_of words) ∙ sym (put_at-here (w / 256) b [] (w % 256 ∷ bytes_of words) ∙ ap (λ l. b ∷ l) (put_at-nil 0 (w % 256 ∷ bytes_of words)))
high_at (suc k) b (w ∷ words) within =
    ap (λ l. w / 256 ∷ w % 256 ∷ l) (high_at k b words (omega arith))
    ∙ sym (put_at-later (suc (twice k)) (w / 256) (b ∷ []) (w % 256 ∷ bytes_of words) ∙ ap (λ l. w / 256 ∷ l) (put_at-later (twice k) (w % 256) (b ∷ []) (bytes_of words)))

-- the low byte
low_at : (k b : ℕ) (words : List ℕ) → k < length words → b < 256 → bytes_of (set words k (get_or words k 0 / 256 * 256 + b)) ≡ put_at (suc (twice k)) (b ∷ []) (bytes_of words)
unfolding twice
low_at k b [] within below = absurd (omega arith)
low_at zero b (w ∷ words) within below =
    let high : (w / 256 * 256 + b) / 256 ≡ w / 256 = omega arith in
    let low : (w / 256 * 256 + b) % 256 ≡ b = omega arith in
    (λ i. high i ∷ low i ∷ bytes_of words)
    ∙ sym (put_at-later 0 (w / 256) (b ∷ []) (w % 256 ∷ bytes_of words) ∙ ap (λ l. w / 256 ∷ l) (put_at-here (w % 256) b [] (bytes_of words) ∙ ap (λ l. b ∷ l) (put_at-nil 0 (bytes_of words))))
low_at (suc k) b (w ∷ words) within below =
    ap (λ l. w / 256 ∷ w % 256 ∷ l) (low_at k b words (omega arith) below)
    ∙ sym (put_at-later (suc (suc (twice k))) (w / 256) (b ∷ []) (w % 256 ∷ bytes_of words) ∙ ap (λ l. w / 256 ∷ l) (put_at-later (suc (twice k)) (w % 256) (b ∷ []) (bytes_of words)))

-- a byte at an even place, and at an odd one
put_high : (place b : ℕ) (words : List ℕ) → place % 2 ≡ 0 → place < 2 * length words → bytes_of (set words (place / 2) (b * 256 + get_or words (place / 2) 0 % 256)) ≡ put_at place (b ∷ []) (bytes_of words)
put_high place b words even within =
    let is : twice (place / 2) ≡ place = omega (arith, twice-is (place / 2)) in
    high_at (place / 2) b words (omega arith) ∙ ap (λ n. put_at n (b ∷ []) (bytes_of words)) is

put_low : (place b : ℕ) (words : List ℕ) → (place % 2 ≡ 0 → ⊥) → place < 2 * length words → b < 256 → bytes_of (set words (place / 2) (get_or words (place / 2) 0 / 256 * 256 + b)) ≡ put_at place (b ∷ []) (bytes_of words)
put_low place b words odd within below =
    let is : suc (twice (place / 2)) ≡ place = omega (arith, twice-is (place / 2)) in
    low_at (place / 2) b words (omega arith) below ∙ ap (λ n. put_at n (b ∷ []) (bytes_of words)) is

-- ---- a prefix of the bytes are put
module _ (at i : ℕ) (bytes words old : List ℕ) (put : bytes_of words ≡ put_at at (take i bytes) (bytes_of old)) where
  -- there are as many words as before
  same_words : i < length bytes → at + length bytes ≤ 2 * length old → length words ≡ length old
  same_words more fits =
      let first : length (take i bytes) ≤ i = omega (arith, length-take i bytes) in
      let twice_old = length-bytes_of old in
      let same : length (bytes_of words) ≡ length (bytes_of old) = ap length put ∙ length-put_at at (take i bytes) (bytes_of old) (omega arith) in
      omega (arith, same, length-bytes_of words)

  module _ (more : i < length bytes) (fits : at + length bytes ≤ 2 * length old) (value : ℕ) where
    one_more : bytes_of (set words ((at + i) / 2) value) ≡ put_at (at + i) (get_or bytes i 0 ∷ []) (bytes_of words) → bytes_of (set words ((at + i) / 2) value) ≡ put_at at (take (i + 1) bytes) (bytes_of old)
    one_more is = is ∙ ap (put_at (at + i) (get_or bytes i 0 ∷ [])) put ∙ sym (put_at-next at i bytes (bytes_of old) more (omega (arith, length-bytes_of old)))

    -- one more is, in a high byte or in a low one
    pub next_high : (at + i) % 2 ≡ 0 → value ≡ get_or bytes i 0 * 256 + get_or words ((at + i) / 2) 0 % 256 → bytes_of (set words ((at + i) / 2) value) ≡ put_at at (take (i + 1) bytes) (bytes_of old)
    next_high even is =
        let size = same_words more fits in
        one_more (ap (λ v. bytes_of (set words ((at + i) / 2) v)) is ∙ put_high (at + i) (get_or bytes i 0) words even (omega arith))

    pub next_low : ((at + i) % 2 ≡ 0 → ⊥) → get_or bytes i 0 < 256 → value ≡ get_or words ((at + i) / 2) 0 / 256 * 256 + get_or bytes i 0 → bytes_of (set words ((at + i) / 2) value) ≡ put_at at (take (i + 1) bytes) (bytes_of old)
    next_low odd below is =
        let size = same_words more fits in
        one_more (ap (λ v. bytes_of (set words ((at + i) / 2) v)) is ∙ put_low (at + i) (get_or bytes i 0) words odd (omega arith) below)

  -- all of them are
  pub put_whole : length bytes ≤ i → bytes_of words ≡ put_at at bytes (bytes_of old)
  put_whole end = put ∙ ap (λ l. put_at at l (bytes_of old)) (take_all i bytes end)

-- ---- words after bytes
bytes_of-append : (a b : List ℕ) → bytes_of (a ++ b) ≡ bytes_of a ++ bytes_of b
bytes_of-append [] b = refl
bytes_of-append (w ∷ a) b = ap (λ l. w / 256 ∷ w % 256 ∷ l) (bytes_of-append a b)

taken : (k : ℕ) (words : List ℕ) → bytes_of (take k words) ≡ take (twice k) (bytes_of words)
unfolding twice
taken zero words = refl
taken (suc k) [] = refl
taken (suc k) (w ∷ words) = ap (λ l. w / 256 ∷ w % 256 ∷ l) (taken k words)

dropped : (k : ℕ) (words : List ℕ) → bytes_of (drop k words) ≡ drop (twice k) (bytes_of words)
unfolding twice
dropped zero words = refl
dropped (suc k) [] = refl
dropped (suc k) (w ∷ words) = dropped k words

-- whole words in the place of others, and then the bytes after them
pub put_pairs : (at whole k : ℕ) (pairs rest bytes words old later : List ℕ) → at % 2 ≡ 0 → at + length bytes ≤ 2 * length old → k ≡ whole → bytes ≡ pairs ++ rest → bytes_of words ≡ pairs → length pairs ≡ 2 * whole
    → bytes_of later ≡ put_at (at + 2 * whole) rest (bytes_of (put_mid (at / 2) k old words))
    → bytes_of later ≡ put_at at bytes (bytes_of old)
put_pairs at whole k pairs rest bytes words old later even fits many all are size next =
    let front : twice (at / 2) ≡ at = omega (arith, twice-is (at / 2)) in
    let past : twice (at / 2 + k) ≡ at + length pairs = omega (arith, twice-is (at / 2 + k), size, many) in
    let behind = drop (at / 2 + k) old in
    let one : bytes_of (take (at / 2) old) ≡ take at (bytes_of old) = taken (at / 2) old ∙ ap (λ n. take n (bytes_of old)) front in
    let two : bytes_of behind ≡ drop (at + length pairs) (bytes_of old) = dropped (at / 2 + k) old ∙ ap (λ n. drop n (bytes_of old)) past in
    let put : bytes_of (put_mid (at / 2) k old words) ≡ put_at at pairs (bytes_of old) =
    ap (λ l. bytes_of (take (at / 2) old ++ (words ++ l))) (drop-drop k (at / 2) old)
    ∙ bytes_of-append (take (at / 2) old) (words ++ behind)
    ∙ ap (λ l. l ++ bytes_of (words ++ behind)) one
    ∙ ap (λ l. take at (bytes_of old) ++ l) (bytes_of-append words behind ∙ ap (λ l. l ++ bytes_of behind) are ∙ ap (λ l. pairs ++ l) two)
    ∙ sym (append_assoc (take at (bytes_of old)) pairs (drop (at + length pairs) (bytes_of old))) in
    next
    ∙ ap (put_at (at + 2 * whole) rest) put
    ∙ ap (λ n. put_at (at + n) rest (put_at at pairs (bytes_of old))) (sym size)
    ∙ sym (put_at-joined at pairs rest (bytes_of old) (omega (arith, length-bytes_of old)))
    ∙ ap (λ l. put_at at l (bytes_of old)) (sym all)

-- one word more
pub next_word : (at i : ℕ) (bytes past words later old : List ℕ) → i < length past → at ≤ length old → bytes_of words ≡ put_at at (bytes ++ bytes_of (take i past)) old
    → bytes_of later ≡ put_at (at + length bytes + 2 * i) (get_or past i 0 / 256 ∷ get_or past i 0 % 256 ∷ []) (bytes_of words)
    → bytes_of later ≡ put_at at (bytes ++ bytes_of (take (i + 1) past)) old
next_word at i bytes past words later old more within so_far next =
    let pair = get_or past i 0 / 256 ∷ get_or past i 0 % 256 ∷ [] in
    let front = bytes ++ bytes_of (take i past) in
    let size : at + length bytes + 2 * i ≡ at + length (bytes ++ bytes_of (take i past)) = omega (arith, length-append bytes (bytes_of (take i past)), length-bytes_of (take i past), length-take i past) in
    let all : bytes ++ bytes_of (take (i + 1) past) ≡ front ++ pair =
    ap (λ l. bytes ++ bytes_of l) (take_more past i 0 more) ∙ ap (λ l. bytes ++ l) (bytes_of-append (take i past) (get_or past i 0 ∷ [])) ∙ sym (append_assoc bytes (bytes_of (take i past)) pair) in
    next ∙ ap (λ n. put_at n pair (bytes_of words)) size ∙ ap (put_at (at + length front) pair) so_far ∙ sym (put_at-joined at front pair old within) ∙ ap (λ l. put_at at l old) (sym all)

-- all words are put after the bytes
pub put_all : (at i : ℕ) (bytes past words old : List ℕ) → length past ≤ i → bytes_of words ≡ put_at at (bytes ++ bytes_of (take i past)) (bytes_of old) → words ≡ words_of (put_at at (bytes ++ bytes_of past) (bytes_of old))
put_all at i bytes past words old end put = sym (words_of-bytes_of words) ∙ ap words_of (put ∙ ap (λ l. put_at at (bytes ++ bytes_of l) (bytes_of old)) (take_all i past end))
