-- Words that are put one after another.
use Rattle.std.proofs.Common.{◌≡◌, ℕ, zero, suc, ◌+◌, ◌-◌, ◌≤◌, List, ◌∷◌, ◌++◌, length, take, drop, min, replicate, sym, ap, ◌∙◌, arith}
use Rattle.std.proofs.lemmas.List.{append_assoc, drop-drop, drop-replicate, length-append, length-replicate, length-take, replicate-append-replicate}
use Rattle.std.proofs.Math.Seq.{take-append-add, drop-append-add}
use Rattle.pack_model.specs.reading.Bytes.{put_at}
use Rattle.pack_model.specs.operations.PageWords.{filled}
use Rattle.disk_records.proofs.Bytes.{put_at-append_right}

-- words right after others that were put
pub put_twice : (at next : ℕ) (a b old : List ℕ) → next ≡ at + length a → next ≤ length old → put_at next b (put_at at a old) ≡ put_at at (a ++ b) old
put_twice at next a b old is within =
    let front : List ℕ = take at old ++ a in
    let rest : List ℕ = drop (at + length a) old in
    let size : length front ≡ length (take at old) + length a = length-append (take at old) a in
    let cut : length (take at old) ≡ min at (length old) = length-take at old in
    let whole : length (a ++ b) ≡ length a + length b = length-append a b in
    let here : next ≡ length front + 0 = omega arith in
    let none : 0 + length b ≡ length b = omega arith in
    let seam : drop (length b) rest ≡ drop (at + length a + length b) old = drop-drop (length b) (at + length a) old in
    let end : at + length a + length b ≡ at + length (a ++ b) = omega arith in
    ap (λ n. put_at n b (front ++ rest)) here
    ∙ put_at-append_right 0 b front rest
    ∙ ap (λ n. front ++ (b ++ drop n rest)) none
    ∙ ap (λ r. front ++ (b ++ r)) (seam ∙ ap (λ n. drop n old) end)
    ∙ sym (append_assoc front b (drop (at + length (a ++ b)) old))
    ∙ ap (λ r. r ++ drop (at + length (a ++ b)) old) (append_assoc (take at old) a b)

-- ---- zeros
abbrev zeros : ℕ → List ℕ
zeros n = replicate n 0

-- the first of some zeros
zeros_taken : (n m : ℕ) → take {A = ℕ} n (replicate m 0) ≡ replicate (min n m) 0
zeros_taken zero m = let e : min 0 m ≡ 0 = omega arith in ap zeros (sym e)
zeros_taken (suc n) zero = let e : min (suc n) 0 ≡ 0 = omega arith in ap zeros (sym e)
zeros_taken (suc n) (suc m) = let e : min (suc n) (suc m) ≡ suc (min n m) = omega arith in ap (λ (r : List ℕ). 0 ∷ r) (zeros_taken n m) ∙ ap zeros (sym e)

-- a page of zeros is filled with zeros
pub zeros_filled : (n m : ℕ) → filled n (take n (zeros m)) ≡ zeros n
zeros_filled n m =
    let size : length (zeros m) ≡ m = length-replicate m 0 in
    let cut : length (take n (zeros m)) ≡ min n (length (zeros m)) = length-take n (zeros m) in
    let left : n - length (take n (zeros m)) ≡ n - min n m = omega arith in
    let all : min n m + (n - min n m) ≡ n = omega arith in
    (λ i. zeros_taken n m i ++ zeros (left i)) ∙ replicate-append-replicate (min n m) (n - min n m) 0 ∙ ap zeros all

-- a page of some words and zeros after them
pub front_filled : (n left : ℕ) (front : List ℕ) (m : ℕ) → n ≡ length front + left → filled n (take n (front ++ zeros m)) ≡ front ++ zeros left
front_filled n left front m is =
    let some : List ℕ = take left (zeros m) in
    let cut : take n (front ++ zeros m) ≡ front ++ some = ap (λ k. take k (front ++ zeros m)) is ∙ take-append-add front (zeros m) left in
    let size : length (front ++ some) ≡ length front + length some = length-append front some in
    let rest : n - length (front ++ some) ≡ left - length some = omega arith in
    ap (filled n) cut ∙ ap (λ k. (front ++ some) ++ zeros k) rest ∙ append_assoc front some (zeros (left - length some)) ∙ ap (λ r. front ++ r) (zeros_filled left m)

-- what follows the front is zeros
pub zeros_follow : (n : ℕ) (front : List ℕ) (m : ℕ) → length front ≤ n → drop n (front ++ zeros m) ≡ zeros (m - (n - length front))
zeros_follow n front m within =
    let is : n ≡ length front + (n - length front) = omega arith in
    ap (λ k. drop k (front ++ zeros m)) is ∙ drop-append-add front (zeros m) (n - length front) ∙ drop-replicate (n - length front) m 0
