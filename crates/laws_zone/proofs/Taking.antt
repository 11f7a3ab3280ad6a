-- The words of a free block of which a part is taken.
use Rattle.std.proofs.Common.{◌≡◌, ◌≤◌, ℕ, ◌+◌, ◌-◌, zero, suc, List, [], ◌∷◌, ◌++◌, sym, ap, ◌∙◌, length, take, drop, replicate, set, arith, append_assoc, append-nil}
use Rattle.std.proofs.Math.Seq.{set-append_seam}
use Rattle.std.proofs.lemmas.List.{drop-drop, length-append, length-replicate, length-take-le}
use Rattle.world_model.specs.Zones.{Block, gap, live, block_size}
use Rattle.world_model.specs.ZoneWords.{IsMemory, block_words, zone_in, zone_start, zone_words}
use Rattle.laws_zone.specs.Filling.{CanStand, IsTop, zone_size}
use Rattle.laws_zone.proofs.inside.Replacing.{drop_back, tail_of, take_seam}
use Rattle.laws_zone.proofs.inside.Zoning.{block_length}

-- ---- one block as words
-- the words of the block that comes next
pub block_here : (top : ℕ) (memory : List ℕ) (before : List Block) (b : Block) (after : List Block) → IsTop top → IsMemory top memory → zone_in top memory ≡ before ++ b ∷ after → CanStand b
    → take (block_size b) (drop (zone_start + zone_size before) memory) ≡ block_words b
block_here top memory before b after t h zone can =
    ap (take (block_size b)) (drop_back top memory before (b ∷ after) t h zone ∙ append_assoc (block_words b) (zone_words after) (tail_of top))
    ∙ take_seam (block_size b) (block_words b) (zone_words after ++ tail_of top) (block_length b can)

-- ---- words that are set
-- a tag and zeros after it, in the place of as many words
pub tagged : (from k end : ℕ) (m ys : List ℕ) → 1 ≤ k → from + k ≡ end → end ≤ length m → ys ≡ replicate k 0 → set (take from m ++ (ys ++ drop k (drop from m))) from k ≡ take from m ++ (k ∷ replicate (k - 1) 0 ++ drop end m)
tagged from k end m ys some ends within zeros =
    (λ i. set (take from m ++ (one i ++ rest i)) (seam i) k) ∙ set-append_seam (take from m) 0 (replicate (k - 1) 0 ++ drop end m) k
  where
    more : k ≡ suc (k - 1)
    more = omega (arith, some)

    one : ys ≡ 0 ∷ replicate (k - 1) 0
    one = zeros ∙ ap (λ n. replicate n 0) more

    rest : drop k (drop from m) ≡ drop end m
    rest = drop-drop k from m ∙ ap (λ n. drop n m) ends

    seam : from ≡ length (take from m)
    seam = sym (length-take-le from m (omega (arith, ends, within)))

zeros_part : (a b : ℕ) → replicate {A = ℕ} (a + b) 0 ≡ replicate a 0 ++ replicate b 0
zeros_part zero b = ap (λ n. replicate n 0) (omega arith)
zeros_part (suc a) b = let e : suc a + b ≡ suc (a + b) = omega arith in ap (λ n. replicate n 0) e ∙ ap (λ (l : List ℕ). 0 ∷ l) (zeros_part a b)

-- the free block of n words in parts
pub used_all : (a b : List ℕ) (at size : ℕ) → length a ≡ at → 1 ≤ size → set (a ++ (size ∷ replicate (size - 1) 0 ++ b)) at (size + 1) ≡ a ++ (zone_words (live (replicate (size - 1) 0) ∷ []) ++ b)
used_all a b at size long some =
    let tag : size + 1 ≡ suc (suc (length (replicate {A = ℕ} (size - 1) 0))) = tag_is in
    (λ i. set (a ++ (size ∷ replicate (size - 1) 0 ++ b)) (sym long i) (tag i))
    ∙ set-append_seam a size (replicate (size - 1) 0 ++ b) (suc (suc (length (replicate {A = ℕ} (size - 1) 0))))
    ∙ ap (λ (l : List ℕ). a ++ (suc (suc (length (replicate {A = ℕ} (size - 1) 0))) ∷ (l ++ b))) (sym (append-nil (replicate (size - 1) 0)))
  where
    tag_is : size + 1 ≡ suc (suc (length (replicate {A = ℕ} (size - 1) 0)))
    tag_is = let zeros = length-replicate {A = ℕ} (size - 1) 0 in omega (arith, zeros, some)

pub used_part : (a b : List ℕ) (at size left : ℕ) → length a ≡ at → 1 ≤ size → 1 ≤ left
    → set (set (a ++ ((size + left) ∷ replicate (size + left - 1) 0 ++ b)) at (size + 1)) (at + size) left ≡ a ++ (zone_words (live (replicate (size - 1) 0) ∷ gap left ∷ []) ++ b)
used_part a b at size left long some more =
    ap (λ (l : List ℕ). set l (at + size) left) first
    ∙ (λ i. set (sym (append_assoc a (tag ∷ zeros) (0 ∷ replicate (left - 1) 0 ++ b)) i) (seam i) left)
    ∙ set-append_seam (a ++ tag ∷ zeros) 0 (replicate (left - 1) 0 ++ b) left
    ∙ append_assoc a (tag ∷ zeros) (left ∷ replicate (left - 1) 0 ++ b)
    ∙ ap (λ (l : List ℕ). a ++ (tag ∷ l)) last
  where
    zeros : List ℕ
    zeros = replicate (size - 1) 0

    tag : ℕ
    tag = suc (suc (length zeros))

    tag_is : size + 1 ≡ tag
    tag_is = let n = length-replicate {A = ℕ} (size - 1) 0 in omega (arith, n, some)

    parts : replicate (size + left - 1) 0 ++ b ≡ zeros ++ (0 ∷ replicate (left - 1) 0 ++ b)
    parts =
        let e : size + left - 1 ≡ (size - 1) + left = omega (arith, some) in
        let f : left ≡ suc (left - 1) = omega (arith, more) in
        ap (λ n. replicate n 0 ++ b) e
        ∙ ap (λ (l : List ℕ). l ++ b) (zeros_part (size - 1) left ∙ ap (λ n. zeros ++ replicate n 0) f)
        ∙ append_assoc zeros (0 ∷ replicate (left - 1) 0) b

    first : set (a ++ ((size + left) ∷ replicate (size + left - 1) 0 ++ b)) at (size + 1) ≡ a ++ (tag ∷ (zeros ++ (0 ∷ replicate (left - 1) 0 ++ b)))
    first =
        (λ i. set (a ++ ((size + left) ∷ parts i)) (sym long i) (tag_is i))
        ∙ set-append_seam a (size + left) (zeros ++ (0 ∷ replicate (left - 1) 0 ++ b)) tag

    seam : at + size ≡ length (a ++ tag ∷ zeros)
    seam =
        let both = length-append a (tag ∷ zeros) in
        let n = length-replicate {A = ℕ} (size - 1) 0 in
        omega (arith, both, n, long, some)

    last : zeros ++ (left ∷ replicate (left - 1) 0 ++ b) ≡ (zeros ++ ((left ∷ replicate (left - 1) 0) ++ [])) ++ b
    last =
        ap (λ (l : List ℕ). zeros ++ (l ++ b)) (sym (append-nil (left ∷ replicate (left - 1) 0)))
        ∙ sym (append_assoc zeros ((left ∷ replicate (left - 1) 0) ++ []) b)
