-- The slots of words, when one slot changes.
use Rattle.std.proofs.Common.{◌&&◌, ◌++◌, ◌-◌, ◌∙◌, ◌∷◌, ◌≡◌, ◌≤◌, List, None, Some, [], ap, append_assoc, arith, cond, drop, le-leb, length, length-append, nat_le, refl, suc, take, zero, ℕ}
use Rattle.std.proofs.lemmas.List.{drop_at, take_at}
use Rattle.pack_laws.specs.pack_model.specs.reading.Slots.{IsSlot, Item, Reads, and_then, slot_at, slot_of, slots, slots_after}
use Rattle.pack_laws.specs.pack_model.specs.reading.Slots.Reads.{next, none}

-- words that are passed over
passed : (k : ℕ) (ws : List ℕ) → slots_after k ws ≡ slots (drop k ws)
unfolding slots_after
passed zero ws = refl
passed (suc k) [] = refl
passed (suc k) (w ∷ ws) = passed k ws

-- a slot at the head of more words
slot_at-append : (w rest : List ℕ) (i : Item) → IsSlot w i → slot_at (w ++ rest) ≡ Some i
unfolding slot_at
slot_at-append [] rest i s = let n = s.some in absurd (omega arith)
slot_at-append (x ∷ w) rest i s =
    let all : List ℕ = (x ∷ w) ++ rest in
    let le : length (x ∷ w) ≤ length all = rw (length-append (x ∷ w) rest) (omega arith) in
    ap (λ n. cond (nat_le 1 n && nat_le n (length all)) (slot_of (take n all)) None) s.first
    ∙ ap (λ b. cond (b && nat_le (length (x ∷ w)) (length all)) (slot_of (take (length (x ∷ w)) all)) None) (le-leb 1 (length (x ∷ w)) s.some)
    ∙ ap (λ b. cond b (slot_of (take (length (x ∷ w)) all)) None) (le-leb (length (x ∷ w)) (length all) le)
    ∙ ap slot_of (take_at (x ∷ w) rest (length (x ∷ w)) refl) ∙ s.reads

-- and the slots after it
slots-append : (w rest : List ℕ) (i : Item) → IsSlot w i → slots (w ++ rest) ≡ i ∷ slots rest
unfolding slots_after
slots-append [] rest i s = let n = s.some in absurd (omega arith)
slots-append (x ∷ w) rest i s =
    ap (λ r. and_then r (λ n. slots_after (n - 1) (w ++ rest))) (slot_at-append (x ∷ w) rest i s)
    ∙ ap (λ n. i ∷ slots_after (n - 1) (w ++ rest)) s.size
    ∙ ap (λ r. i ∷ r) (let n : length (x ∷ w) - 1 ≡ length w = omega arith in ap (λ k. slots_after k (w ++ rest)) n ∙ passed (length w) (w ++ rest) ∙ ap slots (drop_at w rest (length w) refl))

-- the slots before stay
pub slots_reads : (pre rest : List ℕ) (is : List Item) → Reads pre is → slots (pre ++ rest) ≡ is ++ slots rest
slots_reads pre rest is none = refl
slots_reads pre rest is (next {w = w} {rest = r} {i = i} {is = js} e s more) =
    ap (λ p. slots (p ++ rest)) e ∙ ap slots (append_assoc w r rest) ∙ slots-append w (r ++ rest) i s ∙ ap (λ q. i ∷ q) (slots_reads r rest js more)
