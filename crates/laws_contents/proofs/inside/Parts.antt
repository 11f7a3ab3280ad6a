-- A list as some first items, a part, and the rest.
use Rattle.std.proofs.Common.{List, [], ap, append-nil, arith, drop, get_or, inl, inr, length, sym, take, ℕ, ◌++◌, ◌+◌, ◌<◌, ◌∙◌, ◌≡◌, ◌≤◌}
use Rattle.std.proofs.Math.Seq.{drop-append-add, take-append-add}
use Rattle.std.proofs.lemmas.Bool.{cases_lt}
use Rattle.std.proofs.lemmas.List.{drop-append-le, get_or-drop, get_or-take, length-append, length-drop, take-append-le, take_all}

-- after m first items come a part and the rest
pub record Parts (m : ℕ) (all part : List ℕ) : Type 0 where
  pub first : List ℕ
  pub rest : List ℕ
  pub all_is : all ≡ first ++ (part ++ rest)
  pub size : length first ≡ m

-- the length of all
pub length-parts : (m : ℕ) (all part : List ℕ) → Parts m all part → m + length part ≤ length all
length-parts m all part s =
    let whole = ap length s.all_is ∙ length-append s.first (part ++ s.rest) in
    let later = length-append part s.rest in
    let size = s.size in
    omega arith

-- what stands n items after the first m
pub drop_parts : (m n : ℕ) (all part : List ℕ) (s : Parts m all part) → drop (m + n) all ≡ drop n (part ++ s.rest)
drop_parts m n all part s = ap (drop (m + n)) s.all_is ∙ ap (λ k. drop (k + n) (s.first ++ (part ++ s.rest))) (sym s.size) ∙ drop-append-add s.first (part ++ s.rest) n

-- from the part on
pub drop_first : (m : ℕ) (all part : List ℕ) (s : Parts m all part) → drop m all ≡ part ++ s.rest
drop_first m all part s = let z : m ≡ m + 0 = omega arith in ap (λ k. drop k all) z ∙ drop_parts m 0 all part s

-- items of a part are items of a list that begins with it
pub take_part : (n r : ℕ) (part rest : List ℕ) → r + n ≤ length part → take n (drop r (part ++ rest)) ≡ take n (drop r part)
take_part n r part rest fits =
    let size = length-drop r part in
    let below : r ≤ length part = omega arith in
    ap (take n) (drop-append-le r part rest below) ∙ take-append-le n (drop r part) rest (omega arith)

-- items of the part are items of all
pub items_of_part : (m n r : ℕ) (all part : List ℕ) → Parts m all part → r + n ≤ length part → take n (drop (m + r) all) ≡ take n (drop r part)
items_of_part m n r all part s fits = ap (take n) (drop_parts m r all part s) ∙ take_part n r part s.rest fits

-- a part of n items, or of fewer with nothing after it, is the next n items
pub part_is_next : (m n : ℕ) (all part : List ℕ) (s : Parts m all part) → length part ≤ n → (length part < n → s.rest ≡ []) → part ≡ take n (drop m all)
part_is_next m n all part s most none = sym (ap (take n) (drop_first m all part s) ∙ next)
  where
    next : take n (part ++ s.rest) ≡ part
    next = elim (cases_lt (length part) n) [
      | inl short ↦ ap (λ r. take n (part ++ r)) (none short) ∙ ap (take n) (append-nil part) ∙ take_all n part most
      | inr full ↦ let e : n ≡ length part = omega arith in take-append-le n part s.rest (omega arith) ∙ take_all n part most
    ]

-- the first items, and then the part
pub part_goes_on : (m : ℕ) (all part : List ℕ) → Parts m all part → take m all ++ part ≡ take (m + length part) all
part_goes_on m all part s =
    let z : m ≡ length s.first + 0 = omega (arith, s.size) in
    let y : m + length part ≡ length s.first + length part = omega (arith, s.size) in
    let before : take m all ≡ s.first = ap (take m) s.all_is ∙ ap (λ n. take n (s.first ++ (part ++ s.rest))) z ∙ take-append-add s.first (part ++ s.rest) 0 ∙ append-nil s.first in
    let both : take (m + length part) all ≡ s.first ++ part =
    ap (take (m + length part)) s.all_is ∙ ap (λ n. take n (s.first ++ (part ++ s.rest))) y ∙ take-append-add s.first (part ++ s.rest) (length part)
    ∙ ap (λ x. s.first ++ x) (take-append-le (length part) part s.rest (omega arith) ∙ take_all (length part) part (omega arith)) in
    ap (λ x. x ++ part) before ∙ sym both

-- the first of some items
pub first_item : (a b : List ℕ) (i j : ℕ) → take 1 (drop i a) ≡ take 1 (drop j b) → get_or a i 0 ≡ get_or b j 0
first_item a b i j e = sym (one a i) ∙ ap (λ x. get_or x 0 0) e ∙ one b j
  where
    one : (l : List ℕ) (m : ℕ) → get_or (take 1 (drop m l)) 0 0 ≡ get_or l m 0
    one l m = let z : m + 0 ≡ m = omega arith in get_or-take 1 (drop m l) 0 0 (omega arith) ∙ get_or-drop m l 0 0 ∙ ap (λ k. get_or l k 0) z
