-- Adjacent free slots that are looked up one after another.
use Rattle.std.proofs.Common.{◌≡◌, ℕ, ◌+◌, ◌-◌, ◌<◌, ◌≤◌, List, [], ◌∷◌, ◌++◌, Some, None, refl, sym, ap, ◌∙◌, subst, append_assoc, arith}
use Rattle.std.specs.Prelude.{All}
use Rattle.std.specs.BTreeMap.{is_at}
use Rattle.std.specs.Map.{lookup}
use Rattle.std.specs.Ordering.{nat_cmp}
use Rattle.std.proofs.lemmas.List.Elements.{All-head}
use Rattle.pack_model.specs.operations.Rooms.{run}
use Rattle.pack_model.specs.reading.Slots.{Item, all_words}
use Rattle.pack_model.specs.reading.Slots.Item.{space, entry}
use Rattle.dir_slots.specs.Inside.{AreFree}
use Rattle.dir_slots.proofs.Rooms.{run-row, run-short}
use Rattle.dir_slots.proofs.Slots.{all_words-append}
use Rattle.scav_names.specs.Rooms.{AreAt, IsSize, free_slots, run_total}
use Rattle.scav_names.proofs.FreeSlots.{first_free, free_at}
use Rattle.scav_names.proofs.Keys.{all_right}

-- So many slots at least, of so many words together, are free ones from the first of these on.
pub record IsAlong (total count : ℕ) (rest : List Item) : Type 0 where
  pub row : List Item
  pub tail : List Item
  pub split : rest ≡ row ++ tail
  pub free : AreFree row
  pub words : all_words row ≡ total
  pub many : count ≤ total

pub along_none : (rest : List Item) → IsAlong 0 0 rest
along_none rest = record { row = []; tail = rest; split = refl; free = tt; words = refl; many = omega arith }

-- they stand before the directory's end
pub along_fits : (free : List (ℕ × ℕ)) (place total count : ℕ) (before rest : List Item) → AreAt free place before rest → IsAlong total count rest → place + total < 4294967296
along_fits free place total count before rest at r =
    let all : all_words (before ++ rest) ≡ all_words before + all_words rest = all_words-append before rest in
    let some : all_words rest ≡ all_words r.row + all_words r.tail = ap all_words r.split ∙ all_words-append r.row r.tail in
    let few = at.few in
    let here = at.here in
    let words = r.words in
    omega arith

-- what stands after them
along_at : (free : List (ℕ × ℕ)) (place total count : ℕ) (before rest : List Item) → AreAt free place before rest → (r : IsAlong total count rest) → lookup (is_at (nat_cmp (place + total))) free ≡ first_free r.tail
along_at free place total count before rest at r =
    let all : all_words (before ++ r.row) ≡ all_words before + all_words r.row = all_words-append before r.row in
    let here = at.here in
    let words = r.words in
    let key : place + total ≡ all_words (before ++ r.row) = omega arith in
    let slots : before ++ rest ≡ (before ++ r.row) ++ r.tail = ap (λ l. before ++ l) r.split ∙ sym (append_assoc before r.row r.tail) in
    ap (λ k. lookup (is_at (nat_cmp k)) free) key ∙ ap (lookup (is_at (nat_cmp (all_words (before ++ r.row))))) (at.entries ∙ ap (free_slots 0) slots)
    ∙ free_at (before ++ r.row) r.tail (subst (All IsSize) slots at.sizes)

run_of_none : (n : ℕ) (is : List Item) → first_free is ≡ None → run n is ≡ None
run_of_none n [] e = refl
run_of_none n (space k ∷ is) e = absurd cc
run_of_none n (entry f name ∷ is) e = refl

pub along_ends : (free : List (ℕ × ℕ)) (place total count words : ℕ) (before rest : List Item) → AreAt free place before rest → IsAlong total count rest → total < words
    → lookup (is_at (nat_cmp (place + total))) free ≡ None → run_total (run words rest) ≡ None
along_ends free place total count words before rest at r short none =
    let last : first_free r.tail ≡ None = sym (along_at free place total count before rest at r) ∙ none in
    let few : all_words r.row < words = let w = r.words in omega arith in
    let e = run-short words r.row r.tail r.free few in
    ap run_total (ap (run words) r.split ∙ rw (run_of_none (words - all_words r.row) r.tail last) at e)

-- the next one is free
begins_free : (k : ℕ) (is : List Item) → first_free is ≡ Some k → (later : List Item) × is ≡ space k ∷ later
begins_free k [] e = absurd cc
begins_free k (space n ∷ is) e = let same : n ≡ k = cc in (is, ap (λ m. space m ∷ is) same)
begins_free k (entry f name ∷ is) e = absurd cc

free_more : (row : List Item) (k : ℕ) → AreFree row → AreFree (row ++ space k ∷ [])
free_more [] k h = tt
free_more (space n ∷ row) k h = free_more row k h
free_more (entry f name ∷ row) k h = absurd h

pub record IsFurther (total count k : ℕ) (rest : List Item) : Type 0 where
  pub least : 1 ≤ k
  pub most : k ≤ 1023
  pub along : IsAlong (total + k) (count + 1) rest
  pub found : (words : ℕ) → total < words → words ≤ total + k → run_total (run words rest) ≡ run_total (Some (total + k, []))

pub along_more : (free : List (ℕ × ℕ)) (place total count k : ℕ) (before rest : List Item) → AreAt free place before rest → IsAlong total count rest
    → lookup (is_at (nat_cmp (place + total))) free ≡ Some k → IsFurther total count k rest
along_more free place total count k before rest at r some =
    let first = begins_free k r.tail (sym (along_at free place total count before rest at r) ∙ some) in
    let sizes : All IsSize (space k ∷ first.0) = subst (All IsSize) first.1 (all_right IsSize r.row r.tail (subst (All IsSize) r.split (all_right IsSize before rest at.sizes))) in
    let size = All-head IsSize (space k) first.0 sizes in
    let split : rest ≡ r.row ++ space k ∷ first.0 = r.split ∙ ap (λ l. r.row ++ l) first.1 in
    let words = r.words in
    let many = r.many in
    let least = size.0 in
    let both : all_words (r.row ++ space k ∷ []) ≡ all_words r.row + (k + 0) = all_words-append r.row (space k ∷ []) in
    record {
      least = size.0;
      most = size.1;
      along = record { row = r.row ++ space k ∷ []; tail = first.0; split = split ∙ sym (append_assoc r.row (space k ∷ []) first.0); free = free_more r.row k r.free; words = omega arith; many = omega arith };
      found = λ n short long.
          ap run_total (ap (run n) split ∙ run-row n k r.row first.0 r.free (omega arith) (omega arith))
          ∙ ap (λ t. run_total (Some (t + k, []))) words;
    }
