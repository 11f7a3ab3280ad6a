-- The slots of streams, and the list of those that are open.
use Rattle.std.proofs.Common.{◌≡◌, ℕ, zero, suc, ◌+◌, ◌<◌, ◌≤◌, ◌==◌, ◌||◌, Bool, true, false, cond, nat_lt, List, [], ◌∷◌, length, map, get_or, set, Option, Some, None, IfSome, IfNone, refl, sym, ap, ◌∙◌, arith}
use Rattle.std.proofs.lemmas.Bool.{eq-eqb, le-ltb, lt-ltb, ne_eqb}
use Rattle.std.proofs.lemmas.List.{get_or_default}
use Rattle.std.specs.Prelude.{slice_index_or, slice_set}
use Rattle.std.specs.List.{list_any}
use Rattle.std.specs.Option.{is_some, option_map}
use Rattle.alto_words.specs.declared.fid.Fid.{Fid}
use Rattle.alto_words.specs.Fid.{is_fid}
use Rattle.disk_stream.specs.declared.state.StreamState.{StreamState}
use Rattle.session_model.specs.Keeping.{OpenFile, stream_of}
use Rattle.session_model.specs.Streams.{free_number}
use Rattle.exec_session.specs.Streams.{open_file_at, free_from, has_file_in, is_open_at, numbered, open_file, with_file, without_file}

-- ---- of a file, and any
pub files_in_slots : (f : Fid) (n : ℕ) (slots : List (Option StreamState)) → list_any (has_file_in f) slots ≡ list_any (λ s. is_fid s.fid f) (map stream_of (numbered n slots))
files_in_slots f n [] = refl
files_in_slots f n (None ∷ slots) = files_in_slots f (n + 1) slots
files_in_slots f n (Some s ∷ slots) = ap (λ b. is_fid s.file.fid f || b) (files_in_slots f (n + 1) slots)

pub any_in_slots : (n : ℕ) (slots : List (Option StreamState)) → list_any is_some slots ≡ nat_lt 0 (length (numbered n slots))
any_in_slots n [] = refl
any_in_slots n (None ∷ slots) = any_in_slots (n + 1) slots
any_in_slots n (Some s ∷ slots) = sym (lt-ltb 0 (suc (length (numbered (n + 1) slots))) (omega arith))

-- ---- by number
-- none of those from n on has a number below it
same_numbers : (k n : ℕ) → k < n → (n == k) ≡ false
same_numbers k n less = ne_eqb n k (λ e. absurd (omega (arith, less, e)))

where_false : {X : Type 0} (b : Bool) (x y : X) → b ≡ false → cond b x y ≡ y
where_false true x y e = absurd (let f : true ≡ false = e in cc)
where_false false x y e = refl

where_true : {X : Type 0} (b : Bool) (x y : X) → b ≡ true → cond b x y ≡ x
where_true true x y e = refl
where_true false x y e = absurd (let f : false ≡ true = e in cc)

free_below : (k n : ℕ) (slots : List (Option StreamState)) → k < n → free_number k (map stream_of (numbered n slots)) ≡ k
free_below k n [] less = refl
free_below k n (None ∷ slots) less = free_below k (n + 1) slots (omega (arith, less))
free_below k n (Some s ∷ slots) less = where_false (n == k) (free_number (k + 1) (map stream_of (numbered (n + 1) slots))) k (same_numbers k n less)

none_below : (k n : ℕ) (slots : List (Option StreamState)) → k < n → open_file_at k (numbered n slots) ≡ None
none_below k n [] less = refl
none_below k n (None ∷ slots) less = none_below k (n + 1) slots (omega (arith, less))
none_below k n (Some s ∷ slots) less = where_false (n == k) (Some (open_file n s)) (open_file_at k (numbered (n + 1) slots)) (same_numbers k n less) ∙ none_below k (n + 1) slots (omega (arith, less))

kept_below : (k n : ℕ) (slots : List (Option StreamState)) → k < n → without_file k (numbered n slots) ≡ numbered n slots
kept_below k n [] less = refl
kept_below k n (None ∷ slots) less = kept_below k (n + 1) slots (omega (arith, less))
kept_below k n (Some s ∷ slots) less =
    where_false (n == k) (numbered (n + 1) slots) (open_file n s ∷ without_file k (numbered (n + 1) slots)) (same_numbers k n less)
    ∙ ap (λ os. open_file n s ∷ os) (kept_below k (n + 1) slots (omega (arith, less)))

first_below : (o : OpenFile) (n : ℕ) (slots : List (Option StreamState)) → o.number < n → with_file o (numbered n slots) ≡ o ∷ numbered n slots
first_below o n [] less = refl
first_below o n (None ∷ slots) less = first_below o (n + 1) slots (omega (arith, less))
first_below o n (Some s ∷ slots) less = where_true (nat_lt o.number n) (o ∷ open_file n s ∷ numbered (n + 1) slots) (open_file n s ∷ with_file o (numbered (n + 1) slots)) (lt-ltb o.number n less)

-- ---- the lowest that is free
free_is_lowest : (n k : ℕ) (slots : List (Option StreamState)) → free_from n slots ≡ Some k → k ≡ free_number n (map stream_of (numbered n slots))
free_is_lowest n k [] e = absurd (let f : None ≡ Some k = e in cc)
free_is_lowest n k (None ∷ slots) e = (let f : Some n ≡ Some k = e in cc) ∙ sym (free_below n (n + 1) slots (omega arith))
free_is_lowest n k (Some s ∷ slots) e = free_is_lowest (n + 1) k slots e ∙ sym (where_true (n == n) (free_number (n + 1) (map stream_of (numbered (n + 1) slots))) n (eq-eqb n n refl))

free_is_low : (n k : ℕ) (slots : List (Option StreamState)) → free_from n slots ≡ Some k → k < n + length slots
free_is_low n k [] e = absurd (let f : None ≡ Some k = e in cc)
free_is_low n k (None ∷ slots) e = let f : n ≡ k = cc in omega (arith, f)
free_is_low n k (Some s ∷ slots) e = let less = free_is_low (n + 1) k slots e in omega (arith, less)

all_taken : (n : ℕ) (slots : List (Option StreamState)) → free_from n slots ≡ None → length (numbered n slots) ≡ length slots
all_taken n [] e = refl
all_taken n (None ∷ slots) e = absurd (let f : Some n ≡ None = e in cc)
all_taken n (Some s ∷ slots) e = ap suc (all_taken (n + 1) slots e)

pub lowest_found : (slots : List (Option StreamState)) (found : Option ℕ) → found ≡ free_from 0 slots → IfSome found (λ k. (k < length slots) × (k ≡ free_number 0 (map stream_of (numbered 0 slots))))
lowest_found slots None is = tt
lowest_found slots (Some k) is = (let less = free_is_low 0 k slots (sym is) in omega (arith, less), free_is_lowest 0 k slots (sym is))

pub none_found : (slots : List (Option StreamState)) (found : Option ℕ) → found ≡ free_from 0 slots → IfNone found (length slots ≤ length (numbered 0 slots))
none_found slots None is = let all = all_taken 0 slots (sym is) in omega (arith, all)
none_found slots (Some k) is = tt

-- ---- a slot is taken or left
pub slot_is : (n i k : ℕ) (slots : List (Option StreamState)) → k ≡ n + i → i < length slots → open_file_at k (numbered n slots) ≡ option_map (open_file k) (get_or slots i None)
slot_is n i k [] is less = absurd (omega (arith, less))
slot_is n zero k (None ∷ slots) is less = none_below k (n + 1) slots (omega (arith, is))
slot_is n zero k (Some s ∷ slots) is less = let here : n ≡ k = omega (arith, is) in where_true (n == k) (Some (open_file n s)) (open_file_at k (numbered (n + 1) slots)) (eq-eqb n k here) ∙ ap (λ x. Some (open_file x s)) here
slot_is n (suc i) k (None ∷ slots) is less = slot_is (n + 1) i k slots (omega (arith, is)) (omega (arith, less))
slot_is n (suc i) k (Some s ∷ slots) is less = where_false (n == k) (Some (open_file n s)) (open_file_at k (numbered (n + 1) slots)) (ne_eqb n k (λ e. absurd (omega (arith, is, e)))) ∙ slot_is (n + 1) i k slots (omega (arith, is)) (omega (arith, less))

pub slot_left : (n i k : ℕ) (slots : List (Option StreamState)) → k ≡ n + i → i < length slots → numbered n (set slots i None) ≡ without_file k (numbered n slots)
slot_left n i k [] is less = absurd (omega (arith, less))
slot_left n zero k (None ∷ slots) is less = sym (kept_below k (n + 1) slots (omega (arith, is)))
slot_left n zero k (Some s ∷ slots) is less = sym (where_true (n == k) (numbered (n + 1) slots) (open_file n s ∷ without_file k (numbered (n + 1) slots)) (eq-eqb n k (omega (arith, is))))
slot_left n (suc i) k (None ∷ slots) is less = slot_left (n + 1) i k slots (omega (arith, is)) (omega (arith, less))
slot_left n (suc i) k (Some s ∷ slots) is less =
    ap (λ os. open_file n s ∷ os) (slot_left (n + 1) i k slots (omega (arith, is)) (omega (arith, less)))
    ∙ sym (where_false (n == k) (numbered (n + 1) slots) (open_file n s ∷ without_file k (numbered (n + 1) slots)) (ne_eqb n k (λ e. absurd (omega (arith, is, e)))))

pub slot_taken : (n i k : ℕ) (slots : List (Option StreamState)) (state : StreamState) → k ≡ n + i → i < length slots → open_file_at k (numbered n slots) ≡ None → numbered n (set slots i (Some state)) ≡ with_file (open_file k state) (numbered n slots)
slot_taken n i k [] state is less free = absurd (omega (arith, less))
slot_taken n zero k (None ∷ slots) state is less free =
    let here : n ≡ k = omega (arith, is) in
    ap (λ x. open_file x state ∷ numbered (n + 1) slots) here ∙ sym (first_below (open_file k state) (n + 1) slots (omega (arith, is)))
slot_taken n zero k (Some s ∷ slots) state is less free =
    absurd (let some = where_true (n == k) (Some (open_file n s)) (open_file_at k (numbered (n + 1) slots)) (eq-eqb n k (omega (arith, is))) in let f : Some (open_file n s) ≡ None = sym some ∙ free in cc)
slot_taken n (suc i) k (None ∷ slots) state is less free = slot_taken (n + 1) i k slots state (omega (arith, is)) (omega (arith, less)) free
slot_taken n (suc i) k (Some s ∷ slots) state is less free =
    let past : (n == k) ≡ false = ne_eqb n k (λ e. absurd (omega (arith, is, e))) in
    let rest = sym (where_false (n == k) (Some (open_file n s)) (open_file_at k (numbered (n + 1) slots)) past) ∙ free in
    ap (λ os. open_file n s ∷ os) (slot_taken (n + 1) i k slots state (omega (arith, is)) (omega (arith, less)) rest)
    ∙ sym (where_false (nat_lt k n) (open_file k state ∷ open_file n s ∷ numbered (n + 1) slots) (open_file n s ∷ with_file (open_file k state) (numbered (n + 1) slots)) (le-ltb k n (omega (arith, is))))

-- ---- of these slots, which make this list
module _ (slots : List (Option StreamState)) (os : List OpenFile) (is : numbered 0 slots ≡ os) (k at : ℕ) (here : at ≡ k) (less : k < length slots) where
  slot_there : (d : Option StreamState) → slice_index_or slots at d ≡ get_or slots k None
  slot_there d = ap (λ i. slice_index_or slots i d) here ∙ get_or_default slots k d None less

  -- what the slot has is in the list
  pub open_at : (d : Option StreamState) → open_file_at k os ≡ option_map (open_file k) (slice_index_or slots at d)
  open_at d = sym (ap (open_file_at k) is) ∙ slot_is 0 k k slots (omega arith) less ∙ ap (option_map (open_file k)) (sym (slot_there d))

  pub some_at : (d : Option StreamState) → is_some (slice_index_or slots at d) ≡ is_open_at k os
  some_at d = sym (some_mapped (slice_index_or slots at d)) ∙ ap is_some (sym (open_at d))
    where
      some_mapped : (o : Option StreamState) → is_some (option_map (open_file k) o) ≡ is_some o
      some_mapped None = refl
      some_mapped (Some s) = refl

  pub slot_emptied : numbered 0 (slice_set slots at None) ≡ without_file k os
  slot_emptied = ap (λ i. numbered 0 (slice_set slots i None)) here ∙ slot_left 0 k k slots (omega arith) less ∙ ap (without_file k) is

  pub slot_put : (state : StreamState) → open_file_at k os ≡ None → numbered 0 (slice_set slots at (Some state)) ≡ with_file (open_file k state) os
  slot_put state free =
      ap (λ i. numbered 0 (slice_set slots i (Some state))) here ∙ slot_taken 0 k k slots state (omega arith) less (ap (open_file_at k) is ∙ free)
      ∙ ap (with_file (open_file k state)) is
