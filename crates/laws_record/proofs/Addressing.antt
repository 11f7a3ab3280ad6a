-- Loose words: entries' addresses and the words inside free slots. Slots don't depend on them.
use Rattle.std.proofs.Common.{◌%◌, ◌+◌, ◌-◌, ◌<◌, ◌==◌, ◌∙◌, ◌∷◌, ◌≡◌, ◌≢◌, ◌≤◌, ◌⊎◌, Bool, List, None, Some, [], ap, arith, cond, drop, eq-eqb, eqb-true, false, get_or, get_or-drop, inl, inr, length, length-drop, length-take, min, nat_eq, refl, set, slice_index_or, subst, suc, sym, take, true, zero, ℕ}
use Rattle.std.proofs.lemmas.Grind.{same_number_lists}
use Rattle.std.proofs.lemmas.List.{drop-drop, get_or-set_other, get_or-set_same, get_or-take, length-set, length-take-le}
use Rattle.pack_laws.specs.disk_records.specs.Words.{word}
use Rattle.pack_laws.specs.pack_model.specs.reading.SlotWords.{SlotAt, slots_at}
use Rattle.pack_laws.specs.pack_model.specs.reading.Slots.{Item, entry_length, is_entry, item_words, slot_at, slot_fid, slot_name, slot_of, slots}
use Rattle.pack_laws.specs.pack_model.specs.reading.Slots.Item.{entry, space}
use Rattle.laws_record.proofs.Heads.{head_of, head_reads, slot_size, slots_cons, slots_some}

-- ---- words that differ at most in some places
-- lists of one length that are the same below n
pub take_same : (xs ys : List ℕ) (n : ℕ) → length ys ≡ length xs → ((k : ℕ) → k < n → k < length xs → get_or ys k 0 ≡ get_or xs k 0) → take n ys ≡ take n xs
take_same xs ys n size e = same_number_lists (take n ys) (take n xs) (length-take n ys ∙ ap (min n) size ∙ sym (length-take n xs))
    (λ k l. let m : k < min n (length ys) = subst (λ j. k < j) (length-take n ys) l in
    get_or-take n ys k 0 (omega arith) ∙ e k (omega arith) (omega (arith, size)) ∙ sym (get_or-take n xs k 0 (omega arith)))

-- the same from n on
pub drop_same : (xs ys : List ℕ) (n : ℕ) → length ys ≡ length xs → ((k : ℕ) → n ≤ k → k < length xs → get_or ys k 0 ≡ get_or xs k 0) → drop n ys ≡ drop n xs
drop_same xs ys n size e = same_number_lists (drop n ys) (drop n xs) (length-drop n ys ∙ ap (λ j. j - n) size ∙ sym (length-drop n xs))
    (λ k l. let m : k < length ys - n = subst (λ j. k < j) (length-drop n ys) l in
    get_or-drop n ys k 0 ∙ e (n + k) (omega arith) (omega (arith, size)) ∙ sym (get_or-drop n xs k 0))

-- the same except one word
set_same : (xs ys : List ℕ) (at : ℕ) → length ys ≡ length xs → ((k : ℕ) → k < length xs → k ≢ at → get_or ys k 0 ≡ get_or xs k 0) → ys ≡ set xs at (get_or ys at 0)
set_same xs ys at size e = same_number_lists ys (set xs at (get_or ys at 0)) (size ∙ sym (length-set xs at (get_or ys at 0)))
    (λ k l. elim (nat_eq k at) as (λ b. (k == at) ≡ b → get_or ys k 0 ≡ get_or (set xs at (get_or ys at 0)) k 0) [
      | true ↦ λ is. let z : k ≡ at = eqb-true k at is in ap (λ j. get_or ys j 0) z ∙ sym (ap (λ j. get_or (set xs at (get_or ys at 0)) j 0) z ∙ get_or-set_same xs at (get_or ys at 0) 0 (omega (arith, size)))
      | false ↦ λ is. let z : k ≢ at = λ same. let t : (k == at) ≡ true = eq-eqb k at same in cc in e k (omega (arith, size)) z ∙ sym (get_or-set_other xs at k (get_or ys at 0) 0 z)
    ] refl)

-- ---- one slot
-- a slot doesn't depend on its word 5 where it has words after that
slot_of-set : (words : List ℕ) (v : ℕ) → 6 ≤ length words → slot_of (set words 5 v) ≡ slot_of words
unfolding is_entry
slot_of-set (a ∷ b ∷ c ∷ d ∷ e ∷ g ∷ words) v l = refl
slot_of-set _ v l = absurd (omega arith)

-- an entry has at least seven words
pub entry_words_many : (n : ℕ) → 7 ≤ entry_length n
entry_words_many n = omega arith

-- whether a word of the slot says nothing: any but the first of a free one, an entry's address
abbrev pub IsLoose : Item → ℕ → Type 0
IsLoose (space n) k = (0 < k) × (k < n)
IsLoose (entry f name) k = k ≡ 5

-- what a free slot says
space_says : (words : List ℕ) (n : ℕ) → slot_of words ≡ Some (space n) → (word words 0 == length words) ≡ true
space_says words n e = by (word words 0 == length words) (is_entry words) refl e
  where
    by : (s t : Bool) → (word words 0 == length words) ≡ s → cond s (Some (space (length words))) (cond t (Some (entry (slot_fid words) (slot_name words))) None) ≡ Some (space n) → (word words 0 == length words) ≡ true
    by true t says e = says
    by false true says e = absurd (let clash : entry (slot_fid words) (slot_name words) ≡ space n = cc in cc)
    by false false says e = absurd cc

-- the words of a slot that differ at most in its loose ones are this slot
slot_of-kept : (i : Item) (a b : List ℕ) → length b ≡ length a → 0 < item_words i → slot_of a ≡ Some i → ((k : ℕ) → k < length a → (word b k ≡ word a k) ⊎ IsLoose i k) → slot_of b ≡ Some i
slot_of-kept (space n) a b size some reads same =
    let long = slot_size a (space n) reads in
    let first : word b 0 ≡ word a 0 = elim (same 0 (omega arith)) [ inl e ↦ e | inr loose ↦ absurd (let l = loose.0 in omega arith) ] in
    let says : (word b 0 == length b) ≡ true = (λ i. first i == size i) ∙ space_says a n reads in
    ap (λ t. cond t (Some (space (length b))) (cond (is_entry b) (Some (entry (slot_fid b) (slot_name b))) None)) says ∙ ap (λ k. Some (space k)) (size ∙ sym long)
slot_of-kept (entry f name) a b size some reads same =
    let many = entry_words_many (length name) in
    let long : item_words (entry f name) ≡ length a = slot_size a (entry f name) reads in
    ap slot_of (set_same a b 5 size (λ k l other. elim (same k l) [ inl e ↦ e | inr own ↦ absurd (other own) ]))
    ∙ slot_of-set a (word b 5) (omega arith) ∙ reads

-- the first word isn't loose
first_word : (i : Item) (a b : ℕ) → (b ≡ a) ⊎ IsLoose i 0 → b ≡ a
first_word i a b (inl e) = e
first_word (space n) a b (inr loose) = absurd (let l = loose.0 in omega arith)
first_word (entry f name) a b (inr own) = absurd (omega arith)

-- words that differ at most in loose ones have the same slot at their head
pub slot_kept : (xs ys : List ℕ) (i : Item) → length ys ≡ length xs → slot_at xs ≡ Some i → ((k : ℕ) → k < item_words i → (word ys k ≡ word xs k) ⊎ IsLoose i k) → slot_at ys ≡ Some i
slot_kept xs ys i size e same =
    let h = head_of xs i e in
    let within : item_words i ≤ length ys = (let w = h.within in omega arith) in
    let old = length-take-le (item_words i) xs h.within in
    let new = length-take-le (item_words i) ys within in
    head_reads ys i (record {
      some = h.some;
      within = within;
      most = h.most;
      first = ap (λ k. k % 1024) (first_word i (word xs 0) (word ys 0) (same 0 h.some)) ∙ h.first;
      reads = slot_of-kept i (take (item_words i) xs) (take (item_words i) ys) (new ∙ sym old) h.some h.reads
          (λ k l. let m : k < item_words i = omega (arith, old) in elim (same k m) [
            | inl z ↦ inl (get_or-take (item_words i) ys k 0 m ∙ z ∙ sym (get_or-take (item_words i) xs k 0 m))
            | inr own ↦ inr own
          ]);
    })

-- ---- slots in a row
-- word w is a loose one among these slots, the first of which begins with this word
abbrev pub LooseIn : ℕ → List Item → ℕ → Type 0
LooseIn place [] w = ⊥
LooseIn place (i ∷ is) w = ((place ≤ w) × IsLoose i (w - place)) ⊎ LooseIn (place + item_words i) is w

-- loose words stand after the first one
loose_after : (place : ℕ) (is : List Item) (w : ℕ) → LooseIn place is w → place ≤ w
loose_after place [] w h = absurd h
loose_after place (i ∷ is) w (inl here) = here.0
loose_after place (i ∷ is) w (inr later) = let l = loose_after (place + item_words i) is w later in omega arith

-- words that differ at most in loose ones have the same slots
pub slots_kept : (xs ys : List ℕ) (place : ℕ) (is : List Item) → length ys ≡ length xs → slots (drop place xs) ≡ is → ((k : ℕ) → place ≤ k → k < length xs → (word ys k ≡ word xs k) ⊎ LooseIn place is k) → slots (drop place ys) ≡ is
slots_kept xs ys place [] size e same = ap slots (drop_same xs ys place size (λ k l m. elim (same k l m) [ inl z ↦ z | inr none ↦ absurd none ])) ∙ e
slots_kept xs ys place (i ∷ is) size e same =
    let s = slots_cons (drop place xs) i is e in
    let h = head_of (drop place xs) i s.0 in
    let w : item_words i ≤ length xs - place = subst (λ n. item_words i ≤ n) (length-drop place xs) h.within in
    let some = h.some in
    let sizes : length (drop place ys) ≡ length (drop place xs) = length-drop place ys ∙ ap (λ n. n - place) size ∙ sym (length-drop place xs) in
    let here : slot_at (drop place ys) ≡ Some i =
    slot_kept (drop place xs) (drop place ys) i sizes s.0
    (λ k l. elim (same (place + k) (omega arith) (omega arith)) [
      | inl z ↦ inl (get_or-drop place ys k 0 ∙ z ∙ sym (get_or-drop place xs k 0))
      | inr address ↦ elim address [
        | inl own ↦ inr (let z : place + k - place ≡ k = omega arith in subst (IsLoose i) z own.1)
        | inr later ↦ absurd (let b = loose_after (place + item_words i) is (place + k) later in omega arith)
      ]
    ]) in
    let rest : slots (drop (place + item_words i) ys) ≡ is =
    slots_kept xs ys (place + item_words i) is size (ap slots (sym (drop-drop (item_words i) place xs)) ∙ s.1)
    (λ k l m. elim (same k (omega arith) m) [
      | inl z ↦ inl z
      | inr address ↦ elim address [
        | inl own ↦ absurd (loose_within i (k - place) own.1 (omega arith))
        | inr later ↦ inr later
      ]
    ]) in
    slots_some (drop place ys) i here ∙ ap (λ r. i ∷ r) (ap slots (drop-drop (item_words i) place ys) ∙ rest)
  where
    loose_within : (i : Item) (k : ℕ) → IsLoose i k → item_words i ≤ k → ⊥
    loose_within (space n) k own l = let m = own.1 in omega arith
    loose_within (entry f name) k own l = let many = entry_words_many (length name) in omega arith

-- a loose word of a slot that stands there
pub loose_among : (words : List ℕ) (place : ℕ) (is : List Item) (k : ℕ) (s : SlotAt) (j : ℕ) → k < length (slots_at words place is) → slice_index_or (slots_at words place is) k s ≡ s → IsLoose s.item j → LooseIn place is (s.place + j)
unfolding slots_at
loose_among words place [] k s j l is loose = absurd (omega arith)
loose_among words place (i ∷ is) zero s j l here loose =
    let one : i ≡ s.item = ap (λ x. x.item) here in
    let at : place ≡ s.place = ap (λ x. x.place) here in
    let z : j ≡ s.place + j - place = omega arith in
    inl (omega arith, subst (IsLoose i) z (subst (λ x. IsLoose x j) (sym one) loose))
loose_among words place (i ∷ is) (suc k) s j l here loose = inr (loose_among words (place + item_words i) is k s j (omega arith) here loose)
