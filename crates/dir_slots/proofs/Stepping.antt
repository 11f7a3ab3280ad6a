-- What one word, or a slot that is read where it stands, does to the fields of a walk.
use Rattle.std.proofs.Common.{◌≡◌, ℕ, ◌+◌, ◌%◌, ◌<◌, ◌≤◌, min, Bool, true, false, List, [], ◌∷◌, ◌++◌, length, take, get_or, Some, None, refl, sym, ap, ◌∙◌, subst, arith}
use Rattle.std.specs.List.{slice_get}
use Rattle.std.proofs.lemmas.List.{get_or-take, length-take, take-take, length_push}
use Rattle.pack_model.specs.reading.Slots.{item_words, first_length, slot_at}
use Rattle.pack_model.specs.reading.SlotWords.{address_at}
use Rattle.dir_slots.specs.declared.slot.Slot.{Slot}
use Rattle.dir_slots.specs.declared.walk.PlacedSlot.{PlacedSlot}
use Rattle.dir_slots.specs.Items.{item_of, address_of}
use Rattle.dir_slots.specs.Walks.{Walking, Walked, Meets}
use Rattle.dir_slots.proofs.Slots.{front_of}
use Rattle.dir_slots.proofs.Hands.{hand_of, whole_is}
use Rattle.dir_slots.proofs.Meeting.{goes_on, ends, meets_one, meets_more}

-- what is seen of a walk with these fields
abbrev pub walking : ℕ → ℕ → List ℕ → Bool → Walking
walking place held front ended = record { place = place; held = held; front = take held front; ended = ended }

module _ (given : List ℕ) (w : ℕ) (place held : ℕ) (front fresh : List ℕ) (ended : Bool) (walked : Walked given (walking place held front ended)) (going : ended ≡ false)
    (kept : (hand : List ℕ) → held ≡ length hand → take held front ≡ take 26 hand → take (held + 1) fresh ≡ take 26 (hand ++ w ∷ [])) where
  abbrev hand : List ℕ
  hand = hand_of given ++ w ∷ []

  front_now : take (held + 1) fresh ≡ take 26 hand
  front_now = let was = walked.held going in kept (hand_of given) was.held was.front

  pub long_now : held + 1 ≡ length hand
  long_now = let was = walked.held going in ap (λ (n : ℕ). n + 1) was.held ∙ sym (length_push (hand_of given) w)

  first_now : get_or fresh 0 0 % 1024 ≡ first_length hand
  first_now = ap (λ (x : ℕ). x % 1024) (sym (get_or-take (held + 1) fresh 0 0 (omega arith)) ∙ ap (λ l. get_or l 0 0) front_now ∙ get_or-take 26 hand 0 0 (omega arith))

  -- the words that a slot is read from
  pub front_read : (n : ℕ) → n ≡ min (held + 1) 26 → take n fresh ≡ take 26 hand
  front_read n is =
      sym (take-take n (held + 1) fresh (omega (arith, is))) ∙ ap (take n) front_now
      ∙ take-take n 26 hand (omega (arith, is)) ∙ front_of hand n (is ∙ ap (λ (m : ℕ). min m 26) long_now)

  pub step_goes : held + 1 < get_or fresh 0 0 % 1024 → Meets given (given ++ w ∷ []) (walking place (held + 1) fresh ended) None
  step_goes unended = goes_on given w (walking place held front ended) (walking place (held + 1) fresh ended) walked going refl going (record { held = long_now; front = front_now }) (λ _. omega (arith, unended, first_now, long_now))

  pub step_ends : get_or fresh 0 0 % 1024 ≤ held + 1 → None ≡ slot_at hand → Meets given (given ++ w ∷ []) (walking place 0 fresh true) None
  step_ends whole none = ends given w (walking place held front ended) (walking place 0 fresh true) walked going refl refl (omega (arith, whole, first_now, long_now)) (sym none)

  pub step_meets : (met : PlacedSlot) → met.place ≡ place → Some (item_of met.slot) ≡ slot_at hand → address_of met.slot ≡ address_at hand 0 (item_of met.slot)
      → Meets given (given ++ w ∷ []) (walking (place + (held + 1)) 0 fresh ended) (Some met)
  step_meets met at some address =
      meets_one given w (walking place held front ended) (walking (place + (held + 1)) 0 fresh ended) walked going met at (ap (λ (n : ℕ). place + n) long_now) going (record { held = refl; front = refl }) (sym some) address

-- ---- a slot that is read where it stands
pub nothing_is : (l : List ℕ) → 0 ≡ length l → l ≡ []
nothing_is [] e = refl
nothing_is (x ∷ l) e = absurd (omega (arith, e))

pub first_word : (words : List ℕ) (w : ℕ) → Some w ≡ slice_get words 0 → get_or words 0 0 ≡ w
first_word [] w some = absurd (let no : Some w ≡ None = some in cc)
first_word (x ∷ words) w some = let same : Some w ≡ Some x = some in cc

-- words that begin with the whole of a slot, whose first word says that it has n
module _ (words : List ℕ) (first n : ℕ) (slot : Slot) (begins : Some first ≡ slice_get words 0) (long : n ≡ first % 1024) (within : n ≤ length words) (some : Some (item_of slot) ≡ slot_at (take n words)) (least : 0 < n) where
  whole_long : length (take n words) ≡ n
  whole_long = let e = length-take n words in omega (arith, e, within)

  pub whole_size : item_words (item_of slot) ≡ n
  whole_size =
      let head : first_length (take n words) ≡ n = ap (λ (x : ℕ). x % 1024) (get_or-take n words 0 0 least ∙ first_word words first begins) ∙ sym long in
      whole_is (take n words) (item_of slot) (head ∙ sym whole_long) (sym some) ∙ whole_long

  -- what it does to the fields of a walk that has no word in hand
  pub whole_meets : (given : List ℕ) (place held : ℕ) (front : List ℕ) (ended : Bool) → Walked given (walking place held front ended) → ended ≡ false → held ≡ 0
      → address_of slot ≡ address_at (take n words) 0 (item_of slot)
      → Meets given (given ++ take (item_words (item_of slot)) words) (walking (place + n) held front ended) (Some (record { place = place; slot = slot }))
  whole_meets given place held front ended walked going none address =
      let was = walked.held going in
      let empty : hand_of given ≡ [] = nothing_is (hand_of given) (sym none ∙ was.held) in
      let joined : hand_of given ++ take n words ≡ take n words = ap (λ l. l ++ take n words) empty in
      let size : length (hand_of given ++ take n words) ≡ n = ap (λ (l : List ℕ). length l) joined ∙ whole_long in
      let met : PlacedSlot = record { place = place; slot = slot } in
      subst (λ (k : ℕ). Meets given (given ++ take k words) (walking (place + n) held front ended) (Some met)) (sym whole_size)
      (meets_more given (take n words) (walking place held front ended) (walking (place + n) held front ended) walked met refl (ap (λ (k : ℕ). place + k) (sym size)) going
      (record { held = none; front = ap (λ (k : ℕ). take k front) none }) (ap slot_at joined ∙ sym some) (whole_size ∙ sym size) (address ∙ ap (λ l. address_at l 0 (item_of slot)) (sym joined)))
