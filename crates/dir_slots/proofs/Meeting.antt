-- One word more: it ends a slot or none.
use Rattle.std.proofs.Common.{◌≡◌, ℕ, ◌+◌, ◌<◌, ◌≤◌, true, false, List, [], ◌∷◌, ◌++◌, length, drop, Some, None, refl, sym, ap, ◌∙◌, subst, arith, append_assoc, append-nil}
use Rattle.std.proofs.lemmas.List.{length-append, length-drop, get_or_append_left, drop_all}
use Rattle.pack_model.specs.reading.Slots.{Item, item_words, all_words, first_length, slot_at, slots}
use Rattle.pack_model.specs.reading.Slots.Item.{space, entry}
use Rattle.pack_model.specs.reading.SlotWords.{SlotAt, address_at, slots_at}
use Rattle.dir_slots.specs.declared.walk.PlacedSlot.{PlacedSlot}
use Rattle.dir_slots.specs.Items.{item_of, address_of}
use Rattle.dir_slots.specs.Walks.{Walking, IsHeld, IsOpen, Walked, Meets, placed_slots}
use Rattle.dir_slots.proofs.Slots.{address_at-drop, all_words-append}
use Rattle.dir_slots.proofs.Hands.{hand_of, hand_more, slots_within, slots_open, slots_ended, slots_met, whole_stays, ends_here}

-- ---- slots as they stand
slots_at-append : (words : List ℕ) (place : ℕ) (is js : List Item) → slots_at words place (is ++ js) ≡ slots_at words place is ++ slots_at words (place + all_words is) js
unfolding slots_at
slots_at-append words place [] js = ap (λ (n : ℕ). slots_at words n js) (omega arith)
slots_at-append words place (i ∷ is) js =
    ap (λ l. record { place = place; item = i; address = address_at words place i } ∷ l)
    (slots_at-append words (place + item_words i) is js ∙ ap (λ (n : ℕ). slots_at words (place + item_words i) is ++ slots_at words n js) (omega arith))

address_stays : (given more : List ℕ) (place : ℕ) (i : Item) → place + item_words i ≤ length given → address_at (given ++ more) place i ≡ address_at given place i
address_stays given more place (space n) within = refl
address_stays given more place (entry f name) within = get_or_append_left given more 0 (place + 5) (omega (arith, within))

slots_at-stay : (given more : List ℕ) (place : ℕ) (is : List Item) → place + all_words is ≤ length given → slots_at (given ++ more) place is ≡ slots_at given place is
unfolding slots_at
slots_at-stay given more place [] within = refl
slots_at-stay given more place (i ∷ is) within =
    let here : place + item_words i ≤ length given = omega (arith, within) in
    let later : place + item_words i + all_words is ≤ length given = omega (arith, within) in
    λ j. record { place = place; item = i; address = address_stays given more place i here j } ∷ slots_at-stay given more (place + item_words i) is later j

-- the slots of more words are those, where they stood, and others
pub placed_more : (given more : List ℕ) (js : List Item) → slots (given ++ more) ≡ slots given ++ js → placed_slots (given ++ more) ≡ placed_slots given ++ slots_at (given ++ more) (all_words (slots given)) js
placed_more given more js is =
    ap (slots_at (given ++ more) 0) is ∙ slots_at-append (given ++ more) 0 (slots given) js
    ∙ (λ j. slots_at-stay given more 0 (slots given) (omega (arith, slots_within given)) j ++ slots_at (given ++ more) (start j) js)
  where
    start : 0 + all_words (slots given) ≡ all_words (slots given)
    start = omega arith

pub placed_same : (given more : List ℕ) → slots (given ++ more) ≡ slots given → placed_slots (given ++ more) ≡ placed_slots given ++ []
unfolding slots_at
placed_same given more same = placed_more given more [] (same ∙ sym (append-nil (slots given)))

-- ---- after one call
pub walked_open : (given : List ℕ) (walk : Walking) (hand : List ℕ) → walk.place ≡ all_words (slots given) → hand_of given ≡ hand → IsHeld walk hand → IsOpen hand → walk.ended ≡ false → Walked given walk
walked_open given walk hand place is held unended going = record {
  place = place;
  held = λ _. subst (IsHeld walk) (sym is) held;
  unfinished = λ _. subst IsOpen (sym is) unended;
  ended = λ ended. absurd (let no : true ≡ false = sym ended ∙ going in cc);
}

pub walked_ended : (given : List ℕ) (walk : Walking) → walk.place ≡ all_words (slots given) → ((more : List ℕ) → slots (given ++ more) ≡ slots given) → walk.ended ≡ true → Walked given walk
walked_ended given walk place last ended = record {
  place = place;
  held = λ going. absurd (let no : true ≡ false = sym ended ∙ going in cc);
  unfinished = λ going. absurd (let no : true ≡ false = sym ended ∙ going in cc);
  ended = λ _. last;
}

-- a slot ends with these words, the one that was in hand or the next
pub meets_more : (given more : List ℕ) (old new : Walking) → Walked given old → (met : PlacedSlot) → met.place ≡ old.place → new.place ≡ old.place + length (hand_of given ++ more) → new.ended ≡ false → IsHeld new []
    → slot_at (hand_of given ++ more) ≡ Some (item_of met.slot) → item_words (item_of met.slot) ≡ length (hand_of given ++ more) → address_of met.slot ≡ address_at (hand_of given ++ more) 0 (item_of met.slot) → Meets given (given ++ more) new (Some met)
unfolding slots_at
meets_more given more old new walked met at place ended held some size address =
    let i : Item = item_of met.slot in
    let hand : List ℕ = hand_of given ++ more in
    let one = slots_met given more i some size in
    let words : all_words (slots (given ++ more)) ≡ all_words (slots given) + length hand = ap all_words one ∙ all_words-append (slots given) (i ∷ []) ∙ omega (arith, size) in
    let long : all_words (slots given) + length hand ≡ length (given ++ more) =
    omega (arith, slots_within given, length-drop (all_words (slots given)) given, length-append (hand_of given) more, length-append given more) in
    let nothing : hand_of (given ++ more) ≡ [] = drop_all (all_words (slots (given ++ more))) (given ++ more) (omega (arith, words, long)) in
    let stands : address_at (given ++ more) (all_words (slots given)) i ≡ address_of met.slot =
    sym (address_at-drop (given ++ more) (all_words (slots given)) i) ∙ ap (λ l. address_at l 0 i) (hand_more given more) ∙ sym address in
    record {
      walked = walked_open (given ++ more) new [] (place ∙ ap (λ (n : ℕ). n + length hand) walked.place ∙ sym words) nothing held (λ some. absurd (omega (arith, some))) ended;
      slots = placed_more given more (i ∷ []) one ∙ ap (λ (s : SlotAt). placed_slots given ++ s ∷ []) (λ j. record { place = (sym walked.place ∙ sym at) j; item = i; address = stands j });
    }

module _ (given : List ℕ) (w : ℕ) (old new : Walking) (walked : Walked given old) (going : old.ended ≡ false) where
  -- the slot in hand goes on
  pub goes_on : new.place ≡ old.place → new.ended ≡ false → IsHeld new (hand_of given ++ w ∷ []) → IsOpen (hand_of given ++ w ∷ []) → Meets given (given ++ w ∷ []) new None
  goes_on place ended held unended =
      let same = slots_open given (w ∷ []) unended in
      let hand : hand_of (given ++ w ∷ []) ≡ hand_of given ++ w ∷ [] = ap (λ is. drop (all_words is) (given ++ w ∷ [])) same ∙ hand_more given (w ∷ []) in
      record {
        walked = walked_open (given ++ w ∷ []) new (hand_of given ++ w ∷ []) (place ∙ walked.place ∙ ap all_words (sym same)) hand held unended ended;
        slots = placed_same given (w ∷ []) same;
      }

  -- a slot that can't be read
  pub ends : new.place ≡ old.place → new.ended ≡ true → first_length (hand_of given ++ w ∷ []) ≤ length (hand_of given ++ w ∷ []) → slot_at (hand_of given ++ w ∷ []) ≡ None → Meets given (given ++ w ∷ []) new None
  ends place ended whole none =
      let hand : List ℕ = hand_of given ++ w ∷ [] in
      let same = slots_ended given (w ∷ []) none in
      let some : 0 < length hand = omega (arith, length-append (hand_of given) (w ∷ [])) in
      let last : (more : List ℕ) → slots ((given ++ w ∷ []) ++ more) ≡ slots (given ++ w ∷ []) = λ more.
      let longer : slot_at (hand_of given ++ w ∷ more) ≡ None = ap slot_at (sym (append_assoc (hand_of given) (w ∷ []) more)) ∙ whole_stays hand more some whole ∙ none in
      ap slots (append_assoc given (w ∷ []) more) ∙ slots_ended given (w ∷ more) longer ∙ sym same in
      record {
        walked = walked_ended (given ++ w ∷ []) new (place ∙ walked.place ∙ ap all_words (sym same)) last ended;
        slots = placed_same given (w ∷ []) same;
      }

  -- a slot ends with this word
  pub meets_one : (met : PlacedSlot) → met.place ≡ old.place → new.place ≡ old.place + length (hand_of given ++ w ∷ []) → new.ended ≡ false → IsHeld new []
      → slot_at (hand_of given ++ w ∷ []) ≡ Some (item_of met.slot) → address_of met.slot ≡ address_at (hand_of given ++ w ∷ []) 0 (item_of met.slot) → Meets given (given ++ w ∷ []) new (Some met)
  meets_one met at place ended held some address =
      meets_more given (w ∷ []) old new walked met at place ended held some (ends_here (hand_of given) w (item_of met.slot) (walked.unfinished going) some) address
