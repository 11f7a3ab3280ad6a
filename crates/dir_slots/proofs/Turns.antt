-- Calls one after another.
use Rattle.std.proofs.Common.{◌≡◌, ℕ, ◌+◌, ◌-◌, ◌<◌, ◌≤◌, true, false, List, [], ◌∷◌, ◌++◌, length, take, drop, set, get_or, Option, None, sym, ap, ◌∙◌, arith, append_assoc, append-nil, length-append}
use Rattle.std.specs.Option.{option_map, option_to_list}
use Rattle.std.proofs.lemmas.List.{length-take, take-take, take_all, take-append-le, take-append-drop, take_more, take_more_set}
use Rattle.std.proofs.Math.Seq.{take-append-add}
use Rattle.pack_model.specs.reading.Slots.{all_words, slots}
use Rattle.pack_model.specs.reading.SlotWords.{slots_at}
use Rattle.dir_slots.specs.declared.walk.PlacedSlot.{PlacedSlot}
use Rattle.dir_slots.specs.Walks.{Walking, IsHeld, Walked, Meets, placed_slots, slot_met}
use Rattle.dir_slots.proofs.Heads.{slot_at-nil}
use Rattle.dir_slots.proofs.Slots.{slots-none}
use Rattle.dir_slots.proofs.Meeting.{placed_same, walked_open, walked_ended}

-- before the first word
pub at_start : (walk : Walking) → walk.place ≡ 0 → IsHeld walk [] → walk.ended ≡ false → Walked [] walk
at_start walk place held going =
    let none = slots-none [] slot_at-nil in
    walked_open [] walk [] (place ∙ ap all_words (sym none)) (ap (λ is. drop (all_words is) []) none) held (λ some. absurd (omega (arith, some))) going

-- no slot stands in no words
pub none_placed : placed_slots [] ≡ []
unfolding slots_at
none_placed = ap (slots_at [] 0) (slots-none [] slot_at-nil)

-- ---- words that are kept
pub word_kept : (front hand : List ℕ) (held w : ℕ) → length front ≡ 26 → held ≡ length hand → take held front ≡ take 26 hand → held < 26 → take (held + 1) (set front held w) ≡ take 26 (hand ++ w ∷ [])
word_kept front hand held w long same is few =
    take_more_set front held w (omega (arith, long, few)) ∙ ap (λ l. l ++ w ∷ []) (is ∙ take_all 26 hand (omega (arith, same, few)))
    ∙ sym (take_all 26 (hand ++ w ∷ []) (omega (arith, same, few, length-append hand (w ∷ []))))

pub word_passed : (front hand : List ℕ) (held w : ℕ) → length front ≡ 26 → held ≡ length hand → take held front ≡ take 26 hand → 26 ≤ held → take (held + 1) front ≡ take 26 (hand ++ w ∷ [])
word_passed front hand held w long same is many =
    take_all (held + 1) front (omega (arith, long, many)) ∙ sym (take_all held front (omega (arith, long, many))) ∙ is
    ∙ sym (take-append-le 26 hand (w ∷ []) (omega (arith, same, many)))

-- ---- calls one after another
pub none_met : (given : List ℕ) (walk : Walking) → Walked given walk → Meets given given walk None
none_met given walk walked = record { walked = walked; slots = sym (append-nil (placed_slots given)) }

pub then_meets : (a b c : List ℕ) (first second : Walking) (met : Option PlacedSlot) → Meets a b first None → Meets b c second met → Meets a c second met
then_meets a b c first second met x y = record {
  walked = y.walked;
  slots = y.slots ∙ ap (λ l. l ++ option_to_list (option_map slot_met met)) (x.slots ∙ append-nil (placed_slots a));
}

-- no words that follow a slot that can't be read make another
pub ended_stays : (given more : List ℕ) (walk : Walking) → Walked given walk → walk.ended ≡ true → Meets given (given ++ more) walk None
ended_stays given more walk walked ended =
    let same = walked.ended ended in
    record {
      walked = walked_ended (given ++ more) walk (walked.place ∙ ap all_words (sym (same more))) (λ later. ap slots (append_assoc given more later) ∙ same (more ++ later) ∙ sym (same more)) ended;
      slots = placed_same given more (same more);
    }

-- ---- words of a page
pub one_more : (given page : List ℕ) (from d : ℕ) → from < length page → (given ++ take from page) ++ get_or page from d ∷ [] ≡ given ++ take (from + 1) page
one_more given page from d within = append_assoc given (take from page) (get_or page from d ∷ []) ∙ ap (λ l. given ++ l) (sym (take_more page from d within))

pub rest_of_page : (given page : List ℕ) (from : ℕ) → (given ++ take from page) ++ drop from page ≡ given ++ take (length page) page
rest_of_page given page from = append_assoc given (take from page) (drop from page) ∙ ap (λ l. given ++ l) (take-append-drop from page ∙ sym (take_all (length page) page (omega arith)))

pub more_of_page : (given page : List ℕ) (from n : ℕ) → from ≤ length page → n ≤ length page - from → (given ++ take from page) ++ take n (take (length page - from) (drop from page)) ≡ given ++ take (from + n) page
more_of_page given page from n within few =
    let long : length (take from page) ≡ from = let e = length-take from page in omega (arith, e, within) in
    append_assoc given (take from page) (take n (take (length page - from) (drop from page)))
    ∙ ap (λ l. given ++ l)
    (ap (λ l. take from page ++ l) (take-take n (length page - from) (drop from page) few) ∙ sym (take-append-add (take from page) (drop from page) n) ∙ ap (λ (k : ℕ). take (k + n) (take from page ++ drop from page)) long ∙ ap (λ l. take (from + n) l) (take-append-drop from page))
