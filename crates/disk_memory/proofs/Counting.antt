-- Events one after another: what is shown, written and counted of the first ones.
use Rattle.std.proofs.Common.{◌≡◌, ◌↔◌, IsNone, None, Option, Some, ℕ, ◌+◌, ◌-◌, ◌<◌, ◌≤◌, zero, suc, List, [], ◌∷◌, ◌++◌, length, take, drop, get_or, refl, sym, ◌∙◌, ap, add-one, drop_of_length-le, arith}
use Rattle.std.proofs.lemmas.List.{at_drop_more, take_more}
use Rattle.disk_records.specs.declared.records.Event.{Event}
use Rattle.disk_records.specs.declared.records.Event.TheVariants.{Wrote, Shown}
use Rattle.disk_records.specs.Events.{next_write, shown_bytes, place_of_write, writes_in}
use Rattle.disk_records.proofs.Growing.{shown-append}

-- one event more
pub take_event : (events : List Event) (i : ℕ) (event : Event) → i < length events → event ≡ get_or events i event → take (i + 1) events ≡ take i events ++ event ∷ []
take_event events i event within is = take_more events i event within ∙ ap (λ e. take i events ++ e ∷ []) (sym is)

-- what one event more shows
pub shown_more : (events items : List Event) (i : ℕ) (event : Event) (bytes new : List ℕ) → items ≡ events → i < length items → event ≡ get_or items i event → bytes ≡ shown_bytes (take i events) → new ≡ bytes ++ shown_bytes (event ∷ []) → new ≡ shown_bytes (take (i + 1) events)
shown_more events items i event bytes new same within is so_far more =
    more
    ∙ ap (λ l. l ++ shown_bytes (event ∷ [])) (so_far ∙ ap (λ l. shown_bytes (take i l)) (sym same))
    ∙ sym (shown-append (take i items) (event ∷ []))
    ∙ ap shown_bytes (sym (take_event items i event within is))
    ∙ ap (λ l. shown_bytes (take (i + 1) l)) same

-- ---- where the k-th record write stands
one_place : (event : Event) (events : List Event) (left : ℕ) → place_of_write (event ∷ events) (suc left) ≡ 1 + place_of_write events (suc left - writes_in (event ∷ []))
one_place (Wrote at part words) events left =
    let less : left ≡ suc left - 1 = omega arith in
    let first : suc (place_of_write events left) ≡ 1 + place_of_write events left = omega arith in
    first ∙ ap (λ n. 1 + place_of_write events n) less
one_place (Shown byte) events left =
    let same : suc left ≡ suc left - 0 = omega arith in
    let first : suc (place_of_write events (suc left)) ≡ 1 + place_of_write events (suc left) = omega arith in
    first ∙ ap (λ n. 1 + place_of_write events n) same

-- one event before the record write that is looked for
place_step : (events : List Event) (i left : ℕ) (event : Event) → i < length events → event ≡ get_or events i event → place_of_write (drop i events) (suc left) ≡ 1 + place_of_write (drop (suc i) events) (suc left - writes_in (event ∷ []))
place_step [] i left event within is = absurd (omega arith)
place_step (e ∷ events) (suc i) left event within is = place_step events i left event (omega arith) is
place_step (e ∷ events) zero left event within is = one_place e events left ∙ ap (λ x. 1 + place_of_write events (suc left - writes_in (x ∷ []))) (sym is)

-- the same for the count that is left of k
pub place_more : (events items : List Event) (k i left less : ℕ) (event : Event) → items ≡ events → i < length items → event ≡ get_or items i event → (left ≡ 0 → ⊥) → less ≡ writes_in (event ∷ []) → place_of_write events k ≡ i + place_of_write (drop i events) left → place_of_write events k ≡ i + 1 + place_of_write (drop (i + 1) events) (left - less)
place_more events items k i zero less event same within is some wrote so_far = absurd (some refl)
place_more events items k i (suc left) less event same within is some wrote so_far =
    let there : place_of_write (drop i items) (suc left) ≡ 1 + place_of_write (drop (suc i) items) (suc left - writes_in (event ∷ [])) = place_step items i left event within is in
    let here : place_of_write (drop i events) (suc left) ≡ 1 + place_of_write (drop (i + 1) events) (suc left - less) =
    ap (λ l. place_of_write (drop i l) (suc left)) (sym same)
    ∙ there
    ∙ ap (λ l. 1 + place_of_write (drop (suc i) l) (suc left - writes_in (event ∷ []))) same
    ∙ ap (λ n. 1 + place_of_write (drop (suc i) events) (suc left - n)) (sym wrote)
    ∙ ap (λ n. 1 + place_of_write (drop n events) (suc left - less)) (sym (add-one i)) in
    omega (arith, so_far, here)

-- no events have no record write
none_left : (left : ℕ) → place_of_write [] left ≡ 0
none_left zero = refl
none_left (suc left) = refl

-- all events were passed
pub place_end : (events : List Event) (k i left n : ℕ) → length events ≤ i → i ≤ length events → n ≡ length events → place_of_write events k ≡ i + place_of_write (drop i events) left → n ≡ place_of_write events k
place_end events k i left n past within is so_far =
    let none : place_of_write (drop i events) left ≡ 0 = ap (λ l. place_of_write l left) (drop_of_length-le events past) ∙ none_left left in
    omega (arith, so_far, none, is)

-- ---- the record write after the first k
-- there is none if and only if the events have no more than k
none_written : (events : List Event) (k : ℕ) → IsNone (next_write events k) ↔ writes_in events ≤ k
none_written [] k = ((λ none. omega arith), (λ less. refl))
none_written (Wrote at part words ∷ events) zero = ((λ none. absurd cc), (λ less. absurd (omega arith)))
none_written (Wrote at part words ∷ events) (suc k) =
    let rest = none_written events k in
    ((λ none. let less = rest.0 none in omega (arith, less)), (λ less. rest.1 (omega (arith, less))))
none_written (Shown byte ∷ events) k = none_written events k

-- the same of an answer that is that one
pub none_answered : (events : List Event) (k : ℕ) (r : Option (ℕ × ℕ)) → r ≡ next_write events k → IsNone r ↔ writes_in events ≤ k
none_answered events k r is = rw is (none_written events k)

-- the first of the events left
next_first : (event : Event) (events : List Event) (left : ℕ) (place : ℕ × ℕ) → left ≡ 0 → Some place ≡ next_write (event ∷ []) 0 → next_write (event ∷ events) left ≡ Some place
next_first (Wrote at part words) events left place none is = rw none (sym is)
next_first (Shown byte) events left place none is = absurd cc

pub next_here : (events items : List Event) (k i left : ℕ) (event : Event) (place : ℕ × ℕ) → items ≡ events → i < length items → event ≡ get_or items i event → left ≡ 0 → Some place ≡ next_write (event ∷ []) 0 → next_write events k ≡ next_write (drop i events) left → Some place ≡ next_write events k
next_here events items k i left event place same within is none wrote so_far =
    let first : next_write (drop i items) left ≡ next_write (event ∷ drop (i + 1) items) left =
    at_drop_more (λ l. next_write l left) items i event within ∙ ap (λ e. next_write (e ∷ drop (i + 1) items) left) (sym is) in
    sym (so_far ∙ ap (λ l. next_write (drop i l) left) (sym same) ∙ first ∙ next_first event (drop (i + 1) items) left place none wrote)

-- all events were passed
pub next_end : (events items : List Event) (k i left : ℕ) → items ≡ events → length items ≤ i → next_write events k ≡ next_write (drop i events) left → None ≡ next_write events k
next_end events items k i left same past so_far = sym (so_far ∙ ap (λ l. next_write (drop i l) left) (sym same) ∙ ap (λ l. next_write l left) (drop_of_length-le items past))
