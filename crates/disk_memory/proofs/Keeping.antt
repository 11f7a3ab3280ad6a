-- What a machine keeps true of itself when it gets more events.
use Rattle.std.proofs.Common.{◌≡◌, ℕ, ◌+◌, ◌^◌, ◌-◌, ◌<◌, ◌&&◌, min, Bool, true, false, IsTrue, zero, suc, List, [], ◌∷◌, ◌++◌, length, take, get_or, refl, sym, ◌∙◌, ap, arith}
use Rattle.std.specs.Prelude.{slice_set}
use Rattle.std.specs.List.{list_all}
use Rattle.std.proofs.lemmas.List.{get_or_read_under}
use Rattle.std.proofs.lemmas.List.Folds.{list_all-append}
use Rattle.std.proofs.lemmas.Bool.Decides.{nat_tests}
use Rattle.disk_records.specs.declared.shape.Shape.{Shape}
use Rattle.disk_records.specs.declared.records.Sector.{Sector}
use Rattle.disk_records.specs.declared.records.Event.{Event}
use Rattle.disk_records.specs.declared.records.Event.TheVariants.{Wrote}
use Rattle.disk_records.specs.Addresses.{pages_of}
use Rattle.disk_records.specs.Packs.{after_all, with_part, no_sector}
use Rattle.disk_records.specs.Events.{writes_in, shown_events}
use Rattle.disk_records.specs.Tapes.{capped}
use Rattle.disk_records.proofs.Growing.{after-append, after-shown, writes-append, writes-shown}
use Rattle.disk_memory.specs.Storing.{is_formed_event, record_words}

-- what the events of two lists leave
after_all-append : (shape : Shape) (sectors : List Sector) (a b : List Event) → after_all (a ++ b) sectors ≡ after_all b (after_all a sectors)
after_all-append shape sectors a b = ap (λ p. p.sectors) (after-append (record { shape = shape; sectors = sectors }) a b)

-- both of two tests hold
and_true : (a b : Bool) → IsTrue (a && b) → IsTrue a × IsTrue b
and_true true b h = (refl, h)
and_true false b h = absurd (cc)

-- ---- one record write more
pub right_wrote : (shape : Shape) (sectors base : List Sector) (events new : List Event) (at part : ℕ) (words : List ℕ) (sector next : Sector) → sectors ≡ after_all events base → length sectors ≡ pages_of shape → new ≡ events ++ Wrote at part words ∷ [] → sector ≡ get_or sectors at sector → at < pages_of shape → next ≡ with_part part words sector → slice_set sectors at next ≡ after_all new base
right_wrote shape sectors base events new at part words sector next right sized grown stands within is =
    let read : sector ≡ get_or sectors at no_sector = get_or_read_under sectors at (pages_of shape) sector no_sector stands within (sym sized) in
    ap (slice_set sectors at) (is ∙ ap (with_part part words) read)
    ∙ ap (λ s. slice_set s at (with_part part words (get_or s at no_sector))) right
    ∙ sym (after_all-append shape base events (Wrote at part words ∷ []))
    ∙ ap (λ e. after_all e base) (sym grown)

-- the count of record writes stays that of the events
pub counted_wrote : (events new : List Event) (at part writes after : ℕ) (words : List ℕ) → writes ≡ capped (writes_in events) → new ≡ events ++ Wrote at part words ∷ [] → after ≡ min (writes + 1) (2 ^ 64 - 1) → after ≡ capped (writes_in new)
counted_wrote events new at part writes after words counted grown is =
    let more : writes_in new ≡ writes_in events + 1 = ap writes_in grown ∙ writes-append events (Wrote at part words ∷ []) in
    omega (arith, more, counted, is)

-- the events stay ones that can be done again
pub whole_wrote : (shape : Shape) (events new : List Event) (at part : ℕ) (words : List ℕ) → IsTrue (list_all (is_formed_event shape) events) → new ≡ events ++ Wrote at part words ∷ [] → at < pages_of shape → part < 3 → length words ≡ record_words part → IsTrue (list_all (is_formed_event shape) new)
whole_wrote shape events new at part words whole grown within one size =
    let this : is_formed_event shape (Wrote at part words) ≡ true = grind (arith, nat_tests) in
    ap (list_all (is_formed_event shape)) grown
    ∙ list_all-append (is_formed_event shape) events (Wrote at part words ∷ [])
    ∙ ap (λ b. b && (is_formed_event shape (Wrote at part words) && true)) whole
    ∙ ap (λ b. b && true) this

-- ---- shown bytes more
pub right_shown : (shape : Shape) (sectors base : List Sector) (events new : List Event) (bytes : List ℕ) → sectors ≡ after_all events base → new ≡ events ++ shown_events bytes → sectors ≡ after_all new base
right_shown shape sectors base events new bytes right grown =
    right
    ∙ sym (ap (λ p. p.sectors) (after-shown (record { shape = shape; sectors = after_all events base }) bytes))
    ∙ sym (after_all-append shape base events (shown_events bytes))
    ∙ ap (λ e. after_all e base) (sym grown)

-- the count of record writes stays that of the events
pub counted_shown : (events new : List Event) (bytes : List ℕ) (writes : ℕ) → writes ≡ capped (writes_in events) → new ≡ events ++ shown_events bytes → writes ≡ capped (writes_in new)
counted_shown events new bytes writes counted grown =
    let same : writes_in new ≡ writes_in events = ap writes_in grown ∙ writes-append events (shown_events bytes) ∙ ap (λ n. writes_in events + n) (writes-shown bytes) ∙ omega arith in
    omega (arith, same, counted)

-- a shown byte can be shown again
whole-shown : (shape : Shape) (bytes : List ℕ) → list_all (is_formed_event shape) (shown_events bytes) ≡ true
whole-shown shape [] = refl
whole-shown shape (b ∷ bytes) = whole-shown shape bytes

-- the events stay ones that can be done again
pub whole_shown : (shape : Shape) (events new : List Event) (bytes : List ℕ) → IsTrue (list_all (is_formed_event shape) events) → new ≡ events ++ shown_events bytes → IsTrue (list_all (is_formed_event shape) new)
whole_shown shape events new bytes whole grown =
    ap (list_all (is_formed_event shape)) grown
    ∙ list_all-append (is_formed_event shape) events (shown_events bytes)
    ∙ ap (λ b. b && list_all (is_formed_event shape) (shown_events bytes)) whole
    ∙ whole-shown shape bytes

-- the sector at an address, as it was read
pub sector_here : (sectors base : List Sector) (events : List Event) (at n : ℕ) (sector : Sector) → sectors ≡ after_all events base → length sectors ≡ n → at < n → sector ≡ get_or sectors at sector → get_or (after_all events base) at no_sector ≡ sector
sector_here sectors base events at n sector right sized within stands =
    ap (λ s. get_or s at no_sector) (sym right) ∙ sym (get_or_read_under sectors at n sector no_sector stands within (sym sized))

-- an event of a list of whole ones
pub whole_at : (shape : Shape) (events : List Event) (i : ℕ) (event : Event) → IsTrue (list_all (is_formed_event shape) events) → i < length events → event ≡ get_or events i event → IsTrue (is_formed_event shape event)
whole_at shape [] i event whole within is = absurd (omega arith)
whole_at shape (e ∷ events) zero event whole within is = ap (is_formed_event shape) is ∙ (and_true (is_formed_event shape e) (list_all (is_formed_event shape) events) whole).0
whole_at shape (e ∷ events) (suc i) event whole within is = whole_at shape events i event (and_true (is_formed_event shape e) (list_all (is_formed_event shape) events) whole).1 (omega arith) is

-- first ones of events that can be done again
whole_take : (shape : Shape) (count : ℕ) (events : List Event) → IsTrue (list_all (is_formed_event shape) events) → IsTrue (list_all (is_formed_event shape) (take count events))
whole_take shape zero events whole = refl
whole_take shape (suc count) [] whole = refl
whole_take shape (suc count) (e ∷ events) whole =
    let both = and_true (is_formed_event shape e) (list_all (is_formed_event shape) events) whole in
    ap (λ b. b && list_all (is_formed_event shape) (take count events)) both.0 ∙ whole_take shape count events both.1

-- an event of the first ones, for another machine of the same shape
pub whole_in : (shape other : Shape) (events items : List Event) (count i : ℕ) (event : Event) → other ≡ shape → items ≡ events → IsTrue (list_all (is_formed_event shape) events) → i < length (take count items) → event ≡ get_or (take count items) i event → IsTrue (is_formed_event other event)
whole_in shape other events items count i event alike same whole within is =
    ap (λ s. is_formed_event s event) alike
    ∙ whole_at shape (take count items) i event (whole_take shape count items (ap (list_all (is_formed_event shape)) same ∙ whole)) within is
