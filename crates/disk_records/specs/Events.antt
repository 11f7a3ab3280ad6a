-- Lists of events.
use Rattle.std.specs.Prelude.{◌≡◌, ℕ, zero, suc, ◌+◌, List, [], ◌∷◌, map, Option, Some, None}
use Rattle.disk_records.specs.declared.records.Event.{Event}
use Rattle.disk_records.specs.declared.records.Event.TheVariants.{Wrote, Shown}

-- these bytes, shown one after another
abbrev pub shown_events : List ℕ → List Event
shown_events bytes = map (λ byte. Shown byte) bytes

-- the bytes that are shown
abbrev pub shown_bytes : List Event → List ℕ
shown_bytes [] = []
shown_bytes (Wrote at part words ∷ events) = shown_bytes events
shown_bytes (Shown byte ∷ events) = byte ∷ shown_bytes events

-- the number of record writes
abbrev pub writes_in : List Event → ℕ
writes_in [] = 0
writes_in (Wrote at part words ∷ events) = 1 + writes_in events
writes_in (Shown byte ∷ events) = writes_in events

-- the length of the shortest prefix with k record writes, or of all events if there are fewer
abbrev pub place_of_write : List Event → ℕ → ℕ
place_of_write events zero = 0
place_of_write [] (suc k) = 0
place_of_write (Wrote at part words ∷ events) (suc k) = suc (place_of_write events k)
place_of_write (Shown byte ∷ events) (suc k) = suc (place_of_write events (suc k))

-- the sector and the part of the record write after the first k, if there are more
abbrev pub next_write : List Event → ℕ → Option (ℕ × ℕ)
next_write [] k = None
next_write (Wrote at part words ∷ events) zero = Some (at, part)
next_write (Wrote at part words ∷ events) (suc k) = next_write events k
next_write (Shown byte ∷ events) k = next_write events k

-- these events are a prefix of the wanted, and no others
abbrev pub IsFirstOf : List Event → List Event → Type 0
IsFirstOf wanted [] = Unit {0}
IsFirstOf [] (e ∷ events) = ⊥
IsFirstOf (w ∷ wanted) (e ∷ events) = (e ≡ w) × IsFirstOf wanted events
