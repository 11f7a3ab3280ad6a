-- Which bytes of a file are held back on their way to it, and which may join them.
use Rattle.std.specs.Prelude.{◌≡◌, ◌⊎◌, ℕ, ◌+◌, ◌-◌, ◌*◌, ◌/◌, ◌%◌, ◌<◌, ◌≤◌, ◌&&◌, Bool, nat_lt, nat_le, if◌then◌else◌, List, length, get_or, Option, Some, None, vec_len}
use Rattle.disk_records.specs.declared.records.Sector.{Sector}
use Rattle.disk_image.specs.declared.held.Held.{Held}
use Rattle.disk_image.specs.Images.{sector_bytes}

-- whether a place is one of so many from another one on
abbrev pub is_among : ℕ → ℕ → ℕ → Bool
is_among at count k = nat_le at k && nat_lt k (at + count)

-- the place in the file of the first byte that is held, and the one after the last
abbrev pub first_place : Held → ℕ
first_place held = held.number * 4096 + held.from

abbrev pub end_place : Held → ℕ
end_place held = held.number * 4096 + held.end

-- the byte that is held for a place of the file, if one is
abbrev pub held_at : Held → ℕ → Option ℕ
held_at held k = if is_among (first_place held) (held.end - held.from) k then Some (get_or held.buffer.items (k - held.number * 4096) 0) else None

-- these bytes are held for their places of the file, and for each other place what was held before
abbrev pub Puts : ℕ → List ℕ → Held → Held → Type 0
Puts at bytes old new = (k : ℕ) → held_at new k ≡ (if is_among at (length bytes) k then Some (get_or bytes (k - at) 0) else held_at old k)

-- that bytes from a place on may be put: nothing is held, or they begin in the page of memory of the last byte that is held or a later one
abbrev pub IsLater : ℕ → Held → Type 0
IsLater at held = (held.from ≡ held.end) ⊎ ((end_place held - 1) / 4096 * 4096 ≤ at)

-- why so many bytes from a place on aren't taken where nothing is held: the pages from theirs on, as many as there is memory for, don't
-- have all of them
abbrev pub IsTooMuch : ℕ → ℕ → Held → Type 0
IsTooMuch at count held = (held.from ≡ held.end) × (vec_len held.buffer < at % 4096 + count)

-- why so many bytes from a place on aren't taken where some are held: they aren't all in the pages from that of the first of those on, or
-- they end before them or begin after them, or they begin in a page before that of the last of them
abbrev pub IsApart : ℕ → ℕ → Held → Type 0
IsApart at count held = (held.from < held.end) × ((at < held.number * 4096) ⊎ (held.number * 4096 + vec_len held.buffer < at + count) ⊎ (end_place held < at) ⊎ (at + count < first_place held) ⊎ (at < (end_place held - 1) / 4096 * 4096))

abbrev pub IsRefused : ℕ → ℕ → Held → Type 0
IsRefused at count held = IsTooMuch at count held ⊎ IsApart at count held

-- that bytes for the places of the buffer from one up to another join those that are held
abbrev pub Joins : ℕ → ℕ → Held → Type 0
Joins from end held = (from ≤ held.end) × (held.from ≤ end) × ((held.end - 1) / 4096 ≤ from / 4096)

-- why they don't: some between them would be missing, or they begin in a page before that of the last byte that is held
abbrev pub StandsApart : ℕ → ℕ → Held → Type 0
StandsApart from end held = (held.end < from) ⊎ (end < held.from) ⊎ (from / 4096 < (held.end - 1) / 4096)

-- these bytes are all that is held, from this place of the file on
abbrev pub HoldsAll : ℕ → List ℕ → Held → Type 0
HoldsAll at bytes held = (k : ℕ) → held_at held k ≡ (if is_among at (length bytes) k then Some (get_or bytes (k - at) 0) else None)

abbrev pub HoldsNone : Held → Type 0
HoldsNone held = (k : ℕ) → held_at held k ≡ None

-- A file takes a sector for a place. Where its bytes may join those that are held they are held beside them or over them. Else what is held
-- goes ahead, and they alone are held; or nothing is, and they were written at once: where the pages from theirs on, as many as there is
-- memory for, don't have all of them.
abbrev pub TakesSector : ℕ → Sector → Held → Held → Type 0
TakesSector at sector old new = (IsLater at old × Puts at (sector_bytes sector) old new) ⊎ (IsRefused at 532 old × (HoldsAll at (sector_bytes sector) new ⊎ (IsTooMuch at 532 new × HoldsNone new)))
