-- The values that an entering writes, in order.
-- The order is this project's choice.
use Rattle.std.specs.Prelude.{ℕ, ◌+◌, ◌-◌, ◌==◌, cond, List, [], ◌∷◌, ◌++◌, length, get_or}
use Rattle.disk_records.specs.Packs.{Pack, sector_at, after}
use Rattle.pack_model.specs.reading.Bytes.{put_at}
use Rattle.pack_model.specs.reading.Slots.{Item, item_words}
use Rattle.pack_model.specs.reading.Slots.Item.{space}
use Rattle.pack_model.specs.operations.Rooms.{Room}
use Rattle.pack_model.specs.operations.PageWords.{freed_value, in_page, near, later}
use Rattle.pack_model.specs.operations.Commands.{values_writes}
use Rattle.pack_model.specs.operations.Committing.{page_of_word}

-- Where an entry goes: its room's first word in the directory, the words of the room's first slot, and those of all its slots; the
-- sector of the page with that first word, and that of the next page, where words come to lie there too.
pub record EntryRoom : Type 0 where
  pub place : ℕ
  pub first_words : ℕ
  pub total : ℕ
  pub at : ℕ
  pub next_at : ℕ

-- the room that was found among the directory's slots, in these sectors
abbrev pub found_room : Room → List Item → ℕ → ℕ → EntryRoom
found_room r is at next_at = record { place = r.place; first_words = item_words (get_or is r.first (space 0)); total = r.total; at = at; next_at = next_at }

-- the value that makes the room's free slots one, where they are several
abbrev pub joining : Pack → EntryRoom → List (ℕ × List ℕ)
joining p r = cond (r.first_words == r.total) [] ((r.at, freed_value r.place r.total (sector_at p r.at).value) ∷ [])

-- the pack with it
abbrev pub after_joining : Pack → EntryRoom → Pack
after_joining p r = after p (values_writes (joining p r))

-- the value of the next page, where the words lie over the page's end
abbrev pub overlapping : Pack → ℕ → List ℕ → ℕ → List (ℕ × List ℕ)
overlapping p place words next_at = cond (page_of_word (place + length words - 1) == page_of_word place) [] ((next_at, put_at 0 (later place words) (sector_at p next_at).value) ∷ [])

-- the values before the one that commits
abbrev pub values_first : Pack → EntryRoom → List ℕ → List (ℕ × List ℕ)
values_first p r words = joining p r ++ overlapping (after_joining p r) r.place words r.next_at

-- the value that commits, on the pack with all of these: the words in the room's own page
abbrev pub entry_value : Pack → EntryRoom → List ℕ → List ℕ
entry_value p r words = put_at (in_page r.place) (near r.place words) (sector_at (after p (values_writes (values_first p r words))) r.at).value

-- all of them
abbrev pub entered_values : Pack → EntryRoom → List ℕ → List (ℕ × List ℕ)
entered_values p r words = values_first p r words ++ (r.at, entry_value p r words) ∷ []
