-- What the private functions say: entries that were met, and a step of each visitor.
use Rattle.std.specs.Prelude.{◌≡◌, ◌-◌, ◌^◌, ◌++◌, ◌||◌, min, max, [], ◌∷◌, map}
use Rattle.std.specs.Option.{option_map}
use Rattle.alto_words.specs.Wanted.{base_wanted}
use Rattle.dir_slots.specs.Items.{address_of, items_of}
use Rattle.file_pages.specs.laws_midway.specs.RoomLaws.{row_words}
use Rattle.pack_model.specs.reading.Lookup.{EntryAt, holds_base, meant_by}
use Rattle.pack_model.specs.reading.Slots.{Item}
use Rattle.pack_model.specs.reading.Slots.Item.{entry, space}
use Rattle.pack_model.specs.reading.SlotWords.{SlotAt}
use Rattle.directory.specs.declared.entry.EntryFound.{EntryFound}
use Rattle.directory.specs.declared.finding.Finding.{Finding}
use Rattle.directory.specs.declared.slots.Slots.{Slots}
use Rattle.directory.specs.declared.runs.Runs.{Runs}
use Rattle.directory.specs.declared.versions.Versions.{Versions}

-- an entry that was met, as pack_model has it
abbrev pub found_at : EntryFound → EntryAt
found_at e = record { fid = e.fid; name = e.name; place = e.place; address = e.leader_at }

-- the entry of a file, and no free slot
abbrev pub IsEntry : Item → Type 0
IsEntry (space n) = ⊥
IsEntry (entry f name) = Unit {0}

-- ---- one slot more
-- the entry that is meant
pub record MeetsMeant (old : Finding) (s : SlotAt) (new : Finding) : Type 0 where
  pub wanted : new.wanted ≡ old.wanted
  pub best : option_map found_at new.best ≡ meant_by old.wanted (option_map found_at old.best) s

-- that of the greatest version, and whether the base is held
pub record MeetsVersion (old : Versions) (s : SlotAt) (new : Versions) : Type 0 where
  pub newest : MeetsMeant old.newest s new.newest
  pub held : new.held ≡ (old.held || holds_base (base_wanted old.newest.wanted) s.item)

-- the free words in the row that ends with it, as far as they are counted, and the most
pub record MeetsRow (old : Runs) (s : SlotAt) (new : Runs) : Type 0 where
  pub row : new.row ≡ min (row_words old.row s.item) (2 ^ 32 - 1)
  pub largest : new.largest ≡ max old.largest new.row

-- the slot with the address in it
pub record MeetsSlot (old : Slots) (s : SlotAt) (new : Slots) : Type 0 where
  pub items : items_of new.slots.items ≡ items_of old.slots.items ++ s.item ∷ []
  pub addresses : map address_of new.slots.items ≡ map address_of old.slots.items ++ s.address ∷ []
