-- A step of the visitors that seek the place of a new entry.
use Rattle.std.specs.Prelude.{◌≡◌, IfNone, IfSome, Some}
use Rattle.pack_model.specs.reading.SlotWords.{SlotAt}
use Rattle.directory.specs.FoundRooms.{SeeksIn}
use Rattle.directory.specs.Inside.{MeetsMeant, MeetsRow}
use Rattle.directory.specs.declared.placing.Placing.{Placing}
use Rattle.directory.specs.declared.placing.Seeking.{Seeking}

-- the room stays once it is found; before, it is sought
pub record MeetsRoom (old : Seeking) (s : SlotAt) (new : Seeking) : Type 0 where
  pub needed : new.row.needed ≡ old.row.needed
  pub found : IfSome old.room (λ r. new.room ≡ Some r)
  pub sought : IfNone old.room (SeeksIn old.row s new.row new.room)

-- the entry of the same name, the most free words in a row, and the room
pub record MeetsAll (old : Placing) (s : SlotAt) (new : Placing) : Type 0 where
  pub same : MeetsMeant old.same s new.same
  pub runs : MeetsRow old.runs s new.runs
  pub seeking : MeetsRoom old.seeking s new.seeking
