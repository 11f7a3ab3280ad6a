-- What a session keeps between its calls, and when that is right for a pack.
-- What is kept is this project's choice.
use Rattle.std.specs.Prelude.{◌≡◌, ◌≢◌, ◌≤◌, ◌<◌, ℕ, ◌+◌, ◌-◌, ◌*◌, ◌/◌, Bool, true, false, map, List, [], ◌∷◌, length, take, All}
use Rattle.std.specs.FinMap.{contains_key}
use Rattle.exec_words.specs.alto_words.specs.declared.fid.Fid.{Fid}
use Rattle.exec_words.specs.alto_words.specs.Fid.{is_directory, is_fid, disk_descriptor}
use Rattle.exec_words.specs.disk_records.specs.declared.shape.Shape.{Shape}
use Rattle.exec_words.specs.disk_records.specs.declared.records.Place.{Place}
use Rattle.exec_words.specs.disk_records.specs.declared.records.Tally.{Tally}
use Rattle.exec_words.specs.disk_records.specs.Addresses.{pages_of}
use Rattle.exec_words.specs.disk_records.specs.Packs.{Pack}
use Rattle.exec_words.specs.pack_model.specs.hints.Handy.{CachedAt}
use Rattle.exec_words.specs.pack_model.specs.hints.Sources.{IsFrom}
use Rattle.exec_words.specs.pack_model.specs.operations.Committing.{length_of}
use Rattle.exec_words.specs.pack_model.specs.reading.Model.{Model}
use Rattle.exec_words.specs.pack_model.specs.sessions.Descriptor.{DescriptorFits}
use Rattle.exec_words.specs.pack_model.specs.sessions.Meanings.{SessionCut}
use Rattle.world_model.specs.ZoneWords.{zone_start, zone_in}
use Rattle.world_model.specs.Levels.{level_base, IsAtLevel}
use Rattle.session_model.specs.Streams.{Stream, pending_from}
use Rattle.session_model.specs.Worlds.{World}
use Rattle.session_model.specs.Refusals.{most_streams}
use Rattle.session_model.specs.Turning.{State, StandsOn}

-- A file as a session knows it: its full name, the address of its leader, and where that came from.
pub record Ref : Type 0 where
  pub fid : Fid
  pub leader_at : ℕ
  pub place : Place

-- An open stream, as it is kept.
pub record OpenFile : Type 0 where
  pub number : ℕ
  pub ref : Ref
  pub position : ℕ
  pub base : ℕ
  pub pending : List ℕ
  pub put : Bool

-- DiskDescriptor's shape, last serial, mark and sectors; the table of busy bits and the cache of addresses, and how many addresses it
-- refused; the tally; the moment, the level and the memory; the open streams; whether a scavenge is needed.
pub record Kept : Type 0 where
  pub shape : Shape
  pub last : ℕ
  pub mark : ℕ
  pub pages : List ℕ
  pub busy : List Bool
  pub cache : List CachedAt
  pub refused : ℕ
  pub tally : Tally
  pub moment : ℕ
  pub level : ℕ
  pub memory : List ℕ
  pub streams : List OpenFile
  pub need : Bool

-- ---- the world that is kept: one for each memory
-- pending bytes end at the position, whatever base is kept where none are pending
abbrev pub stream_of : OpenFile → Stream
stream_of o = record { number = o.number; fid = o.ref.fid; position = o.position; base = o.position - length o.pending; pending = o.pending; put = o.put }

abbrev pub world_of : Kept → World
world_of k = record {
  moment = k.moment;
  level = k.level;
  user = take zone_start k.memory;
  zone = zone_in (level_base k.level) k.memory;
  streams = map stream_of k.streams;
  need = k.need;
}

-- ---- on every machine
-- the bytes of the longest file
abbrev pub most_bytes : ℕ
most_bytes = 65535 * 512

-- The stream is over an ordinary file other than DiskDescriptor; its pending bytes end at its position and lie in one page of a file.
pub record StreamFormed (o : OpenFile) : Type 0 where
  pub number : o.number < most_streams
  pub ordinary : is_directory o.ref.fid ≡ false
  pub no_descriptor : is_fid o.ref.fid disk_descriptor ≡ false
  pub ends : length o.pending ≤ o.position
  pub based : o.pending ≢ [] → o.base + length o.pending ≡ o.position
  pub one_page : pending_from (stream_of o) / 512 ≡ o.position / 512
  pub most : o.position ≤ most_bytes

-- before all of these streams, by its number, and of another file than each
abbrev pub ComesBefore : Stream → List Stream → Type 0
ComesBefore s [] = Unit {0}
ComesBefore s (t ∷ ts) = (s.number < t.number) × (is_fid t.fid s.fid ≡ false) × ComesBefore s ts

-- by rising number, each of a file of its own
abbrev pub AreApart : List Stream → Type 0
AreApart [] = Unit {0}
AreApart (s ∷ ss) = ComesBefore s ss × AreApart ss

-- The shape is the disk's, the table has a bit for each sector, the memory is one of its level, and the streams are such as can be open.
pub record Formed (form : Shape) (k : Kept) : Type 0 where
  pub shape : form ≡ k.shape
  pub bits : length k.busy ≡ pages_of form
  pub memory : IsAtLevel k.level k.memory
  pub streams : All StreamFormed k.streams
  pub apart : AreApart (map stream_of k.streams)

-- ---- on a machine that is modelled
-- The stream's file is in the model, and its pending bytes begin within it.
pub record StreamFits (m : Model) (s : Stream) : Type 0 where
  pub there : contains_key m.files s.fid ≡ true
  pub within : pending_from s ≤ length_of m s.fid

-- What is kept is right for the pack and the state. No hint is spoken of; where a scavenge is needed, the pack still shows the model.
pub record Keeping (p : Pack) (k : Kept) (s : State) : Type 0 where
  pub begins : s.over ≡ false
  pub world : s.world ≡ world_of k
  pub stands : StandsOn p s
  pub cut : SessionCut s.model p
  pub descriptor : k.need ≡ false → DescriptorFits p k.shape k.last k.mark k.pages
  pub fits : All (StreamFits s.model) s.world.streams
  pub refs : All (λ o. IsFrom p o.ref.fid o.ref.leader_at o.ref.place) k.streams
