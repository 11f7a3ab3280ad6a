-- Bytes put in the place of others of a stored file, by one value write.
-- How a put is tied to its record write is this project's choice.
use Rattle.std.specs.Prelude.{◌≡◌, ℕ, ◌+◌, ◌/◌, ◌%◌, List, Some}
use Rattle.disk_records.specs.alto_words.specs.declared.fid.Fid.{Fid}
use Rattle.disk_records.specs.declared.records.Event.{Event}
use Rattle.disk_records.specs.declared.records.Event.TheVariants.{Wrote, Shown}
use Rattle.disk_records.specs.Packs.{Pack, sector_at}
use Rattle.pack_model.specs.reading.Bytes.{bytes_of, words_of, put_at}
use Rattle.pack_model.specs.reading.Sights.{sights}
use Rattle.pack_model.specs.reading.Files.{place}
use Rattle.pack_model.specs.reading.Stored.{StoredFiles, stored_files, stored_put}
use Rattle.pack_model.specs.sessions.Moves.{Meaning}

-- bytes for a file, from an offset in it on
pub record Put : Type 0 where
  pub fid : Fid
  pub offset : ℕ
  pub bytes : List ℕ

-- It is the value of the sector that bears the page of the offset: the bytes in their place, and the rest of the page as it was.
pub record WritesValue (p : Pack) (at part : ℕ) (words : List ℕ) (put : Put) : Type 0 where
  pub value_alone : part ≡ 2
  pub bears : place (sights p) put.fid (put.offset / 512 + 1) ≡ Some at
  pub value : words ≡ words_of (put_at (put.offset % 512) put.bytes (bytes_of (sector_at p at).value))

-- this event is the put
abbrev pub MakesPut : Pack → Event → Put → Type 0
MakesPut p (Wrote at part words) put = WritesValue p at part words put
MakesPut p (Shown byte) put = ⊥

-- the pack holds these files
abbrev pub IsStored : StoredFiles → Pack → Type 0
IsStored files p = stored_files p ≡ files

-- a move is a put; a pack stands for its living files
abbrev pub putting : Meaning StoredFiles Put
putting = record {
  step = λ files put. stored_put files put.fid put.offset put.bytes;
  read = stored_files;
  Stands = IsStored;
  Makes = MakesPut;
}
