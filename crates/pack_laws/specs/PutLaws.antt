-- The law of a put, as a statement.
use Rattle.std.specs.Prelude.{ℕ, ◌+◌, ◌%◌, ◌<◌, ◌≤◌, List, [], ◌∷◌, length, All}
use Rattle.pack_model.specs.disk_records.specs.declared.records.Event.TheVariants.{Wrote}
use Rattle.pack_model.specs.disk_records.specs.Packs.{Pack}
use Rattle.pack_model.specs.reading.Sights.{sights}
use Rattle.pack_model.specs.reading.Files.{file_bytes}
use Rattle.pack_model.specs.reading.Stored.{stored_files}
use Rattle.pack_model.specs.sessions.Moves.{Obeys}
use Rattle.pack_model.specs.operations.Puts.{Put, WritesValue, putting}

-- Some bytes, within one page and within the file as it is.
pub record StaysWithin (p : Pack) (put : Put) : Type 0 where
  pub some : 0 < length put.bytes
  pub are_bytes : All (λ byte. byte < 256) put.bytes
  pub page : put.offset % 512 + length put.bytes ≤ 512
  pub file : put.offset + length put.bytes ≤ length (file_bytes (sights p) put.fid)

-- A value write that has the bytes of such a put in their place makes that put, and nothing else, of the living files.
abbrev pub ValueWriteIsThePut : Type 0
ValueWriteIsThePut = (p : Pack) (at part : ℕ) (words : List ℕ) (put : Put) → StaysWithin p put → WritesValue p at part words put → Obeys putting (stored_files p) p (Wrote at part words ∷ []) (put ∷ [])
