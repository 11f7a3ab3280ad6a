-- What a part of a file's bytes is, of those that are read one after another.
use Rattle.std.specs.Prelude.{◌≡◌, ◌⊎◌, ◌≤◌, ◌+◌, ◌-◌, ◌*◌, ℕ, Bool, List, ◌++◌, length, min, take, drop}
use Rattle.alto_words.specs.declared.fid.Fid.{Fid}
use Rattle.disk_records.specs.Packs.{Pack}
use Rattle.disk_records.specs.Tapes.{Taped, pack}
use Rattle.hint_cache.specs.Caches.{Cached}
use Rattle.page_seeking.specs.Parts.{IsListed}
use Rattle.page_seeking.specs.Seeking.{Refused, page_number}
use Rattle.pack_model.specs.operations.Committing.{page_of_byte}

-- the bytes of eight pages
abbrev pub part_bytes : ℕ
part_bytes = 4096

-- So many bytes from the offset on, a whole part or all that are left, come after those that were read before.
pub record IsNextPart (bytes : List ℕ) (offset : ℕ) (old new : List ℕ) (n : ℕ) : Type 0 where
  pub within : offset ≤ length bytes
  pub many : n ≡ min part_bytes (length bytes - offset)
  pub read : new ≡ old ++ take n (drop offset bytes)

-- the page that the byte at this offset is in, or would be, is listed
abbrev pub IsNoted : Bool → Pack → Fid → ℕ → Cached → Type 0
IsNoted told p f offset cache = IsListed told p (page_number f (page_of_byte offset)) cache

-- After so many whole parts: as many bytes are read as they have, the first ones of the file.
pub record HasParts (bytes : List ℕ) (k : ℕ) (read : List ℕ) : Type 0 where
  pub there : k * part_bytes ≤ length bytes
  pub read_are : read ≡ take (k * part_bytes) bytes

-- And few sector commands: none before the first part; after it eight for each and two more, and the page to go on from is listed, unless a
-- note was refused.
pub record FewForParts (told : Bool) (f : Fid) (k : ℕ) (old now : Taped) (before cache : Cached) : Type 0 where
  pub first : k ≡ 0 → now.runs ≤ old.runs
  pub later : 1 ≤ k → ((now.runs ≤ old.runs + (8 * k + 2)) × IsNoted told (pack old) f (k * part_bytes) cache) ⊎ Refused before cache
