-- Files with a body: bytes, or the slots of a directory.
-- A directory that is itself a file is that of the SOSP 1979 paper; to keep its slots as its body is this project's choice.
use Rattle.std.specs.Prelude.{ℕ, ◌+◌, ◌*◌, ◌/◌, Bool, not, cond, List, [], length, Option, Some, None}
use Rattle.std.specs.FinMap.{FinMap, retain_keys}
use Rattle.disk_records.specs.alto_words.specs.declared.fid.Fid.{Fid}
use Rattle.disk_records.specs.alto_words.specs.Fid.{fid_cmp, is_fid, is_directory, disk_descriptor}
use Rattle.pack_model.specs.reading.Bytes.{words_of}
use Rattle.pack_model.specs.reading.Leaders.{Leader}
use Rattle.pack_model.specs.reading.Sights.{Sight}
use Rattle.pack_model.specs.sessions.Maps.{map_values}
use Rattle.pack_model.specs.reading.Stored.{StoredFile, files_shown}
use Rattle.pack_model.specs.reading.Slots.{Item, all_words, slots}

-- what a file holds: bytes, or the slots of a directory
pub data Body : Type 0 where
  data_of : List ℕ → Body
  items_of : List Item → Body

-- a file of a model
pub record File : Type 0 where
  pub leader : Leader
  pub body : Body

-- rising by full name
abbrev pub Files : Type 0
Files = FinMap fid_cmp File

-- the bytes of an ordinary file, the slots of a directory
abbrev pub body_of : Fid → List ℕ → Body
body_of f bytes = cond (is_directory f) (items_of (slots (words_of bytes))) (data_of bytes)

-- a stored file as a file of a model
abbrev pub file_of : Fid → StoredFile → File
file_of f x = record { leader = x.leader; body = body_of f x.bytes }

-- the living files
unfoldable pub found : List Sight → Files
found ss = map_values file_of (files_shown ss)

-- every file except DiskDescriptor is in models
abbrev pub is_described : Fid → Bool
is_described f = not (is_fid f disk_descriptor)

-- the living files but DiskDescriptor
abbrev pub described : List Sight → Files
described ss = retain_keys (found ss) is_described

-- ---- lengths
-- a file's length in bytes; that of a directory is that of its slots
abbrev pub body_length : Body → ℕ
body_length (data_of bytes) = length bytes
body_length (items_of is) = all_words is * 2

-- the pages of a file of n bytes: the leader, the full ones, and the last
abbrev pub pages_for : ℕ → ℕ
pages_for n = 2 + n / 512

-- the slots of a directory, none of any other file
abbrev pub body_items : Body → List Item
body_items (data_of bytes) = []
body_items (items_of is) = is

-- the slots of a file; none where it is no directory
abbrev pub items_in : Option File → List Item
items_in None = []
items_in (Some x) = body_items x.body
