-- What a caller sees of bytes that are read.
use Rattle.std.specs.Prelude.{◌≡◌, ◌⊎◌, ℕ, ◌+◌, ◌-◌, ◌*◌, ◌<◌, ◌≤◌, Bool, IsTrue, List, ◌++◌, length, min, take, drop, Some}
use Rattle.alto_words.specs.declared.fid.Fid.{Fid}
use Rattle.disk_records.specs.declared.records.Page.{Page}
use Rattle.disk_records.specs.Packs.{Pack, carried}
use Rattle.hint_cache.specs.Caches.{Cached, address_in}
use Rattle.pack_model.specs.operations.Committing.{page_of_byte}
use Rattle.pack_model.specs.states.Whole.{Whole}
use Rattle.page_seeking.specs.Seeking.{EndsAtPage, Refused, file_length, length_at, page_number}

-- So many bytes from the offset on, as many as are there and fit, stand in front of what stood after them.
pub record IsPart (bytes : List ℕ) (offset : ℕ) (old new : List ℕ) (n : ℕ) : Type 0 where
  pub many : n ≡ min (length old) (length bytes - offset)
  pub read : new ≡ take n (drop offset bytes) ++ drop n old

-- and the offset isn't past the end
pub record IsWithinPart (bytes : List ℕ) (offset : ℕ) (old new : List ℕ) (n : ℕ) : Type 0 where
  pub part : IsPart bytes offset old new n
  pub within : offset ≤ length bytes

-- So many bytes from the offset on stand in front of what stood after them, and the file has them.
pub record IsReadTo (bytes : List ℕ) (offset done : ℕ) (old now : List ℕ) : Type 0 where
  pub there : offset + done ≤ length bytes
  pub most : done ≤ length old
  pub read : now ≡ take done (drop offset bytes) ++ drop done old

-- The length is the file's, and the offset is past it.
pub record IsPast (p : Pack) (f : Fid) (offset n : ℕ) : Type 0 where
  pub is : n ≡ file_length p f
  pub past : n < offset

-- ---- the cache after reading
-- The page is listed at an address, and where the machine is modelled the sector there carries it.
pub record IsListed (told : Bool) (p : Pack) (page : Page) (cache : Cached) : Type 0 where
  pub at : ℕ
  pub listed : address_in cache.entries page ≡ Some at
  pub carries : IsTrue told → carried p at ≡ Some page

-- What was read ends in this page of the file, or with it: the page is listed, unless a `note` was refused.
pub record ListsEnd (told : Bool) (p : Pack) (f : Fid) (end : ℕ) (old new : Cached) : Type 0 where
  pub number : ℕ
  pub first : 1 ≤ number
  pub from : 512 * (number - 1) ≤ end
  pub upto : end ≤ 512 * number
  pub listed : IsListed told p (page_number f number) new ⊎ Refused old new

-- the page that the byte at this offset is in, or would be, is listed, unless a `note` was refused
abbrev pub ListsNext : Bool → Pack → Fid → ℕ → Cached → Cached → Type 0
ListsNext told p f offset old new = IsListed told p (page_number f (page_of_byte offset)) new ⊎ Refused old new

-- The length of a file was told by its last page, by its number and the bytes that count in it: the page is listed, unless a `note` was
-- refused. Where the machine is modelled, and the pack is whole, it is the page that the file ends in.
pub record ListsLast (told : Bool) (p : Pack) (f : Fid) (old new : Cached) (n : ℕ) : Type 0 where
  pub number : ℕ
  pub bytes : ℕ
  pub tells : n ≡ length_at number bytes
  pub ends : EndsAtPage number bytes
  pub most : bytes ≤ 512
  pub is : IsTrue told → Whole p → number ≡ page_of_byte (file_length p f)
  pub listed : IsListed told p (page_number f number) new ⊎ Refused old new
