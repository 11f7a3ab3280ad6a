-- The last page of a file, by a page before it.
use Rattle.std.specs.Prelude.{Bool, IsTrue, ℕ, ◌≤◌, ◌⊎◌}
use Rattle.alto_words.specs.declared.fid.Fid.{Fid}
use Rattle.disk_records.specs.Packs.{Pack}
use Rattle.hint_cache.specs.Caches.{Cached}
use Rattle.label_check.specs.declared.errors.PageInfo.{PageInfo}
use Rattle.page_seeking.specs.Parts.{IsListed}
use Rattle.page_seeking.specs.Seeking.{EndsAtPage, Refused, page_number}
use Rattle.page_seeking.specs.declared.ends.LastPage.{LastPage}
use Rattle.file_pages.specs.Releasing.{IsKnown}

-- A data page of this file that was read: its number and its count, and where the machine is modelled its sector and its label's words.
pub record IsDataPage (told : Bool) (p : Pack) (f : Fid) (number at : ℕ) (info : PageInfo) : Type 0 where
  pub first : 1 ≤ number
  pub most : info.bytes ≤ 512
  pub known : IsTrue told → IsKnown p (page_number f number) at info

-- The page ends its file, and is listed at its sector, unless a `note` was refused.
pub record ListsEndAt (told : Bool) (p : Pack) (f : Fid) (last : LastPage) (old new : Cached) : Type 0 where
  pub ends : EndsAtPage last.number last.info.bytes
  pub most : last.info.bytes ≤ 512
  pub listed : IsListed told p (page_number f last.number) new ⊎ Refused old new
