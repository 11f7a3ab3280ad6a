-- Which pages count, which sectors are in use by them, and how far the pages of a file go.
use Rattle.std.specs.Prelude.{◌≡◌, ◌↔◌, ℕ, suc, ◌*◌, ◌/◌, ◌<◌, ◌&&◌, nat_le, true, false, length, Some}
use Rattle.std.specs.Option.{is_some}
use Rattle.laws_room.specs.alto_words.specs.declared.fid.Fid.{Fid}
use Rattle.laws_room.specs.alto_words.specs.Fid.{is_fid, disk_descriptor}
use Rattle.laws_room.specs.disk_records.specs.Addresses.{pages_of}
use Rattle.laws_room.specs.disk_records.specs.declared.records.Page.{Page}
use Rattle.laws_room.specs.disk_records.specs.Packs.{Pack, carried}
use Rattle.laws_room.specs.pack_model.specs.hints.Links.{dir_words}
use Rattle.laws_room.specs.pack_model.specs.reading.Files.{lives, file_bytes, place}
use Rattle.laws_room.specs.pack_model.specs.reading.Sights.{sights}
use Rattle.laws_room.specs.pack_model.specs.reading.Slots.{SlotsReachEnd, all_words, slots}
use Rattle.laws_room.specs.pack_model.specs.sessions.Descriptor.{data_pages}
use Rattle.laws_room.specs.pack_model.specs.states.InUse.{counts}
use Rattle.laws_room.specs.pack_model.specs.states.Sentences.{IsUsed}
use Rattle.laws_room.specs.laws_contents.specs.PageLaws.{FullBefore}
use Rattle.laws_mend.specs.Parts.{Cleared, Ended, Lasting}

-- ---- pages that count
-- where each directory ends with its slots, those of a living file, up to the one that the end of its bytes is in, except of DiskDescriptor
abbrev pub CountsByItsEnd : Type 0
CountsByItsEnd = (p : Pack) (f : Fid) (n : ℕ) → Ended p → is_fid f disk_descriptor ≡ false → counts p.shape (sights p) f n ≡ (lives (sights p) f && nat_le n (suc (length (file_bytes (sights p) f) / 512)))

-- of DiskDescriptor, if it lives, those up to the last one of its format, on any pack
abbrev pub CountsByItsFormat : Type 0
CountsByItsFormat = (p : Pack) (n : ℕ) → counts p.shape (sights p) disk_descriptor n ≡ (lives (sights p) disk_descriptor && nat_le n (data_pages p.shape))

-- ---- sectors in use
-- where no page is carried twice and each label is free or in range, any sector is free or in use, or isn't good, if and only if its page
-- counts, if it has one
abbrev pub UsedByItsPage : Type 0
UsedByItsPage = (p : Pack) (at : ℕ) → Cleared p → IsUsed p.shape (sights p) at ↔ ((page : Page) → carried p at ≡ Some page → counts p.shape (sights p) page.fid page.number ≡ true)

-- ---- how far the pages of a file go
-- a directory ends with its slots if their words are all its bytes
abbrev pub DirectoryReachesItsEnd : Type 0
DirectoryReachesItsEnd = (p : Pack) (d : Fid) → 2 * all_words (slots (dir_words p d)) ≡ length (file_bytes (sights p) d) → SlotsReachEnd (file_bytes (sights p) d)

-- where each living file has its last page and each good sector is free or in use, the pages of a living file that are there are those up to
-- its last page
abbrev pub LastingFileHasItsPages : Type 0
LastingFileHasItsPages = (p : Pack) (f : Fid) (n : ℕ) → Lasting p → is_some (place (sights p) f n) ≡ (lives (sights p) f && nat_le n (suc (length (file_bytes (sights p) f) / 512)))

-- a file has fewer full pages one after another than the pack has sectors
abbrev pub FullPagesAreFew : Type 0
FullPagesAreFew = (p : Pack) (f : Fid) (k : ℕ) → FullBefore p f k → k < pages_of p.shape
