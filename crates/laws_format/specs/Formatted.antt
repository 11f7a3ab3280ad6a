-- The pack that formatting writes, of any shape: in what state it is, what it is read as, and which of its sectors are free.
use Rattle.std.specs.FinMap.{from_entries}
use Rattle.std.specs.List.{range_with_len}
use Rattle.std.specs.Prelude.{◌≡◌, ℕ, ◌&&◌, nat_le, nat_lt, List, [], length}
use Rattle.laws_hint.specs.alto_words.specs.declared.fid.Fid.{Fid}
use Rattle.laws_hint.specs.disk_records.specs.declared.shape.Shape.{Shape}
use Rattle.laws_hint.specs.disk_records.specs.Addresses.{pages_of}
use Rattle.laws_hint.specs.disk_records.specs.Packs.{Pack, is_free_at}
use Rattle.laws_hint.specs.page_alloc.specs.Free.{IsTrueTable, free_addresses}
use Rattle.laws_hint.specs.pack_model.specs.hints.Handy.{CachedAt, Handy, HandyCache}
use Rattle.laws_hint.specs.pack_model.specs.hints.Tables.{HintsTrue, TableTrue, described_table}
use Rattle.laws_hint.specs.pack_model.specs.reading.Model.{read_as, room}
use Rattle.laws_hint.specs.pack_model.specs.reading.Sights.{sights}
use Rattle.laws_hint.specs.pack_model.specs.sessions.Descriptor.{DescriptorFits, data_pages}
use Rattle.laws_hint.specs.pack_model.specs.sessions.Format.{format_table, formatted, free_after_format, sectors_used}
use Rattle.laws_hint.specs.pack_model.specs.showing.Settling.{show}
use Rattle.laws_hint.specs.pack_model.specs.showing.View.{View}
use Rattle.laws_hint.specs.pack_model.specs.states.InUse.{available, free_sector_count}
use Rattle.laws_hint.specs.pack_model.specs.states.Sound.{Clean, Sound, mark_clean}
use Rattle.laws_hint.specs.laws_operation.specs.OnceLaws.{CarriedOnce}
use Rattle.laws_format.specs.Empty.{empty_model}

-- A pack where a session may begin: it is sound and clean, all its hints are true, and no page is carried twice.
pub record SessionBegins (p : Pack) : Type 0 where
  pub sound : Sound p
  pub clean : Clean p
  pub hints : HintsTrue p
  pub once : CarriedOnce p

-- such is the pack that formatting writes, of any shape, under any pack number and at any moment
abbrev pub FormattedPackBeginsASession : Type 0
FormattedPackBeginsASession = (shape : Shape) (number moment : ℕ) → SessionBegins (formatted shape number moment)

-- it is read as the model without files
abbrev pub FormattedPackIsEmpty : Type 0
FormattedPackIsEmpty = (shape : Shape) (number moment : ℕ) → read_as (formatted shape number moment) ≡ empty_model shape moment

-- nothing is shown of it
abbrev pub nothing_shown : View
nothing_shown = record { files = from_entries []; names = from_entries [] }

abbrev pub FormattedPackShowsNothing : Type 0
FormattedPackShowsNothing = (shape : Shape) (number moment : ℕ) → show (formatted shape number moment) ≡ nothing_shown

-- ---- free sectors
-- Free are the sectors after those in use: each of them and no other, by its label and in both meanings of a true map; there are as
-- many of them as formatting answers, and this is the room of the model.
pub record FreeAfterUsed (p : Pack) : Type 0 where
  pub each_sector : length p.sectors ≡ pages_of p.shape
  pub which : (at : ℕ) → is_free_at p at ≡ (nat_le (sectors_used p.shape) at && nat_lt at (pages_of p.shape))
  pub addresses : free_addresses p ≡ range_with_len (sectors_used p.shape) (free_after_format p.shape)
  pub shown : free_sector_count (sights p) ≡ free_after_format p.shape
  pub available_are : available p.shape (sights p) ≡ free_after_format p.shape
  pub room_is : room (read_as p) ≡ free_after_format p.shape
  pub table : TableTrue p (format_table p.shape)
  pub by_labels : IsTrueTable p (format_table p.shape)

abbrev pub FormattedPackHasFreeSectors : Type 0
FormattedPackHasFreeSectors = (shape : Shape) (number moment : ℕ) → FreeAfterUsed (formatted shape number moment)

-- ---- DiskDescriptor
-- the sectors of its data pages, in order
abbrev pub descriptor_sectors : Shape → List ℕ
descriptor_sectors shape = range_with_len 4 (data_pages shape)

-- It fits the pack, with the last serial 2 and the clean mark, and says the map of its free sectors.
pub record DescribesIt (p : Pack) : Type 0 where
  pub fits : DescriptorFits p p.shape 2 mark_clean (descriptor_sectors p.shape)
  pub says : described_table p ≡ format_table p.shape

abbrev pub FormattedDescriptorFits : Type 0
FormattedDescriptorFits = (shape : Shape) (number moment : ℕ) → DescribesIt (formatted shape number moment)

-- ---- hints that may be passed over
-- those of its leader pages are handy, beside a cache that is
abbrev pub FormattedLeadersAreHandy : Type 0
FormattedLeadersAreHandy = (shape : Shape) (number moment : ℕ) (f : Fid) (cache : List CachedAt) → HandyCache (sights (formatted shape number moment)) f cache → Handy (formatted shape number moment) f cache
