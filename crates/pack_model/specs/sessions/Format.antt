-- The pack that formatting writes, and its record writes.
-- Where a formatted pack has its pages is this project's choice.
use Rattle.std.specs.Prelude.{ℕ, zero, suc, ◌+◌, ◌-◌, ◌*◌, ◌%◌, true, false, Bool, List, [], ◌∷◌, ◌++◌, min, replicate, cond, nat_lt}
use Rattle.disk_records.specs.alto_words.specs.declared.fid.Fid.{Fid}
use Rattle.disk_records.specs.alto_words.specs.Fid.{sys_dir, disk_descriptor}
use Rattle.disk_records.specs.declared.shape.Shape.{Shape}
use Rattle.disk_records.specs.declared.records.Sector.{Sector}
use Rattle.disk_records.specs.declared.records.Event.{Event}
use Rattle.disk_records.specs.declared.records.Event.TheVariants.{Wrote}
use Rattle.disk_records.specs.Addresses.{pages_of, real_of, descriptor_length}
use Rattle.disk_records.specs.Labels.{label_of}
use Rattle.disk_records.specs.Commands.{ones}
use Rattle.disk_records.specs.Packs.{Pack}
use Rattle.pack_model.specs.reading.Namings.{sys_dir_name, descriptor_name}
use Rattle.pack_model.specs.reading.SlotWords.{entry_words, space_words}
use Rattle.pack_model.specs.operations.Step.{new_leader}
use Rattle.pack_model.specs.hints.Links.{no_link}
use Rattle.pack_model.specs.states.Sound.{mark_clean}
use Rattle.pack_model.specs.operations.PageWords.{filled, page_number, leader_label, leader_value, last_page_hints}
use Rattle.pack_model.specs.sessions.Descriptor.{data_pages, descriptor_value}

-- ---- where everything is: SysDir's leader in sector 1, its page in 2, DiskDescriptor's leader in 3, its pages from 4 on
abbrev pub sectors_used : Shape → ℕ
sectors_used shape = 4 + data_pages shape

-- how many sectors are free after formatting
abbrev pub free_after_format : Shape → ℕ
free_after_format shape = pages_of shape - sectors_used shape

-- the allocation map: sector 0 and those in use are busy
abbrev pub format_table : Shape → List Bool
format_table shape = replicate (sectors_used shape) true ++ replicate (free_after_format shape) false

-- ---- the pages
-- a label and a value
abbrev pub Written : Type 0
Written = List ℕ × List ℕ

-- a leader with the moment as its dates, and true hints of its last page
abbrev pub format_leader : Shape → Fid → List ℕ → ℕ → ℕ → ℕ → ℕ → Written
format_leader shape f name moment at number bytes =
    (leader_label shape f (suc at), leader_value (new_leader name moment) (last_page_hints (at + number) number bytes))

-- SysDir's slots: both system files, and the free words
abbrev pub format_slots : List ℕ
format_slots = entry_words sys_dir 1 sys_dir_name ++ entry_words disk_descriptor 3 descriptor_name ++ space_words 231

abbrev pub format_root : Shape → Written
format_root shape = (label_of (page_number sys_dir 1) 510 no_link (real_of shape 1), filled 256 format_slots)

-- the next link of the data page in this sector
abbrev pub format_next : Shape → ℕ → ℕ
format_next shape at = cond (nat_lt (suc at) (sectors_used shape)) (real_of shape (suc at)) no_link

-- DiskDescriptor's data page n, counted from 0
abbrev pub format_page : Shape → ℕ → Written
format_page shape n = (
  label_of (page_number disk_descriptor (suc n)) (min 512 (descriptor_length shape - 512 * n)) (format_next shape (4 + n)) (real_of shape (3 + n)),
  descriptor_value shape 2 mark_clean (format_table shape) n,
)

abbrev pub format_pages : Shape → ℕ → ℕ → List Written
format_pages shape n zero = []
format_pages shape n (suc k) = format_page shape n ∷ format_pages shape (suc n) k

-- sector 0 has zeros, and the others that aren't used have ones
abbrev pub formatted_sectors : Shape → ℕ → List Written
formatted_sectors shape moment =
    (replicate 8 0, replicate 256 0)
    ∷ format_leader shape sys_dir sys_dir_name moment 1 1 510
    ∷ format_root shape
    ∷ format_leader shape disk_descriptor descriptor_name moment 3 (data_pages shape) (descriptor_length shape % 512)
    ∷ format_pages shape 0 (data_pages shape)
    ++ replicate (free_after_format shape) (ones 8, ones 256)

-- ---- the pack: each header has the pack's number and the sector's real address
abbrev pub with_headers : Shape → ℕ → ℕ → List Written → List Sector
with_headers shape number at [] = []
with_headers shape number at (w ∷ ws) =
    record { header = number ∷ real_of shape at ∷ []; label = w.0; value = w.1 } ∷ with_headers shape number (suc at) ws

-- the pack that formatting writes, with the pack's number in each header
abbrev pub formatted : Shape → ℕ → ℕ → Pack
formatted shape number moment = record { shape = shape; sectors = with_headers shape number 0 (formatted_sectors shape moment) }

-- ---- the record writes of formatting
-- a whole sector: its header, its label and its value, as one command writes them
abbrev pub sector_writes : ℕ → Sector → List Event
sector_writes at s = Wrote at 0 s.header ∷ Wrote at 1 s.label ∷ Wrote at 2 s.value ∷ []

-- these sectors, from an address on
abbrev pub sectors_writes : ℕ → List Sector → List Event
sectors_writes at [] = []
sectors_writes at (s ∷ sectors) = sector_writes at s ++ sectors_writes (suc at) sectors

-- every sector of the pack, rising
abbrev pub format_writes : Shape → ℕ → ℕ → List Event
format_writes shape number moment = sectors_writes 0 (formatted shape number moment).sectors
