-- What a sector shows: no link, no leader word from 246 on, no byte past a count, nothing of a free sector. The addresses in directories
-- still stand in it, and the words of DiskDescriptor: they are left out further up.
-- Labels whose file, page number and count can be trusted are those of the SOSP 1979 paper; what is in range or free is this
-- project's choice.
use Rattle.std.specs.Prelude.{ℕ, zero, suc, Bool, cond, List, [], ◌∷◌, take}
use Rattle.disk_records.specs.alto_words.specs.declared.fid.Fid.{Fid}
use Rattle.disk_records.specs.declared.records.Sector.{Sector}
use Rattle.disk_records.specs.declared.shape.Shape.{Shape}
use Rattle.disk_records.specs.Labels.{Tag, tag, in_range, is_free}
use Rattle.disk_records.specs.Packs.{Pack, is_usable}
use Rattle.pack_model.specs.reading.Bytes.{bytes_of}
use Rattle.pack_model.specs.reading.Leaders.{Leader, leader_of, leader_words, is_readable}

-- Nothing at all, in sector 0 or after a wrong header; a free sector; a label that is neither free nor in range; a
-- leader page, with whether its name can be read; the counted bytes of a data page, whose number is counted from 0 here
-- (data page 1 of a file is `holds f 0 ..`).
pub data Sight : Type 0 where
  hidden : Sight
  free : Sight
  stray : Sight
  leads : Fid → Bool → Leader → Sight
  holds : Fid → ℕ → List ℕ → Sight

-- page 0 of a label is a leader; data pages are counted from 0 here, and from 1 in labels
abbrev pub page_sight : Fid → ℕ → ℕ → List ℕ → Sight
page_sight f zero bytes value = leads f (is_readable (leader_words value)) (leader_of f value)
page_sight f (suc n) bytes value = holds f n (take bytes (bytes_of value))

abbrev pub tag_sight : Tag → List ℕ → Sight
tag_sight t value = cond (in_range t) (page_sight t.fid t.page t.bytes value) (cond (is_free t) free stray)

-- what the sector at a virtual address shows
unfoldable pub sight : Shape → ℕ → Sector → Sight
sight shape at s = cond (is_usable shape at s) (tag_sight (tag s.label) s.value) hidden

-- what sectors in a row show, the first of them at this address
unfoldable pub sights_from : Shape → ℕ → List Sector → List Sight
sights_from shape at [] = []
sights_from shape at (s ∷ sectors) = sight shape at s ∷ sights_from shape (suc at) sectors

-- what each sector of a pack shows, in order of address
abbrev pub sights : Pack → List Sight
sights p = sights_from p.shape 0 p.sectors
