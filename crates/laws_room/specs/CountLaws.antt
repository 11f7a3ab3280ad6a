-- What is available and what is needed, in numbers.
use Rattle.std.specs.FinMap.{entries}
use Rattle.std.specs.Option.{is_some}
use Rattle.std.specs.Prelude.{◌+◌, ◌↔◌, ◌∷◌, ◌≡◌, ◌≤◌, List, [], suc, zero, ℕ}
use Rattle.laws_operation.specs.alto_words.specs.declared.fid.Fid.{Fid}
use Rattle.laws_operation.specs.disk_records.specs.Packs.{Pack}
use Rattle.laws_operation.specs.disk_records.specs.declared.shape.Shape.{Shape}
use Rattle.laws_operation.specs.pack_model.specs.reading.Bodies.{File, found}
use Rattle.laws_operation.specs.pack_model.specs.reading.Files.{numbered, place}
use Rattle.laws_operation.specs.pack_model.specs.states.InUse.{available, how_many, in_use, last_page, one_if}
use Rattle.laws_operation.specs.pack_model.specs.scavenger.Mended.{HasRoom, mended, needs}
use Rattle.laws_operation.specs.pack_model.specs.reading.Model.{descriptor_pages, good_sectors}
use Rattle.laws_operation.specs.pack_model.specs.scavenger.Needed.{needed}
use Rattle.laws_operation.specs.pack_model.specs.reading.Sights.{Sight, sights}

-- ---- pages that are carried
-- of a file's leader and its first n data pages, how many some sector carries
abbrev pub placed_pages : List Sight → Fid → ℕ → ℕ
placed_pages ss f zero = one_if (is_some (place ss f 0))
placed_pages ss f (suc n) = one_if (is_some (place ss f (suc n))) + placed_pages ss f n

-- of these files, up to the end of each
abbrev pub count_placed : Shape → List Sight → List (Fid × File) → ℕ
count_placed shape ss [] = 0
count_placed shape ss (e ∷ es) = placed_pages ss e.0 (last_page shape e.0 e.1.body) + count_placed shape ss es

-- The sectors in use are these pages; they and the available ones are the good sectors. What is available, and what the mended files
-- need, make up what is needed and the good sectors. So needed is at most the available if and only if the mended files have room.
pub record Counts (shape : Shape) (ss : List Sight) : Type 0 where
  pub in_use : how_many (in_use shape ss) (numbered 0 ss) ≡ count_placed shape ss (entries (found ss))
  pub available_is : available shape ss + count_placed shape ss (entries (found ss)) ≡ good_sectors ss
  pub needed_is : available shape ss + (needs (mended shape ss) + descriptor_pages shape) ≡ needed shape ss + good_sectors ss
  pub room : HasRoom (mended shape ss) ↔ (needed shape ss ≤ available shape ss)

abbrev pub CountingTheorem : Type 0
CountingTheorem = (p : Pack) → Counts p.shape (sights p)
