-- How many sectors the Scavenger needs.
-- The Scavenger is that of the SOSP 1979 paper; what it needs is this project's choice.
use Rattle.std.specs.Prelude.{ℕ, zero, suc, ◌+◌, ◌/◌, cond, not, List, [], ◌∷◌}
use Rattle.std.specs.Option.{is_some}
use Rattle.std.specs.FinMap.{entries}
use Rattle.disk_records.specs.alto_words.specs.declared.fid.Fid.{Fid}
use Rattle.disk_records.specs.alto_words.specs.Fid.{is_fid, sys_dir, disk_descriptor}
use Rattle.disk_records.specs.declared.shape.Shape.{Shape}
use Rattle.pack_model.specs.reading.Sights.{Sight}
use Rattle.pack_model.specs.reading.Files.{page, lives}
use Rattle.pack_model.specs.reading.Bodies.{Body, File, found}
use Rattle.pack_model.specs.reading.Model.{root_items, descriptor_pages}
use Rattle.pack_model.specs.states.InUse.{end_of, last_page, one_if}
use Rattle.pack_model.specs.scavenger.Mended.{mended, lacking, widens}

-- 1 where no sector carries this data page, counted from 0
abbrev pub page_lacks : List Sight → Fid → ℕ → ℕ
page_lacks ss f n = one_if (not (is_some (page ss f n)))

-- of the first so many data pages those that no sector carries
abbrev pub missing : List Sight → Fid → ℕ → ℕ
missing ss f zero = 0
missing ss f (suc n) = page_lacks ss f n + missing ss f n

-- of DiskDescriptor all data pages that it lacks; of any other file its last page alone, where it lacks it
abbrev pub file_lacks : Shape → List Sight → Fid → Body → ℕ
file_lacks shape ss f body = cond (is_fid f disk_descriptor) (missing ss f (last_page shape f body)) (page_lacks ss f (end_of shape f body / 512))

abbrev pub files_lack : Shape → List Sight → List (Fid × File) → ℕ
files_lack shape ss [] = 0
files_lack shape ss (e ∷ es) = file_lacks shape ss e.0 e.1.body + files_lack shape ss es

-- SysDir's leader and first page where it doesn't live
abbrev pub root_lacks : List Sight → ℕ
root_lacks ss = cond (lives ss sys_dir) 0 2

-- all pages of DiskDescriptor where it doesn't live, also those that a sector carries
abbrev pub descriptor_lacks : Shape → List Sight → ℕ
descriptor_lacks shape ss = cond (lives ss disk_descriptor) 0 (descriptor_pages shape)

-- the pages that SysDir gets more for the entries that it lacks, as it will stand then
abbrev pub root_widens : Shape → List Sight → ℕ
root_widens shape ss = widens (root_items (mended shape ss)) (lacking (mended shape ss))

-- how many sectors a scavenge needs
unfoldable pub needed : Shape → List Sight → ℕ
needed shape ss = files_lack shape ss (entries (found ss)) + root_lacks ss + descriptor_lacks shape ss + root_widens shape ss
