-- The files as the Scavenger will find them when it enters names, and what it has to enter.
-- The Scavenger is that of the SOSP 1979 paper; what it enters, and its room, are this project's choice.
use Rattle.std.specs.Prelude.{ℕ, suc, ◌+◌, ◌≤◌, Bool, true, cond, List, [], ◌∷◌, ◌++◌, Option, Some, None}
use Rattle.std.specs.FinMap.{entries, get, insert}
use Rattle.disk_records.specs.alto_words.specs.declared.fid.Fid.{Fid}
use Rattle.disk_records.specs.alto_words.specs.Fid.{is_system, sys_dir, disk_descriptor}
use Rattle.disk_records.specs.declared.shape.Shape.{Shape}
use Rattle.pack_model.specs.reading.Sights.{Sight}
use Rattle.pack_model.specs.reading.Files.{lives}
use Rattle.pack_model.specs.reading.Slots.{Item}
use Rattle.pack_model.specs.reading.Slots.Item.{space, entry}
use Rattle.pack_model.specs.reading.Bodies.{Body, File, Files, described}
use Rattle.pack_model.specs.reading.Bodies.Body.{items_of}
use Rattle.pack_model.specs.reading.Namings.{tidied, sys_dir_name, descriptor_name}
use Rattle.pack_model.specs.reading.Model.{Model, good_sectors, descriptor_words, last_serial, root_items, is_named, files_pages, descriptor_pages}
use Rattle.pack_model.specs.showing.View.{view}
use Rattle.pack_model.specs.showing.Settling.{unless, given_names}
use Rattle.pack_model.specs.operations.Rooms.{placed}

-- ---- the mended model: both system files live, and so an entry of theirs that stands is kept
abbrev pub with_system : (Fid → Bool) → Fid → Bool
with_system lives f = cond (is_system f) true (lives f)

-- SysDir with these slots; its leader counts nowhere here, and so a fixed one stands for it
abbrev pub root_file : Body → File
root_file body = record { leader = record { created = 0; written = 0; read = 0; name = sys_dir_name; rest = [] }; body = body }

-- the slots of SysDir; one that doesn't live is made with one free slot of 255 words
abbrev pub root_body : Option File → Body
root_body None = items_of (space 255 ∷ [])
root_body (Some x) = x.body

-- SysDir is among the files, with its slots, or with one free slot if it was missing
abbrev pub rooted : Files → Files
rooted files = insert files sys_dir (root_file (root_body (get files sys_dir)))

-- the model that a scavenge leaves
unfoldable pub mended : Shape → List Sight → Model
mended shape ss = record {
  shape = shape;
  good = good_sectors ss;
  last = last_serial (descriptor_words ss);
  files = tidied (with_system (lives ss)) (rooted (described ss));
}

-- ---- the entries that are lacking, in the order in which they are entered in SysDir: those of the system files, and then each
-- nameless file under the name that settling gives it
unfoldable pub lacking : Model → List (Fid × List ℕ)
lacking m =
    unless (is_named m sys_dir) (sys_dir, sys_dir_name)
    (unless (is_named m disk_descriptor) (disk_descriptor, descriptor_name)
    (given_names (view m).names (entries (view m).files)))

-- ---- how often SysDir gets a page more, so that each of them has room in its turn
abbrev pub with_page : List Item → List Item
with_page is = is ++ space 256 ∷ []

abbrev pub on_room : Option (List Item) → (List Item → ℕ) → ℕ → ℕ
on_room None go other = other
on_room (Some js) go other = go js

unfoldable pub widens : List Item → List (Fid × List ℕ) → ℕ
widens is [] = 0
widens is (e ∷ es) =
    on_room (placed (entry e.0 e.1) is) (λ js. widens js es)
    (suc (on_room (placed (entry e.0 e.1) (with_page is)) (λ js. widens js es) 0))

-- ---- all pages that the mended files have at the end, those of DiskDescriptor aside
unfoldable pub needs : Model → ℕ
needs m = files_pages (entries m.files) + widens (root_items m) (lacking m)

-- and there are good sectors for these and for DiskDescriptor
abbrev pub HasRoom : Model → Type 0
HasRoom m = needs m + descriptor_pages m.shape ≤ m.good
