-- Models that a pack can be read as at the crash points of a line, and be scavenged: the files have room, and so have the names that lack.
use Rattle.std.specs.FinMap.{contains_key, entries, get}
use Rattle.std.specs.Prelude.{◌+◌, ◌≡◌, ◌⊎◌, ◌≤◌, All, List, Some, [], ◌∷◌, false, length, true}
use Rattle.laws_room.specs.alto_words.specs.Fid.{disk_descriptor, is_fid, sys_dir}
use Rattle.laws_room.specs.alto_words.specs.declared.fid.Fid.{Fid}
use Rattle.pack_model.specs.reading.Bodies.{File}
use Rattle.pack_model.specs.reading.Bodies.Body.{items_of}
use Rattle.pack_model.specs.reading.Leaders.{Leader}
use Rattle.pack_model.specs.reading.Model.{IsNamed, Model, descriptor_pages, files_pages, root_items}
use Rattle.pack_model.specs.operations.Rooms.{largest_run, most_free}
use Rattle.pack_model.specs.reading.Slots.{Item, item_words}
use Rattle.pack_model.specs.operations.Step.{Operation, longest_entry, step}

-- ---- names
-- Each file but this one has a name, and so has each system file.
pub record NamedBut (m : Model) (f : Fid) : Type 0 where
  pub main : IsNamed m sys_dir
  pub descriptor : IsNamed m disk_descriptor
  pub others : (g : Fid) → contains_key m.files g ≡ true → is_fid g f ≡ false → IsNamed m g

-- The files and DiskDescriptor have their pages, and no leader's name has more than 39 characters; SysDir's slots are slots.
pub record Fitting (m : Model) : Type 0 where
  pub pages : files_pages (entries m.files) + descriptor_pages m.shape ≤ m.good
  pub names : (g : Fid) (x : File) → get m.files g ≡ Some x → length x.leader.name ≤ 39
  pub slots : All (λ i. item_words i ≤ most_free) (root_items m)

-- And at most one file has no name; where one has none, SysDir has as many free words in a row as the longest entry takes.
pub record Ready (m : Model) : Type 0 where
  pub fitting : Fitting m
  pub nameless : Fid
  pub named : NamedBut m nameless
  pub room : IsNamed m nameless ⊎ (longest_entry ≤ largest_run (root_items m))

-- ---- a line
-- the model after these operations
abbrev pub steps_of : Model → List Operation → Model
steps_of m [] = m
steps_of m (o ∷ ops) = steps_of (step m o) ops

-- the model is ready, and so it is after each of these operations
abbrev pub ReadyThroughout : Model → List Operation → Type 0
ReadyThroughout m [] = Ready m
ReadyThroughout m (o ∷ ops) = Ready m × ReadyThroughout (step m o) ops

-- Before a line: SysDir is there with its slots, and every file has a name.
pub record Settled (m : Model) : Type 0 where
  pub fitting : Fitting m
  pub root : (l : Leader) × (is : List Item) × (get m.files sys_dir ≡ Some (record { leader = l; body = items_of is }))
  pub main : IsNamed m sys_dir
  pub descriptor : IsNamed m disk_descriptor
  pub all : (g : Fid) → contains_key m.files g ≡ true → IsNamed m g
