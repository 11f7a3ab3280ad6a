-- The operations, and what each does to a model.
-- The operations, and what each does, are this project's choice.
use Rattle.std.specs.Prelude.{ℕ, ◌||◌, cond, nat_le, List, [], ◌∷◌, ◌++◌, length, take, replicate}
use Rattle.std.specs.FinMap.{insert, remove}
use Rattle.disk_records.specs.alto_words.specs.declared.fid.Fid.{Fid}
use Rattle.disk_records.specs.alto_words.specs.Fid.{is_fid, is_directory, serial_of, sys_dir}
use Rattle.disk_records.specs.alto_words.specs.Names.{is_same_name}
use Rattle.pack_model.specs.reading.Bytes.{put_at}
use Rattle.pack_model.specs.reading.Leaders.{Leader}
use Rattle.pack_model.specs.sessions.Maps.{map_values, update}
use Rattle.pack_model.specs.reading.Slots.{Item, item_words, entry_length}
use Rattle.pack_model.specs.reading.Slots.Item.{space, entry}
use Rattle.pack_model.specs.reading.Bodies.{Body, File}
use Rattle.pack_model.specs.reading.Bodies.Body.{data_of, items_of}
use Rattle.pack_model.specs.reading.Model.{Model, dir_items, root_items}
use Rattle.pack_model.specs.operations.Rooms.{items_entered, largest_run}

-- A new file; bytes put in the place of others, from an offset on; bytes appended; the first bytes kept; a leader's name; its
-- written date; a file gone; an entry gone from a directory; a file entered in a directory; a directory with a page more.
pub data Operation : Type 0 where
  make : Fid → List ℕ → ℕ → Operation
  put : Fid → ℕ → List ℕ → Operation
  grow : Fid → List ℕ → Operation
  cut : Fid → ℕ → Operation
  title : Fid → List ℕ → Operation
  stamp : Fid → ℕ → Operation
  drop_file : Fid → Operation
  leave : Fid → List ℕ → Operation
  enter : Fid → List ℕ → Fid → Operation
  widen : Fid → Operation

-- ---- one file is changed, where it is there
abbrev pub update_file : Model → Fid → (File → File) → Model
update_file m f g = record m { files = update m.files f g }

abbrev pub body_bytes : (List ℕ → List ℕ) → Body → Body
body_bytes g (data_of bytes) = data_of (g bytes)
body_bytes g (items_of is) = items_of is

-- a file with other bytes; a directory stays as it is
abbrev pub on_bytes : (List ℕ → List ℕ) → File → File
on_bytes g x = record { leader = x.leader; body = body_bytes g x.body }

-- a file with another leader
abbrev pub on_leader : (Leader → Leader) → File → File
on_leader g x = record { leader = g x.leader; body = x.body }

abbrev pub body_slots : (List Item → List Item) → Body → Body
body_slots g (data_of bytes) = data_of bytes
body_slots g (items_of is) = items_of (g is)

-- a directory with other slots; any other file stays as it is
abbrev pub on_items : (List Item → List Item) → File → File
on_items g x = record { leader = x.leader; body = body_slots g x.body }

-- ---- slots
-- the first entry with this name becomes a free slot of its length
abbrev pub items_left : List ℕ → List Item → List Item
items_left name [] = []
items_left name (space n ∷ is) = space n ∷ items_left name is
items_left name (entry f own ∷ is) = cond (is_same_name own name) (space (item_words (entry f own)) ∷ is) (entry f own ∷ items_left name is)

-- each entry of a file becomes a free slot of its length
abbrev pub item_without : Fid → Item → Item
item_without f (space n) = space n
item_without f (entry g name) = cond (is_fid g f) (space (item_words (entry g name))) (entry g name)

-- slots in which no entry of f stands any more
abbrev pub items_without : Fid → List Item → List Item
items_without f [] = []
items_without f (i ∷ is) = item_without f i ∷ items_without f is

abbrev pub body_without : Fid → Body → Body
body_without f (data_of bytes) = data_of bytes
body_without f (items_of is) = items_of (items_without f is)

-- file d without the entries of f
abbrev pub file_without : Fid → Fid → File → File
file_without f d x = record { leader = x.leader; body = body_without f x.body }

-- ---- a new file
abbrev pub new_leader : List ℕ → ℕ → Leader
new_leader name moment = record { created = moment; written = moment; read = moment; name = name; rest = replicate 220 0 }

-- a directory has one free slot of 255 words, any other file no bytes
abbrev pub new_body : Fid → Body
new_body f = cond (is_directory f) (items_of (space 255 ∷ [])) (data_of [])

-- a file just made
abbrev pub new_file : Fid → List ℕ → ℕ → File
new_file f name moment = record { leader = new_leader name moment; body = new_body f }

-- ---- the operations
abbrev pub step : Model → Operation → Model
step m (make f name moment) = record { shape = m.shape; good = m.good; last = serial_of f; files = insert m.files f (new_file f name moment) }
step m (put f offset new) = update_file m f (on_bytes (put_at offset new))
step m (grow f new) = update_file m f (on_bytes (λ bytes. bytes ++ new))
step m (cut f n) = update_file m f (on_bytes (take n))
step m (title f name) = update_file m f (on_leader (λ l. record l { name = name }))
step m (stamp f moment) = update_file m f (on_leader (λ l. record l { written = moment }))
step m (drop_file f) = record m { files = map_values (file_without f) (remove m.files f) }
step m (leave d name) = update_file m d (on_items (items_left name))
step m (enter d name f) = update_file m d (on_items (items_entered (entry f name)))
step m (widen d) = update_file m d (on_items (λ is. is ++ space 256 ∷ []))

-- ---- what a line does before it makes or renames a file, by the directories as they are when the line begins
-- the longest entry has 26 words: where SysDir has no run of so many free ones, it gets a page more
abbrev pub longest_entry : ℕ
longest_entry = 26

abbrev pub spare_widening : Model → List Operation
spare_widening m = cond (nat_le longest_entry (largest_run (root_items m))) [] (widen sys_dir ∷ [])

-- another directory that has no run for an entry of this name gets a page more
abbrev pub room_widening : Model → Fid → List ℕ → List Operation
room_widening m d name = cond (is_fid d sys_dir || nat_le (entry_length (length name)) (largest_run (dir_items m d))) [] (widen d ∷ [])
