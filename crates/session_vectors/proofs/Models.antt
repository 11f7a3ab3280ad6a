-- Models that the rows are about, what their maps have, and the operands that lines name.
use Rattle.std.proofs.Common.{◌≡◌, ℕ, true, List, [], ◌∷◌, Some, None}
use Rattle.std.specs.Prelude.{codes}
use Rattle.std.specs.FinMap.{get, entries, from_entries, get-from_entries}
use Rattle.laws_format.specs.alto_words.specs.declared.fid.Fid.{Fid}
use Rattle.laws_format.specs.alto_words.specs.Fid.{fid_cmp, sys_dir, disk_descriptor, ordinary_fid, directory_fid}
use Rattle.laws_format.specs.alto_words.specs.declared.wanted.Wanted.TheVariants.{Exact, Newest}
use Rattle.laws_format.specs.pack_model.specs.operations.Step.{new_leader}
use Rattle.laws_format.specs.pack_model.specs.reading.Bodies.{File}
use Rattle.laws_format.specs.pack_model.specs.reading.Bodies.Body.{data_of, items_of}
use Rattle.laws_format.specs.pack_model.specs.reading.Model.{Model}
use Rattle.laws_format.specs.pack_model.specs.reading.Namings.{sys_dir_name, descriptor_name}
use Rattle.laws_format.specs.pack_model.specs.reading.Slots.{Item}
use Rattle.laws_format.specs.pack_model.specs.reading.Slots.Item.{space, entry}
use Rattle.laws_format.specs.pack_laws.proofs.Keys.{fid_total, fid_same}
use Rattle.laws_format.specs.pack_laws.proofs.Mapping.{entries-from_entries}
use Rattle.pack_vectors.proofs.Shapes.{small}
use Rattle.session_model.specs.exec_words.specs.declared.line.Path.{Path}
use Rattle.session_model.specs.exec_words.specs.declared.line.Target.{Target}
use Rattle.session_model.specs.exec_words.specs.declared.line.Target.TheVariants.{ByPath}
use Rattle.session_model.specs.Streams.{Stream}
use Rattle.session_model.specs.Worlds.{World, fresh_world}

-- ---- models of the small shape
abbrev pub model_of : ℕ → List (Fid × File) → Model
model_of last es = record { shape = small; good = 47; last = last; files = from_entries es }

abbrev pub root_with : List Item → File
root_with is = record { leader = new_leader sys_dir_name 1000; body = items_of (entry sys_dir sys_dir_name ∷ entry disk_descriptor descriptor_name ∷ is) }

abbrev pub file_with : List ℕ → List ℕ → File
file_with name bytes = record { leader = new_leader name 1000; body = data_of bytes }

-- ---- a formatted pack
abbrev pub list_0 : List (Fid × File)
list_0 = (sys_dir, root_with (space 231 ∷ [])) ∷ []

abbrev pub m0 : Model
m0 = model_of 2 list_0

pub root_0 : get (from_entries {R = fid_cmp} list_0) sys_dir ≡ Some (root_with (space 231 ∷ []))
root_0 = get-from_entries fid_total list_0 sys_dir

pub all_0 : entries (from_entries {R = fid_cmp} list_0) ≡ list_0
all_0 = entries-from_entries fid_total fid_same list_0 tt

-- ---- one with a file A of these bytes
abbrev pub f3 : Fid
f3 = ordinary_fid 3

abbrev pub f4 : Fid
f4 = ordinary_fid 4

abbrev pub root_a : File
root_a = root_with (entry f3 (codes "A.") ∷ space 223 ∷ [])

abbrev pub list_a : List ℕ → List (Fid × File)
list_a bytes = (f3, file_with (codes "A.") bytes) ∷ (sys_dir, root_a) ∷ []

abbrev pub ma : List ℕ → Model
ma bytes = model_of 3 (list_a bytes)

pub root_is : (bytes : List ℕ) → get (from_entries {R = fid_cmp} (list_a bytes)) sys_dir ≡ Some root_a
root_is bytes = get-from_entries fid_total (list_a bytes) sys_dir

pub a_is : (bytes : List ℕ) → get (from_entries {R = fid_cmp} (list_a bytes)) f3 ≡ Some (file_with (codes "A.") bytes)
a_is bytes = get-from_entries fid_total (list_a bytes) f3

pub all_is : (bytes : List ℕ) → entries (from_entries {R = fid_cmp} (list_a bytes)) ≡ list_a bytes
all_is bytes = entries-from_entries fid_total fid_same (list_a bytes) tt

-- ---- one with a directory D, and in it a file A without a byte
abbrev pub d3 : Fid
d3 = directory_fid 3

abbrev pub root_items_d : File
root_items_d = root_with (entry d3 (codes "D.") ∷ space 223 ∷ [])

abbrev pub dir_d : File
dir_d = record { leader = new_leader (codes "D.") 1000; body = items_of (entry f4 (codes "A.") ∷ space 247 ∷ []) }

abbrev pub list_d : List (Fid × File)
list_d = (f4, file_with (codes "A.") []) ∷ (sys_dir, root_items_d) ∷ (d3, dir_d) ∷ []

abbrev pub md : Model
md = model_of 4 list_d

pub root_d : get (from_entries {R = fid_cmp} list_d) sys_dir ≡ Some root_items_d
root_d = get-from_entries fid_total list_d sys_dir

pub d_is : get (from_entries {R = fid_cmp} list_d) d3 ≡ Some dir_d
d_is = get-from_entries fid_total list_d d3

pub a_in_d : get (from_entries {R = fid_cmp} list_d) f4 ≡ Some (file_with (codes "A.") [])
a_in_d = get-from_entries fid_total list_d f4

pub all_d : entries (from_entries {R = fid_cmp} list_d) ≡ list_d
all_d = entries-from_entries fid_total fid_same list_d tt

-- ---- worlds, and open streams of A
abbrev pub w : World
w = fresh_world 1000

abbrev pub w_with : List Stream → World
w_with ss = record w { streams = ss }

abbrev pub stream : ℕ → ℕ → List ℕ → Stream
stream position base pending = record { number = 0; fid = f3; position = position; base = base; pending = pending; put = true }

-- ---- operands
abbrev pub of_base : List ℕ → Path
of_base name = record { dir = None; wanted = Newest name }

abbrev pub of_exact : List ℕ → Path
of_exact name = record { dir = None; wanted = Exact name }

abbrev pub in_dir : List ℕ → List ℕ → Path
in_dir dir name = record { dir = Some dir; wanted = Newest name }

abbrev pub a_path : Path
a_path = of_base (codes "A.")

abbrev pub a_file : Target
a_file = ByPath a_path

-- ---- bytes
abbrev pub five : List ℕ
five = codes "ABCDE"

abbrev pub abc : List ℕ
abc = codes "ABC"

abbrev pub two_bytes : List ℕ
two_bytes = 1 ∷ 2 ∷ []
