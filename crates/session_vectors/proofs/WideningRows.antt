-- Rows of directories without room for an entry: a page more for SysDir, for another directory, or for both, before the line's own
-- operations.
use Rattle.std.proofs.Common.{◌≡◌, ℕ, List, [], ◌∷◌, Some, refl}
use Rattle.std.specs.Prelude.{codes}
use Rattle.std.specs.FinMap.{get, entries, from_entries, get-from_entries}
use Rattle.std.specs.Fmt.{digits}
use Rattle.laws_format.specs.alto_words.specs.declared.fid.Fid.{Fid}
use Rattle.laws_format.specs.alto_words.specs.Fid.{fid_cmp, sys_dir, ordinary_fid}
use Rattle.laws_format.specs.alto_words.specs.Names.{is_stored_name}
use Rattle.laws_format.specs.pack_model.specs.operations.Step.{new_leader}
use Rattle.laws_format.specs.pack_model.specs.operations.Step.Operation.{widen, make, title, leave, enter}
use Rattle.laws_format.specs.pack_model.specs.reading.Bodies.{File}
use Rattle.laws_format.specs.pack_model.specs.reading.Bodies.Body.{items_of}
use Rattle.laws_format.specs.pack_model.specs.reading.Files.{first}
use Rattle.laws_format.specs.pack_model.specs.reading.Model.{Model}
use Rattle.laws_format.specs.pack_model.specs.reading.Slots.Item.{space, entry}
use Rattle.laws_format.specs.pack_model.specs.sessions.Lines.{longest_line}
use Rattle.laws_format.specs.pack_laws.proofs.Keys.{fid_total, fid_same}
use Rattle.laws_format.specs.pack_laws.proofs.Mapping.{entries-from_entries}
use Rattle.session_model.specs.exec_words.specs.declared.line.Line.TheVariants as line
use Rattle.session_model.specs.Refusals.{most_serials}
use Rattle.session_model.specs.Replies.{reply_to, ops}
use Rattle.session_vectors.proofs.Models.{model_of, root_with, file_with, f4, d3, w, of_base, in_dir}

-- ---- SysDir with D alone and so many free words, and D with A alone and so many
abbrev f5 : Fid
f5 = ordinary_fid 5

abbrev root_r : ℕ → File
root_r free = root_with (entry d3 (codes "D.") ∷ space free ∷ [])

abbrev dir_r : ℕ → File
dir_r free = record { leader = new_leader (codes "D.") 1000; body = items_of (entry f4 (codes "A.") ∷ space free ∷ []) }

abbrev list_r : ℕ → ℕ → List (Fid × File)
list_r root dir = (f4, file_with (codes "A.") []) ∷ (sys_dir, root_r root) ∷ (d3, dir_r dir) ∷ []

abbrev mr : ℕ → ℕ → Model
mr root dir = model_of 4 (list_r root dir)

root_is : (root dir : ℕ) → get (from_entries {R = fid_cmp} (list_r root dir)) sys_dir ≡ Some (root_r root)
root_is root dir = get-from_entries fid_total (list_r root dir) sys_dir

dir_is : (root dir : ℕ) → get (from_entries {R = fid_cmp} (list_r root dir)) d3 ≡ Some (dir_r dir)
dir_is root dir = get-from_entries fid_total (list_r root dir) d3

all_is : (root dir : ℕ) → entries (from_entries {R = fid_cmp} (list_r root dir)) ≡ list_r root dir
all_is root dir = entries-from_entries fid_total fid_same (list_r root dir) tt

-- ---- SysDir always keeps 26 words in a row: the longest entry's
enough : ops (line.Make (of_base (codes "B."))) (mr 26 247) w ≡ make f5 (codes "B.") 1000 ∷ enter sys_dir (codes "B.") f5 ∷ []
unfolding is_stored_name first digits most_serials longest_line
enough = rw (root_is 26 247, all_is 26 247) refl

root_widened : ops (line.Make (of_base (codes "B."))) (mr 25 247) w ≡ widen sys_dir ∷ make f5 (codes "B.") 1000 ∷ enter sys_dir (codes "B.") f5 ∷ []
unfolding is_stored_name first digits most_serials longest_line
root_widened = rw (root_is 25 247, all_is 25 247) refl

-- ---- another directory has room for the entry that comes, of 8 words
dir_enough : ops (line.Make (in_dir (codes "D.") (codes "B."))) (mr 26 8) w ≡ make f5 (codes "B.") 1000 ∷ enter d3 (codes "B.") f5 ∷ []
unfolding is_stored_name first digits most_serials longest_line
dir_enough = rw (root_is 26 8, dir_is 26 8, all_is 26 8) refl

dir_widened : ops (line.Make (in_dir (codes "D.") (codes "B."))) (mr 26 7) w ≡ widen d3 ∷ make f5 (codes "B.") 1000 ∷ enter d3 (codes "B.") f5 ∷ []
unfolding is_stored_name first digits most_serials longest_line
dir_widened = rw (root_is 26 7, dir_is 26 7, all_is 26 7) refl

both_widened : ops (line.Make (in_dir (codes "D.") (codes "B."))) (mr 25 7) w ≡ widen sys_dir ∷ widen d3 ∷ make f5 (codes "B.") 1000 ∷ enter d3 (codes "B.") f5 ∷ []
unfolding is_stored_name first digits most_serials longest_line
both_widened = rw (root_is 25 7, dir_is 25 7, all_is 25 7) refl

-- a renamed file needs room where it comes, and SysDir its words
renamed_within : ops (line.Rename (in_dir (codes "D.") (codes "A.")) (in_dir (codes "D.") (codes "B."))) (mr 25 7) w
    ≡ widen sys_dir ∷ widen d3 ∷ title f4 (codes "B.") ∷ leave d3 (codes "A.") ∷ enter d3 (codes "B.") f4 ∷ []
unfolding is_stored_name first digits most_serials longest_line
renamed_within = rw (root_is 25 7, dir_is 25 7, all_is 25 7) refl

renamed_into_root : ops (line.Rename (in_dir (codes "D.") (codes "A.")) (of_base (codes "B."))) (mr 26 7) w ≡ title f4 (codes "B.") ∷ leave d3 (codes "A.") ∷ enter sys_dir (codes "B.") f4 ∷ []
unfolding is_stored_name first digits most_serials longest_line
renamed_into_root = rw (root_is 26 7, dir_is 26 7, all_is 26 7) refl

-- ---- Full counts the pages of the widenings with those of the file: 47 sectors, of which 40 are taken
abbrev full_of : ℕ → Model
full_of good = record (mr 25 7) { good = good }

full_line : reply_to (line.Make (in_dir (codes "D.") (codes "B."))) (full_of 11) w ≡ codes "full: needed 4 free 3\n"
unfolding is_stored_name first digits most_serials longest_line
full_line = rw (root_is 25 7, dir_is 25 7, all_is 25 7) refl

not_full : reply_to (line.Make (in_dir (codes "D.") (codes "B."))) (full_of 12) w ≡ codes "made #5\n"
unfolding is_stored_name first digits most_serials longest_line
not_full = rw (root_is 25 7, dir_is 25 7, all_is 25 7) refl
