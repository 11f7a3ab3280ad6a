-- Small cases of lines, of the ruler and what it counts, and of the record that commits.
use Rattle.std.proofs.Common.{◌≡◌, ℕ, Bool, true, false, List, [], ◌∷◌, ◌++◌, ◌+◌, Some, refl, ap, ◌∙◌}
use Rattle.std.specs.Prelude.{codes, replicate}
use Rattle.std.specs.Option.{option_map}
use Rattle.std.specs.FinMap.{find, get, from_entries, get-from_entries}
use Rattle.pack_laws.specs.alto_words.specs.declared.fid.Fid.{Fid}
use Rattle.pack_laws.specs.alto_words.specs.Fid.{fid_cmp, sys_dir, ordinary_fid}
use Rattle.pack_laws.specs.disk_records.specs.declared.records.Event.{Event}
use Rattle.pack_laws.specs.disk_records.specs.declared.records.Event.TheVariants.{Wrote, Shown}
use Rattle.pack_laws.specs.pack_model.specs.sessions.Lines.{lines, ended_lines, is_too_long, most_keys, longest_line}
use Rattle.pack_laws.specs.pack_model.specs.sessions.Turns.{Turn, acknowledged, ruler}
use Rattle.pack_laws.specs.pack_model.specs.operations.Step.{Operation}
use Rattle.pack_laws.specs.pack_model.specs.operations.Step.Operation.{make, put, grow, cut, title, stamp, drop_file, leave, enter, widen}
use Rattle.pack_laws.specs.pack_model.specs.operations.Committing.{commit_of, label_record, value_record, length_in, page_of_byte, page_of_word, entry_place, room_place, pages_for_operation, pages_for_operations, pages_added}
use Rattle.pack_laws.specs.pack_model.specs.reading.Slots.{entry_length}
use Rattle.pack_laws.specs.pack_model.specs.reading.Slots.Item.{space, entry}
use Rattle.pack_laws.specs.pack_model.specs.operations.Rooms.{find_room}
use Rattle.pack_laws.specs.pack_model.specs.reading.Bodies.{File, items_in}
use Rattle.pack_laws.specs.pack_model.specs.reading.Bodies.Body.{data_of, items_of}
use Rattle.pack_laws.specs.pack_model.specs.operations.Step.{new_leader, step, on_bytes}
use Rattle.pack_laws.specs.pack_model.specs.reading.Model.{Model}
use Rattle.pack_laws.specs.pack_model.specs.operations.Operations.{Move, weight_of}
use Rattle.pack_laws.specs.pack_model.specs.operations.Operations.Move.{quiet, commits}
use Rattle.pack_laws.proofs.Keys.{fid_total, fid_same}
use Rattle.pack_laws.proofs.Mapping.{get-update}
use Rattle.pack_vectors.proofs.Shapes.{small}
use Rattle.pack_vectors.proofs.SmallPacks.{file_3}

-- ---- lines
-- each ends with a byte 10, the last one may end with the keys; an empty line is one, and byte 13 is a byte of a line
lines_cut :
    (lines (codes "ab" ++ 10 ∷ codes "c") ≡ codes "ab" ∷ codes "c" ∷ [])
    × (lines (codes "ab" ++ 10 ∷ []) ≡ codes "ab" ∷ [])
    × (lines (10 ∷ 13 ∷ 10 ∷ []) ≡ [] ∷ (13 ∷ []) ∷ [])
    × (lines [] ≡ [])
    × (ended_lines (codes "ab" ++ 10 ∷ codes "c") ≡ codes "ab" ∷ [])
unfolding most_keys
lines_cut = (refl, refl, refl, refl, refl)

-- 4,096 bytes are a line, one more is a bad line
long_lines : (is_too_long (replicate 4096 65) ≡ false) × (is_too_long (replicate 4097 65) ≡ true)
unfolding longest_line
long_lines = (refl, refl)

-- ---- the ruler
-- two lines: one with two operations, one with one; each answered `ok`
abbrev some : Operation
some = title (ordinary_fid 3) (codes "A.")

abbrev reply : List ℕ
reply = codes "ok" ++ 10 ∷ []

abbrev turn : List Move → Bool → Turn Move
turn moves counts = record { ops = moves; text = reply; counts = counts }

abbrev two_turns : List (Turn Move)
two_turns = turn (quiet ∷ commits some ∷ quiet ∷ commits some ∷ []) true ∷ turn (commits some ∷ []) true ∷ []

-- operations count once the whole reply of their line is shown, and those of a turn that broke off never do
shown_counts :
    (acknowledged weight_of two_turns [] ≡ 0)
    × (acknowledged weight_of two_turns (codes "ok") ≡ 0)
    × (acknowledged weight_of two_turns reply ≡ 2)
    × (acknowledged weight_of two_turns (reply ++ codes "ok") ≡ 2)
    × (acknowledged weight_of two_turns (reply ++ reply) ≡ 3)
    × (acknowledged weight_of (turn (commits some ∷ []) false ∷ []) reply ≡ 0)
shown_counts = (refl, refl, refl, refl, refl, refl)

abbrev wrote : Event
wrote = Wrote 5 2 []

abbrev two_lines : List Event
two_lines = wrote ∷ wrote ∷ wrote ∷ wrote ∷ Shown 111 ∷ Shown 107 ∷ Shown 10 ∷ wrote ∷ []

-- it rises at the record writes that commit, and at no other event
rulers :
    (ruler weight_of two_turns two_lines 0 ≡ 0)
    × (ruler weight_of two_turns two_lines 1 ≡ 0)
    × (ruler weight_of two_turns two_lines 2 ≡ 1)
    × (ruler weight_of two_turns two_lines 3 ≡ 1)
    × (ruler weight_of two_turns two_lines 4 ≡ 2)
    × (ruler weight_of two_turns two_lines 7 ≡ 2)
    × (ruler weight_of two_turns two_lines 8 ≡ 3)
rulers = (refl, refl, refl, refl, refl, refl, refl)

-- ---- the record that commits, and the pages that come
abbrev some_files : List (Fid × File)
some_files =
    (sys_dir, record { leader = new_leader (codes "SysDir.") 1000; body = items_of (space 24 ∷ entry file_3 (codes "A.") ∷ space 224 ∷ entry (ordinary_fid 4) (codes "B.") ∷ space 30 ∷ []) })
    ∷ (file_3, record { leader = new_leader (codes "A.") 1000; body = data_of (replicate 600 7) })
    ∷ []

abbrev m : Model
m = record { shape = small; good = 47; last = 4; files = from_entries some_files }

-- a label of the leader, or of the page that is or becomes the last; a value of the page with the byte, of the leader
commits_files :
    (commit_of m (make (ordinary_fid 5) (codes "C.") 1000) ≡ label_record (ordinary_fid 5) 0)
    × (commit_of m (put file_3 511 (7 ∷ [])) ≡ value_record file_3 1)
    × (commit_of m (put file_3 512 (7 ∷ [])) ≡ value_record file_3 2)
    × (commit_of m (grow file_3 (7 ∷ [])) ≡ label_record file_3 2)
    × (commit_of m (cut file_3 512) ≡ label_record file_3 2)
    × (commit_of m (cut file_3 511) ≡ label_record file_3 1)
    × (commit_of m (title file_3 (codes "B.")) ≡ value_record file_3 0)
    × (commit_of m (stamp file_3 1000) ≡ value_record file_3 0)
    × (commit_of m (drop_file file_3) ≡ label_record file_3 0)
commits_files = (refl, refl, refl, ap (λ r. label_record file_3 (page_of_byte (length_in r))) (get-from_entries fid_total some_files file_3), refl, refl, refl, refl, refl)

root_is : get m.files sys_dir ≡ find fid_cmp sys_dir some_files
root_is = get-from_entries fid_total some_files sys_dir

-- a value of the directory's page with the slot's first word, and a label of its last page
commits_entries :
    (commit_of m (leave sys_dir (codes "a.")) ≡ value_record sys_dir 1)
    × (commit_of m (leave sys_dir (codes "B.")) ≡ value_record sys_dir 2)
    × (commit_of m (enter sys_dir (codes "C.") (ordinary_fid 5)) ≡ value_record sys_dir 1)
    × (commit_of m (enter sys_dir (replicate 39 46) (ordinary_fid 5)) ≡ value_record sys_dir 1)
    × (commit_of m (widen sys_dir) ≡ label_record sys_dir 2)
commits_entries = (
  ap (λ r. value_record sys_dir (page_of_word (entry_place (codes "a.") 0 (items_in r)))) root_is,
  ap (λ r. value_record sys_dir (page_of_word (entry_place (codes "B.") 0 (items_in r)))) root_is,
  ap (λ r. value_record sys_dir (page_of_word (room_place (find_room (entry_length 2) (items_in r))))) root_is,
  ap (λ r. value_record sys_dir (page_of_word (room_place (find_room (entry_length 39) (items_in r))))) root_is,
  ap (λ r. label_record sys_dir (page_of_byte (length_in r))) root_is,
)

-- two for a new file, those after the last one for appended bytes, one for a widening, none for a cut
pages_come :
    (pages_for_operation m (make (ordinary_fid 5) (codes "C.") 1000) ≡ 2)
    × (pages_for_operation m (grow file_3 (replicate 424 7)) ≡ 1)
    × (pages_for_operation m (grow file_3 (replicate 423 7)) ≡ 0)
    × (pages_for_operation m (widen sys_dir) ≡ 1)
    × (pages_for_operation m (cut file_3 0) ≡ 0)
pages_come = (
  refl,
  ap (λ r. pages_added (length_in r) 424) (get-from_entries fid_total some_files file_3),
  ap (λ r. pages_added (length_in r) 423) (get-from_entries fid_total some_files file_3),
  refl,
  refl,
)

-- of a line: a new file and its entry; a page more for SysDir before them; and each operation's by the length that the ones before
-- it leave: 600 and 424 bytes fill two pages, and 511 more stay in the third
grown : get (step m (grow file_3 (replicate 424 7))).files file_3 ≡ Some (record { leader = new_leader (codes "A.") 1000; body = data_of (replicate 600 7 ++ replicate 424 7) })
grown = get-update fid_total fid_same m.files file_3 (on_bytes (λ bytes. bytes ++ replicate 424 7)) file_3 ∙ ap (option_map (on_bytes (λ bytes. bytes ++ replicate 424 7))) (get-from_entries fid_total some_files file_3)

lines_come :
    (pages_for_operations m (make (ordinary_fid 5) (codes "C.") 1000 ∷ enter sys_dir (codes "C.") (ordinary_fid 5) ∷ []) ≡ 2)
    × (pages_for_operations m (widen sys_dir ∷ make (ordinary_fid 5) (codes "C.") 1000 ∷ enter sys_dir (codes "C.") (ordinary_fid 5) ∷ []) ≡ 3)
    × (pages_for_operations m (grow file_3 (replicate 424 7) ∷ grow file_3 (replicate 511 7) ∷ []) ≡ 1)
    × (pages_for_operations m [] ≡ 0)
lines_come = (
  refl,
  refl,
  λ i. pages_added (length_in (get-from_entries fid_total some_files file_3 i)) 424 + (pages_added (length_in (grown i)) 511 + 0),
  refl,
)
