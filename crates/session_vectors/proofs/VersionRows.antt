-- Rows of names with versions: the entry that a line means, and the name that a new file gets.
use Rattle.std.proofs.Common.{◌≡◌, ℕ, List, [], ◌∷◌, ◌++◌, Some, refl}
use Rattle.std.specs.Prelude.{codes, replicate}
use Rattle.std.specs.FinMap.{get, entries, from_entries, get-from_entries}
use Rattle.std.specs.Fmt.{digits}
use Rattle.laws_format.specs.alto_words.specs.declared.fid.Fid.{Fid}
use Rattle.laws_format.specs.alto_words.specs.Fid.{fid_cmp, sys_dir, ordinary_fid}
use Rattle.laws_format.specs.alto_words.specs.Names.{is_stored_name}
use Rattle.laws_format.specs.pack_model.specs.operations.Step.Operation.{make, grow, title, stamp, drop_file, leave, enter}
use Rattle.laws_format.specs.pack_model.specs.reading.Bodies.{File}
use Rattle.laws_format.specs.pack_model.specs.reading.Files.{first}
use Rattle.laws_format.specs.pack_model.specs.reading.Model.{Model}
use Rattle.laws_format.specs.pack_model.specs.reading.Slots.Item.{space, entry}
use Rattle.laws_format.specs.pack_model.specs.sessions.Lines.{longest_line}
use Rattle.laws_format.specs.pack_laws.proofs.Keys.{fid_total, fid_same}
use Rattle.laws_format.specs.pack_laws.proofs.Mapping.{entries-from_entries}
use Rattle.session_model.specs.exec_words.specs.declared.line.Line.TheVariants as line
use Rattle.session_model.specs.exec_words.specs.declared.line.Target.TheVariants.{ByPath}
use Rattle.session_model.specs.Effects.{effect}
use Rattle.session_model.specs.Refusals.{most_serials}
use Rattle.session_model.specs.Replies.{reply_to, ops}
use Rattle.session_vectors.proofs.Models.{model_of, root_with, file_with, f3, f4, w, of_base, of_exact, a_path, a_file}

-- ---- a pack with the files A. and A!2., of one byte and of two
abbrev f5 : Fid
f5 = ordinary_fid 5

abbrev root_v : File
root_v = root_with (entry f3 (codes "A.") ∷ entry f4 (codes "A!2.") ∷ space 214 ∷ [])

abbrev newest_file : File
newest_file = file_with (codes "A!2.") (66 ∷ 66 ∷ [])

abbrev list_v : List (Fid × File)
list_v = (f3, file_with (codes "A.") (65 ∷ [])) ∷ (f4, newest_file) ∷ (sys_dir, root_v) ∷ []

abbrev mv : Model
mv = model_of 4 list_v

root_is : get (from_entries {R = fid_cmp} list_v) sys_dir ≡ Some root_v
root_is = get-from_entries fid_total list_v sys_dir

oldest_is : get (from_entries {R = fid_cmp} list_v) f3 ≡ Some (file_with (codes "A.") (65 ∷ []))
oldest_is = get-from_entries fid_total list_v f3

newest_is : get (from_entries {R = fid_cmp} list_v) f4 ≡ Some newest_file
newest_is = get-from_entries fid_total list_v f4

all_is : entries (from_entries {R = fid_cmp} list_v) ≡ list_v
all_is = entries-from_entries fid_total fid_same list_v tt

-- ---- a bare name means the greatest version, a stated one itself
type_newest : reply_to (line.TypeOut a_file) mv w ≡ codes "4242\n2 bytes\n"
unfolding is_stored_name first digits most_serials longest_line
type_newest = rw (root_is, newest_is, all_is) refl

type_first : reply_to (line.TypeOut (ByPath (of_exact (codes "A.")))) mv w ≡ codes "41\n1 bytes\n"
unfolding is_stored_name first digits most_serials longest_line
type_first = rw (root_is, oldest_is, all_is) refl

delete_newest : ops (line.Delete a_path) mv w ≡ drop_file f4 ∷ []
unfolding is_stored_name first digits most_serials longest_line
delete_newest = rw (root_is, all_is) refl

delete_first : ops (line.Delete (of_exact (codes "a."))) mv w ≡ drop_file f3 ∷ []
unfolding is_stored_name first digits most_serials longest_line
delete_first = rw (root_is, all_is) refl

-- ---- a new file has the version after the greatest, also where a copy or another name is wanted
make_third : ops (line.Make a_path) mv w ≡ make f5 (codes "A!3.") 1000 ∷ enter sys_dir (codes "A!3.") f5 ∷ []
unfolding is_stored_name first digits most_serials longest_line
make_third = rw (root_is, all_is) refl

copy_first : (effect (line.Copy (ByPath (of_exact (codes "A."))) a_path) mv w).ops ≡ make f5 (codes "A!3.") 1000 ∷ enter sys_dir (codes "A!3.") f5 ∷ grow f5 (65 ∷ []) ∷ stamp f5 1000 ∷ []
unfolding is_stored_name first digits most_serials longest_line
copy_first = rw (root_is, oldest_is) refl

rename_newest : ops (line.Rename a_path a_path) mv w ≡ title f4 (codes "A!3.") ∷ leave sys_dir (codes "A!2.") ∷ enter sys_dir (codes "A!3.") f4 ∷ []
unfolding is_stored_name first digits most_serials longest_line
rename_newest = rw (root_is, all_is) refl

-- a stated version that is there is taken, and one that isn't is given, whatever the greatest is
make_second : reply_to (line.Make (of_exact (codes "a!2."))) mv w ≡ codes "name taken\n"
unfolding is_stored_name first digits most_serials longest_line
make_second = rw (root_is) refl

make_ninth : ops (line.Make (of_exact (codes "A!9."))) mv w ≡ make f5 (codes "A!9.") 1000 ∷ enter sys_dir (codes "A!9.") f5 ∷ []
unfolding is_stored_name first digits most_serials longest_line
make_ninth = rw (root_is, all_is) refl

-- ---- one file alone, of this name
abbrev root_of : List ℕ → ℕ → File
root_of name words = root_with (entry f3 name ∷ space words ∷ [])

abbrev list_of : List ℕ → ℕ → List (Fid × File)
list_of name words = (f3, file_with name []) ∷ (sys_dir, root_of name words) ∷ []

abbrev named : List ℕ → ℕ → Model
named name words = model_of 3 (list_of name words)

named_root : (name : List ℕ) (words : ℕ) → get (from_entries {R = fid_cmp} (list_of name words)) sys_dir ≡ Some (root_of name words)
named_root name words = get-from_entries fid_total (list_of name words) sys_dir

named_all : (name : List ℕ) (words : ℕ) → entries (from_entries {R = fid_cmp} (list_of name words)) ≡ list_of name words
named_all name words = entries-from_entries fid_total fid_same (list_of name words) tt

-- 65,534 is the greatest version
after_the_last : reply_to (line.Make a_path) (named (codes "A!65534.") 220) w ≡ codes "name taken\n"
unfolding is_stored_name first digits most_serials longest_line
after_the_last = rw (named_root (codes "A!65534.") 220) refl

the_last : ops (line.Make a_path) (named (codes "A!65533.") 220) w ≡ make f4 (codes "A!65534.") 1000 ∷ enter sys_dir (codes "A!65534.") f4 ∷ []
unfolding is_stored_name first digits most_serials longest_line
the_last = rw (named_root (codes "A!65533.") 220, named_all (codes "A!65533.") 220) refl

-- a stated version is free beside it
beside_the_last : ops (line.Make (of_exact (codes "A!7."))) (named (codes "A!65534.") 220) w ≡ make f4 (codes "A!7.") 1000 ∷ enter sys_dir (codes "A!7.") f4 ∷ []
unfolding is_stored_name first digits most_serials longest_line
beside_the_last = rw (named_root (codes "A!65534.") 220, named_all (codes "A!65534.") 220) refl

-- ---- names of 39 characters: the next version of one of 38 or 39 would be longer, that of one of 37 isn't
abbrev letters : ℕ → List ℕ
letters n = replicate n 97

longest_again : reply_to (line.Make (of_base (letters 38 ++ codes "."))) (named (letters 38 ++ codes ".") 205) w ≡ codes "name taken\n"
unfolding is_stored_name first digits most_serials longest_line
longest_again = rw (named_root (letters 38 ++ codes ".") 205) refl

of_38_again : reply_to (line.Make (of_base (letters 37 ++ codes "."))) (named (letters 37 ++ codes ".") 205) w ≡ codes "name taken\n"
unfolding is_stored_name first digits most_serials longest_line
of_38_again = rw (named_root (letters 37 ++ codes ".") 205) refl

of_37_again : ops (line.Make (of_base (letters 36 ++ codes "."))) (named (letters 36 ++ codes ".") 206) w ≡ make f4 (letters 36 ++ codes "!2.") 1000 ∷ enter sys_dir (letters 36 ++ codes "!2.") f4 ∷ []
unfolding is_stored_name first digits most_serials longest_line
of_37_again = rw (named_root (letters 36 ++ codes ".") 206, named_all (letters 36 ++ codes ".") 206) refl
