-- Rows of names: new ones, those that are taken, and the files that lines name.
use Rattle.std.proofs.Common.{◌≡◌, [], ◌∷◌, Some, refl}
use Rattle.std.specs.Prelude.{codes}
use Rattle.std.specs.Fmt.{digits}
use Rattle.laws_format.specs.alto_words.specs.Fid.{sys_dir, directory_fid}
use Rattle.laws_format.specs.alto_words.specs.Names.{is_stored_name}
use Rattle.laws_format.specs.pack_model.specs.operations.Step.Operation.{make, grow, title, stamp, drop_file, leave, enter}
use Rattle.laws_format.specs.pack_model.specs.reading.Files.{first}
use Rattle.laws_format.specs.pack_model.specs.sessions.Lines.{longest_line}
use Rattle.session_model.specs.exec_words.specs.declared.line.Target.TheVariants.{ByPath}
use Rattle.session_model.specs.exec_words.specs.declared.line.Line.TheVariants as line
use Rattle.session_model.specs.Effects.{effect}
use Rattle.session_model.specs.Refusals.{most_serials}
use Rattle.session_model.specs.Replies.{reply_to, ops}
use Rattle.session_model.specs.Touched.{touched}
use Rattle.session_model.specs.Worlds.{failed_world}
use Rattle.session_vectors.proofs.Models.{f3, f4, ma, root_is, a_is, all_is, d3, md, root_d, d_is, all_d, w, of_base, of_exact, in_dir, a_path, a_file, five, abc, two_bytes}

-- ---- a name in another case is the next version of the same base
make_again : reply_to (line.Make (of_base (codes "a."))) (ma two_bytes) w ≡ codes "made #4\n"
unfolding is_stored_name first digits most_serials longest_line
make_again = rw (root_is two_bytes, all_is two_bytes) refl

make_again_does : ops (line.Make (of_base (codes "a."))) (ma two_bytes) w ≡ make f4 (codes "a!2.") 1000 ∷ enter sys_dir (codes "a!2.") f4 ∷ []
unfolding is_stored_name first digits most_serials longest_line
make_again_does = rw (root_is two_bytes, all_is two_bytes) refl

-- a stated version is taken where it is there, and else it is given
make_exact : reply_to (line.Make (of_exact (codes "A."))) (ma two_bytes) w ≡ codes "name taken\n"
unfolding is_stored_name first digits most_serials longest_line
make_exact = rw (root_is two_bytes) refl

make_version : ops (line.Make (of_exact (codes "A!7."))) (ma two_bytes) w ≡ make f4 (codes "A!7.") 1000 ∷ enter sys_dir (codes "A!7.") f4 ∷ []
unfolding is_stored_name first digits most_serials longest_line
make_version = rw (root_is two_bytes, all_is two_bytes) refl

-- the bases of system files and of directories are held, with any version
make_system : reply_to (line.Make (of_base (codes "SysDir."))) (ma two_bytes) w ≡ codes "name taken\n"
unfolding is_stored_name first digits most_serials longest_line
make_system = rw (root_is two_bytes) refl

make_directory_name : reply_to (line.Make (of_base (codes "D."))) md w ≡ codes "name taken\n"
unfolding is_stored_name first digits most_serials longest_line
make_directory_name = rw (root_d) refl

make_directory_version : reply_to (line.Make (of_exact (codes "D!2."))) md w ≡ codes "name taken\n"
unfolding is_stored_name first digits most_serials longest_line
make_directory_version = rw (root_d) refl

-- ---- directories that aren't there, or aren't any
make_nowhere : reply_to (line.Make (in_dir (codes "Z.") (codes "Q."))) (ma two_bytes) w ≡ codes "no such name\n"
unfolding is_stored_name first digits most_serials longest_line
make_nowhere = rw (root_is two_bytes) refl

make_in_file : reply_to (line.Make (in_dir (codes "A.") (codes "Q."))) (ma two_bytes) w ≡ codes "not a directory\n"
unfolding is_stored_name first digits most_serials longest_line
make_in_file = rw (root_is two_bytes) refl

-- the name that isn't there is told before the directory that is none
type_in_file : reply_to (line.TypeOut (ByPath (in_dir (codes "A.") (codes "Q.")))) (ma two_bytes) w ≡ codes "no such name\n"
unfolding is_stored_name first digits most_serials longest_line
type_in_file = rw (root_is two_bytes, a_is two_bytes) refl

list_file : reply_to (line.ListNames (Some (codes "A."))) (ma two_bytes) w ≡ codes "not a directory\n"
unfolding is_stored_name first digits most_serials longest_line
list_file = rw (root_is two_bytes) refl

-- ---- directories and system files, where another file is wanted
type_directory : reply_to (line.TypeOut (ByPath (of_base (codes "SysDir.")))) (ma two_bytes) w ≡ codes "is a directory\n"
unfolding is_stored_name first digits most_serials longest_line
type_directory = rw (root_is two_bytes) refl

type_system : reply_to (line.TypeOut (ByPath (of_base (codes "DiskDescriptor.")))) (ma two_bytes) w ≡ codes "system file\n"
unfolding is_stored_name first digits most_serials longest_line
type_system = rw (root_is two_bytes) refl

remove_root : reply_to (line.RemoveDir (codes "SysDir.")) (ma two_bytes) w ≡ codes "system file\n"
unfolding is_stored_name first digits most_serials longest_line
remove_root = rw (root_is two_bytes) refl

remove_file : reply_to (line.RemoveDir (codes "A.")) (ma two_bytes) w ≡ codes "not a directory\n"
unfolding is_stored_name first digits most_serials longest_line
remove_file = rw (root_is two_bytes) refl

remove_full : reply_to (line.RemoveDir (codes "D.")) md w ≡ codes "not empty\n"
unfolding is_stored_name first digits most_serials longest_line
remove_full = rw (root_d, d_is) refl

-- ---- a file goes
delete_exact : reply_to (line.Delete (of_exact (codes "A."))) (ma two_bytes) w ≡ codes "done\n"
unfolding is_stored_name first digits most_serials longest_line
delete_exact = rw (root_is two_bytes, all_is two_bytes) refl

delete_does : ops (line.Delete (of_exact (codes "A."))) (ma two_bytes) w ≡ drop_file f3 ∷ []
unfolding is_stored_name first digits most_serials longest_line
delete_does = rw (root_is two_bytes, all_is two_bytes) refl

-- ---- new directories: their name is no base of an entry
made_directory : reply_to (line.MakeDir (codes "D.")) (ma two_bytes) w ≡ codes "made #4\n"
unfolding is_stored_name first digits most_serials longest_line
made_directory = rw (root_is two_bytes, all_is two_bytes) refl

made_directory_does : ops (line.MakeDir (codes "D.")) (ma two_bytes) w ≡ make (directory_fid 4) (codes "D.") 1000 ∷ enter sys_dir (codes "D.") (directory_fid 4) ∷ []
unfolding is_stored_name first digits most_serials longest_line
made_directory_does = rw (root_is two_bytes, all_is two_bytes) refl

directory_taken : reply_to (line.MakeDir (codes "a.")) (ma two_bytes) w ≡ codes "name taken\n"
unfolding is_stored_name first digits most_serials longest_line
directory_taken = rw (root_is two_bytes) refl

-- ---- copies, also under the own name
copied : (effect (line.Copy a_file (of_base (codes "C."))) (ma five) w).ops ≡ make f4 (codes "C.") 1000 ∷ enter sys_dir (codes "C.") f4 ∷ grow f4 five ∷ stamp f4 1000 ∷ []
unfolding is_stored_name first digits most_serials longest_line
copied = rw (root_is five, a_is five) refl

copied_nothing : (effect (line.Copy a_file a_path) (ma []) w).ops ≡ make f4 (codes "A!2.") 1000 ∷ enter sys_dir (codes "A!2.") f4 ∷ []
unfolding is_stored_name first digits most_serials longest_line
copied_nothing = rw (root_is [], a_is []) refl

-- ---- a renamed file has its new name in its leader, leaves its old entry and then gets its new one
renamed : reply_to (line.Rename (in_dir (codes "D.") (codes "A.")) (in_dir (codes "D.") (codes "B."))) md w ≡ codes "done\n"
unfolding is_stored_name first digits most_serials longest_line
renamed = rw (root_d, d_is, all_d) refl

renamed_does : ops (line.Rename (in_dir (codes "D.") (codes "A.")) (in_dir (codes "D.") (codes "B."))) md w ≡ title f4 (codes "B.") ∷ leave d3 (codes "A.") ∷ enter d3 (codes "B.") f4 ∷ []
unfolding is_stored_name first digits most_serials longest_line
renamed_does = rw (root_d, d_is, all_d) refl

-- to its own name: the next version
renamed_to_itself : ops (line.Rename a_path a_path) (ma five) w ≡ title f3 (codes "A!2.") ∷ leave sys_dir (codes "A.") ∷ enter sys_dir (codes "A!2.") f3 ∷ []
unfolding is_stored_name first digits most_serials longest_line
renamed_to_itself = rw (root_is five, all_is five) refl

-- ---- the files that a line touches
touched_type : touched (line.TypeOut a_file) (ma abc) w ≡ sys_dir ∷ sys_dir ∷ f3 ∷ []
unfolding is_stored_name first digits most_serials longest_line
touched_type = rw (root_is abc) refl

touched_free : touched line.Free (ma abc) w ≡ []
unfolding is_stored_name first digits most_serials longest_line
touched_free = refl

-- both names of a rename: their directories, and the file that is there
touched_rename : touched (line.Rename (in_dir (codes "D.") (codes "A.")) (of_base (codes "B."))) md w ≡ sys_dir ∷ d3 ∷ f4 ∷ sys_dir ∷ []
unfolding is_stored_name first digits most_serials longest_line
touched_rename = rw (root_d, d_is) refl

touched_in_need : touched (line.TypeOut a_file) (ma abc) (failed_world w) ≡ []
unfolding is_stored_name first digits most_serials longest_line
touched_in_need = refl
