-- Rows of lines on files: their bytes, lengths, dates and pages.
use Rattle.std.proofs.Common.{◌≡◌, ℕ, List, [], ◌∷◌, refl}
use Rattle.std.specs.Prelude.{codes, replicate, length}
use Rattle.std.specs.Fmt.{digits}
use Rattle.laws_format.specs.alto_words.specs.Fid.{sys_dir}
use Rattle.laws_format.specs.alto_words.specs.Names.{is_stored_name}
use Rattle.laws_format.specs.alto_words.specs.Numbers.{number_in, bytes_in_hex}
use Rattle.laws_format.specs.pack_model.specs.operations.Step.Operation.{make, put, grow, cut, stamp, enter}
use Rattle.laws_format.specs.pack_model.specs.reading.Files.{first}
use Rattle.laws_format.specs.pack_model.specs.sessions.Lines.{longest_line}
use Rattle.session_model.specs.exec_words.specs.declared.line.Target.TheVariants.{BySerial}
use Rattle.session_model.specs.exec_words.specs.declared.line.Line.TheVariants as line
use Rattle.session_model.specs.exec_words.specs.Grammar.{line_in}
use Rattle.session_model.specs.Effects.{stat_of, names_in}
use Rattle.session_model.specs.Refusals.{most_serials}
use Rattle.session_model.specs.Replies.{reply_to, ops, next}
use Rattle.session_model.specs.Streams.{puts}
use Rattle.session_vectors.proofs.Models.{model_of, m0, root_0, all_0, list_0, f3, ma, root_is, a_is, all_is, w, of_base, a_path, a_file, five, abc, two_bytes}

-- ---- a new file, from the text that is typed
made : reply_to (line_in (codes "make A")) m0 w ≡ codes "made #3\n"
unfolding line_in longest_line is_stored_name number_in bytes_in_hex first digits most_serials
made = rw (root_0, all_0) refl

made_does : ops (line_in (codes "make A")) m0 w ≡ make f3 (codes "A.") 1000 ∷ enter sys_dir (codes "A.") f3 ∷ []
unfolding line_in longest_line is_stored_name number_in bytes_in_hex first digits most_serials
made_does = rw (root_0, all_0) refl

appended : reply_to (line_in (codes "append A 4142")) (ma []) w ≡ codes "length 2\n"
unfolding line_in longest_line is_stored_name number_in bytes_in_hex first digits most_serials
appended = rw (root_is [], a_is [], all_is []) refl

appended_does : ops (line.Append a_file abc) (ma []) w ≡ grow f3 abc ∷ stamp f3 1000 ∷ []
unfolding is_stored_name first digits most_serials longest_line
appended_does = rw (root_is [], a_is [], all_is []) refl

-- no bytes: a date, and no growth
append_nothing : reply_to (line.Append a_file []) (ma []) w ≡ codes "length 0\n"
unfolding is_stored_name first digits most_serials longest_line
append_nothing = rw (root_is [], a_is [], all_is []) refl

append_nothing_does : ops (line.Append a_file []) (ma []) w ≡ stamp f3 1000 ∷ []
unfolding is_stored_name first digits most_serials longest_line
append_nothing_does = rw (root_is [], all_is []) refl

type_nothing : reply_to (line.TypeOut a_file) (ma []) w ≡ codes "0 bytes\n"
unfolding is_stored_name first digits most_serials longest_line
type_nothing = rw (root_is [], a_is [], all_is []) refl

type_five : reply_to (line.TypeOut a_file) (ma five) w ≡ codes "4142434445\n5 bytes\n"
unfolding is_stored_name first digits most_serials longest_line
type_five = rw (root_is five, a_is five, all_is five) refl

-- ---- free pages: a full page forces an empty last one
free_0 : reply_to line.Free m0 w ≡ codes "43 pages free\n"
unfolding is_stored_name first digits most_serials longest_line
free_0 = rw (all_0) refl

free_41 : reply_to line.Free (ma []) w ≡ codes "41 pages free\n"
unfolding is_stored_name first digits most_serials longest_line
free_41 = rw (all_is []) refl

free_512 : reply_to line.Free (ma (replicate 512 65)) w ≡ codes "40 pages free\n"
unfolding is_stored_name first digits most_serials longest_line
free_512 = rw (all_is (replicate 512 65)) refl

-- one page is left, and a new file takes two
one_free : (bytes : List ℕ) → length bytes ≡ 20480 → reply_to line.Free (ma bytes) w ≡ codes "1 pages free\n"
unfolding is_stored_name first digits most_serials longest_line
one_free bytes is = rw (all_is bytes, is) refl

full_pack : (bytes : List ℕ) → length bytes ≡ 20480 → reply_to (line.Make (of_base (codes "C."))) (ma bytes) w ≡ codes "full: needed 2 free 1\n"
unfolding is_stored_name first digits most_serials longest_line
full_pack bytes is = rw (root_is bytes, all_is bytes, is) refl

-- the last serial but one is given out, and the last one is not passed
spent : reply_to (line.Make a_path) (model_of 2147483646 list_0) w ≡ codes "serials spent: last 2147483646\n"
unfolding is_stored_name first digits most_serials longest_line
spent = rw (root_0) refl

-- ---- bytes in the place of others: by serial and by name, and over a page end
patch_serial : reply_to (line.Patch (BySerial 3) 1 (66 ∷ 66 ∷ [])) (ma five) w ≡ codes "done\n"
unfolding is_stored_name first digits most_serials longest_line
patch_serial = rw (all_is five, a_is five) refl

patch_serial_does : ops (line.Patch (BySerial 3) 1 (66 ∷ 66 ∷ [])) (ma five) w ≡ put f3 1 (66 ∷ 66 ∷ []) ∷ []
unfolding is_stored_name first digits most_serials longest_line
patch_serial_does = rw (all_is five, a_is five) refl

patch_beyond : reply_to (line.Patch a_file 4 (66 ∷ 66 ∷ [])) (ma five) w ≡ codes "beyond length 5\n"
unfolding is_stored_name first digits most_serials longest_line
patch_beyond = rw (root_is five, a_is five) refl

patch_to_the_end : reply_to (line.Patch a_file 3 (66 ∷ 66 ∷ [])) (ma five) w ≡ codes "done\n"
unfolding is_stored_name first digits most_serials longest_line
patch_to_the_end = rw (root_is five, a_is five, all_is five) refl

patch_no_serial : reply_to (line.Patch (BySerial 9) 0 []) (ma five) w ≡ codes "no such name\n"
unfolding is_stored_name first digits most_serials longest_line
patch_no_serial = rw (all_is five) refl

patch_descriptor : reply_to (line.Patch (BySerial 2) 0 []) (ma five) w ≡ codes "system file\n"
unfolding is_stored_name first digits most_serials longest_line
patch_descriptor = refl

two_pages : puts f3 510 (1 ∷ 2 ∷ 3 ∷ 4 ∷ []) ≡ put f3 510 (1 ∷ 2 ∷ []) ∷ put f3 512 (3 ∷ 4 ∷ []) ∷ []
two_pages = refl

-- ---- a cut: at the own length a date alone
cut_beyond : reply_to (line_in (codes "cut A 1000")) (ma (replicate 512 65)) w ≡ codes "beyond length 512\n"
unfolding line_in longest_line is_stored_name number_in bytes_in_hex first digits most_serials
cut_beyond = rw (root_is (replicate 512 65), a_is (replicate 512 65)) refl

cut_to_2 : ops (line.Cut a_file 2) (ma five) w ≡ cut f3 2 ∷ stamp f3 1000 ∷ []
unfolding is_stored_name first digits most_serials longest_line
cut_to_2 = rw (root_is five, a_is five, all_is five) refl

cut_to_all : ops (line.Cut a_file 5) (ma five) w ≡ stamp f3 1000 ∷ []
unfolding is_stored_name first digits most_serials longest_line
cut_to_all = rw (root_is five, a_is five, all_is five) refl

-- ---- later dates are those of a moment that was set
moment_set : next (line.SetTime 2000) m0 w ≡ record w { moment = 2000 }
unfolding is_stored_name first digits most_serials longest_line
moment_set = rw (all_0) refl

-- ---- what is told of a file
told : stat_of (ma two_bytes) f3 ≡ record { fid = f3; length = 2; created = 1000; written = 1000; read = 1000; name = codes "A." }
told = rw (a_is two_bytes) refl

names : names_in (ma two_bytes) sys_dir ≡ codes "SysDir." ∷ codes "DiskDescriptor." ∷ codes "A." ∷ []
names = rw (root_is two_bytes) refl
