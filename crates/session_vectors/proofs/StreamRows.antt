-- Rows of streams: what they read, and what they write when.
use Rattle.std.proofs.Common.{◌≡◌, ℕ, List, [], ◌∷◌, refl}
use Rattle.std.specs.Prelude.{codes, replicate}
use Rattle.std.specs.Fmt.{digits}
use Rattle.laws_format.specs.alto_words.specs.Names.{is_stored_name}
use Rattle.laws_format.specs.pack_model.specs.operations.Step.Operation.{put, grow, stamp}
use Rattle.laws_format.specs.pack_model.specs.reading.Files.{first}
use Rattle.laws_format.specs.pack_model.specs.sessions.Lines.{longest_line}
use Rattle.session_model.specs.exec_words.specs.declared.line.Line.TheVariants as line
use Rattle.session_model.specs.Effects.{ending_ops}
use Rattle.session_model.specs.Refusals.{most_serials}
use Rattle.session_model.specs.Replies.{reply_to, ops, next}
use Rattle.session_model.specs.Streams.{Stream, new_stream, flush_ops, put_ops, put_stream, stream_length, free_number}
use Rattle.session_model.specs.Touched.{touched}
use Rattle.session_vectors.proofs.Models.{f3, ma, root_is, a_is, all_is, w, w_with, stream, a_path, a_file, abc}

-- ---- a stream of A, its bytes pending until it is closed
abbrev opened : Stream
opened = new_stream 0 f3

open_a : reply_to (line.OpenStream a_file) (ma []) w ≡ codes "stream 0\n"
unfolding is_stored_name first digits most_serials longest_line
open_a = rw (root_is [], all_is []) refl

open_leaves : next (line.OpenStream a_file) (ma []) w ≡ w_with (opened ∷ [])
unfolding is_stored_name first digits most_serials longest_line
open_leaves = rw (root_is [], all_is []) refl

open_again : reply_to (line.OpenStream a_file) (ma []) (w_with (opened ∷ [])) ≡ codes "streams open\n"
unfolding is_stored_name first digits most_serials longest_line
open_again = rw (root_is []) refl

putb_abc : reply_to (line.PutBytes 0 abc) (ma []) (w_with (opened ∷ [])) ≡ codes "at 3\n"
unfolding is_stored_name first digits most_serials longest_line
putb_abc = rw (a_is [], all_is []) refl

putb_leaves : next (line.PutBytes 0 abc) (ma []) (w_with (opened ∷ [])) ≡ w_with (stream 3 0 abc ∷ [])
unfolding is_stored_name first digits most_serials longest_line
putb_leaves = rw (a_is [], all_is []) refl

putb_does : ops (line.PutBytes 0 abc) (ma []) (w_with (opened ∷ [])) ≡ []
unfolding is_stored_name first digits most_serials longest_line
putb_does = rw (a_is [], all_is []) refl

putb_nothing : next (line.PutBytes 0 []) (ma []) (w_with (opened ∷ [])) ≡ w_with (opened ∷ [])
unfolding is_stored_name first digits most_serials longest_line
putb_nothing = rw (a_is [], all_is []) refl

type_beside : reply_to (line.TypeOut a_file) (ma []) (w_with (stream 3 0 abc ∷ [])) ≡ codes "0 bytes\n"
unfolding is_stored_name first digits most_serials longest_line
type_beside = rw (root_is [], a_is [], all_is []) refl

delete_open : reply_to (line.Delete a_path) (ma []) (w_with (stream 3 0 abc ∷ [])) ≡ codes "streams open\n"
unfolding is_stored_name first digits most_serials longest_line
delete_open = rw (root_is []) refl

seek_writes : flush_ops (ma []) (stream 3 0 abc) ≡ grow f3 abc ∷ []
seek_writes = rw (a_is []) refl

ends : ending_ops (ma []) (w_with (stream 3 0 abc ∷ [])) ≡ grow f3 abc ∷ stamp f3 1000 ∷ []
ends = rw (a_is []) refl

-- ---- the next bytes, as many as are left
get_10 : reply_to (line.Get 0 10) (ma abc) (w_with (stream 0 0 [] ∷ [])) ≡ codes "414243\n"
unfolding is_stored_name first digits most_serials longest_line
get_10 = rw (a_is abc, all_is abc) refl

get_leaves : next (line.Get 0 10) (ma abc) (w_with (stream 0 0 [] ∷ [])) ≡ w_with (stream 3 3 [] ∷ [])
unfolding is_stored_name first digits most_serials longest_line
get_leaves = rw (a_is abc, all_is abc) refl

get_none : reply_to (line.Get 0 1) (ma abc) (w_with (stream 3 3 [] ∷ [])) ≡ codes "-\n"
unfolding is_stored_name first digits most_serials longest_line
get_none = rw (a_is abc, all_is abc) refl

seek_beyond : reply_to (line.Seek 0 4) (ma abc) (w_with (stream 3 3 [] ∷ [])) ≡ codes "beyond length 3\n"
unfolding is_stored_name first digits most_serials longest_line
seek_beyond = rw (a_is abc) refl

-- ---- closed: a date where bytes were put
close_0 : reply_to (line.Close 0) (ma abc) (w_with (stream 3 3 [] ∷ [])) ≡ codes "length 3\n"
unfolding is_stored_name first digits most_serials longest_line
close_0 = rw (a_is abc, all_is abc) refl

close_does : ops (line.Close 0) (ma abc) (w_with (stream 3 3 [] ∷ [])) ≡ stamp f3 1000 ∷ []
unfolding is_stored_name first digits most_serials longest_line
close_does = rw (a_is abc, all_is abc) refl

close_unput : ops (line.Close 0) (ma abc) (w_with (opened ∷ [])) ≡ []
unfolding is_stored_name first digits most_serials longest_line
close_unput = rw (a_is abc, all_is abc) refl

close_leaves : next (line.Close 0) (ma abc) (w_with (stream 3 3 [] ∷ [])) ≡ w
unfolding is_stored_name first digits most_serials longest_line
close_leaves = rw (a_is abc, all_is abc) refl

get_closed : reply_to (line.Get 0 1) (ma abc) w ≡ codes "no stream\n"
unfolding is_stored_name first digits most_serials longest_line
get_closed = refl

-- a stream that isn't open is told before a length that is passed
seek_closed : reply_to (line.Seek 1 4) (ma abc) (w_with (stream 3 3 [] ∷ [])) ≡ codes "no stream\n"
unfolding is_stored_name first digits most_serials longest_line
seek_closed = refl

-- ---- over a page end: the bytes up to it are written, those below the length by a put, the rest by a growth
abbrev ten : List ℕ
ten = codes "0123456789"

page_end : put_ops (ma (replicate 505 0)) (stream 510 500 ten) (codes "abcd") ≡ put f3 500 (codes "01234") ∷ grow f3 (codes "56789ab") ∷ []
page_end = rw (a_is (replicate 505 0)) refl

after_page_end : put_stream (stream 510 500 ten) (codes "abcd") ≡ stream 514 512 (codes "cd")
after_page_end = refl

-- up to the page end, and not past it: the last page end at or below the position counts
at_page_end : put_stream (stream 510 500 ten) (codes "ab") ≡ stream 512 512 []
at_page_end = refl

before_page_end : put_stream (stream 510 500 ten) (codes "a") ≡ stream 511 500 (codes "0123456789a")
before_page_end = refl

-- where nothing is pending, bytes begin at the position, whatever base is kept
any_base : put_stream (stream 5 0 []) (codes "X") ≡ stream 6 5 (codes "X")
any_base = refl

any_base_does : flush_ops (ma (replicate 600 0)) (put_stream (stream 5 1000 []) (codes "X")) ≡ put f3 5 (codes "X") ∷ []
any_base_does = rw (a_is (replicate 600 0)) refl

any_base_length : stream_length (ma (replicate 600 0)) (stream 5 1000 []) ≡ 600
any_base_length = rw (a_is (replicate 600 0)) refl

-- ---- eight streams at most; a ninth is refused before its file is found to have one
abbrev of_number : ℕ → Stream
of_number n = new_stream n f3

abbrev seven : List Stream
seven = of_number 0 ∷ of_number 1 ∷ of_number 2 ∷ of_number 4 ∷ of_number 5 ∷ of_number 6 ∷ of_number 7 ∷ []

ninth : reply_to (line.OpenStream a_file) (ma []) (w_with (of_number 3 ∷ seven)) ≡ codes "too many streams\n"
unfolding is_stored_name first digits most_serials longest_line
ninth = rw (root_is []) refl

eighth : reply_to (line.OpenStream a_file) (ma []) (w_with seven) ≡ codes "streams open\n"
unfolding is_stored_name first digits most_serials longest_line
eighth = rw (root_is []) refl

-- the lowest number that no stream has
free_number_3 : free_number 0 seven ≡ 3
free_number_3 = refl

-- ---- the files that lines on streams touch
touched_get : touched (line.Get 0 1) (ma abc) (w_with (opened ∷ [])) ≡ f3 ∷ []
unfolding is_stored_name first digits most_serials longest_line
touched_get = refl

touched_close : touched (line.Close 1) (ma abc) (w_with (opened ∷ [])) ≡ []
unfolding is_stored_name first digits most_serials longest_line
touched_close = refl

touched_quit : touched line.Quit (ma abc) (w_with (of_number 0 ∷ of_number 1 ∷ [])) ≡ f3 ∷ f3 ∷ []
unfolding is_stored_name first digits most_serials longest_line
touched_quit = refl
