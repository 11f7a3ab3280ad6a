-- Each line that can be typed is read back from its shortest text.
use Rattle.std.proofs.Common.{◌≡◌, ℕ, ◌≤◌, ◌<◌, ◌^◌, Bool, true, false, ◌&&◌, not, nat_le, List, codes, decimal, length, Some, None, refl, sym, ap, arith, lit≤}
use Rattle.std.specs.Option.{option_map}
use Rattle.std.proofs.lemmas.Bool.{and_parts, le-leb, leb-true}
use Rattle.pack_model.specs.sessions.Lines.{is_too_long, longest_line}
use Rattle.exec_words.specs.declared.line.Line.{Line}
use Rattle.exec_words.specs.declared.line.Line.TheVariants as line
use Rattle.exec_words.specs.Grammar.{line_in, word_in}
use Rattle.exec_words.specs.Typed.{line_words, is_typed, is_typed_file, is_typed_path, are_typed_bytes, is_typed_stream}
use Rattle.exec_words.specs.Laws.{IsLine}
use Rattle.exec_words.proofs.Operands.{Back, name_back, number_back, bounded_back, bytes_back, path_back, file_back}
use Rattle.exec_words.proofs.TypedLines.{one_back, two_back, three_back, pair, triple}

-- a word of 16 bits
word_back : (n : ℕ) → n < 2 ^ 16 → Back word_in n (decimal n) 10
word_back n is = bounded_back 0 65535 n (omega (arith, is)) (le-leb 0 n (omega arith)) (le-leb n 65535 (omega (arith, is)))

most_bytes : (bytes : List ℕ) → are_typed_bytes 2000 bytes ≡ true → length bytes ≤ 2000
most_bytes bytes few = leb-true (length bytes) 2000 few

not_so : (b : Bool) → not b ≡ true → b ≡ false
not_so true e = sym e
not_so false e = refl

pub typed_reads_back : (l : Line) → IsLine l → is_typed l ≡ true → line_in (line_words l) ≡ l
unfolding line_in longest_line
typed_reads_back (line.ListNames None) is typed = refl
typed_reads_back (line.ListNames (Some dir)) is typed = one_back (codes "list") (line.ListNames (Some dir)) (name_back dir typed) refl (lit≤ tt) (ap (option_map (λ d. line.ListNames (Some d))))
typed_reads_back (line.TypeOut file) is typed = one_back (codes "type") (line.TypeOut file) (file_back file is typed) refl (lit≤ tt) (ap (option_map line.TypeOut))
typed_reads_back (line.Stat file) is typed = one_back (codes "stat") (line.Stat file) (file_back file is typed) refl (lit≤ tt) (ap (option_map line.Stat))
typed_reads_back (line.Make path) is typed = one_back (codes "make") (line.Make path) (path_back path is typed) refl (lit≤ tt) (ap (option_map line.Make))
typed_reads_back (line.Append file bytes) is typed =
    let t = and_parts (is_typed_file file) (are_typed_bytes 2000 bytes) typed in
    let few = most_bytes bytes t.1 in
    two_back (codes "append") (line.Append file bytes) (file_back file is.0 t.0) (bytes_back 2000 bytes is.1 t.1) refl (omega (arith, few)) (pair line.Append)
typed_reads_back (line.Patch file offset bytes) is typed =
    let long = is_too_long (line_words (line.Patch file offset bytes)) in
    let t = and_parts (is_typed_file file && are_typed_bytes 2000 bytes) (not long) typed in
    let u = and_parts (is_typed_file file) (are_typed_bytes 2000 bytes) t.0 in
    three_back (codes "patch") (line.Patch file offset bytes) (file_back file is.0 u.0) (number_back offset is.1) (bytes_back 2000 bytes is.2 u.1) refl (not_so long t.1)
    (λ e d k. triple line.Patch e d k)
typed_reads_back (line.Cut file n) is typed = two_back (codes "cut") (line.Cut file n) (file_back file is.0 typed) (number_back n is.1) refl (lit≤ tt) (pair line.Cut)
typed_reads_back (line.Copy file path) is typed =
    let t = and_parts (is_typed_file file) (is_typed_path path) typed in
    two_back (codes "copy") (line.Copy file path) (file_back file is.0 t.0) (path_back path is.1 t.1) refl (lit≤ tt) (pair line.Copy)
typed_reads_back (line.Rename old new) is typed =
    let t = and_parts (is_typed_path old) (is_typed_path new) typed in
    two_back (codes "rename") (line.Rename old new) (path_back old is.0 t.0) (path_back new is.1 t.1) refl (lit≤ tt) (pair line.Rename)
typed_reads_back (line.Delete path) is typed = one_back (codes "delete") (line.Delete path) (path_back path is typed) refl (lit≤ tt) (ap (option_map line.Delete))
typed_reads_back (line.MakeDir name) is typed = one_back (codes "mkdir") (line.MakeDir name) (name_back name typed) refl (lit≤ tt) (ap (option_map line.MakeDir))
typed_reads_back (line.RemoveDir name) is typed = one_back (codes "rmdir") (line.RemoveDir name) (name_back name typed) refl (lit≤ tt) (ap (option_map line.RemoveDir))
typed_reads_back line.Free is typed = refl
typed_reads_back (line.SetTime moment) is typed = one_back (codes "settime") (line.SetTime moment) (number_back moment is) refl (lit≤ tt) (ap (option_map line.SetTime))
typed_reads_back (line.OpenStream file) is typed = one_back (codes "open") (line.OpenStream file) (file_back file is typed) refl (lit≤ tt) (ap (option_map line.OpenStream))
typed_reads_back (line.Get stream count) is typed =
    let t = and_parts (is_typed_stream stream && nat_le 1 count) (nat_le count 1024) typed in
    let u = and_parts (is_typed_stream stream) (nat_le 1 count) t.0 in
    two_back (codes "get") (line.Get stream count) (bounded_back 0 7 stream is.0 (le-leb 0 stream (omega arith)) u.0) (bounded_back 1 1024 count is.1 u.1 t.1) refl (lit≤ tt) (pair line.Get)
typed_reads_back (line.PutBytes stream bytes) is typed =
    let t = and_parts (is_typed_stream stream) (are_typed_bytes 2000 bytes) typed in
    let few = most_bytes bytes t.1 in
    two_back (codes "putb") (line.PutBytes stream bytes) (bounded_back 0 7 stream is.0 (le-leb 0 stream (omega arith)) t.0) (bytes_back 2000 bytes is.1 t.1) refl (omega (arith, few)) (pair line.PutBytes)
typed_reads_back (line.Seek stream to) is typed = two_back (codes "seek") (line.Seek stream to) (bounded_back 0 7 stream is.0 (le-leb 0 stream (omega arith)) typed) (number_back to is.1) refl (lit≤ tt) (pair line.Seek)
typed_reads_back (line.Close stream) is typed = one_back (codes "close") (line.Close stream) (bounded_back 0 7 stream is (le-leb 0 stream (omega arith)) typed) refl (lit≤ tt) (ap (option_map line.Close))
typed_reads_back (line.Store at word) is typed = two_back (codes "store") (line.Store at word) (word_back at is.0) (word_back word is.1) refl (lit≤ tt) (pair line.Store)
typed_reads_back (line.Fetch at) is typed = one_back (codes "fetch") (line.Fetch at) (word_back at is) refl (lit≤ tt) (ap (option_map line.Fetch))
typed_reads_back (line.Block n) is typed =
    one_back (codes "block") (line.Block n) (bounded_back 1 65535 n (omega (arith, is)) typed (le-leb n 65535 (omega (arith, is)))) refl (lit≤ tt) (ap (option_map line.Block))
typed_reads_back (line.Unblock at) is typed = one_back (codes "unblock") (line.Unblock at) (word_back at is) refl (lit≤ tt) (ap (option_map line.Unblock))
typed_reads_back (line.Junta level) is typed =
    let t = and_parts (nat_le 1 level) (nat_le level 8) typed in
    one_back (codes "junta") (line.Junta level) (bounded_back 1 8 level is t.0 t.1) refl (lit≤ tt) (ap (option_map line.Junta))
typed_reads_back line.CounterJunta is typed = refl
typed_reads_back (line.OutLoad path) is typed = one_back (codes "outload") (line.OutLoad path) (path_back path is typed) refl (lit≤ tt) (ap (option_map line.OutLoad))
typed_reads_back (line.InLoad path message) is typed =
    let t = and_parts (is_typed_path path) (are_typed_bytes 40 message) typed in
    let few = leb-true (length message) 40 t.1 in
    two_back (codes "inload") (line.InLoad path message) (path_back path is.0 t.0) (bytes_back 40 message is.1 t.1) refl (omega (arith, few)) (pair line.InLoad)
typed_reads_back line.Scavenge is typed = refl
typed_reads_back line.Quit is typed = refl
typed_reads_back line.Bad is typed = absurd cc
