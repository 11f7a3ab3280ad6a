use Rattle.std.proofs.Common.{◌≡◌, ℕ, ◌≤◌, Bool, true, not, nat_le, ◌&&◌, List, length, arith}
use Rattle.std.proofs.lemmas.Bool.Decides.{nat_tests}
use Rattle.pack_model.specs.sessions.Lines.{is_too_long, longest_line}
use Rattle.exec_words.specs.Typed.{is_typed_file, are_typed_bytes, line_words}
use Rattle.exec_words.specs.declared.line.Line.TheVariants as line
use Rattle.exec_words.proofs.typed.is_typed_patch.Goals as goal

-- where both tests before it are passed, only the length counts
by_length : (file : Bool) (bytes text : List ℕ) (n : ℕ) → true ≡ file → length bytes ≤ 2000 → n ≡ length text → nat_le n 4096 ≡ (file && are_typed_bytes 2000 bytes && not (is_too_long text))
unfolding longest_line
by_length file bytes text n is few same = grind (arith, nat_tests)

pub returns : goal.returns
returns c =
    by_length (is_typed_file c.args.file.now) c.args.bytes.now (line_words (line.Patch c.args.file.now c.args.offset c.args.bytes.now)) c.patch_length.result
    c.if-not-is_typed_file.ensures c.if-bytes-gt-MOST_BYTES.false c.patch_length.ensures
