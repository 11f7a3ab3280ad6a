use Rattle.std.proofs.Common.{sym, ◌∙◌, arith}
use Rattle.std.proofs.lemmas.Result.{on_ok_weaker}
use Rattle.pack_reading.proofs.Measuring.{directory_keeps, ordinary_keeps}
use Rattle.pack_reading.proofs.lengths.Measuring.keep_page.Goals as goal

pub returns-in_ok-bytes : goal.returns-in_ok-bytes
returns-in_ok-bytes c =
    let some = c.requires.number in
    on_ok_weaker c.keep.result
    (directory_keeps c.args.self.now c.keep.new.self c.args.page.fid c.args.page.number c.args.bytes c.args.value.now c.in_ok-bytes.bytes (sym c.is_directory.ensures ∙ c.if-is_directory.true) (λ none. absurd (omega (arith, none, some))) c.in_ok-bytes.ensures)
    c.keep.ensures

pub returns-else-is_directory : goal.returns-else-is_directory
returns-else-is_directory c =
    let some = c.requires.number in
    on_ok_weaker c.keep-else-is_directory.result
    (ordinary_keeps c.args.self.now c.keep-else-is_directory.new.self c.args.page.fid c.args.page.number c.args.bytes c.args.value.now (sym c.is_directory.ensures ∙ c.if-is_directory.false) (λ none. absurd (omega (arith, none, some))) c.requires.bytes c.requires.whole)
    c.keep-else-is_directory.ensures
