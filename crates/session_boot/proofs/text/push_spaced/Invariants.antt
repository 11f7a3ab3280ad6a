use Rattle.std.proofs.Common.{◌≡◌, ◌++◌, drop}
use Rattle.exec_words.specs.Texts.{spaced}
use Rattle.session_boot.proofs.text.push_spaced.Given as goal

abbrev pub invariant-loop-n : goal.invariant-loop-n
invariant-loop-n l = l.out.items ++ spaced (drop l.n-index l.numbers) ≡ l.fn.out.items ++ spaced l.numbers
