use Rattle.std.proofs.Common.{◌≡◌, ℕ, List, Option, Some, IfOk, sym, subst, ◌∙◌, ap, arith}
use Rattle.std.proofs.lemmas.Bool.Decides.{nat_tests}
use Rattle.alto_words.proofs.Hex.{bytes_in_hex-empty, bytes_in_hex-dash, bytes_in_hex-pairs, pairs_odd}
use Rattle.alto_words.proofs.numbers.read_hex.Goals as goal
use Rattle.alto_words.proofs.numbers.read_hex.Goals.{then-is_empty-via-then-is_empty, then-is_empty-via-else-is_empty+then-text-ne0}

pub returns-then-eq-clause-ok : goal.returns-then-eq-clause-ok
returns-then-eq-clause-ok c =
    let dash = rw c.as_slice.ensures at c.if-eq.ensures in
    bytes_in_hex-dash c.args.text.now (sym dash) ∙ ap Some (sym c.new.ensures.items)

pub returns-then-eq-clause-refused : goal.returns-then-eq-clause-refused
returns-then-eq-clause-refused c =
    let dash = rw c.as_slice.ensures at c.if-eq.ensures in
    λ none. let e = sym (bytes_in_hex-dash c.args.text.now (sym dash)) ∙ none in cc

pub returns-then-is_empty-clause-bad : goal.returns-then-is_empty-clause-bad
returns-then-is_empty-clause-bad c =
    let other = rw c.as_slice.ensures at c.if-eq.ensures in
    let text = c.args.text.now in
    λ _. elim c.then-is_empty.branch [
      | then-is_empty-via-then-is_empty w ↦ bytes_in_hex-empty text (sym w.if-is_empty.ensures)
      | then-is_empty-via-else-is_empty+then-text-ne0 w ↦
          let odd = w.if-text-ne0.true in
          bytes_in_hex-pairs text (sym w.if-is_empty.ensures) (sym other) ∙ pairs_odd text (grind (arith, nat_tests))
    ]

pub returns-clause-ok : goal.returns-clause-ok
returns-clause-ok c =
    let other = rw c.as_slice.ensures at c.if-eq.ensures in
    subst (λ (pairs : Option (List ℕ)). IfOk c.read_pairs.result (λ bytes. pairs ≡ Some bytes.items))
    (sym (bytes_in_hex-pairs c.args.text.now (sym c.if-is_empty.ensures) (sym other))) c.read_pairs.ensures.ok

pub returns-clause-bad : goal.returns-clause-bad
returns-clause-bad c =
    let other = rw c.as_slice.ensures at c.if-eq.ensures in
    λ bad. bytes_in_hex-pairs c.args.text.now (sym c.if-is_empty.ensures) (sym other) ∙ c.read_pairs.ensures.bad bad

pub returns-clause-refused : goal.returns-clause-refused
returns-clause-refused c =
    let other = rw c.as_slice.ensures at c.if-eq.ensures in
    λ none. c.read_pairs.ensures.refused (sym (bytes_in_hex-pairs c.args.text.now (sym c.if-is_empty.ensures) (sym other)) ∙ none)
