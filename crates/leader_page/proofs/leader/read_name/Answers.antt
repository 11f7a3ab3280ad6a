use Rattle.std.proofs.Common.{sym, ◌∙◌, arith, inl, inr}
use Rattle.leader_page.proofs.Reading.{reads-none, reads-stored}
use Rattle.leader_page.proofs.leader.read_name.Goals as goal

pub returns-in_err-text : goal.returns-in_err-text
returns-in_err-text c =
    let none = reads-none c.args.value.now c.words_into_bytes.new.bytes (omega arith) c.words_into_bytes.ensures.bytes in
    elim c.in_err-text.ensures.lookup.0 [
      | inl below ↦ absurd (omega (arith, below))
      | inr more ↦ c.from_residual.ensures ∙ sym (none more)
    ]

pub returns : goal.returns
returns c =
    let text = c.in_ok-text.ensures.lookup.0 in
    c.stored.ensures ∙ sym (reads-stored c.args.value.now c.words_into_bytes.new.bytes (omega arith) c.words_into_bytes.ensures.bytes c.in_ok-text.text.now text.1 text.2)
