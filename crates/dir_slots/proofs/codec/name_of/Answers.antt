use Rattle.std.proofs.Common.{sym, ◌∙◌}
use Rattle.std.proofs.lemmas.Bool.{cond-true, cond-false}
use Rattle.dir_slots.proofs.Names.{name_of-nil, name_of-short, name_of-parts}
use Rattle.dir_slots.proofs.codec.name_of.Goals as goal

pub returns-in_err-length : goal.returns-in_err-length
returns-in_err-length c = c.from_residual.ensures ∙ sym (name_of-nil c.args.bytes.now c.in_err-length.ensures.cases)

pub returns-in_err-text : goal.returns-in_err-text
returns-in_err-text c = c.from_residual-in_err-text.ensures ∙ sym (name_of-short c.args.bytes.now c.in_ok-length.rest.now c.in_ok-length.length.now c.in_ok-length.ensures.cases.0 c.in_err-text.ensures.cases)

pub returns-then-not-is_blank : goal.returns-then-not-is_blank
returns-then-not-is_blank c =
    let parts = name_of-parts c.args.bytes.now c.in_ok-length.rest.now c.in_ok-text.text.now c.in_ok-text.pad.now c.in_ok-length.length.now c.in_ok-length.ensures.cases.0 c.in_ok-text.ensures.cases in
    sym (parts ∙ cond-false _ _ _ (sym c.is_blank.ensures ∙ c.if-not-is_blank.true))

pub returns : goal.returns
returns c =
    let parts = name_of-parts c.args.bytes.now c.in_ok-length.rest.now c.in_ok-text.text.now c.in_ok-text.pad.now c.in_ok-length.length.now c.in_ok-length.ensures.cases.0 c.in_ok-text.ensures.cases in
    c.stored.ensures ∙ sym (parts ∙ cond-true _ _ _ (sym c.is_blank.ensures ∙ c.if-not-is_blank.false))
