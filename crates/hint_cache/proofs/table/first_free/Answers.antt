use Rattle.std.proofs.Common.{◌+◌, not, position, refl, sym, ◌∙◌, ap}
use Rattle.std.specs.Option.{option_map}
use Rattle.hint_cache.proofs.FreeBits.{rest_from, first_after}
use Rattle.hint_cache.proofs.table.first_free.Goals as goal

pub returns-in_err-more : goal.returns-in_err-more
returns-in_err-more c =
    let rest = c.first_in_turn.ensures ∙ ap (position not) (rest_from {bits = c.args.bits.now} {start = c.busy_ahead-passed.result} refl refl) in
    c.from_residual.ensures ∙ ap (option_map (λ i. c.busy_ahead-passed.result + i)) (sym c.in_err-more.was ∙ rest) ∙ sym (first_after c.busy_ahead-passed.result c.args.bits.now c.busy_ahead-passed.ensures.busy)

pub returns : goal.returns
returns c =
    let rest = c.first_in_turn.ensures ∙ ap (position not) (rest_from {bits = c.args.bits.now} {start = c.busy_ahead-passed.result} refl refl) in
    ap (option_map (λ i. c.busy_ahead-passed.result + i)) (sym c.in_ok-more.was ∙ rest) ∙ sym (first_after c.busy_ahead-passed.result c.args.bits.now c.busy_ahead-passed.ensures.busy)
