use Rattle.std.proofs.Common.{Some, None, ap, ◌∙◌}
use Rattle.alto_words.specs.declared.wanted.Wanted.{Wanted}
use Rattle.alto_words.proofs.Marks.{after_marked}
use Rattle.alto_words.proofs.Parsed.{wanted_is}
use Rattle.alto_words.proofs.wanted.Wanted.parse.Goals as goal
use Rattle.alto_words.proofs.wanted.Wanted.parse.Goals.{in-None, in-Some}

pub returns : goal.returns
returns c =
    elim c.match-mark_in.branch [
      | in-None w ↦ ap (λ (wanted : Wanted). Some wanted) w.result-is ∙ wanted_is c.args.text.now c.in_ok-name.name None w.in-None.ensures.none c.in_ok-name.ensures
      | in-Some w ↦
          ap (λ (wanted : Wanted). Some wanted) w.result-is
          ∙ wanted_is c.args.text.now c.in_ok-name.name _ (after_marked c.args.text.now w.in-Some.field-0 w.in-Some.ensures.some) c.in_ok-name.ensures
    ]
