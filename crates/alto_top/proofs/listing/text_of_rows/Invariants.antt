use Rattle.std.proofs.Common.{◌≡◌, ◌++◌}
use Rattle.std.specs.List.{flat_map}
use Rattle.alto_top.specs.Looking.{listed_in}
use Rattle.alto_top.specs.Showing.{line_text}
use Rattle.alto_top.proofs.listing.text_of_rows.Given as goal

abbrev pub invariant-loop-row : goal.invariant-loop-row
invariant-loop-row l = l.text.items ++ flat_map (λ x. line_text (listed_in x)) l.row-iterator ≡ flat_map (λ x. line_text (listed_in x)) l.rows.keys
