use Rattle.std.proofs.Common.{◌≡◌, true, false, not, sym, ◌∙◌}
use Rattle.std.specs.Prelude.{◌&&◌}
use Rattle.std.specs.FinMap.{contains_key}
use Rattle.kept_names.specs.Homes.{is_taken_in, may_show, naming_at}
use Rattle.kept_names.proofs.standing.consider.Goals as goal

pub returns-clause-kept : goal.returns-clause-kept
returns-clause-kept c = λ alive homes lives stands.
    let entry = c.args.entry in
    let may : true ≡ may_show alive (naming_at entry) = sym c.if-not-may_show.false ∙ c.may_show.ensures alive lives in
    let unnamed : false ≡ contains_key homes entry.fid = sym c.if-has.false ∙ c.has.ensures ∙ stands.named entry.fid in
    let free : false ≡ is_taken_in homes entry.name.directory entry.name.name = sym c.if-is_taken.false ∙ c.is_taken.ensures ∙ stands.taken entry.name.directory entry.name.name in
    λ i. may i && not (unnamed i) && not (free i)
