use Rattle.std.proofs.Common.{sym, subst}
use Rattle.leader_page.specs.Pages.{IsDecoded}
use Rattle.leader_page.proofs.Decoding.{none_decoded, some_decoded}
use Rattle.leader_page.proofs.leader.Leader.decode.Goals as goal

pub returns-in_err-name : goal.returns-in_err-name
returns-in_err-name c = subst (IsDecoded c.args.value.now) (sym c.from_residual.ensures) (none_decoded c.args.value.now c.in_err-name.ensures)

pub returns : goal.returns
returns c = some_decoded c.args.value.now c.under.result c.in_ok-name.name c.in_ok-name.ensures c.under.ensures.leader c.under.ensures.hints
