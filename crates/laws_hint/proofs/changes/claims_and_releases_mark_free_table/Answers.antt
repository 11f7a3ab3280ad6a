use Rattle.laws_hint.proofs.inside.Marking.{claims_and_releases_mark_free_table}
use Rattle.laws_hint.proofs.changes.claims_and_releases_mark_free_table.Goals as goal

pub returns : goal.returns
returns c = claims_and_releases_mark_free_table
