use Rattle.laws_hint.proofs.inside.HandyStaying.{handy_where_pages_stay_or_go}
use Rattle.laws_hint.proofs.handy.handy_where_pages_stay_or_go.Goals as goal

pub returns : goal.returns
returns c = handy_where_pages_stay_or_go
