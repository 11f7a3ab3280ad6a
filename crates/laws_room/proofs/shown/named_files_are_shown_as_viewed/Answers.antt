use Rattle.laws_room.proofs.shown.Laws.{named_files_are_shown_as_viewed}
use Rattle.laws_room.proofs.shown.named_files_are_shown_as_viewed.Goals as goal

pub returns : goal.returns
returns c = named_files_are_shown_as_viewed
