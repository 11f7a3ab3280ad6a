-- What is shown of models and packs on which each file has a name.
use Rattle.std.specs.FinMap.{contains_key}
use Rattle.std.specs.Prelude.{true, ◌≡◌}
use Rattle.laws_operation.specs.alto_words.specs.declared.fid.Fid.{Fid}
use Rattle.laws_operation.specs.disk_records.specs.Packs.{Pack}
use Rattle.laws_operation.specs.pack_model.specs.reading.Model.{IsNamed, Model, read_as}
use Rattle.laws_operation.specs.pack_model.specs.showing.Settling.{settle, show}
use Rattle.laws_operation.specs.pack_model.specs.showing.View.{View, view}
use Rattle.laws_operation.specs.pack_model.specs.states.Sound.{Sound}

-- a view that was settled has a name for each file: settling it again changes nothing
abbrev pub SettlingAgainChangesNothing : Type 0
SettlingAgainChangesNothing = (v : View) → settle (settle v) ≡ settle v

-- of a model whose files all have entries the view is settled
abbrev pub NamedFilesAreShownAsViewed : Type 0
NamedFilesAreShownAsViewed = (m : Model) → ((f : Fid) → contains_key m.files f ≡ true → IsNamed m f) → settle (view m) ≡ view m

-- so a sound pack shows the view of what it is read as
abbrev pub SoundPackShowsItsView : Type 0
SoundPackShowsItsView = (p : Pack) → Sound p → show p ≡ view (read_as p)
