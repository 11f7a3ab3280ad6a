-- What formatting leaves.
use Rattle.std.specs.Prelude.{◌≡◌, ℕ}
use Rattle.disk_records.specs.declared.shape.Shape.{Shape}
use Rattle.disk_records.specs.Packs.{Pack}
use Rattle.pack_model.specs.reading.Model.{read_as}
use Rattle.pack_model.specs.sessions.Format.{formatted}
use Rattle.pack_model.specs.showing.Settling.{show}
use Rattle.laws_format.specs.Empty.{empty_model}
use Rattle.laws_format.specs.Formatted.{DescribesIt, FreeAfterUsed, SessionBegins, nothing_shown}

-- The pack that formatting writes. A session may begin with it: it is sound and clean, all its hints are true, and no page is carried
-- twice; it is read as the model without files, and shows none; free are the sectors after those of the system files.
pub record IsFormatted (shape : Shape) (number moment : ℕ) (p : Pack) : Type 0 where
  pub pack_is : p ≡ formatted shape number moment
  pub begins : SessionBegins p
  pub empty : read_as p ≡ empty_model shape moment
  pub shows_nothing : show p ≡ nothing_shown
  pub describes : DescribesIt p
  pub frees : FreeAfterUsed p
