-- What each part of a mending of names says of a machine that is modelled.
use Rattle.std.specs.Prelude.{Result, IfOk, IsErrOf}
use Rattle.disk_records.specs.Packs.{Pack}
use Rattle.disk_records.specs.Tapes.{Taped, pack, added}
use Rattle.laws_names.specs.Keeping.{AllKeepOpen}
use Rattle.scav_pages.specs.Changes.{AllChange}
use Rattle.scav_pages.specs.declared.errors.Stop.{Stop}
use Rattle.scav_pages.specs.declared.errors.Stop.TheVariants.{Astray}

-- At Ok it leaves the pack like this; every sector is found as it has to be; whatever the answer, each crash point keeps what has to be kept,
-- and each record write changes what stands.
pub record Does {T : Type 0} (Leaves : Pack → Pack → T → Type 0) (old new : Taped) (result : Result T Stop) : Type 0 where
  pub leaves : IfOk result (Leaves (pack old) (pack new))
  pub found : IsErrOf result Astray → ⊥
  pub keeps : AllKeepOpen (pack old) (added old new)
  pub changes : AllChange (pack old) (added old new)
