-- What each part of mending says of a machine that is modelled.
use Rattle.std.specs.Prelude.{Result, IfOk, IsErrOf, ◌<◌, ◌+◌, length}
use Rattle.disk_records.specs.Packs.{Pack}
use Rattle.disk_records.specs.Tapes.{Taped, pack, added}
use Rattle.scav_pages.specs.Changes.{AllMend}
use Rattle.scav_pages.specs.Keeping.{KeepsFiles}
use Rattle.scav_pages.specs.declared.errors.Stop.{Stop}
use Rattle.scav_pages.specs.declared.errors.Stop.TheVariants.{Astray, Memory}

-- At Ok it leaves the pack like this, and keeps directories; every sector is found as it has to be; it is out of memory only where the disk has no room for three more
-- record writes; whatever the answer, each crash point keeps what a mending keeps, and each
-- record write changes what stands.
pub record Does {T : Type 0} (Leaves : Pack → Pack → T → Type 0) (old new : Taped) (result : Result T Stop) : Type 0 where
  pub leaves : IfOk result (Leaves (pack old) (pack new))
  pub keeps : IfOk result (λ done. KeepsFiles (pack old) (pack new))
  pub found : IsErrOf result Astray → ⊥
  pub want : IsErrOf result Memory → old.spare < length (added old new) + 3
  pub mends : AllMend (pack old) (added old new)
