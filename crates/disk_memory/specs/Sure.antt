-- A machine whose devices never fail.
use Rattle.disk_records.specs.Tapes.{Taped, Rose}

-- no count of faults has risen, nor stands at its end
pub record NoFault (old new : Taped) : Type 0 where
  pub disk : Rose old.disk_faults new.disk_faults → ⊥
  pub keys : Rose old.key_faults new.key_faults → ⊥
  pub show : Rose old.show_faults new.show_faults → ⊥
