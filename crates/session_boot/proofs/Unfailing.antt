-- Calls in which no fault of a device came, and what comes after them.
use Rattle.std.proofs.Common.{◌∙◌, refl, subst}
use Rattle.disk_records.specs.Causes.{IsCause, Unfailed}
use Rattle.disk_records.specs.Tapes.{DiskAlone, Rose, Taped}
use Rattle.session_boot.specs.declared.status.Fault.{Fault}
use Rattle.session_boot.specs.declared.status.Fault.TheVariants.{Disk, Key, Display, Memory}
use Rattle.session_boot.specs.Faults.{NoFault, UnlessStopped, cause_of_fault, status_of}

pub none_here : (a : Taped) → NoFault a a
none_here a = record { disk = refl; keys = refl; display = refl }

pub none_twice : {a b c : Taped} → NoFault a b → NoFault b c → NoFault a c
none_twice x y = record { disk = y.disk ∙ x.disk; keys = y.keys ∙ x.keys; display = y.display ∙ x.display }

-- of a call that is given the disk alone
pub none_of_disk : {a b : Taped} → DiskAlone a b → Unfailed a b → NoFault a b
none_of_disk alone none = record { disk = none; keys = alone.key_faults; display = alone.show_faults }

-- the cause of the next one is that of all of them
pub fault_after : {a b : Taped} (c : Taped) (fault : Fault) → NoFault a b → IsCause b c (cause_of_fault fault) → IsCause a c (cause_of_fault fault)
fault_after c Disk none is = subst (λ n. Rose n c.disk_faults) none.disk is
fault_after c Key none is = subst (λ n. Rose n c.key_faults) none.keys is
fault_after c Display none is = subst (λ n. Rose n c.show_faults) none.display is
fault_after c Memory none is = is ∙ none.disk

-- a session that a fault ended owes nothing
pub stopped_owes : (fault : Fault) (holds : Type 0) → UnlessStopped (status_of fault) holds
stopped_owes Disk holds = tt
stopped_owes Key holds = tt
stopped_owes Display holds = tt
stopped_owes Memory holds = tt
