-- The least leader with a serial is the file that the model has by it.
use Rattle.std.proofs.Common.{Bool, None, Some, ap, cond, eqb-true, false, fold, refl, true, ◌==◌, ◌∙◌, ◌≡◌}
use Rattle.std.specs.FinMap.{entries}
use Rattle.laws_call.specs.alto_words.specs.Fid.{disk_descriptor, serial_of}
use Rattle.pack_laws.specs.Least.{least_shown}
use Rattle.laws_call.specs.pack_model.specs.reading.Model.{read_as}
use Rattle.laws_call.specs.pack_model.specs.reading.Sights.{sights}
use Rattle.laws_steps.specs.SerialLaws.{SerialIsTheModels}
use Rattle.laws_steps.proofs.inside.ByEntries.{of_serial, other_serial}
use Rattle.laws_steps.proofs.inside.DescriptorLeast.{descriptor_is_least}
use Rattle.laws_steps.proofs.inside.Leaders.{all_led, met_carried, met_shown}

pub serial_is_the_models : SerialIsTheModels
serial_is_the_models p n w = record {
  fid = met_shown n 0 (sights p) None ∙ by (n == serial_of disk_descriptor) refl;
  carries = met_carried p n 0 (sights p) None (all_led p w) tt;
}
  where
    by : (b : Bool) → (n == serial_of disk_descriptor) ≡ b → fold (least_shown n) None (sights p) ≡ cond b (Some disk_descriptor) (of_serial n (entries (read_as p).files))
    by true is = ap (λ k. fold (least_shown k) None (sights p)) (eqb-true n 2 is) ∙ descriptor_is_least p w
    by false is = other_serial p n is
