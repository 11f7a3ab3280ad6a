-- Files that were found, over the record writes of DiskDescriptor.
use Rattle.std.proofs.Common.{Bool, List, [], cond, false, inr, refl, true, ℕ, ◌∙◌, ◌∷◌, ◌==◌}
use Rattle.laws_call.specs.alto_words.specs.Fid.{disk_descriptor, is_directory, sys_dir}
use Rattle.laws_call.specs.disk_records.specs.Commands.{value_writes}
use Rattle.laws_call.specs.disk_records.specs.Packs.{after, sector_at}
use Rattle.laws_call.specs.laws_lookup.proofs.others.Laws.{place_is_of_its_file, values_leave_others}
use Rattle.laws_call.specs.laws_lookup.proofs.sources.Laws.{found_file_stays_found}
use Rattle.laws_call.specs.laws_operation.proofs.descriptor.Laws.{open_carries_out, serial_carries_out}
use Rattle.laws_call.specs.laws_operation.proofs.places.Laws.{values_keep_places}
use Rattle.laws_call.specs.pack_model.specs.hints.Sources.{IsFrom}
use Rattle.laws_call.specs.pack_model.specs.operations.Step.Operation.{widen}
use Rattle.laws_call.specs.pack_model.specs.reading.Sights.{sights}
use Rattle.laws_call.specs.pack_model.specs.sessions.Descriptor.{opened_value, serial_value}
use Rattle.laws_call.specs.pack_model.specs.states.Sound.{mark_of, mark_open}
use Rattle.laws_call.specs.pack_model.specs.states.Whole.{Whole}
use Rattle.laws_steps.proofs.inside.Released.{elsewhere}
use Rattle.laws_steps.specs.KeepingLaws.{DescriptorKeepsFound, OpeningKeepsFound, SerialKeepsFound}
use Rattle.laws_steps.proofs.inside.Keeping.{apart_by}

pub descriptor_keeps_found : DescriptorKeepsFound
descriptor_keeps_found p n i value g at from w there wq h =
    let values : List (ℕ × List ℕ) = (i, value) ∷ [] in
    found_file_stays_found disk_descriptor p (value_writes i value) g at from w (values_leave_others p disk_descriptor values w wq (place_is_of_its_file p disk_descriptor n i there, tt))
    (elsewhere p disk_descriptor g at from (λ d k s. apart_by is_directory d disk_descriptor s.directory refl) h)
    (inr (λ m j l is. (values_keep_places p values).places disk_descriptor m ∙ is)) h

pub opening_keeps_found : OpeningKeepsFound
opening_keeps_found p i g at from w t there h = by (mark_of (sights p) == mark_open) (open_carries_out p i (widen sys_dir) [] w t there).keeps.whole
  where
    by : (b : Bool) → Whole (after p (cond b [] (value_writes i (opened_value (sector_at p i).value)))) → IsFrom (after p (cond b [] (value_writes i (opened_value (sector_at p i).value)))) g at from
    by true whole = h
    by false whole = descriptor_keeps_found p 1 i (opened_value (sector_at p i).value) g at from w there whole h

pub serial_keeps_found : SerialKeepsFound
serial_keeps_found p i last g at from w t there above h = descriptor_keeps_found p 1 i (serial_value last (sector_at p i).value) g at from w there (serial_carries_out p i last w t there above).keeps.whole h
