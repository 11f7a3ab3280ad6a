-- What a call knew on the pack with two files and a directory.
use Rattle.std.proofs.Common.{Bool, None, Some, [], ap, arith, false, length, refl, true, ◌∙◌, ◌∷◌, ◌≡◌}
use Rattle.laws_steps.specs.alto_words.specs.Fid.{sys_dir}
use Rattle.laws_steps.specs.disk_records.specs.Packs.{Pack}
use Rattle.laws_steps.specs.laws_contents.proofs.model.Laws.{model_lengths_are_of_bytes}
use Rattle.laws_steps.specs.laws_line.specs.LineLaws.{IsEntered}
use Rattle.laws_steps.specs.laws_operation.proofs.places.Laws.{file_that_does_not_live_has_no_page}
use Rattle.laws_steps.proofs.entries.Laws.{entered_is_meant, entered_stays}
use Rattle.laws_steps.proofs.lengths.Laws.{put_keeps_the_length}
use Rattle.laws_steps.proofs.names.Laws.{absent_name_stays_absent}
use Rattle.laws_steps.specs.pack_model.specs.operations.Committing.{length_of}
use Rattle.laws_steps.specs.pack_model.specs.operations.Step.{step}
use Rattle.laws_steps.specs.pack_model.specs.operations.Step.Operation.{leave, title, widen}
use Rattle.laws_steps.specs.pack_model.specs.reading.Files.{lives, place}
use Rattle.laws_steps.specs.pack_model.specs.reading.Model.{Model, dir_items, read_as}
use Rattle.laws_steps.specs.pack_model.specs.reading.Sights.{sights}
use Rattle.laws_steps.specs.pack_model.specs.reading.Slots.Item.{entry, space}
use Rattle.laws_steps.specs.pack_model.specs.reading.Versions.{exact}
use Rattle.laws_met.specs.Lookups.{LookupsAreMet, MeetsLookups}
use Rattle.laws_met.specs.Peopled.{dir_d, file_a, file_b, name_a, name_b, name_c, peopled}
use Rattle.laws_met.specs.Premises.{MeetsPremises}
use Rattle.laws_met.proofs.inside.Meeting.{premises_are_met, size_a}

-- by the slots of the directory, and the length of the file
meets : (m : Model) → dir_items m dir_d ≡ entry file_b name_b ∷ space 247 ∷ [] → length_of m file_a ≡ 600 → MeetsLookups m
meets m items size = record {
  entered = here;
  meant = entered_is_meant m dir_d file_b name_b here;
  widened = entered_stays m dir_d file_b name_b (widen dir_d) refl here;
  absent = none;
  left =
      absent_name_stays_absent (step m (title file_a name_c)) dir_d name_c (leave sys_dir name_a) refl
      (absent_name_stays_absent m dir_d name_c (title file_a name_c) refl none);
  length_is = size;
  length_stays = put_keeps_the_length m file_a 598 (1 ∷ 2 ∷ []) (omega (arith, size)) ∙ size;
}
  where
    here : IsEntered m dir_d name_b file_b
    here = record { before = []; own = name_b; behind = space 247 ∷ []; items_are = items; same = refl; first = refl }

    none : exact name_c (dir_items m dir_d) ≡ None
    none = ap (exact name_c) items

-- a file with a leader lives
living : (p : Pack) → MeetsPremises p → lives (sights p) file_a ≡ true
living p m = by (lives (sights p) file_a) refl
  where
    by : (b : Bool) → lives (sights p) file_a ≡ b → b ≡ true
    by true is = refl
    by false is =
        let dead : place (sights p) file_a 0 ≡ None = file_that_does_not_live_has_no_page p file_a 0 m.sound.whole is in
        let led : place (sights p) file_a 0 ≡ Some 5 = m.may_drop.sector in
        absurd cc

size_of : (p : Pack) → MeetsPremises p → length_of (read_as p) file_a ≡ 600
size_of p m = model_lengths_are_of_bytes p file_a m.sound.whole m.sound.tidy refl (living p m) ∙ ap length m.bytes ∙ size_a

pub lookups_are_met : LookupsAreMet
lookups_are_met = meets (read_as peopled) premises_are_met.items (size_of peopled premises_are_met)
