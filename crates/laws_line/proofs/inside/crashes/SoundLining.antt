-- Each cut of a line of the operating system can be scavenged, and after it the pack is sound again.
use Rattle.std.proofs.Common.{Bool, List, None, Option, Some, ap, arith, cond, false, not, refl, subst, sym, true, ◌∙◌, ◌≡◌, ◌≤◌}
use Rattle.std.specs.FinMap.{contains_key, get}
use Rattle.std.specs.Option.{is_some, option_map}
use Rattle.laws_room.specs.alto_words.specs.Fid.{disk_descriptor, is_fid}
use Rattle.laws_room.specs.alto_words.specs.declared.fid.Fid.{Fid}
use Rattle.disk_records.specs.Packs.{Pack, after}
use Rattle.disk_records.specs.declared.records.Event.{Event}
use Rattle.disk_records.specs.declared.shape.Shape.{Shape}
use Rattle.pack_model.specs.reading.Bodies.{File, described, found, is_described}
use Rattle.pack_model.specs.operations.Committing.{pages_for_operations}
use Rattle.pack_model.specs.reading.Files.{file_bytes, leader, lives}
use Rattle.pack_model.specs.reading.Leaders.{Leader}
use Rattle.pack_model.specs.reading.Model.{IsNamed, Model, read_as, read_sights, room}
use Rattle.pack_model.specs.operations.Operations.{Move}
use Rattle.pack_model.specs.reading.Sights.{Sight, sights}
use Rattle.pack_model.specs.states.Sound.{Sound}
use Rattle.pack_model.specs.operations.Step.{Operation}
use Rattle.pack_model.specs.showing.View.{seen_of}
use Rattle.laws_room.specs.pack_laws.proofs.Keys.{same_fid}
use Rattle.laws_room.specs.laws_record.proofs.Keeping.{get-where}
use Rattle.laws_room.specs.laws_record.proofs.Mending.{get-seen}
use Rattle.laws_room.specs.laws_record.proofs.Reading.{get-found, read_file}
use Rattle.laws_line.proofs.inside.SettledAgain.{settled_after_changes}
use Rattle.laws_line.proofs.inside.SettledDrop.{settled_after_drop}
use Rattle.laws_line.proofs.inside.SettledNewFile.{settled_after_new_file}
use Rattle.laws_line.proofs.inside.SettledRename.{settled_after_rename}
use Rattle.laws_line.proofs.inside.SoundSettled.{sound_is_settled}
use Rattle.laws_line.specs.AfterLaws.{SettledAfter}
use Rattle.laws_line.specs.Ready.{Settled, steps_of}
use Rattle.laws_line.proofs.inside.Lining.{crashes_of_a_line}
use Rattle.laws_line.proofs.inside.crashes.Parting.{viewed_and_mendable_in_session, viewed_and_mendable_operates}
use Rattle.laws_line.specs.CrashLaws.{LineStays}
use Rattle.laws_line.specs.SoundLines.{CrashesOfALineOnASoundPack, IsKindOfLine, changes, comes, goes, renamed}
use Rattle.laws_room.proofs.rooms.Laws.{free_is_the_room}

-- ---- the model
-- each kind of line keeps a settled model ready where there is room for the pages that it adds, and leaves a settled one
pub line_after : (m : Model) (ops : List Operation) → Settled m → IsKindOfLine m ops → pages_for_operations m ops ≤ room m → SettledAfter m ops
line_after m _ s (changes ops leave) few = settled_after_changes m ops s leave few
line_after m _ s (goes f may) few = settled_after_drop m f s may
line_after m _ s (comes d name f moment rest dir short new leave) few = settled_after_new_file m d name f moment rest s dir short new leave few
line_after m _ s (renamed d old to name f dir entered short other) few = settled_after_rename m d old to name f s dir entered short other few

-- ---- the pack
-- a living file but DiskDescriptor is one of the model
living_read : (shape : Shape) (ss : List Sight) (f : Fid) → is_fid f disk_descriptor ≡ false → lives ss f ≡ true → contains_key (read_sights shape ss).files f ≡ true
unfolding read_sights
living_read shape ss f other alive = same _ _ (get-seen (lives ss) (described ss) f) ∙ ap is_some here ∙ by (leader ss f) alive
  where
    same : (x y : Option File) → option_map (seen_of f) x ≡ option_map (seen_of f) y → is_some x ≡ is_some y
    same None None e = refl
    same None (Some y) e = cc
    same (Some x) None e = cc
    same (Some x) (Some y) e = refl

    here : get (described ss) f ≡ option_map (read_file f (file_bytes ss f)) (leader ss f)
    here = get-where (found ss) is_described f ∙ ap (λ b. cond (not b) (get (found ss) f) None) other ∙ get-found ss f

    by : (r : Option Leader) → is_some r ≡ true → is_some (option_map (read_file f (file_bytes ss f)) r) ≡ true
    by None e = e
    by (Some l) e = refl

-- what the line leaves is sound where its last model is settled
sound_after : (p : Pack) (events : List Event) (ops : List Operation) {moves : List Move} → LineStays p events ops moves → Settled (steps_of (read_as p) ops) → Sound (after p events)
sound_after p events ops h settled = record { whole = h.whole; tidy = h.tidy; named = λ f alive. by f alive (is_fid f disk_descriptor) refl }
  where
    q : Pack
    q = after p events

    again : Settled (read_as q)
    again = subst Settled (sym h.reads) settled

    by : (f : Fid) → lives (sights q) f ≡ true → (b : Bool) → is_fid f disk_descriptor ≡ b → IsNamed (read_as q) f
    by f alive true e = subst (IsNamed (read_as q)) (sym (same_fid f disk_descriptor e)) h.whole.descriptor_named
    by f alive false e = again.all f (living_read q.shape (sights q) f e alive)

-- ---- the law
pub crashes_of_a_line_on_a_sound_pack : CrashesOfALineOnASoundPack
crashes_of_a_line_on_a_sound_pack p at events ops sound placed some is few line =
    let h = crashes_of_a_line p at events ops sound placed some line in
    let free = (free_is_the_room p sound.whole).room_is in
    let behind = line_after (read_as p) ops (sound_is_settled p sound) is (omega arith) in
    let cuts = h.cuts behind.ready in
    record {
      cuts = cuts;
      operating = viewed_and_mendable_operates (read_as p) p _ _ h.obeys cuts;
      session = viewed_and_mendable_in_session (read_as p) p _ _ h.obeys cuts;
      reads = h.reads;
      unmarked = h.unmarked;
      sound = sound_after p _ ops h behind.behind;
    }
