-- The files that a pack is read as: those that live but DiskDescriptor, with entries that are all kept.
use Rattle.std.proofs.Common.{Bool, None, Option, ap, cond, false, not, refl, sym, true, ◌∙◌, ◌≡◌}
use Rattle.std.specs.FinMap.{get}
use Rattle.std.specs.Option.{is_some, option_map}
use Rattle.laws_contents.specs.alto_words.specs.declared.fid.Fid.{Fid}
use Rattle.laws_contents.specs.disk_records.specs.Packs.{Pack}
use Rattle.laws_contents.specs.pack_model.specs.reading.Bodies.{File, described, found, is_described}
use Rattle.laws_contents.specs.pack_model.specs.reading.Files.{file_bytes, leader, lives}
use Rattle.laws_contents.specs.pack_model.specs.reading.Model.{read_as, read_sights}
use Rattle.laws_contents.specs.pack_model.specs.reading.Namings.{IsTidy}
use Rattle.laws_contents.specs.pack_model.specs.reading.Sights.{sights}
use Rattle.laws_contents.specs.pack_model.specs.showing.View.{seen_of}
use Rattle.laws_contents.specs.pack_laws.proofs.Placing.{none_of_false}
use Rattle.laws_contents.specs.laws_record.proofs.Keeping.{get-where}
use Rattle.laws_contents.specs.laws_record.proofs.Mending.{get-seen}
use Rattle.laws_contents.specs.laws_record.proofs.Reading.{get-found, read_file}
use Rattle.laws_contents.specs.laws_record.proofs.Tidying.{some_map}
use Rattle.laws_operation.proofs.EnterLaw.{items_are}
use Rattle.laws_operation.proofs.inside.looks.Kept.{tidied_is_tidy}
use Rattle.laws_operation.specs.EntryLaws.{ItemsAreSlots, ReadEntriesAreKept}
use Rattle.laws_operation.specs.PlaceLaws.{ModelHasTheLiving}

-- ---- on any pack
-- all entries of the model are kept
pub read_tidy : (p : Pack) → IsTidy (lives (sights p)) (read_as p).files
unfolding read_sights
read_tidy p = tidied_is_tidy (lives (sights p)) (described (sights p))

-- the model has the files that are described
described_there : (p : Pack) (f : Fid) → is_some (get (read_as p).files f) ≡ is_some (get (described (sights p)) f)
unfolding read_sights
described_there p f =
    let d = described (sights p) in
    sym (some_map (seen_of f) (get (read_as p).files f)) ∙ ap is_some (get-seen (lives (sights p)) d f) ∙ some_map (seen_of f) (get d f)

-- which are there by their leaders
file_read : (p : Pack) (f : Fid) → get (described (sights p)) f ≡ cond (is_described f) (option_map (read_file f (file_bytes (sights p) f)) (leader (sights p) f)) None
file_read p f = get-where (found (sights p)) is_described f ∙ ap (λ r. cond (is_described f) r None) (get-found (sights p) f)

-- a file that doesn't live isn't in the model
pub not_read : (p : Pack) (f : Fid) → lives (sights p) f ≡ false → get (read_as p).files f ≡ None
not_read p f dead = none_of_false (get (read_as p).files f)
    (described_there p f ∙ ap is_some (file_read p f ∙ ap (λ r. cond (is_described f) (option_map (read_file f (file_bytes (sights p) f)) r) None) (none_of_false (leader (sights p) f) dead)) ∙ nothing (is_described f))
  where
    nothing : (b : Bool) → is_some (cond {A = Option File} b None None) ≡ false
    nothing true = refl
    nothing false = refl

pub model_has_the_living : ModelHasTheLiving
model_has_the_living p f other =
    described_there p f
    ∙ ap is_some (file_read p f ∙ ap (λ b. cond (not b) (option_map (read_file f (file_bytes (sights p) f)) (leader (sights p) f)) None) other)
    ∙ some_map (read_file f (file_bytes (sights p) f)) (leader (sights p) f)

pub read_entries_are_kept : ReadEntriesAreKept
read_entries_are_kept = read_tidy

-- ---- on a tidy pack
pub items_are_slots : ItemsAreSlots
items_are_slots p d t live dir = items_are p t d live dir
