-- Files without an entry, on any pack: those that don't live, and one that was made just now.
use Rattle.std.proofs.Common.{Bool, List, Some, [], ap, cond, false, not, refl, sym, true, ℕ, ◌∙◌, ◌∷◌, ◌≡◌}
use Rattle.std.specs.FinMap.{entries, get, get-insert}
use Rattle.std.specs.List.{list_any}
use Rattle.laws_contents.specs.alto_words.specs.Fid.{is_directory, is_fid}
use Rattle.laws_contents.specs.alto_words.specs.declared.fid.Fid.{Fid}
use Rattle.laws_contents.specs.pack_model.specs.reading.Bodies.{body_items, items_in}
use Rattle.laws_contents.specs.pack_model.specs.reading.Bodies.Body.{data_of, items_of}
use Rattle.laws_contents.specs.pack_model.specs.reading.Files.{lives}
use Rattle.laws_contents.specs.pack_model.specs.reading.Model.{read_as}
use Rattle.laws_contents.specs.pack_model.specs.reading.Namings.{AllKept, Naming, clashes, fits, is_kept, may_stand, namings}
use Rattle.laws_contents.specs.pack_model.specs.reading.Sights.{sights}
use Rattle.laws_contents.specs.pack_model.specs.reading.Slots.Item.{space}
use Rattle.laws_contents.specs.pack_model.specs.operations.Step.{new_body, new_file, step}
use Rattle.laws_contents.specs.pack_model.specs.operations.Step.Operation.{make}
use Rattle.laws_contents.specs.pack_laws.proofs.Keys.{fid_total, same_fid}
use Rattle.laws_contents.specs.laws_record.proofs.Heads.{and_left}
use Rattle.laws_contents.specs.laws_record.proofs.Tidying.{or_false}
use Rattle.laws_operation.proofs.inside.Coming.{bare_namings}
use Rattle.laws_operation.proofs.inside.looks.Apart.{free_name_is_apart_for_a_nameless_file}
use Rattle.laws_operation.proofs.inside.looks.ReadFiles.{not_read, read_tidy}
use Rattle.laws_operation.specs.EntryLaws.{EntriesNameLivingFiles, FreeNameIsApartAfterMake, MakeLeavesNoName, is_of_another}
use Rattle.laws_operation.proofs.Making.{bare_first}

-- ---- a file that doesn't live
-- what is kept lives
module _ (v : Fid → Bool) (f : Fid) (dead : v f ≡ false) where
  kept_other : (before : List Naming) (e : Naming) → is_kept v before e ≡ true → is_fid e.fid f ≡ false
  kept_other before e kept = by (is_fid e.fid f) refl
    where
      live : v e.fid ≡ true
      live = and_left (v e.fid) (fits e) (and_left (may_stand v e) (not (list_any (clashes e) before)) kept)

      by : (b : Bool) → is_fid e.fid f ≡ b → b ≡ false
      by true is = let clash : true ≡ false = sym live ∙ ap v (same_fid e.fid f is) ∙ dead in cc
      by false is = refl

  none_kept : (before es : List Naming) → AllKept (is_kept v) before es → list_any (λ n. is_fid n.fid f) es ≡ false
  none_kept before [] h = refl
  none_kept before (e ∷ es) h = or_false (is_fid e.fid f) (list_any (λ n. is_fid n.fid f) es) (kept_other before e h.0) (none_kept (e ∷ before) es h.1)

pub entries_name_living_files : EntriesNameLivingFiles
entries_name_living_files p f dead = none_kept (lives (sights p)) f dead [] (namings (entries (read_as p).files)) (read_tidy p)

-- ---- a make
-- nor one of another file
open_new : (f g : Fid) (name : List ℕ) → list_any (is_of_another g name) (body_items (new_body f)) ≡ false
open_new f g name = by (is_directory f)
  where
    by : (b : Bool) → list_any (is_of_another g name) (body_items (cond b (items_of (space 255 ∷ [])) (data_of []))) ≡ false
    by true = refl
    by false = refl

pub make_leaves_no_name : MakeLeavesNoName
make_leaves_no_name p f own moment dead =
    ap (list_any (λ n. is_fid n.fid f)) (bare_namings (read_as p).files f (new_file f own moment) (bare_first f) (not_read p f dead)) ∙ entries_name_living_files p f dead

pub free_name_is_apart_after_make : FreeNameIsApartAfterMake
free_name_is_apart_after_make p d f name own moment dead clear =
    free_name_is_apart_for_a_nameless_file (step (read_as p) (make f own moment)) d f name (make_leaves_no_name p f own moment dead)
    (ap (λ r. list_any (is_of_another f name) (items_in r)) (get-insert fid_total (read_as p).files f (new_file f own moment) d) ∙ by (is_fid d f))
  where
    by : (b : Bool) → list_any (is_of_another f name) (items_in (cond b (Some (new_file f own moment)) (get (read_as p).files d))) ≡ false
    by true = open_new f f name
    by false = clear
