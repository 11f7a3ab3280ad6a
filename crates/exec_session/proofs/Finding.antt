-- What calls on directories find, as operands mean it on a sound pack.
use Rattle.std.proofs.Common.{◌≡◌, ℕ, true, false, List, [], ◌∷◌, Option, Some, None, zero, suc, refl, sym, ap, ◌∙◌, arith}
use Rattle.std.specs.Prelude.{Contains}
use Rattle.std.specs.Option.{option_map}
use Rattle.alto_words.specs.declared.fid.Fid.{Fid}
use Rattle.alto_words.specs.declared.wanted.Wanted.{Wanted}
use Rattle.alto_words.specs.declared.wanted.Wanted.TheVariants.{Exact, Newest}
use Rattle.alto_words.specs.Fid.{is_directory}
use Rattle.disk_records.specs.declared.records.Page.{Page}
use Rattle.disk_records.specs.declared.records.Place.{Place}
use Rattle.disk_records.specs.Packs.{Pack}
use Rattle.pack_model.specs.hints.Links.{dir_slots}
use Rattle.pack_model.specs.reading.Files.{lives}
use Rattle.pack_model.specs.reading.Lookup.{EntryAt, entered, entry_at}
use Rattle.pack_model.specs.reading.Model.{Model, dir_items, read_as}
use Rattle.pack_model.specs.reading.Namings.{namings_in}
use Rattle.pack_model.specs.reading.Slots.{Item}
use Rattle.pack_model.specs.reading.Slots.Item.{entry, space}
use Rattle.pack_model.specs.reading.Sights.{sights}
use Rattle.pack_model.specs.reading.Versions.{Entered, entry_wanted}
use Rattle.pack_model.specs.states.Sound.{Sound}
use Rattle.pack_model.specs.states.Whole.{Tidy}
use Rattle.page_seeking.specs.Refs.{FileIsFrom, MisledBy}
use Rattle.page_seeking.specs.declared.refs.FileRef.{FileRef}
use Rattle.page_seeking.proofs.Once.{once_of_whole}
use Rattle.directory.specs.Asked.{DirIsFound}
use Rattle.directory.specs.Found.{IsAbsent, IsLookedUp, file_of}
use Rattle.directory.specs.laws_lookup.proofs.dropping.Laws.{ordinary_file_is_bare}
use Rattle.directory.specs.laws_lookup.proofs.slots.Laws.{lookup_is_the_models}
use Rattle.directory.specs.laws_lookup.proofs.sources.Laws.{looked_up_file_is_found}
use Rattle.directory.specs.laws_midway.proofs.found.Laws.{found_file_lives}
use Rattle.exec_words.specs.declared.line.Path.{Path}
use Rattle.session_model.specs.Finding.{dir_of, entry_in, entry_meant}
use Rattle.session_model.specs.Turning.{HintFailing}
use Rattle.exec_session.specs.Found.{root_ref}

-- ---- a directory that was found
pub dir_found : (p : Pack) (dir : FileRef) → Sound p → FileIsFrom p dir → is_directory dir.fid ≡ true → DirIsFound p dir
dir_found p dir sound from directory = record {
  once = once_of_whole p sound.whole;
  from = from;
  directory = directory;
  living = found_file_lives p dir.fid dir.leader_at dir.from sound.whole sound.tidy from;
}

pub root_found : (p : Pack) → Sound p → DirIsFound p root_ref
root_found p sound = dir_found p root_ref sound (refl, refl) refl

-- ---- a name that was looked up in it
-- The entry is the one that is wanted in the model, and the file's address stands where it was taken from.
pub record WantedAt (p : Pack) (d : Fid) (w : Wanted) (file : FileRef) (name : List ℕ) : Type 0 where
  pub is : entry_wanted w (dir_items (read_as p) d) ≡ Some (file.fid, name)
  pub from : FileIsFrom p file

entry_looked_up : (p : Pack) (d : Fid) (w : Wanted) (e : EntryAt) (file : FileRef) (name : List ℕ) → Tidy p → lives (sights p) d ≡ true → is_directory d ≡ true → entry_at w (dir_slots p d) ≡ Some e → file ≡ file_of d e → name ≡ e.name → WantedAt p d w file name
entry_looked_up p d w e file name tidy living directory meant file_is name_is = record {
  is = rw (file_is, name_is) (sym (lookup_is_the_models p d w tidy living directory) ∙ ap (option_map entered) meant);
  from = rw file_is (looked_up_file_is_found p d w e living directory meant);
}

pub looked_up : (p : Pack) (dir : FileRef) (w : Wanted) (found : FileRef × List ℕ) → Sound p → DirIsFound p dir → IsLookedUp p dir.fid w found → WantedAt p dir.fid w found.0 found.1
looked_up p dir w found sound there up = entry_looked_up p dir.fid w up.entry found.0 found.1 sound.tidy there.living there.directory up.meant up.file up.name

pub looked_up_none : (p : Pack) (dir : FileRef) (w : Wanted) → Sound p → DirIsFound p dir → IsAbsent p dir.fid w → entry_wanted w (dir_items (read_as p) dir.fid) ≡ None
looked_up_none p dir w sound there absent = sym (lookup_is_the_models p dir.fid w sound.tidy there.living there.directory) ∙ ap (option_map entered) absent

-- ---- a hint of it that misled
pub contains_first : (f : Fid) (more : List Fid) → Contains (f ∷ more) f
contains_first f more = (0, omega arith, refl)

pub contains_second : (e f : Fid) (more : List Fid) → Contains (e ∷ f ∷ more) f
contains_second e f more = (1, omega arith, refl)

pub hint_failing : (p : Pack) (d : Fid) (files : List Fid) (place : Place) (at : ℕ) (wanted : Page) (found : Option (List ℕ)) → Sound p → Contains files d → MisledBy p [] d place at wanted found → HintFailing p [] files place at wanted found
hint_failing p d files place at wanted found sound among by = record {
  misled = by.answers;
  on_disk = by.answers.on_disk sound.whole;
  file = rw by.own among;
}

pub more_failing : (p : Pack) (d : Fid) (more : List Fid) (place : Place) (at : ℕ) (wanted : Page) (found : Option (List ℕ)) → HintFailing p [] (d ∷ []) place at wanted found → HintFailing p [] (d ∷ more) place at wanted found
more_failing p d more place at wanted found h = record { misled = h.misled; on_disk = h.on_disk; file = by h.file }
  where
    by : Contains (d ∷ []) wanted.fid → Contains (d ∷ more) wanted.fid
    by (zero, less, is) = (0, omega arith, is)
    by (suc k, less, is) = absurd (omega (arith, less))

-- ---- where no directory is
none_in : (w : Wanted) (d : Fid) (is : List Item) → namings_in d is ≡ [] → entry_wanted w is ≡ None
none_in (Exact name) d [] e = refl
none_in (Exact name) d (space n ∷ is) e = none_in (Exact name) d is e
none_in (Exact name) d (entry f own ∷ is) e = absurd (let n : (record { dir = d; name = own; fid = f }) ∷ namings_in d is ≡ [] = e in cc)
none_in (Newest base) d [] e = refl
none_in (Newest base) d (space n ∷ is) e = none_in (Newest base) d is e
none_in (Newest base) d (entry f own ∷ is) e = absurd (let n : (record { dir = d; name = own; fid = f }) ∷ namings_in d is ≡ [] = e in cc)

pub nothing_wanted : (p : Pack) (f : Fid) (w : Wanted) → Sound p → is_directory f ≡ false → entry_wanted w (dir_items (read_as p) f) ≡ None
nothing_wanted p f w sound ordinary = none_in w f (dir_items (read_as p) f) (ordinary_file_is_bare p f sound.tidy ordinary)

-- ---- of a path
pub file_in : (m : Model) (path : Path) (d : Fid) (found : Option Entered) → dir_of m path.dir ≡ Some d → entry_wanted path.wanted (dir_items m d) ≡ found → entry_meant m path ≡ found
file_in m path d found dir is = ap (entry_in m path) dir ∙ is
