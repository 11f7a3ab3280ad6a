-- An entry that leaves: that it is there, and which answers don't come.
use Rattle.std.proofs.Common.{◌≡◌, ℕ, Bool, true, false, List, Option, Some, None, IfSome, Result, Ok, Err, refl, sym, ap, subst, ◌∙◌}
use Rattle.std.specs.Option.{option_map, unwrap_or}
use Rattle.alto_words.specs.declared.fid.Fid.{Fid}
use Rattle.alto_words.specs.declared.wanted.Wanted.TheVariants.{Exact}
use Rattle.alto_words.specs.Fid.{is_directory, is_fid, is_system}
use Rattle.directory.specs.Errors.{IfNoSlot, cause_of}
use Rattle.directory.specs.Found.{IsAbsent}
use Rattle.directory.specs.Leaving.{IsOrdinaryEntry, entry_named}
use Rattle.directory.specs.declared.errors.DirError.{DirError}
use Rattle.directory.specs.declared.errors.DirError.TheVariants.{NoSuchName, NameTaken, NoSlot, File}
use Rattle.disk_records.specs.Causes.{HasCause, never, other}
use Rattle.disk_records.specs.Packs.{Pack}
use Rattle.disk_records.specs.Tapes.{Taped}
use Rattle.exec_words.specs.declared.line.Path.{Path}
use Rattle.exec_session.specs.laws_line.specs.LineLaws.{IsEntered}
use Rattle.exec_session.specs.laws_lookup.proofs.slots.Laws.{lookup_is_the_models}
use Rattle.exec_session.specs.laws_midway.proofs.found.Laws.{found_file_is_entered, found_file_lives, name_is_its_own}
use Rattle.exec_session.specs.laws_steps.proofs.entries.Laws.{entered_is_meant}
use Rattle.exec_session.specs.pack_laws.proofs.Keys.{same_fid}
use Rattle.pack_model.specs.hints.Links.{dir_slots}
use Rattle.pack_model.specs.reading.Files.{lives}
use Rattle.pack_model.specs.reading.Lookup.{EntryAt, entered, entry_at}
use Rattle.pack_model.specs.reading.Model.{read_as}
use Rattle.pack_model.specs.reading.Sights.{sights}
use Rattle.pack_model.specs.reading.Versions.{Entered}
use Rattle.pack_model.specs.states.Sound.{Sound}
use Rattle.session_model.specs.Finding.{entry_in}
use Rattle.exec_session.specs.Found.{IsAtPath}
use Rattle.exec_session.specs.declared.operands.Found.{Found}
use Rattle.exec_writing.specs.Plans.{MayLeave}

-- ---- two entries that are one
none_some : (x : Entered) → None ≡ Some x → ⊥
none_some x e = cc

fid_is : (f g : Fid) (own name : List ℕ) → ◌≡◌ {A = Option Entered} (Some (f, own)) (Some (g, name)) → f ≡ g
fid_is f g own name e = ap (λ (r : Option Entered). unwrap_or (option_map (λ (x : Entered). x.0) r) f) e

name_is : (f g : Fid) (own name : List ℕ) → ◌≡◌ {A = Option Entered} (Some (f, own)) (Some (g, name)) → own ≡ name
name_is f g own name e = ap (λ (r : Option Entered). unwrap_or (option_map (λ (x : Entered). x.1) r) own) e

-- a directory is no other kind of file
pub kinds_apart : (d f : Fid) → is_directory d ≡ true → is_directory f ≡ false → is_fid d f ≡ false
kinds_apart d f directory ordinary = by (is_fid d f) refl
  where
    by : (b : Bool) → is_fid d f ≡ b → b ≡ false
    by false e = refl
    by true e = absurd (let n : true ≡ false = sym directory ∙ ap is_directory (same_fid d f e) ∙ ordinary in cc)

-- ---- a file that a path means has the first entry under its name
module _ (p : Pack) (path : Path) (found : Found) (sound : Sound p) (at : IsAtPath p path found) where
  abbrev d : Fid
  d = found.dir.fid

  lives_there : lives (sights p) d ≡ true
  lives_there = found_file_lives p d found.dir.leader_at found.dir.from sound.whole sound.tidy at.dir.from

  meant : option_map entered (entry_at path.wanted (dir_slots p d)) ≡ Some (found.file.fid, found.name)
  meant = lookup_is_the_models p d path.wanted sound.tidy lives_there at.directory ∙ sym (ap (entry_in (read_as p) path) at.dir.is) ∙ at.entry

  pub path_entered : IsEntered (read_as p) found.dir.fid found.name found.file.fid
  path_entered = by (entry_at path.wanted (dir_slots p d)) refl
    where
      by : (r : Option EntryAt) → entry_at path.wanted (dir_slots p d) ≡ r → IsEntered (read_as p) d found.name found.file.fid
      by None is = absurd (let n : None ≡ Some (found.file.fid, found.name) = sym (ap (option_map entered) is) ∙ meant in cc)
      by (Some e) is =
          let same : Some (e.fid, e.name) ≡ Some (found.file.fid, found.name) = sym (ap (option_map entered) is) ∙ meant in
          subst (λ f. IsEntered (read_as p) d found.name f) (fid_is e.fid found.file.fid e.name found.name same)
          (subst (λ n. IsEntered (read_as p) d n e.fid) (name_is e.fid found.file.fid e.name found.name same)
          (found_file_is_entered p d path.wanted e e.name sound.tidy lives_there at.directory is (name_is_its_own e.name)))

-- ---- the entry that leaves
module _ (p : Pack) (found : Found) (may : MayLeave p found) where
  there : option_map entered (entry_named p found.dir.fid found.name) ≡ Some (found.file.fid, may.entered.own)
  there =
      lookup_is_the_models p found.dir.fid (Exact found.name) may.dir.stands.tidy may.dir.living may.dir.directory
      ∙ entered_is_meant (read_as p) found.dir.fid found.file.fid found.name may.entered

  pub ordinary_entry : IsOrdinaryEntry p found.dir.fid found.name
  ordinary_entry = by (entry_named p found.dir.fid found.name) there
    where
      by : (r : Option EntryAt) → option_map entered r ≡ Some (found.file.fid, may.entered.own) → IfSome r (λ e. is_system e.fid ≡ false)
      by None is = tt
      by (Some e) is = ap is_system (fid_is e.fid found.file.fid e.name may.entered.own is) ∙ may.no_system

  pub never_absent : IsAbsent p found.dir.fid (Exact found.name) → ⊥
  never_absent none = none_some (found.file.fid, may.entered.own) (sym (ap (option_map entered) none) ∙ there)

-- ---- answers of a leaving
pub leaving_cause : (a b : Taped) (result : Result (Unit {0}) DirError) → HasCause (cause_of other never never) a b result → (result ≡ Err NoSuchName → ⊥) → HasCause (cause_of never other other) a b result
leaving_cause a b (Ok x) cause is_there = cause
leaving_cause a b (Err NoSuchName) cause is_there = absurd (is_there refl)
leaving_cause a b (Err NameTaken) cause is_there = absurd cause
leaving_cause a b (Err (NoSlot largest)) cause is_there = absurd cause
leaving_cause a b (Err (File e)) cause is_there = cause

pub leaving_untaken : (a b : Taped) (result : Result (Unit {0}) DirError) → HasCause (cause_of other never never) a b result → result ≡ Err NameTaken → ⊥
leaving_untaken a b result cause is = subst (HasCause (cause_of other never never) a b) is cause

pub leaving_roomy : (a b : Taped) (result : Result (Unit {0}) DirError) → HasCause (cause_of other never never) a b result → IfNoSlot result (λ largest. ⊥)
leaving_roomy a b (Ok x) cause = tt
leaving_roomy a b (Err NoSuchName) cause = tt
leaving_roomy a b (Err NameTaken) cause = tt
leaving_roomy a b (Err (NoSlot largest)) cause = cause
leaving_roomy a b (Err (File e)) cause = tt
