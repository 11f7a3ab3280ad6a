-- Entries that clash with none fit.
use Rattle.std.proofs.Common.{Bool, List, [], ap, false, not, refl, sym, true, ℕ, ◌&&◌, ◌∙◌, ◌∷◌, ◌≡◌, ◌||◌}
use Rattle.std.specs.FinMap.{entries}
use Rattle.std.specs.List.{list_any}
use Rattle.laws_operation.specs.alto_words.specs.Fid.{disk_descriptor, is_directory, is_fid, sys_dir}
use Rattle.laws_operation.specs.alto_words.specs.Names.{is_same_name}
use Rattle.laws_operation.specs.alto_words.specs.declared.fid.Fid.{Fid}
use Rattle.laws_operation.specs.pack_model.specs.reading.Files.{lives}
use Rattle.laws_operation.specs.pack_model.specs.reading.Model.{read_as}
use Rattle.laws_operation.specs.pack_model.specs.reading.Namings.{AllKept, Naming, alike, clashes, descriptor_name, fits, is_kept, is_own, keeps_system, may_stand, namings, sys_dir_name}
use Rattle.laws_operation.specs.pack_model.specs.reading.Sights.{sights}
use Rattle.laws_operation.specs.pack_laws.proofs.Keys.{same_fid}
use Rattle.laws_operation.specs.laws_record.proofs.Fitting.{fits_own, fits_root, same_sym, same_trans}
use Rattle.laws_operation.specs.laws_record.proofs.Heads.{and_left, and_right}
use Rattle.laws_operation.specs.laws_record.proofs.Tidying.{or_false_left, or_false_right}
use Rattle.laws_operation.proofs.entries.Laws.{read_entries_are_kept}
use Rattle.laws_lookup.specs.EnteringLaws.{ApartEntryFits, ApartEntryMayBeEntered}

-- ---- the entry of a file among those that are kept
record Known (g : Fid) (e : Naming) : Type 0 where
  it : Naming
  fits_there : fits it ≡ true
  of : is_fid it.fid g ≡ true
  apart : clashes e it ≡ false

known : (live : Fid → Bool) (g : Fid) (e : Naming) (before es : List Naming) → AllKept (is_kept live) before es → list_any (λ n. is_fid n.fid g) es ≡ true → list_any (clashes e) es ≡ false → Known g e
known live g e before [] h any none = absurd cc
known live g e before (n ∷ es) h any none = elim (is_fid n.fid g) as (λ b. is_fid n.fid g ≡ b → (b || list_any (λ n. is_fid n.fid g) es) ≡ true → Known g e) [
  | true ↦ λ is a. record {
    it = n;
    fits_there = and_right (live n.fid) (fits n) (and_left (may_stand live n) (not (list_any (clashes n) before)) h.0);
    of = is;
    apart = or_false_left (clashes e n) (list_any (clashes e) es) none;
  }
  | false ↦ λ is a. known live g e (n ∷ before) es h.1 a (or_false_right (clashes e n) (list_any (clashes e) es) none)
] refl any

-- an entry that clashes with none hasn't the name of one in SysDir
own_apart : (own : List ℕ) (e n : Naming) → is_own own n ≡ true → clashes e n ≡ false → is_own own e ≡ false
own_apart own e n is apart =
    let dir : n.dir ≡ sys_dir = same_fid n.dir sys_dir (and_left (is_fid n.dir sys_dir) (is_same_name n.name own) is) in
    let name : is_same_name n.name e.name ≡ is_same_name own e.name = same_trans n.name own e.name (and_right (is_fid n.dir sys_dir) (is_same_name n.name own) is) in
    let same : is_same_name e.name n.name ≡ is_same_name e.name own = same_sym e.name n.name ∙ name ∙ same_sym own e.name in
    ap (λ g. is_fid e.dir g && is_same_name e.name own) (sym dir)
    ∙ ap (λ b. is_fid e.dir n.dir && b) (sym same)
    ∙ or_false_right (is_fid e.fid n.fid) (is_fid e.dir n.dir && is_same_name e.name n.name) apart

-- ---- the laws
pub apart_entry_fits : ApartEntryFits
unfolding keeps_system
apart_entry_fits p d f name w enters apart = (λ k. in_root k && (alike (no_root k) (root_apart k) && alike (no_own k) (own_name_apart k)))
  where
    root : Known sys_dir (record { dir = d; name = name; fid = f })
    root = known (lives (sights p)) sys_dir (record { dir = d; name = name; fid = f }) [] (namings (entries (read_as p).files)) (read_entries_are_kept p) w.root_named apart

    own : Known disk_descriptor (record { dir = d; name = name; fid = f })
    own = known (lives (sights p)) disk_descriptor (record { dir = d; name = name; fid = f }) [] (namings (entries (read_as p).files)) (read_entries_are_kept p) w.descriptor_named apart

    root_apart : is_own sys_dir_name (record { dir = d; name = name; fid = f }) ≡ false
    root_apart = own_apart sys_dir_name (record { dir = d; name = name; fid = f }) root.it (sym (fits_root root.it root.fits_there) ∙ root.of) root.apart

    own_name_apart : is_own descriptor_name (record { dir = d; name = name; fid = f }) ≡ false
    own_name_apart = own_apart descriptor_name (record { dir = d; name = name; fid = f }) own.it (sym (fits_own own.it own.fits_there) ∙ own.of) own.apart

    no_root : is_fid f sys_dir ≡ false
    no_root = or_false_left (is_fid f sys_dir) (is_fid f disk_descriptor) enters.no_system

    no_own : is_fid f disk_descriptor ≡ false
    no_own = or_false_right (is_fid f sys_dir) (is_fid f disk_descriptor) enters.no_system

    in_root : (not (is_directory f) || is_fid d sys_dir) ≡ true
    in_root = by (is_directory f) refl
      where
        by : (b : Bool) → is_directory f ≡ b → (not b || is_fid d sys_dir) ≡ true
        by false is = refl
        by true is = enters.in_root is

pub apart_entry_may_be_entered : ApartEntryMayBeEntered
apart_entry_may_be_entered p d f name w live enters apart = record { lives = live; fits = apart_entry_fits p d f name w enters apart; apart = apart }
