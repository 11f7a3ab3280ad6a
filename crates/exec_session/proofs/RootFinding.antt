-- SysDir at its fixed address, and the entry of DiskDescriptor's name in it.
use Rattle.std.proofs.Common.{◌≡◌, ℕ, ◌==◌, ◌&&◌, Bool, true, false, List, Option, Some, None, refl, rules, sym, ◌∙◌, ap, eqb-true}
use Rattle.std.specs.Option.{is_some, option_map}
use Rattle.alto_words.specs.declared.fid.Fid.{Fid}
use Rattle.alto_words.specs.declared.wanted.Wanted.TheVariants.{Exact}
use Rattle.alto_words.specs.Fid.{disk_descriptor, is_fid, sys_dir}
use Rattle.disk_records.specs.Packs.{Pack, carried}
use Rattle.disk_records.specs.declared.records.Page.{Page}
use Rattle.directory.specs.Asked.{DirIsFound}
use Rattle.directory.specs.Found.{IsAbsent, IsLookedUp}
use Rattle.disk_descriptor.specs.Opening.{MayBeOpened}
use Rattle.directory.specs.laws_contents.proofs.pages.Laws.{carried_once_is_in_place}
use Rattle.directory.specs.laws_lookup.proofs.slots.Laws.{entry_at_is_the_entry_wanted}
use Rattle.directory.specs.laws_lookup.proofs.sources.Laws.{looked_up_file_is_found}
use Rattle.laws_operation.proofs.places.Laws.{file_lives_in_a_place}
use Rattle.directory.specs.pack_laws.proofs.Keys.{same_fid}
use Rattle.pack_model.specs.hints.Links.{dir_slots, dir_words}
use Rattle.pack_model.specs.hints.Misled.{leader_page}
use Rattle.pack_model.specs.reading.Lookup.{EntryAt, entered, entry_at}
use Rattle.pack_model.specs.reading.Namings.{descriptor_name}
use Rattle.pack_model.specs.reading.Sights.{sights}
use Rattle.pack_model.specs.reading.Slots.{slots}
use Rattle.pack_model.specs.reading.Versions.{Entered}
use Rattle.pack_model.specs.states.Sentences.{EachOnce}
use Rattle.page_seeking.specs.declared.refs.FileRef.{FileRef}
use Rattle.session_model.specs.Opening.{descriptor_entry, is_descriptor, is_root}
use Rattle.exec_session.specs.Found.{root_ref}

-- ---- sector 1
root_test : (x : Page) → (is_fid x.fid sys_dir && x.number == 0) ≡ true → (x.fid ≡ sys_dir) × (x.number ≡ 0)
root_test x e = by (is_fid x.fid sys_dir) (x.number == 0) refl refl e
  where
    by : (a b : Bool) → is_fid x.fid sys_dir ≡ a → (x.number == 0) ≡ b → (a && b) ≡ true → (x.fid ≡ sys_dir) × (x.number ≡ 0)
    by true true p q e = (same_fid x.fid sys_dir p, eqb-true x.number 0 q)
    by true false p q e = cc
    by false b p q e = cc

root_is : (c : Option Page) → is_root c ≡ true → c ≡ Some (leader_page sys_dir)
root_is None e = cc
root_is (Some x) e = let is = root_test x e in λ i. Some (record { fid = is.0 i; number = is.1 i })

pub root_carried : (p : Pack) → is_root (carried p 1) ≡ true → carried p 1 ≡ Some (leader_page sys_dir)
root_carried p e = root_is (carried p 1) e

-- ---- SysDir, where it is there
pub root_there : (p : Pack) → EachOnce (sights p) → is_root (carried p 1) ≡ true → DirIsFound p root_ref
root_there p once root = record {
  once = once;
  from = (refl, refl);
  directory = refl;
  living = file_lives_in_a_place p sys_dir ∙ ap is_some (carried_once_is_in_place p (leader_page sys_dir) 1 once (root_carried p root));
}

-- ---- the entry of DiskDescriptor's name
abbrev fid_of_entry : Option EntryAt → Option Fid
fid_of_entry None = None
fid_of_entry (Some e) = Some e.fid

fid_entered : (e : Option EntryAt) → option_map (λ (x : Entered). x.0) (option_map entered e) ≡ fid_of_entry e
fid_entered None = refl
fid_entered (Some e) = refl

entry_is : (p : Pack) → descriptor_entry p ≡ fid_of_entry (entry_at (Exact descriptor_name) (dir_slots p sys_dir))
entry_is p =
    ap (option_map (λ (x : Entered). x.0)) (sym (entry_at_is_the_entry_wanted (Exact descriptor_name) (dir_words p sys_dir) 0 (slots (dir_words p sys_dir))))
    ∙ fid_entered (entry_at (Exact descriptor_name) (dir_slots p sys_dir))

-- its full name, as its words are compared
pub fid_by_words : (f : Fid) → (f.high == 0 && (f.low == 2 && f.version == 1)) ≡ is_fid f disk_descriptor
fid_by_words f = search rules

-- with the name that was looked up
module _ (p : Pack) (own : List ℕ) (named : own ≡ descriptor_name) where
  entry_met : entry_at (Exact own) (dir_slots p sys_dir) ≡ entry_at (Exact descriptor_name) (dir_slots p sys_dir)
  entry_met = ap (λ n. entry_at (Exact n) (dir_slots p sys_dir)) named

  pub descriptor_absent : IsAbsent p sys_dir (Exact own) → is_descriptor (descriptor_entry p) ≡ false
  descriptor_absent absent = ap is_descriptor (entry_is p ∙ ap fid_of_entry (sym entry_met ∙ absent))

  pub descriptor_met : (found : FileRef × List ℕ) → IsLookedUp p sys_dir (Exact own) found → is_descriptor (descriptor_entry p) ≡ is_fid found.0.fid disk_descriptor
  descriptor_met found up =
      ap is_descriptor (entry_is p ∙ ap fid_of_entry (sym entry_met ∙ up.meant)) ∙ ap (λ (f : FileRef). is_fid f.fid disk_descriptor) (sym up.file)

  pub descriptor_may_open : (found : FileRef × List ℕ) → DirIsFound p root_ref → IsLookedUp p sys_dir (Exact own) found → is_fid found.0.fid disk_descriptor ≡ true → MayBeOpened p found.0
  descriptor_may_open found there up is = record {
    once = there.once;
    from = rw up.file (looked_up_file_is_found p sys_dir (Exact own) up.entry there.living there.directory up.meant);
    is_descriptor = same_fid found.0.fid disk_descriptor is;
  }
