-- What a formatted pack is read as: SysDir and its slots, and the words of DiskDescriptor.
use Rattle.std.proofs.Common.{◌≡◌, ℕ, true, not, cond, List, [], ◌∷◌, ◌++◌, Option, Some, None, refl, sym, ap, subst, ◌∙◌, arith}
use Rattle.std.specs.List.{list_any}
use Rattle.std.specs.Option.{option_map}
use Rattle.std.specs.FinMap.{find, get-from_entries, get-retain_keys, from_entries, entries, same_map}
use Rattle.laws_hint.specs.alto_words.specs.declared.fid.Fid.{Fid}
use Rattle.laws_hint.specs.alto_words.specs.Fid.{fid_cmp, is_fid, sys_dir, disk_descriptor}
use Rattle.laws_hint.specs.alto_words.specs.Names.{is_stored_name}
use Rattle.laws_hint.specs.disk_records.specs.declared.shape.Shape.{Shape}
use Rattle.laws_hint.specs.pack_model.specs.reading.Bytes.{bytes_of}
use Rattle.laws_hint.specs.pack_model.specs.reading.Files.{first, lives}
use Rattle.laws_hint.specs.pack_model.specs.reading.Sights.{Sight}
use Rattle.laws_hint.specs.pack_model.specs.reading.Slots.{Reads, IsEven, SlotsReachEnd, slots_after, slot_at, is_entry}
use Rattle.laws_hint.specs.pack_model.specs.reading.SlotWords.{entry_words, space_words}
use Rattle.laws_hint.specs.pack_model.specs.reading.Leaders.{Leader}
use Rattle.laws_hint.specs.pack_model.specs.reading.Stored.{stored_file}
use Rattle.laws_hint.specs.pack_model.specs.reading.Bodies.{File, found, file_of, described, is_described}
use Rattle.laws_hint.specs.pack_model.specs.reading.Namings.{sys_dir_name, descriptor_name, tidied, files_kept, is_kept, keeps_system, namings, AllKept}
use Rattle.laws_hint.specs.pack_model.specs.reading.Model.{IsNamed, read_sights}
use Rattle.laws_hint.specs.pack_model.specs.states.Whole.{TidySights}
use Rattle.laws_hint.specs.pack_model.specs.sessions.Format.{format_slots}
use Rattle.laws_hint.specs.pack_laws.proofs.Keys.{fid_total, fid_same}
use Rattle.laws_hint.specs.pack_laws.proofs.Mapping.{entries-from_entries}
use Rattle.laws_hint.specs.pack_laws.proofs.Uses.{file_by, found_is}
use Rattle.laws_format.specs.Empty.{empty_items, empty_root}
use Rattle.laws_format.proofs.inside.Living.{no_leader, root_leader_is, root_read}
use Rattle.laws_format.proofs.inside.Shown.{by_file, root_bytes, root_leader, shown}

-- ---- SysDir's slots
even_bytes : (words : List ℕ) → IsEven (bytes_of words)
even_bytes [] = IsEven.none
even_bytes (w ∷ words) = IsEven.two (even_bytes words)

pub root_slots : SlotsReachEnd root_bytes
unfolding is_entry is_stored_name
root_slots = record {
  even = even_bytes format_slots;
  items = empty_items;
  reads =
      Reads.next {w = entry_words sys_dir 1 sys_dir_name} {rest = entry_words disk_descriptor 3 descriptor_name ++ space_words 231} refl (record { some = omega arith; most = omega arith; first = refl; reads = refl; size = refl })
      (Reads.next {w = entry_words disk_descriptor 3 descriptor_name} {rest = space_words 231} refl (record { some = omega arith; most = omega arith; first = refl; reads = refl; size = refl })
      (Reads.next {w = space_words 231} {rest = []} refl (record { some = omega arith; most = omega arith; first = refl; reads = refl; size = refl })
      Reads.none));
}

-- SysDir with such a leader and these bytes
root_body : (l : Leader) → file_of sys_dir (record { leader = l; bytes = root_bytes }) ≡ record { leader = l; body = (empty_root 0).body }
unfolding slots_after slot_at is_entry is_stored_name
root_body l = refl

-- ---- the files
abbrev pub root_entries : ℕ → List (Fid × File)
root_entries moment = (sys_dir, empty_root moment) ∷ []

abbrev kept_if : Fid → Option File → Option File
kept_if f r = cond (is_described f) r None

module _ (moment : ℕ) (b : ℕ → List ℕ) (k frees : ℕ) where
  abbrev ss : List Sight
  ss = shown moment b k frees

  root_by : file_by ss sys_dir ≡ Some (empty_root moment)
  root_by =
      ap (option_map (λ l. file_of sys_dir (stored_file ss sys_dir l))) (root_leader_is moment b k frees)
      ∙ ap (λ bytes. Some (file_of sys_dir (record { leader = root_leader moment; bytes = bytes }))) (root_read moment b k frees)
      ∙ ap Some (root_body (root_leader moment))

  abbrev Described : Fid → Type 0
  Described f = kept_if f (file_by ss f) ≡ find fid_cmp f (root_entries moment)

  pub described_is : described ss ≡ from_entries (root_entries moment)
  described_is = same_map fid_total fid_same (described ss) (from_entries (root_entries moment)) (λ f.
      get-retain_keys (found ss) is_described f (λ x e. ap is_described (sym (fid_same f x e)))
      ∙ ap (kept_if f) (found_is ss f)
      ∙ by_file f (Described f)
      (λ e. subst Described (sym e) root_by)
      (λ e. subst Described (sym e) refl)
      (λ x y. ap (λ r. kept_if f (option_map (λ l. file_of f (stored_file ss f l)) r)) (no_leader moment b k frees f x y) ∙ ap (λ t. cond (not t) None None) y ∙ ap (λ t. cond t (Some (empty_root moment)) None) (sym x))
      ∙ sym (get-from_entries fid_total (root_entries moment) f))

  described_entries : entries (described ss) ≡ root_entries moment
  described_entries = ap entries described_is ∙ entries-from_entries fid_total fid_same (root_entries moment) tt

  pub files_are : (shape : Shape) → (read_sights shape ss).files ≡ from_entries (root_entries moment)
  unfolding read_sights tidied keeps_system first
  files_are shape = ap (λ es. from_entries (files_kept (is_kept (lives ss)) [] es)) described_entries

  pub entries_are : (shape : Shape) → entries (read_sights shape ss).files ≡ root_entries moment
  entries_are shape = ap entries (files_are shape) ∙ entries-from_entries fid_total fid_same (root_entries moment) tt

  pub named_by : (shape : Shape) (f : Fid) → list_any (λ n. is_fid n.fid f) (namings (root_entries moment)) ≡ true → IsNamed (read_sights shape ss) f
  named_by shape f is = ap (λ es. list_any (λ n. is_fid n.fid f) (namings es)) (entries_are shape) ∙ is

  pub tidy_shown : TidySights ss
  unfolding keeps_system first
  tidy_shown = subst (λ es. AllKept (is_kept (lives ss)) [] (namings es)) (sym described_entries) (refl, (refl, tt))
