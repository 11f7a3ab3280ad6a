-- The pack that formatting writes, as a model: SysDir and its slots, and DiskDescriptor.
use Rattle.std.proofs.Common.{◌≡◌, ℕ, true, not, cond, List, [], ◌∷◌, ◌++◌, Option, Some, None, refl, sym, ap, subst, ◌∙◌, arith}
use Rattle.std.specs.List.{list_any}
use Rattle.std.specs.Option.{option_map}
use Rattle.std.specs.FinMap.{find, get-from_entries, get-retain_keys, from_entries, entries, same_map}
use Rattle.pack_laws.specs.alto_words.specs.declared.fid.Fid.{Fid}
use Rattle.pack_laws.specs.alto_words.specs.Fid.{fid_cmp, is_fid, sys_dir, disk_descriptor}
use Rattle.pack_laws.specs.alto_words.specs.Names.{is_stored_name}
use Rattle.pack_laws.specs.pack_model.specs.reading.Bytes.{bytes_of}
use Rattle.pack_laws.specs.pack_model.specs.reading.Files.{first, joined, most_pages, file_bytes, lives}
use Rattle.pack_laws.specs.pack_model.specs.reading.Slots.{Reads, IsEven, SlotsReachEnd, slots_after, slot_at, is_entry}
use Rattle.pack_laws.specs.pack_model.specs.reading.Slots.Item.{space, entry}
use Rattle.pack_laws.specs.pack_model.specs.reading.SlotWords.{entry_words, space_words}
use Rattle.pack_laws.specs.pack_model.specs.reading.Stored.{stored_file}
use Rattle.pack_laws.specs.pack_model.specs.reading.Bodies.{File, found, file_of, described, is_described}
use Rattle.pack_laws.specs.pack_model.specs.reading.Bodies.Body.{items_of}
use Rattle.pack_laws.specs.pack_model.specs.reading.Namings.{sys_dir_name, descriptor_name, tidied, files_kept, is_kept, keeps_system, namings, AllKept}
use Rattle.pack_laws.specs.pack_model.specs.reading.Model.{IsNamed, read_sights}
use Rattle.pack_laws.specs.pack_model.specs.states.Whole.{TidySights, Fits}
use Rattle.pack_laws.specs.pack_model.specs.sessions.Format.{format_slots}
use Rattle.pack_laws.proofs.Keys.{fid_total, fid_same}
use Rattle.pack_laws.proofs.Mapping.{entries-from_entries}
use Rattle.pack_laws.proofs.Uses.{file_by, found_is}
use Rattle.pack_vectors.proofs.FormattedFiles.{root_leader, root_bytes, fresh, by_file, no_leader}
use Rattle.pack_vectors.proofs.Shapes.{small}

-- ---- SysDir
abbrev pub root_file : File
root_file = record { leader = root_leader; body = items_of (entry sys_dir sys_dir_name ∷ entry disk_descriptor descriptor_name ∷ space 231 ∷ []) }

abbrev pub root_entries : List (Fid × File)
root_entries = (sys_dir, root_file) ∷ []

abbrev kept_if : Fid → Option File → Option File
kept_if f r = cond (is_described f) r None

root_described : kept_if sys_dir (file_by fresh sys_dir) ≡ find fid_cmp sys_dir root_entries
unfolding first joined most_pages file_bytes slots_after slot_at is_entry is_stored_name
root_described = refl

pub described_is : described fresh ≡ from_entries root_entries
described_is = same_map fid_total fid_same (described fresh) (from_entries root_entries) (λ f.
    get-retain_keys (found fresh) is_described f (λ x e. ap is_described (sym (fid_same f x e)))
    ∙ ap (kept_if f) (found_is fresh f)
    ∙ by_file f (kept_if f (file_by fresh f) ≡ find fid_cmp f root_entries)
    (λ e. subst (λ g. kept_if g (file_by fresh g) ≡ find fid_cmp g root_entries) (sym e) root_described)
    (λ e. subst (λ g. kept_if g (file_by fresh g) ≡ find fid_cmp g root_entries) (sym e) refl)
    (λ a b. ap (λ r. kept_if f (option_map (λ l. file_of f (stored_file fresh f l)) r)) (no_leader f a b) ∙ ap (λ t. cond (not t) None None) b ∙ ap (λ t. cond t (Some root_file) None) (sym a))
    ∙ sym (get-from_entries fid_total root_entries f))

described_entries : entries (described fresh) ≡ root_entries
described_entries = ap entries described_is ∙ entries-from_entries fid_total fid_same root_entries tt

pub files_are : (read_sights small fresh).files ≡ from_entries root_entries
unfolding read_sights tidied keeps_system first
files_are = ap (λ es. from_entries (files_kept (is_kept (lives fresh)) [] es)) described_entries

entries_are : entries (read_sights small fresh).files ≡ root_entries
entries_are = ap entries files_are ∙ entries-from_entries fid_total fid_same root_entries tt

pub named_by : (f : Fid) → list_any (λ n. is_fid n.fid f) (namings root_entries) ≡ true → IsNamed (read_sights small fresh) f
named_by f is = ap (λ es. list_any (λ n. is_fid n.fid f) (namings es)) entries_are ∙ is

pub tidy_fresh : TidySights fresh
unfolding keeps_system first
tidy_fresh = subst (λ es. AllKept (is_kept (lives fresh)) [] (namings es)) (sym described_entries) (refl, (refl, tt))

even_bytes : (words : List ℕ) → IsEven (bytes_of words)
even_bytes [] = IsEven.none
even_bytes (w ∷ words) = IsEven.two (even_bytes words)

pub root_is_read : file_bytes fresh sys_dir ≡ root_bytes
unfolding first joined most_pages file_bytes
root_is_read = refl

pub root_slots : SlotsReachEnd root_bytes
unfolding is_entry is_stored_name
root_slots = record {
  even = even_bytes format_slots;
  items = entry sys_dir sys_dir_name ∷ entry disk_descriptor descriptor_name ∷ space 231 ∷ [];
  reads =
      Reads.next {w = entry_words sys_dir 1 sys_dir_name} {rest = entry_words disk_descriptor 3 descriptor_name ++ space_words 231} refl (record { some = omega arith; most = omega arith; first = refl; reads = refl; size = refl })
      (Reads.next {w = entry_words disk_descriptor 3 descriptor_name} {rest = space_words 231} refl (record { some = omega arith; most = omega arith; first = refl; reads = refl; size = refl })
      (Reads.next {w = space_words 231} {rest = []} refl (record { some = omega arith; most = omega arith; first = refl; reads = refl; size = refl })
      Reads.none));
}

-- ---- DiskDescriptor
pub its_fits : Fits small (file_bytes fresh disk_descriptor)
unfolding first joined most_pages file_bytes
its_fits = record { says = record { disks = refl; cylinders = refl; heads = refl; sectors = refl; table = refl }; size = refl }

pub last_is : (read_sights small fresh).last ≡ 2
unfolding read_sights first joined most_pages file_bytes
last_is = refl
