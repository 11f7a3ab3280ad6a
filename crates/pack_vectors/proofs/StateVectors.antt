-- The pack that formatting writes is whole, tidy, sound and clean, and its hints are true.
use Rattle.std.proofs.Common.{◌≡◌, ℕ, ◌≤◌, true, false, not, List, [], ◌∷◌, Some, refl, sym, ap, subst, ◌∙◌, arith}
use Rattle.std.proofs.lemmas.List.Elements.{All-cons, All-nil}
use Rattle.std.specs.Prelude.{◌&&◌, All, map, take, drop, get_or}
use Rattle.std.specs.FinMap.{get, get-from_entries}
use Rattle.pack_laws.specs.alto_words.specs.declared.fid.Fid.{Fid}
use Rattle.pack_laws.specs.alto_words.specs.Fid.{is_directory, serial_of, sys_dir, disk_descriptor}
use Rattle.pack_laws.specs.alto_words.specs.Names.{is_stored_name}
use Rattle.pack_laws.specs.disk_records.specs.Words.{word}
use Rattle.pack_laws.specs.pack_model.specs.reading.Bytes.{words_of}
use Rattle.pack_laws.specs.pack_model.specs.reading.Sights.{Sight}
use Rattle.pack_laws.specs.pack_model.specs.reading.Sights.Sight.{hidden, stray}
use Rattle.pack_laws.specs.pack_model.specs.reading.Files.{first, joined, most_pages, file_bytes, lives, numbered}
use Rattle.pack_laws.specs.pack_model.specs.reading.Slots.{SlotsReachEnd, slots_after, slot_at, is_entry}
use Rattle.pack_laws.specs.pack_model.specs.reading.Slots.Item.{space, entry}
use Rattle.pack_laws.specs.pack_model.specs.reading.SlotWords.{SlotAt, slots_at}
use Rattle.pack_laws.specs.pack_model.specs.reading.Bodies.{items_in}
use Rattle.pack_laws.specs.pack_model.specs.reading.Namings.{sys_dir_name, descriptor_name}
use Rattle.pack_laws.specs.pack_model.specs.reading.Model.{IsNamed, read_sights, descriptor_words}
use Rattle.pack_laws.specs.pack_model.specs.states.InUse.{in_use, is_good, is_available, free_sector_count}
use Rattle.pack_laws.specs.pack_model.specs.hints.Links.{HasLinks, IsTrueAddress}
use Rattle.pack_laws.specs.pack_model.specs.hints.Tables.{words_of_bits, HintsTrue}
use Rattle.pack_laws.specs.pack_model.specs.states.Whole.{WholeSights, TidySights}
use Rattle.pack_laws.specs.pack_model.specs.states.Sound.{Sound, Clean, mark_of, mark_clean}
use Rattle.pack_laws.specs.pack_model.specs.sessions.Format.{formatted}
use Rattle.pack_laws.proofs.Keys.{fid_total}
use Rattle.pack_laws.proofs.Uses.{used_is}
use Rattle.pack_vectors.proofs.PackVectors.{formatted_sights, formatted_links}
use Rattle.pack_vectors.proofs.FormattedFiles.{root_leader, root_bytes, fresh, each, whole_file, by_living}
use Rattle.pack_vectors.proofs.Shapes.{small}
use Rattle.pack_vectors.proofs.FormattedModel.{root_file, root_entries, files_are, named_by, tidy_fresh, root_is_read, root_slots, its_fits, last_is}

-- ---- the pack
pub whole_fresh : WholeSights small fresh
unfolding first
whole_fresh = record {
  files = whole_file;
  used = each (λ i s. s ≡ stray → ⊥) (λ e. cc) (λ e. cc) (λ e. cc) (λ e. cc) (λ e. cc) (λ i e. cc) (λ i e. cc);
  directories = λ d is dir. by_living d (SlotsReachEnd (file_bytes fresh d)) is
      (λ e. subst (λ g. SlotsReachEnd (file_bytes fresh g)) (sym e) (subst SlotsReachEnd (sym root_is_read) root_slots))
      (λ e. let none : is_directory d ≡ false = ap is_directory e in absurd cc);
  root = (root_leader, refl);
  root_named = named_by sys_dir refl;
  descriptor_named = named_by disk_descriptor refl;
  descriptor_lives = refl;
  descriptor_fits = its_fits;
  last = λ f is. by_living f (serial_of f ≤ (read_sights small fresh).last) is
      (λ e. let s : serial_of f ≡ 1 = ap serial_of e in let l = last_is in omega arith)
      (λ e. let s : serial_of f ≡ 2 = ap serial_of e in let l = last_is in omega arith);
}

named_fresh : (f : Fid) → lives fresh f ≡ true → IsNamed (read_sights small fresh) f
named_fresh f is = by_living f (IsNamed (read_sights small fresh) f) is
    (λ e. subst (IsNamed (read_sights small fresh)) (sym e) (named_by sys_dir refl))
    (λ e. subst (IsNamed (read_sights small fresh)) (sym e) (named_by disk_descriptor refl))

pub sound_fresh : Sound (formatted small 1 1000)
sound_fresh = record {
  whole = subst (WholeSights small) (sym formatted_sights) whole_fresh;
  tidy = subst TidySights (sym formatted_sights) tidy_fresh;
  named = subst (λ ss. (f : Fid) → lives ss f ≡ true → IsNamed (read_sights small ss) f) (sym formatted_sights) named_fresh;
}

pub clean_sights : (lives fresh disk_descriptor ≡ true) × (mark_of fresh ≡ mark_clean)
unfolding first joined most_pages file_bytes
clean_sights = (refl, refl)

pub clean_fresh : Clean (formatted small 1 1000)
clean_fresh =
    let both = subst (λ ss. (lives ss disk_descriptor ≡ true) × (mark_of ss ≡ mark_clean)) (sym formatted_sights) clean_sights in
    record { lives = both.0; mark = both.1 }

-- ---- its hints
page_links : (i : ℕ) → in_use small fresh (i, get_or fresh i hidden) ≡ true → HasLinks (formatted small 1 1000) i
page_links = each (λ i s. in_use small fresh (i, s) ≡ true → HasLinks (formatted small 1 1000) i)
    (λ e. absurd cc)
    (λ e. formatted_links.0)
    (λ e. formatted_links.1)
    (λ e. formatted_links.2)
    (λ e. formatted_links.3)
    (λ i e. absurd cc)
    (λ i e. absurd cc)

-- the entries of a directory, each with its address, by what its sectors show
abbrev addresses : List Sight → Fid → Type 0
addresses ss d = All (λ s. IsTrueAddress ss s.item s.address) (slots_at (words_of (file_bytes ss d)) 0 (items_in (get (read_sights small ss).files d)))

root_found : get (read_sights small fresh).files sys_dir ≡ Some root_file
root_found = ap (λ m. get m sys_dir) files_are ∙ get-from_entries fid_total root_entries sys_dir

abbrev slot_1 : SlotAt
slot_1 = record { place = 0; item = entry sys_dir sys_dir_name; address = 1 }

abbrev slot_2 : SlotAt
slot_2 = record { place = 10; item = entry disk_descriptor descriptor_name; address = 3 }

abbrev slot_3 : SlotAt
slot_3 = record { place = 24; item = space 231; address = 0 }

abbrev root_addresses : List SlotAt
root_addresses = slot_1 ∷ slot_2 ∷ slot_3 ∷ []

root_at : slots_at (words_of root_bytes) 0 (items_in (Some root_file)) ≡ root_addresses
unfolding slots_at
root_at = refl

abbrev is_true : SlotAt → Type 0
is_true s = IsTrueAddress fresh s.item s.address

root_true : All is_true root_addresses
unfolding first
root_true = All-cons is_true slot_1 (slot_2 ∷ slot_3 ∷ []) refl (All-cons is_true slot_2 (slot_3 ∷ []) refl (All-cons is_true slot_3 [] tt (All-nil is_true)))

root_hints : addresses fresh sys_dir
root_hints = subst (All is_true) (sym ((λ i. slots_at (words_of (root_is_read i)) 0 (items_in (root_found i))) ∙ root_at)) root_true

entry_hints : (d : Fid) → lives fresh d ≡ true → is_directory d ≡ true → addresses fresh d
entry_hints d is dir = by_living d (addresses fresh d) is
    (λ e. subst (addresses fresh) (sym e) root_hints)
    (λ e. let none : is_directory d ≡ false = ap is_directory e in absurd cc)

table_true : take 3 (drop 16 (descriptor_words fresh)) ≡ words_of_bits 3 (map (λ e. not (is_available small fresh e)) (numbered 0 fresh))
unfolding first joined most_pages file_bytes slots_after slot_at is_entry is_stored_name
table_true = sym (λ i. words_of_bits 3 (map (λ e. not (is_good e.1 && not (used_is small fresh e i))) (numbered 0 fresh)))

free_true : word (descriptor_words fresh) 7 ≡ free_sector_count fresh
unfolding first joined most_pages file_bytes
free_true = refl

hints_fresh : HintsTrue (formatted small 1 1000)
hints_fresh = record {
  links = record {
    pages = subst (λ ss. (i : ℕ) → in_use small ss (i, get_or ss i hidden) ≡ true → HasLinks (formatted small 1 1000) i) (sym formatted_sights) page_links;
    entries = subst (λ ss. (d : Fid) → lives ss d ≡ true → is_directory d ≡ true → addresses ss d) (sym formatted_sights) entry_hints;
  };
  table = subst (λ ss. take 3 (drop 16 (descriptor_words ss)) ≡ words_of_bits 3 (map (λ e. not (is_available small ss e)) (numbered 0 ss))) (sym formatted_sights) table_true;
  free = subst (λ ss. word (descriptor_words ss) 7 ≡ free_sector_count ss) (sym formatted_sights) free_true;
}
