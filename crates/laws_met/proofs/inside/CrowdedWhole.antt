-- The pack whose SysDir has two pages is whole.
use Rattle.std.proofs.Common.{◌≡◌, ℕ, zero, suc, ◌≤◌, Bool, true, false, List, [], ◌∷◌, ◌++◌, refl, sym, ap, subst, ◌∙◌, arith, replicate}
use Rattle.std.specs.List.{list_any}
use Rattle.std.specs.Option.{is_some}
use Rattle.std.specs.Prelude.{drop, take}
use Rattle.laws_steps.specs.alto_words.specs.declared.fid.Fid.{Fid}
use Rattle.laws_steps.specs.alto_words.specs.Fid.{disk_descriptor, is_directory, is_fid, ordinary_fid, serial_of, sys_dir}
use Rattle.laws_steps.specs.alto_words.specs.Names.{is_stored_name}
use Rattle.laws_steps.specs.disk_records.specs.Addresses.{real_of}
use Rattle.laws_steps.specs.disk_records.specs.Labels.{in_range, is_free}
use Rattle.laws_steps.specs.pack_model.specs.operations.Step.{new_leader}
use Rattle.laws_steps.specs.pack_model.specs.reading.Bytes.{bytes_of, words_of}
use Rattle.laws_steps.specs.pack_model.specs.reading.Files.{file_bytes, first, joined, lives, most_pages}
use Rattle.laws_steps.specs.pack_model.specs.reading.Leaders.{is_readable, leader_name, leader_of}
use Rattle.laws_steps.specs.pack_model.specs.reading.Model.{IsNamed, read_sights}
use Rattle.laws_steps.specs.pack_model.specs.reading.Namings.{descriptor_name, keeps_system, namings, sys_dir_name}
use Rattle.laws_steps.specs.pack_model.specs.reading.Sights.{Sight, sight, sights, sights_from}
use Rattle.laws_steps.specs.pack_model.specs.reading.Sights.Sight.{free, hidden, holds, leads}
use Rattle.laws_steps.specs.pack_model.specs.reading.Slots.{IsEven, SlotsReachEnd, all_words, is_entry, slot_at, slots, slots_after}
use Rattle.laws_steps.specs.pack_model.specs.sessions.Descriptor.{descriptor_text}
use Rattle.laws_steps.specs.pack_model.specs.states.Sound.{mark_open}
use Rattle.laws_steps.specs.pack_model.specs.states.Whole.{FileWhole, Fits, Whole, WholeSights}
use Rattle.laws_steps.specs.pack_model.specs.states.Whole.FileWhole.{absent, present}
use Rattle.laws_steps.specs.pack_laws.proofs.ByLists.{read_by, read_list}
use Rattle.laws_steps.specs.laws_record.proofs.slots.Laws.{reads_to_the_end}
use Rattle.laws_met.proofs.inside.Laid.{Each, and_one, has_pages, headless, leaderless, leads_alone, nobody, of_each, pageless, spoken, unlike_any}
use Rattle.laws_met.specs.Crowded.{crowded, file_i, letters, name_i, root_words}
use Rattle.laws_met.specs.Peopled.{small}

-- ---- what its sectors show
abbrev pub eight_shown : ℕ → ℕ → ℕ → List Sight
eight_shown zero serial c = []
eight_shown (suc n) serial c = leads (ordinary_fid serial) true (new_leader (letters c) 1000) ∷ holds (ordinary_fid serial) 0 [] ∷ eight_shown n (suc serial) (suc c)

abbrev pub shown : List Sight
shown =
    hidden
    ∷ leads sys_dir true (new_leader sys_dir_name 1000)
    ∷ holds sys_dir 0 (take 512 (bytes_of root_words))
    ∷ leads disk_descriptor true (new_leader descriptor_name 1000)
    ∷ holds disk_descriptor 0 (bytes_of (descriptor_text small 11 mark_open []))
    ∷ (eight_shown 8 3 97 ++ holds sys_dir 1 (drop 512 (bytes_of root_words)) ∷ leads file_i true (new_leader name_i 1000) ∷ holds file_i 0 [] ∷ replicate 24 free)

pub shown_are : sights crowded ≡ shown
unfolding sights_from sight real_of in_range is_free leader_of leader_name is_readable is_stored_name
shown_are = refl

-- ---- its files
root_whole : FileWhole shown sys_dir
unfolding most_pages
root_whole = present 1 (new_leader sys_dir_name 1000) ((2, take 512 (bytes_of root_words)) ∷ (21, drop 512 (bytes_of root_words)) ∷ []) (leads_alone shown sys_dir 1 (new_leader sys_dir_name 1000) refl refl) (has_pages shown sys_dir ((2, take 512 (bytes_of root_words)) ∷ (21, drop 512 (bytes_of root_words)) ∷ []) (refl, (refl, tt)) refl) (refl, refl) (omega arith)

its_whole : FileWhole shown disk_descriptor
unfolding most_pages
its_whole = present 3 (new_leader descriptor_name 1000) ((4, bytes_of (descriptor_text small 11 mark_open [])) ∷ []) (leads_alone shown disk_descriptor 3 (new_leader descriptor_name 1000) refl refl) (has_pages shown disk_descriptor ((4, bytes_of (descriptor_text small 11 mark_open [])) ∷ []) (refl, tt) refl) refl (omega arith)

whole_3 : FileWhole shown (ordinary_fid 3)
unfolding most_pages
whole_3 = present 5 (new_leader (letters 97) 1000) ((6, []) ∷ []) (leads_alone shown (ordinary_fid 3) 5 (new_leader (letters 97) 1000) refl refl) (has_pages shown (ordinary_fid 3) ((6, []) ∷ []) (refl, tt) refl) refl (omega arith)

whole_4 : FileWhole shown (ordinary_fid 4)
unfolding most_pages
whole_4 = present 7 (new_leader (letters 98) 1000) ((8, []) ∷ []) (leads_alone shown (ordinary_fid 4) 7 (new_leader (letters 98) 1000) refl refl) (has_pages shown (ordinary_fid 4) ((8, []) ∷ []) (refl, tt) refl) refl (omega arith)

whole_5 : FileWhole shown (ordinary_fid 5)
unfolding most_pages
whole_5 = present 9 (new_leader (letters 99) 1000) ((10, []) ∷ []) (leads_alone shown (ordinary_fid 5) 9 (new_leader (letters 99) 1000) refl refl) (has_pages shown (ordinary_fid 5) ((10, []) ∷ []) (refl, tt) refl) refl (omega arith)

whole_6 : FileWhole shown (ordinary_fid 6)
unfolding most_pages
whole_6 = present 11 (new_leader (letters 100) 1000) ((12, []) ∷ []) (leads_alone shown (ordinary_fid 6) 11 (new_leader (letters 100) 1000) refl refl) (has_pages shown (ordinary_fid 6) ((12, []) ∷ []) (refl, tt) refl) refl (omega arith)

whole_7 : FileWhole shown (ordinary_fid 7)
unfolding most_pages
whole_7 = present 13 (new_leader (letters 101) 1000) ((14, []) ∷ []) (leads_alone shown (ordinary_fid 7) 13 (new_leader (letters 101) 1000) refl refl) (has_pages shown (ordinary_fid 7) ((14, []) ∷ []) (refl, tt) refl) refl (omega arith)

whole_8 : FileWhole shown (ordinary_fid 8)
unfolding most_pages
whole_8 = present 15 (new_leader (letters 102) 1000) ((16, []) ∷ []) (leads_alone shown (ordinary_fid 8) 15 (new_leader (letters 102) 1000) refl refl) (has_pages shown (ordinary_fid 8) ((16, []) ∷ []) (refl, tt) refl) refl (omega arith)

whole_9 : FileWhole shown (ordinary_fid 9)
unfolding most_pages
whole_9 = present 17 (new_leader (letters 103) 1000) ((18, []) ∷ []) (leads_alone shown (ordinary_fid 9) 17 (new_leader (letters 103) 1000) refl refl) (has_pages shown (ordinary_fid 9) ((18, []) ∷ []) (refl, tt) refl) refl (omega arith)

whole_10 : FileWhole shown (ordinary_fid 10)
unfolding most_pages
whole_10 = present 19 (new_leader (letters 104) 1000) ((20, []) ∷ []) (leads_alone shown (ordinary_fid 10) 19 (new_leader (letters 104) 1000) refl refl) (has_pages shown (ordinary_fid 10) ((20, []) ∷ []) (refl, tt) refl) refl (omega arith)

whole_11 : FileWhole shown (ordinary_fid 11)
unfolding most_pages
whole_11 = present 22 (new_leader (letters 105) 1000) ((23, []) ∷ []) (leads_alone shown (ordinary_fid 11) 22 (new_leader (letters 105) 1000) refl refl) (has_pages shown (ordinary_fid 11) ((23, []) ∷ []) (refl, tt) refl) refl (omega arith)

-- ---- each of them
each_file : (P : Fid → Type 0) → P sys_dir → P disk_descriptor → P (ordinary_fid 3) → P (ordinary_fid 4) → P (ordinary_fid 5) → P (ordinary_fid 6) → P (ordinary_fid 7) → P (ordinary_fid 8) → P (ordinary_fid 9) → P (ordinary_fid 10) → P file_i → Each P (spoken shown)
each_file P r z a b c d e f g h i =
    and_one r (and_one r (and_one z (and_one z (and_one a (and_one a (and_one b (and_one b (and_one c (and_one c (and_one d (and_one d (and_one e (and_one e (and_one f (and_one f (and_one g (and_one g (and_one h (and_one h (and_one r (and_one i (and_one i nobody))))))))))))))))))))))

whole_files : (f : Fid) → FileWhole shown f
whole_files f = by (list_any (is_fid f) (spoken shown)) refl
  where
    by : (b : Bool) → list_any (is_fid f) (spoken shown) ≡ b → FileWhole shown f
    by true is = of_each (FileWhole shown) (spoken shown) (each_file (FileWhole shown) root_whole its_whole whole_3 whole_4 whole_5 whole_6 whole_7 whole_8 whole_9 whole_10 whole_11) f is
    by false is = absent (headless shown f is) (pageless shown f is)

-- one that lives is among them
of_living : (P : Fid → Type 0) → Each P (spoken shown) → (f : Fid) → lives shown f ≡ true → P f
of_living P h f living = by (list_any (is_fid f) (spoken shown)) refl
  where
    by : (b : Bool) → list_any (is_fid f) (spoken shown) ≡ b → P f
    by true is = of_each P (spoken shown) h f is
    by false is = let dead : lives shown f ≡ false = ap is_some (leaderless shown f is) in absurd cc

-- ---- its directory
even_bytes : (words : List ℕ) → IsEven (bytes_of words)
even_bytes [] = IsEven.none
even_bytes (w ∷ words) = IsEven.two (even_bytes words)

root_bytes : file_bytes shown sys_dir ≡ bytes_of root_words
unfolding first joined most_pages file_bytes
root_bytes = refl

all_read : all_words (slots (words_of (bytes_of root_words))) ≡ 511
unfolding slots_after slot_at is_entry is_stored_name
all_read = refl

root_reaches : SlotsReachEnd (file_bytes shown sys_dir)
root_reaches = subst SlotsReachEnd (sym root_bytes) (record { even = even_bytes root_words; items = slots (words_of (bytes_of root_words)); reads = (reads_to_the_end (words_of (bytes_of root_words))).1 all_read })

abbrev reaches : Fid → Type 0
reaches d = is_directory d ≡ true → SlotsReachEnd (file_bytes shown d)

-- ---- DiskDescriptor
its_fits : Fits small (file_bytes shown disk_descriptor)
unfolding first joined most_pages file_bytes
its_fits = record { says = record { disks = refl; cylinders = refl; heads = refl; sectors = refl; table = refl }; size = refl }

last_is : (read_sights small shown).last ≡ 11
unfolding read_sights first joined most_pages file_bytes
last_is = refl

abbrev given : Fid → Type 0
given f = serial_of f ≤ (read_sights small shown).last

given_by : (f : Fid) → serial_of f ≤ 11 → given f
given_by f few = subst (λ n. serial_of f ≤ n) (sym last_is) few

-- ---- the entries of the system files
entered_by_lists : (list_any (λ n. is_fid n.fid sys_dir) (namings (read_by shown)) ≡ true) × (list_any (λ n. is_fid n.fid disk_descriptor) (namings (read_by shown)) ≡ true)
unfolding first joined most_pages file_bytes slots_after slot_at is_entry is_stored_name keeps_system
entered_by_lists = (refl, refl)

named : (f : Fid) → list_any (λ n. is_fid n.fid f) (namings (read_by shown)) ≡ true → IsNamed (read_sights small shown) f
named f is = ap (λ es. list_any (λ n. is_fid n.fid f) (namings es)) (read_list small shown) ∙ is

its_lives : lives shown disk_descriptor ≡ true
unfolding first
its_lives = refl

whole_shown : WholeSights small shown
whole_shown = record {
  files = whole_files;
  used = unlike_any shown refl;
  directories = of_living reaches (each_file reaches (λ e. root_reaches) (λ e. absurd cc) (λ e. absurd cc) (λ e. absurd cc) (λ e. absurd cc) (λ e. absurd cc) (λ e. absurd cc) (λ e. absurd cc) (λ e. absurd cc) (λ e. absurd cc) (λ e. absurd cc));
  root = (new_leader sys_dir_name 1000, refl);
  root_named = named sys_dir entered_by_lists.0;
  descriptor_named = named disk_descriptor entered_by_lists.1;
  descriptor_lives = its_lives;
  descriptor_fits = its_fits;
  last = of_living given (each_file given (given_by sys_dir (omega arith)) (given_by disk_descriptor (omega arith)) (given_by (ordinary_fid 3) (omega arith)) (given_by (ordinary_fid 4) (omega arith)) (given_by (ordinary_fid 5) (omega arith)) (given_by (ordinary_fid 6) (omega arith)) (given_by (ordinary_fid 7) (omega arith)) (given_by (ordinary_fid 8) (omega arith)) (given_by (ordinary_fid 9) (omega arith)) (given_by (ordinary_fid 10) (omega arith)) (given_by file_i (omega arith)));
}

pub whole : Whole crowded
whole = subst (WholeSights small) (sym shown_are) whole_shown
