-- The links and the addresses of a formatted pack are true.
use Rattle.std.proofs.Common.{◌≡◌, ℕ, zero, suc, ◌+◌, ◌<◌, true, false, cond, List, [], ◌∷◌, ◌++◌, length, refl, sym, ap, subst, ◌∙◌, arith, replicate, get_or, Some, inl, inr}
use Rattle.std.proofs.lemmas.List.Elements.{All-cons, All-nil}
use Rattle.std.specs.Prelude.{All, nat_lt}
use Rattle.std.specs.FinMap.{get, get-from_entries}
use Rattle.std.proofs.lemmas.Bool.{cases_eq, lt-ltb, lt-leb}
use Rattle.laws_hint.specs.alto_words.specs.declared.fid.Fid.{Fid}
use Rattle.laws_hint.specs.alto_words.specs.Fid.{is_directory, sys_dir, disk_descriptor}
use Rattle.laws_hint.specs.disk_records.specs.declared.shape.Shape.{Shape}
use Rattle.laws_hint.specs.disk_records.specs.Addresses.{real_of}
use Rattle.laws_hint.specs.disk_records.specs.Words.{word}
use Rattle.laws_hint.specs.disk_records.specs.Packs.{Pack, sector_at, no_sector}
use Rattle.laws_hint.specs.pack_model.specs.reading.Bytes.{words_of}
use Rattle.laws_hint.specs.pack_model.specs.reading.Files.{file_bytes, first, lives, place}
use Rattle.laws_hint.specs.pack_model.specs.reading.Sights.{Sight}
use Rattle.laws_hint.specs.pack_model.specs.reading.Sights.Sight.{hidden, holds}
use Rattle.laws_hint.specs.pack_model.specs.reading.Slots.Item.{space, entry}
use Rattle.laws_hint.specs.pack_model.specs.reading.SlotWords.{SlotAt, slots_at}
use Rattle.laws_hint.specs.pack_model.specs.reading.Bodies.{items_in}
use Rattle.laws_hint.specs.pack_model.specs.reading.Namings.{sys_dir_name, descriptor_name}
use Rattle.laws_hint.specs.pack_model.specs.reading.Model.{read_sights}
use Rattle.laws_hint.specs.pack_model.specs.states.InUse.{in_use}
use Rattle.laws_hint.specs.pack_model.specs.hints.Links.{IsTrueAddress, LinksTrue, PageLinks, link_to, next_link, no_link, previous_link}
use Rattle.laws_hint.specs.pack_model.specs.sessions.Descriptor.{data_pages}
use Rattle.laws_hint.specs.pack_model.specs.sessions.Format.{Written, format_next, format_page, format_pages, formatted, free_after_format, sectors_used, with_headers}
use Rattle.laws_hint.specs.pack_laws.proofs.Keys.{fid_total}
use Rattle.laws_format.specs.Empty.{empty_root}
use Rattle.laws_format.specs.Writing.{headed}
use Rattle.laws_format.proofs.inside.Living.{by_living, its_place, root_read}
use Rattle.laws_format.proofs.inside.Pages.{its_bytes, page_is_full, page_is_last, pages_laid}
use Rattle.laws_format.proofs.inside.Reading.{files_are, root_entries}
use Rattle.laws_format.proofs.inside.Shown.{each, root_bytes, sector_of, shown}
use Rattle.laws_format.proofs.inside.Sighting.{formatted_sights, pages_few}

-- the sector of each of DiskDescriptor's pages
pub page_headed : (shape : Shape) (number at n k : ℕ) (more : List Written) (j m a : ℕ) → m ≡ n + j → a ≡ at + j → j < k → get_or (with_headers shape number at (format_pages shape n k ++ more)) j no_sector ≡ headed shape number a (format_page shape m)
page_headed shape number at n zero more j m a e i l = absurd (omega arith)
page_headed shape number at n (suc k) more zero m a e i l = let x : n ≡ m = omega arith in let y : at ≡ a = omega arith in λ t. headed shape number (y t) (format_page shape (x t))
page_headed shape number at n (suc k) more (suc j) m a e i l = page_headed shape number (suc at) (suc n) k more j m a (omega arith) (omega arith) (omega arith)

-- SysDir's slots where they stand
abbrev slot_1 : SlotAt
slot_1 = record { place = 0; item = entry sys_dir sys_dir_name; address = 1 }

abbrev slot_2 : SlotAt
slot_2 = record { place = 10; item = entry disk_descriptor descriptor_name; address = 3 }

abbrev slot_3 : SlotAt
slot_3 = record { place = 24; item = space 231; address = 0 }

abbrev root_slots_at : List SlotAt
root_slots_at = slot_1 ∷ slot_2 ∷ slot_3 ∷ []

root_stands : (moment : ℕ) → slots_at (words_of root_bytes) 0 (items_in (Some (empty_root moment))) ≡ root_slots_at
unfolding slots_at
root_stands moment = refl

module _ (shape : Shape) (number moment : ℕ) where
  abbrev p : Pack
  p = formatted shape number moment

  abbrev ss : List Sight
  ss = shown moment (its_bytes shape) (data_pages shape) (free_after_format shape)

  pub its_sector : (j : ℕ) → j < data_pages shape → sector_at p (sector_of j) ≡ headed shape number (sector_of j) (format_page shape j)
  its_sector j low = page_headed shape number 4 0 (data_pages shape) (replicate (free_after_format shape) _) j j (sector_of j) (omega arith) (omega arith) low

  -- ---- where the pages are
  pub its_at : (j : ℕ) → j < data_pages shape → place ss disk_descriptor (suc j) ≡ Some (sector_of j)
  its_at j low = let few = pages_few shape in its_place moment (its_bytes shape) (data_pages shape) (free_after_format shape) (pages_laid shape) (omega arith) j low

  pub root_at : (place ss sys_dir 0 ≡ Some 1) × (place ss sys_dir 1 ≡ Some 2) × (place ss disk_descriptor 0 ≡ Some 3)
  unfolding first
  root_at = (refl, refl, refl)

  -- ---- the links of a page
  abbrev Linked : List Sight → ℕ → Sight → Type 0
  Linked ss i s = (word (sector_at p i).label 0 ≡ next_link shape ss s) × (word (sector_at p i).label 1 ≡ previous_link shape ss s)

  -- DiskDescriptor's
  next_is : (j : ℕ) → j < data_pages shape → format_next shape (4 + j) ≡ cond (nat_lt (length (its_bytes shape j)) 512) no_link (link_to shape (place ss disk_descriptor (suc (suc j))))
  next_is j low = elim (cases_eq (suc j) (data_pages shape)) [
    | inl e ↦
        let short = page_is_last shape j e in
        let end : nat_lt (suc (4 + j)) (sectors_used shape) ≡ false = lt-leb (suc (suc (4 + j))) (sectors_used shape) (omega arith) in
        ap (λ b. cond b (real_of shape (suc (4 + j))) no_link) end ∙ sym (ap (λ b. cond b no_link (link_to shape (place ss disk_descriptor (suc (suc j))))) (lt-ltb (length (its_bytes shape j)) 512 short))
    | inr ne ↦
        let more : suc j < data_pages shape = omega arith in
        let full = page_is_full shape j more in
        let z : suc (4 + j) ≡ sector_of (suc j) = omega arith in
        ap (λ b. cond b (real_of shape (suc (4 + j))) no_link) (lt-ltb (suc (4 + j)) (sectors_used shape) (omega arith))
        ∙ ap (real_of shape) z
        ∙ sym (ap (λ n. cond (nat_lt n 512) no_link (link_to shape (place ss disk_descriptor (suc (suc j))))) full ∙ ap (link_to shape) (its_at (suc j) more))
  ]

  previous_is : (j : ℕ) → j < data_pages shape → real_of shape (3 + j) ≡ link_to shape (place ss disk_descriptor j)
  previous_is zero low = sym (ap (link_to shape) root_at.2)
  previous_is (suc j) low = let z : 3 + suc j ≡ sector_of j = omega arith in ap (real_of shape) z ∙ sym (ap (link_to shape) (its_at j (omega arith)))

  its_links : (j : ℕ) → j < data_pages shape → Linked ss (sector_of j) (holds disk_descriptor j (its_bytes shape j))
  its_links j low = (ap (λ s. word s.label 0) (its_sector j low) ∙ next_is j low, ap (λ s. word s.label 1) (its_sector j low) ∙ previous_is j low)

  -- all pages'
  links_shown : (i : ℕ) → in_use shape ss (i, get_or ss i hidden) ≡ true → Linked ss i (get_or ss i hidden)
  links_shown = each (λ i s. in_use shape ss (i, s) ≡ true → Linked ss i s) moment (its_bytes shape) (data_pages shape) (free_after_format shape)
      (λ e. absurd cc)
      (λ e. (sym (ap (link_to shape) root_at.1), refl))
      (λ e. (refl, sym (ap (link_to shape) root_at.0)))
      (λ e. (sym (ap (link_to shape) (its_at 0 (omega arith))), refl))
      (λ j low e. its_links j low)
      (λ i low high e. absurd cc)
      (λ i low e. absurd cc)

  page_links : PageLinks p
  page_links i is =
      let both = subst (λ ss. (i : ℕ) → in_use shape ss (i, get_or ss i hidden) ≡ true → Linked ss i (get_or ss i hidden)) (sym (formatted_sights shape number moment)) links_shown i is in
      record { next = both.0; previous = both.1 }

  -- ---- addresses
  abbrev addresses : List Sight → Fid → Type 0
  addresses ss d = All (λ s. IsTrueAddress ss s.item s.address) (slots_at (words_of (file_bytes ss d)) 0 (items_in (get (read_sights shape ss).files d)))

  root_found : get (read_sights shape ss).files sys_dir ≡ Some (empty_root moment)
  root_found = ap (λ m. get m sys_dir) (files_are moment (its_bytes shape) (data_pages shape) (free_after_format shape) shape) ∙ get-from_entries fid_total (root_entries moment) sys_dir

  abbrev IsTrue : SlotAt → Type 0
  IsTrue s = IsTrueAddress ss s.item s.address

  root_true : All IsTrue root_slots_at
  root_true = All-cons IsTrue slot_1 (slot_2 ∷ slot_3 ∷ []) root_at.0 (All-cons IsTrue slot_2 (slot_3 ∷ []) root_at.2 (All-cons IsTrue slot_3 [] tt (All-nil IsTrue)))

  root_addresses : addresses ss sys_dir
  root_addresses = subst (All IsTrue) (sym ((λ i. slots_at (words_of (root_read moment (its_bytes shape) (data_pages shape) (free_after_format shape) i)) 0 (items_in (root_found i))) ∙ root_stands moment)) root_true

  entries_shown : (d : Fid) → lives ss d ≡ true → is_directory d ≡ true → addresses ss d
  entries_shown d is dir = by_living moment (its_bytes shape) (data_pages shape) (free_after_format shape) d (addresses ss d) is
      (λ e. subst (addresses ss) (sym e) root_addresses)
      (λ e. let none : is_directory d ≡ false = ap is_directory e in absurd cc)

  pub links_true : LinksTrue p
  links_true = record {
    pages = page_links;
    entries = subst (λ ss. (d : Fid) → lives ss d ≡ true → is_directory d ≡ true → addresses ss d) (sym (formatted_sights shape number moment)) entries_shown;
  }
