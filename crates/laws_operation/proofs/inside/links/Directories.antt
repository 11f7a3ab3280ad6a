-- The entries of directories whose words stay.
use Rattle.std.proofs.Common.{Bool, List, None, Option, Some, ap, false, get_or, refl, subst, suc, sym, true, ℕ, ◌∙◌, ◌≡◌}
use Rattle.std.specs.Option.{is_some}
use mathlib.Core.Path.{fun_ext}
use Rattle.laws_contents.specs.alto_words.specs.Fid.{is_directory, is_fid}
use Rattle.laws_contents.specs.alto_words.specs.declared.fid.Fid.{Fid}
use Rattle.laws_contents.specs.disk_records.specs.Labels.{tag}
use Rattle.laws_contents.specs.disk_records.specs.Packs.{Pack, after, carried, sector_at}
use Rattle.laws_contents.specs.disk_records.specs.declared.records.Event.{Event}
use Rattle.laws_contents.specs.disk_records.specs.declared.records.Page.{Page}
use Rattle.laws_contents.specs.pack_model.specs.reading.Bytes.{words_of}
use Rattle.laws_contents.specs.pack_model.specs.reading.Files.{file_bytes, joined, lives, most_pages, page, place}
use Rattle.laws_contents.specs.pack_model.specs.hints.Links.{EntryAddresses, dir_words}
use Rattle.laws_contents.specs.pack_model.specs.reading.Model.{dir_items, read_as}
use Rattle.laws_contents.specs.pack_model.specs.operations.PageWords.{page_number}
use Rattle.laws_contents.specs.pack_model.specs.reading.Sights.{Sight, page_sight, sights}
use Rattle.laws_contents.specs.pack_model.specs.reading.Sights.Sight.{hidden, holds}
use Rattle.laws_contents.specs.pack_model.specs.reading.Slots.{slots}
use Rattle.laws_contents.specs.pack_model.specs.states.Whole.{Tidy, Whole}
use Rattle.laws_contents.specs.pack_laws.proofs.Keys.{same_fid}
use Rattle.laws_contents.specs.pack_laws.proofs.Placing.{leader_of_place, no_page, page_of_place, place_of_leader}
use Rattle.laws_contents.specs.laws_record.proofs.Copying.{place_carried}
use Rattle.laws_contents.specs.laws_record.proofs.DirReads.{has_leader}
use Rattle.laws_contents.specs.laws_record.proofs.Recording.{carried_sight}
use Rattle.laws_operation.proofs.EnterLaw.{items_are}
use Rattle.laws_operation.proofs.inside.links.Addresses.{AllTrue, from_slots, to_slots, true_more}
use Rattle.laws_operation.proofs.inside.links.Framing.{AllConcern, other_place, other_sector}
use Rattle.laws_operation.proofs.inside.links.Records.{carried_same}

-- ---- one directory
-- the addresses of the kept entries of d are true
abbrev pub DirTrue : Pack → Fid → Type 0
DirTrue p d = AllTrue (sights p) (dir_words p d) 0 (dir_items (read_as p) d)

-- so it is for all directories
pub dirs_true : (p : Pack) → EntryAddresses p → (d : Fid) → lives (sights p) d ≡ true → is_directory d ≡ true → DirTrue p d
dirs_true p h d live dir = from_slots (sights p) (dir_words p d) 0 (dir_items (read_as p) d) (h d live dir)

-- and the other way
pub all_dirs : (p : Pack) → ((d : Fid) → lives (sights p) d ≡ true → is_directory d ≡ true → DirTrue p d) → EntryAddresses p
all_dirs p h d live dir = to_slots (sights p) (dir_words p d) 0 (dir_items (read_as p) d) (h d live dir)

-- ---- sectors that stay
-- a page in the same place, with the same words
page_alike : (ss us : List Sight) (g : Fid) (n : ℕ) → place us g (suc n) ≡ place ss g (suc n) → ((i : ℕ) → place ss g (suc n) ≡ Some i → get_or us i hidden ≡ get_or ss i hidden) → page us g n ≡ page ss g n
page_alike ss us g n same stay = by (place ss g (suc n)) refl
  where
    by : (r : Option ℕ) → place ss g (suc n) ≡ r → page us g n ≡ page ss g n
    by None e = no_page us g n (same ∙ e) ∙ sym (no_page ss g n e)
    by (Some i) e =
        let x = page_of_place ss g n i e in
        let y = page_of_place us g n i (same ∙ e) in
        let z : holds g n y.bytes ≡ holds g n x.bytes = sym (y.shows hidden) ∙ stay i e ∙ x.shows hidden in
        let b : y.bytes ≡ x.bytes = cc in
        y.page_is ∙ ap Some b ∙ sym x.page_is

-- so all bytes are the same
bytes_alike : (ss us : List Sight) (g : Fid) → ((n : ℕ) → place us g n ≡ place ss g n) → ((n i : ℕ) → place ss g n ≡ Some i → get_or us i hidden ≡ get_or ss i hidden) → file_bytes us g ≡ file_bytes ss g
unfolding file_bytes
bytes_alike ss us g same stay = ap (joined most_pages) (fun_ext (λ n. page_alike ss us g n (same (suc n)) (stay (suc n))))

-- a sector with the same words shows the same
sight_alike : (p q : Pack) (i : ℕ) (x : Page) → q.shape ≡ p.shape → carried p i ≡ Some x → sector_at q i ≡ sector_at p i → get_or (sights q) i hidden ≡ get_or (sights p) i hidden
sight_alike p q i x shape is same =
    carried_sight q i x (carried_same p q i shape same ∙ is) ∙ (λ j. page_sight x.fid x.number (tag (same j).label).bytes (same j).value) ∙ sym (carried_sight p i x is)

-- a file lives where its leader has a place
pub lives_by : (ss us : List Sight) (d : Fid) → place us d 0 ≡ place ss d 0 → lives us d ≡ true → lives ss d ≡ true
lives_by ss us d same live =
    let l = has_leader us d live in
    let at = place_of_leader us d l.0 l.1 in
    ap is_some (leader_of_place ss d at.0 (sym same ∙ at.1)).leader_is

-- ---- the other directories
module _ (p : Pack) (f : Fid) (events : List Event) (wp : Whole p) (wq : Whole (after p events)) (all : AllConcern f p events) where
  -- another file's bytes stay
  pub other_bytes : (g : Fid) → is_fid g f ≡ false → file_bytes (sights (after p events)) g ≡ file_bytes (sights p) g
  other_bytes g ne = bytes_alike (sights p) (sights (after p events)) g (λ n. other_place p f events wp wq all g n ne)
      (λ n i e. let is = place_carried p (page_number g n) i e in sight_alike p (after p events) i (page_number g n) refl is (other_sector p f events wp wq all g n i ne is))

  -- it lives as before
  pub other_lives : (g : Fid) → is_fid g f ≡ false → lives (sights (after p events)) g ≡ true → lives (sights p) g ≡ true
  other_lives g ne live = lives_by (sights p) (sights (after p events)) g (other_place p f events wp wq all g 0 ne) live

  -- leaders stay at their addresses where f's does
  pub leaders_stay : ((a : ℕ) → place (sights p) f 0 ≡ Some a → place (sights (after p events)) f 0 ≡ Some a) → (g : Fid) (a : ℕ) → place (sights p) g 0 ≡ Some a → place (sights (after p events)) g 0 ≡ Some a
  leaders_stay mine g a e = by (is_fid g f) refl
    where
      by : (b : Bool) → is_fid g f ≡ b → place (sights (after p events)) g 0 ≡ Some a
      by true is = subst (λ h. place (sights (after p events)) h 0 ≡ Some a) (sym (same_fid g f is)) (mine a (subst (λ h. place (sights p) h 0 ≡ Some a) (same_fid g f is) e))
      by false is = other_place p f events wp wq all g 0 is ∙ e

  -- a directory that is read as before keeps true addresses
  pub other_dir_by : ((a : ℕ) → place (sights p) f 0 ≡ Some a → place (sights (after p events)) f 0 ≡ Some a) → (d : Fid) → is_fid d f ≡ false → dir_items (read_as (after p events)) d ≡ dir_items (read_as p) d → DirTrue p d → DirTrue (after p events) d
  other_dir_by mine d ne items h =
      let q : Pack = after p events in
      let words : dir_words q d ≡ dir_words p d = ap words_of (other_bytes d ne) in
      let moved : AllTrue (sights q) (dir_words p d) 0 (dir_items (read_as p) d) = true_more (sights p) (sights q) (dir_words p d) 0 (dir_items (read_as p) d) (leaders_stay mine) h in
      subst (λ ws. AllTrue (sights q) ws 0 (dir_items (read_as q) d)) (sym words) (subst (AllTrue (sights q) (dir_words p d) 0) (sym items) moved)

  -- so are those of tidy packs
  pub other_items : Tidy p → Tidy (after p events) → (d : Fid) → is_fid d f ≡ false → lives (sights (after p events)) d ≡ true → is_directory d ≡ true → dir_items (read_as (after p events)) d ≡ dir_items (read_as p) d
  other_items tp tq d ne live dir = items_are (after p events) tq d live dir ∙ ap slots (ap words_of (other_bytes d ne)) ∙ sym (items_are p tp d (other_lives d ne live) dir)

  -- which keep true addresses
  pub other_dir : Tidy p → Tidy (after p events) → ((a : ℕ) → place (sights p) f 0 ≡ Some a → place (sights (after p events)) f 0 ≡ Some a) → (d : Fid) → is_fid d f ≡ false → lives (sights (after p events)) d ≡ true → is_directory d ≡ true → DirTrue p d → DirTrue (after p events) d
  other_dir tp tq mine d ne live dir h =
      other_dir_by mine d ne (other_items tp tq d ne live dir) h
