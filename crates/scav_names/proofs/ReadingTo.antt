-- A pass that reads names: what each row adds to what was read, and what is known of a file once it is left.
use Rattle.std.proofs.Common.{◌≡◌, ◌⊎◌, inl, inr, ℕ, suc, ◌+◌, ◌/◌, Bool, true, false, cond, List, [], ◌++◌, length, map, Option, Some, None, refl, sym, ap, subst, ◌∙◌, arith, append-nil, length-append}
use Rattle.std.specs.Prelude.{◌&&◌}
use Rattle.std.specs.FinMap.{entries}
use Rattle.std.specs.Option.{option_map}
use Rattle.std.proofs.lemmas.List.{take_all}
use Rattle.alto_words.specs.declared.fid.Fid.{Fid}
use Rattle.alto_words.specs.Fid.{is_directory, sys_dir}
use Rattle.dir_slots.specs.Walks as slot_walk
use Rattle.dir_slots.specs.Walks.{placed_slots}
use Rattle.dir_slots.proofs.Meeting.{placed_same}
use Rattle.dir_slots.proofs.Turns.{none_placed}
use Rattle.disk_records.specs.declared.records.Page.{Page}
use Rattle.disk_records.specs.Packs.{Pack}
use Rattle.disk_records.proofs.Bytes.{length-words_of}
use Rattle.scav_pages.specs.laws_record.proofs.Heads.{all_read}
use Rattle.pack_model.specs.hints.Links.{dir_slots, dir_words}
use Rattle.pack_model.specs.reading.Bodies.{File, found}
use Rattle.pack_model.specs.reading.Files.{file_bytes, lives, place}
use Rattle.pack_model.specs.reading.Sights.{sights}
use Rattle.pack_model.specs.reading.Slots.{all_words, slots, slots_after}
use Rattle.scav_pages.specs.Walks.{IsFresh, IsLeft, Walked, file_in_hand}
use Rattle.scav_pages.specs.WalkLaws.{IsKnown}
use Rattle.scav_pages.proofs.Passing.{contrary}
use Rattle.scav_pages.proofs.Ranking.{living_row}
use Rattle.scav_pages.proofs.SlotReading.{ended_within}
use Rattle.scav_pages.proofs.Walking.{hand_or}
use Rattle.scav_pages.proofs.laws.Laws.{leaves_the_last_file, left_file_is_known}
use Rattle.scav_table.specs.declared.row.Row.{Row}
use Rattle.scav_table.specs.Laws.{IsNextRow}
use Rattle.scav_table.specs.Passes.{IsPassed}
use Rattle.scav_names.specs.declared.catalogue.Catalogue.{Catalogue}
use Rattle.scav_names.specs.declared.read.Reading.{Reading}
use Rattle.scav_names.specs.Catalogues.{HasPageCount, HoldsNames, entries_among, entries_of, root_slots}
use Rattle.scav_names.specs.Living.{living_files, living_of}
use Rattle.scav_names.specs.Readings.{FilesMet, HasReadTo, IsGiven, RootAhead, RootPassed, entries_in_hand, entries_of_hand}
use Rattle.scav_names.specs.Rooms.{HasSlots}
use Rattle.scav_names.proofs.ReadingFiles.{files_all, files_start}
use Rattle.scav_names.proofs.ReadingHand.{no_hand}

-- ---- before a file
pub no_slots : slots [] ≡ []
unfolding slots_after
no_slots = refl

pub read_fresh : (p : Pack) (last : Option Row) (reading : Reading) (met : List (Fid × File)) → Walked p last reading.walk → file_in_hand reading.walk ≡ None → slot_walk.Walked [] reading.slots → FilesMet p last met
    → reading.catalogue.living ≡ map (living_of (sights p)) met → reading.catalogue.entries ≡ entries_of p met → RootPassed p last reading.catalogue ⊎ RootAhead p last reading.catalogue → HasReadTo p last reading
read_fresh p last reading met w none slots_walked files living entries_are root = record {
  walked = w;
  met = met;
  files = files;
  living = living;
  given = [];
  words = record { walked = slots_walked; start = λ _. refl; none = λ d e off. refl; words = λ d e on. absurd (no_hand none e) };
  entries_are = record {
    before = entries_of p met;
    entries_are = entries_are ∙ sym (ap (λ h. entries_of p met ++ entries_in_hand h []) none ∙ append-nil (entries_of p met));
    all = sym (ap (λ h. entries_of p met ++ entries_of_hand p h reading.walk.lives) none ∙ append-nil (entries_of p met));
  };
  root = record { hand = λ e. absurd (no_hand none e); other = λ _. root };
}

pub read_start : (p : Pack) (reading : Reading) → IsFresh reading.walk → Walked p None reading.walk → slot_walk.Walked [] reading.slots → reading.catalogue.living ≡ [] → reading.catalogue.entries ≡ [] → HasSlots reading.catalogue.rooms [] → reading.catalogue.root_pages ≡ [] → HasReadTo p None reading
read_start p reading fresh w slots_walked living entries_are rooms pages = read_fresh p None reading [] w (ap (option_map (λ r. r.page.fid)) fresh.last) slots_walked (files_start p) living entries_are (inr (record { ahead = λ at r is own. refl; rooms = rooms; pages = pages }))

-- ---- after one
-- all words of a living directory that count were given
pub record AllGiven (p : Pack) (d : Fid) (given : List ℕ) : Type 0 where
  pub rest : List ℕ
  pub words : dir_words p d ≡ given ++ rest
  pub same : slots (given ++ rest) ≡ slots given

module _ (p : Pack) (last : Option Row) (reading : Reading) (h : HasReadTo p last reading) (left : IsLeft p last reading.walk) where
  known : (d : Fid) → file_in_hand reading.walk ≡ Some d → IsKnown p d reading.walk
  known d e = left_file_is_known p last reading.walk d h.walked e (left d e)

  long : (d : Fid) → file_in_hand reading.walk ≡ Some d → length (dir_words p d) ≡ reading.walk.length / 2
  long d e = let half = length-words_of (file_bytes (sights p) d) in let size = (known d e).size in omega (arith, half, size)

  all_given : (d : Fid) → file_in_hand reading.walk ≡ Some d → (reading.walk.lives && is_directory d) ≡ true → AllGiven p d h.given
  all_given d e on = record {
    rest = g.rest;
    words = sym (take_all (reading.walk.length / 2) (dir_words p d) (let l = long d e in omega (arith, l))) ∙ g.words;
    same = no_more reading.slots.ended refl;
  }
    where
      g : IsGiven p d reading h.given
      g = h.words.words d e on

      no_more : (t : Bool) → reading.slots.ended ≡ t → slots (h.given ++ g.rest) ≡ slots h.given
      no_more true t = h.words.walked.ended t g.rest
      no_more false t = ap (λ l. slots (h.given ++ l)) (g.all t) ∙ ap slots (append-nil h.given)

  placed_all : (d : Fid) → AllGiven p d h.given → dir_slots p d ≡ placed_slots h.given
  placed_all d a = ap placed_slots a.words ∙ placed_same h.given a.rest a.same ∙ append-nil (placed_slots h.given)

  -- its entries were read
  pub left_entries : reading.catalogue.entries ≡ entries_of p h.met
  left_entries = h.entries_are.entries_are ∙ ap (λ es. h.entries_are.before ++ es) (by (file_in_hand reading.walk) refl) ∙ sym h.entries_are.all
    where
      none_of : (d : Fid) → h.given ≡ [] → entries_among d (placed_slots h.given) ≡ []
      none_of d none = ap (λ g. entries_among d (placed_slots g)) none ∙ ap (entries_among d) none_placed

      by_kind : (d : Fid) → file_in_hand reading.walk ≡ Some d → (a b : Bool) → reading.walk.lives ≡ a → is_directory d ≡ b → entries_among d (placed_slots h.given) ≡ cond a (cond b (entries_among d (dir_slots p d)) []) []
      by_kind d e true true s t = ap (entries_among d) (sym (placed_all d (all_given d e (λ i. s i && t i))))
      by_kind d e true false s t = none_of d (h.words.none d e (λ i. s i && t i))
      by_kind d e false b s t = none_of d (h.words.none d e (λ i. s i && t i))

      by : (o : Option Fid) → file_in_hand reading.walk ≡ o → entries_in_hand o h.given ≡ entries_of_hand p o reading.walk.lives
      by None e = refl
      by (Some d) e = by_kind d e reading.walk.lives (is_directory d) refl refl

  -- and SysDir's slots
  module _ (e : file_in_hand reading.walk ≡ Some sys_dir) where
    root_is : root_slots p ≡ slots h.given
    root_is = by reading.walk.lives refl
      where
        by : (t : Bool) → reading.walk.lives ≡ t → root_slots p ≡ slots h.given
        by true t = let a = all_given sys_dir e (ap (λ b. b && is_directory sys_dir) t) in ap (λ b. cond b (slots (dir_words p sys_dir)) []) (sym (known sys_dir e).lives_is ∙ t) ∙ ap slots a.words ∙ a.same
        by false t = ap (λ b. cond b (slots (dir_words p sys_dir)) []) (sym (known sys_dir e).lives_is ∙ t) ∙ sym (ap slots (h.words.none sys_dir e (ap (λ b. b && is_directory sys_dir) t)) ∙ no_slots)

    counted : HasPageCount p reading.catalogue.root_pages
    counted alive reach at there = h_count ∙ by reading.walk.goes_on refl
      where
        living_is : reading.walk.lives ≡ true
        living_is = (known sys_dir e).lives_is ∙ alive

        a : AllGiven p sys_dir h.given
        a = all_given sys_dir e (ap (λ b. b && is_directory sys_dir) living_is)

        sized : all_words (root_slots p) ≡ length (dir_words p sys_dir)
        sized =
            let r = all_read (dir_words p sys_dir) reach.items reach.reads in
            ap (λ b. all_words (cond b (slots (dir_words p sys_dir)) [])) alive ∙ ap all_words r.0 ∙ r.1

        going : (t : Bool) → reading.slots.ended ≡ t → reading.slots.ended ≡ false
        going false t = t
        going true t =
            let low = ended_within h.given reading.slots h.words.walked t in
            let at_place = h.words.walked.place ∙ ap all_words (sym root_is) ∙ sized in
            let more = ap length a.words ∙ length-append h.given a.rest in
            absurd (omega (arith, low, at_place, more))

        h_count : length reading.catalogue.root_pages ≡ reading.walk.pages
        h_count = (h.root.hand e).count living_is (going reading.slots.ended refl)

        by : (t : Bool) → reading.walk.goes_on ≡ t → reading.walk.pages ≡ all_words (root_slots p) / 256 + 1
        by true t =
            let m = (known sys_dir e).missing t in
            let full = m.0 in
            let l = long sys_dir e in
            let number : all_words (root_slots p) / 256 + 1 ≡ suc reading.walk.pages = omega (arith, sized, full, l) in
            absurd (let none : Some at ≡ None = sym there ∙ ap (place (sights p) sys_dir) number ∙ m.1 in cc)
        by false t =
            let pages = ((h.walked.file sys_dir e).ended t).pages in
            let l = long sys_dir e in
            omega (arith, sized, pages, l)

    passed : RootPassed p last reading.catalogue
    passed = record {
      passed = left sys_dir e;
      few =
          let at_place = h.words.walked.place ∙ ap all_words (sym root_is) in
          let few = reading.few in
          let low = reading.walk.low in
          omega (arith, at_place, few, low);
      rooms = subst (HasSlots reading.catalogue.rooms) (sym root_is) (h.root.hand e).rooms;
      pages = (h.root.hand e).pages;
      page_count = counted;
    }

  pub left_root : RootPassed p last reading.catalogue ⊎ RootAhead p last reading.catalogue
  left_root = elim (hand_or (file_in_hand reading.walk) sys_dir) [ inl e ↦ inl (passed e) | inr other ↦ h.root.other other ]

  -- the next file may come
  pub read_left : (new : Reading) → Walked p last new.walk → file_in_hand new.walk ≡ None → slot_walk.Walked [] new.slots → new.catalogue ≡ reading.catalogue → HasReadTo p last new
  read_left new w none slots_walked same = read_fresh p last new h.met w none slots_walked h.files (ap (λ (c : Catalogue). c.living) same ∙ h.living) (ap (λ (c : Catalogue). c.entries) same ∙ left_entries)
      (subst (λ (c : Catalogue). RootPassed p last c ⊎ RootAhead p last c) (sym same) left_root)

-- all rows were met
pub read_end : (p : Pack) (last : Option Row) (reading : Reading) → HasReadTo p last reading → IsNextRow p last None → HoldsNames p reading.catalogue
read_end p last reading h none = elim (left_root p last reading h left) [
  | inl r ↦ record { living = living; entries_are = names; rooms = r.rooms; pages = r.pages; page_count = r.page_count }
  | inr r ↦ record {
    living = living;
    entries_are = names;
    rooms = subst (HasSlots reading.catalogue.rooms) (sym (ap (λ b. cond b (slots (dir_words p sys_dir)) []) (dead r))) r.rooms;
    pages = λ n within. absurd (let size = ap length r.pages in omega (arith, within, size));
    page_count = λ alive. contrary alive (dead r);
  }
]
  where
    left : IsLeft p last reading.walk
    left = leaves_the_last_file p last reading.walk none

    all : h.met ≡ entries (found (sights p))
    all = files_all h.met h.files none

    living : reading.catalogue.living ≡ living_files p
    living = h.living ∙ ap (map (living_of (sights p))) all

    names : reading.catalogue.entries ≡ entries_of p (entries (found (sights p)))
    names = left_entries p last reading h left ∙ ap (entries_of p) all

    dead : RootAhead p last reading.catalogue → lives (sights p) sys_dir ≡ false
    dead r = by (lives (sights p) sys_dir) refl
      where
        by : (t : Bool) → lives (sights p) sys_dir ≡ t → lives (sights p) sys_dir ≡ false
        by false e = e
        by true e = let x = living_row p sys_dir e in contrary (r.ahead x.0 x.1.row x.1.is (ap (λ (y : Page). y.fid) x.1.page_is)) (subst (IsPassed last) x.1.is (none x.0))
