-- The next row of a pass that reads names: a leader page, a page of a directory, or one that adds nothing.
use Rattle.std.proofs.Common.{◌≡◌, ◌≢◌, ◌⊎◌, inl, inr, ℕ, suc, ◌+◌, ◌-◌, ◌*◌, ◌/◌, ◌<◌, ◌≤◌, Bool, true, false, cond, List, [], ◌∷◌, ◌++◌, length, map, take, drop, get_or, Option, Some, None, Result, Ok, Err, OnOk, refl, sym, ap, subst, ◌∙◌, arith, append-nil, append_assoc, length-append, length-take}
use Rattle.std.specs.Prelude.{◌&&◌, not}
use Rattle.std.specs.Option.{is_some}
use Rattle.std.proofs.lemmas.List.Elements.{All-append, All-cons, All-nil}
use Rattle.std.proofs.lemmas.List.{get_or_append_left, map-append, take-append-drop, take-take}
use Rattle.alto_words.specs.declared.fid.Fid.{Fid}
use Rattle.alto_words.specs.Fid.{is_directory, is_fid, sys_dir}
use Rattle.dir_slots.specs.Walks as slot_walk
use Rattle.dir_slots.specs.Walks.{placed_slots}
use Rattle.dir_slots.proofs.Slots.{all_words-append}
use Rattle.dir_slots.proofs.Turns.{none_placed}
use Rattle.disk_records.specs.declared.shape.Shape.{Shape}
use Rattle.disk_records.specs.Addresses.{pages_of}
use Rattle.disk_records.specs.Packs.{Pack, sector_at}
use Rattle.disk_records.specs.Words.{word}
use Rattle.scav_pages.specs.laws_contents.specs.PageLaws.{FullBefore}
use Rattle.scav_pages.specs.laws_contents.specs.WordContents.{words_at}
use Rattle.scav_pages.specs.laws_contents.proofs.pages.Laws.{formed_pages_have_256_words, labels_count}
use Rattle.scav_pages.specs.laws_contents.proofs.words.Laws.{page_words_go_on}
use Rattle.scav_pages.specs.pack_laws.proofs.Keys.{is_fid-itself, same_fid}
use Rattle.scav_pages.specs.pack_laws.proofs.Placing.{leader_of_place}
use Rattle.pack_model.specs.hints.Links.{dir_words}
use Rattle.pack_model.specs.reading.Bodies.{File}
use Rattle.pack_model.specs.reading.Files.{place}
use Rattle.pack_model.specs.reading.Leaders.{leader_of}
use Rattle.pack_model.specs.reading.Sights.{sights}
use Rattle.pack_model.specs.reading.SlotWords.{SlotAt, slots_at}
use Rattle.pack_model.specs.reading.Slots.{Item, all_words, item_words, slots}
use Rattle.scav_pages.specs.declared.files.Met.{Met}
use Rattle.scav_pages.specs.declared.files.Met.TheVariants.{Copy, Leader, Next, Past}
use Rattle.scav_pages.specs.Walks.{AreWords, GoesOn, IsFresh, IsMet, IsOtherFile, Walked, bytes_met, file_in_hand, pages_met}
use Rattle.scav_pages.proofs.Passing.{carried_row, contrary, further}
use Rattle.scav_pages.proofs.Ranking.{met_or_next, row_ranged}
use Rattle.scav_table.specs.declared.row.Row.{Row}
use Rattle.scav_table.specs.Laws.{IsFirstAbove}
use Rattle.scav_table.specs.Rows.{is_above, is_below, row_at}
use Rattle.scav_names.specs.declared.catalogue.Catalogue.{Catalogue}
use Rattle.scav_names.specs.declared.read.Reading.{Reading}
use Rattle.scav_names.specs.Catalogues.{ArePagesOf, AreSectors, entries_among, entries_of, file_entries, root_slots}
use Rattle.scav_names.specs.Living.{living_of}
use Rattle.scav_names.specs.Readings.{FilesMet, HasReadTo, IsGiven, KeepsSector, MeetsSlots, ReadsLeader, RootAhead, RootInHand, RootMet, RootPassed, counted_words, entries_in_hand, entries_of_hand}
use Rattle.scav_names.specs.Rooms.{HasSlots}
use Rattle.scav_names.proofs.ReadingFiles.{LeadFile, files_leader, files_on, lead_file}
use Rattle.scav_names.proofs.ReadingSlots.{among_append}
use Rattle.scav_names.proofs.ReadingHand.{hand_same, last_none, lives_on, no_hand, no_leader_at, none_before_leader}
use Rattle.scav_names.proofs.ReadingTo.{no_slots}

-- ---- lists
of_files : (p : Pack) (es fs : List (Fid × File)) → entries_of p (es ++ fs) ≡ entries_of p es ++ entries_of p fs
of_files p [] fs = refl
of_files p (e ∷ es) fs = ap (λ l. file_entries p e.0 ++ l) (of_files p es fs) ∙ sym (append_assoc (file_entries p e.0) (entries_of p es) (entries_of p fs))

items_at : (words : List ℕ) (place : ℕ) (is : List Item) → map (λ (s : SlotAt). s.item) (slots_at words place is) ≡ is
unfolding slots_at
items_at words place [] = refl
items_at words place (i ∷ is) = ap (λ l. i ∷ l) (items_at words (place + item_words i) is)

and_first : (a b : Bool) → (a && b) ≡ true → a ≡ true
and_first true b e = refl
and_first false b e = cc

pub on_ok : {T E P Q : Type 0} (result : Result T E) → (P → Q) → OnOk result P → OnOk result Q
on_ok (Ok x) f h = f h
on_ok (Err e) f h = tt

pub on_both : {T E P Q R : Type 0} (result : Result T E) → (P → Q → R) → OnOk result P → OnOk result Q → OnOk result R
on_both (Ok x) f h k = f h k
on_both (Err e) f h k = tt

-- a sector more
pub with_sector : (form : Shape) (at : ℕ) (pages : List ℕ) (b : Bool) → (1 ≤ at) × (at < pages_of form) → AreSectors form pages → AreSectors form (pages ++ cond b (at ∷ []) [])
with_sector form at pages true here are = All-append (λ x. (1 ≤ x) × (x < pages_of form)) pages (at ∷ []) are (All-cons (λ x. (1 ≤ x) × (x < pages_of form)) at [] here (All-nil (λ x. (1 ≤ x) × (x < pages_of form))))
with_sector form at pages false here are = subst (AreSectors form) (sym (append-nil pages)) are

-- ---- a row more, of the file in hand or the first of another
module _ (p : Pack) (last : Option Row) (row : Row) (old new : Reading) (h : HasReadTo p last old) (same : IsOtherFile old.walk row → ⊥) (words : AreWords row) (first : IsFirstAbove p last row) (w : Walked p (Some row) new.walk) (hand : file_in_hand new.walk ≡ Some row.page.fid) where
  -- it is of the file in hand then
  own : (d : Fid) → file_in_hand new.walk ≡ Some d → row.page.fid ≡ d
  own d e = let both : Some row.page.fid ≡ Some d = sym hand ∙ e in cc

  old_hand : (g : Fid) → file_in_hand old.walk ≡ Some g → g ≡ row.page.fid
  old_hand = hand_same p last row old.walk h.walked same words first

  -- SysDir isn't in hand, and wasn't
  not_root : file_in_hand new.walk ≢ Some sys_dir → file_in_hand old.walk ≢ Some sys_dir
  not_root other e = other (hand ∙ ap Some (sym (old_hand sys_dir e)))

  -- so it was passed, or comes later
  root_other : (rooms : (js : List Item) → all_words js ≤ 16776960 → HasSlots old.catalogue.rooms js → HasSlots new.catalogue.rooms js) → new.catalogue.root_pages ≡ old.catalogue.root_pages → file_in_hand new.walk ≢ Some sys_dir → RootPassed p (Some row) new.catalogue ⊎ RootAhead p (Some row) new.catalogue
  root_other rooms pages other = elim (h.root.other (not_root other)) [
    | inl r ↦ inl (record {
      passed = λ at x is above. r.passed at x is (further last row x first.above above);
      few = r.few;
      rooms = rooms (root_slots p) r.few r.rooms;
      pages = subst (ArePagesOf p sys_dir) (sym pages) r.pages;
      page_count = λ alive reach at there. ap length pages ∙ r.page_count alive reach at there;
    })
    | inr r ↦ inr (record {
      ahead = λ at x is own_is. by at x is own_is (r.ahead at x is own_is) (is_below row x) refl;
      rooms = rooms [] (omega arith) r.rooms;
      pages = pages ∙ r.pages;
    })
  ]
    where
      by : (at : ℕ) (x : Row) → row_at p at ≡ Some x → x.page.fid ≡ sys_dir → is_above last x ≡ true → (t : Bool) → is_below row x ≡ t → is_below row x ≡ true
      by at x is own_is above true t = t
      by at x is own_is above false t = elim (met_or_next p last row first at x is t) [
        | inl below ↦ contrary above below
        | inr next ↦ absurd (other (hand ∙ ap Some (ap (λ (y : Row). y.page.fid) (sym next.1) ∙ own_is)))
      ]

  -- where SysDir comes to hand nothing was read of it
  root_begins : file_in_hand new.walk ≡ Some sys_dir → file_in_hand old.walk ≡ None → RootAhead p last old.catalogue
  root_begins e none = elim (h.root.other (no_hand none)) [
    | inl r ↦ absurd (r.passed row.at row first.here first.above (sym (own sys_dir e)))
    | inr r ↦ r
  ]

  -- SysDir's slots and pages, where no more of them were read
  root_same : new.catalogue.rooms ≡ old.catalogue.rooms → new.catalogue.root_pages ≡ old.catalogue.root_pages
      → (file_in_hand old.walk ≡ None → new.walk.lives ≡ true → new.walk.pages ≡ 0)
      → (file_in_hand old.walk ≡ Some sys_dir → (new.walk.lives ≡ old.walk.lives) × (new.walk.lives ≡ true → new.slots.ended ≡ false → (old.slots.ended ≡ false) × (new.walk.pages ≡ old.walk.pages)))
      → RootMet p (Some row) new h.given
  root_same rooms pages begins goes = record {
    hand = λ e. by e (file_in_hand old.walk) refl;
    other = root_other (λ js few has. subst (λ r. HasSlots r js) (sym rooms) has) pages;
  }
    where
      by : file_in_hand new.walk ≡ Some sys_dir → (o : Option Fid) → file_in_hand old.walk ≡ o → RootInHand p new h.given
      by e None none =
          let r = root_begins e none in
          let empty : new.catalogue.root_pages ≡ [] = pages ∙ r.pages in
          record {
            rooms = subst (λ x. HasSlots x (slots h.given)) (sym rooms) (subst (HasSlots old.catalogue.rooms) (sym (ap slots (h.words.start none) ∙ no_slots)) r.rooms);
            pages = λ n within. absurd (let size = ap length empty in omega (arith, within, size));
            none = λ _. empty;
            count = λ alive going. ap length empty ∙ sym (begins none alive);
          }
      by e (Some g) t =
          let there : file_in_hand old.walk ≡ Some sys_dir = t ∙ ap Some (old_hand g t ∙ own sys_dir e) in
          let r = h.root.hand there in
          let on = goes there in
          record {
            rooms = subst (λ x. HasSlots x (slots h.given)) (sym rooms) r.rooms;
            pages = subst (ArePagesOf p sys_dir) (sym pages) r.pages;
            none = λ dark. pages ∙ r.none (sym on.0 ∙ dark);
            count = λ alive going. (let o = on.1 alive going in ap length pages ∙ r.count (sym on.0 ∙ alive) o.0 ∙ sym o.1);
          }

  -- ---- a leader page
  pub read_leader : (seated : place (sights p) row.page.fid row.page.number ≡ Some row.at) → row.page.number ≡ 0 → new.walk.pages ≡ old.walk.pages → new.walk.length ≡ old.walk.length → (mid : Reading) → mid.slots ≡ old.slots → mid.catalogue ≡ old.catalogue → mid.walk ≡ new.walk → ReadsLeader p row mid new → HasReadTo p (Some row) new
  read_leader seated zero_is pages long mid mid_slots mid_cat mid_walk r = record {
    walked = w;
    met = h.met ++ (row.page.fid, lead.file) ∷ [];
    files = files_leader h.met lead.file words first seat zero_is lead.found h.files;
    living =
        r.living ∙ ap (λ (c : Catalogue). c.living ++ record { fid = row.page.fid; leader_at = row.at; name = (leader_of row.page.fid (sector_at p row.at).value).name } ∷ []) mid_cat
        ∙ (λ i. h.living i ++ sym lead.living i ∷ []) ∙ sym (map-append (living_of (sights p)) h.met ((row.page.fid, lead.file) ∷ []));
    given = h.given;
    words = record {
      walked = subst (slot_walk.Walked h.given) (sym slots_are) h.words.walked;
      start = λ e. absurd (no_hand e hand);
      none = λ d e off. nothing;
      words = λ d e on. record {
        rest = [];
        words = ap (λ n. take (n / 2) (dir_words p d)) (long ∙ fresh.length) ∙ sym (append-nil h.given ∙ nothing);
        all = λ _. refl;
      };
    };
    entries_are = record {
      before = h.entries_are.before;
      entries_are =
          r.entries_are ∙ ap (λ (c : Catalogue). c.entries) mid_cat ∙ h.entries_are.entries_are
          ∙ ap (λ es. h.entries_are.before ++ es) (ap (λ o. entries_in_hand o h.given) none ∙ sym (ap (λ o. entries_in_hand o h.given) hand ∙ ap (λ g. entries_among row.page.fid (placed_slots g)) nothing ∙ ap (entries_among row.page.fid) none_placed));
      all =
          of_files p h.met ((row.page.fid, lead.file) ∷ []) ∙ ap (λ es. es ++ entries_of p ((row.page.fid, lead.file) ∷ [])) (h.entries_are.all ∙ ap (λ o. h.entries_are.before ++ entries_of_hand p o old.walk.lives) none ∙ append-nil h.entries_are.before)
          ∙ ap (λ es. h.entries_are.before ++ es) (append-nil (file_entries p row.page.fid) ∙ sym (ap (λ o. entries_of_hand p o new.walk.lives) hand ∙ ap (λ b. cond b (file_entries p row.page.fid) []) alive));
    };
    root = root_same (r.rooms ∙ ap (λ (c : Catalogue). c.rooms) mid_cat) (r.pages ∙ ap (λ (c : Catalogue). c.root_pages) mid_cat) (λ _ _. pages ∙ fresh.pages) (λ e. absurd (no_hand none e));
  }
    where
      none : file_in_hand old.walk ≡ None
      none = none_before_leader p last row old.walk h.walked same words first seated zero_is

      fresh : IsFresh old.walk
      fresh = h.walked.begins (last_none old.walk none)

      nothing : h.given ≡ []
      nothing = h.words.start none

      seat : place (sights p) row.page.fid 0 ≡ Some row.at
      seat = subst (λ n. place (sights p) row.page.fid n ≡ Some row.at) zero_is seated

      lead : LeadFile p row.page.fid row.at
      lead = lead_file p row.page.fid row.at seat

      slots_are : new.slots ≡ old.slots
      slots_are = r.slots_are ∙ mid_slots

      alive : new.walk.lives ≡ true
      alive = (w.file row.page.fid hand).lives_is ∙ ap is_some (leader_of_place (sights p) row.page.fid row.at seat).leader_is

  -- ---- another page
  module _ (met : Met) (is_met : IsMet p row met) (other : met ≢ Leader) where
    lives_is : new.walk.lives ≡ old.walk.lives
    lives_is = lives_on p last row old.walk h.walked same words first new.walk w hand met is_met other

    files_are : FilesMet p (Some row) h.met
    files_are = files_on h.met first (no_leader_at p row first.here met is_met other) h.files

    -- none of a living file comes first
    was_in_hand : new.walk.lives ≡ true → (o : Option Fid) → file_in_hand old.walk ≡ o → file_in_hand old.walk ≡ Some row.page.fid
    was_in_hand alive None e = contrary (sym lives_is ∙ alive) (h.walked.begins (last_none old.walk e)).lives
    was_in_hand alive (Some g) e = e ∙ ap Some (old_hand g e)

    given_none : (o : Option Fid) → file_in_hand old.walk ≡ o → (new.walk.lives && is_directory row.page.fid) ≡ false → h.given ≡ []
    given_none None e off = h.words.start e
    given_none (Some g) e off = h.words.none g e ((λ i. sym lives_is i && is_directory (old_hand g e i)) ∙ off)

    given_words : (new.walk.lives && is_directory row.page.fid) ≡ true → IsGiven p row.page.fid old h.given
    given_words on =
        let there = was_in_hand (and_first new.walk.lives (is_directory row.page.fid) on) (file_in_hand old.walk) refl in
        h.words.words row.page.fid there (ap (λ b. b && is_directory row.page.fid) (sym lives_is) ∙ on)

    -- which adds nothing
    module _ (pages : new.walk.pages ≡ old.walk.pages + pages_met met) (long : new.walk.length ≡ old.walk.length + bytes_met met row) (goes : met ≡ Next → GoesOn row new.walk) (unwanted : met ≡ Next → (new.walk.lives && is_directory row.page.fid && not old.slots.ended) ≡ false) (slots_are : new.slots ≡ old.slots) (cat : new.catalogue ≡ old.catalogue) where
      ended_of : (a b e : Bool) → (a && b && not e) ≡ false → (a && b) ≡ true → e ≡ true
      ended_of true true true x y = refl
      ended_of true true false x y = cc
      ended_of true false e x y = cc
      ended_of false b e x y = cc

      same_words : (new.walk.lives && is_directory row.page.fid) ≡ true → new.walk.length ≡ old.walk.length → IsGiven p row.page.fid new h.given
      same_words on l = (let g = given_words on in record { rest = g.rest; words = ap (λ n. take (n / 2) (dir_words p row.page.fid)) l ∙ g.words; all = λ going. g.all (ap (λ x. x.ended) (sym slots_are) ∙ going) })

      more_words : (m : Met) → met ≡ m → (new.walk.lives && is_directory row.page.fid) ≡ true → IsGiven p row.page.fid new h.given
      more_words Leader e on = absurd (other e)
      more_words Copy e on = same_words on (long ∙ ap (λ m. old.walk.length + bytes_met m row) e ∙ omega arith)
      more_words Past e on = same_words on (long ∙ ap (λ m. old.walk.length + bytes_met m row) e ∙ omega arith)
      more_words Next e on =
          let g = given_words on in
          let d = row.page.fid in
          let ended = ended_of new.walk.lives (is_directory d) old.slots.ended (unwanted e) on in
          record {
            rest = g.rest ++ drop (old.walk.length / 2) (take (new.walk.length / 2) (dir_words p d));
            words =
                sym (take-append-drop (old.walk.length / 2) (take (new.walk.length / 2) (dir_words p d)))
                ∙ ap (λ l. l ++ drop (old.walk.length / 2) (take (new.walk.length / 2) (dir_words p d))) (take-take (old.walk.length / 2) (new.walk.length / 2) (dir_words p d) (omega (arith, long)) ∙ g.words)
                ∙ append_assoc h.given g.rest (drop (old.walk.length / 2) (take (new.walk.length / 2) (dir_words p d)));
            all = λ going. contrary (ap (λ x. x.ended) slots_are ∙ ended) going;
          }

      same_pages : (m : Met) → met ≡ m → new.walk.lives ≡ true → new.slots.ended ≡ false → row.page.fid ≡ sys_dir → new.walk.pages ≡ old.walk.pages
      same_pages Leader e alive going root = absurd (other e)
      same_pages Copy e alive going root = pages ∙ ap (λ m. old.walk.pages + pages_met m) e ∙ omega arith
      same_pages Past e alive going root = pages ∙ ap (λ m. old.walk.pages + pages_met m) e ∙ omega arith
      same_pages Next e alive going root = contrary (λ i. alive i && is_directory (root i) && not (((ap (λ x. x.ended) (sym slots_are)) ∙ going) i)) (unwanted e)

      pub read_other : HasReadTo p (Some row) new
      read_other = record {
        walked = w;
        met = h.met;
        files = files_are;
        living = ap (λ (c : Catalogue). c.living) cat ∙ h.living;
        given = h.given;
        words = record {
          walked = subst (slot_walk.Walked h.given) (sym slots_are) h.words.walked;
          start = λ e. absurd (no_hand e hand);
          none = λ d e off. given_none (file_in_hand old.walk) refl (ap (λ f. new.walk.lives && is_directory f) (own d e) ∙ off);
          words = λ d e on. subst (λ f. IsGiven p f new h.given) (own d e) (more_words met refl (ap (λ f. new.walk.lives && is_directory f) (own d e) ∙ on));
        };
        entries_are = record {
          before = h.entries_are.before;
          entries_are = ap (λ (c : Catalogue). c.entries) cat ∙ h.entries_are.entries_are ∙ ap (λ es. h.entries_are.before ++ es) (in_hand (file_in_hand old.walk) refl ∙ ap (λ o. entries_in_hand o h.given) (sym hand));
          all = h.entries_are.all ∙ ap (λ es. h.entries_are.before ++ es) (of_hand (file_in_hand old.walk) refl ∙ ap (λ o. entries_of_hand p o new.walk.lives) (sym hand));
        };
        root = root_same (ap (λ (c : Catalogue). c.rooms) cat) (ap (λ (c : Catalogue). c.root_pages) cat)
            (λ none alive. contrary (sym lives_is ∙ alive) (h.walked.begins (last_none old.walk none)).lives)
            (λ e. (lives_is, λ alive going. (ap (λ x. x.ended) (sym slots_are) ∙ going, same_pages met refl alive going (sym (old_hand sys_dir e)))));
      }
        where
          in_hand : (o : Option Fid) → file_in_hand old.walk ≡ o → entries_in_hand o h.given ≡ entries_in_hand (Some row.page.fid) h.given
          in_hand None e = sym (ap (λ g. entries_among row.page.fid (placed_slots g)) (h.words.start e) ∙ ap (entries_among row.page.fid) none_placed)
          in_hand (Some g) e = ap (λ f. entries_in_hand (Some f) h.given) (old_hand g e)

          of_hand : (o : Option Fid) → file_in_hand old.walk ≡ o → entries_of_hand p o old.walk.lives ≡ entries_of_hand p (Some row.page.fid) new.walk.lives
          of_hand None e = sym (ap (λ b. cond b (file_entries p row.page.fid) []) (lives_is ∙ (h.walked.begins (last_none old.walk e)).lives))
          of_hand (Some g) e = (λ i. entries_of_hand p (Some (old_hand g e i)) (sym lives_is i))

  -- ---- a page of a living directory
  module _ (is_met : IsMet p row Next) (pages : new.walk.pages ≡ old.walk.pages + 1) (long : new.walk.length ≡ old.walk.length + row.bytes) (goes : GoesOn row new.walk) (wanted : (new.walk.lives && is_directory row.page.fid && not old.slots.ended) ≡ true) where
    not_leader : Next ≢ Leader
    not_leader e = cc

    number_is : row.page.number ≡ old.walk.pages + 1
    number_is = sym goes.pages ∙ pages

    full : old.walk.length ≡ 512 * old.walk.pages
    full = let size = goes.size in omega (arith, size, long, number_is)

    seat : place (sights p) row.page.fid (suc old.walk.pages) ≡ Some row.at
    seat = (let number : suc old.walk.pages ≡ row.page.number = omega (arith, number_is) in ap (place (sights p) row.page.fid) number ∙ is_met.0)

    full_before : FullBefore p row.page.fid old.walk.pages
    full_before = (let number : row.page.number - 1 ≡ old.walk.pages = omega (arith, number_is) in subst (FullBefore p row.page.fid) number is_met.2)

    living_directory : (new.walk.lives && is_directory row.page.fid) ≡ true
    living_directory = by new.walk.lives (is_directory row.page.fid) old.slots.ended wanted
      where
        by : (a b e : Bool) → (a && b && not e) ≡ true → (a && b) ≡ true
        by true true e x = refl
        by true false e x = cc
        by false b e x = cc

    alive : new.walk.lives ≡ true
    alive = and_first new.walk.lives (is_directory row.page.fid) living_directory

    going : old.slots.ended ≡ false
    going = by new.walk.lives (is_directory row.page.fid) old.slots.ended wanted
      where
        by : (a b e : Bool) → (a && b && not e) ≡ true → e ≡ false
        by true true true x = cc
        by true true false x = refl
        by true false e x = cc
        by false b e x = cc

    there : file_in_hand old.walk ≡ Some row.page.fid
    there = was_in_hand Next is_met not_leader alive (file_in_hand old.walk) refl

    -- its words that count
    value_long : length (sector_at p row.at).value ≡ 256
    value_long = formed_pages_have_256_words p row.at row.page h.walked.formed (carried_row p row.at row first.here)

    page_is : counted_words p row.at ≡ words_at p row.at
    page_is = ap (λ n. take (n / 2) (sector_at p row.at).value) (sym ((labels_count p row.page.fid old.walk.pages row.at seat).says value_long))

    page_long : length (counted_words p row.at) ≡ row.bytes / 2
    page_long =
        let ranged = row_ranged p row.at row first.here in
        let cut = length-take (word (sector_at p row.at).label 3 / 2) (sector_at p row.at).value in
        omega (arith, cut, value_long, ranged.count, ranged.most)

    now : IsGiven p row.page.fid new (h.given ++ counted_words p row.at)
    now = record { rest = []; words = on_words; all = λ _. refl }
      where
        g : IsGiven p row.page.fid old h.given
        g = given_words Next is_met not_leader living_directory

        before : take (256 * old.walk.pages) (dir_words p row.page.fid) ≡ h.given
        before = (let half : 256 * old.walk.pages ≡ old.walk.length / 2 = omega (arith, full) in ap (λ n. take n (dir_words p row.page.fid)) half) ∙ g.words ∙ ap (λ l. h.given ++ l) (g.all going) ∙ append-nil h.given

        on_words : take (new.walk.length / 2) (dir_words p row.page.fid) ≡ (h.given ++ counted_words p row.at) ++ []
        on_words =
            let counted : length (words_at p row.at) ≡ row.bytes / 2 = sym (ap length page_is) ∙ page_long in
            let half : new.walk.length / 2 ≡ 256 * old.walk.pages + length (words_at p row.at) = omega (arith, long, full, counted) in
            ap (λ n. take n (dir_words p row.page.fid)) half ∙ sym (page_words_go_on p row.page.fid old.walk.pages row.at full_before seat) ∙ (λ i. before i ++ sym page_is i) ∙ sym (append-nil (h.given ++ counted_words p row.at))

    module _ (living : new.catalogue.living ≡ old.catalogue.living) (m : MeetsSlots row.page.fid h.given (h.given ++ counted_words p row.at) old.catalogue new.catalogue new.slots) (sectors : KeepsSector row old.catalogue new.catalogue) where
      -- all slots, those in the page with them
      slots_are : slots (h.given ++ counted_words p row.at) ≡ slots h.given ++ map (λ (s : SlotAt). s.item) m.slots
      slots_are =
          sym (items_at (h.given ++ counted_words p row.at) 0 (slots (h.given ++ counted_words p row.at)))
          ∙ ap (map (λ (s : SlotAt). s.item)) m.placed ∙ map-append (λ (s : SlotAt). s.item) (placed_slots h.given) m.slots
          ∙ ap (λ is. is ++ map (λ (s : SlotAt). s.item) m.slots) (items_at h.given 0 (slots h.given))

      all_words_are : all_words (slots h.given) + all_words (map (λ (s : SlotAt). s.item) m.slots) ≡ new.slots.place
      all_words_are = sym (m.walked.place ∙ ap all_words slots_are ∙ all_words-append (slots h.given) (map (λ (s : SlotAt). s.item) m.slots))

      most : new.slots.place ≤ 16776960
      most = let few = new.few in let low = new.walk.low in omega (arith, few, low)

      lives_are : new.walk.lives ≡ old.walk.lives
      lives_are = lives_is Next is_met not_leader

      root_page : new.catalogue.root_pages ≡ old.catalogue.root_pages ++ row.at ∷ [] → (r : RootInHand p old h.given) → file_in_hand new.walk ≡ Some sys_dir → ArePagesOf p sys_dir new.catalogue.root_pages
      root_page pages_are r e = subst (ArePagesOf p sys_dir) (sym pages_are) (by_place (r.count (sym lives_are ∙ alive) going))
        where
          at_end : (xs : List ℕ) (x : ℕ) → get_or (xs ++ x ∷ []) (length xs) 0 ≡ x
          at_end [] x = refl
          at_end (y ∷ xs) x = at_end xs x

          last_or : (n l : ℕ) → n < l + 1 → (n < l) ⊎ (n ≡ l)
          last_or n l = grind arith

          by_place : length old.catalogue.root_pages ≡ old.walk.pages → ArePagesOf p sys_dir (old.catalogue.root_pages ++ row.at ∷ [])
          by_place count n within = elim (last_or n (length old.catalogue.root_pages) (let sum = length-append old.catalogue.root_pages (row.at ∷ []) in omega (arith, within, sum))) [
            | inl l ↦ r.pages n l ∙ ap Some (sym (get_or_append_left old.catalogue.root_pages (row.at ∷ []) 0 n l))
            | inr last_is ↦
                ap (λ j. place (sights p) sys_dir (suc j)) (last_is ∙ count) ∙ ap (λ f. place (sights p) f (suc old.walk.pages)) (sym (own sys_dir e)) ∙ seat
                ∙ ap Some (sym (ap (λ j. get_or (old.catalogue.root_pages ++ row.at ∷ []) j 0) last_is ∙ at_end old.catalogue.root_pages row.at))
          ]

      root_more : file_in_hand new.walk ≡ Some sys_dir → RootInHand p new (h.given ++ counted_words p row.at)
      root_more e = record {
        rooms = subst (HasSlots new.catalogue.rooms) (ap (λ b. cond b (slots h.given ++ map (λ (s : SlotAt). s.item) m.slots) (slots h.given)) is_root ∙ sym slots_are) (m.rooms (slots h.given) r.rooms (omega (arith, all_words_are, most)));
        pages = root_page pages_are r e;
        none = λ dark. contrary alive dark;
        count = λ _ _. (let count = r.count (sym lives_are ∙ alive) going in let size = ap length pages_are ∙ length-append old.catalogue.root_pages (row.at ∷ []) in omega (arith, count, size, pages));
      }
        where
          is_root : is_fid row.page.fid sys_dir ≡ true
          is_root = subst (λ f. is_fid f sys_dir ≡ true) (sym (own sys_dir e)) (is_fid-itself sys_dir)

          r : RootInHand p old h.given
          r = h.root.hand (there ∙ ap Some (own sys_dir e))

          pages_are : new.catalogue.root_pages ≡ old.catalogue.root_pages ++ row.at ∷ []
          pages_are = sectors ∙ ap (λ b. old.catalogue.root_pages ++ cond b (row.at ∷ []) []) is_root

      isnt_root : file_in_hand new.walk ≢ Some sys_dir → (t : Bool) → is_fid row.page.fid sys_dir ≡ t → is_fid row.page.fid sys_dir ≡ false
      isnt_root other false t = t
      isnt_root other true t = absurd (other (hand ∙ ap Some (same_fid row.page.fid sys_dir t)))

      pub read_page : HasReadTo p (Some row) new
      read_page = record {
        walked = w;
        met = h.met;
        files = files_are Next is_met not_leader;
        living = living ∙ h.living;
        given = h.given ++ counted_words p row.at;
        words = record {
          walked = m.walked;
          start = λ e. absurd (no_hand e hand);
          none = λ f e off. contrary living_directory (ap (λ x. new.walk.lives && is_directory x) (own f e) ∙ off);
          words = λ f e on. subst (λ x. IsGiven p x new (h.given ++ counted_words p row.at)) (own f e) now;
        };
        entries_are = record {
          before = h.entries_are.before;
          entries_are =
              m.entries_are ∙ ap (λ es. es ++ entries_among row.page.fid m.slots) (h.entries_are.entries_are ∙ ap (λ o. h.entries_are.before ++ entries_in_hand o h.given) there)
              ∙ append_assoc h.entries_are.before (entries_among row.page.fid (placed_slots h.given)) (entries_among row.page.fid m.slots)
              ∙ ap (λ es. h.entries_are.before ++ es) (sym (ap (λ o. entries_in_hand o (h.given ++ counted_words p row.at)) hand ∙ ap (entries_among row.page.fid) m.placed ∙ among_append row.page.fid (placed_slots h.given) m.slots));
          all = h.entries_are.all ∙ ap (λ es. h.entries_are.before ++ es) ((λ i. entries_of_hand p (there i) (sym lives_are i)) ∙ ap (λ o. entries_of_hand p o new.walk.lives) (sym hand));
        };
        root = record {
          hand = root_more;
          other = λ other.
              let off = isnt_root other (is_fid row.page.fid sys_dir) refl in
              root_other (λ js few has. subst (HasSlots new.catalogue.rooms) (ap (λ b. cond b (js ++ map (λ (s : SlotAt). s.item) m.slots) js) off) (m.rooms js has (omega (arith, all_words_are, most, few))))
              (sectors ∙ ap (λ b. old.catalogue.root_pages ++ cond b (row.at ∷ []) []) off ∙ append-nil old.catalogue.root_pages) other;
        };
      }
