-- The end of a directory, where its slots end.
use Rattle.std.proofs.Common.{◌≡◌, ◌≢◌, inr, ℕ, suc, ◌+◌, ◌*◌, ◌/◌, ◌%◌, ◌<◌, ◌≤◌, nat_le, nat_lt, Bool, true, false, cond, List, Some, None, Result, Ok, Err, refl, sym, ap, subst, ◌∙◌, arith}
use Rattle.std.specs.Prelude.{◌&&◌, ◌==◌, OkIff, not}
use Rattle.std.proofs.lemmas.Bool.Decides.{nat_tests}
use Rattle.alto_words.specs.declared.fid.Fid.{Fid}
use Rattle.alto_words.specs.Fid.{is_directory, is_fid, is_full_name, serial_of}
use Rattle.disk_records.specs.declared.records.Page.{Page}
use Rattle.disk_records.specs.Addresses.{pages_of}
use Rattle.disk_records.specs.Commands.{relabel_writes}
use Rattle.disk_records.specs.Labels.{in_range, label_of, page_of, tag}
use Rattle.disk_records.specs.Packs.{Pack, after, carried, sector_at}
use Rattle.disk_records.specs.Words.{word}
use Rattle.pack_model.specs.hints.Links.{dir_words}
use Rattle.pack_model.specs.reading.Bytes.{words_of}
use Rattle.pack_model.specs.reading.Files.{file_bytes, lives, place}
use Rattle.pack_model.specs.reading.Sights.{sights}
use Rattle.pack_model.specs.reading.Slots.{SlotsReachEnd, all_words, slots}
use Rattle.laws_mend.specs.pack_laws.proofs.files.Laws.{places_are_lowest}
use Rattle.laws_mend.specs.pack_laws.proofs.guards.Laws.{relabel_keeps_the_page}
use Rattle.laws_mend.specs.pack_laws.proofs.Keys.{same_fid}
use Rattle.laws_mend.specs.laws_record.proofs.Heads.{all_read}
use Rattle.laws_mend.specs.laws_contents.proofs.pages.Laws.{page_numbers_are_words}
use Rattle.laws_mend.specs.laws_operation.proofs.Widening.{directory_length}
use Rattle.laws_mend.specs.PartLaws.{DirectoryIsCut}
use Rattle.laws_mend.specs.Parts.{Cleared, FreesMore}
use Rattle.laws_mend.proofs.counting.Laws.{directory_reaches_its_end}
use Rattle.laws_mend.proofs.numbers.Laws.{directory_cut_frees}
use Rattle.laws_mend.proofs.parts.Laws.{directory_cut_leaves}
use Rattle.laws_mend.proofs.runs.Laws.{directory_cut_tends}
use Rattle.scav_pages.specs.declared.directory.Directory.{Directory}
use Rattle.scav_pages.specs.declared.files.FileWalk.{FileWalk}
use Rattle.scav_pages.specs.Directories.{IsRead, MayBeCut}
use Rattle.scav_pages.specs.Parts.{DirectoryEnds, RelabelsHand}
use Rattle.scav_pages.specs.Walks.{file_in_hand}
use Rattle.scav_pages.proofs.Changing.{relabel_changes, relabel_same}
use Rattle.scav_pages.proofs.Keeping.{Mends, keeps_slots}
use Rattle.scav_pages.proofs.Leading.{leaders_beside, other_number}
use Rattle.scav_pages.proofs.Passing.{relabel_at, row_carried, row_placed}

-- ---- labels
-- a full name in the label of a page, and in one that is made for it
full_of : (a b c d e : Bool) → (a && b && c && d && e) ≡ true → ((b && c && d) ≡ true) × (a ≡ true) × (e ≡ true)
full_of true true true true true h = (refl, refl, refl)
full_of true true true true false h = absurd cc
full_of true true true false e h = absurd cc
full_of true true false d e h = absurd cc
full_of true false c d e h = absurd cc
full_of false b c d e h = absurd cc

named_fully : (label : List ℕ) (page : Page) → page_of label ≡ Some page → (is_full_name page.fid ≡ true) × (page.number < 65536)
unfolding in_range
named_fully label page names = by (in_range (tag label)) refl names
  where
    by : (t : Bool) → in_range (tag label) ≡ t → cond t (Some (record { fid = (tag label).fid; number = (tag label).page })) None ≡ Some page → (is_full_name page.fid ≡ true) × (page.number < 65536)
    by true e h =
        let same : record { fid = (tag label).fid; number = (tag label).page } ≡ page = cc in
        let v = (tag label).fid.version in
        let both = full_of (nat_le (tag label).bytes 512) (nat_le 1 v) (nat_le v 65534) (not (serial_of (tag label).fid == 0)) (nat_lt (tag label).page 65536) e in
        let low = both.2 in
        let few : (tag label).page < 65536 = grind (arith, nat_tests, low) in
        (subst (λ (x : Page). is_full_name x.fid ≡ true) same both.0, subst (λ (x : Page). x.number < 65536) same few)
    by false e h = cc

made_range : (page : Page) (bytes next previous : ℕ) → is_full_name page.fid ≡ true → page.number < 65536 → bytes ≤ 512 → in_range (tag (label_of page bytes next previous)) ≡ true
unfolding in_range
made_range page bytes next previous full low few = grind (arith, nat_tests)

pub made_names : (found : List ℕ) {label : List ℕ} (page : Page) (bytes next previous : ℕ) → page_of found ≡ Some page → label ≡ label_of page bytes next previous → bytes ≤ 512 → page_of label ≡ Some page
made_names found page bytes next previous names is few =
    let fully = named_fully found page names in
    ap page_of is ∙ ap (λ t. cond t (Some page) None) (made_range page bytes next previous fully.0 fully.1 few)

-- ---- a number that is a word
pub word_of : {E : Type 0} {n k : ℕ} (r : Result ℕ E) → OkIff r (n < 65536) n → r ≡ Ok k → k ≡ n
word_of (Ok x) h is = let same : x ≡ _ = h.1 in cc
word_of (Err e) h is = cc

pub no_word : {E : Type 0} {n : ℕ} {e : E} (r : Result ℕ E) → OkIff r (n < 65536) n → r ≡ Err e → n < 65536 → ⊥
no_word (Ok x) h is low = cc
no_word (Err x) h is low = h low

-- ---- nothing is written
frees_none : (p : Pack) → FreesMore p p 0
frees_none p = record { free = omega arith; available_is = refl }

module _ (p : Pack) (dir : Directory) (fid : Fid) (cleared : Cleared p) (hand : file_in_hand dir.walk ≡ Some fid) where
  pub left_alone : (lives (sights p) fid ≡ true → is_directory fid ≡ true → SlotsReachEnd (file_bytes (sights p) fid)) → DirectoryEnds dir p p tt
  left_alone h = record {
    cleared = cleared;
    ends = λ d e living isdir. (let same : fid ≡ d = cc in subst (λ f. SlotsReachEnd (file_bytes (sights p) f)) same (h (subst (λ f. lives (sights p) f ≡ true) (sym same) living) (subst (λ f. is_directory f ≡ true) (sym same) isdir)));
    others = λ f n. refl;
    lives_are = λ f. refl;
    places_are = λ f n. refl;
    frees = frees_none p;
  }

  module _ (may : MayBeCut p dir) where
    pub dead_alone : dir.walk.lives ≡ false → DirectoryEnds dir p p tt
    dead_alone dead = left_alone (λ living isdir. (let is = (may fid hand).0 in absurd (let no : true ≡ false = sym living ∙ sym is ∙ dead in cc)))

    pub file_alone : is_directory fid ≡ false → DirectoryEnds dir p p tt
    file_alone plain = left_alone (λ living isdir. absurd (let both : true ≡ false = sym isdir ∙ plain in cc))

    pub whole_alone : 2 * dir.slots.place ≡ dir.walk.length → DirectoryEnds dir p p tt
    whole_alone same = left_alone (λ living isdir. (let read = (may fid hand).1 living isdir in directory_reaches_its_end p fid (ap (λ n. 2 * n) (sym read.end) ∙ same ∙ read.size)))

    -- ---- its label is written
    module _ (living : dir.walk.lives ≡ true) (isdir : is_directory fid ≡ true) (differs : 2 * dir.slots.place ≢ dir.walk.length) where
      alive : lives (sights p) fid ≡ true
      alive = sym (may fid hand).0 ∙ living

      read : IsRead p fid dir
      read = (may fid hand).1 alive isdir

      seat : place (sights p) fid (suc (dir.slots.place / 256)) ≡ Some dir.at
      seat = read.sector differs

      pub number_low : dir.slots.place / 256 + 1 < 65536
      number_low = let low = page_numbers_are_words p fid (suc (dir.slots.place / 256)) dir.at seat in omega (arith, low)

      pub carried_here : (number : ℕ) → number ≡ dir.slots.place / 256 + 1 → carried p dir.at ≡ Some (record { fid = fid; number = number })
      carried_here number is =
          let next : suc (dir.slots.place / 256) ≡ number = omega (arith, is) in
          subst (λ n. carried p dir.at ≡ Some (record { fid = fid; number = n })) next ((places_are_lowest p (record { fid = fid; number = suc (dir.slots.place / 256) })).lowest dir.at seat).here

      pub placed_here : (1 ≤ dir.at) × (dir.at < pages_of p.shape)
      placed_here = let placed = row_placed p dir.at _ (row_carried p dir.at _ (carried_here (dir.slots.place / 256 + 1) refl)) in (placed.1, placed.2)

      module _ (label : List ℕ) (number : ℕ) (is : number ≡ dir.slots.place / 256 + 1) (names_it : page_of label ≡ Some (record { fid = fid; number = number })) (count : (tag label).bytes ≡ 2 * dir.slots.place % 512) where
        names : page_of label ≡ Some (record { fid = fid; number = suc (dir.slots.place / 256) })
        names = let next : number ≡ suc (dir.slots.place / 256) = omega (arith, is) in subst (λ n. page_of label ≡ Some (record { fid = fid; number = n })) next names_it

        less : (tag label).bytes < 512
        less = subst (λ n. n < 512) (sym count) (omega arith)

        sum : 512 * (dir.slots.place / 256) + (tag label).bytes ≡ all_words (slots (dir_words p fid)) * 2
        sum =
            let plain : 512 * (dir.slots.place / 256) + 2 * dir.slots.place % 512 ≡ dir.slots.place * 2 = omega arith in
            ap (λ n. 512 * (dir.slots.place / 256) + n) count ∙ plain ∙ ap (λ n. n * 2) read.end

        cut : DirectoryIsCut p (after p (relabel_writes dir.at label (sector_at p dir.at).value)) fid
        cut = directory_cut_leaves p fid dir.at (dir.slots.place / 256) label isdir seat names less sum

        -- the label that stands doesn't end the directory with its slots
        other_label : label ≢ (sector_at p dir.at).label
        other_label same =
            let whole : SlotsReachEnd (file_bytes (sights p) fid) = subst (λ x. SlotsReachEnd (file_bytes (sights x) fid)) (relabel_same p dir.at label same) (cut.ends alive) in
            let all = all_read (dir_words p fid) whole.items whole.reads in
            let long = directory_length whole.items (file_bytes (sights p) fid) whole.even all.1 in
            let end : dir.slots.place ≡ all_words whole.items = read.end ∙ ap all_words all.0 in
            differs (omega (arith, long, end, read.size))

        pub cut_mends : Mends p (relabel_writes dir.at label (sector_at p dir.at).value)
        cut_mends = record {
          each = record {
            tends = directory_cut_tends p fid dir.at (dir.slots.place / 256) label isdir seat names less sum;
            changes = relabel_changes p dir.at label (sector_at p dir.at).value other_label;
          };
          keeps = keeps_slots cut.lives_are (leaders_beside (relabel_keeps_the_page p dir.at (record { fid = fid; number = suc (dir.slots.place / 256) }) label 2 here names (omega arith)) cut.lives_are (λ f e. other_number fid f (dir.slots.place / 256) (sym here ∙ e)) (λ f. other_number fid f (dir.slots.place / 256))) (λ d live other_dir. slots_or d live (is_fid d fid) refl);
        }
          where
            here : carried p dir.at ≡ Some (record { fid = fid; number = suc (dir.slots.place / 256) })
            here = ((places_are_lowest p (record { fid = fid; number = suc (dir.slots.place / 256) })).lowest dir.at seat).here

            slots_or : (d : Fid) → lives (sights p) d ≡ true → (t : Bool) → is_fid d fid ≡ t → slots (dir_words (after p (relabel_writes dir.at label (sector_at p dir.at).value)) d) ≡ slots (dir_words p d)
            slots_or d live true e = subst (λ f. slots (dir_words (after p (relabel_writes dir.at label (sector_at p dir.at).value)) f) ≡ slots (dir_words p f)) (sym (same_fid d fid e)) (cut.slots_are alive)
            slots_or d live false e = ap (λ bytes. slots (words_of bytes)) (cut.others d e)

        pub cut_ends : (q : Pack) → q ≡ after p (relabel_writes dir.at label (sector_at p dir.at).value) → DirectoryEnds dir p q tt
        cut_ends q left = subst (λ x. DirectoryEnds dir p x tt) (sym left) (record {
          cleared = cut.cleared cleared;
          ends = λ d e alive isdir. (let same : fid ≡ d = cc in subst (λ f. SlotsReachEnd (file_bytes (sights r) f)) same (cut.ends (sym (cut.lives_are fid) ∙ subst (λ f. lives (sights r) f ≡ true) (sym same) alive)));
          others = λ f other. cut.others f (not_hand f (is_fid f fid) refl other);
          lives_are = cut.lives_are;
          places_are = cut.places_are;
          frees = directory_cut_frees p fid dir.at (dir.slots.place / 256) label isdir seat names less sum;
        })
          where
            r : Pack
            r = after p (relabel_writes dir.at label (sector_at p dir.at).value)

            not_hand : (f : Fid) (t : Bool) → is_fid f fid ≡ t → file_in_hand dir.walk ≢ Some f → is_fid f fid ≡ false
            not_hand f true e other = absurd (other (hand ∙ ap Some (sym (same_fid f fid e))))
            not_hand f false e other = e

-- whatever the sector shows besides, it carries its page with the new label
pub relabels_hand : (walk : FileWalk) (p q : Pack) (at : ℕ) (page : Page) (label : List ℕ) → file_in_hand walk ≡ Some page.fid → carried p at ≡ Some page → page_of label ≡ Some page → q ≡ after p (relabel_writes at label (sector_at p at).value) → RelabelsHand walk p q
relabels_hand walk p q at page label hand was names left = subst (RelabelsHand walk p) (sym left) (inr (
  at,
  record {
    written = relabel_at p at label (sector_at p at).value;
    page = page;
    carried_it = was;
    carries = (relabel_keeps_the_page p at page label 2 was names (omega arith)).page_here;
    hand = hand;
  },
))

-- a label that names a page counts at most 512 bytes
pub label_counts : (label : List ℕ) (page : Page) → page_of label ≡ Some page → word label 3 ≤ 512
unfolding in_range
label_counts label page names = by (in_range (tag label)) refl names
  where
    by : (t : Bool) → in_range (tag label) ≡ t → cond t (Some (record { fid = (tag label).fid; number = (tag label).page })) None ≡ Some page → word label 3 ≤ 512
    by true e h =
        let v = (tag label).fid.version in
        let first = (full_of (nat_le (tag label).bytes 512) (nat_le 1 v) (nat_le v 65534) (not (serial_of (tag label).fid == 0)) (nat_lt (tag label).page 65536) e).1 in
        grind (arith, nat_tests, first)
    by false e h = cc
