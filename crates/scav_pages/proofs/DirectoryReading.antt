-- The next row is taken by the directory in hand.
use Rattle.std.proofs.Common.{◌≡◌, ◌≢◌, ℕ, suc, ◌+◌, ◌-◌, ◌*◌, ◌/◌, ◌<◌, ◌≤◌, Bool, true, false, List, [], ◌++◌, length, take, Option, Some, None, refl, sym, ap, subst, ◌∙◌, arith, append-nil, length-append, length-take}
use denote.Enum.Bare.{sameb}
use Rattle.std.specs.Prelude.{◌&&◌, not}
use Rattle.std.proofs.lemmas.List.{take_all}
use Rattle.alto_words.specs.declared.fid.Fid.{Fid}
use Rattle.alto_words.specs.Fid.{is_directory, is_fid}
use Rattle.disk_records.specs.declared.records.Sector.{Sector}
use Rattle.disk_records.specs.Packs.{AreFormed, Pack, sector_at}
use Rattle.disk_records.specs.Words.{word}
use Rattle.disk_records.proofs.Bytes.{length-words_of}
use Rattle.dir_slots.specs.Walks as slot_walk
use Rattle.dir_slots.proofs.Hands.{slots_within}
use Rattle.pack_model.specs.hints.Links.{dir_words}
use Rattle.pack_model.specs.reading.Files.{file_bytes, lives, place}
use Rattle.pack_model.specs.reading.Sights.{sights}
use Rattle.pack_model.specs.reading.Slots.{all_words, slots}
use Rattle.laws_mend.specs.pack_laws.proofs.Keys.{is_fid-itself, same_fid}
use Rattle.laws_mend.specs.laws_contents.specs.PageLaws.{FullBefore, bytes_at}
use Rattle.laws_mend.specs.laws_contents.specs.WordContents.{words_at}
use Rattle.laws_mend.specs.laws_contents.proofs.pages.Laws.{formed_pages_have_256_words, labels_count}
use Rattle.scav_table.specs.declared.row.Row.{Row}
use Rattle.scav_table.specs.Laws.{IsFirstAbove}
use Rattle.scav_table.specs.Rows.{row_at}
use Rattle.scav_pages.specs.contracts.files.Met.{the_type}
use Rattle.scav_pages.specs.declared.directory.Directory.{Directory}
use Rattle.scav_pages.specs.declared.files.FileWalk.{FileWalk}
use Rattle.scav_pages.specs.declared.files.Met.{Met}
use Rattle.scav_pages.specs.declared.files.Met.TheVariants.{Copy, Leader, Next, Past}
use Rattle.scav_pages.specs.Directories.{HasRead, IsRead, IsReadTo, MayBeCut}
use Rattle.scav_pages.specs.Walks.{GoesOn, IsFresh, IsLeft, IsMet, IsOtherFile, Walked, bytes_met, file_in_hand, pages_met}
use Rattle.scav_pages.specs.WalkLaws.{IsKnown}
use Rattle.scav_pages.proofs.Passing.{carried_row, contrary}
use Rattle.scav_pages.proofs.Ranking.{IsRanged, row_ranged}
use Rattle.scav_pages.proofs.SlotReading.{fed_read, past_read, same_read}
use Rattle.scav_pages.proofs.Walking.{left_file_is_known}

-- no page of a file that comes next was read
fresh_read : (p : Pack) (d : Fid) (dir : Directory) → IsFresh dir.walk → slot_walk.Walked [] dir.slots → HasRead p d dir
fresh_read p d dir fresh walked = record {
  given = [];
  rest = [];
  walked = walked;
  words = ap (λ n. take (n / 2) (dir_words p d)) fresh.length;
  all = λ _. refl;
  sector = λ l. absurd (let none = fresh.pages in omega (arith, l, none));
}

-- the words of a page that is read are those that count
whole_words : (p : Pack) (d : Fid) (k : ℕ) (row : Row) → AreFormed p → row_at p row.at ≡ Some row → place (sights p) d (suc k) ≡ Some row.at → (s : Sector) (n : ℕ) → s ≡ sector_at p row.at → n ≡ word s.label 3 → (take (n / 2) s.value ≡ words_at p row.at) × (length (take (n / 2) s.value) ≡ row.bytes / 2)
whole_words p d k row formed here seat s n s_is n_is = (
  (λ i. take (n_says i / 2) (s_is i).value),
  (let cut = length-take (n / 2) s.value in omega (arith, cut, s_long, count, n_label, most)),
)
  where
    ranged : IsRanged p row.at row
    ranged = row_ranged p row.at row here

    long : length (sector_at p row.at).value ≡ 256
    long = formed_pages_have_256_words p row.at row.page formed (carried_row p row.at row here)

    s_long : length s.value ≡ 256
    s_long = ap (λ (x : Sector). length x.value) s_is ∙ long

    n_label : n ≡ word (sector_at p row.at).label 3
    n_label = n_is ∙ ap (λ (x : Sector). word x.label 3) s_is

    n_says : n ≡ length (bytes_at p row.at)
    n_says = n_label ∙ sym ((labels_count p d k row.at seat).says long)

    count : row.bytes ≡ word (sector_at p row.at).label 3
    count = ranged.count

    most : row.bytes ≤ 512
    most = ranged.most

-- a row other than the next data page adds nothing
pub none_met : (met : Met) → met ≢ Next → pages_met met ≡ 0
none_met Copy other = refl
none_met Leader other = refl
none_met Next other = absurd (other refl)
none_met Past other = refl

pub no_bytes : (met : Met) (row : Row) → met ≢ Next → bytes_met met row ≡ 0
no_bytes Copy row other = refl
no_bytes Leader row other = refl
no_bytes Next row other = absurd (other refl)
no_bytes Past row other = refl

-- the test whether a row is the next data page
pub next_of : (met : Met) → not (sameb the_type met Next) ≡ false → met ≡ Next
next_of Copy h = cc
next_of Leader h = cc
next_of Next h = refl
next_of Past h = cc

pub not_next : (met : Met) → not (sameb the_type met Next) ≡ true → met ≢ Next
not_next Copy h e = cc
not_next Leader h e = cc
not_next Next h e = cc
not_next Past h e = cc

-- the number of a next data page
pub number_of : (old new : FileWalk) (row : Row) (met : Met) → new.pages ≡ old.pages + pages_met met → met ≡ Next → GoesOn row new → row.page.number ≡ old.pages + 1
number_of old new row met pages next goes = sym goes.pages ∙ pages ∙ ap (λ m. old.pages + pages_met m) next

-- no slot was met that can't be read, if words are wanted
pub going_of : (a b e : Bool) → (a && b && not e) ≡ true → e ≡ false
going_of true true true h = cc
going_of true true false h = refl
going_of true false e h = cc
going_of false b e h = cc

module _ (p : Pack) (last : Option Row) (row : Row) (old new : Directory) (is : IsReadTo p last old) (same : IsOtherFile old.walk row → ⊥) (walked : Walked p (Some row) new.walk) (hand : file_in_hand new.walk ≡ Some row.page.fid) where
  fid : Fid
  fid = row.page.fid

  before : lives (sights p) row.page.fid ≡ true → is_directory row.page.fid ≡ true → HasRead p row.page.fid old
  before living isdir = by (file_in_hand old.walk) refl
    where
      by : (o : Option Fid) → file_in_hand old.walk ≡ o → HasRead p row.page.fid old
      by None e = let f = is.fresh e in fresh_read p row.page.fid old f.0 f.1
      by (Some f) e = by_test (is_fid f row.page.fid) refl
        where
          by_test : (t : Bool) → is_fid f row.page.fid ≡ t → HasRead p row.page.fid old
          by_test true t = is.read row.page.fid (e ∙ ap Some (same_fid f row.page.fid t)) living isdir
          by_test false t = absurd (same ((λ none. (let both : Some f ≡ None = sym e ∙ none in cc)), (λ here. (let one : Some f ≡ Some row.page.fid = sym e ∙ here in let two : f ≡ row.page.fid = cc in contrary (subst (λ x. is_fid f x ≡ true) two (is_fid-itself f)) t))))

  read_to : (lives (sights p) row.page.fid ≡ true → is_directory row.page.fid ≡ true → HasRead p row.page.fid new) → IsReadTo p (Some row) new
  read_to h = record {
    walked = walked;
    fresh = λ none. absurd (let both : None ≡ Some row.page.fid = sym none ∙ hand in cc);
    read = λ d e living isdir. (let one : Some row.page.fid ≡ Some d = sym hand ∙ e in let two : row.page.fid ≡ d = cc in
        subst (λ f. HasRead p f new) two (h (subst (λ f. lives (sights p) f ≡ true) (sym two) living) (subst (λ f. is_directory f ≡ true) (sym two) isdir)));
  }

  module _ (met : Met) (pages : new.walk.pages ≡ old.walk.pages + pages_met met) (bytes : new.walk.length ≡ old.walk.length + bytes_met met row) where
    -- it is no next data page
    pub read_other : met ≢ Next → new.slots ≡ old.slots → new.at ≡ old.at → IsReadTo p (Some row) new
    read_other other slots at = read_to (λ living isdir.
        let few = none_met met other in
        let none = no_bytes met row other in
        same_read p row.page.fid old new (before living isdir) (omega (arith, bytes, none)) (omega (arith, pages, few)) slots at)

    -- it is one, and its words are past the slots that can be read, or no slots
    module _ (next : met ≡ Next) (goes : GoesOn row new.walk) where
      one_more : new.walk.pages ≡ old.walk.pages + 1
      one_more = pages ∙ ap (λ m. old.walk.pages + pages_met m) next

      longer : new.walk.length ≡ old.walk.length + row.bytes
      longer = bytes ∙ ap (λ m. old.walk.length + bytes_met m row) next

      number_is : row.page.number ≡ old.walk.pages + 1
      number_is = sym goes.pages ∙ one_more

      full : old.walk.length ≡ 512 * old.walk.pages
      full = let size = goes.size in omega (arith, size, longer, number_is)

      pub read_past : (new.walk.lives && is_directory row.page.fid && not old.slots.ended) ≡ false → new.slots ≡ old.slots → new.at ≡ old.at → IsReadTo p (Some row) new
      read_past unwanted slots at = read_to (λ living isdir.
          past_read p row.page.fid old new (before living isdir) row.bytes (ended_of new.walk.lives (is_directory row.page.fid) old.slots.ended unwanted ((walked.file row.page.fid hand).lives_is ∙ living) isdir) full longer slots at)
        where
          ended_of : (a b e : Bool) → (a && b && not e) ≡ false → a ≡ true → b ≡ true → e ≡ true
          ended_of true true true h x y = refl
          ended_of true true false h x y = cc
          ended_of true false e h x y = cc
          ended_of false b e h x y = cc

      -- its words are given to the slot walk
      pub read_fed : (first : IsFirstAbove p last row) (is_met : IsMet p row met) (s : Sector) (n : ℕ) → s ≡ sector_at p row.at → n ≡ word s.label 3 → old.slots.ended ≡ false
          → ((given : List ℕ) → slot_walk.Walked given old.slots → slot_walk.Walked (given ++ take (n / 2) s.value) new.slots)
          → (new.slots.place / 256 ≡ old.walk.pages → new.at ≡ row.at) → (new.slots.place / 256 ≢ old.walk.pages → new.at ≡ old.at) → IsReadTo p (Some row) new
      read_fed first is_met s n s_is n_is going walks here elsewhere = read_to (λ living isdir.
          let m : IsMet p row Next = subst (IsMet p row) next is_met in
          let seat : place (sights p) row.page.fid (suc old.walk.pages) ≡ Some row.at = (let number : suc old.walk.pages ≡ row.page.number = omega (arith, number_is) in ap (place (sights p) row.page.fid) number ∙ m.0) in
          let full_before : FullBefore p row.page.fid old.walk.pages = (let number : row.page.number - 1 ≡ old.walk.pages = omega (arith, number_is) in subst (FullBefore p row.page.fid) number m.2) in
          let w = whole_words p row.page.fid old.walk.pages row walked.formed first.here seat s n s_is n_is in
          fed_read p row.page.fid old new (before living isdir) row.bytes row.at (take (n / 2) s.value) going full_before full seat w.0 w.1 one_more longer walks here elsewhere)

-- ---- the directory that is left
pub may_cut : (p : Pack) (last : Option Row) (dir : Directory) → IsReadTo p last dir → IsLeft p last dir.walk → MayBeCut p dir
may_cut p last dir is left d hand = (known.lives_is, whole)
  where
    known : IsKnown p d dir.walk
    known = left_file_is_known p last dir.walk d is.walked hand (left d hand)

    whole : lives (sights p) d ≡ true → is_directory d ≡ true → IsRead p d dir
    whole living isdir = record { size = known.size; end = end; sector = λ differs. h.sector (within dir.walk.goes_on refl differs) }
      where
        h : HasRead p d dir
        h = is.read d hand living isdir

        long : length (dir_words p d) ≡ dir.walk.length / 2
        long = let half = length-words_of (file_bytes (sights p) d) in let size = known.size in omega (arith, half, size)

        all : dir_words p d ≡ h.given ++ h.rest
        all = sym (take_all (dir.walk.length / 2) (dir_words p d) (omega (arith, long))) ∙ h.words

        no_more : (t : Bool) → dir.slots.ended ≡ t → slots (h.given ++ h.rest) ≡ slots h.given
        no_more true e = h.walked.ended e h.rest
        no_more false e = ap (λ l. slots (h.given ++ l)) (h.all e) ∙ ap slots (append-nil h.given)

        end : dir.slots.place ≡ all_words (slots (dir_words p d))
        end = h.walked.place ∙ ap all_words (sym (ap slots all ∙ no_more dir.slots.ended refl))

        most : dir.slots.place ≤ dir.walk.length / 2
        most = let at = h.walked.place in let low = slots_within h.given in let sum = length-append h.given h.rest in let size = ap length all in omega (arith, at, low, sum, size, long)

        within : (t : Bool) → dir.walk.goes_on ≡ t → 2 * dir.slots.place ≢ dir.walk.length → dir.slots.place / 256 < dir.walk.pages
        within true e differs = let full = (known.missing e).0 in omega (arith, full, most, differs)
        within false e differs = let ends = (is.walked.file d hand).ended e in let size = ends.size in let pages = ends.pages in let same = known.size in omega (arith, most, size, pages, same)
