-- A walk along rows: the file in hand, and what the next row is to it.
use Rattle.std.proofs.Common.{◌≡◌, ◌≢◌, ◌⊎◌, inl, inr, ℕ, zero, suc, ◌+◌, ◌-◌, ◌*◌, ◌/◌, ◌<◌, ◌≤◌, ◌==◌, Bool, true, false, length, Option, Some, None, refl, sym, ap, subst, ◌∙◌, arith}
use Rattle.std.specs.Option.{is_some, option_map}
use Rattle.std.proofs.lemmas.Bool.Decides.{nat_tests}
use Rattle.alto_words.specs.declared.fid.Fid.{Fid}
use Rattle.disk_records.specs.declared.records.Page.{Page}
use Rattle.disk_records.specs.Packs.{AreFormed, Pack, carried, sector_at}
use Rattle.laws_mend.specs.laws_contents.specs.PageLaws.{FullBefore, bytes_at}
use Rattle.laws_mend.specs.laws_contents.proofs.ends.Laws.{last_page_ends_the_file, missing_page_ends_the_file}
use Rattle.laws_mend.specs.laws_contents.proofs.pages.Laws.{formed_pages_have_256_words, full_before_the_next, labels_count, none_before_the_first}
use Rattle.alto_words.specs.Fid.{is_fid}
use Rattle.laws_mend.specs.pack_laws.proofs.Keys.{is_fid-itself, same_fid}
use Rattle.laws_mend.specs.pack_laws.proofs.Placing.{leader_of_place, no_leader}
use Rattle.laws_mend.specs.pack_laws.proofs.files.Laws.{places_are_lowest}
use Rattle.pack_model.specs.reading.Files.{file_bytes, lives, place}
use Rattle.pack_model.specs.reading.Sights.{sights}
use Rattle.scav_table.specs.declared.row.Row.{Row}
use Rattle.scav_table.specs.Laws.{IsFirstAbove}
use Rattle.scav_table.specs.Passes.{IsPassed}
use Rattle.scav_table.specs.Rows.{is_above, is_below, rank, row_at}
use Rattle.scav_pages.specs.declared.files.FileWalk.{FileWalk}
use Rattle.scav_pages.specs.declared.files.Met.TheVariants.{Past}
use Rattle.scav_pages.specs.Begins.{Begun}
use Rattle.scav_pages.specs.WalkLaws.{LeavesItsFile, LeavesTheLastFile, LeftFileIsKnown}
use Rattle.scav_pages.specs.Walks.{AreWords, EndsAt, IsFresh, IsInFile, IsInHand, IsMet, IsOtherFile, NoneAbove, Walked, file_in_hand, page_in_hand}
use Rattle.scav_pages.proofs.Passing.{carried_row, contrary, passed_more, passed_row, some_row}
use Rattle.scav_pages.proofs.Ranking.{HasRow, IsOfOther, IsOtherPage, above_last, all_later, between_fids, isnt_lower, later_number, lower_is, number_later, row_of_place, row_ranged, row_seated, same_ranks, words_of}

-- ---- the file in hand
-- a file is in hand, or it isn't
pub hand_or : (hand : Option Fid) (f : Fid) → (hand ≡ Some f) ⊎ (hand ≢ Some f)
hand_or None f = inr (λ e. cc)
hand_or (Some g) f = by (is_fid g f) refl
  where
    by : (t : Bool) → is_fid g f ≡ t → (Some g ≡ Some f) ⊎ (Some g ≢ Some f)
    by true e = inl (ap Some (same_fid g f e))
    by false e = inr (λ is. (let same : g ≡ f = cc in contrary (subst (λ x. is_fid g x ≡ true) same (is_fid-itself g)) e))

-- it is that of the walk's row
hand_is : (walk : FileWalk) (row : Row) (f : Fid) → walk.last ≡ Some row → file_in_hand walk ≡ Some f → row.page.fid ≡ f
hand_is walk row f e h = let both : Some row.page.fid ≡ Some f = sym (ap (option_map (λ r. r.page.fid)) e) ∙ h in cc

-- the walk's row, and the last row, of which it has the page
pub record Hand (p : Pack) (last : Option Row) (walk : FileWalk) (f : Fid) : Type 0 where
  pub row : Row
  pub is : walk.last ≡ Some row
  pub fid : row.page.fid ≡ f
  pub b : Row
  pub last_is : last ≡ Some b
  pub page : b.page ≡ row.page
  pub words : AreWords b
  pub hand : IsInHand p last walk row

pub hand_of : {p : Pack} {last : Option Row} {walk : FileWalk} (f : Fid) → Walked p last walk → file_in_hand walk ≡ Some f → Hand p last walk f
hand_of {p} {last} {walk} f w h = by_last walk.last refl last refl
  where
    by_last : (o : Option Row) → walk.last ≡ o → (l : Option Row) → last ≡ l → Hand p last walk f
    by_last None e l d = absurd (let no : None ≡ Some f = sym (ap (option_map (λ r. r.page.fid)) e) ∙ h in cc)
    by_last (Some row) e None d = absurd (let no : None ≡ Some row.page = sym (ap (option_map (λ r. r.page)) d) ∙ (w.hand row e).page in cc)
    by_last (Some row) e (Some b) d =
        record {
          row = row;
          is = e;
          fid = hand_is walk row f e h;
          b = b;
          last_is = d;
          page = (let same : Some b.page ≡ Some row.page = sym (ap (option_map (λ r. r.page)) d) ∙ (w.hand row e).page in cc);
          words = w.words b d;
          hand = w.hand row e;
        }

-- ---- the file that is left
-- a row of another file comes next: no row of the file in hand comes after those that were met
pub leaves_its_file : LeavesItsFile
leaves_its_file p last walk row w words first other f h at r is above same =
    let hand = hand_of f w h in
    let fid : hand.b.page.fid ≡ r.page.fid = ap (λ x. x.fid) hand.page ∙ hand.fid ∙ same in
    let rw : AreWords r = words_of p at r hand.b is hand.words (sym fid) in
    let low : rank hand.b < rank row = above_last last hand.b row hand.last_is first.above in
    let high : rank row ≤ rank r = isnt_lower r row (first.least at r is above) in
    let between : row.page.fid ≡ r.page.fid = between_fids hand.b row r words rw hand.words.at hand.words.number fid (omega (arith, low)) high in
    other.1 (h ∙ ap (λ x. Some x) (same ∙ sym between))

-- where no row comes next none is above the last row
pub leaves_the_last_file : LeavesTheLastFile
leaves_the_last_file p last walk n f h at r is above same = contrary above (subst (IsPassed last) is (n at))

-- ---- what the walk says of the file that is left
-- where the bytes go on, the page after those that were met has no place
none_after : (p : Pack) (last : Option Row) (f : Fid) (walk : FileWalk) → IsInFile p last f walk → walk.goes_on ≡ true → NoneAbove p last f → place (sights p) f (suc walk.pages) ≡ None
none_after p last f walk known on none = by_place (place (sights p) f (suc walk.pages)) refl
  where
    by_place : (o : Option ℕ) → place (sights p) f (suc walk.pages) ≡ o → o ≡ None
    by_place None e = refl
    by_place (Some at) e =
        let r = row_of_place p (record { fid = f; number = suc walk.pages }) at e in
        absurd (none at r.row r.is (known.next on at r.row e r.is) (sym (ap (λ x. x.fid) r.page_is)))

pub left_file_is_known : LeftFileIsKnown
left_file_is_known p last walk f w h none =
    let known = w.file f h in
    record {
      lives_is = known.lives_is;
      size = by_test walk.goes_on refl;
      missing = λ on. ((known.full on).1, none_after p last f walk known on none);
      there = λ off.
          let e = known.ended off in
          subst (λ n. is_some (place (sights p) f n) ≡ true) (e.pages ∙ ap (λ n. suc (n / 512)) e.size) e.carried;
    }
  where
    by_test : (t : Bool) → walk.goes_on ≡ t → walk.length ≡ length (file_bytes (sights p) f)
    by_test true on =
        let known = w.file f h in
        let full = known.full on in
        full.1 ∙ sym (missing_page_ends_the_file p f walk.pages full.0 (none_after p last f walk known on none))
    by_test false off = ((w.file f h).ended off).size

-- ---- a row is taken
leads_lives : (p : Pack) (f : Fid) (at : ℕ) → place (sights p) f 0 ≡ Some at → lives (sights p) f ≡ true
leads_lives p f at is = ap is_some ((leader_of_place (sights p) f at is).leader_is)

ends_as : {p : Pack} {f : Fid} {m n k l : ℕ} → m ≡ n → k ≡ l → EndsAt p f m k → EndsAt p f n l
ends_as {p} {f} {m} {n} {k} {l} d e x = subst (λ y. EndsAt p f y l) d (subst (EndsAt p f m) e x)

module _ {p : Pack} {last : Option Row} {row : Row} {walk : FileWalk} (b : Begun p last row walk) where
  -- the walk has it in hand
  taken : (new : FileWalk) → new.last ≡ Some row → new.pages ≤ row.page.number → IsInFile p (Some row) row.page.fid new → Walked p (Some row) new
  taken new e few file = record {
    formed = b.formed;
    words = λ r is. subst AreWords (some_row is) b.words;
    begins = λ none. absurd (let no : None ≡ Some row = sym none ∙ e in cc);
    fresh = λ none. absurd (let no : None ≡ Some row = sym none ∙ e in cc);
    hand = λ r is. subst (IsInHand p (Some row) new) (some_row (sym e ∙ is)) (record { page = refl; seated = b.seated; passed = passed_row p row b.first.here; pages = few });
    file = λ f is. subst (λ g. IsInFile p (Some row) g new) (hand_is new row f e is) file;
  }

  -- a page of its file that is to come is above it
  above_row : (n at : ℕ) (r : Row) → row.page.number < n → place (sights p) row.page.fid n ≡ Some at → row_at p at ≡ Some r → is_above (Some row) r ≡ true
  above_row n at r l e is =
      let h = row_of_place p (record { fid = row.page.fid; number = n }) at e in
      let same : h.row ≡ r = some_row (sym h.is ∙ is) in
      let fid : row.page.fid ≡ r.page.fid = sym (ap (λ x. x.fid) h.page_is) ∙ ap (λ x. x.page.fid) same in
      let number : r.page.number ≡ n = sym (ap (λ x. x.page.number) same) ∙ ap (λ x. x.number) h.page_is in
      lower_is row r (later_number row r b.words.at fid (omega (arith, number, l)))

  -- the leader page
  pub took_leader : (new : FileWalk) → row.page.number ≡ 0 → new.last ≡ Some row → new.lives ≡ true → new.pages ≡ walk.pages → new.goes_on ≡ walk.goes_on → new.length ≡ walk.length → Walked p (Some row) new
  took_leader new zero_is e living pages on size =
      let few : walk.pages ≤ row.page.number = elim b.later [ inl l ↦ omega (arith, l) | inr l ↦ omega (arith, l.0) ] in
      taken new e (omega (arith, pages, few)) (record {
        lives_is = living ∙ sym (leads_lives p row.page.fid row.at (subst (λ n. place (sights p) row.page.fid n ≡ Some row.at) zero_is b.seated));
        full = λ t. let f = b.full (sym on ∙ t) in (subst (FullBefore p row.page.fid) (sym pages) f.0, size ∙ f.1 ∙ ap (λ n. 512 * n) (sym pages));
        next = λ t at r place_is is. above_row (suc new.pages) at r (omega (arith, zero_is)) place_is is;
        ended = λ t. ends_as (sym size) (sym pages) (b.ended (sym on ∙ t));
      })

  -- the page after those that were met would have come before
  none_here : walk.goes_on ≡ true → row.page.number ≢ walk.pages + 1 → walk.pages < row.page.number → place (sights p) row.page.fid (suc walk.pages) ≡ None
  none_here on other l = by_place (place (sights p) row.page.fid (suc walk.pages)) refl
    where
      by_place : (o : Option ℕ) → place (sights p) row.page.fid (suc walk.pages) ≡ o → o ≡ None
      by_place None e = refl
      by_place (Some at) e =
          let h = row_of_place p (record { fid = row.page.fid; number = suc walk.pages }) at e in
          let fid : h.row.page.fid ≡ row.page.fid = ap (λ x. x.fid) h.page_is in
          let number : h.row.page.number ≡ suc walk.pages = ap (λ x. x.number) h.page_is in
          let less : h.row.page.number < row.page.number = omega (arith, number, l, other) in
          let low : is_below h.row row ≡ true = lower_is h.row row (later_number h.row row ((row_ranged p at h.row h.is).at) fid less) in
          contrary low (b.first.least at h.row h.is (b.next on at h.row e h.is))

  above_none : row.page.number ≢ 0 → walk.pages < row.page.number
  above_none some = elim b.later [ inl l ↦ l | inr l ↦ absurd (some l.1) ]

  -- a page past the end
  pub took_past : (new : FileWalk) → row.page.number ≢ 0 → (walk.goes_on ≡ false) ⊎ (row.page.number ≢ walk.pages + 1) → new.last ≡ Some row → new.lives ≡ walk.lives → new.pages ≡ walk.pages → new.goes_on ≡ walk.goes_on → new.length ≡ walk.length → Walked p (Some row) new
  took_past new some past e living pages on size =
      let l : walk.pages < row.page.number = above_none some in
      taken new e (omega (arith, pages, l)) (record {
        lives_is = living ∙ b.lives_is some;
        full = λ t. let f = b.full (sym on ∙ t) in (subst (FullBefore p row.page.fid) (sym pages) f.0, size ∙ f.1 ∙ ap (λ n. 512 * n) (sym pages));
        next = λ t at r place_is is. elim past [
          | inl off ↦ contrary (sym on ∙ t) off
          | inr other ↦ absurd (let no : None ≡ Some at = sym (none_here (sym on ∙ t) other l) ∙ ap (λ n. place (sights p) row.page.fid (suc n)) (sym pages) ∙ place_is in cc)
        ];
        ended = λ t. ends_as (sym size) (sym pages) (b.ended (sym on ∙ t));
      })

  pub met_past : row.page.number ≢ 0 → (walk.goes_on ≡ false) ⊎ (row.page.number ≢ walk.pages + 1) → IsMet p row Past
  met_past some past = (b.seated, by_test walk.goes_on refl)
    where
      by_test : (t : Bool) → walk.goes_on ≡ t → suc (length (file_bytes (sights p) row.page.fid) / 512) < row.page.number
      by_test true on = elim past [
        | inl off ↦ contrary on off
        | inr other ↦
            let l : walk.pages < row.page.number = above_none some in
            let size : length (file_bytes (sights p) row.page.fid) ≡ 512 * walk.pages = missing_page_ends_the_file p row.page.fid walk.pages ((b.full on).0) (none_here on other l) in
            omega (arith, size, l, other)
      ]
      by_test false off = let e = b.ended off in let size = e.size in let pages = e.pages in let l = above_none some in omega (arith, size, pages, l)

  -- the page that the bytes go on with
  pub took_next : (new : FileWalk) → walk.goes_on ≡ true → row.page.number ≡ walk.pages + 1 → new.last ≡ Some row → new.lives ≡ walk.lives → new.pages ≡ walk.pages + 1 → new.goes_on ≡ (row.bytes == 512) → new.length ≡ walk.length + row.bytes → Walked p (Some row) new
  took_next new on here e living pages goes size =
      let full = b.full on in
      let f = row.page.fid in
      let number : row.page.number ≡ suc walk.pages = omega (arith, here) in
      let more : new.pages ≡ suc walk.pages = omega (arith, pages) in
      let seat : place (sights p) f (suc walk.pages) ≡ Some row.at = subst (λ n. place (sights p) f n ≡ Some row.at) number b.seated in
      let ranged = row_ranged p row.at row b.first.here in
      let words : length (sector_at p row.at).value ≡ 256 = formed_pages_have_256_words p row.at row.page b.formed (carried_row p row.at row b.first.here) in
      let count : length (bytes_at p row.at) ≡ row.bytes = (labels_count p f walk.pages row.at seat).says words ∙ sym ranged.count in
      let before : new.pages - 1 ≡ walk.pages = omega (arith, more) in
      taken new e (omega (arith, number, more)) (record {
        lives_is = living ∙ b.lives_is (λ zero_is. (omega (arith, zero_is, here)));
        full = λ t.
            let whole : row.bytes ≡ 512 = all_count row.bytes (sym goes ∙ t) in
            let size_is = full.1 in
            (subst (FullBefore p f) (sym more) (full_before_the_next p f walk.pages full.0 (record { at = row.at; sector = seat; full = count ∙ whole })), (omega (arith, size, size_is, whole, more)));
        next = λ t at r place_is is. above_row (suc new.pages) at r (omega (arith, number, more)) place_is is;
        ended = λ t.
            let less : row.bytes < 512 = few_count row.bytes ranged.most (sym goes ∙ t) in
            let ends = (last_page_ends_the_file p f walk.pages row.at full.0 seat (inl (omega (arith, count, less)))).size in
            let size_is = full.1 in
            record {
              size = omega (arith, size, size_is, ends, count);
              pages = omega (arith, size, size_is, more, less);
              before = subst (FullBefore p f) (sym before) full.0;
              carried = ap (λ n. is_some (place (sights p) f n)) more ∙ ap is_some seat;
            };
      })
    where
      all_count : (n : ℕ) → (n == 512) ≡ true → n ≡ 512
      all_count n t = grind (arith, nat_tests, t)

      few_count : (n : ℕ) → n ≤ 512 → (n == 512) ≡ false → n < 512
      few_count n l t = grind (arith, nat_tests, l, t)

-- ---- before a row is taken
-- the walk's row has the page of the last row, so it is of another file than this row, if that is
pub other_file : {p : Pack} {last : Option Row} {walk : FileWalk} (row : Row) → Walked p last walk → IsOtherFile walk row → IsOfOther last row
other_file {p} {last} {walk} row w other b e = by_hand (file_in_hand walk) refl
  where
    by_hand : (o : Option Fid) → file_in_hand walk ≡ o → AreWords b × (b.page.fid ≢ row.page.fid)
    by_hand None h = absurd (other.0 h)
    by_hand (Some f) h =
        let hand = hand_of f w h in
        let same : hand.b ≡ b = some_row (sym hand.last_is ∙ e) in
        let fid : b.page.fid ≡ f = sym (ap (λ x. x.page.fid) same) ∙ ap (λ x. x.fid) hand.page ∙ hand.fid in
        (w.words b e, λ is. other.1 (h ∙ ap (λ x. Some x) (sym fid ∙ is)))

-- where no file is in hand the last row is of another one
pub no_file : {p : Pack} {last : Option Row} {walk : FileWalk} {row : Row} → Walked p last walk → IsFirstAbove p last row → walk.last ≡ None → IsOfOther last row
no_file {row = row} w first none b e = (w.words b e, w.fresh none b e row.at row first.here first.above)

other_page : (last : Option Row) (row : Row) → IsOfOther last row → IsOtherPage last row
other_page last row other b e = let o = other b e in (o.0, λ same. o.1 (ap (λ x. x.fid) same))

-- a new walk
pub begun_fresh : {p : Pack} {last : Option Row} {walk : FileWalk} {row : Row} → IsFresh walk → AreFormed p → AreWords row → IsOfOther last row → IsFirstAbove p last row → Begun p last row walk
begun_fresh {p} {last} {walk} {row} fresh formed words other first = record {
  formed = formed;
  words = words;
  first = first;
  seated = row_seated p last row words (other_page last row other) first;
  lives_is = λ some. fresh.lives ∙ sym (not_living some);
  later = by_number row.page.number refl;
  full = λ on. (subst (FullBefore p row.page.fid) (sym fresh.pages) (none_before_the_first p row.page.fid), (let n = fresh.length in let m = fresh.pages in omega (arith, n, m)));
  next = λ on at r place_is is.
      let h = row_of_place p (record { fid = row.page.fid; number = suc walk.pages }) at place_is in
      let same : h.row ≡ r = some_row (sym h.is ∙ is) in
      all_later p last row words other first at r is (sym (ap (λ x. x.page.fid) same) ∙ ap (λ x. x.fid) h.page_is);
  ended = λ off. contrary fresh.goes_on off;
}
  where
    not_living : row.page.number ≢ 0 → lives (sights p) row.page.fid ≡ false
    not_living some = by_place (place (sights p) row.page.fid 0) refl
      where
        by_place : (o : Option ℕ) → place (sights p) row.page.fid 0 ≡ o → lives (sights p) row.page.fid ≡ false
        by_place None e = ap is_some (no_leader (sights p) row.page.fid e)
        by_place (Some at) e =
            let h = row_of_place p (record { fid = row.page.fid; number = 0 }) at e in
            let fid : h.row.page.fid ≡ row.page.fid = ap (λ x. x.fid) h.page_is in
            let number : h.row.page.number ≡ 0 = ap (λ x. x.number) h.page_is in
            let low : is_below h.row row ≡ true = lower_is h.row row (later_number h.row row ((row_ranged p at h.row h.is).at) fid (omega (arith, number, some))) in
            contrary low (first.least at h.row h.is (all_later p last row words other first at h.row h.is fid))

    by_number : (n : ℕ) → row.page.number ≡ n → (walk.pages < row.page.number) ⊎ ((walk.pages ≡ 0) × (row.page.number ≡ 0))
    by_number zero e = inr (fresh.pages, e)
    by_number (suc n) e = inl (let m = fresh.pages in omega (arith, m, e))

-- the file in hand goes on with another page
pub begun_same : {p : Pack} {last : Option Row} {walk : FileWalk} {row : Row} (l : Row) → Walked p last walk → AreWords row → IsFirstAbove p last row → walk.last ≡ Some l → l.page.fid ≡ row.page.fid → l.page ≢ row.page → Begun p last row walk
begun_same {p} {last} {walk} {row} l w words first e fid other =
    let hand = hand_of row.page.fid w (ap (option_map (λ r. r.page.fid)) e ∙ ap (λ f. Some f) fid) in
    let same : hand.row ≡ l = some_row (sym hand.is ∙ e) in
    let page : hand.b.page ≡ l.page = hand.page ∙ ap (λ r. r.page) same in
    let known : IsInFile p last row.page.fid walk = w.file row.page.fid (ap (option_map (λ r. r.page.fid)) e ∙ ap (λ f. Some f) fid) in
    let low : rank hand.b < rank row = above_last last hand.b row hand.last_is first.above in
    let number : hand.b.page.number < row.page.number = number_later hand.b row hand.words words (ap (λ x. x.fid) page ∙ fid) low (λ is. other (sym page ∙ is)) in
    let few : walk.pages ≤ hand.b.page.number = subst (λ n. walk.pages ≤ n) (ap (λ x. x.number) (sym hand.page)) hand.hand.pages in
    record {
      formed = w.formed;
      words = words;
      first = first;
      seated = row_seated p last row words (λ b is. (w.words b is, λ pages_same. other (sym page ∙ ap (λ r. r.page) (some_row (sym hand.last_is ∙ is)) ∙ pages_same))) first;
      lives_is = λ some. known.lives_is;
      later = inl (omega (arith, few, number));
      full = known.full;
      next = known.next;
      ended = known.ended;
    }

-- ---- a second copy
module _ {p : Pack} {last : Option Row} {walk : FileWalk} {row : Row} (l : Row) (w : Walked p last walk) (words : AreWords row) (first : IsFirstAbove p last row) (e : walk.last ≡ Some l) (page : l.page ≡ row.page) where
  -- the walk's row is in another sector
  not_here : l.at ≢ row.at
  not_here same = contrary first.above (subst (IsPassed last) (ap (row_at p) same ∙ first.here) (w.hand l e).passed)

  seat : place (sights p) row.page.fid row.page.number ≡ Some l.at
  seat = subst (λ x. place (sights p) x.fid x.number ≡ Some l.at) page (w.hand l e).seated

  pub met_copy : (lower : ℕ) × (lower < row.at) × (carried p lower ≡ Some row.page)
  met_copy =
      let lowest = (places_are_lowest p row.page).lowest l.at seat in
      (l.at, by_order (in_order l.at row.at) lowest.lowest, lowest.here)
    where
      in_order : (m n : ℕ) → (m < n) ⊎ ((m ≡ n) ⊎ (n < m))
      in_order m n = grind arith

      by_order : (l.at < row.at) ⊎ ((l.at ≡ row.at) ⊎ (row.at < l.at)) → ((j : ℕ) → j < l.at → carried p j ≢ Some row.page) → l.at < row.at
      by_order (inl m) lowest = m
      by_order (inr (inl m)) lowest = absurd (not_here m)
      by_order (inr (inr m)) lowest = absurd (lowest row.at m (carried_row p row.at row first.here))

  -- a page of the file that is above the last row is above this one too
  above_copy : (n at : ℕ) (r : Row) → place (sights p) row.page.fid n ≡ Some at → row_at p at ≡ Some r → is_above last r ≡ true → is_above (Some row) r ≡ true
  above_copy n at r is here above = by_test (is_below row r) refl
    where
      h : HasRow p (record { fid = row.page.fid; number = n }) at
      h = row_of_place p (record { fid = row.page.fid; number = n }) at is

      by_test : (t : Bool) → is_below row r ≡ t → is_below row r ≡ true
      by_test true low = low
      by_test false high =
          let same : h.row ≡ r = some_row (sym h.is ∙ here) in
          let page_is : r.page ≡ record { fid = row.page.fid; number = n } = sym (ap (λ x. x.page) same) ∙ h.page_is in
          let rwords : AreWords r = words_of p at r row here words (ap (λ x. x.fid) page_is) in
          let least : rank row ≤ rank r = isnt_lower r row (first.least at r here above) in
          let most : rank r ≤ rank row = isnt_lower row r high in
          let ranks : rank r ≡ rank row = omega (arith, least, most) in
          let both = same_ranks r row rwords words ranks in
          let number : row.page.number ≡ n = sym (ap (λ x. x.number) both.0) ∙ ap (λ x. x.number) page_is in
          let at_is : r.at ≡ at = (row_ranged p at r here).here in
          let places : Some l.at ≡ Some at = sym seat ∙ ap (place (sights p) row.page.fid) number ∙ is in
          absurd (not_here (let one : l.at ≡ at = cc in one ∙ sym at_is ∙ both.1))

  pub copy_walked : Walked p (Some row) walk
  copy_walked = record {
    formed = w.formed;
    words = λ r is. subst AreWords (some_row is) words;
    begins = λ none. absurd (let no : None ≡ Some l = sym none ∙ e in cc);
    fresh = λ none. absurd (let no : None ≡ Some l = sym none ∙ e in cc);
    hand = λ r is.
        let same : l ≡ r = some_row (sym e ∙ is) in
        let old = w.hand r is in
        record { page = ap (λ x. Some x) (sym page ∙ ap (λ x. x.page) same); seated = old.seated; passed = passed_more last row (row_at p r.at) first.above old.passed; pages = old.pages };
    file = λ f h.
        let known = w.file f h in
        let fid : row.page.fid ≡ f = sym (ap (λ x. x.fid) page) ∙ hand_is walk l f e h in
        record {
          lives_is = known.lives_is;
          full = known.full;
          next = λ on at r is here. above_copy (suc walk.pages) at r (subst (λ g. place (sights p) g (suc walk.pages) ≡ Some at) (sym fid) is) here (known.next on at r is here);
          ended = known.ended;
        };
  }

-- ---- the walk, by what its tests say
-- its row, if that has this page
pub row_in_hand : (walk : FileWalk) (page : Page) → page_in_hand walk ≡ Some page → (l : Row) × (walk.last ≡ Some l) × (l.page ≡ page)
row_in_hand walk page e = by_last walk.last refl e
  where
    by_last : (o : Option Row) → walk.last ≡ o → option_map (λ r. r.page) o ≡ Some page → (l : Row) × (walk.last ≡ Some l) × (l.page ≡ page)
    by_last None is h = cc
    by_last (Some l) is h = (l, is, (let same : Some l.page ≡ Some page = h in cc))

-- a row is taken by a walk that has no file in hand, or that file, but no row of its page
pub begun_here : {p : Pack} {last : Option Row} {walk : FileWalk} {row : Row} → Walked p last walk → AreWords row → IsFirstAbove p last row → page_in_hand walk ≢ Some row.page → (IsOtherFile walk row → ⊥) → Begun p last row walk
begun_here {p} {last} {walk} {row} w words first other same_file = by_last walk.last refl
  where
    by_last : (o : Option Row) → walk.last ≡ o → Begun p last row walk
    by_last None e = begun_fresh (w.begins e) w.formed words (no_file w first e) first
    by_last (Some l) e = by_test (is_fid l.page.fid row.page.fid) refl
      where
        by_test : (t : Bool) → is_fid l.page.fid row.page.fid ≡ t → Begun p last row walk
        by_test true is = begun_same l w words first e (same_fid l.page.fid row.page.fid is) (λ page. other (ap (option_map (λ r. r.page)) e ∙ ap (λ x. Some x) page))
        by_test false isnt = absurd (same_file (
          (λ none. let no : None ≡ Some l.page.fid = sym none ∙ ap (option_map (λ r. r.page.fid)) e in cc),
          (λ here. let fids : l.page.fid ≡ row.page.fid = hand_is walk l row.page.fid e here in contrary (subst (λ f. is_fid l.page.fid f ≡ true) fids (is_fid-itself l.page.fid)) isnt),
        ))
