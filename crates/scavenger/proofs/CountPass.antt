-- A pass that counts: the files that were left are counted, and every other one with a row is in hand or still to come.
use Rattle.std.proofs.Common.{◌≡◌, ◌≢◌, ◌⊎◌, inl, inr, ◌||◌, ℕ, Bool, true, false, IsTrue, Option, Some, None, refl, sym, ap, subst, ◌∙◌}
use Rattle.alto_words.specs.declared.fid.Fid.{Fid}
use Rattle.alto_words.specs.Fid.{disk_descriptor, is_fid}
use Rattle.disk_records.specs.declared.records.Page.{Page}
use Rattle.disk_records.specs.Packs.{AreFormed, Pack}
use Rattle.scav_names.specs.pack_laws.proofs.Keys.{is_fid-itself, same_fid}
use Rattle.pack_model.specs.reading.Files.{place}
use Rattle.pack_model.specs.reading.Sights.{sights}
use Rattle.scav_pages.specs.declared.directory.Directory.{Directory}
use Rattle.scav_pages.specs.Begins.{MayBegin}
use Rattle.scav_pages.specs.Directories.{IsReadTo}
use Rattle.scav_pages.specs.Walks.{AreWords, IsLeft, IsOtherFile, NoneAbove, file_in_hand}
use Rattle.scav_pages.proofs.DirectoryPass.{IsPending, may_begin}
use Rattle.scav_pages.proofs.Passing.{contrary, further}
use Rattle.scav_pages.proofs.Ranking.{HasRow, living_row, met_or_next, row_of_place}
use Rattle.scav_pages.proofs.Walking.{hand_or}
use Rattle.scav_pages.proofs.laws.Laws.{leaves_its_file, leaves_the_last_file}
use Rattle.scav_table.specs.declared.row.Row.{Row}
use Rattle.scav_table.specs.Laws.{IsFirstAbove, IsNextRow}
use Rattle.scav_table.specs.Passes.{IsPassed}
use Rattle.scav_table.specs.Rows.{is_above, is_below, row_at}
use Rattle.scavenger.specs.declared.counts.Counts.{Counts}
use Rattle.scavenger.specs.Counting.{CountsAll, CountsFiles, CountsTo, IsLeftAt, none_met, or_in_hand}

-- ---- the files so far
pub record CountedTo (p : Pack) (last : Option Row) (hand : Option Fid) (counts : Counts) : Type 0 where
  pub met : Fid → Bool
  pub counts_to : CountsTo p met counts
  pub unmet : (f : Fid) → hand ≡ Some f → met f ≡ false
  pub passed : (f : Fid) → met f ≡ true → NoneAbove p last f
  pub others : (at : ℕ) (r : Row) → row_at p at ≡ Some r → met r.page.fid ≡ false → IsPending p last hand r.page.fid

-- before the first row
pub counted_none : (p : Pack) (counts : Counts) → CountsTo p none_met counts → CountedTo p None None counts
counted_none p counts c = record {
  met = none_met;
  counts_to = c;
  unmet = λ f is. refl;
  passed = λ f is. absurd cc;
  others = λ at r is unmet. inr (at, r, is, refl, refl);
}

-- the file in hand is left
pub counted_left : (p : Pack) (last : Option Row) (dir : Directory) (old new : Counts) → CountedTo p last (file_in_hand dir.walk) old → IsLeft p last dir.walk → CountsFiles p dir old new → CountedTo p last None new
counted_left p last dir old new c left counts = record {
  met = or_in_hand c.met (file_in_hand dir.walk);
  counts_to = counts c.met c.unmet c.counts_to;
  unmet = λ f is. absurd cc;
  passed = λ f is. gone (file_in_hand dir.walk) refl f is;
  others = λ at r is unmet. to_come (file_in_hand dir.walk) refl at r is unmet;
}
  where
    or_cases : (a b : Bool) → (a || b) ≡ true → (a ≡ true) ⊎ (b ≡ true)
    or_cases true b e = inl refl
    or_cases false b e = inr e

    or_none : (a b : Bool) → (a || b) ≡ false → (a ≡ false) × (b ≡ false)
    or_none true b e = absurd cc
    or_none false b e = (refl, e)

    gone : (o : Option Fid) → file_in_hand dir.walk ≡ o → (f : Fid) → or_in_hand c.met o f ≡ true → NoneAbove p last f
    gone None e f is = c.passed f is
    gone (Some g) e f is = elim (or_cases (c.met f) (is_fid f g) is) [
      | inl old ↦ c.passed f old
      | inr same ↦ left f (e ∙ ap Some (sym (same_fid f g same)))
    ]

    to_come : (o : Option Fid) → file_in_hand dir.walk ≡ o → (at : ℕ) (r : Row) → row_at p at ≡ Some r → or_in_hand c.met o r.page.fid ≡ false → IsPending p last None r.page.fid
    to_come None e at r is unmet = elim (c.others at r is unmet) [
      | inl hand ↦ absurd (let no : None ≡ Some r.page.fid = sym e ∙ hand in cc)
      | inr some ↦ inr some
    ]
    to_come (Some g) e at r is unmet = let both = or_none (c.met r.page.fid) (is_fid r.page.fid g) unmet in elim (c.others at r is both.0) [
      | inl hand ↦ absurd (let same : Some g ≡ Some r.page.fid = sym e ∙ hand in let one : g ≡ r.page.fid = cc in contrary (subst (λ x. is_fid r.page.fid x ≡ true) (sym one) (is_fid-itself r.page.fid)) both.1)
      | inr some ↦ inr some
    ]

-- the next row comes to hand
pub counted_meet : (p : Pack) (last : Option Row) (hand : Option Fid) (row : Row) (counts : Counts) → CountedTo p last hand counts → IsFirstAbove p last row → ((hand ≢ None) × (hand ≢ Some row.page.fid) → ⊥) → CountedTo p (Some row) (Some row.page.fid) counts
counted_meet p last hand row counts c first same = record {
  met = c.met;
  counts_to = c.counts_to;
  unmet = λ f is. (let one : row.page.fid ≡ f = cc in ap c.met (sym one) ∙ fresh (c.met row.page.fid) refl);
  passed = λ f is at r there above. c.passed f is at r there (further last row r first.above above);
  others = λ at r is unmet. elim (c.others at r is unmet) [
    | inl here ↦ elim (hand_or (Some row.page.fid) r.page.fid) [
      | inl own ↦ inl own
      | inr other ↦ absurd (same ((λ none. (let both : Some r.page.fid ≡ None = sym here ∙ none in cc)), (λ now. other (sym now ∙ here))))
    ]
    | inr some ↦ on r.page.fid some.0 some.1 some.2 some.3 some.4 (is_below row some.1) refl
  ];
}
  where
    fresh : (t : Bool) → c.met row.page.fid ≡ t → c.met row.page.fid ≡ false
    fresh false e = e
    fresh true e = absurd (c.passed row.page.fid e row.at row first.here first.above refl)

    on : (f : Fid) (at : ℕ) (r : Row) → row_at p at ≡ Some r → is_above last r ≡ true → f ≡ r.page.fid → (t : Bool) → is_below row r ≡ t → IsPending p (Some row) (Some row.page.fid) f
    on f at r is above e true more = inr (at, r, is, more, e)
    on f at r is above e false more = elim (met_or_next p last row first at r is more) [
      | inl old ↦ contrary above old
      | inr next ↦ inl (ap (λ (z : Row). Some z.page.fid) (sym next.1) ∙ ap Some (sym e))
    ]

-- all rows were met
pub counted_all : (p : Pack) (last : Option Row) (counts : Counts) → CountedTo p last None counts → IsNextRow p last None → CountsAll p counts
counted_all p last counts c none = record {
  met = c.met;
  all = ((λ f alive. (let at = living_row p f alive in row_met f at.0 at.1.row at.1.is (ap (λ (x : Page). x.fid) at.1.page_is))), (λ unmet. by unmet (place (sights p) disk_descriptor 1) refl));
  counts_to = c.counts_to;
}
  where
    row_met : (f : Fid) (at : ℕ) (r : Row) → row_at p at ≡ Some r → r.page.fid ≡ f → c.met f ≡ true
    row_met f at r is own = ap c.met (sym own) ∙ yes (c.met r.page.fid) refl
      where
        yes : (t : Bool) → c.met r.page.fid ≡ t → c.met r.page.fid ≡ true
        yes true e = e
        yes false e = elim (c.others at r is e) [
          | inl hand ↦ absurd cc
          | inr some ↦ contrary some.3 (subst (IsPassed last) some.2 (none some.0))
        ]

    by : c.met disk_descriptor ≡ false → (o : Option ℕ) → place (sights p) disk_descriptor 1 ≡ o → o ≡ None
    by unmet None e = refl
    by unmet (Some at) e =
        let h : HasRow p (record { fid = disk_descriptor; number = 1 }) at = row_of_place p (record { fid = disk_descriptor; number = 1 }) at e in
        contrary (row_met disk_descriptor at h.row h.is (ap (λ (x : Page). x.fid) h.page_is)) unmet

-- ---- the pass on a machine
-- what was read so far, and whether the next row goes on with the file in hand
pub record MayMeet (told : Bool) (p : Pack) (last : Option Row) (dir : Directory) (counts : Counts) (row : Row) : Type 0 where
  pub read : IsTrue told → IsReadTo p last dir
  pub counted : IsTrue told → CountedTo p last (file_in_hand dir.walk) counts
  pub same : IsOtherFile dir.walk row → ⊥

pub met_start : (p : Pack) (last : Option Row) (dir : Directory) (counts : Counts) → last ≡ None → file_in_hand dir.walk ≡ None → CountsTo p none_met counts → CountedTo p last (file_in_hand dir.walk) counts
met_start p last dir counts first none c = subst (λ l. CountedTo p l (file_in_hand dir.walk) counts) (sym first) (subst (λ h. CountedTo p None h counts) (sym none) (counted_none p counts c))

pub met_left : {told : Bool} (p : Pack) (last : Option Row) (dir new : Directory) (old counts : Counts) (row : Row) → (IsTrue told → IsReadTo p last dir) → (IsTrue told → CountedTo p last (file_in_hand dir.walk) old) → (IsTrue told → IsFirstAbove p last row) → AreWords row → IsOtherFile dir.walk row
    → (IsTrue told → IsLeftAt p dir → CountsFiles p dir old counts) → file_in_hand new.walk ≡ None → ((p : Pack) (last : Option Row) → AreFormed p → MayBegin p last → IsReadTo p last new) → MayMeet told p last new counts row
met_left {told = told} p last dir new old counts row read counted first words other closes none start = record {
  read = λ k. start p last (read k).walked.formed (may_begin (read k).walked (left k) other.0);
  counted = λ k. subst (λ h. CountedTo p last h counts) (sym none) (counted_left p last dir old counts (counted k) (left k) (closes k (record { last = last; read = read k; left = left k })));
  same = λ again. again.0 none;
}
  where
    left : IsTrue told → IsLeft p last dir.walk
    left k = leaves_its_file p last dir.walk row (read k).walked words (first k) other

pub met_same : {told : Bool} (p : Pack) (last : Option Row) (dir : Directory) (counts : Counts) (row : Row) → (IsTrue told → IsReadTo p last dir) → (IsTrue told → CountedTo p last (file_in_hand dir.walk) counts) → (IsOtherFile dir.walk row → ⊥) → MayMeet told p last dir counts row
met_same p last dir counts row read counted same = record { read = read; counted = counted; same = same }

pub met_last : (p : Pack) (last : Option Row) (dir : Directory) (old counts : Counts) → IsReadTo p last dir → CountedTo p last (file_in_hand dir.walk) old → IsNextRow p last None → (IsLeftAt p dir → CountsFiles p dir old counts) → CountsAll p counts
met_last p last dir old counts read counted none closes = counted_all p last counts (counted_left p last dir old counts counted left (closes (record { last = last; read = read; left = left }))) none
  where
    left : IsLeft p last dir.walk
    left = leaves_the_last_file p last dir.walk none
