-- A pass that mends the links and names of pages: each row up to the pending one has them.
use Rattle.std.proofs.Common.{◌≡◌, ◌≢◌, ℕ, suc, ◌<◌, ◌==◌, Bool, true, false, cond, IsTrue, get_or, Option, Some, None, Result, Ok, Err, IfOk, refl, sym, ap, subst, ◌∙◌, arith}
use Rattle.std.specs.Prelude.{OnOk}
use Rattle.std.proofs.lemmas.Bool.Decides.{nat_tests}
use Rattle.alto_words.specs.declared.fid.Fid.{Fid}
use Rattle.alto_words.specs.Fid.{is_fid}
use Rattle.disk_records.specs.declared.records.Page.{Page}
use Rattle.disk_records.specs.declared.shape.Shape.{Shape}
use Rattle.disk_records.specs.Addresses.{real_of}
use Rattle.disk_records.specs.Packs.{Pack, carried, sector_at}
use Rattle.disk_records.specs.Tapes.{Grown, Taped, pack}
use Rattle.disk_records.specs.Words.{word}
use Rattle.pack_model.specs.hints.Links.{HasLinks, PageLinks, link_to, no_link}
use Rattle.pack_model.specs.reading.Files.{carries_page, lives}
use Rattle.pack_model.specs.reading.Sights.{Sight, sights}
use Rattle.pack_model.specs.reading.Sights.Sight.{free, hidden, holds, leads, stray}
use Rattle.pack_model.specs.scavenger.Reports.{PagesMended}
use Rattle.pack_model.specs.states.InUse.{in_use}
use Rattle.pack_model.specs.states.Sentences.{HasReadableName}
use Rattle.laws_mend.specs.pack_laws.proofs.Carrying.{carried_shown}
use Rattle.laws_mend.specs.pack_laws.proofs.Keys.{is_fid-itself}
use Rattle.laws_mend.specs.pack_laws.proofs.Placing.{carries-holds}
use Rattle.laws_mend.specs.pack_laws.proofs.Sighted.{length-sights}
use Rattle.laws_mend.specs.laws_record.proofs.Carried.{carries_within}
use Rattle.laws_mend.specs.Parts.{Lasting}
use Rattle.laws_mend.proofs.parts.Laws.{parts_are_mended}
use Rattle.scav_table.specs.declared.pass.Pass.{Pass as RowPass}
use Rattle.scav_table.specs.declared.row.Row.{Row}
use Rattle.scav_table.specs.Laws.{IsFirstAbove, IsNextRow}
use Rattle.scav_table.specs.Passes.{IsPassed, Stands}
use Rattle.scav_table.specs.Rows.{is_above, is_below, rank, row_at}
use Rattle.scav_table.specs.Windows.{Window}
use Rattle.scav_pages.specs.declared.errors.Stop.{Stop}
use Rattle.scav_pages.specs.declared.links.Pending.{Pending}
use Rattle.scav_pages.specs.Does.{Does}
use Rattle.scav_pages.specs.Links.{IsMended, MayMeet, MayMendPage, MendedBelow, MendedTo, PageMended, WritesPage, WritesPending, last_row}
use Rattle.scav_pages.specs.Parts.{LinksMended}
use Rattle.scav_pages.specs.Walks.{AreWords}
use Rattle.scav_pages.proofs.Doing.{Going, does_last, does_ok}
use Rattle.scav_pages.proofs.Neighbours.{next_by_place, next_row_is, none_before, none_next, not_there, place_before, previous_by_place, row_before_is, same_before}
use Rattle.scav_pages.proofs.Passing.{carried_row, contrary, passed_page, row_carried, row_stays, stands_over, stands_same}
use Rattle.scav_pages.proofs.Ranking.{is_lower, row_of_place, same_sector}

-- ---- the pending page may be mended
-- once the row after it is known
pub may_mend : {p : Pack} {x : Pending} {row : Row} {shape : Shape} (next : ℕ) → MayMeet p (Some x) row → shape ≡ p.shape → next ≡ cond (is_fid x.row.page.fid row.page.fid) (real_of shape row.at) no_link → MayMendPage p x next
may_mend {p} {x} {row} next may same is = record {
  lasting = m.lasting;
  carries = m.carries;
  next_is = is ∙ ap (λ s. cond (is_fid x.row.page.fid row.page.fid) (real_of s row.at) no_link) same ∙ sym (next_by_place p m.lasting x.row.page x.row.at m.carries ∙ next_row_is p m.lasting x.row m.words m.carries row may.words may.first);
  previous_is = m.previous_is;
}
  where
    m : MendedBelow p x
    m = may.mended

-- or that none comes
may_mend_last : {p : Pack} {x : Pending} → MendedBelow p x → IsNextRow p (Some x.row) None → MayMendPage p x no_link
may_mend_last {p} {x} m none = record {
  lasting = m.lasting;
  carries = m.carries;
  next_is = sym (next_by_place p m.lasting x.row.page x.row.at m.carries ∙ ap (link_to p.shape) (none_next p m.lasting x.row m.words m.carries none));
  previous_is = m.previous_is;
}

-- ---- all pages
-- if each row has true links, and a name that can be read, all pages are mended
mended_all : (q : Pack) → Lasting q → ((i : ℕ) (r : Row) → row_at q i ≡ Some r → IsMended q i) → PagesMended q
mended_all q lasting each = parts_are_mended q lasting links names
  where
    page_mended : (i : ℕ) (page : Page) → carried q i ≡ Some page → IsMended q i
    page_mended i page is = each i (record { page = page; at = i; bytes = word (sector_at q i).label 3 }) (row_carried q i page is)

    shown : (i : ℕ) (f : Fid) (n : ℕ) → carries_page f n (get_or (sights q) i hidden) ≡ true → IsMended q i
    shown i f n has = page_mended i (record { fid = f; number = n }) (carried_shown q i (record { fid = f; number = n }) hidden (subst (λ l. i < l) (length-sights q) (carries_within (sights q) f n i has)) has)

    links_of : (i : ℕ) (s : Sight) → get_or (sights q) i hidden ≡ s → in_use q.shape (sights q) (i, s) ≡ true → HasLinks q i
    links_of i hidden e used = cc
    links_of i free e used = cc
    links_of i stray e used = cc
    links_of i (leads f r l) e used = (shown i f 0 (ap (carries_page f 0) e ∙ is_fid-itself f)).links
    links_of i (holds f n bytes) e used = (shown i f (suc n) (ap (carries_page f (suc n)) e ∙ carries-holds f n bytes)).links

    links : PageLinks q
    links i used = links_of i (get_or (sights q) i hidden) refl used

    names : (f : Fid) → lives (sights q) f ≡ true → HasReadableName (sights q) f
    names f living at readable l is shows = (page_mended at (record { fid = f; number = 0 }) (row_of_place q (record { fid = f; number = 0 }) at is).carries).name f readable l shows

-- ---- no row is pending
-- so the first row is
pub first_met : {p : Pack} {row : Row} → MayMeet p None row → MendedBelow p (record { row = row; previous = no_link })
first_met {p} {row} may =
    let carries : carried p row.at ≡ Some row.page = carried_row p row.at row may.first.here in
    record {
      lasting = may.mended;
      words = may.words;
      carries = carries;
      previous_is = ap (link_to p.shape) (sym (none_before p may.mended row may.first)) ∙ sym (previous_by_place p row.page row.at carries);
      below = λ i r is low. contrary low (may.first.least i r is refl);
    }

-- or there is no row at all
none_met : {p : Pack} → Lasting p → IsNextRow p None None → PagesMended p
none_met {p} lasting none = mended_all p lasting (λ i r is. contrary refl (subst (IsPassed None) is (none i)))

-- ---- the pending page is mended
module _ {p q : Pack} {x : Pending} (m : MendedBelow p x) (done : PageMended x.row.at p q tt) (wrote : WritesPage x.row.at x.row.page p q) where
  -- so is each other page that was
  others : (i : ℕ) → i ≢ x.row.at → IsMended p i → IsMended q i
  others i other is = record {
    links = done.others i other is.links;
    name = λ f readable l shows. is.name f readable l (sym (done.shown i other) ∙ shows);
  }

  -- each row that isn't above it is mended
  mended_to : (i : ℕ) (r : Row) → row_at q i ≡ Some r → (row_at p i ≡ Some r → is_above (Some x.row) r ≡ false) → IsMended q i
  mended_to i r is low = by (i == x.row.at) refl
    where
      below : row_at p i ≡ Some r → i ≢ x.row.at → (t : Bool) → is_below r x.row ≡ t → is_below r x.row ≡ true
      below old other true e = e
      below old other false e = absurd (other (same_sector p i r x.row old m.words.at (low old) e))

      by : (t : Bool) → (i == x.row.at) ≡ t → IsMended q i
      by true e = (let same : i ≡ x.row.at = grind (arith, nat_tests, e) in subst (IsMended q) (sym same) (record { links = done.links; name = done.name }))
      by false e =
          let other : i ≢ x.row.at = λ same. (let no = subst (λ k. (k == x.row.at) ≡ false) same e in grind (arith, nat_tests, no)) in
          let old : row_at p i ≡ Some r = sym (row_stays i wrote.written other) ∙ is in
          others i other (m.below i r old (below old other (is_below r x.row) refl))

  -- the next row is pending
  pub next_met : {shape : Shape} (row : Row) (previous : ℕ) → AreWords row → IsFirstAbove p (Some x.row) row → shape ≡ p.shape → previous ≡ cond (is_fid row.page.fid x.row.page.fid) (real_of shape x.row.at) no_link → MendedBelow q (record { row = row; previous = previous })
  next_met row previous words first same is =
      let other : row.at ≢ x.row.at = λ at. not_there p m.lasting x.row m.words m.carries row words first (sym at) in
      let carries : carried q row.at ≡ Some row.page = carried_row q row.at row (row_stays row.at wrote.written other ∙ first.here) in
      record {
        lasting = done.lasting;
        words = words;
        carries = carries;
        previous_is =
            is
            ∙ ap (λ s. cond (is_fid row.page.fid x.row.page.fid) (real_of s x.row.at) no_link) same
            ∙ sym (row_before_is p m.lasting x.row m.words m.carries row words first)
            ∙ ap (λ s. link_to s (place_before (sights p) row.page.fid row.page.number)) (sym wrote.written.shape)
            ∙ ap (link_to q.shape) (sym (same_before p q row.page.fid row.page.number done.places))
            ∙ sym (previous_by_place q row.page row.at carries);
        below = λ i r here low. mended_to i r here (λ old. not_above i r old low (is_above (Some x.row) r) refl);
      }
    where
      not_above : (i : ℕ) (r : Row) → row_at p i ≡ Some r → is_below r row ≡ true → (t : Bool) → is_above (Some x.row) r ≡ t → is_above (Some x.row) r ≡ false
      not_above i r old low true e = contrary low (first.least i r old e)
      not_above i r old low false e = e

  -- no row comes
  all_met : IsNextRow p (Some x.row) None → PagesMended q
  all_met none = mended_all q done.lasting (λ i r is. mended_to i r is (λ old. subst (IsPassed (Some x.row)) old (none i)))

-- ---- the pass
-- it goes on over what is written to the pending page
pub stands_met : {told : Bool} {p q : Pack} {table : Window} {pass : RowPass} (pending : Option Pending) (row : Row) → Stands told p table pass → pass.last ≡ Some row → is_above (last_row pending) row ≡ true → (IsTrue told → WritesPending pending p q) → Stands told q table pass
stands_met {q = q} None row s last above wrote = stands_same q s wrote
stands_met {told} {p} {q} {table} {pass} (Some x) row s last above wrote = stands_over q x.row.at s (λ k. let w = wrote k in (w.written, passed p w.was, passed q w.carries))
  where
    higher : is_below row x.row ≡ false
    higher = (let low : rank x.row < rank row = is_lower x.row row above in grind (arith, nat_tests, low))

    passed : (r : Pack) → carried r x.row.at ≡ Some x.row.page → IsPassed pass.last (row_at r x.row.at)
    passed r here = subst (λ l. IsPassed l (row_at r x.row.at)) (sym last) (passed_page r (Some row) x.row higher here)

-- the next row may be met
pub may_meet : {p q : Pack} {last : Option Row} {pending : Option Pending} (row : Row) → MendedTo p pending → last ≡ last_row pending → IsFirstAbove p last row → AreWords row → q ≡ p → MayMeet q pending row
may_meet {p} {q} {last} {pending} row mended is first words same = subst (λ x. MayMeet x pending row) (sym same) (record {
  mended = mended;
  first = subst (λ l. IsFirstAbove p l row) is first;
  words = words;
})

-- ---- its end
-- with the last page
pub links_last : {a b c : Taped} {x : Pending} (result : Result (Unit {0}) Stop) → Going a b → MendedBelow (pack b) x → IsNextRow (pack b) (Some x.row) None → Grown b c
    → (MayMendPage (pack b) x no_link → Does (PageMended x.row.at) b c result) → OnOk result (WritesPage x.row.at x.row.page (pack b) (pack c)) → Does LinksMended a c result
links_last {a} {b} {c} {x} result going m none grown does wrote = does_last result going grown (does (may_mend_last m none)) (λ mended. by result mended wrote)
  where
    by : (r : Result (Unit {0}) Stop) → IfOk r (PageMended x.row.at (pack b) (pack c)) → OnOk r (WritesPage x.row.at x.row.page (pack b) (pack c)) → IfOk r (LinksMended (pack a) (pack c))
    by (Ok v) mended w = all_met m mended w none
    by (Err e) mended w = tt

-- without one
pub links_none : {a b : Taped} → Going a b → Lasting (pack b) → IsNextRow (pack b) None None → Does LinksMended a b (Ok tt)
links_none going lasting none = does_ok tt going (none_met lasting none)
