-- The next row of a pass and the file in hand: whether it is of that file, and which rows come before all others of theirs.
use Rattle.std.proofs.Common.{◌≡◌, ◌≢◌, inl, inr, ◌<◌, ◌≤◌, Bool, true, false, Option, Some, None, refl, sym, ap, subst, ◌∙◌, arith}
use Rattle.std.specs.Option.{option_map}
use Rattle.alto_words.specs.declared.fid.Fid.{Fid}
use Rattle.alto_words.specs.Fid.{is_fid}
use Rattle.disk_records.specs.declared.records.Page.{Page}
use Rattle.disk_records.specs.Packs.{Pack}
use Rattle.scav_pages.specs.pack_laws.proofs.Keys.{is_fid-itself, same_fid}
use Rattle.scav_pages.specs.pack_laws.proofs.files.Laws.{places_are_lowest}
use Rattle.pack_model.specs.reading.Files.{lives, place}
use Rattle.pack_model.specs.reading.Sights.{sights}
use Rattle.scav_pages.specs.declared.files.FileWalk.{FileWalk}
use Rattle.scav_pages.specs.declared.files.Met.{Met}
use Rattle.scav_pages.specs.declared.files.Met.TheVariants.{Copy, Leader, Next, Past}
use Rattle.scav_pages.specs.Walks.{AreWords, IsMet, IsOtherFile, Walked, file_in_hand}
use Rattle.scav_pages.proofs.Passing.{carried_row, contrary}
use Rattle.scav_pages.proofs.Ranking.{IsOfOther, IsOtherPage, above_last, all_later, isnt_lower, later_number, living_row, row_of_place, row_ranged, row_seated}
use Rattle.scav_pages.proofs.Walking.{hand_of}
use Rattle.scav_table.specs.declared.row.Row.{Row}
use Rattle.scav_table.specs.Laws.{IsFirstAbove}
use Rattle.scav_table.specs.Passes.{IsPassed}
use Rattle.scav_table.specs.Rows.{is_above, rank, row_at}
use Rattle.scav_names.proofs.ReadingFiles.{parted}

pub no_hand : {hand : Option Fid} {f : Fid} → hand ≡ None → hand ≡ Some f → ⊥
no_hand {hand} {f} none some = let both : None ≡ Some f = sym none ∙ some in cc

pub last_none : (walk : FileWalk) → file_in_hand walk ≡ None → walk.last ≡ None
last_none walk none = by walk.last none
  where
    by : (o : Option Row) → option_map (λ r. r.page.fid) o ≡ None → o ≡ None
    by None e = refl
    by (Some r) e = cc

module _ (p : Pack) (last : Option Row) (row : Row) (walk : FileWalk) (w : Walked p last walk) (same : IsOtherFile walk row → ⊥) (words : AreWords row) (first : IsFirstAbove p last row) where
  -- it is the next row's, if there is one
  pub hand_same : (g : Fid) → file_in_hand walk ≡ Some g → g ≡ row.page.fid
  hand_same g e = by (is_fid g row.page.fid) refl
    where
      by : (t : Bool) → is_fid g row.page.fid ≡ t → g ≡ row.page.fid
      by true t = same_fid g row.page.fid t
      by false t = absurd (same ((λ none. (let both : Some g ≡ None = sym e ∙ none in cc)), (λ here. (let one : Some g ≡ Some row.page.fid = sym e ∙ here in let two : g ≡ row.page.fid = cc in contrary (subst (λ x. is_fid g x ≡ true) two (is_fid-itself g)) t))))

  -- before a leader page there is none
  pub none_before_leader : place (sights p) row.page.fid row.page.number ≡ Some row.at → row.page.number ≡ 0 → file_in_hand walk ≡ None
  none_before_leader seated zero_is = by (file_in_hand walk) refl
    where
      by : (o : Option Fid) → file_in_hand walk ≡ o → file_in_hand walk ≡ None
      by None e = e
      by (Some g) e =
          let h = hand_of g w e in
          let fid : h.row.page.fid ≡ row.page.fid = h.fid ∙ hand_same g e in
          let bfid : h.b.page.fid ≡ row.page.fid = ap (λ (x : Page). x.fid) h.page ∙ fid in
          let low : rank h.b < rank row = above_last last h.b row h.last_is first.above in
          let number : h.b.page.number ≡ 0 = elim (parted 0 h.b.page.number) [
            | inl l ↦ (let later = later_number row h.b words.at (sym bfid) (omega (arith, zero_is, l)) in absurd (omega (arith, low, later)))
            | inr l ↦ omega (arith, l)
          ] in
          let both : h.b.page.number ≡ row.page.number = number ∙ sym zero_is in
          let page : h.row.page ≡ row.page = sym h.page ∙ (λ i. record { fid = bfid i; number = both i }) in
          let ats : Some h.row.at ≡ Some row.at = sym h.hand.seated ∙ ap (λ (x : Page). place (sights p) x.fid x.number) page ∙ seated in
          let at_is : h.row.at ≡ row.at = cc in
          contrary first.above (subst (IsPassed last) (ap (row_at p) at_is ∙ first.here) h.hand.passed)

  -- where there is none, the last row is of another file
  other_file : file_in_hand walk ≡ None → IsOfOther last row
  other_file none b is = (w.words b is, λ e. w.fresh (last_none walk none) b is row.at row first.here first.above e)

  other_page : file_in_hand walk ≡ None → IsOtherPage last row
  other_page none b is = let o = other_file none b is in (o.0, λ e. o.1 (ap (λ (x : Page). x.fid) e))

  -- and a file whose first row isn't its leader page doesn't live
  unled : file_in_hand walk ≡ None → 1 ≤ row.page.number → lives (sights p) row.page.fid ≡ false
  unled none some = by (lives (sights p) row.page.fid) refl
    where
      by : (t : Bool) → lives (sights p) row.page.fid ≡ t → lives (sights p) row.page.fid ≡ false
      by false e = e
      by true e =
          let h = living_row p row.page.fid e in
          let r = h.1.row in
          let fid : r.page.fid ≡ row.page.fid = ap (λ (x : Page). x.fid) h.1.page_is in
          let number : r.page.number ≡ 0 = ap (λ (x : Page). x.number) h.1.page_is in
          let above : is_above last r ≡ true = all_later p last row words (other_file none) first h.0 r h.1.is fid in
          let high : rank row ≤ rank r = isnt_lower r row (first.least h.0 r h.1.is above) in
          let low : rank r < rank row = later_number r row (row_ranged p h.0 r h.1.is).at fid (omega (arith, number, some)) in
          absurd (omega (arith, high, low))

  unled_by : (met : Met) → IsMet p row met → met ≢ Leader → file_in_hand walk ≡ None → lives (sights p) row.page.fid ≡ false
  unled_by Copy m other none = absurd (((places_are_lowest p row.page).lowest row.at (row_seated p last row words (other_page none) first)).lowest m.0 m.1 m.2)
  unled_by Leader m other none = absurd (other refl)
  unled_by Next m other none = unled none m.1
  unled_by Past m other none = (let l = m.1 in unled none (omega (arith, l)))

  -- only a leader page makes a file live
  pub lives_on : (new : FileWalk) → Walked p (Some row) new → file_in_hand new ≡ Some row.page.fid → (met : Met) → IsMet p row met → met ≢ Leader → new.lives ≡ walk.lives
  lives_on new v hand met m other = (v.file row.page.fid hand).lives_is ∙ by (file_in_hand walk) refl
    where
      by : (o : Option Fid) → file_in_hand walk ≡ o → lives (sights p) row.page.fid ≡ walk.lives
      by None e = unled_by met m other e ∙ sym (w.begins (last_none walk e)).lives
      by (Some g) e = ap (lives (sights p)) (sym (hand_same g e)) ∙ sym (w.file g e).lives_is

-- another row than a leader page is in the place of none
pub no_leader_at : (p : Pack) (row : Row) → row_at p row.at ≡ Some row → (met : Met) → IsMet p row met → met ≢ Leader → (f : Fid) → place (sights p) f 0 ≢ Some row.at
no_leader_at p row here met m other f e = by met m other
  where
    page : row.page ≡ record { fid = f; number = 0 }
    page = (let both : Some row.page ≡ Some (record { fid = f; number = 0 }) = sym (carried_row p row.at row here) ∙ (row_of_place p (record { fid = f; number = 0 }) row.at e).carries in cc)

    number : row.page.number ≡ 0
    number = ap (λ (x : Page). x.number) page

    by : (met : Met) → IsMet p row met → met ≢ Leader → ⊥
    by Copy m other = ((places_are_lowest p (record { fid = f; number = 0 })).lowest row.at e).lowest m.0 m.1 (m.2 ∙ ap Some page)
    by Leader m other = other refl
    by Next m other = (let l = m.1 in omega (arith, l, number))
    by Past m other = (let l = m.1 in omega (arith, l, number))
