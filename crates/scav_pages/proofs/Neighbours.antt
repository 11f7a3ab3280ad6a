-- The links that a page has to have, by the rows before and after its own.
use Rattle.std.proofs.Common.{◌≡◌, ◌≢◌, inl, inr, ℕ, zero, suc, ◌/◌, ◌<◌, ◌≤◌, ◌&&◌, nat_le, nat_lt, leb-true, Bool, true, false, cond, List, get_or, length, Option, Some, None, refl, sym, ap, subst, ◌∙◌, arith}
use Rattle.std.proofs.lemmas.Bool.{cases_lt}
use Rattle.std.proofs.lemmas.Bool.Decides.{nat_tests}
use Rattle.std.specs.Option.{is_some}
use Rattle.alto_words.specs.declared.fid.Fid.{Fid}
use Rattle.alto_words.specs.Fid.{is_fid}
use Rattle.disk_records.specs.declared.records.Page.{Page}
use Rattle.disk_records.specs.Addresses.{real_of}
use Rattle.disk_records.specs.Labels.{tag}
use Rattle.disk_records.specs.Packs.{Pack, carried, sector_at}
use Rattle.pack_model.specs.hints.Links.{link_to, next_link, no_link, previous_link}
use Rattle.pack_model.specs.reading.Files.{file_bytes, lives, place}
use Rattle.pack_model.specs.reading.Sights.{Sight, page_sight, sights}
use Rattle.pack_model.specs.reading.Sights.Sight.{hidden}
use Rattle.laws_mend.specs.pack_laws.proofs.Keys.{is_fid-itself, same_fid}
use Rattle.laws_mend.specs.laws_record.proofs.Heads.{and_left, and_right}
use Rattle.laws_mend.specs.laws_record.proofs.Recording.{carried_sight}
use Rattle.laws_mend.specs.laws_contents.specs.PageLaws.{bytes_at}
use Rattle.laws_mend.specs.laws_contents.proofs.ends.Laws.{each_file_has_its_end}
use Rattle.laws_mend.specs.laws_contents.proofs.pages.Laws.{carried_once_is_in_place}
use Rattle.laws_mend.specs.Parts.{Lasting}
use Rattle.laws_mend.proofs.counting.Laws.{lasting_file_has_its_pages}
use Rattle.scav_table.specs.declared.row.Row.{Row}
use Rattle.scav_table.specs.Laws.{IsFirstAbove, IsNextRow}
use Rattle.scav_table.specs.Passes.{IsPassed}
use Rattle.scav_table.specs.Rows.{is_below, rank}
use Rattle.scav_pages.specs.Walks.{AreWords}
use Rattle.scav_pages.proofs.Passing.{carried_row, contrary, same_rank}
use Rattle.scav_pages.proofs.Ranking.{HasRow, above_or, between_fids, is_lower, isnt_lower, later_number, lower_is, number_later, row_of_place, row_ranged, words_of}

-- ---- links, by the places of pages
-- the page before
abbrev pub place_before : List Sight → Fid → ℕ → Option ℕ
place_before ss f zero = None
place_before ss f (suc n) = place ss f n

pub previous_by_place : (p : Pack) (page : Page) (at : ℕ) → carried p at ≡ Some page → previous_link p.shape (sights p) (get_or (sights p) at hidden) ≡ link_to p.shape (place_before (sights p) page.fid page.number)
previous_by_place p page at here = ap (previous_link p.shape (sights p)) (carried_sight p at page here) ∙ by page.number
  where
    by : (n : ℕ) → previous_link p.shape (sights p) (page_sight page.fid n (tag (sector_at p at).label).bytes (sector_at p at).value) ≡ link_to p.shape (place_before (sights p) page.fid n)
    by zero = refl
    by (suc n) = refl

pub same_before : (p q : Pack) (f : Fid) (n : ℕ) → ((g : Fid) (m : ℕ) → place (sights q) g m ≡ place (sights p) g m) → place_before (sights q) f n ≡ place_before (sights p) f n
same_before p q f zero places = refl
same_before p q f (suc n) places = places f n

module _ (p : Pack) (lasting : Lasting p) where
  -- the sector that carries a page is its place
  seat : (page : Page) (at : ℕ) → carried p at ≡ Some page → place (sights p) page.fid page.number ≡ Some at
  seat page at here = carried_once_is_in_place p page at lasting.rooted.used.ended.cleared.once here

  -- a file that has a page has every page with a lower number
  lower_page : (f : Fid) (n m at : ℕ) → n ≤ m → place (sights p) f m ≡ Some at → is_some (place (sights p) f n) ≡ true
  lower_page f n m at few is =
      let e : (lives (sights p) f && nat_le m (suc (length (file_bytes (sights p) f) / 512))) ≡ true = sym (lasting_file_has_its_pages p f m lasting) ∙ ap is_some is in
      let living : lives (sights p) f ≡ true = and_left (lives (sights p) f) (nat_le m (suc (length (file_bytes (sights p) f) / 512))) e in
      let most : m ≤ suc (length (file_bytes (sights p) f) / 512) = leb-true m (suc (length (file_bytes (sights p) f) / 512)) (and_right (lives (sights p) f) (nat_le m (suc (length (file_bytes (sights p) f) / 512))) e) in
      let within : nat_le n (suc (length (file_bytes (sights p) f) / 512)) ≡ true = (grind (arith, nat_tests, few, most)) in
      lasting_file_has_its_pages p f n lasting ∙ (λ i. living i && within i)

  -- no page comes after one that isn't full
  none_after_last : (f : Fid) (n at : ℕ) → place (sights p) f (suc n) ≡ Some at → length (bytes_at p at) < 512 → place (sights p) f (suc (suc n)) ≡ None
  none_after_last f n at is less = by (place (sights p) f (suc (suc n))) refl
    where
      by : (o : Option ℕ) → place (sights p) f (suc (suc n)) ≡ o → o ≡ None
      by None e = refl
      by (Some j) e =
          let there : (lives (sights p) f && nat_le (suc (suc n)) (suc (length (file_bytes (sights p) f) / 512))) ≡ true = sym (lasting_file_has_its_pages p f (suc (suc n)) lasting) ∙ ap is_some e in
          let most : suc (suc n) ≤ suc (length (file_bytes (sights p) f) / 512) = leb-true (suc (suc n)) (suc (length (file_bytes (sights p) f) / 512)) (and_right (lives (sights p) f) (nat_le (suc (suc n)) (suc (length (file_bytes (sights p) f) / 512))) there) in
          let full = (each_file_has_its_end p f).before.each n (omega (arith, most)) in
          let both : Some full.at ≡ Some at = sym full.sector ∙ is in
          let same : full.at ≡ at = cc in
          let count : length (bytes_at p at) ≡ 512 = ap (λ i. length (bytes_at p i)) (sym same) ∙ full.full in
          absurd (omega (arith, less, count))

  -- so the next link names the next page, if there is one
  pub next_by_place : (page : Page) (at : ℕ) → carried p at ≡ Some page → next_link p.shape (sights p) (get_or (sights p) at hidden) ≡ link_to p.shape (place (sights p) page.fid (suc page.number))
  next_by_place page at here = ap (next_link p.shape (sights p)) (carried_sight p at page here) ∙ by page.number (seat page at here)
    where
      by : (n : ℕ) → place (sights p) page.fid n ≡ Some at → next_link p.shape (sights p) (page_sight page.fid n (tag (sector_at p at).label).bytes (sector_at p at).value) ≡ link_to p.shape (place (sights p) page.fid (suc n))
      by zero is = refl
      by (suc n) is = by_test (nat_lt (length (bytes_at p at)) 512) refl
        where
          by_test : (t : Bool) → nat_lt (length (bytes_at p at)) 512 ≡ t → cond t no_link (link_to p.shape (place (sights p) page.fid (suc (suc n)))) ≡ link_to p.shape (place (sights p) page.fid (suc (suc n)))
          by_test true less = ap (link_to p.shape) (sym (none_after_last page.fid n at is (grind (arith, nat_tests, less))))
          by_test false more = refl

  -- ---- the first row of all is that of a leader page
  pub none_before : (row : Row) → IsFirstAbove p None row → place_before (sights p) row.page.fid row.page.number ≡ None
  none_before row first = by row.page.number (seat row.page row.at (carried_row p row.at row first.here)) (λ r. later_number r row)
    where
      by : (n : ℕ) → place (sights p) row.page.fid n ≡ Some row.at → ((r : Row) → r.at < 65536 → r.page.fid ≡ row.page.fid → r.page.number < n → rank r < rank row) → place_before (sights p) row.page.fid n ≡ None
      by zero is later = refl
      by (suc k) is later = by_place (place (sights p) row.page.fid k) refl
        where
          by_place : (o : Option ℕ) → place (sights p) row.page.fid k ≡ o → o ≡ None
          by_place None e = refl
          by_place (Some at) e =
              let h = row_of_place p (record { fid = row.page.fid; number = k }) at e in
              let number : h.row.page.number ≡ k = ap (λ x. x.number) h.page_is in
              let low = later h.row (row_ranged p at h.row h.is).at (ap (λ x. x.fid) h.page_is) (omega (arith, number)) in
              contrary (lower_is h.row row low) (first.least at h.row h.is refl)

  -- ---- a row, and the next one
  module _ (b : Row) (v : AreWords b) (here : carried p b.at ≡ Some b.page) where
    -- the page after the row's is above it
    above_it : (at : ℕ) (h : HasRow p (record { fid = b.page.fid; number = suc b.page.number }) at) → is_below b h.row ≡ true
    above_it at h =
        let number : h.row.page.number ≡ suc b.page.number = ap (λ x. x.number) h.page_is in
        lower_is b h.row (later_number b h.row v.at (sym (ap (λ x. x.fid) h.page_is)) (omega (arith, number)))

    pub none_next : IsNextRow p (Some b) None → place (sights p) b.page.fid (suc b.page.number) ≡ None
    none_next none = by (place (sights p) b.page.fid (suc b.page.number)) refl
      where
        by : (o : Option ℕ) → place (sights p) b.page.fid (suc b.page.number) ≡ o → o ≡ None
        by None e = refl
        by (Some at) e = (let h = row_of_place p (record { fid = b.page.fid; number = suc b.page.number }) at e in contrary (above_it at h) (subst (IsPassed (Some b)) h.is (none at)))

    module _ (row : Row) (w : AreWords row) (first : IsFirstAbove p (Some b) row) where
      there : carried p row.at ≡ Some row.page
      there = carried_row p row.at row first.here

      low : rank b < rank row
      low = is_lower b row first.above

      pub not_there : b.at ≢ row.at
      not_there same =
          let pages : Some b.page ≡ Some row.page = sym here ∙ ap (carried p) same ∙ there in
          let page : b.page ≡ row.page = cc in
          let ranks = same_rank b row page same in
          let less = low in
          omega (arith, less, ranks)

      other_page : b.page ≢ row.page
      other_page same =
          let both : Some b.at ≡ Some row.at = sym (seat b.page b.at here) ∙ ap (λ x. place (sights p) x.fid x.number) same ∙ seat row.page row.at there in
          not_there (let one : b.at ≡ row.at = cc in one)

      -- of one file it has the next page
      number_next : b.page.fid ≡ row.page.fid → row.page.number ≡ suc b.page.number
      number_next same = by (place (sights p) row.page.fid (suc b.page.number)) refl
        where
          more : b.page.number < row.page.number
          more = number_later b row v w same low other_page

          by : (o : Option ℕ) → place (sights p) row.page.fid (suc b.page.number) ≡ o → row.page.number ≡ suc b.page.number
          by None e = contrary (lower_page row.page.fid (suc b.page.number) row.page.number row.at more (seat row.page row.at there)) (ap is_some e)
          by (Some at) e =
              let h = row_of_place p (record { fid = b.page.fid; number = suc b.page.number }) at (ap (λ f. place (sights p) f (suc b.page.number)) same ∙ e) in
              let number : h.row.page.number ≡ suc b.page.number = ap (λ x. x.number) h.page_is in
              let least : rank row ≤ rank h.row = isnt_lower h.row row (first.least at h.row h.is (above_it at h)) in
              let most = more in
              elim (cases_lt (suc b.page.number) row.page.number) [
                | inl less ↦ (let later : rank h.row < rank row = later_number h.row row (row_ranged p at h.row h.is).at (ap (λ x. x.fid) h.page_is ∙ same) (omega (arith, number, less)) in absurd (omega (arith, least, later)))
                | inr few ↦ omega (arith, few, most)
              ]

      -- of another file: the row's file has no page more
      ends_here : is_fid b.page.fid row.page.fid ≡ false → place (sights p) b.page.fid (suc b.page.number) ≡ None
      ends_here other = by (place (sights p) b.page.fid (suc b.page.number)) refl
        where
          by : (o : Option ℕ) → place (sights p) b.page.fid (suc b.page.number) ≡ o → o ≡ None
          by None e = refl
          by (Some at) e =
              let h = row_of_place p (record { fid = b.page.fid; number = suc b.page.number }) at e in
              let fid : b.page.fid ≡ h.row.page.fid = sym (ap (λ x. x.fid) h.page_is) in
              let least : rank row ≤ rank h.row = isnt_lower h.row row (first.least at h.row h.is (above_it at h)) in
              let less = low in
              let same : row.page.fid ≡ h.row.page.fid = between_fids b row h.row w (words_of p at h.row b h.is v (sym fid)) v.at v.number fid (omega (arith, less)) least in
              contrary (subst (λ f. is_fid b.page.fid f ≡ true) (fid ∙ sym same) (is_fid-itself b.page.fid)) other

      pub next_row_is : link_to p.shape (place (sights p) b.page.fid (suc b.page.number)) ≡ cond (is_fid b.page.fid row.page.fid) (real_of p.shape row.at) no_link
      next_row_is = by (is_fid b.page.fid row.page.fid) refl
        where
          by : (t : Bool) → is_fid b.page.fid row.page.fid ≡ t → link_to p.shape (place (sights p) b.page.fid (suc b.page.number)) ≡ cond t (real_of p.shape row.at) no_link
          by true e =
              let same = same_fid b.page.fid row.page.fid e in
              ap (λ f. link_to p.shape (place (sights p) f (suc b.page.number))) same ∙ ap (λ n. link_to p.shape (place (sights p) row.page.fid n)) (sym (number_next same)) ∙ ap (link_to p.shape) (seat row.page row.at there)
          by false e = ap (link_to p.shape) (ends_here e)

      -- and the next row's file has none before
      begins_here : is_fid row.page.fid b.page.fid ≡ false → (n : ℕ) → row.page.number ≡ n → place_before (sights p) row.page.fid n ≡ None
      begins_here other zero is = refl
      begins_here other (suc k) is = by (place (sights p) row.page.fid k) refl
        where
          by : (o : Option ℕ) → place (sights p) row.page.fid k ≡ o → o ≡ None
          by None e = refl
          by (Some at) e =
              let h = row_of_place p (record { fid = row.page.fid; number = k }) at e in
              let fid : h.row.page.fid ≡ row.page.fid = ap (λ x. x.fid) h.page_is in
              let number : h.row.page.number ≡ k = ap (λ x. x.number) h.page_is in
              let ranged = row_ranged p at h.row h.is in
              let later : rank h.row < rank row = later_number h.row row ranged.at fid (omega (arith, number, is)) in
              let less = low in
              elim (above_or (Some b) h.row) [
                | inl above ↦ contrary (lower_is h.row row later) (first.least at h.row h.is above)
                | inr s ↦
                    let one : b ≡ s.b = (let both : Some b ≡ Some s.b = s.is in cc) in
                    let most : rank h.row ≤ rank b = subst (λ x. rank h.row ≤ rank x) (sym one) s.most in
                    let same : b.page.fid ≡ row.page.fid = between_fids h.row b row v w ranged.at ranged.number fid most (omega (arith, less)) in
                    contrary (subst (λ f. is_fid row.page.fid f ≡ true) (sym same) (is_fid-itself row.page.fid)) other
              ]

      pub row_before_is : link_to p.shape (place_before (sights p) row.page.fid row.page.number) ≡ cond (is_fid row.page.fid b.page.fid) (real_of p.shape b.at) no_link
      row_before_is = by (is_fid row.page.fid b.page.fid) refl
        where
          by : (t : Bool) → is_fid row.page.fid b.page.fid ≡ t → link_to p.shape (place_before (sights p) row.page.fid row.page.number) ≡ cond t (real_of p.shape b.at) no_link
          by true e =
              let same = same_fid row.page.fid b.page.fid e in
              ap (λ n. link_to p.shape (place_before (sights p) row.page.fid n)) (number_next (sym same)) ∙ ap (λ f. link_to p.shape (place (sights p) f b.page.number)) same ∙ ap (link_to p.shape) (seat b.page b.at here)
          by false e = ap (link_to p.shape) (begins_here e row.page.number refl)
