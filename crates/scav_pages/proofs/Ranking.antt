-- Rows in their order: files by their names, pages by their numbers, sectors by their addresses.
use Rattle.std.proofs.Common.{◌≡◌, ◌≢◌, ◌⊎◌, inl, inr, ℕ, ◌+◌, ◌*◌, ◌<◌, ◌≤◌, Bool, true, false, cond, List, Option, Some, None, refl, sym, ap, subst, ◌∙◌, arith}
use Rattle.std.specs.Option.{is_some}
use Rattle.std.proofs.lemmas.Bool.Decides.{nat_tests}
use Rattle.alto_words.specs.declared.fid.Fid.{Fid}
use Rattle.disk_records.specs.declared.records.Page.{Page}
use Rattle.disk_records.specs.Labels.{Tag, in_range, page_of, tag}
use Rattle.disk_records.specs.Packs.{Pack, carried, sector_at}
use Rattle.disk_records.specs.Words.{word}
use Rattle.laws_mend.specs.laws_operation.proofs.places.Laws.{file_lives_in_a_place}
use Rattle.laws_mend.specs.pack_laws.proofs.Guarding.{carried_parts}
use Rattle.laws_mend.specs.pack_laws.proofs.files.Laws.{places_are_lowest}
use Rattle.pack_model.specs.reading.Files.{lives, place}
use Rattle.pack_model.specs.reading.Sights.{sights}
use Rattle.scav_table.specs.declared.row.Row.{Row}
use Rattle.scav_table.specs.Laws.{IsFirstAbove}
use Rattle.scav_table.specs.Rows.{is_above, is_below, rank, row_at}
use Rattle.scav_pages.specs.Walks.{AreWords, IsSeated}
use Rattle.scav_pages.proofs.Passing.{carried_row, contrary, row_carried, row_placed, some_row}

-- ---- ranks
abbrev pub fid_rank : Fid → ℕ
fid_rank f = (f.high * 65536 + f.low) * 65536 + f.version

abbrev pub page_rank : Page → ℕ
page_rank x = fid_rank x.fid * 65536 + x.number

pub rank_is : (r : Row) → rank r ≡ page_rank r.page * 65536 + r.at
unfolding rank
rank_is r = refl

pub same_fids : (a b : Row) → AreWords a → AreWords b → fid_rank a.page.fid ≡ fid_rank b.page.fid → a.page.fid ≡ b.page.fid
same_fids a b v w e =
    let high : a.page.fid.high ≡ b.page.fid.high = omega (arith, v.high, v.low, v.version, w.high, w.low, w.version, e) in
    let low : a.page.fid.low ≡ b.page.fid.low = omega (arith, v.high, v.low, v.version, w.high, w.low, w.version, e) in
    let version : a.page.fid.version ≡ b.page.fid.version = omega (arith, v.high, v.low, v.version, w.high, w.low, w.version, e) in
    λ i. record { high = high i; low = low i; version = version i }

pub same_pages : (a b : Row) → AreWords a → AreWords b → page_rank a.page ≡ page_rank b.page → a.page ≡ b.page
same_pages a b v w e =
    let number : a.page.number ≡ b.page.number = omega (arith, v.number, w.number, e) in
    let fids : fid_rank a.page.fid ≡ fid_rank b.page.fid = omega (arith, v.number, w.number, e) in
    let fid : a.page.fid ≡ b.page.fid = same_fids a b v w fids in
    λ i. record { fid = fid i; number = number i }

pub same_ranks : (a b : Row) → AreWords a → AreWords b → rank a ≡ rank b → (a.page ≡ b.page) × (a.at ≡ b.at)
same_ranks a b v w e =
    let m : ℕ = page_rank a.page in
    let n : ℕ = page_rank b.page in
    let both : m * 65536 + a.at ≡ n * 65536 + b.at = sym (rank_is a) ∙ e ∙ rank_is b in
    let pages : m ≡ n = omega (arith, v.at, w.at, both) in
    (same_pages a b v w pages, omega (arith, v.at, w.at, both))

-- ---- what tests of the order say
pub is_lower : (a b : Row) → is_below a b ≡ true → rank a < rank b
is_lower a b e = grind (arith, nat_tests, e)

pub isnt_lower : (a b : Row) → is_below a b ≡ false → rank b ≤ rank a
isnt_lower a b e = grind (arith, nat_tests, e)

pub lower_is : (a b : Row) → rank a < rank b → is_below a b ≡ true
lower_is a b l = grind (arith, nat_tests, l)

-- a row is above the bound, or there is one, and the row isn't higher
pub record IsBounded (last : Option Row) (r : Row) : Type 0 where
  pub b : Row
  pub is : last ≡ Some b
  pub most : rank r ≤ rank b

pub above_or : (last : Option Row) (r : Row) → (is_above last r ≡ true) ⊎ IsBounded last r
above_or None r = inl refl
above_or (Some b) r = by_test (is_below b r) refl
  where
    by_test : (t : Bool) → is_below b r ≡ t → (is_below b r ≡ true) ⊎ IsBounded (Some b) r
    by_test true e = inl e
    by_test false e = inr (record { b = b; is = refl; most = isnt_lower b r e })

-- a row above the bound has a higher rank
pub above_last : (last : Option Row) (b row : Row) → last ≡ Some b → is_above last row ≡ true → rank b < rank row
above_last last b row is e = is_lower b row (subst (λ l. is_above l row ≡ true) is e)

-- ---- between two rows
-- of one page there is that page, of one file that file
pub between_pages : (a b c : Row) → AreWords b → AreWords c → a.at < 65536 → a.page ≡ c.page → rank a ≤ rank b → rank b ≤ rank c → b.page ≡ c.page
between_pages a b c v w few e l m =
    let x : ℕ = page_rank a.page in
    let y : ℕ = page_rank b.page in
    let z : ℕ = page_rank c.page in
    let same : x ≡ z = ap page_rank e in
    let low : x * 65536 + a.at ≤ y * 65536 + b.at = omega (arith, rank_is a, rank_is b, l) in
    let high : y * 65536 + b.at ≤ z * 65536 + c.at = omega (arith, rank_is b, rank_is c, m) in
    same_pages b c v w (omega (arith, few, v.at, w.at, same, low, high))

pub between_fids : (a b c : Row) → AreWords b → AreWords c → a.at < 65536 → a.page.number < 65536 → a.page.fid ≡ c.page.fid → rank a ≤ rank b → rank b ≤ rank c → b.page.fid ≡ c.page.fid
between_fids a b c v w few small e l m =
    let x : ℕ = fid_rank a.page.fid in
    let y : ℕ = fid_rank b.page.fid in
    let z : ℕ = fid_rank c.page.fid in
    let same : x ≡ z = ap fid_rank e in
    let low : (x * 65536 + a.page.number) * 65536 + a.at ≤ (y * 65536 + b.page.number) * 65536 + b.at = omega (arith, rank_is a, rank_is b, l) in
    let high : (y * 65536 + b.page.number) * 65536 + b.at ≤ (z * 65536 + c.page.number) * 65536 + c.at = omega (arith, rank_is b, rank_is c, m) in
    same_fids b c v w (omega (arith, few, small, v.at, v.number, w.at, w.number, same, low, high))

-- in one file a page with a greater number comes later
pub later_number : (a b : Row) → a.at < 65536 → a.page.fid ≡ b.page.fid → a.page.number < b.page.number → rank a < rank b
later_number a b few e l =
    let x : ℕ = fid_rank a.page.fid in
    let y : ℕ = fid_rank b.page.fid in
    let same : x ≡ y = ap fid_rank e in
    let h : (x * 65536 + a.page.number) * 65536 + a.at < (y * 65536 + b.page.number) * 65536 + b.at = omega (arith, few, same, l) in
    omega (arith, rank_is a, rank_is b, h)

pub number_later : (a b : Row) → AreWords a → AreWords b → a.page.fid ≡ b.page.fid → rank a < rank b → a.page ≢ b.page → a.page.number < b.page.number
number_later a b v w e l other = by_number (above_number a.page.number b.page.number)
  where
    above_number : (m n : ℕ) → (m < n) ⊎ (n ≤ m)
    above_number m n = grind arith

    by_number : (a.page.number < b.page.number) ⊎ (b.page.number ≤ a.page.number) → a.page.number < b.page.number
    by_number (inl m) = m
    by_number (inr m) =
        let x : ℕ = fid_rank a.page.fid in
        let y : ℕ = fid_rank b.page.fid in
        let same : x ≡ y = ap fid_rank e in
        let h : (x * 65536 + a.page.number) * 65536 + a.at < (y * 65536 + b.page.number) * 65536 + b.at = omega (arith, rank_is a, rank_is b, l) in
        let number : a.page.number ≡ b.page.number = omega (arith, v.at, w.at, same, h, m) in
        absurd (other (λ i. record { fid = e i; number = number i }))

-- ---- rows of a pack
-- page numbers, addresses and counts of bytes are in range
pub record IsRanged (p : Pack) (i : ℕ) (r : Row) : Type 0 where
  pub here : r.at ≡ i
  pub first : 1 ≤ r.at
  pub at : r.at < 65536
  pub number : r.page.number < 65536
  pub count : r.bytes ≡ word (sector_at p i).label 3
  pub most : r.bytes ≤ 512

record TagRanged (t : Tag) : Type 0 where
  number : t.page < 65536
  bytes : t.bytes ≤ 512

tag_ranged : (t : Tag) → in_range t ≡ true → TagRanged t
unfolding in_range
tag_ranged t e = record { number = grind (arith, nat_tests, e); bytes = grind (arith, nat_tests, e) }

pub page_ranged : (label : List ℕ) (page : Page) → page_of label ≡ Some page → (page.number < 65536) × (word label 3 ≤ 512)
page_ranged label page e = by_test (in_range (tag label)) refl e
  where
    by_test : (t : Bool) → in_range (tag label) ≡ t → cond t (Some (record { fid = (tag label).fid; number = (tag label).page })) None ≡ Some page → (page.number < 65536) × (word label 3 ≤ 512)
    by_test true range h =
        let r = tag_ranged (tag label) range in
        let same : ◌≡◌ {A = Page} (record { fid = (tag label).fid; number = (tag label).page }) page = cc in
        (subst (λ x. x.number < 65536) same r.number, r.bytes)
    by_test false range h = cc

pub row_ranged : (p : Pack) (at : ℕ) (r : Row) → row_at p at ≡ Some r → IsRanged p at r
row_ranged p at r e =
    let placed = row_placed p at r e in
    let is : carried p at ≡ Some r.page = carried_row p at r e in
    let ranged = page_ranged (sector_at p at).label r.page ((carried_parts p at r.page is).1) in
    let same : record { page = r.page; at = at; bytes = word (sector_at p at).label 3 } ≡ r = (let both : Some (record { page = r.page; at = at; bytes = word (sector_at p at).label 3 }) ≡ Some r = sym (row_carried p at r.page is) ∙ e in cc) in
    let count : word (sector_at p at).label 3 ≡ r.bytes = ap (λ x. x.bytes) same in
    let most = p.shape.most_pages in
    record {
      here = placed.0;
      first = omega (arith, placed.0, placed.1);
      at = omega (arith, placed.0, placed.2, most);
      number = ranged.0;
      count = sym count;
      most = omega (arith, count, ranged.1);
    }

-- they are words, if the file's name is
pub words_of : (p : Pack) (at : ℕ) (r row : Row) → row_at p at ≡ Some r → AreWords row → r.page.fid ≡ row.page.fid → AreWords r
words_of p at r row e w same =
    let ranged = row_ranged p at r e in
    let fid : row.page.fid ≡ r.page.fid = sym same in
    record {
      high = subst (λ f. f.high < 65536) fid w.high;
      low = subst (λ f. f.low < 65536) fid w.low;
      version = subst (λ f. f.version < 65536) fid w.version;
      number = ranged.number;
      at = ranged.at;
    }

-- a row that is neither above nor below another is in its sector
pub same_sector : (p : Pack) (i : ℕ) (r row : Row) → row_at p i ≡ Some r → row.at < 65536 → is_below row r ≡ false → is_below r row ≡ false → i ≡ row.at
same_sector p i r row is few low high =
    let ranged = row_ranged p i r is in
    let here = ranged.here in
    let x : ℕ = page_rank r.page in
    let y : ℕ = page_rank row.page in
    let a : x * 65536 + r.at ≤ y * 65536 + row.at = omega (arith, rank_is r, rank_is row, isnt_lower row r low) in
    let b : y * 65536 + row.at ≤ x * 65536 + r.at = omega (arith, rank_is r, rank_is row, isnt_lower r row high) in
    omega (arith, here, ranged.at, few, a, b)

-- the place of a page is a sector with its row
pub record HasRow (p : Pack) (page : Page) (at : ℕ) : Type 0 where
  pub row : Row
  pub is : row_at p at ≡ Some row
  pub page_is : row.page ≡ page
  pub here : row.at ≡ at
  pub carries : carried p at ≡ Some page

pub row_of_place : (p : Pack) (page : Page) (at : ℕ) → place (sights p) page.fid page.number ≡ Some at → HasRow p page at
row_of_place p page at e =
    let carries : carried p at ≡ Some page = ((places_are_lowest p page).lowest at e).here in
    record { row = record { page = page; at = at; bytes = word (sector_at p at).label 3 }; is = row_carried p at page carries; page_is = refl; here = refl; carries = carries }

-- a living file has a row
pub living_row : (p : Pack) (f : Fid) → lives (sights p) f ≡ true → (at : ℕ) × (HasRow p (record { fid = f; number = 0 }) at)
living_row p f alive = by (place (sights p) f 0) refl
  where
    by : (o : Option ℕ) → place (sights p) f 0 ≡ o → (at : ℕ) × (HasRow p (record { fid = f; number = 0 }) at)
    by None e = absurd (let no : true ≡ false = sym alive ∙ file_lives_in_a_place p f ∙ ap is_some e in cc)
    by (Some at) e = (at, row_of_place p (record { fid = f; number = 0 }) at e)

-- ---- the next row
-- a row that isn't above it was met before, or is the next one
pub met_or_next : (p : Pack) (last : Option Row) (row : Row) → IsFirstAbove p last row → (i : ℕ) (r : Row) → row_at p i ≡ Some r → is_below row r ≡ false → (is_above last r ≡ false) ⊎ ((i ≡ row.at) × (r ≡ row))
met_or_next p last row first i r is low = by_test (is_above last r) refl
  where
    by_test : (t : Bool) → is_above last r ≡ t → (is_above last r ≡ false) ⊎ ((i ≡ row.at) × (r ≡ row))
    by_test false e = inl e
    by_test true e =
        let here : i ≡ row.at = same_sector p i r row is (row_ranged p row.at row first.here).at low (first.least i r is e) in
        inr (here, some_row (sym is ∙ ap (row_at p) here ∙ first.here))

-- the last row, where there was one, has another page than this row, or is of another file
abbrev pub IsOtherPage : Option Row → Row → Type 0
IsOtherPage last row = (b : Row) → last ≡ Some b → AreWords b × (b.page ≢ row.page)

abbrev pub IsOfOther : Option Row → Row → Type 0
IsOfOther last row = (b : Row) → last ≡ Some b → AreWords b × (b.page.fid ≢ row.page.fid)

-- after another page the next row is the lowest sector with its page
pub row_seated : (p : Pack) (last : Option Row) (row : Row) → AreWords row → IsOtherPage last row → IsFirstAbove p last row → IsSeated p row
row_seated p last row w other first = (places_are_lowest p row.page).place_is row.at (record { here = carried_row p row.at row first.here; lowest = λ j l c. none_lower j l c })
  where
    none_lower : (j : ℕ) → j < row.at → carried p j ≡ Some row.page → ⊥
    none_lower j l c =
        let r : Row = record { page = row.page; at = j; bytes = word (sector_at p j).label 3 } in
        let is : row_at p j ≡ Some r = row_carried p j row.page c in
        let x : ℕ = page_rank row.page in
        let h : x * 65536 + j < x * 65536 + row.at = omega (arith, l) in
        let low : rank r < rank row = omega (arith, rank_is r, rank_is row, h) in
        elim (above_or last r) [
          | inl above ↦ contrary (lower_is r row low) (first.least j r is above)
          | inr s ↦
              let o = other s.b s.is in
              let m : rank s.b < rank row = above_last last s.b row s.is first.above in
              o.1 (between_pages r s.b row o.0 w (omega (arith, l, w.at)) refl s.most (omega (arith, m)))
        ]

-- after another file every row of its file is above the last row
pub all_later : (p : Pack) (last : Option Row) (row : Row) → AreWords row → IsOfOther last row → IsFirstAbove p last row → (at : ℕ) (r : Row) → row_at p at ≡ Some r → r.page.fid ≡ row.page.fid → is_above last r ≡ true
all_later p last row w other first at r is same = elim (above_or last r) [
  | inl above ↦ above
  | inr s ↦
      let o = other s.b s.is in
      let ranged = row_ranged p at r is in
      let m : rank s.b < rank row = above_last last s.b row s.is first.above in
      absurd (o.1 (between_fids r s.b row o.0 w ranged.at ranged.number same s.most (omega (arith, m))))
]
