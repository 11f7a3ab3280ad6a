-- Second copies of pages, met along a pass.
use Rattle.std.proofs.Common.{◌≡◌, ◌≢◌, inl, inr, ℕ, ◌+◌, ◌*◌, ◌<◌, ◌≤◌, Bool, false, IsTrue, Ok, Option, Some, None, refl, sym, ap, subst, ◌∙◌, arith}
use Rattle.std.specs.Option.{option_map}
use Rattle.disk_records.specs.declared.records.Page.{Page}
use Rattle.disk_records.specs.Commands.{release_writes}
use Rattle.disk_records.specs.Packs.{Pack, after, carried, sector_at}
use Rattle.disk_records.specs.Tapes.{DiskAlone, Grown, Looks, Taped, pack}
use Rattle.disk_records.specs.Words.{word}
use Rattle.disk_records.proofs.Growing.{alone_twice}
use Rattle.disk_records.proofs.Looking.{looks_pack}
use Rattle.label_check.specs.Guarded.{Carries, DoneWhole}
use Rattle.laws_mend.specs.laws_contents.proofs.pages.Laws.{once_is_by_labels}
use Rattle.laws_mend.specs.Parts.{FreesMore}
use Rattle.laws_mend.proofs.numbers.Laws.{copy_release_frees, frees_join}
use Rattle.laws_mend.proofs.parts.Laws.{copy_release_leaves}
use Rattle.laws_mend.proofs.runs.Laws.{copy_release_tends}
use Rattle.pack_model.specs.reading.Sights.{sights}
use Rattle.pack_model.specs.states.Sentences.{EachOnce}
use Rattle.scav_table.specs.declared.pass.Pass.{Pass as RowPass}
use Rattle.scav_table.specs.declared.row.Row.{Row}
use Rattle.scav_table.specs.Laws.{IsFirstAbove, IsNextRow}
use Rattle.scav_table.specs.Passes.{IsPassed, Stands}
use Rattle.scav_table.specs.Rows.{is_above, is_below, rank, row_at}
use Rattle.scav_table.specs.Windows.{Window}
use Rattle.scav_pages.specs.Does.{Does}
use Rattle.scav_pages.specs.Parts.{CopiesReleased}
use Rattle.scav_pages.specs.Walks.{AreWords}
use Rattle.scav_pages.proofs.Changing.{release_changes}
use Rattle.scav_pages.proofs.Doing.{Going, does_ok, going_done, going_here, going_looks, pack_done}
use Rattle.scav_pages.proofs.Keeping.{Mends, keeps_released}
use Rattle.scav_pages.proofs.Passing.{carried_row, contrary, row_carried, some_row}
use Rattle.scav_pages.proofs.Ranking.{above_last, above_or, between_pages, met_or_next, page_rank, rank_is, row_ranged}
use Rattle.scav_pages.proofs.Releasing.{Released, met_before, row_goes, stands_released}

-- ---- the rows that were met
-- Of those up to the row in hand no two have one page, and a sector at or below the row in hand carries its page.
pub record AreApart (p : Pack) (last : Option Row) : Type 0 where
  pub apart : (i j : ℕ) (r s : Row) → row_at p i ≡ Some r → row_at p j ≡ Some s → is_above last r ≡ false → is_above last s ≡ false → r.page ≡ s.page → i ≡ j
  pub words : (r : Row) → last ≡ Some r → AreWords r
  pub carried_low : (r : Row) → last ≡ Some r → (at : ℕ) × (at ≤ r.at) × (carried p at ≡ Some r.page)

pub apart_none : (p : Pack) → AreApart p None
apart_none p = record { apart = λ i j r s ri sj lr ls same. cc; words = λ r e. cc; carried_low = λ r e. cc }

-- all rows were met
pub apart_all : (p : Pack) (last : Option Row) → AreApart p last → IsNextRow p last None → EachOnce (sights p)
apart_all p last old none = (once_is_by_labels p).1 by_labels
  where
    row_of : ℕ → Page → Row
    row_of i page = record { page = page; at = i; bytes = word (sector_at p i).label 3 }

    passed : (i : ℕ) (page : Page) → carried p i ≡ Some page → is_above last (row_of i page) ≡ false
    passed i page h = subst (IsPassed last) (row_carried p i page h) (none i)

    by_labels : (i j : ℕ) (page : Page) → carried p i ≡ Some page → carried p j ≡ Some page → i ≡ j
    by_labels i j page hi hj = old.apart i j (row_of i page) (row_of j page) (row_carried p i page hi) (row_carried p j page hj) (passed i page hi) (passed j page hj) refl

-- ---- the next row
module _ (p : Pack) (last : Option Row) (row : Row) (words : AreWords row) (first : IsFirstAbove p last row) where
  -- after another page no row that was met has its page
  none_met : AreApart p last → ((b : Row) → last ≡ Some b → b.page ≢ row.page) → (i : ℕ) (r : Row) → row_at p i ≡ Some r → is_above last r ≡ false → r.page ≢ row.page
  none_met old other i r is low same = elim (above_or last r) [
    | inl above ↦ contrary above low
    | inr s ↦
        let less : rank s.b < rank row = above_last last s.b row s.is first.above in
        other s.b s.is (between_pages r s.b row (old.words s.b s.is) words (row_ranged p i r is).at same s.most (omega (arith, less)))
  ]

  pub apart_next : AreApart p last → ((b : Row) → last ≡ Some b → b.page ≢ row.page) → AreApart p (Some row)
  apart_next old other = record {
    apart = λ i j r s ri sj lr ls same. elim (met_or_next p last row first i r ri lr) [
      | inl a ↦ elim (met_or_next p last row first j s sj ls) [
        | inl b ↦ old.apart i j r s ri sj a b same
        | inr here ↦ absurd (none_met old other i r ri a (same ∙ ap (λ x. x.page) here.1))
      ]
      | inr here ↦ elim (met_or_next p last row first j s sj ls) [
        | inl b ↦ absurd (none_met old other j s sj b (sym same ∙ ap (λ x. x.page) here.1))
        | inr there ↦ here.0 ∙ sym there.0
      ]
    ];
    words = λ r e. subst AreWords (some_row e) words;
    carried_low = λ r e. (let is : row ≡ r = some_row e in (row.at, (let same : row.at ≡ r.at = ap (λ x. x.at) is in omega (arith, same)), carried_row p row.at row first.here ∙ ap (λ x. Some x.page) is));
  }

  -- after the same page it is a second copy
  pub record IsSecond : Type 0 where
    pub lower : ℕ
    pub less : lower < row.at
    pub carries : carried p lower ≡ Some row.page

  pub is_second : AreApart p last → (b : Row) → last ≡ Some b → b.page ≡ row.page → IsSecond
  is_second old b is same =
      let low = old.carried_low b is in
      let x : ℕ = page_rank b.page in
      let y : ℕ = page_rank row.page in
      let pages : x ≡ y = ap page_rank same in
      let less : x * 65536 + b.at < y * 65536 + row.at = omega (arith, rank_is b, rank_is row, above_last last b row is first.above) in
      record { lower = low.0; less = omega (arith, low.1, less, pages); carries = low.2 ∙ ap (λ x. Some x) same }

  -- which is released
  pub apart_released : AreApart p last → IsSecond → AreApart (after p (release_writes row.at)) (Some row)
  apart_released old second = record {
    apart = λ i j r s ri sj lr ls same. (let a = before i r ri lr in let b = before j s sj ls in old.apart i j r s a.0 b.0 a.1 b.1 same);
    words = λ r e. subst AreWords (some_row e) words;
    carried_low = λ r e. (let is : row ≡ r = some_row e in (second.lower, (let same : row.at ≡ r.at = ap (λ x. x.at) is in let less = second.less in omega (arith, same, less)), gone.pages second.lower (λ at. (let less = second.less in omega (arith, at, less))) ∙ second.carries ∙ ap (λ x. Some x.page) is));
  }
    where
      gone : Released p row
      gone = row_goes p last row first

      before : (i : ℕ) (r : Row) → row_at (after p (release_writes row.at)) i ≡ Some r → is_below row r ≡ false → (row_at p i ≡ Some r) × (is_above last r ≡ false)
      before = met_before p last row first

-- ---- the pass so far
-- so many second copies up to the row in hand were released
pub record CopiesTo (a b : Taped) (last : Option Row) (freed : ℕ) : Type 0 where
  pub apart : AreApart (pack b) last
  pub frees : FreesMore (pack a) (pack b) freed
  pub going : Going a b

pub copies_none : {told : Bool} {most : ℕ} {a b : Taped} → Looks told most a b → IsTrue told → CopiesTo a b None 0
copies_none {a = a} {b = b} looks h = record {
  apart = apart_none (pack b);
  frees = subst (λ q. FreesMore (pack a) q 0) (sym (looks_pack looks h)) (record { free = omega arith; available_is = refl });
  going = going_looks (going_here a) looks h;
}

module _ {told : Bool} {most freed : ℕ} {a b c : Taped} {last : Option Row} {row : Row} (so_far : CopiesTo a b last freed) (looks : Looks told most b c) (h : IsTrue told) (words : AreWords row) (first : IsFirstAbove (pack b) last row) where
  -- the next row isn't a second copy
  pub copies_next : ((r : Row) → last ≡ Some r → r.page ≢ row.page) → CopiesTo a c (Some row) freed
  copies_next other = record {
    apart = subst (λ p. AreApart p (Some row)) (sym (looks_pack looks h)) (apart_next (pack b) last row words first so_far.apart other);
    frees = subst (λ q. FreesMore (pack a) q freed) (sym (looks_pack looks h)) so_far.frees;
    going = going_looks so_far.going looks h;
  }

  -- it is one
  module _ (r : Row) (is : last ≡ Some r) (same : r.page ≡ row.page) where
    second : IsSecond (pack b) last row words first
    second = is_second (pack b) last row words first so_far.apart r is same

    pub copy_here : carried (pack c) row.at ≡ Some row.page
    copy_here = subst (λ p. carried p row.at ≡ Some row.page) (sym (looks_pack looks h)) (carried_row (pack b) row.at row first.here)

    pub copy_mends : Mends (pack c) (release_writes row.at)
    copy_mends = subst (λ p. Mends p (release_writes row.at)) (sym (looks_pack looks h)) (record {
      each = record {
        tends = copy_release_tends (pack b) row.at second.lower row.page (carried_row (pack b) row.at row first.here) second.carries second.less;
        changes = release_changes (pack b) row.at row.page (carried_row (pack b) row.at row first.here);
      };
      keeps = keeps_released (pack b) row.at row.page (carried_row (pack b) row.at row first.here) (copy_release_leaves (pack b) row.at second.lower row.page (carried_row (pack b) row.at row first.here) second.carries second.less);
    })

    -- which is released
    pub copies_released : {d : Taped} → Grown c d → DoneWhole (Carries row.at row.page) (release_writes row.at) 2 c d → CopiesTo a d (Some row) (freed + 1)
    copies_released {d} grown done =
        let now : pack d ≡ after (pack b) (release_writes row.at) = pack_done grown done ∙ ap (λ p. after p (release_writes row.at)) (looks_pack looks h) in
        record {
          apart = subst (λ p. AreApart p (Some row)) (sym now) (apart_released (pack b) last row words first so_far.apart second);
          frees = subst (λ q. FreesMore (pack a) q (freed + 1)) (sym now)
              (frees_join (pack a) (pack b) (after (pack b) (release_writes row.at)) freed 1 so_far.frees (copy_release_frees (pack b) row.at second.lower row.page (carried_row (pack b) row.at row first.here) second.carries second.less));
          going = going_done (going_looks so_far.going looks h) grown copy_mends done;
        }

-- ---- all rows
pub copies_all : {told : Bool} {most freed : ℕ} {a b c : Taped} {last : Option Row} → CopiesTo a b last freed → Looks told most b c → IsTrue told → IsNextRow (pack b) last None → Does {T = ℕ} CopiesReleased a c (Ok freed)
copies_all {freed = freed} {a = a} {b = b} {last = last} so_far looks h none = does_ok freed (going_looks so_far.going looks h) (subst (λ q. CopiesReleased (pack a) q freed) (sym (looks_pack looks h)) (record { once = apart_all (pack b) last so_far.apart none; frees = so_far.frees }))

-- ---- the loop
-- the pass goes on, where the machine is modelled over the pack as it is now
pub record CopiesPass (told : Bool) (a b : Taped) (table : Window) (pass : RowPass) (freed : ℕ) : Type 0 where
  pub stands : Stands told (pack b) table pass
  pub alone : DiskAlone a b
  pub released : IsTrue told → CopiesTo a b pass.last freed

-- the last row with a page that is kept
pub last_row : (last : Option Row) (page : Page) → option_map (λ r. r.page) last ≡ Some page → (r : Row) × (last ≡ Some r) × (r.page ≡ page)
last_row None page e = cc
last_row (Some r) page e = (r, refl, cc)

module _ {told : Bool} {most freed : ℕ} {a b c : Taped} {table window : Window} {pass next : RowPass} {row : Row} (so_far : CopiesPass told a b table pass freed) (looks : Looks told most b c) (stands : Stands told (pack c) window next) (last : next.last ≡ Some row) (words : AreWords row) (first : IsTrue told → IsFirstAbove (pack b) pass.last row) where
  pub goes_by : ((r : Row) → pass.last ≡ Some r → r.page ≢ row.page) → CopiesPass told a c window next freed
  goes_by other = record {
    stands = stands;
    alone = alone_twice so_far.alone looks.alone;
    released = λ h. subst (λ l. CopiesTo a c l freed) (sym last) (copies_next (so_far.released h) looks h words (first h) other);
  }

  module _ {more : ℕ} {d : Taped} (r : Row) (is : pass.last ≡ Some r) (same : r.page ≡ row.page) (alone : DiskAlone c d) (done : IsTrue told → DoneWhole (Carries row.at row.page) (release_writes row.at) 2 c d) (count : IsTrue told → FreesMore (pack a) (pack d) (freed + 1) → more ≡ freed + 1) where
    pub releases : CopiesPass told a d window next more
    releases = record {
      stands = stands_released looks stands last first alone done;
      alone = alone_twice (alone_twice so_far.alone looks.alone) alone;
      released = λ h. (let all = copies_released (so_far.released h) looks h words (first h) r is same alone.grown (done h) in subst (λ l. CopiesTo a d l more) (sym last) (subst (CopiesTo a d (Some row)) (sym (count h all.frees)) all));
    }
