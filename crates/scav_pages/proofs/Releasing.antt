-- The next row of a pass is released.
use Rattle.std.proofs.Common.{◌≡◌, ◌≢◌, inl, inr, ℕ, Bool, true, false, IsTrue, Option, Some, None, sym, ap, subst, ◌∙◌, arith}
use Rattle.disk_records.specs.Commands.{release_writes}
use Rattle.disk_records.specs.Packs.{Pack, after, sector_at}
use Rattle.disk_records.specs.Tapes.{DiskAlone, Looks, Taped, pack}
use Rattle.disk_records.proofs.Looking.{looks_pack}
use Rattle.label_check.specs.Guarded.{Carries, DoneWhole}
use Rattle.laws_mend.specs.pack_laws.specs.GuardLaws.{ChangesOne, released}
use Rattle.laws_mend.specs.pack_laws.proofs.guards.Laws.{release_frees_at_the_label}
use Rattle.pack_model.specs.reading.Sights.Sight.{free}
use Rattle.scav_table.specs.declared.pass.Pass.{Pass as RowPass}
use Rattle.scav_table.specs.declared.row.Row.{Row}
use Rattle.scav_table.specs.Laws.{IsFirstAbove, WritesAt}
use Rattle.scav_table.specs.Passes.{IsPassed, Stands}
use Rattle.scav_table.specs.Rows.{is_above, is_below, row_at}
use Rattle.scav_table.specs.Windows.{Window}
use Rattle.scav_pages.proofs.Doing.{pack_done}
use Rattle.scav_pages.proofs.Passing.{carried_row, passed_none, passed_row, release_at, row_none, row_stays, stands_over}
use Rattle.scav_pages.proofs.Ranking.{met_or_next}

-- the sector of a row, after its release
abbrev pub Released : Pack → Row → Type 0
Released p row = ChangesOne row.at None true free (released (sector_at p row.at) 2) p (after p (release_writes row.at))

module _ (p : Pack) (last : Option Row) (row : Row) (first : IsFirstAbove p last row) where
  -- it goes, and so each other row up to it was met before
  pub row_goes : Released p row
  row_goes = release_frees_at_the_label p row.at row.page 2 (carried_row p row.at row first.here) (omega arith)

  pub met_before : (i : ℕ) (r : Row) → row_at (after p (release_writes row.at)) i ≡ Some r → is_below row r ≡ false → (row_at p i ≡ Some r) × (is_above last r ≡ false)
  met_before i r is low = (old, elim (met_or_next p last row first i r old low) [ inl e ↦ e | inr next ↦ absurd (other next.0) ])
    where
      q : Pack
      q = after p (release_writes row.at)

      other : i ≢ row.at
      other at = (let none : None ≡ Some r = sym (row_none q row.at row_goes.page_here) ∙ ap (row_at q) (sym at) ∙ is in cc)

      old : row_at p i ≡ Some r
      old = sym (row_stays i (release_at p row.at) other) ∙ is

-- the pass goes on over the release
module _ {told : Bool} {most : ℕ} {b c d : Taped} {window : Window} {last : Option Row} {next : RowPass} {row : Row} (looks : Looks told most b c) (stands : Stands told (pack c) window next) (is : next.last ≡ Some row) (first : IsTrue told → IsFirstAbove (pack b) last row) (alone : DiskAlone c d) (done : IsTrue told → DoneWhole (Carries row.at row.page) (release_writes row.at) 2 c d) where
  left : (h : IsTrue told) → pack d ≡ after (pack b) (release_writes row.at)
  left h = pack_done alone.grown (done h) ∙ ap (λ p. after p (release_writes row.at)) (looks_pack looks h)

  writes : IsTrue told → WritesAt row.at (pack c) (pack d)
  writes h = subst (WritesAt row.at (pack c)) (sym (pack_done alone.grown (done h))) (release_at (pack c) row.at)

  old : IsTrue told → IsPassed (Some row) (row_at (pack c) row.at)
  old h = subst (λ p. IsPassed (Some row) (row_at p row.at)) (sym (looks_pack looks h)) (passed_row (pack b) row (first h).here)

  now : IsTrue told → IsPassed (Some row) (row_at (pack d) row.at)
  now h = subst (λ p. IsPassed (Some row) (row_at p row.at)) (sym (left h)) (passed_none (after (pack b) (release_writes row.at)) row.at (Some row)
      (release_frees_at_the_label (pack b) row.at row.page 2 (carried_row (pack b) row.at row (first h).here) (omega arith)).page_here)

  pub stands_released : Stands told (pack d) window next
  stands_released = stands_over (pack d) row.at stands (λ h. (writes h, subst (λ l. IsPassed l (row_at (pack c) row.at)) (sym is) (old h), subst (λ l. IsPassed l (row_at (pack d) row.at)) (sym is) (now h)))
