-- A pass in its table: at a new window, at the next row, and over a pack that changes at or below the row in hand.
use Rattle.std.proofs.Common.{◌≡◌, ℕ, zero, suc, ◌+◌, ◌<◌, ◌≤◌, ◌==◌, Bool, true, nat_lt, Bor, IfSome, IsTrue, List, [], ◌∷◌, ◌++◌, length, get_or, drop, Option, Some, None, sym, ap, subst, ◌∙◌, arith}
use Rattle.std.proofs.lemmas.Bool.Decides.{nat_tests}
use Rattle.std.proofs.lemmas.List.{drop_more, drop_all}
use Rattle.std.specs.Option.{is_some, option_copied}
use Rattle.disk_records.specs.Addresses.{pages_of}
use Rattle.disk_records.specs.Packs.{Pack}
use Rattle.disk_records.specs.Tapes.{Taped, Looks, pack}
use Rattle.disk_records.proofs.Growing.{length-pack}
use Rattle.disk_records.proofs.Looking.{looks_pack}
use Rattle.scav_table.specs.declared.pass.Pass.{Pass as RowPass}
use Rattle.scav_table.specs.declared.row.Row.{Row}
use Rattle.scav_table.specs.Passes.{Stands, after_window}
use Rattle.scav_table.specs.Rows.{is_below, is_above, no_row, Rises, AreLow, last_or, rows_above}
use Rattle.scav_table.specs.Windows.{Window, IsFilled}
use Rattle.scav_table.proofs.Passing.{window_joined, next_above}
use Rattle.scav_table.proofs.Rising.{further}

-- a pack of a machine has fewer sectors than words have values
pub few_sectors : (t : Taped) → length t.base ≡ pages_of t.form → length (pack t).sectors ≤ 65536
few_sectors t sized = let most = t.form.most_pages in omega (arith, length-pack t, sized, most)

pub higher_last : (b : Option Row) (xs : List Row) (x : Row) → Rises b xs → is_above (last_or b xs) x ≡ true → is_above b x ≡ true
higher_last b [] x s e = e
higher_last b (y ∷ ys) x s e = further b y x s.0 (higher_last (Some y) ys x s.1 e)

rises_under : (b last : Option Row) (xs : List Row) → ((x : Row) → is_above b x ≡ true → is_above last x ≡ true) → Rises b xs → Rises last xs
rises_under b last [] h s = tt
rises_under b last (x ∷ xs) h s = (h x s.0, s.1)

last_higher : (b last : Option Row) (xs : List Row) (x : Row) → ((x : Row) → is_above b x ≡ true → is_above last x ≡ true) → is_above (last_or b xs) x ≡ true → is_above (last_or last xs) x ≡ true
last_higher b last [] x h e = h x e
last_higher b last (y ∷ ys) x h e = e

-- ---- a new window
pub stands_filled : {told : Bool} {t now : Taped} {most : ℕ} (b last : Option Row) (w : Window) → (IsTrue told → length t.base ≡ pages_of t.form) → Looks told most t now → IsFilled told t b w.rows w.bad → w.bound ≡ last_or b w.rows
    → ((x : Row) → is_above b x ≡ true → is_above last x ≡ true) → (IsTrue told → rows_above (pack t) last ≡ rows_above (pack t) b) → Stands told (pack now) w (record { place = 0; last = last })
stands_filled {told} {t} {now} {most} b last w sized looks f bound h same = record {
  within = omega arith;
  most = f.most;
  low = f.low;
  rises = rises_under b last w.rows h f.rises;
  higher = λ x e. last_higher b last w.rows x h (subst (λ c. is_above c x ≡ true) bound e);
  left = λ k.
      let p = pack t in
      let joined : rows_above p b ≡ w.rows ++ after_window (length w.rows == 1024) p w.bound =
      window_joined p b (few_sectors t (sized k))
      ∙ ap (λ l. l ++ after_window (length l == 1024) p (last_or b l)) (sym (f.rows k))
      ∙ ap (λ c. w.rows ++ after_window (length w.rows == 1024) p c) (sym bound) in
      subst (λ q. rows_above q last ≡ w.rows ++ after_window (length w.rows == 1024) q w.bound) (sym (looks_pack looks k)) (same k ∙ joined);
}

-- at the end of a full window
pub bound_above : {told : Bool} {p : Pack} {w : Window} {pass : RowPass} → Stands told p w pass → pass.place ≡ 1024 → (x : Row) → is_above w.bound x ≡ true → is_above pass.last x ≡ true
bound_above {w = w} {pass = pass} s e x a =
    let most = s.most in
    subst (λ l. is_above (last_or pass.last l) x ≡ true) (drop_all pass.place w.rows (omega (arith, most, e))) (s.higher x a)

pub same_above_bound : {told : Bool} {p : Pack} {w : Window} {pass : RowPass} → Stands told p w pass → pass.place ≡ 1024 → IsTrue told → rows_above p pass.last ≡ rows_above p w.bound
same_above_bound {p = p} {w = w} {pass = pass} s e k =
    let most = s.most in
    let within = s.within in
    let full : (length w.rows == 1024) ≡ true = grind (arith, nat_tests, most, within, e) in
    s.left k
    ∙ ap (λ l. l ++ after_window (length w.rows == 1024) p w.bound) (drop_all pass.place w.rows (omega (arith, most, e)))
    ∙ ap (λ t. after_window t p w.bound) full

-- ---- the next row
pub low_at : (end : ℕ) (xs : List Row) (i : ℕ) (d : Row) → AreLow end xs → i < length xs → is_below (get_or xs i d) no_row ≡ true
low_at end [] i d low l = absurd (omega arith)
low_at end (x ∷ xs) zero d low l = low.0.below
low_at end (x ∷ xs) (suc i) d low l = low_at end xs i d low.1 (omega arith)

module _ {told : Bool} {p : Pack} {w : Window} {pass : RowPass} (row : Row) (s : Stands told p w pass) (inside : pass.place < length w.rows) (got : get_or w.rows pass.place row ≡ row) where
  next_drop : drop pass.place w.rows ≡ row ∷ drop (pass.place + 1) w.rows
  next_drop = drop_more w.rows pass.place row inside ∙ ap (λ r. r ∷ drop (pass.place + 1) w.rows) got

  rising : Rises pass.last (row ∷ drop (pass.place + 1) w.rows)
  rising = subst (Rises pass.last) next_drop s.rises

  pub next_rises : (is_above pass.last row ≡ true) × (is_below row no_row ≡ true)
  next_rises = (rising.0, subst (λ r. is_below r no_row ≡ true) got (low_at 65536 w.rows pass.place row s.low inside))

  pub stands_next : (IsTrue told → length p.sectors ≤ 65536) → Stands told p w (record { place = pass.place + 1; last = Some row })
  stands_next few = record {
    within = omega (arith, inside);
    most = s.most;
    low = s.low;
    rises = rising.1;
    higher = λ x e. subst (λ l. is_above (last_or pass.last l) x ≡ true) next_drop (s.higher x e);
    left = λ k. next_above p pass.last row (drop (pass.place + 1) w.rows ++ after_window (length w.rows == 1024) p w.bound) (few k) (s.left k ∙ ap (λ l. l ++ after_window (length w.rows == 1024) p w.bound) next_drop);
  }

-- what is read of a list by its index
pub got_row : (l : List Row) (i : ℕ) (row : Row) (r : Option (Bor Row)) → Some row ≡ option_copied r → is_some r ≡ nat_lt i (length l) → IfSome r (λ x. x.now ≡ get_or l i x.now) → (i < length l) × (get_or l i row ≡ row)
got_row l i row None e inside holds = cc
got_row l i row (Some x) e inside holds =
    let same : x.now ≡ row = cc in
    let within : i < length l = grind (arith, nat_tests, inside) in
    (within, subst (λ y. get_or l i y ≡ y) same (sym holds))
