-- Pages in use are kept along a pass, and the others go.
use Rattle.std.specs.Option.{is_some}
use Rattle.std.proofs.Common.{◌≡◌, ◌≢◌, inl, inr, ℕ, ◌+◌, ◌<◌, ◌≤◌, Bool, true, false, IfSome, IsTrue, Ok, Option, Some, None, refl, sym, ap, subst, ◌∙◌, arith}
use Rattle.alto_words.specs.declared.fid.Fid.{Fid}
use Rattle.alto_words.specs.Fid.{sys_dir}
use Rattle.disk_records.specs.declared.records.Page.{Page}
use Rattle.disk_records.specs.Addresses.{pages_of}
use Rattle.disk_records.specs.Commands.{release_writes}
use Rattle.disk_records.specs.Packs.{Pack, after, carried, sector_at}
use Rattle.disk_records.specs.Tapes.{DiskAlone, Grown, Looks, Taped, pack}
use Rattle.disk_records.specs.Words.{word}
use Rattle.disk_records.proofs.Growing.{alone_twice}
use Rattle.disk_records.proofs.Looking.{looks_pack}
use Rattle.label_check.specs.Guarded.{Carries, DoneWhole}
use Rattle.laws_mend.specs.pack_laws.proofs.guards.Laws.{release_frees_at_the_label}
use Rattle.laws_mend.specs.laws_record.proofs.DirReads.{not_descriptor}
use Rattle.laws_mend.specs.laws_contents.proofs.pages.Laws.{carried_once_is_in_place, once_is_by_labels}
use Rattle.laws_mend.specs.laws_operation.proofs.places.Laws.{file_lives_in_a_place}
use Rattle.laws_mend.specs.PartLaws.{UnusedGone}
use Rattle.laws_mend.specs.Parts.{Ended, FreesMore}
use Rattle.laws_mend.proofs.counting.Laws.{used_by_its_page}
use Rattle.laws_mend.proofs.numbers.Laws.{frees_join, unused_release_frees}
use Rattle.laws_mend.proofs.parts.Laws.{unused_release_leaves}
use Rattle.laws_mend.proofs.runs.Laws.{unused_release_tends}
use Rattle.pack_model.specs.reading.Files.{place}
use Rattle.pack_model.specs.reading.Sights.{sights}
use Rattle.pack_model.specs.states.InUse.{counts}
use Rattle.scav_table.specs.declared.pass.Pass.{Pass as RowPass}
use Rattle.scav_table.specs.declared.row.Row.{Row}
use Rattle.scav_table.specs.Laws.{IsFirstAbove, IsNextRow}
use Rattle.scav_table.specs.Passes.{IsPassed, Stands}
use Rattle.scav_table.specs.Rows.{is_above, is_below, row_at}
use Rattle.scav_table.specs.Windows.{Window}
use Rattle.scav_pages.specs.declared.files.FileWalk.{FileWalk}
use Rattle.scav_pages.specs.declared.unused.Unused.{Unused}
use Rattle.scav_pages.specs.Does.{Does}
use Rattle.scav_pages.specs.Parts.{UnusedReleased}
use Rattle.scav_pages.specs.Walks.{Walked}
use Rattle.scav_pages.proofs.Changing.{release_changes}
use Rattle.scav_pages.proofs.Doing.{Going, does_ok, going_done, going_here, going_looks, pack_done}
use Rattle.scav_pages.proofs.Keeping.{Mends, keeps_bytes}
use Rattle.scav_pages.proofs.Leading.{leaders_released}
use Rattle.scav_pages.proofs.Passing.{SameAhead, ahead_here, ahead_moves, ahead_stays, carried_row, first_above_stays, passed_none, passed_row, release_at, row_carried}
use Rattle.scav_pages.proofs.Ranking.{met_or_next, row_of_place}
use Rattle.scav_pages.proofs.Releasing.{Released, met_before, row_goes, stands_released}
use Rattle.scav_pages.proofs.Rooting.{root_page}

-- as the pack began
abbrev counted : Taped → Page → Bool
counted a page = counts (pack a).shape (sights (pack a)) page.fid page.number

-- ---- the pass so far
-- The pages of the rows up to the row in hand are in use, if they are still there. Each page counts if and only if it counted as the pass
-- began, and the rows above the row in hand are those of the pack as it was then. SysDir's leader page, if it was met, is noted.
pub record UsedTo (a b : Taped) (last : Option Row) (walk : FileWalk) (unused : Unused) : Type 0 where
  pub walked : Walked (pack a) last walk
  pub ahead : SameAhead (pack a) (pack b) last
  pub ended : Ended (pack b)
  pub counts_are : (f : Fid) (n : ℕ) → counts (pack b).shape (sights (pack b)) f n ≡ counts (pack a).shape (sights (pack a)) f n
  pub used : (i : ℕ) (r : Row) → row_at (pack b) i ≡ Some r → is_above last r ≡ false → counted a r.page ≡ true
  pub frees : FreesMore (pack a) (pack b) unused.freed
  pub going : Going a b
  pub root_met : (i : ℕ) (r : Row) → row_at (pack b) i ≡ Some r → is_above last r ≡ false → r.page ≡ (root_page 0) → unused.root ≡ Some i
  pub root_is : (at : ℕ) → unused.root ≡ Some at → (carried (pack b) at ≡ Some (root_page 0)) × (counted a (root_page 0) ≡ true)

pub used_none : {told : Bool} {most : ℕ} {a b : Taped} (walk : FileWalk) → Looks told most a b → IsTrue told → Ended (pack a) → Walked (pack a) None walk → UsedTo a b None walk (record { freed = 0; root = None })
used_none {a = a} {b = b} walk looks h ended walked = record {
  walked = walked;
  ahead = subst (λ q. SameAhead (pack a) q None) (sym (looks_pack looks h)) (ahead_here (pack a) None);
  ended = subst Ended (sym (looks_pack looks h)) ended;
  counts_are = λ f n. ap (λ p. counts p.shape (sights p) f n) (looks_pack looks h);
  used = λ i r is low. cc;
  frees = subst (λ q. FreesMore (pack a) q 0) (sym (looks_pack looks h)) (record { free = omega arith; available_is = refl });
  going = going_looks (going_here a) looks h;
  root_met = λ i r is low same. cc;
  root_is = λ at is. cc;
}

-- what is noted of a row
pub data IsNoted (row : Row) (before after : Option ℕ) : Type 0 where
  noted : row.page ≡ (root_page 0) → after ≡ Some row.at → IsNoted row before after
  other : row.page ≢ (root_page 0) → after ≡ before → IsNoted row before after

module _ {told : Bool} {most : ℕ} {a b c : Taped} {last : Option Row} {walk next : FileWalk} {unused : Unused} {row : Row} (so_far : UsedTo a b last walk unused) (looks : Looks told most b c) (h : IsTrue told) (first : IsFirstAbove (pack b) last row) (walked : Walked (pack a) (Some row) next) where
  here : carried (pack b) row.at ≡ Some row.page
  here = carried_row (pack b) row.at row first.here

  -- the next row is in use
  stays : (root : Option ℕ) → counted a row.page ≡ true → IsNoted row unused.root root → UsedTo a b (Some row) next (record { freed = unused.freed; root = root })
  stays root count note = record {
    walked = walked;
    ahead = ahead_moves row so_far.ahead first.above;
    ended = so_far.ended;
    counts_are = so_far.counts_are;
    used = λ i r is low. elim (met_or_next (pack b) last row first i r is low) [
      | inl old ↦ so_far.used i r is old
      | inr next ↦ ap (λ (x : Row). counted a x.page) next.1 ∙ count
    ];
    frees = so_far.frees;
    going = so_far.going;
    root_met = λ i r is low same. elim (met_or_next (pack b) last row first i r is low) [
      | inl old ↦ met_root i r is (so_far.root_met i r is old same) same note
      | inr next ↦ here_root i r next.0 next.1 same note
    ];
    root_is = λ at is. root_there at is note;
  }
    where
      met_root : (i : ℕ) (r : Row) → row_at (pack b) i ≡ Some r → unused.root ≡ Some i → r.page ≡ (root_page 0) → IsNoted row unused.root root → root ≡ Some i
      met_root i r is old same (noted page now) =
          now ∙ ap (λ k. Some k) ((once_is_by_labels (pack b)).0 so_far.ended.cleared.once row.at i (root_page 0) (here ∙ ap (λ x. Some x) page) (carried_row (pack b) i r is ∙ ap (λ x. Some x) same))
      met_root i r is old same (other page now) = now ∙ old

      here_root : (i : ℕ) (r : Row) → i ≡ row.at → r ≡ row → r.page ≡ (root_page 0) → IsNoted row unused.root root → root ≡ Some i
      here_root i r at is same (noted page now) = now ∙ ap (λ k. Some k) (sym at)
      here_root i r at is same (other page now) = absurd (page (ap (λ (x : Row). x.page) (sym is) ∙ same))

      root_there : (at : ℕ) → root ≡ Some at → IsNoted row unused.root root → (carried (pack b) at ≡ Some (root_page 0)) × (counted a (root_page 0) ≡ true)
      root_there at is (noted page now) =
          let both : Some row.at ≡ Some at = sym now ∙ is in
          let same : row.at ≡ at = cc in
          (ap (carried (pack b)) (sym same) ∙ here ∙ ap (λ x. Some x) page, ap (counted a) (sym page) ∙ count)
      root_there at is (other page now) = so_far.root_is at (sym now ∙ is)

  pub used_next : (root : Option ℕ) → counted a row.page ≡ true → IsNoted row unused.root root → UsedTo a c (Some row) next (record { freed = unused.freed; root = root })
  used_next root count note =
      let u = stays root count note in
      record {
        walked = u.walked;
        ahead = subst (λ q. SameAhead (pack a) q (Some row)) (sym (looks_pack looks h)) u.ahead;
        ended = subst Ended (sym (looks_pack looks h)) u.ended;
        counts_are = λ f n. ap (λ (p : Pack). counts p.shape (sights p) f n) (looks_pack looks h) ∙ u.counts_are f n;
        used = λ i r is. u.used i r (ap (λ p. row_at p i) (sym (looks_pack looks h)) ∙ is);
        frees = subst (λ q. FreesMore (pack a) q unused.freed) (sym (looks_pack looks h)) u.frees;
        going = going_looks u.going looks h;
        root_met = λ i r is. u.root_met i r (ap (λ p. row_at p i) (sym (looks_pack looks h)) ∙ is);
        root_is = λ at is. (let x = u.root_is at is in (ap (λ p. carried p at) (looks_pack looks h) ∙ x.0, x.1));
      }

  -- it isn't
  module _ (uncounted : counted a row.page ≡ false) where
    uncounts : counts (pack b).shape (sights (pack b)) row.page.fid row.page.number ≡ false
    uncounts = so_far.counts_are row.page.fid row.page.number ∙ uncounted

    abbrev q : Pack
    q = after (pack b) (release_writes row.at)

    pub unused_here : carried (pack c) row.at ≡ Some row.page
    unused_here = subst (λ p. carried p row.at ≡ Some row.page) (sym (looks_pack looks h)) here

    gone : UnusedGone (pack b) q row.at row.page
    gone = unused_release_leaves (pack b) row.at row.page so_far.ended here uncounts

    -- it is no leader page of a file that lives
    not_leader : (f : Fid) (k : ℕ) → place (sights (pack b)) f 0 ≡ Some k → f ≡ row.page.fid → 0 ≡ row.page.number → ⊥
    not_leader f k e fid number =
        let living = gone.lives_are f ∙ file_lives_in_a_place (pack b) f ∙ ap is_some e in
        let none : place (sights q) f 0 ≡ None = (λ i. place (sights q) (fid i) (number i)) ∙ gone.none in
        let wrong : true ≡ false = sym living ∙ file_lives_in_a_place q f ∙ ap is_some none in
        cc

    pub unused_mends : Mends (pack c) (release_writes row.at)
    unused_mends = subst (λ p. Mends p (release_writes row.at)) (sym (looks_pack looks h)) (record {
      each = record { tends = unused_release_tends (pack b) row.at row.page so_far.ended.cleared.once here uncounts; changes = release_changes (pack b) row.at row.page here };
      keeps = keeps_bytes gone.lives_are (leaders_released (release_frees_at_the_label (pack b) row.at row.page 2 here (omega arith)) refl gone.lives_are (λ f k e. gone.others f 0 (λ fid number. not_leader f k e fid number) ∙ e)) (λ d live dir. gone.bytes_are d live (not_descriptor d dir));
    })

    pub used_released : {d : Taped} (freed : ℕ) → Grown c d → DoneWhole (Carries row.at row.page) (release_writes row.at) 2 c d → (FreesMore (pack a) (pack d) (unused.freed + 1) → freed ≡ unused.freed + 1) → UsedTo a d (Some row) next (record { freed = freed; root = unused.root })
    used_released {d} freed grown done count =
        let now : pack d ≡ q = pack_done grown done ∙ ap (λ p. after p (release_writes row.at)) (looks_pack looks h) in
        let left : Released (pack b) row = row_goes (pack b) last row first in
        let before = λ (i : ℕ) (r : Row) (is : row_at (pack d) i ≡ Some r) (low : is_below row r ≡ false). met_before (pack b) last row first i r (ap (λ p. row_at p i) (sym now) ∙ is) low in
        let frees : FreesMore (pack a) (pack d) (unused.freed + 1) = subst (λ p. FreesMore (pack a) p (unused.freed + 1)) (sym now) (frees_join (pack a) (pack b) q unused.freed 1 so_far.frees (unused_release_frees (pack b) row.at row.page so_far.ended.cleared.once here uncounts)) in
        record {
          walked = walked;
          ahead = subst (λ p. SameAhead (pack a) p (Some row)) (sym now) (ahead_stays row q row.at so_far.ahead first.above (release_at (pack b) row.at) (passed_row (pack b) row first.here) (passed_none q row.at (Some row) left.page_here));
          ended = subst Ended (sym now) gone.ended;
          counts_are = λ f n. ap (λ (p : Pack). counts p.shape (sights p) f n) now ∙ gone.counts_are f n ∙ so_far.counts_are f n;
          used = λ i r is low. (let x = before i r is low in so_far.used i r x.0 x.1);
          frees = subst (FreesMore (pack a) (pack d)) (sym (count frees)) frees;
          going = going_done (going_looks so_far.going looks h) grown unused_mends done;
          root_met = λ i r is low same. (let x = before i r is low in so_far.root_met i r x.0 x.1 same);
          root_is = λ at is.
              let x = so_far.root_is at is in
              let aside : at ≢ row.at = λ same.
              (let both : Some (root_page 0) ≡ Some row.page = sym x.0 ∙ ap (carried (pack b)) same ∙ here in
              let page : (root_page 0) ≡ row.page = cc in
              let wrong : true ≡ false = sym x.1 ∙ ap (counted a) page ∙ uncounted in
              cc) in
              (ap (λ p. carried p at) now ∙ left.pages at aside ∙ x.0, x.1);
        }

-- ---- all rows
pub used_all : {told : Bool} {most : ℕ} {a b c : Taped} {last : Option Row} {walk : FileWalk} {unused : Unused} → UsedTo a b last walk unused → Looks told most b c → IsTrue told → IsNextRow (pack b) last None → Does {T = Unused} UnusedReleased a c (Ok unused)
used_all {a = a} {b = b} {last = last} {unused = unused} so_far looks h none = does_ok unused (going_looks so_far.going looks h) (subst (λ q. UnusedReleased (pack a) q unused) (sym (looks_pack looks h)) (record {
  used = record {
    ended = so_far.ended;
    used = λ i. (used_by_its_page (pack b) i so_far.ended.cleared).1 (λ page is. so_far.counts_are page.fid page.number ∙ so_far.used i (row_of i page) (row_carried (pack b) i page is) (passed i page is));
  };
  frees = so_far.frees;
  root = by_place (place (sights (pack b)) sys_dir 0) unused.root refl refl;
}))
  where
    row_of : ℕ → Page → Row
    row_of i page = record { page = page; at = i; bytes = word (sector_at (pack b) i).label 3 }

    passed : (i : ℕ) (page : Page) → carried (pack b) i ≡ Some page → is_above last (row_of i page) ≡ false
    passed i page is = subst (IsPassed last) (row_carried (pack b) i page is) (none i)

    by_place : (o r : Option ℕ) → place (sights (pack b)) sys_dir 0 ≡ o → unused.root ≡ r → unused.root ≡ place (sights (pack b)) sys_dir 0
    by_place None None e f = f ∙ sym e
    by_place None (Some at) e f = absurd (let no : None ≡ Some at = sym e ∙ carried_once_is_in_place (pack b) (root_page 0) at so_far.ended.cleared.once (so_far.root_is at f).0 in cc)
    by_place (Some at) r e f = (let is = (row_of_place (pack b) (root_page 0) at e).carries in so_far.root_met at (row_of at (root_page 0)) (row_carried (pack b) at (root_page 0) is) (passed at (root_page 0) is) refl) ∙ sym e

-- ---- the loop
-- the pass goes on, where the machine is modelled over the pack as it is now, and what is noted is one of its sectors
pub record UsedPass (told : Bool) (a b : Taped) (table : Window) (pass : RowPass) (walk : FileWalk) (unused : Unused) : Type 0 where
  pub stands : Stands told (pack b) table pass
  pub alone : DiskAlone a b
  pub place : IfSome unused.root (λ at. (1 ≤ at) × (at < pages_of a.form))
  pub released : IsTrue told → Ended (pack a) → UsedTo a b pass.last walk unused

pub pass_none : {told : Bool} {most : ℕ} {a b : Taped} {table : Window} {pass : RowPass} (walk : FileWalk) → Looks told most a b → Stands told (pack b) table pass → pass.last ≡ None → (IsTrue told → Walked (pack a) None walk) → UsedPass told a b table pass walk (record { freed = 0; root = None })
pass_none {a = a} {b = b} walk looks stands last walked = record {
  stands = stands;
  alone = looks.alone;
  place = tt;
  released = λ h ended. subst (λ l. UsedTo a b l walk (record { freed = 0; root = None })) (sym last) (used_none walk looks h ended (walked h));
}

module _ {told : Bool} {most : ℕ} {a b c : Taped} {table window : Window} {pass next : RowPass} {walk walks : FileWalk} {unused : Unused} {row : Row} (used : Bool)
    (so_far : UsedPass told a b table pass walk unused) (looks : Looks told most b c) (stands : Stands told (pack c) window next) (last : next.last ≡ Some row)
    (first : IsTrue told → IsFirstAbove (pack b) pass.last row) (walked : (p : Pack) (l : Option Row) → Walked p l walk → IsFirstAbove p l row → Walked p (Some row) walks)
    (tells : Ended (pack a) → Walked (pack a) pass.last walk → IsFirstAbove (pack a) pass.last row → used ≡ counted a row.page) where
  pub first_then : (h : IsTrue told) (ended : Ended (pack a)) → IsFirstAbove (pack a) pass.last row
  first_then h ended = first_above_stays (so_far.released h ended).ahead (first h)

  pub walked_then : (h : IsTrue told) (ended : Ended (pack a)) → Walked (pack a) (Some row) walks
  walked_then h ended = walked (pack a) pass.last (so_far.released h ended).walked (first_then h ended)

  pub count_is : (h : IsTrue told) (ended : Ended (pack a)) → used ≡ counted a row.page
  count_is h ended = tells ended (so_far.released h ended).walked (first_then h ended)

  pub keeps_it : used ≡ true → (root : Option ℕ) → IfSome root (λ at. (1 ≤ at) × (at < pages_of a.form)) → IsNoted row unused.root root → UsedPass told a c window next walks (record { freed = unused.freed; root = root })
  keeps_it is root within note = record {
    stands = stands;
    alone = alone_twice so_far.alone looks.alone;
    place = within;
    released = λ h ended. subst (λ l. UsedTo a c l walks (record { freed = unused.freed; root = root })) (sym last)
        (used_next (so_far.released h ended) looks h (first h) (walked_then h ended) root (sym (count_is h ended) ∙ is) note);
  }

  pub releases_it : used ≡ false → {d : Taped} (freed : ℕ) → DiskAlone c d → (IsTrue told → DoneWhole (Carries row.at row.page) (release_writes row.at) 2 c d) → (IsTrue told → FreesMore (pack a) (pack d) (unused.freed + 1) → freed ≡ unused.freed + 1)
      → UsedPass told a d window next walks (record { freed = freed; root = unused.root })
  releases_it is {d} freed alone done count = record {
    stands = stands_released looks stands last first alone done;
    alone = alone_twice (alone_twice so_far.alone looks.alone) alone;
    place = so_far.place;
    released = λ h ended. subst (λ l. UsedTo a d l walks (record { freed = freed; root = unused.root })) (sym last)
        (used_released (so_far.released h ended) looks h (first h) (walked_then h ended) (sym (count_is h ended) ∙ is) freed alone.grown (done h) (count h));
  }
