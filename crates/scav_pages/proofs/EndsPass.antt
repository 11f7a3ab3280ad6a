-- The pass that claims last pages, from call to call.
use Rattle.std.proofs.Common.{◌≡◌, ◌⊎◌, ℕ, ◌<◌, ◌≤◌, Bool, true, IsTrue, List, get_or, Option, Some, None, Ok, refl, sym, subst, ◌∙◌}
use Rattle.alto_words.specs.declared.fid.Fid.{Fid}
use Rattle.disk_records.specs.Tapes.{DiskAlone, Grown, Looks, Taped, pack}
use Rattle.disk_records.proofs.Growing.{alone_twice}
use Rattle.disk_records.proofs.Looking.{looks_pack}
use Rattle.pack_model.specs.scavenger.Scavenging.{Scavengeable}
use Rattle.laws_mend.specs.Parts.{Rooted}
use Rattle.scav_table.specs.declared.pass.Pass.{Pass as RowPass}
use Rattle.scav_table.specs.declared.row.Row.{Row}
use Rattle.scav_table.specs.Laws.{IsFirstAbove, IsNextRow, WritesAt}
use Rattle.scav_table.specs.Passes.{IsPassed, Stands}
use Rattle.scav_table.specs.Rows.{is_above, row_at}
use Rattle.scav_table.specs.Windows.{Window}
use Rattle.scav_pages.specs.declared.files.FileWalk.{FileWalk}
use Rattle.scav_pages.specs.Does.{Does}
use Rattle.scav_pages.specs.Ends.{MayClaimLast, MayDescribe, noted_at}
use Rattle.scav_pages.specs.Parts.{ClaimsHand, LastClaimed}
use Rattle.scav_pages.specs.Walks.{AreWords, IsOtherFile, NoneAbove, Walked, file_in_hand}
use Rattle.scav_pages.proofs.Claiming.{going_scavengeable}
use Rattle.scav_pages.proofs.Doing.{Going, going_does, going_here, going_looks}
use Rattle.scav_pages.proofs.LastPages.{EndsSoFar, Follows, ahead_claimed, ends_here, ends_next, may_claim_last, may_describe, stands_written, writes_passed}
use Rattle.scav_pages.proofs.Passing.{SameAhead, ahead_here, ahead_moves, next_row_stays}
use Rattle.scav_pages.proofs.Walking.{leaves_its_file, leaves_the_last_file}

-- ---- up to a row
-- what the pass keeps, on a machine that is modelled
pub record ClaimsTo (told : Bool) (old now : Taped) (last : Option Row) (walk : FileWalk) (places : List ℕ) (from : ℕ) : Type 0 where
  pub follows : IsTrue told → Follows (pack old) (pack now) last walk
  pub going : IsTrue told → Scavengeable (pack old) → Rooted (pack old) → Going old now
  pub ends : IsTrue told → Scavengeable (pack old) → Rooted (pack old) → EndsSoFar (pack old) (pack now) last walk places from

-- as it begins
pub claims_start : {told : Bool} {most : ℕ} {old now : Taped} {last : Option Row} {walk : FileWalk} {places : List ℕ} → Looks told most old now → last ≡ None → (IsTrue told → Walked (pack old) last walk) → ((n : ℕ) → n < 6 → get_or places n 0 ≡ 0) → ClaimsTo told old now last walk places 1
claims_start {old = old} {now = now} {last = last} {walk = walk} {places = places} looks none walked zeros = record {
  follows = λ k. subst (λ q. Follows (pack old) q last walk) (sym (looks_pack looks k)) (record { walked = walked k; ahead = ahead_here (pack old) last });
  going = λ k can rooted. going_looks (going_here old) looks k;
  ends = λ k can rooted. subst (λ q. EndsSoFar (pack old) q last walk places 1) (sym (looks_pack looks k)) (ends_here (pack old) last walk places none zeros rooted);
}

-- over a call that only looks
pub claims_look : {told : Bool} {most : ℕ} {old now later : Taped} {last : Option Row} {walk : FileWalk} {places : List ℕ} {from : ℕ} → ClaimsTo told old now last walk places from → Looks told most now later → ClaimsTo told old later last walk places from
claims_look {old = old} {last = last} {walk = walk} {places = places} {from = from} x looks = record {
  follows = λ k. subst (λ q. Follows (pack old) q last walk) (sym (looks_pack looks k)) (x.follows k);
  going = λ k can rooted. going_looks (x.going k can rooted) looks k;
  ends = λ k can rooted. subst (λ q. EndsSoFar (pack old) q last walk places from) (sym (looks_pack looks k)) (x.ends k can rooted);
}

-- the last page of a file that is left may be claimed
pub left_may : {told : Bool} {old mid : Taped} {last : Option Row} {walk : FileWalk} {places : List ℕ} {from : ℕ} → ClaimsTo told old mid last walk places from → (IsTrue told → (f : Fid) → file_in_hand walk ≡ Some f → NoneAbove (pack old) last f)
    → IsTrue told → Scavengeable (pack old) → Rooted (pack old) → MayClaimLast (pack mid) walk from
left_may {old = old} {mid = mid} {last = last} {walk = walk} {places = places} {from = from} x left k can rooted =
    may_claim_last (pack old) (pack mid) last walk places from rooted (going_scavengeable (x.going k can rooted) can) (x.follows k).walked (x.ends k can rooted) (left k)

-- Before the next row is taken: its file is in hand, or the one before was left and has its last page.
pub record IsReadyFor (told : Bool) (old now : Taped) (table : Window) (pass : RowPass) (row : Row) (places : List ℕ) (from : ℕ) : Type 0 where
  pub alone : DiskAlone old now
  pub stands : Stands told (pack now) table pass
  pub first : 1 ≤ from
  pub ahead : IsTrue told → SameAhead (pack old) (pack now) (Some row)
  pub going : IsTrue told → Scavengeable (pack old) → Rooted (pack old) → Going old now
  pub ends : IsTrue told → Scavengeable (pack old) → Rooted (pack old) → (later : FileWalk) (noted : List ℕ) → file_in_hand later ≡ Some row.page.fid → ((n : ℕ) → n < 6 → get_or noted n 0 ≡ noted_at places row n) → EndsSoFar (pack old) (pack now) (Some row) later noted from

module _ {told : Bool} {old mid : Taped} {last : Option Row} {walk : FileWalk} {places : List ℕ} {from : ℕ} (x : ClaimsTo told old mid last walk places from) (table : Window) (pass : RowPass) (row : Row) (words : AreWords row) (above : is_above last row ≡ true)
    (first : IsTrue told → IsFirstAbove (pack old) last row) (stands : Stands told (pack mid) table pass) (last_is : pass.last ≡ Some row) (before : DiskAlone old mid) where
  -- the file goes on
  pub ready_same : 1 ≤ from → (IsOtherFile walk row → ⊥) → IsReadyFor told old mid table pass row places from
  ready_same some same_file = record {
    alone = before;
    stands = stands;
    first = some;
    ahead = λ k. ahead_moves row (x.follows k).ahead above;
    going = x.going;
    ends = λ k can rooted later noted hand is.
        let s = x.ends k can rooted in
        ends_next (pack old) (pack mid) (pack mid) last walk later row places noted from from rooted.used.ended.cleared.once words (first k) (x.follows k).walked s hand is s.rooted (λ f. refl) (λ f. refl) (λ f n h. refl)
        (λ f h other apart. absurd (same_file ((λ none. (let no : None ≡ Some f = sym none ∙ h in cc)), (λ here. (let both : Some f ≡ Some row.page.fid = sym h ∙ here in let same : f ≡ row.page.fid = cc in other (sym same))))))
        (λ h n. refl) s.none_below;
  }

  -- it is left
  pub row_left : IsOtherFile walk row → IsTrue told → (f : Fid) → file_in_hand walk ≡ Some f → NoneAbove (pack old) last f
  row_left other k f h = leaves_its_file (pack old) last walk row (x.follows k).walked words (first k) other f h

  pub ready_left : {now : Taped} {next : ℕ} {done : Unit {0}} → (other : IsOtherFile walk row) → DiskAlone mid now → 1 ≤ next → (IsTrue told → MayClaimLast (pack mid) walk from → Does (LastClaimed walk next) mid now (Ok done)) → (IsTrue told → ClaimsHand walk (pack mid) (pack now))
      → IsReadyFor told old now table pass row places next
  ready_left {now} {next} {done} other alone some does wrote = record {
    alone = alone_twice before alone;
    stands = stands_written told (pack mid) (pack now) table pass stands (λ k. subst (λ l. (pack now ≡ pack mid) ⊎ ((at : ℕ) × (WritesAt at (pack mid) (pack now)) × (IsPassed l (row_at (pack mid) at)) × (IsPassed l (row_at (pack now) at)))) (sym last_is)
        (writes_passed (pack old) (pack mid) (pack now) last walk row (x.follows k) words above other (wrote k)));
    first = some;
    ahead = λ k. ahead_claimed (pack old) (pack mid) (pack now) last walk row (x.follows k) words above other (wrote k);
    going = λ k can rooted. going_does (x.going k can rooted) alone.grown (does k (left_may x (row_left other) k can rooted));
    ends = λ k can rooted later noted hand is.
        let s = x.ends k can rooted in
        let c = (does k (left_may x (row_left other) k can rooted)).leaves in
        ends_next (pack old) (pack mid) (pack now) last walk later row places noted from next rooted.used.ended.cleared.once words (first k) (x.follows k).walked s hand is c.rooted c.lives_are c.bytes_are c.others
        (λ f h apart_from other_file. c.last_page f h other_file) (λ h n. absurd (other.1 h)) c.none_below;
  }

-- the next row was taken
pub claims_row : {told : Bool} {old now : Taped} {table : Window} {pass : RowPass} {row : Row} {places : List ℕ} {from : ℕ} {last : Option Row} (later : FileWalk) (noted : List ℕ) → IsReadyFor told old now table pass row places from → last ≡ Some row
    → (IsTrue told → Walked (pack old) (Some row) later) → file_in_hand later ≡ Some row.page.fid → ((n : ℕ) → n < 6 → get_or noted n 0 ≡ noted_at places row n) → ClaimsTo told old now last later noted from
claims_row {old = old} {now = now} {from = from} later noted ready last_is walked hand is = record {
  follows = λ k. subst (λ l. Follows (pack old) (pack now) l later) (sym last_is) (record { walked = walked k; ahead = ready.ahead k });
  going = ready.going;
  ends = λ k can rooted. subst (λ l. EndsSoFar (pack old) (pack now) l later noted from) (sym last_is) (ready.ends k can rooted later noted hand is);
}

-- ---- after the last row
-- no row of any file comes
pub last_left : {told : Bool} {old mid : Taped} {last : Option Row} {walk : FileWalk} {places : List ℕ} {from : ℕ} → ClaimsTo told old mid last walk places from → (IsTrue told → IsNextRow (pack mid) last None) → IsTrue told → (f : Fid) → file_in_hand walk ≡ Some f → NoneAbove (pack old) last f
last_left {old = old} {last = last} {walk = walk} x none k f h = leaves_the_last_file (pack old) last walk (next_row_stays None (x.follows k).ahead (none k)) f h

-- so DiskDescriptor may be made
pub claims_end : {told : Bool} {old mid now : Taped} {last : Option Row} {walk : FileWalk} {places : List ℕ} {from next : ℕ} {done : Unit {0}} → ClaimsTo told old mid last walk places from → (IsTrue told → IsNextRow (pack mid) last None) → Grown mid now
    → (IsTrue told → MayClaimLast (pack mid) walk from → Does (LastClaimed walk next) mid now (Ok done)) → IsTrue told → Scavengeable (pack old) → Rooted (pack old) → (Going old now) × (MayDescribe (pack now) places next)
claims_end {old = old} {mid = mid} {now = now} {last = last} {walk = walk} {places = places} {from = from} {next = next} x none grown does k can rooted =
    let d = does k (left_may x (last_left x none) k can rooted) in
    let going = going_does (x.going k can rooted) grown d in
    (going, may_describe (pack old) (pack mid) (pack now) last walk places from next (next_row_stays None (x.follows k).ahead (none k)) (going_scavengeable going can) (x.ends k can rooted) d.leaves)
