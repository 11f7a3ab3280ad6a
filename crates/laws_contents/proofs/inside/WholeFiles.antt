-- The pages of a whole file: full ones before each.
use Rattle.std.proofs.Common.{List, Some, [], ap, arith, get_or, length, subst, suc, sym, zero, ℕ, ◌+◌, ◌<◌, ◌∙◌, ◌∷◌, ◌≡◌}
use Rattle.laws_record.specs.alto_words.specs.declared.fid.Fid.{Fid}
use Rattle.laws_record.specs.disk_records.specs.Packs.{Pack}
use Rattle.laws_record.specs.pack_model.specs.reading.Files.{carries_page}
use Rattle.laws_record.specs.pack_model.specs.reading.Sights.{Sight, sights}
use Rattle.laws_record.specs.pack_model.specs.reading.Sights.Sight.{hidden, holds}
use Rattle.laws_record.specs.pack_model.specs.states.Whole.{FileWhole, IsLaid, PageAt, Seated, absent, present}
use Rattle.laws_record.specs.pack_laws.proofs.Placing.{carries-holds, page_of_place}
use Rattle.laws_record.proofs.Carried.{place_of_carried, seat_in}
use Rattle.laws_record.proofs.Seats.{seat_range}
use Rattle.laws_contents.proofs.inside.Counted.{pages_are_their_counted_bytes}
use Rattle.laws_contents.specs.PageLaws.{FullBefore, FullBeforeEachOfAWholePack, IsFullPage, bytes_at}

-- a page of these, which isn't the last: its sector and its 512 bytes
record Early (ss : List Sight) (f : Fid) (k : ℕ) : Type 0 where
  at : ℕ
  bytes : List ℕ
  shows : get_or ss at hidden ≡ holds f k bytes
  full : length bytes ≡ 512

-- by its number among them
early : (ss : List Sight) (f : Fid) (k : ℕ) (cs : List PageAt) (j : ℕ) → Seated ss f k cs → IsLaid cs → suc j < length cs → Early ss f (k + j)
early ss f k [] j s h l = absurd h
early ss f k (c ∷ []) j s h l = absurd (omega arith)
early ss f k (c ∷ d ∷ cs) zero s h l = let z : k ≡ k + 0 = omega arith in record { at = c.0; bytes = c.1; shows = s.0 ∙ ap (λ n. holds f n c.1) z; full = h.0 }
early ss f k (c ∷ d ∷ cs) (suc j) s h l = let z : suc k + j ≡ k + suc j = omega arith in subst (Early ss f) z (early ss f (suc k) (d ∷ cs) j s.1 h.1 (omega arith))

-- it is full in the pack
full_page : (p : Pack) (f : Fid) (k : ℕ) → FileWhole (sights p) f → Early (sights p) f k → IsFullPage p f k
full_page p f k whole x =
    let place = place_of_carried (sights p) f whole (suc k) x.at (ap (carries_page f (suc k)) x.shows ∙ carries-holds f k x.bytes) in
    let h = page_of_place (sights p) f k x.at place in
    let same : holds f k h.bytes ≡ holds f k x.bytes = sym (h.shows hidden) ∙ x.shows in
    let is : h.bytes ≡ x.bytes = cc in
    let there : Some (bytes_at p x.at) ≡ Some h.bytes = sym ((pages_are_their_counted_bytes p f k).there x.at place) ∙ h.page_is in
    let counted : bytes_at p x.at ≡ h.bytes = cc in
    record { at = x.at; sector = place; full = ap length counted ∙ ap length is ∙ x.full }

-- all before a page are
full_before_page : (p : Pack) (f : Fid) (k at : ℕ) (bytes : List ℕ) → FileWhole (sights p) f → get_or (sights p) at hidden ≡ holds f k bytes → FullBefore p f k
full_before_page p f k at bytes (absent h c) is = absurd (seat_in (sights p) f [] c k at bytes is)
full_before_page p f k at bytes (present i l pages h c laid few) is =
    let r = seat_range 0 pages k at (seat_in (sights p) f pages c k at bytes is) in
    let below = r.1 in
    record {
      each = λ j low.
          let z : 0 + j ≡ j = omega arith in
          full_page p f j (present i l pages h c laid few) (subst (Early (sights p) f) z (early (sights p) f 0 pages j c.seated laid (omega arith)));
    }

pub full_before_each_of_a_whole_pack : FullBeforeEachOfAWholePack
full_before_each_of_a_whole_pack p f k at w e = let h = page_of_place (sights p) f k at e in full_before_page p f k at h.bytes (w.files f) (h.shows hidden)
