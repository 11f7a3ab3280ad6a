-- The sectors that are found free by their labels are those that show it.
use Rattle.std.proofs.Common.{Bool, List, [], ap, arith, cond, false, get_or, inl, inr, length, refl, subst, suc, sym, true, zero, ℕ, ◌+◌, ◌∙◌, ◌∷◌, ◌≡◌, ◌≤◌}
use Rattle.std.specs.Prelude.{filter}
use Rattle.std.specs.List.{range_with_len}
use Rattle.std.proofs.lemmas.Bool.{cases_lt}
use Rattle.std.proofs.lemmas.Bool.Decides.{nat_tests}
use Rattle.std.proofs.lemmas.List.{get_or_past}
use Rattle.laws_operation.specs.disk_records.specs.Addresses.{pages_of}
use Rattle.laws_operation.specs.disk_records.specs.Labels.{Tag, in_range, is_free, tag}
use Rattle.laws_operation.specs.disk_records.specs.Packs.{Pack, is_free_at, is_usable, sector_at}
use Rattle.laws_operation.specs.pack_model.specs.states.InUse.{how_many, is_free_sight, one_if}
use Rattle.laws_operation.specs.pack_model.specs.reading.Sights.{Sight, page_sight, sight, sights, tag_sight}
use Rattle.laws_operation.specs.pack_model.specs.reading.Sights.Sight.{free, hidden, stray}
use Rattle.laws_operation.specs.pack_laws.proofs.Guarding.{free_parts}
use Rattle.laws_operation.specs.pack_laws.proofs.Sighted.{length-sights, sights-get}
use Rattle.laws_record.proofs.Recording.{free_sight}
use Rattle.laws_room.specs.RoomLaws.{FreeSectorsAreThoseFound}

-- ---- numbers
-- none where no sight passes
none_pass : (u : Sight → Bool) (ss : List Sight) → ((k : ℕ) → u (get_or ss k hidden) ≡ false) → how_many u ss ≡ 0
none_pass u [] h = refl
none_pass u (x ∷ ss) h = let here = ap one_if (h 0) in let rest = none_pass u ss (λ k. h (suc k)) in omega arith

-- one more where the first passes
with_one : (b : Bool) (a : ℕ) (rest : List ℕ) → length (cond b (a ∷ rest) rest) ≡ one_if b + length rest
with_one true a rest = omega arith
with_one false a rest = omega arith

-- as many as the addresses that pass, where no sight past their end does
as_many : (t : ℕ → Bool) (u : Sight → Bool) (n from : ℕ) (ss : List Sight) → ((k : ℕ) → t (from + k) ≡ u (get_or ss k hidden)) → ((k : ℕ) → n ≤ k → u (get_or ss k hidden) ≡ false)
    → length (filter t (range_with_len from n)) ≡ how_many u ss
as_many t u zero from ss same past = sym (none_pass u ss (λ k. past k (omega arith)))
as_many t u (suc n) from [] same past =
    let z : from ≡ from + 0 = omega arith in
    let here = ap one_if (ap t z ∙ same 0 ∙ past (suc n) (omega arith)) in
    let rest = as_many t u n (from + 1) [] (λ k. let s : from + 1 + k ≡ from + suc k = omega arith in ap t s ∙ same (suc k)) (λ k l. past (suc k) (omega arith)) in
    let both = with_one (t from) from (filter t (range_with_len (from + 1) n)) in
    omega arith
as_many t u (suc n) from (x ∷ ss) same past =
    let z : from ≡ from + 0 = omega arith in
    let here = ap one_if (ap t z ∙ same 0) in
    let rest = as_many t u n (from + 1) ss (λ k. let s : from + 1 + k ≡ from + suc k = omega arith in ap t s ∙ same (suc k)) (λ k l. past (suc k) (omega arith)) in
    let both = with_one (t from) from (filter t (range_with_len (from + 1) n)) in
    omega arith

-- ---- a sector
-- one that is usable shows whether it is free
free_tag : (t : Tag) (value : List ℕ) → is_free_sight (tag_sight t value) ≡ true → is_free t ≡ true
free_tag t value = by (in_range t) (is_free t) t.page
  where
    by : (a b : Bool) (n : ℕ) → is_free_sight (cond a (page_sight t.fid n t.bytes value) (cond b free stray)) ≡ true → b ≡ true
    by true b zero e = absurd (let n : false ≡ true = e in cc)
    by true b (suc n) e = absurd (let n : false ≡ true = e in cc)
    by false true n e = refl
    by false false n e = absurd (let n : false ≡ true = e in cc)

-- one that shows it is found free
shown_free : (p : Pack) (at : ℕ) → is_free_sight (sight p.shape at (sector_at p at)) ≡ true → is_free_at p at ≡ true
unfolding sight
shown_free p at = by (is_usable p.shape at (sector_at p at))
  where
    by : (b : Bool) → is_free_sight (cond b (tag_sight (tag (sector_at p at).label) (sector_at p at).value) hidden) ≡ true → cond b (is_free (tag (sector_at p at).label)) false ≡ true
    by true e = free_tag (tag (sector_at p at).label) (sector_at p at).value e
    by false e = e

-- one of no sector isn't, nor one past the end of the pack
pub found_shown : (p : Pack) (at : ℕ) → is_free_at p at ≡ is_free_sight (get_or (sights p) at hidden)
found_shown p at = by (is_free_at p at) (is_free_sight (get_or (sights p) at hidden)) refl refl
  where
    by : (a b : Bool) → is_free_at p at ≡ a → is_free_sight (get_or (sights p) at hidden) ≡ b → a ≡ b
    by true b e s = sym (ap is_free_sight (free_sight p at e)) ∙ s
    by false false e s = refl
    by false true e s = elim (cases_lt at (length p.sectors)) [
      | inl low ↦ sym e ∙ shown_free p at (sym (ap is_free_sight (sights-get p at hidden low)) ∙ s)
      | inr past ↦ absurd (let n : false ≡ true = sym (ap is_free_sight (get_or_past (sights p) at hidden (subst (λ n. n ≤ at) (sym (length-sights p)) past))) ∙ s in cc)
    ]

-- an address past the disk's end is that of no free sector
none_past : (p : Pack) (at : ℕ) → pages_of p.shape ≤ at → is_free_at p at ≡ false
none_past p at past = by (is_free_at p at) refl
  where
    by : (b : Bool) → is_free_at p at ≡ b → b ≡ false
    by false e = refl
    by true e = let u = (free_parts p at e).0 in absurd (grind (arith, nat_tests, u))

-- the law
pub free_sectors_are_those_found : FreeSectorsAreThoseFound
free_sectors_are_those_found p = as_many (is_free_at p) is_free_sight (pages_of p.shape) 0 (sights p) (λ k. let z : 0 + k ≡ k = omega arith in ap (is_free_at p) z ∙ found_shown p k) (λ k past. sym (found_shown p k) ∙ none_past p k past)
