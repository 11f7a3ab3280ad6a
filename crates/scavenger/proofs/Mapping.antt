-- The free sectors of a pack, as a sweep meets them.
use Rattle.std.proofs.Common.{◌≡◌, ◌≢◌, ◌&&◌, ◌==◌, ℕ, zero, suc, ◌<◌, ◌≤◌, nat_lt, Bool, true, false, cond, not, replicate, set, IsTrue, List, [], ◌∷◌, ◌++◌, get_or, length, refl, sym, ap, ◌∙◌, ltb-true, eqb-true, lt-ltb, arith}
use Rattle.std.proofs.lemmas.List.{get_or-map, get_or-replicate, get_or-set_other, get_or-set_same, get_or_default, length-map, length-replicate, length-set, same_lists}
use borrow.Author.Tests.{eqb-false}
use Rattle.disk_records.specs.Addresses.{pages_of}
use Rattle.disk_records.specs.Tapes.{Taped, pack}
use Rattle.label_sweep.specs.Swept.{Swept}
use Rattle.label_sweep.proofs.Visiting.{kept_at_each, kept_by_steps}
use Rattle.pack_model.specs.hints.Tables.{free_table}
use Rattle.pack_model.specs.reading.Sights.{Sight, sights}
use Rattle.pack_model.specs.reading.Sights.Sight.{hidden}
use Rattle.pack_model.specs.states.InUse.{is_free_sight}
use Rattle.scav_pages.specs.Ends.{AreWithin}
use Rattle.scavenger.specs.declared.map.Map.{Map}
use Rattle.scavenger.specs.Describing.{IsMap, Maps, marked}
use Rattle.scavenger.proofs.Finding.{AreBelow, HaveNoted, all_within, below_next, noted_next, none_noted}

-- ---- one sector more
push_at : (ss : List Sight) (s : Sight) (i : ℕ) → (i ≡ length ss → get_or (ss ++ s ∷ []) i hidden ≡ s) × (i ≢ length ss → get_or (ss ++ s ∷ []) i hidden ≡ get_or ss i hidden)
push_at [] s zero = ((λ e. refl), (λ e. absurd (e refl)))
push_at [] s (suc i) = ((λ e. absurd (omega (arith, e))), (λ e. refl))
push_at (x ∷ ss) s zero = ((λ e. absurd (omega (arith, e))), (λ e. refl))
push_at (x ∷ ss) s (suc i) = ((λ e. (push_at ss s i).0 (omega (arith, e))), (λ e. (push_at ss s i).1 (λ same. e (omega (arith, same)))))

-- Of these sectors those that are free are marked, and every other one is busy.
record HaveMarked (end : ℕ) (ss : List Sight) (table : List Bool) : Type 0 where
  size : length table ≡ end
  each : (i : ℕ) → i < end → get_or table i true ≡ not (is_free_sight (get_or ss i hidden))

past : (ss : List Sight) (i : ℕ) → length ss ≤ i → get_or ss i hidden ≡ hidden
past [] i few = refl
past (x ∷ ss) zero few = absurd (omega arith)
past (x ∷ ss) (suc i) few = past ss i (omega arith)

marked_next : (end : ℕ) (rs : List Sight) (old new : List Bool) (s : Sight) → HaveMarked end rs old → new ≡ marked old (length rs) s → HaveMarked end (rs ++ s ∷ []) new
marked_next end rs old new s h step = by (is_free_sight s && nat_lt (length rs) (length old)) refl step
  where
    kept : (i : ℕ) → i < end → (i == length rs) ≡ false → get_or old i true ≡ not (is_free_sight (get_or (rs ++ s ∷ []) i hidden))
    kept i few apart = h.each i few ∙ ap (λ x. not (is_free_sight x)) (sym ((push_at rs s i).1 (eqb-false i (length rs) apart)))

    by : (t : Bool) → (is_free_sight s && nat_lt (length rs) (length old)) ≡ t → new ≡ cond t (set old (length rs) false) old → HaveMarked end (rs ++ s ∷ []) new
    by true q is = record {
      size = ap length is ∙ length-set old (length rs) false ∙ h.size;
      each = λ i few. at i few (i == length rs) refl;
    }
      where
        free_is : is_free_sight s ≡ true
        free_is = left (is_free_sight s) (nat_lt (length rs) (length old)) q
          where
            left : (a b : Bool) → (a && b) ≡ true → a ≡ true
            left true b e = refl
            left false b e = absurd cc

        within : length rs < length old
        within = right (is_free_sight s) (nat_lt (length rs) (length old)) q refl
          where
            right : (a b : Bool) → (a && b) ≡ true → nat_lt (length rs) (length old) ≡ b → length rs < length old
            right true true e z = ltb-true (length rs) (length old) z
            right true false e z = absurd cc
            right false b e z = absurd cc

        at : (i : ℕ) → i < end → (t : Bool) → (i == length rs) ≡ t → get_or new i true ≡ not (is_free_sight (get_or (rs ++ s ∷ []) i hidden))
        at i few true e =
            let same : i ≡ length rs = eqb-true i (length rs) e in
            ap (λ l. get_or l i true) is ∙ ap (λ k. get_or (set old (length rs) false) k true) same ∙ get_or-set_same old (length rs) false true within
            ∙ sym (ap (λ x. not (is_free_sight x)) ((push_at rs s i).0 same) ∙ ap not free_is)
        at i few false e =
            let other : i ≢ length rs = eqb-false i (length rs) e in
            ap (λ l. get_or l i true) is ∙ get_or-set_other old (length rs) i false true other ∙ kept i few e
    by false q is = record {
      size = ap length is ∙ h.size;
      each = λ i few. at i few (i == length rs) refl;
    }
      where
        busy : (i : ℕ) → i < end → i ≡ length rs → not (is_free_sight (get_or rs i hidden)) ≡ not (is_free_sight s)
        busy i few same = ap (λ x. not (is_free_sight x)) (past rs i (omega (arith, same))) ∙ sym (ap not (no (is_free_sight s) (nat_lt (length rs) (length old)) q (lt-ltb (length rs) (length old) (let size = h.size in omega (arith, size, same, few)))))
          where
            no : (a b : Bool) → (a && b) ≡ false → b ≡ true → a ≡ false
            no true true e z = e
            no true false e z = absurd cc
            no false b e z = refl

        at : (i : ℕ) → i < end → (t : Bool) → (i == length rs) ≡ t → get_or new i true ≡ not (is_free_sight (get_or (rs ++ s ∷ []) i hidden))
        at i few true e =
            let same : i ≡ length rs = eqb-true i (length rs) e in
            ap (λ l. get_or l i true) is ∙ h.each i few ∙ busy i few same ∙ sym (ap (λ x. not (is_free_sight x)) ((push_at rs s i).0 same))
        at i few false e = ap (λ l. get_or l i true) is ∙ kept i few e

all_busy : (n i : ℕ) → i < n → get_or (replicate n true) i true ≡ true
all_busy n i few = get_or-replicate n i true true few

-- ---- all sectors
pub mapped : {told : Bool} {t : Taped} (before after : Map) → before.table ≡ replicate (pages_of t.form) true → ((n : ℕ) → n < 6 → get_or before.places n 0 ≡ 0) → Swept told Maps t before after → IsTrue told → IsMap (pack t) after
mapped {told} {t} before after busy zeros swept h = record {
  table_is = same_lists after.table (free_table (pack t)) (marks.size ∙ sized ∙ sym (length-map (sights (pack t)) (λ s. not (is_free_sight s)))) (λ k d few. (
      let within : k < pages_of t.form = (let size = marks.size in omega (arith, few, size)) in
      let there : k < length (sights (pack t)) = (let size = sized in omega (arith, within, size)) in
      get_or_default after.table k d true few ∙ marks.each k within ∙ sym (get_or-map (λ s. not (is_free_sight s)) (sights (pack t)) k hidden d there)));
  places = (kept_by_steps Maps (λ ss v. HaveNoted ss v.places) (λ rs u w s had step. noted_next rs u.places w.places s had step.1) (none_noted before.places zeros) swept h).each;
}
  where
    first : HaveMarked (pages_of t.form) (hidden ∷ []) before.table
    first = record {
      size = ap length busy ∙ length-replicate (pages_of t.form) true;
      each = λ i few. ap (λ l. get_or l i true) busy ∙ all_busy (pages_of t.form) i few ∙ sym (one i);
    }
      where
        one : (i : ℕ) → not (is_free_sight (get_or (hidden ∷ []) i hidden)) ≡ true
        one zero = refl
        one (suc i) = refl

    marks : HaveMarked (pages_of t.form) (sights (pack t)) after.table
    marks = kept_by_steps Maps (λ ss v. HaveMarked (pages_of t.form) ss v.table) (λ rs u w s had step. marked_next (pages_of t.form) rs u.table w.table s had step.0) first swept h

    sized : pages_of t.form ≡ length (sights (pack t))
    sized = let count = swept.count in let all = ap length (swept.shows h) in omega (arith, count, all)

-- on every machine
pub mapped_sized : {told : Bool} {t : Taped} (before after : Map) → length before.table ≡ pages_of t.form → Swept told Maps t before after → length after.table ≡ pages_of t.form
mapped_sized {told} {t} before after size swept = kept_at_each Maps (pages_of t.form) (λ v. length v.table ≡ pages_of t.form) (λ u w at s some low is step. by (is_free_sight s && nat_lt at (length u.table)) u.table w.table at step.0 is) refl size swept
  where
    by : (b : Bool) (old new : List Bool) (at : ℕ) → new ≡ cond b (set old at false) old → length old ≡ pages_of t.form → length new ≡ pages_of t.form
    by true old new at e is = ap length e ∙ length-set old at false ∙ is
    by false old new at e is = ap length e ∙ is

pub mapped_within : {told : Bool} {t : Taped} (before after : Map) → AreBelow (pages_of t.form) before.places → Swept told Maps t before after → AreWithin (pages_of t.form) after.places
mapped_within {told} {t} before after first swept = all_within (pages_of t.form) after.places (kept_at_each Maps (pages_of t.form) (λ v. AreBelow (pages_of t.form) v.places) (λ u w at s some low had step. below_next (pages_of t.form) u.places w.places at s some low had step.1) refl first swept)
