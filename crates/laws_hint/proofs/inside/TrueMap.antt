-- The true map of a whole pack is that of its free sectors, which no value changes.
use Rattle.std.proofs.Common.{Bool, List, [], ap, arith, cond, false, get_or, map, not, refl, set, suc, sym, true, zero, ℕ, ◌+◌, ◌∙◌, ◌∷◌, ◌≡◌}
use Rattle.laws_line.specs.alto_words.specs.declared.fid.Fid.{Fid}
use Rattle.laws_line.specs.disk_records.specs.Labels.{in_range, is_free, tag}
use Rattle.laws_line.specs.disk_records.specs.Packs.{Pack, after, is_usable, no_sector, with_part}
use Rattle.laws_line.specs.disk_records.specs.declared.records.Event.TheVariants.{Wrote}
use Rattle.laws_line.specs.disk_records.specs.declared.records.Sector.{Sector}
use Rattle.laws_line.specs.disk_records.specs.declared.shape.Shape.{Shape}
use Rattle.laws_line.specs.pack_model.specs.operations.Commands.{values_writes}
use Rattle.laws_line.specs.pack_model.specs.reading.Files.{numbered}
use Rattle.laws_line.specs.pack_model.specs.states.InUse.{free_sector_count, how_many, is_available, is_free_sight, one_if}
use Rattle.laws_line.specs.pack_model.specs.reading.Sights.{Sight, page_sight, sight, sights, sights_from}
use Rattle.laws_line.specs.pack_model.specs.reading.Sights.Sight.{free, hidden, stray}
use Rattle.laws_line.specs.pack_model.specs.hints.Tables.{free_table, true_table}
use Rattle.laws_line.specs.pack_model.specs.states.Whole.{Whole}
use Rattle.laws_line.specs.laws_room.proofs.rooms.Laws.{each_sector_is_used_or_free}

-- ---- on a whole pack
-- tests that agree on each sector make one map
map_alike : (t : ℕ × Sight → Bool) (u : Sight → Bool) (from : ℕ) (ss : List Sight) → ((k : ℕ) → t (from + k, get_or ss k hidden) ≡ u (get_or ss k hidden)) → map (λ e. not (t e)) (numbered from ss) ≡ map (λ s. not (u s)) ss
map_alike t u from [] h = refl
map_alike t u from (s ∷ ss) h =
    let z : from ≡ from + 0 = omega arith in
    let here : t (from, s) ≡ u s = ap (λ n. t (n, s)) z ∙ h 0 in
    let rest : map (λ e. not (t e)) (numbered (suc from) ss) ≡ map (λ s. not (u s)) ss = map_alike t u (suc from) ss (λ k. let y : suc from + k ≡ from + suc k = omega arith in ap (λ n. t (n, get_or ss k hidden)) y ∙ h (suc k)) in
    λ i. not (here i) ∷ rest i

-- the available sectors are the free ones
pub true_is_free : (p : Pack) → Whole p → true_table p ≡ free_table p
true_is_free p w = map_alike (is_available p.shape (sights p)) is_free_sight 0 (sights p) (λ k.
    let z : 0 + k ≡ k = omega arith in
    ap (λ n. is_available p.shape (sights p) (n, get_or (sights p) k hidden)) z ∙ (each_sector_is_used_or_free p k w).available_is)

-- ---- values
-- a page isn't free
pub page_not_free : (f : Fid) (n bytes : ℕ) (value : List ℕ) → is_free_sight (page_sight f n bytes value) ≡ false
page_not_free f zero bytes value = refl
page_not_free f (suc n) bytes value = refl

-- a value makes no sector free, and none busy
free_alike : (shape : Shape) (at : ℕ) (s : Sector) (value : List ℕ) → is_free_sight (sight shape at (with_part 2 value s)) ≡ is_free_sight (sight shape at s)
unfolding sight
free_alike shape at s value = by (is_usable shape at s) (in_range (tag s.label))
  where
    by : (a b : Bool) → is_free_sight (cond a (cond b (page_sight (tag s.label).fid (tag s.label).page (tag s.label).bytes value) (cond (is_free (tag s.label)) free stray)) hidden)
        ≡ is_free_sight (cond a (cond b (page_sight (tag s.label).fid (tag s.label).page (tag s.label).bytes s.value) (cond (is_free (tag s.label)) free stray)) hidden)
    by false b = refl
    by true false = refl
    by true true = page_not_free _ (tag s.label).page (tag s.label).bytes value ∙ sym (page_not_free _ (tag s.label).page (tag s.label).bytes s.value)

-- in the map
map_from : (shape : Shape) (from at : ℕ) (sectors : List Sector) (value : List ℕ) → map (λ s. not (is_free_sight s)) (sights_from shape from (set sectors at (with_part 2 value (get_or sectors at no_sector)))) ≡ map (λ s. not (is_free_sight s)) (sights_from shape from sectors)
unfolding sights_from
map_from shape from at [] value = refl
map_from shape from zero (s ∷ sectors) value = ap (λ b. not b ∷ map (λ s. not (is_free_sight s)) (sights_from shape (suc from) sectors)) (free_alike shape from s value)
map_from shape from (suc at) (s ∷ sectors) value = ap (λ r. not (is_free_sight (sight shape from s)) ∷ r) (map_from shape (suc from) at sectors value)

-- nor do several
pub values_free : (vs : List (ℕ × List ℕ)) (p : Pack) → free_table (after p (values_writes vs)) ≡ free_table p
values_free [] p = refl
values_free (v ∷ vs) p = values_free vs (after p (Wrote v.0 2 v.1 ∷ [])) ∙ map_from p.shape 0 v.0 p.sectors v.1

-- ---- counts
-- the sectors that aren't busy in it are the free ones
free_many : (ss : List Sight) → how_many not (map (λ s. not (is_free_sight s)) ss) ≡ how_many is_free_sight ss
free_many [] = refl
free_many (s ∷ ss) = λ i. one_if (twice (is_free_sight s) i) + free_many ss i
  where
    twice : (b : Bool) → not (not b) ≡ b
    twice true = refl
    twice false = refl

-- so they are in the true map of a whole pack
pub true_many : (p : Pack) → Whole p → how_many not (true_table p) ≡ free_sector_count (sights p)
true_many p w = ap (how_many not) (true_is_free p w) ∙ free_many (sights p)
