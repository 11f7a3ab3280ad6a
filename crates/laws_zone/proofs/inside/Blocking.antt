-- Blocks fill the zone still after one is taken, one is given back, or a word is another.
use Rattle.std.proofs.Common.{◌≡◌, ◌≤◌, ℕ, ◌+◌, ◌-◌, ◌==◌, ◌&&◌, zero, suc, Bool, true, false, cond, List, [], ◌∷◌, None, Option, Some, refl, sym, subst, ap, ◌∙◌, length, replicate, set, arith}
use Rattle.std.proofs.lemmas.Bool.{leb-true}
use Rattle.std.proofs.lemmas.List.{length-replicate, length-set}
use Rattle.std.specs.Prelude.{nat_le, nat_lt}
use Rattle.world_model.specs.Zones.{Block, Taken, gap, live, freed, join_gap, joined_gaps, left_before, size_for, taken, taken_after, taken_here, zone_set}
use Rattle.std.specs.Option.{option_map}
use Rattle.world_model.specs.ZoneWords.{tag_size, zone_start}
use Rattle.laws_zone.specs.BlockLaws.{GivenBackFillsTheZone, TakenFillsTheZone, WordFillsTheZone}
use Rattle.laws_zone.specs.Filling.{AreJoined, CanStand, EachCanStand, FillZone, zone_size}
use Rattle.laws_zone.proofs.Sizes.{even_rest, even_sum, size_even, some_size}

-- ---- what stays
-- blocks of so many words together, each of which can stand
pub record Stand (size : ℕ) (zone : List Block) : Type 0 where
  pub each : EachCanStand zone
  pub size_is : zone_size zone ≡ size

-- and joined, after a free block or not
pub record Stay (after_gap : Bool) (size : ℕ) (zone : List Block) : Type 0 where
  pub stand : Stand size zone
  pub joined : AreJoined after_gap zone

pub joined_anywhere : (zone : List Block) (after_gap : Bool) → AreJoined true zone → AreJoined after_gap zone
joined_anywhere [] after_gap j = tt
joined_anywhere (gap n ∷ bs) after_gap j = absurd (let e : true ≡ false = j.0 in cc)
joined_anywhere (live words ∷ bs) after_gap j = j

abbrev pub OfSome : {X : Type 0} → (X → Type 0) → Option X → Type 0
OfSome P None = Unit {0}
OfSome P (Some x) = P x

of_cond : {X : Type 0} (P : X → Type 0) (b : Bool) (x y : Option X) → (b ≡ true → OfSome P x) → OfSome P y → OfSome P (cond b x y)
of_cond P true x y here otherwise = here refl
of_cond P false x y here otherwise = otherwise

of_map : {X Y : Type 0} (P : X → Type 0) (Q : Y → Type 0) (f : X → Y) (o : Option X) → ((x : X) → P x → Q (f x)) → OfSome P o → OfSome Q (option_map f o)
of_map P Q f None go h = tt
of_map P Q f (Some x) go h = go x h

-- ---- a block is taken
pub left_stay : (n : ℕ) (bs : List Block) → tag_size n ≡ n → EachCanStand bs → AreJoined true bs → Stay false (n + zone_size bs) (left_before n bs)
left_stay zero bs even each j = record { stand = record { each = each; size_is = omega arith }; joined = joined_anywhere bs false j }
left_stay (suc n) bs even each j = record { stand = record { each = ((omega arith, even), each); size_is = refl }; joined = (refl, j) }

pub here_stay : (at size n : ℕ) (bs : List Block) (after_gap : Bool) → 1 ≤ size → tag_size size ≡ size → size ≤ n → tag_size n ≡ n → EachCanStand bs → AreJoined true bs → Stay after_gap (n + zone_size bs) (taken_here at size n bs).blocks
here_stay at size n bs after_gap some even fits whole each j =
    let rest = left_stay (n - size) bs (even_rest n size whole even fits) each j in
    let words : suc (length (replicate {A = ℕ} (size - 1) 0)) ≡ size = ap suc (length-replicate (size - 1) 0) ∙ (omega (arith, some)) in
    let all = rest.stand.size_is in
    record {
      stand = record {
        each = (subst (λ k. (1 ≤ k) × (tag_size k ≡ k)) (sym words) (some, even), rest.stand.each);
        size_is = omega (arith, words, all, fits);
      };
      joined = rest.joined;
    }

pub taken_stay : (size at : ℕ) (zone : List Block) (after_gap : Bool) → 1 ≤ size → tag_size size ≡ size → EachCanStand zone → AreJoined after_gap zone → OfSome (λ (t : Taken). Stay after_gap (zone_size zone) t.blocks) (taken at size zone)
taken_stay size at [] after_gap some even each j = tt
taken_stay size at (gap n ∷ bs) after_gap some even each j =
    of_cond (λ (t : Taken). Stay after_gap (n + zone_size bs) t.blocks) (nat_le size n) (Some (taken_here at size n bs)) (taken_after (gap n) (taken (at + n) size bs))
    (λ fits. here_stay at size n bs after_gap some even (leb-true size n fits) each.0.1 each.1 j.1)
    (of_map (λ (t : Taken). Stay true (zone_size bs) t.blocks) (λ (t : Taken). Stay after_gap (n + zone_size bs) t.blocks) (λ (t : Taken). record { at = t.at; blocks = gap n ∷ t.blocks }) (taken (at + n) size bs)
    (λ t h. record { stand = record { each = (each.0, h.stand.each); size_is = ap (λ k. n + k) h.stand.size_is }; joined = (j.0, h.joined) })
    (taken_stay size (at + n) bs true some even each.1 j.1))
taken_stay size at (live words ∷ bs) after_gap some even each j =
    of_map (λ (t : Taken). Stay false (zone_size bs) t.blocks) (λ (t : Taken). Stay after_gap (suc (length words) + zone_size bs) t.blocks) (λ (t : Taken). record { at = t.at; blocks = live words ∷ t.blocks }) (taken (at + suc (length words)) size bs)
    (λ t h. record { stand = record { each = (each.0, h.stand.each); size_is = ap (λ k. suc (length words) + k) h.stand.size_is }; joined = h.joined })
    (taken_stay size (at + suc (length words)) bs false some even each.1 j)

pub fills : (top : ℕ) (old new : List Block) → FillZone top old → Stay false (zone_size old) new → FillZone top new
fills top old new h stay = let size = h.size in let same = stay.stand.size_is in record { each = stay.stand.each; joined = stay.joined; size = omega (arith, size, same) }

pub taken_fills_the_zone : TakenFillsTheZone
taken_fills_the_zone top n zone t h is = fills top zone t.blocks h (subst (OfSome (λ (t : Taken). Stay false (zone_size zone) t.blocks)) is (taken_stay (size_for n) zone_start zone false (some_size n) (size_even n) h.each h.joined))

-- ---- a block is given back
pub freed_stand : (at a : ℕ) (zone : List Block) → EachCanStand zone → OfSome (Stand (zone_size zone)) (freed at a zone)
freed_stand at a [] each = tt
freed_stand at a (gap n ∷ bs) each =
    of_map (Stand (zone_size bs)) (Stand (n + zone_size bs)) (λ (r : List Block). gap n ∷ r) (freed (at + n) a bs)
    (λ r h. record { each = (each.0, h.each); size_is = ap (λ k. n + k) h.size_is })
    (freed_stand (at + n) a bs each.1)
freed_stand at a (live words ∷ bs) each =
    of_cond (Stand (suc (length words) + zone_size bs)) (a == at + 1) (Some (gap (suc (length words)) ∷ bs)) (option_map (λ (r : List Block). live words ∷ r) (freed (at + suc (length words)) a bs))
    (λ here. record { each = each; size_is = refl })
    (of_map (Stand (zone_size bs)) (Stand (suc (length words) + zone_size bs)) (λ (r : List Block). live words ∷ r) (freed (at + suc (length words)) a bs)
    (λ r h. record { each = (each.0, h.each); size_is = ap (λ k. suc (length words) + k) h.size_is })
    (freed_stand (at + suc (length words)) a bs each.1))

pub gap_joins : (n : ℕ) (zone : List Block) → CanStand (gap n) → EachCanStand zone → AreJoined false zone → Stay false (n + zone_size zone) (join_gap n zone)
gap_joins n [] can each j = record { stand = record { each = (can, tt); size_is = refl }; joined = (refl, tt) }
gap_joins n (gap k ∷ bs) can each j =
    let some = can.0 in
    record {
      stand = record { each = ((omega (arith, some), even_sum n k can.1 each.0.1), each.1); size_is = omega arith };
      joined = (refl, j.1);
    }
gap_joins n (live words ∷ bs) can each j = record { stand = record { each = (can, each); size_is = refl }; joined = (refl, j) }

pub joined_stay : (zone : List Block) → EachCanStand zone → Stay false (zone_size zone) (joined_gaps zone)
joined_stay [] each = record { stand = record { each = tt; size_is = refl }; joined = tt }
joined_stay (gap n ∷ bs) each =
    let rest = joined_stay bs each.1 in
    let all = gap_joins n (joined_gaps bs) each.0 rest.stand.each rest.joined in
    record { stand = record { each = all.stand.each; size_is = all.stand.size_is ∙ ap (λ k. n + k) rest.stand.size_is }; joined = all.joined }
joined_stay (live words ∷ bs) each =
    let rest = joined_stay bs each.1 in
    record { stand = record { each = (each.0, rest.stand.each); size_is = ap (λ k. suc (length words) + k) rest.stand.size_is }; joined = rest.joined }

pub given_back_fills_the_zone : GivenBackFillsTheZone
given_back_fills_the_zone top at zone left h is =
    fills top zone left h (subst (OfSome (Stay false (zone_size zone))) is
    (of_map (Stand (zone_size zone)) (Stay false (zone_size zone)) joined_gaps (freed zone_start at zone)
    (λ r s. let stay = joined_stay r s.each in record { stand = record { each = stay.stand.each; size_is = stay.stand.size_is ∙ s.size_is }; joined = stay.joined })
    (freed_stand zone_start at zone h.each)))

-- ---- a word is another
choose : (P : List Block → Type 0) (b : Bool) (x y : List Block) → P x → P y → P (cond b x y)
choose P true x y one two = one
choose P false x y one two = two

set_stay : (at a w : ℕ) (zone : List Block) (after_gap : Bool) → EachCanStand zone → AreJoined after_gap zone → Stay after_gap (zone_size zone) (zone_set at a w zone)
set_stay at a w [] after_gap each j = record { stand = record { each = tt; size_is = refl }; joined = tt }
set_stay at a w (gap n ∷ bs) after_gap each j =
    let rest = set_stay (at + n) a w bs true each.1 j.1 in
    record { stand = record { each = (each.0, rest.stand.each); size_is = ap (λ k. n + k) rest.stand.size_is }; joined = (j.0, rest.joined) }
set_stay at a w (live words ∷ bs) after_gap each j =
    let size = suc (length words) in
    let new = set words (a - at - 1) w in
    let same : suc (length new) ≡ suc (length words) = ap suc (length-set words (a - at - 1) w) in
    let rest = set_stay (at + size) a w bs false each.1 j in
    choose (Stay after_gap (size + zone_size bs)) (nat_lt at a && nat_lt a (at + size)) (live new ∷ bs) (live words ∷ zone_set (at + size) a w bs)
    (record { stand = record { each = (subst (λ k. (1 ≤ k) × (tag_size k ≡ k)) (sym same) each.0, each.1); size_is = ap (λ k. k + zone_size bs) same }; joined = j })
    (record { stand = record { each = (each.0, rest.stand.each); size_is = ap (λ k. size + k) rest.stand.size_is }; joined = rest.joined })

pub word_fills_the_zone : WordFillsTheZone
word_fills_the_zone top at x zone h = fills top zone (zone_set zone_start at x zone) h (set_stay zone_start at x zone false h.each h.joined)
