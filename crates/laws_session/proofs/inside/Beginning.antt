-- The world that a session keeps as it begins is the fresh one.
use Rattle.std.proofs.Common.{◌≡◌, ◌≤◌, ℕ, ◌-◌, zero, suc, false, All, List, [], ◌∷◌, ◌++◌, refl, sym, subst, ◌∙◌, ap, length, replicate, take, drop, append_assoc, arith}
use Rattle.session_model.specs.world_model.specs.Zones.{Block, gap}
use Rattle.session_model.specs.world_model.specs.ZoneWords.{blocks_in, blocks_from, tag_size, memory_length, zone_in, zone_start, zone_words}
use Rattle.session_model.specs.world_model.specs.Levels.{all_levels, level_base}
use Rattle.laws_line.specs.pack_model.specs.hints.Sources.{IsFrom}
use Rattle.session_model.specs.Keeping.{OpenFile}
use Rattle.session_model.specs.Worlds.{fresh_world, memory_words}
use Rattle.laws_session.specs.BeginLaws.{FreshMemoryIsKept, SessionsBegin}
use Rattle.laws_session.proofs.inside.Standing.{sound_packs_begin}

zeros : (n : ℕ) → length (replicate {A = ℕ} n 0) ≡ n
zeros zero = refl
zeros (suc n) = ap suc (zeros n)

append_none : (l : List ℕ) → l ++ [] ≡ l
append_none [] = refl
append_none (x ∷ l) = ap (λ (m : List ℕ). x ∷ m) (append_none l)

take_front : (a b : List ℕ) → take (length a) (a ++ b) ≡ a
take_front [] b = refl
take_front (x ∷ a) b = ap (λ (l : List ℕ). x ∷ l) (take_front a b)

drop_front : (a b : List ℕ) → drop (length a) (a ++ b) ≡ b
drop_front [] b = refl
drop_front (x ∷ a) b = drop_front a b

drop_all : (a : List ℕ) → drop (length a) a ≡ []
drop_all [] = refl
drop_all (x ∷ a) = drop_all a

none_from : (n : ℕ) → blocks_from n [] ≡ []
none_from zero = refl
none_from (suc n) = refl

abbrev size : ℕ
size = 39936

one_gap : blocks_in (size ∷ replicate {A = ℕ} (size - 1) 0) ≡ gap size ∷ []
one_gap =
    let all : drop (tag_size size - 1) (replicate {A = ℕ} (size - 1) 0) ≡ [] = ap (λ n. drop n (replicate {A = ℕ} (size - 1) 0)) (sym (zeros (size - 1))) ∙ drop_all (replicate {A = ℕ} (size - 1) 0) in
    ap (λ (l : List Block). gap size ∷ l) (ap (blocks_from (length (replicate {A = ℕ} (size - 1) 0))) all ∙ none_from (length (replicate {A = ℕ} (size - 1) 0)))

-- the words of the zone
words_of_gap : (n : ℕ) → zone_words (gap n ∷ []) ≡ n ∷ replicate {A = ℕ} (n - 1) 0
words_of_gap n = append_none (n ∷ replicate {A = ℕ} (n - 1) 0)

taken_part : (k : ℕ) (u z r : List ℕ) → length u ≡ k → take (length z) (drop k ((u ++ z) ++ r)) ≡ z
taken_part k u z r is =
    ap (λ n. take (length z) (drop n ((u ++ z) ++ r))) (sym is)
    ∙ ap (λ (l : List ℕ). take (length z) (drop (length u) l)) (append_assoc u z r)
    ∙ ap (λ (l : List ℕ). take (length z) l) (drop_front u (z ++ r)) ∙ take_front z r

long : (n : ℕ) → 1 ≤ n → length (n ∷ replicate {A = ℕ} (n - 1) 0) ≡ n
long n h = let e : suc (n - 1) ≡ n = omega (arith, h) in ap suc (zeros (n - 1)) ∙ e

part_is : (n k : ℕ) (r : List ℕ) → 1 ≤ n → take n (drop k ((replicate {A = ℕ} k 0 ++ zone_words (gap n ∷ [])) ++ r)) ≡ n ∷ replicate {A = ℕ} (n - 1) 0
part_is n k r h =
    ap (λ (z : List ℕ). take n (drop k ((replicate {A = ℕ} k 0 ++ z) ++ r))) (words_of_gap n)
    ∙ ap (λ j. take j (drop k ((replicate {A = ℕ} k 0 ++ (n ∷ replicate {A = ℕ} (n - 1) 0)) ++ r))) (sym (long n h))
    ∙ taken_part k (replicate {A = ℕ} k 0) (n ∷ replicate {A = ℕ} (n - 1) 0) r (zeros k)

user_is : (k : ℕ) (z r : List ℕ) → take k ((replicate {A = ℕ} k 0 ++ z) ++ r) ≡ replicate {A = ℕ} k 0
user_is k z r =
    ap (λ (l : List ℕ). take k l) (append_assoc (replicate {A = ℕ} k 0) z r)
    ∙ ap (λ n. take n (replicate {A = ℕ} k 0 ++ (z ++ r))) (sym (zeros k)) ∙ take_front (replicate {A = ℕ} k 0) (z ++ r)

size_is : level_base all_levels - zone_start ≡ size
unfolding level_base
size_is = refl

zone_is : (moment : ℕ) → zone_in (level_base all_levels) (memory_words (fresh_world moment)) ≡ gap (level_base all_levels - zone_start) ∷ []
zone_is moment =
    let some : 1 ≤ level_base all_levels - zone_start = omega (arith, size_is) in
    ap blocks_in (part_is (level_base all_levels - zone_start) zone_start (replicate {A = ℕ} (memory_length - level_base all_levels) 0) some)
    ∙ subst (λ n. blocks_in (n ∷ replicate {A = ℕ} (n - 1) 0) ≡ gap n ∷ []) (sym size_is) one_gap

pub fresh_memory_is_kept : FreshMemoryIsKept
fresh_memory_is_kept k moment h =
    rw (h.moment, h.level, h.memory, h.streams, h.need)
    (λ i. record {
      moment = moment;
      level = all_levels;
      user = user_is zone_start (zone_words (gap (level_base all_levels - zone_start) ∷ [])) (replicate {A = ℕ} (memory_length - level_base all_levels) 0) i;
      zone = zone_is moment i;
      streams = [];
      need = false;
    })

none_kept : (P : OpenFile → Type 0) (l : List OpenFile) → l ≡ [] → All P l
none_kept P [] e = λ i d less. absurd (omega (arith, less))
none_kept P (x ∷ l) e = cc

pub sessions_begin : SessionsBegin
sessions_begin p k moment sound fresh fits = record {
  begins = refl;
  world = sym (fresh_memory_is_kept k moment fresh);
  stands = (sound_packs_begin p moment sound).0;
  cut = (sound_packs_begin p moment sound).1;
  descriptor = λ need. fits;
  fits = λ i d less. absurd (omega (arith, less));
  refs = none_kept (λ o. IsFrom p o.ref.fid o.ref.leader_at o.ref.place) k.streams fresh.streams;
}
