-- The memory in parts: up to a place between two blocks, and from there on.
use Rattle.std.proofs.Common.{◌≡◌, ℕ, ◌+◌, ◌-◌, List, ◌++◌, sym, ap, ◌∙◌, length, take, replicate, arith, append_assoc}
use Rattle.std.proofs.lemmas.List.{length-append, length-take-le}
use Rattle.world_model.specs.Zones.{Block}
use Rattle.world_model.specs.ZoneWords.{IsMemory, memory_length, zone_in, zone_start, zone_words}
use Rattle.laws_zone.specs.Filling.{EachCanStand, IsTop, zone_size}
use Rattle.laws_zone.proofs.Rows.{words_of_both}
use Rattle.laws_zone.proofs.inside.Writing.{memories_are_their_blocks}
use Rattle.laws_zone.proofs.inside.Zoning.{zone_length}

pub parts_at : (top : ℕ) (memory : List ℕ) (before rest : List Block) → IsTop top → IsMemory top memory → zone_in top memory ≡ before ++ rest
    → memory ≡ (take zone_start memory ++ zone_words before) ++ (zone_words rest ++ replicate (memory_length - top) 0)
parts_at top memory before rest t h zone =
    let user = take zone_start memory in
    let last = replicate {A = ℕ} (memory_length - top) 0 in
    memories_are_their_blocks top memory t h
    ∙ ap (λ (z : List Block). (user ++ zone_words z) ++ last) zone
    ∙ ap (λ (l : List ℕ). (user ++ l) ++ last) (words_of_both before rest)
    ∙ ap (λ (l : List ℕ). l ++ last) (sym (append_assoc user (zone_words before) (zone_words rest)))
    ∙ append_assoc (user ++ zone_words before) (zone_words rest) last

-- so many words stand before it
pub front_length : (top : ℕ) (memory : List ℕ) (before : List Block) → IsMemory top memory → EachCanStand before → length (take zone_start memory ++ zone_words before) ≡ zone_start + zone_size before
front_length top memory before h each =
    let words = h.words in
    let user = length-take-le zone_start memory (omega (arith, words)) in
    let both = length-append (take zone_start memory) (zone_words before) in
    let long = zone_length before each in
    omega (arith, user, both, long)
