-- Two rows of blocks, one after the other.
use Rattle.std.proofs.Common.{◌≡◌, ℕ, ◌+◌, List, [], ◌∷◌, ◌++◌, refl, sym, ap, ◌∙◌, arith, append_assoc}
use Rattle.world_model.specs.Zones.{Block}
use Rattle.world_model.specs.ZoneWords.{block_words, zone_words}
use Rattle.laws_zone.specs.Filling.{EachCanStand, zone_size}

pub size_of_both : (one two : List Block) → zone_size (one ++ two) ≡ zone_size one + zone_size two
size_of_both [] two = omega arith
size_of_both (b ∷ one) two = let rest = size_of_both one two in omega (arith, rest)

pub words_of_both : (one two : List Block) → zone_words (one ++ two) ≡ zone_words one ++ zone_words two
words_of_both [] two = refl
words_of_both (b ∷ one) two = ap (λ (l : List ℕ). block_words b ++ l) (words_of_both one two) ∙ sym (append_assoc (block_words b) (zone_words one) (zone_words two))

pub each_first : (one two : List Block) → EachCanStand (one ++ two) → EachCanStand one
each_first [] two each = tt
each_first (b ∷ one) two each = (each.0, each_first one two each.1)

pub each_last : (one two : List Block) → EachCanStand (one ++ two) → EachCanStand two
each_last [] two each = each
each_last (b ∷ one) two each = each_last one two each.1
