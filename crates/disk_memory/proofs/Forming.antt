-- Records keep their numbers of words.
use Rattle.std.proofs.Common.{List, [], get_or, length, slice_set, subst, suc, sym, take, zero, ℕ, ◌+◌, ◌<◌, ◌∷◌, ◌≡◌}
use Rattle.std.proofs.lemmas.List.Elements.{All-append, All-cons, All-nil, All-set}
use Rattle.std.proofs.lemmas.Grind.{take_at_read}
use Rattle.std.specs.Prelude.{All}
use Rattle.disk_memory.specs.Storing.{record_words}
use Rattle.disk_records.specs.Packs.{IsFormed, with_part}
use Rattle.disk_records.specs.declared.records.Sector.{Sector}

-- a sector of which one record is written
pub formed_part : (part : ℕ) (words : List ℕ) (s : Sector) → length words ≡ record_words part → IsFormed s → IsFormed (with_part part words s)
formed_part zero words s size h = record { header = size; label = h.label; value = h.value }
formed_part (suc zero) words s size h = record { header = h.header; label = size; value = h.value }
formed_part (suc (suc part)) words s size h = record { header = h.header; label = h.label; value = size }

-- and so are all sectors of which one is
pub formed_wrote : (sectors : List Sector) (at part : ℕ) (words : List ℕ) (sector next : Sector) → All IsFormed sectors → at < length sectors → sector ≡ get_or sectors at sector → length words ≡ record_words part → next ≡ with_part part words sector → All IsFormed (slice_set sectors at next)
formed_wrote sectors at part words sector next h l stands size is =
    All-set IsFormed sectors at next (subst IsFormed (sym is) (formed_part part words sector size (subst IsFormed (sym stands) (h at sector l)))) h

-- the first sectors, and one more
pub formed_more : (sectors : List Sector) (i : ℕ) (d : Sector) → i < length sectors → IsFormed (get_or sectors i d) → All IsFormed (take i sectors) → All IsFormed (take (i + 1) sectors)
formed_more sectors i d l one h =
    subst (All IsFormed) (sym ((take_at_read sectors i d l).1)) (All-append IsFormed (take i sectors) (get_or sectors i d ∷ []) h (All-cons IsFormed (get_or sectors i d) [] one (All-nil IsFormed)))
