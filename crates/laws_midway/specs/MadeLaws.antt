-- Hints for a new file, once it is made.
use Rattle.std.specs.Prelude.{All, List, ℕ, ◌≡◌}
use Rattle.laws_hint.specs.alto_words.specs.declared.fid.Fid.{Fid}
use Rattle.laws_hint.specs.disk_records.specs.Packs.{Pack, after}
use Rattle.laws_hint.specs.laws_operation.specs.FileWords.{CanMake}
use Rattle.laws_hint.specs.pack_model.specs.hints.Handy.{CachedAt, Handy}
use Rattle.laws_hint.specs.pack_model.specs.operations.Commands.{first_page_claim, leader_claim}
use Rattle.laws_hint.specs.pack_model.specs.operations.Operations.{make_writes}
use Rattle.laws_hint.specs.pack_model.specs.states.Whole.{Tidy, Whole}

-- where the cache lists the leader of the new file it does so at this sector, and its page 1 at that one
abbrev pub ListsNewPages : Fid → ℕ → ℕ → List CachedAt → Type 0
ListsNewPages f leader_at page_at cache = All (λ c. c.0.fid ≡ f → (c.0.number ≡ 0 → c.1 ≡ leader_at) × (c.0.number ≡ 1 → c.1 ≡ page_at)) cache

-- on a whole and tidy pack the new file's hints are handy then: the leader's flag says nothing, and its words name page 1
abbrev pub HandyAfterMake : Type 0
HandyAfterMake = (p : Pack) (f : Fid) (name : List ℕ) (moment leader_at page_at : ℕ) (cache : List CachedAt) → Whole p → Tidy p → CanMake p f name leader_at page_at → ListsNewPages f leader_at page_at cache
    → Handy (after p (make_writes (first_page_claim p.shape f leader_at page_at) (leader_claim p.shape f name moment leader_at page_at))) f cache
