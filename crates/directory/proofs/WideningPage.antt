-- What a widening asks of a growth.
use Rattle.std.proofs.Common.{◌≡◌, ℕ, true, List, [], ◌∷◌, length, ap, arith}
use Rattle.std.proofs.lemmas.List.Elements.{All-cons, All-nil}
use Rattle.alto_words.specs.Fid.{is_directory}
use Rattle.alto_words.specs.declared.fid.Fid.{Fid}
use Rattle.disk_records.specs.Packs.{Pack, is_free_at}
use Rattle.file_pages.specs.Growing.{MayBeGrown, of_directory}
use Rattle.pack_model.specs.operations.PageWords.{widening_bytes}
use Rattle.pack_model.specs.operations.Step.Operation.{widen}
use Rattle.directory.specs.Widening.{MayBeWidened}

pub may_be_grown : (p : Pack) (d : Fid) (bytes : List ℕ) (fresh : ℕ) → is_directory d ≡ true → bytes ≡ widening_bytes → MayBeWidened p fresh → MayBeGrown p (widen d) d bytes [] (fresh ∷ [])
may_be_grown p d bytes fresh directory is free =
    let size : length bytes ≡ 512 = ap length is in
    record { growth = of_directory directory is; room = omega (arith, size); number = omega (arith, size); free = All-cons (λ i. is_free_at p i ≡ true) fresh [] free (All-nil (λ i. is_free_at p i ≡ true)); distinct = λ i j less a b. absurd (omega arith) }
