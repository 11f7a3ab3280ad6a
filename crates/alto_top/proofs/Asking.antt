-- Words that ask for one thing ask for no other.
use Rattle.std.proofs.Common.{List, Some, [], ap, arith, codes, get_or, inl, inr, sym, ℕ, ◌<◌, ◌≤◌, ◌≢◌, ◌∙◌, ◌∷◌, ◌≡◌, ◌⊎◌}
use Rattle.std.proofs.lemmas.Bool.{cases_lt}
use Rattle.alto_top.specs.Top.{AnswersPrepare, AsksBoot, AsksFormat, AsksPrepare, AsksScavenge, AsksShow, pack_number}
use Rattle.session_boot.specs.declared.status.Status.TheVariants as status

module _ (words : List (List ℕ)) (n : ℕ) (asks : AsksFormat words n) where
  pub format_is_no_boot : AsksBoot words → ⊥
  format_is_no_boot boot = let e : codes "format" ∷ asks.word ∷ [] ≡ codes "boot" ∷ [] = sym asks.words_are ∙ boot in cc

  pub format_is_no_show : AsksShow words → ⊥
  format_is_no_show show = let e : codes "format" ∷ asks.word ∷ [] ≡ codes "show" ∷ [] = sym asks.words_are ∙ show in cc

  pub format_is_no_scavenge : AsksScavenge words → ⊥
  format_is_no_scavenge scavenge = let e : codes "format" ∷ asks.word ∷ [] ≡ codes "scavenge" ∷ [] = sym asks.words_are ∙ scavenge in cc

  pub format_is_no_prepare : (m : ℕ) → AsksPrepare words m → ⊥
  format_is_no_prepare m prepare =
      let e : codes "format" ∷ asks.word ∷ [] ≡ codes "prepare" ∷ prepare.word ∷ [] = sym asks.words_are ∙ prepare.words_are in
      let first : codes "format" ≡ codes "prepare" = cc in
      let letter : get_or (codes "format") 0 0 ≡ get_or (codes "prepare") 0 0 = ap (λ (l : List ℕ). get_or l 0 0) first in
      omega (arith, letter)

  -- and for one number
  pub format_of_one_number : (m : ℕ) → AsksFormat words m → n ≡ m
  format_of_one_number m other =
      let e : codes "format" ∷ asks.word ∷ [] ≡ codes "format" ∷ other.word ∷ [] = sym asks.words_are ∙ other.words_are in
      let same : asks.word ≡ other.word = cc in
      let both : Some n ≡ Some m = sym asks.number ∙ ap pack_number same ∙ other.number in
      cc

module _ (words : List (List ℕ)) (n : ℕ) (asks : AsksPrepare words n) where
  pub prepare_is_no_boot : AsksBoot words → ⊥
  prepare_is_no_boot boot = let e : codes "prepare" ∷ asks.word ∷ [] ≡ codes "boot" ∷ [] = sym asks.words_are ∙ boot in cc

  pub prepare_is_no_show : AsksShow words → ⊥
  prepare_is_no_show show = let e : codes "prepare" ∷ asks.word ∷ [] ≡ codes "show" ∷ [] = sym asks.words_are ∙ show in cc

  pub prepare_is_no_scavenge : AsksScavenge words → ⊥
  prepare_is_no_scavenge scavenge = let e : codes "prepare" ∷ asks.word ∷ [] ≡ codes "scavenge" ∷ [] = sym asks.words_are ∙ scavenge in cc

-- ---- `prepare` by the number of drives
-- an answer that only one drive gives isn't given on two, and the other way round
two_of : (disks : ℕ) → ((disks ≢ 2) → ⊥) → disks ≡ 2
two_of disks not_other = by (cases_lt disks 2) (cases_lt 2 disks)
  where
    by : (disks < 2) ⊎ (2 ≤ disks) → (2 < disks) ⊎ (disks ≤ 2) → disks ≡ 2
    by (inl less) more = absurd (not_other (λ is. omega (arith, is, less)))
    by (inr least) (inl more) = absurd (not_other (λ is. omega (arith, is, more)))
    by (inr least) (inr most) = omega (arith, least, most)

pub usage_of_one : (disks : ℕ) → AnswersPrepare disks status.Usage → disks ≢ 2
usage_of_one disks answers two = answers.two two

pub done_of_two : (disks : ℕ) → AnswersPrepare disks status.Done → disks ≡ 2
done_of_two disks answers = two_of disks answers.one

pub prepare_needs_none : (disks : ℕ) → AnswersPrepare disks status.NeedsScavenge → ⊥
prepare_needs_none disks answers = answers.one (λ two. answers.two two)

pub prepare_can : (disks : ℕ) → AnswersPrepare disks status.CannotScavenge → ⊥
prepare_can disks answers = answers.one (λ two. answers.two two)
