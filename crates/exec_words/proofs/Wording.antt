-- The words of a text, one cut at a time, and what is read of them.
use Rattle.std.proofs.Common.{◌≡◌, ℕ, List, [], ◌∷◌, Option, Some, None, Result, Bor, refl, sym, ◌∙◌, ap, subst}
use Rattle.std.specs.Option.{option_map, ok_or}
use Rattle.exec_words.specs.declared.line.Line.{Line}
use Rattle.exec_words.specs.declared.operand.Unread.{Unread}
use Rattle.exec_words.specs.declared.operand.Unread.TheVariants as unread
use Rattle.exec_words.specs.Grammar.{before, after, words_in}
use Rattle.exec_words.specs.Reading.{Reads}
use Rattle.exec_words.proofs.Cutting.{words_after, words_cut}

-- ---- a text is cut at its first space
module _ (text word : List ℕ) (rest : Option (Bor (List ℕ))) (front : word ≡ before 32 text) (back : option_map (λ x. x.now) rest ≡ after 32 text) where
  words_are : words_in text ≡ word ∷ words_after (option_map (λ x. x.now) rest)
  words_are = words_cut text ∙ ap (λ w. w ∷ words_after (after 32 text)) (sym front) ∙ ap (λ r. word ∷ words_after r) (sym back)

  pub last_word : rest ≡ None → words_in text ≡ word ∷ []
  last_word e = words_are ∙ ap (λ r. word ∷ words_after (option_map (λ x. x.now) r)) e

  pub next_word : (x : Bor (List ℕ)) → rest ≡ Some x → words_in text ≡ word ∷ words_in x.now
  next_word x e = words_are ∙ ap (λ r. word ∷ words_after (option_map (λ y. y.now) r)) e

-- ---- what is read of one is read of the same
pub reads_same : (result : Result Line Unread) (o p : Option Line) → o ≡ p → Reads result o → Reads result p
reads_same result o p e reads = subst (λ x. Reads result x) e reads

-- what is read without memory
reads_ok_or : (o : Option Line) → Reads (ok_or o unread.Bad) o
reads_ok_or None = refl
reads_ok_or (Some l) = refl

pub reads_option : (o p : Option Line) (result : Result Line Unread) → result ≡ ok_or o unread.Bad → o ≡ p → Reads result p
reads_option o p result r e = reads_same result o p e (subst (λ q. Reads q o) (sym r) (reads_ok_or o))
