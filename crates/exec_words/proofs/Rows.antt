-- Rows of the table: those that a function reads, and all of them.
use Rattle.std.proofs.Common.{◌≡◌, ◌⊎◌, inl, inr, Bool, true, false, cond, nat_eq, ℕ, List, [], ◌∷◌, ◌++◌, codes, None, refl, sym, ◌∙◌, ap, subst, rules}
use Rattle.std.specs.Cmp.Lexicographic.{pointwise, same_text}
use Rattle.alto_words.specs.Numbers.{number_in}
use Rattle.exec_words.specs.declared.line.Line.TheVariants as line
use Rattle.exec_words.specs.Grammar.{Form, before, after, words_in, stream_in, path_in, file_in, grammar, read_by}
use Rattle.exec_words.specs.Reading.{alone_rows, one_rows, two_rows, three_rows, words_rows, bytes_rows, read_else}
use Rattle.exec_words.proofs.Cutting.{words_after, words_cut}
use Rattle.exec_words.proofs.LastBytes.{last_of_two, last_of_three}

-- what holds of the verb of each row
abbrev pub EachVerb : List (List ℕ × Form) → (List ℕ → Type 0) → Type 0
EachVerb [] P = Unit {0}
EachVerb (row ∷ rows) P = P row.0 × EachVerb rows P

-- a verb is that of a row, or the table gives nothing
pub found_or_none : (rows : List (List ℕ × Form)) (P : List ℕ → Type 0) (verb : List ℕ) (more : List (List ℕ)) → EachVerb rows P → P verb ⊎ (read_by rows (verb ∷ more) ≡ None)
found_or_none [] P verb more each = inr refl
found_or_none (row ∷ rows) P verb more each = by (pointwise nat_eq verb row.0) refl (found_or_none rows P verb more each.1)
  where
    by : (b : Bool) → pointwise nat_eq verb row.0 ≡ b → P verb ⊎ (read_by rows (verb ∷ more) ≡ None) → P verb ⊎ (cond b (row.1 more) (read_by rows (verb ∷ more)) ≡ None)
    by true e rest = inl (subst P (sym (same_text verb row.0 (sym e))) each.0)
    by false e rest = rest

-- two tables agree on all verbs where they do on those of their rows
abbrev pub Agree : List (List ℕ × Form) → List (List ℕ × Form) → List (List ℕ) → List ℕ → Type 0
Agree some all more verb = read_by some (verb ∷ more) ≡ read_by all (verb ∷ more)

pub agree : (some all : List (List ℕ × Form)) (more : List (List ℕ)) → EachVerb some (Agree some all more) → EachVerb all (Agree some all more) → (verb : List ℕ) → Agree some all more verb
agree some all more ones others verb =
    elim (found_or_none some (Agree some all more) verb more ones) [
      | inl same ↦ same
      | inr none ↦ elim (found_or_none all (Agree some all more) verb more others) [
        | inl same ↦ same
        | inr nothing ↦ none ∙ sym nothing
      ]
    ]

-- ---- by how many words follow the verb
pub rows_alone : (verb : List ℕ) → read_by alone_rows (verb ∷ []) ≡ read_by grammar (verb ∷ [])
rows_alone = agree alone_rows grammar [] (search rules) (search rules)

pub rows_one : (verb a : List ℕ) → read_by one_rows (verb ∷ a ∷ []) ≡ read_by grammar (verb ∷ a ∷ [])
rows_one verb a = agree one_rows grammar (a ∷ []) (search rules) (search rules) verb

abbrev pub pair_rows : List (List ℕ × Form)
pair_rows = bytes_rows ++ two_rows

pub rows_pair : (verb a b : List ℕ) → read_by pair_rows (verb ∷ a ∷ b ∷ []) ≡ read_by grammar (verb ∷ a ∷ b ∷ [])
rows_pair verb a b = agree pair_rows grammar (a ∷ b ∷ []) (search rules) (search rules) verb

pub rows_three : (verb a b c : List ℕ) → read_by three_rows (verb ∷ a ∷ b ∷ c ∷ []) ≡ read_by grammar (verb ∷ a ∷ b ∷ c ∷ [])
rows_three verb a b c = agree three_rows grammar (a ∷ b ∷ c ∷ []) (search rules) (search rules) verb

-- no verb takes more words
pub rows_more : (verb a b c d : List ℕ) (more : List (List ℕ)) → read_by grammar (verb ∷ a ∷ b ∷ c ∷ d ∷ more) ≡ None
rows_more verb a b c d more =
    elim (found_or_none grammar (λ v. read_by grammar (v ∷ a ∷ b ∷ c ∷ d ∷ more) ≡ None) verb (a ∷ b ∷ c ∷ d ∷ more) (search rules)) [
      | inl none ↦ none
      | inr none ↦ none
    ]

-- ---- by what stands after the verb and a word: one word more, two, or bytes
pub rest_two : (verb a b : List ℕ) → read_by two_rows (verb ∷ a ∷ b ∷ []) ≡ read_by words_rows (verb ∷ a ∷ b ∷ [])
rest_two verb a b = agree two_rows words_rows (a ∷ b ∷ []) (search rules) (search rules) verb

more_than_three : (verb a b c : List ℕ) (more : List (List ℕ)) → read_by three_rows (verb ∷ a ∷ b ∷ c ∷ more) ≡ read_by words_rows (verb ∷ a ∷ b ∷ c ∷ more)
more_than_three verb a b c more = agree three_rows words_rows (a ∷ b ∷ c ∷ more) (search rules) (search rules) verb

pub rest_three : (verb a b text : List ℕ) → read_by three_rows (verb ∷ a ∷ b ∷ text ∷ []) ≡ read_by words_rows (verb ∷ a ∷ b ∷ words_in text)
rest_three verb a b text =
    (λ i. cond (pointwise nat_eq verb (codes "patch")) (last_of_three file_in number_in 2000 line.Patch a b text i) None)
    ∙ ap (λ ws. read_by three_rows (verb ∷ a ∷ b ∷ ws)) (words_cut text)
    ∙ more_than_three verb a b (before 32 text) (words_after (after 32 text))
    ∙ sym (ap (λ ws. read_by words_rows (verb ∷ a ∷ b ∷ ws)) (words_cut text))

abbrev many_rows : List (List ℕ × Form)
many_rows = bytes_rows ++ words_rows

more_than_two : (verb a b : List ℕ) (more : List (List ℕ)) → read_by many_rows (verb ∷ a ∷ b ∷ more) ≡ read_by grammar (verb ∷ a ∷ b ∷ more)
more_than_two verb a b more = agree many_rows grammar (a ∷ b ∷ more) (search rules) (search rules) verb

pub rest_bytes : (verb a text : List ℕ)
    → read_else bytes_rows (verb ∷ a ∷ text ∷ []) (read_by words_rows (verb ∷ a ∷ words_in text)) ≡ read_by grammar (verb ∷ a ∷ words_in text)
rest_bytes verb a text =
    (λ i.
    cond (pointwise nat_eq verb (codes "append")) (last_of_two file_in 2000 line.Append a text i)
    (cond (pointwise nat_eq verb (codes "putb")) (last_of_two stream_in 2000 line.PutBytes a text i)
    (cond (pointwise nat_eq verb (codes "inload")) (last_of_two path_in 40 line.InLoad a text i) (read_by words_rows (verb ∷ a ∷ words_in text)))))
    ∙ ap (λ ws. read_by many_rows (verb ∷ a ∷ ws)) (words_cut text)
    ∙ more_than_two verb a (before 32 text) (words_after (after 32 text))
    ∙ sym (ap (λ ws. read_by grammar (verb ∷ a ∷ ws)) (words_cut text))
