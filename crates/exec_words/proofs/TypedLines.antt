-- Each line is read back from its shortest text.
use Rattle.std.proofs.Common.{◌≡◌, ℕ, ◌+◌, ◌≤◌, false, List, [], ◌∷◌, ◌++◌, length, Option, Some, refl, ◌∙◌, ap, arith, append_assoc, length-append}
use Rattle.std.proofs.lemmas.Bool.{lt-leb}
use Rattle.pack_model.specs.sessions.Lines.{is_too_long, longest_line}
use Rattle.exec_words.specs.declared.line.Line.{Line}
use Rattle.exec_words.specs.Grammar.{words_in, grammar, read_by, line_in, both}
use Rattle.exec_words.specs.Typed.{word_after}
use Rattle.exec_words.proofs.Plain.{Lacks, words_one, words_more}
use Rattle.exec_words.proofs.Operands.{Back}

-- a text that isn't too long, by its words
pub finish : (text : List ℕ) (words : List (List ℕ)) (l : Line) → words_in text ≡ words → is_too_long text ≡ false → read_by grammar words ≡ Some l → line_in text ≡ l
unfolding line_in
finish text words l is short reads = rw (short, is, reads) refl

pub is_short : (text : List ℕ) → length text ≤ 4096 → is_too_long text ≡ false
unfolding longest_line
is_short text h = lt-leb (4096 + 1) (length text) (omega (arith, h))

-- ---- a verb, and one to three operands
one_words : (verb a : List ℕ) → Lacks 32 verb → Lacks 32 a → words_in (word_after verb a) ≡ verb ∷ a ∷ []
one_words verb a v p = words_more verb a v ∙ ap (λ ws. verb ∷ ws) (words_one a p)

two_words : (verb a b : List ℕ) → Lacks 32 verb → Lacks 32 a → Lacks 32 b → words_in (word_after (word_after verb a) b) ≡ verb ∷ a ∷ b ∷ []
two_words verb a b v p q =
    ap words_in (append_assoc verb (32 ∷ a) (32 ∷ b)) ∙ words_more verb (a ++ 32 ∷ b) v ∙ ap (λ ws. verb ∷ ws) (words_more a b p ∙ ap (λ ws. a ∷ ws) (words_one b q))

three_words : (verb a b c : List ℕ) → Lacks 32 verb → Lacks 32 a → Lacks 32 b → Lacks 32 c → words_in (word_after (word_after (word_after verb a) b) c) ≡ verb ∷ a ∷ b ∷ c ∷ []
three_words verb a b c v p q r =
    ap words_in (append_assoc (verb ++ 32 ∷ a) (32 ∷ b) (32 ∷ c) ∙ append_assoc verb (32 ∷ a) (32 ∷ (b ++ 32 ∷ c)))
    ∙ words_more verb (a ++ 32 ∷ (b ++ 32 ∷ c)) v ∙ ap (λ ws. verb ∷ ws) (words_more a (b ++ 32 ∷ c) p ∙ ap (λ ws. a ∷ ws) (words_more b c q ∙ ap (λ ws. b ∷ ws) (words_one c r)))

-- ---- lines of a verb and its operands
pub one_back : {X : Type 0} {read : List ℕ → Option X} {x : X} {a : List ℕ} {most : ℕ} (verb : List ℕ) (l : Line) → Back read x a most → Lacks 32 verb → length verb + 1 + most ≤ 4096
    → (read a ≡ Some x → read_by grammar (verb ∷ a ∷ []) ≡ Some l) → line_in (word_after verb a) ≡ l
one_back {a = a} verb l back plain fits by =
    finish (word_after verb a) (verb ∷ a ∷ []) l (one_words verb a plain back.plain) (is_short (word_after verb a) (omega (arith, length-append verb (32 ∷ a), back.fits))) (by back.reads)

pub two_back : {X Y : Type 0} {read : List ℕ → Option X} {other : List ℕ → Option Y} {x : X} {y : Y} {a b : List ℕ} {most more : ℕ} (verb : List ℕ) (l : Line)
    → Back read x a most → Back other y b more → Lacks 32 verb → length verb + 2 + most + more ≤ 4096
    → (read a ≡ Some x → other b ≡ Some y → read_by grammar (verb ∷ a ∷ b ∷ []) ≡ Some l) → line_in (word_after (word_after verb a) b) ≡ l
two_back {a = a} {b = b} verb l back second plain fits by =
    finish (word_after (word_after verb a) b) (verb ∷ a ∷ b ∷ []) l (two_words verb a b plain back.plain second.plain)
    (is_short (word_after (word_after verb a) b) (omega (arith, length-append verb (32 ∷ a), length-append (verb ++ 32 ∷ a) (32 ∷ b), back.fits, second.fits)))
    (by back.reads second.reads)

-- of three the length is asked for by itself
pub three_back : {X Y Z : Type 0} {read : List ℕ → Option X} {other : List ℕ → Option Y} {last : List ℕ → Option Z} {x : X} {y : Y} {z : Z} {a b c : List ℕ} {most more rest : ℕ} (verb : List ℕ) (l : Line)
    → Back read x a most → Back other y b more → Back last z c rest → Lacks 32 verb → is_too_long (word_after (word_after (word_after verb a) b) c) ≡ false
    → (read a ≡ Some x → other b ≡ Some y → last c ≡ Some z → read_by grammar (verb ∷ a ∷ b ∷ c ∷ []) ≡ Some l) → line_in (word_after (word_after (word_after verb a) b) c) ≡ l
three_back {a = a} {b = b} {c = c} verb l back second third plain fits by =
    finish (word_after (word_after (word_after verb a) b) c) (verb ∷ a ∷ b ∷ c ∷ []) l (three_words verb a b c plain back.plain second.plain third.plain) fits
    (by back.reads second.reads third.reads)

-- both operands of a pair
pub pair : {X Y : Type 0} (f : X → Y → Line) {o : Option X} {p : Option Y} {x : X} {y : Y} → o ≡ Some x → p ≡ Some y → both f o p ≡ Some (f x y)
pair f {p = p} {x = x} e d = ap (λ q. both f q p) e ∙ ap (both f (Some x)) d

pub triple : {X Y Z : Type 0} (f : X → Y → Z → Line) {o : Option X} {p : Option Y} {q : Option Z} {x : X} {y : Y} {z : Z} → o ≡ Some x → p ≡ Some y → q ≡ Some z
    → both (λ g k. g k) (both f o p) q ≡ Some (f x y z)
triple f {p = p} {q = q} {x = x} {y = y} e d k =
    ap (λ r. both (λ g n. g n) (both f r p) q) e ∙ ap (λ r. both (λ g n. g n) (both f (Some x) r) q) d ∙ ap (both (λ g n. g n) (Some (f x y))) k
