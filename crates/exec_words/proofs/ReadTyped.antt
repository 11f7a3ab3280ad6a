-- What a text is read as can be typed, row by row.
use Rattle.std.proofs.Common.{◌≡◌, ◌⊎◌, inl, inr, ℕ, ◌+◌, ◌≤◌, Bool, true, false, cond, not, ◌&&◌, nat_le, List, [], ◌∷◌, ◌++◌, codes, decimal, length, Option, Some, None, refl, sym, ◌∙◌, ap, subst, arith, length-append}
use Rattle.std.specs.Option.{option_map, unwrap_or}
use Rattle.std.proofs.lemmas.Bool.{and_from, leb-false}
use Rattle.alto_words.specs.Names.{bare_in}
use Rattle.alto_words.specs.Numbers.{number_in}
use Rattle.pack_model.specs.sessions.Lines.{is_too_long, longest_line}
use Rattle.exec_words.specs.declared.line.Line.{Line}
use Rattle.exec_words.specs.declared.line.Line.TheVariants as line
use Rattle.exec_words.specs.Grammar.{grammar, read_by, words_in, typed_in, line_in, both, number_from, word_in, stream_in, bytes_in, bytes_up_to, path_in, file_in}
use Rattle.exec_words.specs.Typed.{is_typed, is_typed_file, is_typed_path, is_typed_stream, are_typed_bytes, line_words, file_text, hex_text}
use Rattle.exec_words.specs.Reading.{alone_rows, one_rows, three_rows}
use Rattle.exec_words.proofs.Rows.{pair_rows, found_or_none, rows_alone, rows_one, rows_pair, rows_three, rows_more}
use Rattle.exec_words.proofs.Shortest.{number_shortest}
use Rattle.exec_words.proofs.ShortLines.{name_typed, file_shortest, path_shortest, hex_shortest, bytes_few, number_between, total, words_total}
use Rattle.exec_words.proofs.TypedLines.{is_short}

abbrev pub CanBeTyped : Line → Type 0
CanBeTyped l = is_typed l ≡ true

-- ---- the line that operands make
said : (k l : Line) → CanBeTyped k → Some k ≡ Some l → CanBeTyped l
said k l ok e = let g : k ≡ l = cc in subst CanBeTyped g ok

of_one : {X : Type 0} (f : X → Line) (o : Option X) → ((x : X) → o ≡ Some x → CanBeTyped (f x)) → (l : Line) → option_map f o ≡ Some l → CanBeTyped l
of_one f None ok l e = let g : None ≡ Some l = e in cc
of_one f (Some x) ok l e = said (f x) l (ok x refl) e

of_two : {X Y : Type 0} (f : X → Y → Line) (o : Option X) (p : Option Y) → ((x : X) (y : Y) → o ≡ Some x → p ≡ Some y → CanBeTyped (f x y)) → (l : Line) → both f o p ≡ Some l → CanBeTyped l
of_two f None p ok l e = let g : None ≡ Some l = e in cc
of_two f (Some x) None ok l e = let g : None ≡ Some l = e in cc
of_two f (Some x) (Some y) ok l e = said (f x y) l (ok x y refl refl) e

of_three : {X Y Z : Type 0} (f : X → Y → Z → Line) (o : Option X) (p : Option Y) (q : Option Z) → ((x : X) (y : Y) (z : Z) → o ≡ Some x → p ≡ Some y → q ≡ Some z → CanBeTyped (f x y z)) → (l : Line)
    → both (λ g k. g k) (both f o p) q ≡ Some l → CanBeTyped l
of_three f None p q ok l e = let g : None ≡ Some l = e in cc
of_three f (Some x) None q ok l e = let g : None ≡ Some l = e in cc
of_three f (Some x) (Some y) None ok l e = let g : None ≡ Some l = e in cc
of_three f (Some x) (Some y) (Some z) ok l e = said (f x y z) l (ok x y z refl refl refl) e

-- ---- by how many words follow the verb
abbrev Typed : (List ℕ → Option Line) → List ℕ → Type 0
Typed read verb = (l : Line) → read verb ≡ Some l → CanBeTyped l

of_found : (o p : Option Line) (l : Line) → o ≡ p → p ≡ Some l → ((l : Line) → o ≡ Some l → CanBeTyped l) ⊎ (o ≡ None) → CanBeTyped l
of_found o p l same e (inl ok) = ok l (same ∙ e)
of_found o p l same e (inr none) = let g : None ≡ Some l = sym none ∙ same ∙ e in cc

alone_typed : (verb : List ℕ) (l : Line) → read_by grammar (verb ∷ []) ≡ Some l → CanBeTyped l
alone_typed verb l e =
    of_found (read_by alone_rows (verb ∷ [])) (read_by grammar (verb ∷ [])) l (rows_alone verb) e
    (found_or_none alone_rows (Typed (λ v. read_by alone_rows (v ∷ []))) verb [] (
      λ k f. said (line.ListNames None) k refl f,
      (λ k f. said line.Free k refl f, (λ k f. said line.CounterJunta k refl f, (λ k f. said line.Scavenge k refl f, (λ k f. said line.Quit k refl f, tt)))),
    ))

one_typed : (verb a : List ℕ) (l : Line) → read_by grammar (verb ∷ a ∷ []) ≡ Some l → CanBeTyped l
one_typed verb a l e =
    let file : (f : _) → file_in a ≡ Some f → is_typed_file f ≡ true = λ f g. (file_shortest a f g).typed in
    let path : (p : _) → path_in a ≡ Some p → is_typed_path p ≡ true = λ p g. (path_shortest a p g).typed in
    of_found (read_by one_rows (verb ∷ a ∷ [])) (read_by grammar (verb ∷ a ∷ [])) l (rows_one verb a) e
    (found_or_none one_rows (Typed (λ v. read_by one_rows (v ∷ a ∷ []))) verb (a ∷ []) (
      of_one (λ name. line.ListNames (Some name)) (bare_in a) (name_typed a),
      (
        of_one line.MakeDir (bare_in a) (name_typed a),
        (
          of_one line.RemoveDir (bare_in a) (name_typed a),
          (
            of_one line.TypeOut (file_in a) file,
            (
              of_one line.Stat (file_in a) file,
              (
                of_one line.OpenStream (file_in a) file,
                (
                  of_one line.Make (path_in a) path,
                  (
                    of_one line.Delete (path_in a) path,
                    (
                      of_one line.OutLoad (path_in a) path,
                      (
                        of_one line.SetTime (number_in a) (λ n g. refl),
                        (
                          of_one line.Close (stream_in a) (λ n g. (number_between 0 7 a n g).1),
                          (
                            of_one line.Fetch (word_in a) (λ n g. refl),
                            (
                              of_one line.Block (number_from 1 65535 a) (λ n g. (number_between 1 65535 a n g).0),
                              (
                                of_one line.Unblock (word_in a) (λ n g. refl),
                                (of_one line.Junta (number_from 1 8 a) (λ n g. let b = number_between 1 8 a n g in and_from (nat_le 1 n) (nat_le n 8) b.0 b.1), tt),
                              ),
                            ),
                          ),
                        ),
                      ),
                    ),
                  ),
                ),
              ),
            ),
          ),
        ),
      ),
    ))

two_typed : (verb a b : List ℕ) (l : Line) → read_by grammar (verb ∷ a ∷ b ∷ []) ≡ Some l → CanBeTyped l
two_typed verb a b l e =
    of_found (read_by pair_rows (verb ∷ a ∷ b ∷ [])) (read_by grammar (verb ∷ a ∷ b ∷ [])) l (rows_pair verb a b) e
    (found_or_none pair_rows (Typed (λ v. read_by pair_rows (v ∷ a ∷ b ∷ []))) verb (a ∷ b ∷ []) (
      of_two line.Append (file_in a) (bytes_in b) (λ f bs g h. and_from (is_typed_file f) (are_typed_bytes 2000 bs) (file_shortest a f g).typed (bytes_few 2000 b bs h).1),
      (
        of_two line.PutBytes (stream_in a) (bytes_in b) (λ s bs g h. and_from (is_typed_stream s) (are_typed_bytes 2000 bs) (number_between 0 7 a s g).1 (bytes_few 2000 b bs h).1),
        (
          of_two line.InLoad (path_in a) (bytes_up_to 40 b) (λ p bs g h. and_from (is_typed_path p) (are_typed_bytes 40 bs) (path_shortest a p g).typed (bytes_few 40 b bs h).1),
          (
            of_two line.Cut (file_in a) (number_in b) (λ f n g h. (file_shortest a f g).typed),
            (
              of_two line.Copy (file_in a) (path_in b) (λ f p g h. and_from (is_typed_file f) (is_typed_path p) (file_shortest a f g).typed (path_shortest b p h).typed),
              (
                of_two line.Rename (path_in a) (path_in b) (λ p q g h. and_from (is_typed_path p) (is_typed_path q) (path_shortest a p g).typed (path_shortest b q h).typed),
                (
                  of_two line.Get (stream_in a) (number_from 1 1024 b)
                      (λ s n g h.
                      let k = number_between 1 1024 b n h in
                      and_from (is_typed_stream s && nat_le 1 n) (nat_le n 1024) (and_from (is_typed_stream s) (nat_le 1 n) (number_between 0 7 a s g).1 k.0) k.1),
                  (
                    of_two line.Seek (stream_in a) (number_in b) (λ s n g h. (number_between 0 7 a s g).1),
                    (of_two line.Store (word_in a) (word_in b) (λ m n g h. refl), tt),
                  ),
                ),
              ),
            ),
          ),
        ),
      ),
    ))

-- `patch` alone may be too long
abbrev Fits : List ℕ → List ℕ → List ℕ → List ℕ → Type 0
Fits verb a b c = length verb + length a + length b + length c + 3 ≤ 4096

three_typed : (verb a b c : List ℕ) (l : Line) → Fits verb a b c → read_by grammar (verb ∷ a ∷ b ∷ c ∷ []) ≡ Some l → CanBeTyped l
three_typed verb a b c l fits e =
    elim (found_or_none three_rows (λ v. Fits v a b c → Typed (λ w. read_by three_rows (w ∷ a ∷ b ∷ c ∷ [])) v) verb (a ∷ b ∷ c ∷ []) (λ few. of_three line.Patch (file_in a) (number_in b) (bytes_in c) (patch few), tt)) [
      | inl ok ↦ ok fits l (rows_three verb a b c ∙ e)
      | inr none ↦ absurd (nothing l (sym none ∙ rows_three verb a b c ∙ e))
    ]
  where
    nothing : (l : Line) → None ≡ Some l → ⊥
    nothing l g = cc

    patch : Fits (codes "patch") a b c → (f : _) (n : ℕ) (bs : List ℕ) → file_in a ≡ Some f → number_in b ≡ Some n → bytes_in c ≡ Some bs → CanBeTyped (line.Patch f n bs)
    patch few f n bs g h k =
        let file = file_shortest a f g in
        let few_bytes = bytes_few 2000 c bs k in
        let one = length-append (codes "patch") (32 ∷ file_text f) in
        let two = length-append (codes "patch" ++ 32 ∷ file_text f) (32 ∷ decimal n) in
        let three = length-append (codes "patch" ++ 32 ∷ file_text f ++ 32 ∷ decimal n) (32 ∷ hex_text bs) in
        let short = is_short (line_words (line.Patch f n bs)) (omega (arith, few, one, two, three, file.short, number_shortest b n h, hex_shortest c bs few_bytes.0)) in
        and_from (is_typed_file f && are_typed_bytes 2000 bs) (not (is_too_long (line_words (line.Patch f n bs)))) (and_from (is_typed_file f) (are_typed_bytes 2000 bs) file.typed few_bytes.1) (ap not short)

-- ---- a text that isn't too long, by its words
long_enough : (text : List ℕ) → is_too_long text ≡ false → length text ≤ 4096
unfolding longest_line
long_enough text e = omega (arith, leb-false (4096 + 1) (length text) e)

words_typed : (text : List ℕ) (words : List (List ℕ)) → words_in text ≡ words → length text ≤ 4096 → (l : Line) → read_by grammar words ≡ Some l → CanBeTyped l
words_typed text [] is few l e = let g : None ≡ Some l = e in cc
words_typed text (verb ∷ []) is few l e = alone_typed verb l e
words_typed text (verb ∷ a ∷ []) is few l e = one_typed verb a l e
words_typed text (verb ∷ a ∷ b ∷ []) is few l e = two_typed verb a b l e
words_typed text (verb ∷ a ∷ b ∷ c ∷ []) is few l e = three_typed verb a b c l (omega (arith, few, words_total text, ap total is)) e
words_typed text (verb ∷ a ∷ b ∷ c ∷ d ∷ more) is few l e = let g : None ≡ Some l = sym (rows_more verb a b c d more) ∙ e in cc

typed_in-typed : (text : List ℕ) (l : Line) → typed_in text ≡ Some l → CanBeTyped l
typed_in-typed text l e = by (is_too_long text) refl e
  where
    by : (b : Bool) → is_too_long text ≡ b → cond b None (read_by grammar (words_in text)) ≡ Some l → CanBeTyped l
    by true long f = let g : None ≡ Some l = f in cc
    by false short f = words_typed text (words_in text) refl (long_enough text short) l f

pub read_is_typed : (text : List ℕ) (l : Line) → line_in text ≡ l → (l ≡ line.Bad) ⊎ CanBeTyped l
unfolding line_in
read_is_typed text l e = by (typed_in text) refl e
  where
    by : (o : Option Line) → typed_in text ≡ o → unwrap_or o line.Bad ≡ l → (l ≡ line.Bad) ⊎ CanBeTyped l
    by None none f = inl (sym f)
    by (Some k) is f = inr (subst CanBeTyped f (typed_in-typed text k is))
