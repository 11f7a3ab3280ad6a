-- What a text is read as can be typed: its operands are in range, and its shortest text is no longer.
use Rattle.std.proofs.Common.{◌≡◌, ℕ, ◌+◌, ◌*◌, ◌≤◌, Bool, true, false, cond, ◌&&◌, ◌==◌, nat_le, List, [], ◌∷◌, ◌++◌, codes, length, Option, Some, None, refl, sym, ◌∙◌, ap, subst, arith, length-append}
use Rattle.std.specs.List.{onto_first}
use Rattle.std.specs.Option.{is_none, option_map}
use Rattle.std.proofs.lemmas.Bool.{and_parts, and_from}
use Rattle.alto_words.specs.declared.wanted.Wanted.{Wanted}
use Rattle.alto_words.specs.declared.wanted.Wanted.TheVariants.{Exact, Newest}
use Rattle.alto_words.specs.Names.{is_bare_name, bare_in, name_in, after_mark}
use Rattle.alto_words.specs.Numbers.{number_in, bytes_in_hex, hex_pairs, hex_byte, hex_digit}
use Rattle.alto_words.specs.Wanted.{wanted_in}
use Rattle.alto_words.proofs.Parsed.{name_in-bare}
use Rattle.alto_words.proofs.Forms.{newest_bare}
use Rattle.exec_words.specs.declared.line.Path.{Path}
use Rattle.exec_words.specs.declared.line.Target.{Target}
use Rattle.exec_words.specs.declared.line.Target.TheVariants.{ByPath, BySerial}
use Rattle.exec_words.specs.Grammar.{is_byte, before, after, both, words_in, within, number_from, at_most, bytes_up_to, path_by, path_in, file_in}
use Rattle.exec_words.specs.Typed.{short_name, wanted_text, path_text, file_text, hex_text, is_typed_wanted, is_typed_path, is_typed_file}
use Rattle.exec_words.proofs.Shortest.{passed, number_shortest, bare_shortest, wanted_shortest}
use Rattle.exec_words.proofs.Operands.{length_hex}
use Rattle.exec_words.proofs.Cutting.{words_after, words_cut}

-- ---- operands: in range, and in no longer text
pub record IsShortest {X : Type 0} (is_typed : X → Bool) (shown : X → List ℕ) (text : List ℕ) (x : X) : Type 0 where
  pub typed : is_typed x ≡ true
  pub short : length (shown x) ≤ length text

pub name_typed : (text name : List ℕ) → bare_in text ≡ Some name → is_bare_name name ≡ true
name_typed text name e = by (after_mark text) refl e
  where
    by : (o : Option (List ℕ)) → after_mark text ≡ o → cond (is_none o) (name_in text) None ≡ Some name → is_bare_name name ≡ true
    by None none f = name_in-bare text name none f
    by (Some after) some f = let g : None ≡ Some name = f in cc

wanted_typed : (text : List ℕ) (wanted : Wanted) → wanted_in text ≡ Some wanted → is_typed_wanted wanted ≡ true
wanted_typed text (Exact name) e = refl
wanted_typed text (Newest base) e = newest_bare text base e

cut_length : (byte : ℕ) (text rest : List ℕ) → after byte text ≡ Some rest → length text ≡ length (before byte text) + 1 + length rest
cut_length byte [] rest e = let f : None ≡ Some rest = e in cc
cut_length byte (c ∷ text) rest e = by (is_byte byte c) e (cut_length byte text rest)
  where
    by : (b : Bool) → cond b (Some text) (after byte text) ≡ Some rest → (after byte text ≡ Some rest → length text ≡ length (before byte text) + 1 + length rest)
        → length (c ∷ text) ≡ length (cond b [] (c ∷ before byte text)) + 1 + length rest
    by true f more = let g : text ≡ rest = cc in omega (arith, ap length g)
    by false f more = omega (arith, more f)

pub path_shortest : (text : List ℕ) (path : Path) → path_in text ≡ Some path → IsShortest is_typed_path path_text text path
path_shortest text path e = by (after 62 text) refl e
  where
    alone : (o : Option Wanted) → wanted_in text ≡ o → option_map (λ wanted. record { dir = None; wanted = wanted }) o ≡ Some path → IsShortest is_typed_path path_text text path
    alone None none f = let g : None ≡ Some path = f in cc
    alone (Some wanted) is f =
        let g : record { dir = None; wanted = wanted } ≡ path = cc in
        subst (IsShortest is_typed_path path_text text) g (record { typed = wanted_typed text wanted is; short = wanted_shortest text wanted is })

    parted : (name : List ℕ) → after 62 text ≡ Some name → (d : Option (List ℕ)) → bare_in (before 62 text) ≡ d → (o : Option Wanted) → wanted_in name ≡ o
        → both (λ dir wanted. record { dir = Some dir; wanted = wanted }) d o ≡ Some path → IsShortest is_typed_path path_text text path
    parted name cut None none o is f = let g : None ≡ Some path = f in cc
    parted name cut (Some dir) front None none f = let g : None ≡ Some path = f in cc
    parted name cut (Some dir) front (Some wanted) is f =
        let g : record { dir = Some dir; wanted = wanted } ≡ path = cc in
        subst (IsShortest is_typed_path path_text text) g (record {
          typed = and_from (is_bare_name dir) (is_typed_wanted wanted) (name_typed (before 62 text) dir front) (wanted_typed name wanted is);
          short = omega (
            arith,
            cut_length 62 text name cut,
            bare_shortest (before 62 text) dir front,
            wanted_shortest name wanted is,
            length-append (short_name dir ++ codes ">") (wanted_text wanted),
            length-append (short_name dir) (codes ">"),
          );
        })

    by : (o : Option (List ℕ)) → after 62 text ≡ o → path_by text o ≡ Some path → IsShortest is_typed_path path_text text path
    by None none f = alone (wanted_in text) refl f
    by (Some name) cut f = parted name cut (bare_in (before 62 text)) refl (wanted_in name) refl f

pub file_shortest : (text : List ℕ) (file : Target) → file_in text ≡ Some file → IsShortest is_typed_file file_text text file
file_shortest [] file e = let f : None ≡ Some file = e in cc
file_shortest (c ∷ text) file e = by (c == 35) (number_in text) refl (path_in (c ∷ text)) refl e
  where
    by : (b : Bool) (o : Option ℕ) → number_in text ≡ o → (p : Option Path) → path_in (c ∷ text) ≡ p → cond b (option_map BySerial o) (option_map ByPath p) ≡ Some file
        → IsShortest is_typed_file file_text (c ∷ text) file
    by true None none p is f = let g : None ≡ Some file = f in cc
    by true (Some serial) some p is f =
        let g : BySerial serial ≡ file = cc in
        subst (IsShortest is_typed_file file_text (c ∷ text)) g (record { typed = refl; short = omega (arith, number_shortest text serial some) })
    by false o some None none f = let g : None ≡ Some file = f in cc
    by false o some (Some path) is f =
        let g : ByPath path ≡ file = cc in
        let s = path_shortest (c ∷ text) path is in
        subst (IsShortest is_typed_file file_text (c ∷ text)) g (record { typed = s.typed; short = s.short })

-- ---- bytes
hex_more : (high low : Option ℕ) (rest : Option (List ℕ)) (bytes : List ℕ) → hex_byte high low rest ≡ Some bytes → (b : ℕ) × (more : List ℕ) × (rest ≡ Some more) × (bytes ≡ b ∷ more)
hex_more None low rest bytes e = let f : None ≡ Some bytes = e in cc
hex_more (Some high) None rest bytes e = let f : None ≡ Some bytes = e in cc
hex_more (Some high) (Some low) None bytes e = let f : None ≡ Some bytes = e in cc
hex_more (Some high) (Some low) (Some more) bytes e = (high * 16 + low, more, refl, cc)

pairs_length : (text bytes : List ℕ) → hex_pairs text ≡ Some bytes → length text ≡ 2 * length bytes
pairs_length [] bytes e = let f : [] ≡ bytes = cc in omega (arith, ap length f)
pairs_length (a ∷ []) bytes e = let f : None ≡ Some bytes = e in cc
pairs_length (a ∷ b ∷ text) bytes e =
    let m = hex_more (hex_digit a) (hex_digit b) (hex_pairs text) bytes e in
    omega (arith, pairs_length text m.1 m.2, ap length m.3)

text_length : (bytes : List ℕ) → length (hex_text bytes) ≤ 2 * length bytes + 1
text_length [] = omega arith
text_length (b ∷ bytes) = omega (arith, length_hex (b ∷ bytes))

some_bytes : (text bytes : List ℕ) → 2 ≤ length text → length text ≡ 2 * length bytes → length (hex_text bytes) ≤ length text
some_bytes text [] two same = absurd (omega (arith, same))
some_bytes text (b ∷ bytes) two same = omega (arith, length_hex (b ∷ bytes), same)

pub hex_shortest : (text bytes : List ℕ) → bytes_in_hex text ≡ Some bytes → length (hex_text bytes) ≤ length text
unfolding bytes_in_hex
hex_shortest [] bytes e = let f : None ≡ Some bytes = e in cc
hex_shortest (a ∷ []) bytes e = let p = passed (a == 45) [] bytes e in subst (λ bs. length (hex_text bs) ≤ 1) p.1 (omega arith)
hex_shortest (a ∷ b ∷ text) bytes e = some_bytes (a ∷ b ∷ text) bytes (omega arith) (pairs_length (a ∷ b ∷ text) bytes e)

pub bytes_few : (most : ℕ) (text bytes : List ℕ) → bytes_up_to most text ≡ Some bytes → (bytes_in_hex text ≡ Some bytes) × (nat_le (length bytes) most ≡ true)
bytes_few most text bytes e = by (bytes_in_hex text) refl e
  where
    by : (o : Option (List ℕ)) → bytes_in_hex text ≡ o → at_most most o ≡ Some bytes → (bytes_in_hex text ≡ Some bytes) × (nat_le (length bytes) most ≡ true)
    by None none f = let g : None ≡ Some bytes = f in cc
    by (Some found) is f =
        let p = passed (nat_le (length found) most) found bytes f in
        (is ∙ ap (λ t. Some t) p.1, ap (λ t. nat_le (length t) most) (sym p.1) ∙ p.0)

pub number_between : (least most : ℕ) (text : List ℕ) (n : ℕ) → number_from least most text ≡ Some n → (nat_le least n ≡ true) × (nat_le n most ≡ true)
number_between least most text n e = by (number_in text) e
  where
    by : (o : Option ℕ) → within least most o ≡ Some n → (nat_le least n ≡ true) × (nat_le n most ≡ true)
    by None f = let g : None ≡ Some n = f in cc
    by (Some m) f =
        let p = passed (nat_le least m && nat_le m most) m n f in
        let b = and_parts (nat_le least m) (nat_le m most) p.0 in
        (ap (nat_le least) (sym p.1) ∙ b.0, ap (λ k. nat_le k most) (sym p.1) ∙ b.1)

-- ---- a text has as many bytes as its words, and one for each space
abbrev pub total : List (List ℕ) → ℕ
total [] = 0
total (word ∷ words) = length word + 1 + total words

pub words_total : (text : List ℕ) → total (words_in text) ≡ length text + 1
words_total [] = refl
words_total (c ∷ text) = by (is_byte 32 c) (words_total text) (words_cut text)
  where
    by : (b : Bool) → total (words_in text) ≡ length text + 1 → words_in text ≡ before 32 text ∷ words_after (after 32 text) → total (cond b ([] ∷ words_in text) (onto_first c (words_in text))) ≡ length (c ∷ text) + 1
    by true same cut = omega (arith, same)
    by false same cut = ap (λ ws. total (onto_first c ws)) cut ∙ omega (arith, ap total cut, same)
