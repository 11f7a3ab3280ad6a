-- Names in their shortest texts are read back.
use Rattle.std.proofs.Common.{◌≡◌, ℕ, ◌≤◌, Bool, true, false, cond, ◌==◌, List, [], ◌∷◌, ◌++◌, codes, decimal, length, Some, None, refl, sym, ◌∙◌, ap, subst, arith, append_assoc, append-nil, length-append}
use Rattle.std.specs.List.{list_all}
use Rattle.std.specs.Option.{is_none, option_map}
use Rattle.std.proofs.lemmas.Bool.{and_from, cond-true, cond-false, eq-eqb}
use Rattle.std.proofs.lemmas.List.Folds.{list_all-append}
use Rattle.std.proofs.lemmas.Fmt.{length-decimal-le}
use Rattle.alto_words.specs.declared.wanted.Wanted.{Wanted}
use Rattle.alto_words.specs.declared.wanted.Wanted.TheVariants.{Exact, Newest}
use Rattle.alto_words.specs.Names.{is_name_character, is_bare_name, is_stored_name, stored_in, name_in, name_by, stored_with, bare_in, with_dot, without_dot, after_mark, version_in, last_byte, base_of, version_of}
use Rattle.alto_words.specs.Wanted.{wanted_in, wanted_by}
use Rattle.alto_words.proofs.Names.{stem_of, last_byte-push}
use Rattle.alto_words.proofs.Marks.{no_mark, but_last-push, unmarked_after, unmarked_before, characters-digits}
use Rattle.alto_words.proofs.Marked.{is_bare_name-base}
use Rattle.alto_words.proofs.Folding.{are_digits}
use Rattle.alto_words.proofs.Versions.{stored_parts}
use Rattle.alto_words.proofs.Forms.{bare_stored, name_in-stated}
use Rattle.exec_words.specs.Typed.{short_name, wanted_text, is_typed_wanted}
use Rattle.exec_words.specs.Laws.{IsWanted}
use Rattle.exec_words.proofs.Plain.{Lacks, characters_lack, lacks_both}

-- ---- a bare name without its final `.`, where that can be left out
pub record IsShort (name text : List ℕ) : Type 0 where
  pub dotted : with_dot text ≡ name
  pub characters : list_all is_name_character text ≡ true
  pub fits : length text ≤ 39

short_stem : (stem : List ℕ) → length stem ≤ 38 → list_all is_name_character stem ≡ true → IsShort (stem ++ 46 ∷ []) (short_name (stem ++ 46 ∷ []))
short_stem stem most characters =
    subst (λ t. IsShort (stem ++ 46 ∷ []) (cond (last_byte t == 46) (stem ++ 46 ∷ []) t)) (sym (but_last-push stem 46)) (by (last_byte stem == 46) refl)
  where
    by : (b : Bool) → (last_byte stem == 46) ≡ b → IsShort (stem ++ 46 ∷ []) (cond b (stem ++ 46 ∷ []) stem)
    by true e = record {
      dotted = cond-true (last_byte (stem ++ 46 ∷ []) == 46) (stem ++ 46 ∷ []) ((stem ++ 46 ∷ []) ++ 46 ∷ []) (eq-eqb (last_byte (stem ++ 46 ∷ [])) 46 (last_byte-push stem 46));
      characters = list_all-append is_name_character stem (46 ∷ []) ∙ and_from (list_all is_name_character stem) true characters refl;
      fits = omega (arith, length-append stem (46 ∷ []));
    }
    by false e = record {
      dotted = cond-false (last_byte stem == 46) stem (stem ++ 46 ∷ []) e;
      characters = characters;
      fits = omega arith;
    }

pub short_is : (name : List ℕ) → is_bare_name name ≡ true → IsShort name (short_name name)
short_is name bare =
    let s = stem_of name bare in
    subst (λ n. IsShort n (short_name n)) (sym s.is) (short_stem s.stem s.most s.characters)

-- it is read as the name
name_read : (name text : List ℕ) → is_bare_name name ≡ true → IsShort name text → name_in text ≡ Some name
name_read name text bare short =
    ap (name_by text) (no_mark text short.characters) ∙ ap stored_in short.dotted ∙ cond-true (is_stored_name name) (Some name) None (bare_stored name bare).0

pub bare_read : (name : List ℕ) → is_bare_name name ≡ true → bare_in (short_name name) ≡ Some name
bare_read name bare =
    let short = short_is name bare in
    ap (λ o. cond (is_none o) (name_in (short_name name)) None) (no_mark (short_name name) short.characters) ∙ name_read name (short_name name) bare short

newest_read : (name : List ℕ) → is_bare_name name ≡ true → wanted_in (short_name name) ≡ Some (Newest name)
newest_read name bare =
    let short = short_is name bare in
    ap (λ o. option_map (wanted_by o) (name_in (short_name name))) (no_mark (short_name name) short.characters)
    ∙ ap (option_map (wanted_by None)) (name_read name (short_name name) bare short)

-- ---- a name that states its version
-- two texts before the mark are one, where they are with a final `.`
stated : (text digits : List ℕ) → after_mark text ≡ None → name_in (text ++ codes "!" ++ digits) ≡ stored_with (with_dot text) (version_in (without_dot digits))
stated text digits none =
    ap name_in (append_assoc text (33 ∷ []) digits)
    ∙ ap (name_by (text ++ 33 ∷ digits)) (unmarked_after text (33 ∷ digits) none)
    ∙ ap (λ t. stored_with (with_dot t) (version_in (without_dot digits))) (unmarked_before text (33 ∷ digits) none ∙ append-nil text)

exact_read : (name : List ℕ) → is_stored_name name ≡ true → wanted_in (short_name (base_of name) ++ codes "!" ++ decimal (version_of name)) ≡ Some (Exact name)
exact_read name stored =
    let base = base_of name in
    let digits = decimal (version_of name) in
    let bare = is_bare_name-base name stored in
    let short = short_is base bare in
    let text = short_name base in
    let s = stem_of base bare in
    let characters : list_all is_name_character base ≡ true = ap (list_all is_name_character) s.is ∙ list_all-append is_name_character s.stem (46 ∷ []) ∙ and_from (list_all is_name_character s.stem) true s.characters refl in
    let dotted : with_dot base ≡ base = cond-true (last_byte base == 46) base (base ++ 46 ∷ []) (eq-eqb (last_byte base) 46 (ap last_byte s.is ∙ last_byte-push s.stem 46)) in
    let name_is : name_in (text ++ codes "!" ++ digits) ≡ Some name =
    stated text digits (no_mark text short.characters)
    ∙ ap (λ t. stored_with t (version_in (without_dot digits))) (short.dotted ∙ sym dotted)
    ∙ sym (stated base digits (no_mark base characters))
    ∙ name_in-stated name stored in
    let mark : after_mark (text ++ codes "!" ++ digits) ≡ Some digits = ap after_mark (append_assoc text (33 ∷ []) digits) ∙ unmarked_after text (33 ∷ digits) (no_mark text short.characters) in
    ap (λ o. option_map (wanted_by o) (name_in (text ++ codes "!" ++ digits))) mark ∙ ap (option_map (wanted_by (Some digits))) name_is

-- ---- what is wanted
-- its text lacks all bytes but name characters and `!`
pub record IsWantedText (wanted : Wanted) (text : List ℕ) : Type 0 where
  pub reads : wanted_in text ≡ Some wanted
  pub lacks : (byte : ℕ) → is_name_character byte ≡ false → Lacks byte (codes "!") → Lacks byte text
  pub fits : length text ≤ 45

pub wanted_read : (wanted : Wanted) → IsWanted wanted → is_typed_wanted wanted ≡ true → IsWantedText wanted (wanted_text wanted)
wanted_read (Newest base) is typed =
    let short = short_is base typed in
    record {
      reads = newest_read base typed;
      lacks = λ byte none mark. characters_lack byte (short_name base) none short.characters;
      fits = omega (arith, short.fits);
    }
wanted_read (Exact name) is typed =
    let short = short_is (base_of name) (is_bare_name-base name is) in
    let text = short_name (base_of name) in
    let n = version_of name in
    let most = (stored_parts name is).most in
    let few = length-decimal-le 5 n (omega arith) (omega (arith, most)) (omega (arith, most)) in
    record {
      reads = exact_read name is;
      lacks = λ byte none mark.
          lacks_both byte (text ++ codes "!") (decimal n) (lacks_both byte text (codes "!") (characters_lack byte text none short.characters) mark)
          (characters_lack byte (decimal n) none (characters-digits 10 (decimal n) (omega arith) (are_digits n (omega (arith, most)))));
      fits = omega (arith, length-append (text ++ codes "!") (decimal n), length-append text (codes "!"), few, short.fits);
    }
