-- What is read of a text, and of the bytes of a name.
use Rattle.std.proofs.Common.{◌≡◌, ◌≢◌, ℕ, ◌+◌, ◌-◌, Bool, cond, true, false, ◌==◌, List, [], ◌∷◌, ◌++◌, length, take, drop, Option, Some, None, refl, ap, sym, ◌∙◌, append_assoc}
use Rattle.std.specs.Fmt.{decimal}
use Rattle.std.proofs.lemmas.Bool.{cond-false, false_from_ne_true}
use Rattle.alto_words.specs.Names.{is_bare_name, is_stored_name, stored_in, stored_with, name_in, name_by, with_dot, before_mark, after_mark, IsFirstMark, version_of, version_text, versioned, version_in, last_byte, but_last, without_dot}
use Rattle.alto_words.proofs.Marks.{unmarked_after, but_last-push, before_marked, after_marked, after_here, split_marked, rest_is}
use Rattle.alto_words.proofs.Stems.{stated_digits}
use Rattle.alto_words.proofs.Versions.{version_more, stored_parts}
use Rattle.alto_words.specs.Names.{bare_in}
use Rattle.alto_words.specs.Wanted.{wanted_by, wanted_in}
use Rattle.std.specs.Option.{option_map, is_none, IfSome}
use Rattle.alto_words.proofs.Marked.{is_bare_name-unmarked, version_stated}

-- a text with a mark stands for its base, with the version that is stated after the mark
pub name_in-marked : (text : List ℕ) (at : ℕ) (version : Option ℕ) → IsFirstMark text at → version_in (without_dot (take (length text - (at + 1)) (drop (at + 1) text))) ≡ version
    → name_in text ≡ stored_with (with_dot (take at text)) version
name_in-marked text at version mark is = ap (name_by text) (after_here text at mark) ∙ (λ i. stored_with (with_dot (before_marked text at mark i)) (is i))

pub stored_with-stem : (text stem : List ℕ) (n : ℕ) → with_dot text ≡ stem ++ 46 ∷ [] → stored_with (with_dot text) (Some n) ≡ stored_in (stem ++ version_text n ++ (46 ∷ []))
stored_with-stem text stem n is = ap (λ base. stored_in (versioned base n)) is ∙ ap (λ s. stored_in (s ++ version_text n ++ (46 ∷ []))) (but_last-push stem 46)

pub not_stored : (bytes : List ℕ) → (is_stored_name bytes ≡ true → ⊥) → None ≡ stored_in bytes
not_stored bytes fails = sym (cond-false (is_stored_name bytes) (Some bytes) None (false_from_ne_true _ fails))

-- a stored name ends with a `.`
pub stored_ends : (bytes : List ℕ) → is_stored_name bytes ≡ true → (front : List ℕ) × (bytes ≡ front ++ 46 ∷ [])
stored_ends bytes stored = let parts = stored_parts bytes stored in (parts.stem ++ version_text (version_of bytes), parts.is)

-- the digits between its mark and that `.` state its version
pub digits_stated : (bytes after digits : List ℕ) → is_stored_name bytes ≡ true → after_mark bytes ≡ Some after → after ≡ digits ++ 46 ∷ [] → version_in digits ≡ Some (version_of bytes)
digits_stated bytes after digits stored marked is = ap version_in (sym (ap but_last is ∙ but_last-push digits 46)) ∙ version_stated bytes after stored marked

-- bytes with a mark and such digits, put together again
pub bytes_marked : (bytes digits : List ℕ) (at n : ℕ) → IsFirstMark bytes at → take (length bytes - (at + 1)) (drop (at + 1) bytes) ≡ digits ++ 46 ∷ [] → version_in digits ≡ Some n → n ≢ 1
    → take at bytes ++ version_text n ++ (46 ∷ []) ≡ bytes
bytes_marked bytes digits at n mark is stated more =
    ap (λ v. take at bytes ++ v ++ (46 ∷ [])) (version_more n more)
    ∙ append_assoc (take at bytes) (33 ∷ decimal n) (46 ∷ [])
    ∙ ap (λ ds. take at bytes ++ 33 ∷ (ds ++ 46 ∷ [])) (sym (stated_digits digits n stated))
    ∙ ap (λ rest. take at bytes ++ 33 ∷ rest) (sym is ∙ rest_is (at + 1) bytes)
    ∙ sym (split_marked bytes at mark.within mark.here)

-- ---- what kind of name is read
-- what is stored as bytes is a stored name, and these bytes
stored_is : (bytes name : List ℕ) → stored_in bytes ≡ Some name → (is_stored_name bytes ≡ true) × (bytes ≡ name)
stored_is bytes name is = by (is_stored_name bytes) refl is
  where
    by : (b : Bool) → is_stored_name bytes ≡ b → cond b (Some bytes) None ≡ Some name → (is_stored_name bytes ≡ true) × (bytes ≡ name)
    by true e s = (e, cc)
    by false e s = absurd cc

stored_read : (bytes name : List ℕ) → stored_in bytes ≡ Some name → is_stored_name name ≡ true
stored_read bytes name is = let s = stored_is bytes name is in ap is_stored_name (sym s.1) ∙ s.0

pub name_in-stored : (text name : List ℕ) → name_in text ≡ Some name → is_stored_name name ≡ true
name_in-stored text name is = by (after_mark text) is
  where
    stated : (base : List ℕ) (version : Option ℕ) → stored_with base version ≡ Some name → is_stored_name name ≡ true
    stated base None e = absurd cc
    stated base (Some n) e = stored_read (versioned base n) name e

    by : (o : Option (List ℕ)) → name_by text o ≡ Some name → is_stored_name name ≡ true
    by None e = stored_read (with_dot text) name e
    by (Some after) e = stated (with_dot (before_mark text)) (version_in (without_dot after)) e

-- a text without a mark stands for a bare name
unmarked_with : (text : List ℕ) → after_mark text ≡ None → after_mark (with_dot text) ≡ None
unmarked_with text none = by (last_byte text == 46)
  where
    by : (b : Bool) → after_mark (cond b text (text ++ 46 ∷ [])) ≡ None
    by true = none
    by false = unmarked_after text (46 ∷ []) none

pub name_in-bare : (text name : List ℕ) → after_mark text ≡ None → name_in text ≡ Some name → is_bare_name name ≡ true
name_in-bare text name none is =
    let s = stored_is (with_dot text) name (sym (ap (name_by text) none) ∙ is) in
    ap is_bare_name (sym s.1) ∙ is_bare_name-unmarked (with_dot text) s.0 (unmarked_with text none)

pub bare_read : (text : List ℕ) (name : Option (List ℕ)) → after_mark text ≡ None → name ≡ name_in text → IfSome name (λ name. is_bare_name name ≡ true)
bare_read text None none is = tt
bare_read text (Some name) none is = name_in-bare text name none (sym is)

pub bare_in-marked : (text : List ℕ) (at : ℕ) → IsFirstMark text at → None ≡ bare_in text
bare_in-marked text at mark = sym (ap (λ o. cond (is_none o) (name_in text) None) (after_marked text at mark))

pub wanted_is : (text name : List ℕ) (after : Option (List ℕ)) → after_mark text ≡ after → Some name ≡ name_in text → Some (wanted_by after name) ≡ wanted_in text
wanted_is text name after e is = λ i. option_map (wanted_by (sym e i)) (is i)
