-- Stored names with a mark: the base before it, and the version that is stated after it.
use Rattle.std.proofs.Common.{not, ◌≡◌, ◌≢◌, ℕ, ◌≤◌, Bool, true, false, ◌==◌, List, [], ◌∷◌, ◌++◌, length, take, Option, Some, None, refl, ap, sym, ◌∙◌, arith, append-nil, append_assoc, length-append}
use Rattle.std.specs.Fmt.{decimal}
use Rattle.std.proofs.lemmas.Bool.{cond-true, cond-false, false_from_ne_true}
use Rattle.std.proofs.lemmas.Bool.Decides.{nat_tests}
use Rattle.alto_words.specs.Names.{is_bare_name, is_stored_name, after_mark, IsFirstMark, base_by, base_of, version_of, version_text, version_in, but_last}
use Rattle.alto_words.proofs.Names.{is_bare_name-stem}
use Rattle.std.specs.Option.{is_some, IfSome, IfNone}
use Rattle.alto_words.proofs.Marks.{no_mark, unmarked_after, but_last-push, before_marked, after_marked}
use Rattle.alto_words.proofs.Stems.{version_in-decimal}
use Rattle.alto_words.proofs.Versions.{bare_unmarked, StoredParts, stored_parts, is_stored_name-bare}

pub base_marked : (name : List ℕ) (at : ℕ) → IsFirstMark name at → base_of name ≡ take at name ++ 46 ∷ []
base_marked name at mark = ap (base_by name) (after_marked name at mark) ∙ ap (λ t. t ++ 46 ∷ []) (before_marked name at mark)

-- the base of a stored name is a bare name
pub is_bare_name-base : (name : List ℕ) → is_stored_name name ≡ true → is_bare_name (base_of name) ≡ true
is_bare_name-base name stored =
    let parts = stored_parts name stored in
    ap is_bare_name parts.base ∙ is_bare_name-stem parts.stem ∙ (let c = parts.characters in let l = parts.some in let m = stem_short name parts in grind (arith, nat_tests))
  where
    stem_short : (name : List ℕ) (parts : StoredParts name) → length parts.stem ≤ 38
    stem_short name parts =
        let long = length-append (parts.stem ++ version_text (version_of name)) (46 ∷ []) in
        let both = length-append parts.stem (version_text (version_of name)) in
        omega (arith, long, both, ap length parts.is, parts.fits)

pub is_stored_name-base : (name : List ℕ) → is_stored_name name ≡ true → is_stored_name (base_of name) ≡ true
is_stored_name-base name stored = is_stored_name-bare (base_of name) (is_bare_name-base name stored)

-- a stored name without a mark is bare
pub is_bare_name-unmarked : (name : List ℕ) → is_stored_name name ≡ true → after_mark name ≡ None → is_bare_name name ≡ true
is_bare_name-unmarked name stored none = ap is_bare_name (sym (ap (base_by name) none)) ∙ is_bare_name-base name stored

-- A stored name states its version after its mark.
pub record States (name after : List ℕ) : Type 0 where
  pub is : after ≡ decimal (version_of name) ++ 46 ∷ []
  pub more : version_of name ≢ 1

pub stated_after : (name after : List ℕ) → is_stored_name name ≡ true → after_mark name ≡ Some after → States name after
stated_after name after stored marked =
    let parts = stored_parts name stored in
    let front : after_mark parts.stem ≡ None = no_mark parts.stem parts.characters in
    let all : after_mark (parts.stem ++ version_text (version_of name) ++ (46 ∷ [])) ≡ Some after = ap after_mark (sym parts.is) ∙ marked in
    by (version_of name == 1) refl parts.stem front all
  where
    by : (m : Bool) → (version_of name == 1) ≡ m → (stem : List ℕ) → after_mark stem ≡ None → after_mark (stem ++ version_text (version_of name) ++ (46 ∷ [])) ≡ Some after → States name after
    by true e stem front all =
        let none : version_text (version_of name) ≡ [] = cond-true (version_of name == 1) [] (33 ∷ decimal (version_of name)) e in
        let z = sym (unmarked_after stem (46 ∷ []) front) ∙ ap (λ (t : List ℕ). after_mark (t ++ 46 ∷ [])) (sym (ap (λ v. stem ++ v) none ∙ append-nil stem)) ∙ all in
        absurd cc
    by false e stem front all =
        let some : version_text (version_of name) ≡ 33 ∷ decimal (version_of name) = cond-false (version_of name == 1) [] (33 ∷ decimal (version_of name)) e in
        let z : Some (decimal (version_of name) ++ 46 ∷ []) ≡ Some after =
        sym (unmarked_after stem (33 ∷ (decimal (version_of name) ++ 46 ∷ [])) front)
        ∙ ap after_mark (sym (append_assoc stem (33 ∷ decimal (version_of name)) (46 ∷ [])))
        ∙ ap (λ (v : List ℕ). after_mark (stem ++ v ++ (46 ∷ []))) (sym some) ∙ all in
        record { is = cc; more = λ one. let f : false ≡ true = sym e ∙ ap (λ n. n == 1) one in absurd cc }

pub version_stated : (name after : List ℕ) → is_stored_name name ≡ true → after_mark name ≡ Some after → version_in (but_last after) ≡ Some (version_of name)
version_stated name after stored marked =
    let s = stated_after name after stored marked in
    let parts = stored_parts name stored in
    ap version_in (ap but_last s.is ∙ but_last-push (decimal (version_of name)) 46) ∙ version_in-decimal (version_of name) parts.least parts.most

-- a search for the mark of a stored name tells whether it is bare
pub bare_told : (name : List ℕ) (found : Option ℕ) (bare : Bool) → is_stored_name name ≡ true → IfSome found (λ at. IsFirstMark name at) → IfNone found (after_mark name ≡ None) → is_some found ≡ not bare → bare ≡ is_bare_name name
bare_told name None true stored some none told = sym (is_bare_name-unmarked name stored none)
bare_told name None false stored some none told = absurd cc
bare_told name (Some at) true stored some none told = absurd cc
bare_told name (Some at) false stored some none told = sym (false_from_ne_true (is_bare_name name) (λ bare. let e = sym (after_marked name at some) ∙ bare_unmarked name bare in absurd cc))
