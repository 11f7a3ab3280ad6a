-- What stored names are: bare or numbered, versions of bare names, and what texts stand for.
use Rattle.std.proofs.Common.{◌≡◌, ◌≢◌, ◌↔◌, ◌⊎◌, inl, inr, ℕ, ◌<◌, Bool, true, false, ◌==◌, List, [], ◌∷◌, ◌++◌, length, codes, Option, Some, None, refl, ap, sym, ◌∙◌, arith, append-nil, append_assoc, length-append}
use Rattle.std.specs.Char.{digit_value}
use Rattle.std.specs.Fmt.{decimal}
use Rattle.std.specs.Option.{option_map}
use Rattle.std.specs.Str.Parse.{AllDigits}
use Rattle.std.proofs.lemmas.Bool.{cond-true, cond-false, eq-eqb, eqb-false}
use Rattle.std.proofs.lemmas.Bool.Decides.{nat_tests}
use Rattle.alto_words.specs.declared.wanted.Wanted.TheVariants.{Newest}
use Rattle.alto_words.specs.Names.{is_bare_name, is_stored_name, stored_in, stored_with, name_in, name_by, with_dot, without_dot, last_byte, but_last, after_mark, base_by, base_of, version_by, version_of, version_text, versioned, version_in}
use Rattle.alto_words.specs.Laws.{IsNumbered, IsVersion}
use Rattle.alto_words.specs.Wanted.{wanted_by, wanted_in}
use Rattle.alto_words.proofs.Folding.{are_digits}
use Rattle.alto_words.proofs.Marks.{no_mark, unmarked_after, unmarked_before, but_last-push}
use Rattle.alto_words.proofs.Marked.{is_bare_name-base}
use Rattle.alto_words.proofs.Names.{last_byte-push, stem_of}
use Rattle.alto_words.proofs.Parsed.{name_in-bare}
use Rattle.alto_words.proofs.Stems.{version_in-decimal}
use Rattle.alto_words.proofs.Versions.{StoredParts, stored_parts, base_is, version_is, version_more, unmarked_base, bare_unmarked, is_stored_name-bare, is_stored_name-made}

-- ---- bare names
pub bare_stored : (name : List ℕ) → is_bare_name name ≡ true → (is_stored_name name ≡ true) × (base_of name ≡ name) × (version_of name ≡ 1)
bare_stored name bare = let none = bare_unmarked name bare in (is_stored_name-bare name bare, ap (base_by name) none, ap version_by none)

-- ---- bare and numbered names
numbered_text : (text : List ℕ) (n : ℕ) → n ≢ 1 → text ++ codes "!" ++ decimal n ++ codes "." ≡ text ++ version_text n ++ (46 ∷ [])
numbered_text text n more = ap (λ t. t ++ 46 ∷ []) (append_assoc text (33 ∷ []) (decimal n) ∙ ap (λ v. text ++ v) (sym (version_more n more)))

numbered_stored : (name : List ℕ) → IsNumbered name → is_stored_name name ≡ true
numbered_stored name h =
    let more : h.version ≢ 1 = λ e. omega (arith, h.least) in
    let is = h.is ∙ numbered_text h.text h.version more in
    let long = length-append (h.text ++ version_text h.version) (46 ∷ []) in
    let both = length-append h.text (version_text h.version) in
    ap is_stored_name is
    ∙ is_stored_name-made h.text h.version h.characters h.most (omega (arith, h.least)) h.some (omega (arith, ap length is, long, both, h.fits))

stored_form : (name : List ℕ) → is_stored_name name ≡ true → (is_bare_name name ≡ true) ⊎ IsNumbered name
stored_form name stored = by (stored_parts name stored) (version_of name == 1) refl
  where
    by : StoredParts name → (b : Bool) → (version_of name == 1) ≡ b → (is_bare_name name ≡ true) ⊎ IsNumbered name
    by parts true e =
        let none : version_text (version_of name) ≡ [] = cond-true (version_of name == 1) [] (33 ∷ decimal (version_of name)) e in
        let same : name ≡ base_of name = parts.is ∙ ap (λ v. parts.stem ++ v ++ (46 ∷ [])) none ∙ ap (λ l. l ++ 46 ∷ []) (append-nil parts.stem) ∙ sym parts.base in
        inl (ap is_bare_name same ∙ is_bare_name-base name stored)
    by parts false e =
        let more : version_of name ≢ 1 = eqb-false (version_of name) 1 e in
        inr (record {
          text = parts.stem;
          version = version_of name;
          is = parts.is ∙ sym (numbered_text parts.stem (version_of name) more);
          some = parts.some;
          characters = parts.characters;
          least = omega (arith, parts.least);
          most = parts.most;
          fits = parts.fits;
        })

pub stored_by_form : (name : List ℕ) → (is_stored_name name ≡ true) ↔ ((is_bare_name name ≡ true) ⊎ IsNumbered name)
stored_by_form name = (stored_form name, λ form. elim form [ inl bare ↦ is_stored_name-bare name bare | inr numbered ↦ numbered_stored name numbered ])

-- ---- versions of bare names
version_stored : (name base : List ℕ) (n : ℕ) → IsVersion base n name → (is_stored_name name ≡ true) × (base_of name ≡ base) × (version_of name ≡ n)
version_stored name base n h =
    let s = stem_of base h.bare in
    let none = no_mark s.stem s.characters in
    let is : name ≡ s.stem ++ version_text n ++ (46 ∷ []) = h.is ∙ ap (λ l. l ++ version_text n ++ (46 ∷ [])) (ap but_last s.is ∙ but_last-push s.stem 46) in
    let long = length-append (s.stem ++ version_text n) (46 ∷ []) in
    let both = length-append s.stem (version_text n) in (
      ap is_stored_name is ∙ is_stored_name-made s.stem n s.characters h.most h.least s.least (omega (arith, ap length is, long, both, h.fits)),
      ap base_of is ∙ base_is s.stem n none h.most ∙ sym s.is,
      ap version_of is ∙ version_is s.stem n none h.most,
    )

-- a stored name is put together again from its base and its version
stored_again : (name : List ℕ) (parts : StoredParts name) → name ≡ versioned (base_of name) (version_of name)
stored_again name parts = parts.is ∙ ap (λ s. s ++ version_text (version_of name) ++ (46 ∷ [])) (sym (ap but_last parts.base ∙ but_last-push parts.stem 46))

stored_version : (name base : List ℕ) (n : ℕ) → is_stored_name name ≡ true → base_of name ≡ base → version_of name ≡ n → IsVersion base n name
stored_version name base n stored b v =
    let parts = stored_parts name stored in
    record {
      bare = ap is_bare_name (sym b) ∙ is_bare_name-base name stored;
      least = omega (arith, parts.least, v);
      most = omega (arith, parts.most, v);
      is = stored_again name parts ∙ (λ i. versioned (b i) (v i));
      fits = parts.fits;
    }

pub stored_is_made : (name base : List ℕ) (n : ℕ) → IsVersion base n name ↔ ((is_stored_name name ≡ true) × (base_of name ≡ base) × (version_of name ≡ n))
stored_is_made name base n = (version_stored name base n, λ h. stored_version name base n h.0 h.1 h.2)

-- ---- texts
no_dot : (ds : List ℕ) → AllDigits 10 ds → (last_byte ds == 46) ≡ false
no_dot [] all = refl
no_dot (d ∷ []) all = here d all.0
  where
    here : (d : ℕ) → digit_value d < 10 → (d == 46) ≡ false
    here d digit = grind (arith, nat_tests)
no_dot (d ∷ e ∷ ds) all = no_dot (e ∷ ds) all.1

-- each stored name is what its base, `!` and its version stand for
pub name_in-stated : (name : List ℕ) → is_stored_name name ≡ true → name_in (base_of name ++ codes "!" ++ decimal (version_of name)) ≡ Some name
name_in-stated name stored =
    let parts = stored_parts name stored in
    let base = base_of name in
    let n = version_of name in
    let text : List ℕ = base ++ 33 ∷ decimal n in
    let after = unmarked_after base (33 ∷ decimal n) (unmarked_base name) in
    let before = unmarked_before base (33 ∷ decimal n) (unmarked_base name) ∙ append-nil base in
    let dotted : with_dot base ≡ base = cond-true (last_byte base == 46) base (base ++ 46 ∷ []) (eq-eqb (last_byte base) 46 (ap last_byte parts.base ∙ last_byte-push parts.stem 46)) in
    let most = parts.most in
    let digits : without_dot (decimal n) ≡ decimal n = cond-false (last_byte (decimal n) == 46) (but_last (decimal n)) (decimal n) (no_dot (decimal n) (are_digits n (omega arith))) in
    ap name_in (append_assoc base (33 ∷ []) (decimal n))
    ∙ ap (name_by text) after
    ∙ (λ i. stored_with ((ap with_dot before ∙ dotted) i) ((ap version_in digits ∙ version_in-decimal n parts.least parts.most) i))
    ∙ ap stored_in (sym (stored_again name parts))
    ∙ cond-true (is_stored_name name) (Some name) None stored

pub newest_bare : (text base : List ℕ) → wanted_in text ≡ Some (Newest base) → is_bare_name base ≡ true
newest_bare text base is = by (after_mark text) refl (name_in text) refl is
  where
    by : (o : Option (List ℕ)) → after_mark text ≡ o → (name : Option (List ℕ)) → name_in text ≡ name → option_map (wanted_by o) name ≡ Some (Newest base) → is_bare_name base ≡ true
    by None e (Some name) f w = let same : name ≡ base = cc in ap is_bare_name (sym same) ∙ name_in-bare text name e f
    by None e None f w = absurd cc
    by (Some after) e None f w = absurd cc
    by (Some after) e (Some name) f w = absurd cc
