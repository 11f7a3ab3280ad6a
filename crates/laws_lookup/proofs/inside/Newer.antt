-- The name that a new entry gets is one that no entry has.
use Rattle.std.proofs.Common.{Bool, List, None, Option, Some, [], ap, arith, cond, false, inl, inr, length, ltb-true, nat_le, nat_lt, refl, subst, suc, sym, take, true, zero, ℕ, ◌&&◌, ◌+◌, ◌-◌, ◌<◌, ◌==◌, ◌∙◌, ◌∷◌, ◌≡◌, ◌≤◌}
use Rattle.std.proofs.lemmas.Bool.{cases_lt, leb-true, lt-ltb}
use Rattle.std.specs.List.{list_all}
use Rattle.std.specs.Prelude.{is_none}
use Rattle.laws_operation.specs.alto_words.proofs.Forms.{stored_is_made}
use Rattle.laws_operation.specs.alto_words.proofs.Ordered.{same_parts}
use Rattle.laws_operation.specs.alto_words.specs.Names.{base_of, is_same_name, is_stored_name, most_version, version_of, versioned}
use Rattle.laws_operation.specs.alto_words.specs.declared.fid.Fid.{Fid}
use Rattle.laws_operation.specs.alto_words.specs.declared.wanted.Wanted.TheVariants.{Exact, Newest}
use Rattle.laws_operation.specs.disk_records.specs.Words.{word}
use Rattle.laws_operation.specs.pack_model.specs.hints.Links.{dir_words}
use Rattle.laws_operation.specs.pack_model.specs.reading.Slots.{Item, and_then, first_length, is_entry, item_words, slot_at, slot_fid, slot_name, slot_of, slots_after}
use Rattle.laws_operation.specs.pack_model.specs.reading.Slots.Item.{entry, space}
use Rattle.laws_operation.specs.pack_model.specs.reading.Versions.{Entered, exact, greatest_version, has_base, newest_from, version_found}
use Rattle.laws_operation.specs.laws_record.proofs.Heads.{and_left, and_right}
use Rattle.laws_operation.proofs.entries.Laws.{items_are_slots}
use Rattle.laws_lookup.specs.NewNameLaws.{NewNameIsAbsent, NewNameIsAbsentInTheModel, SlotsHaveStoredNames, has_stored_name}

-- ---- slots have stored names
entry_stored : (words : List ℕ) → is_entry words ≡ true → is_stored_name (slot_name words) ≡ true
unfolding is_entry
entry_stored words e = and_right _ (is_stored_name (slot_name words)) (and_left _ _ (and_left _ _ (and_left _ _ e)))

of_stored : (words : List ℕ) (i : Item) → slot_of words ≡ Some i → has_stored_name i ≡ true
of_stored words i e = by (word words 0 == length words) (is_entry words) refl e
  where
    by : (s t : Bool) → is_entry words ≡ t → cond s (Some (space (length words))) (cond t (Some (entry (slot_fid words) (slot_name words))) None) ≡ Some i → has_stored_name i ≡ true
    by true t is e = let one : space (length words) ≡ i = cc in ap has_stored_name (sym one)
    by false true is e = let one : entry (slot_fid words) (slot_name words) ≡ i = cc in ap has_stored_name (sym one) ∙ entry_stored words is
    by false false is e = absurd cc

at_stored : (words : List ℕ) (i : Item) → slot_at words ≡ Some i → has_stored_name i ≡ true
unfolding slot_at
at_stored words i e = by (nat_le 1 (first_length words) && nat_le (first_length words) (length words)) e
  where
    by : (b : Bool) → cond b (slot_of (take (first_length words) words)) None ≡ Some i → has_stored_name i ≡ true
    by true is = of_stored (take (first_length words) words) i is
    by false is = absurd cc

all_stored : (k : ℕ) (words : List ℕ) → list_all has_stored_name (slots_after k words) ≡ true
unfolding slots_after
all_stored k [] = refl
all_stored (suc k) (w ∷ words) = all_stored k words
all_stored zero (w ∷ words) = by (slot_at (w ∷ words)) refl (λ k. all_stored k words)
  where
    by : (r : Option Item) → slot_at (w ∷ words) ≡ r → ((k : ℕ) → list_all has_stored_name (slots_after k words) ≡ true) → list_all has_stored_name (and_then r (λ n. slots_after (n - 1) words)) ≡ true
    by None e more = refl
    by (Some i) e more = (λ j. at_stored (w ∷ words) i e j && more (item_words i - 1) j)

pub slots_have_stored_names : SlotsHaveStoredNames
slots_have_stored_names words = all_stored 0 words

-- ---- the greatest version
-- doesn't fall
never_less : (base : List ℕ) (best : Option Entered) (is : List Item) → version_found best ≤ version_found (newest_from base best is)
never_less base best [] = omega arith
never_less base best (space n ∷ is) = never_less base best is
never_less base best (entry f own ∷ is) = by (has_base base own && nat_lt (version_found best) (version_of own)) refl (λ b. never_less base b is)
  where
    by : (b : Bool) → (has_base base own && nat_lt (version_found best) (version_of own)) ≡ b → ((b : Option Entered) → version_found b ≤ version_found (newest_from base b is)) → version_found best ≤ version_found (newest_from base (cond b (Some (f, own)) best) is)
    by true e more =
        let less = ltb-true (version_found best) (version_of own) (and_right (has_base base own) (nat_lt (version_found best) (version_of own)) e) in
        let rest = more (Some (f, own)) in
        omega arith
    by false e more = more best

-- it is that of each entry of the base at least
at_least : (base : List ℕ) (best : Option Entered) (f : Fid) (own : List ℕ) → has_base base own ≡ true → version_of own ≤ version_found (cond (has_base base own && nat_lt (version_found best) (version_of own)) (Some (f, own)) best)
at_least base best f own has = by (nat_lt (version_found best) (version_of own)) refl
  where
    by : (b : Bool) → nat_lt (version_found best) (version_of own) ≡ b → version_of own ≤ version_found (cond (has_base base own && nat_lt (version_found best) (version_of own)) (Some (f, own)) best)
    by true e = let now : (has_base base own && nat_lt (version_found best) (version_of own)) ≡ true = (λ j. has j && e j) in subst (λ c. version_of own ≤ version_found (cond c (Some (f, own)) best)) (sym now) (omega arith)
    by false e =
        let now : (has_base base own && nat_lt (version_found best) (version_of own)) ≡ false = (λ j. has j && e j) in
        let least : version_of own ≤ version_found best = elim (cases_lt (version_found best) (version_of own)) [ inl less ↦ (let clash : true ≡ false = sym (lt-ltb (version_found best) (version_of own) less) ∙ e in absurd cc) | inr more ↦ more ] in
        subst (λ c. version_of own ≤ version_found (cond c (Some (f, own)) best)) (sym now) least

-- ---- a greater one isn't there
none_newer : (base name : List ℕ) → is_stored_name name ≡ true → base_of name ≡ base → (best : Option Entered) (is : List Item) → list_all has_stored_name is ≡ true → version_found (newest_from base best is) < version_of name → exact name is ≡ None
none_newer base name stored of best [] all less = refl
none_newer base name stored of best (space n ∷ is) all less = none_newer base name stored of best is all less
none_newer base name stored of best (entry f own ∷ is) all less =
    by (is_same_name own name) refl (none_newer base name stored of (cond (has_base base own && nat_lt (version_found best) (version_of own)) (Some (f, own)) best) is (and_right (is_stored_name own) (list_all has_stored_name is) all) less)
  where
    by : (b : Bool) → is_same_name own name ≡ b → exact name is ≡ None → cond b (Some (f, own)) (exact name is) ≡ None
    by false e rest = rest
    by true e rest =
        let parts = (same_parts own name (and_left (is_stored_name own) (list_all has_stored_name is) all) stored).0 e in
        let has : has_base base own ≡ true = ap (is_same_name (base_of own)) (sym of) ∙ parts.0 in
        let version : version_of own ≡ version_of name = parts.1 in
        let least = at_least base best f own has in
        let more = never_less base (cond (has_base base own && nat_lt (version_found best) (version_of own)) (Some (f, own)) best) is in
        absurd (omega (arith, version, least, more, less))

-- ---- the laws
pub new_name_is_absent : NewNameIsAbsent
new_name_is_absent (Exact own) is name all can e = by (exact own is) refl e
  where
    by : (r : Option Entered) → exact own is ≡ r → cond (is_none r) (Some own) None ≡ Some name → (exact name is ≡ None) × (is_stored_name name ≡ true)
    by (Some x) there e = absurd cc
    by None there e = let one : own ≡ name = cc in (ap (λ n. exact n is) (sym one) ∙ there, ap is_stored_name (sym one) ∙ can)
new_name_is_absent (Newest base) is name all can e = by (nat_lt (greatest_version base is) most_version) refl (nat_le (length (versioned base (greatest_version base is + 1))) 39) refl e
  where
    by : (s : Bool) → nat_lt (greatest_version base is) most_version ≡ s → (t : Bool) → nat_le (length (versioned base (greatest_version base is + 1))) 39 ≡ t → cond s (cond t (Some (versioned base (greatest_version base is + 1))) None) None ≡ Some name → (exact name is ≡ None) × (is_stored_name name ≡ true)
    by false x t y e = absurd cc
    by true x false y e = absurd cc
    by true x true y e =
        let one : versioned base (greatest_version base is + 1) ≡ name = cc in
        let less = ltb-true (greatest_version base is) most_version x in
        let short = leb-true (length (versioned base (greatest_version base is + 1))) 39 y in
        let made = (stored_is_made name base (greatest_version base is + 1)).0 (record { bare = can; least = omega arith; most = omega arith; is = sym one; fits = subst (λ n. length n ≤ 39) one short }) in
        let version : version_of name ≡ greatest_version base is + 1 = made.2 in
        (none_newer base name made.0 made.1 None is all (omega (arith, version)), made.0)

pub new_name_is_absent_in_the_model : NewNameIsAbsentInTheModel
new_name_is_absent_in_the_model p d w name t live dir can e =
    new_name_is_absent w _ name (ap (list_all has_stored_name) (items_are_slots p d t live dir) ∙ slots_have_stored_names (dir_words p d)) can e
