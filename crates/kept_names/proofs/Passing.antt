-- Suffixes that are known to be taken, while names are given.
use Rattle.std.proofs.Common.{◌≡◌, ℕ, zero, suc, ◌+◌, ◌-◌, ◌^◌, ◌<◌, ◌≤◌, Bool, true, false, cond, List, [], Some, None, refl, sym, ap, subst, ◌∙◌, inl, inr, arith, add-one}
use Rattle.std.specs.Prelude.{◌&&◌, ◌||◌, unwrap_or}
use Rattle.std.specs.Ordering.{is_eq}
use Rattle.std.specs.List.{list_any}
use Rattle.std.specs.BTreeMap.{get, is_at}
use Rattle.std.specs.Map.{lookup}
use Rattle.std.specs.FinMap as finite
use Rattle.std.specs.FinMap.{FinMap, find, entries, entries-insert, get-entries, insert, contains_key}
use Rattle.std.proofs.lemmas.Bool.{and_parts}
use Rattle.std.proofs.lemmas.Bool.Decides.{leb_tells}
use Rattle.alto_words.specs.declared.fid.Fid.{Fid}
use Rattle.alto_words.specs.Fid.{fid_cmp, is_fid, sys_dir}
use Rattle.alto_words.specs.Names.{is_same_name, suffixed}
use Rattle.alto_words.proofs.Alike.{same_later, same_numbers}
use Rattle.pack_model.specs.reading.Namings.{sys_dir_name, descriptor_name}
use Rattle.pack_model.specs.showing.View.{Home, Seen}
use Rattle.pack_model.specs.showing.Settling.{is_taken, choice, given, adopted, chosen}
use Rattle.pack_laws.proofs.Keys.{fid_total}
use Rattle.pack_laws.proofs.Inserting.{list_any-put}
use Rattle.kept_names.specs.declared.names.QualifiedName.{QualifiedName}
use Rattle.kept_names.specs.declared.passed.Passed.{Passed}
use Rattle.kept_names.specs.Homes.{qualified_cmp}
use Rattle.kept_names.specs.Passed.{suffix_in_root, passed_of, AreTaken, IsPassed}
use Rattle.kept_names.proofs.Choices.{Choosing, choosing_none, choosing_here, choosing_next, choosing_end, chosen_is}
use Rattle.kept_names.proofs.Tests.{none_of, tie_qualified, same_congr}

-- ---- what is taken
taken_same : (homes : FinMap fid_cmp Home) (a b : List ℕ) → is_same_name a b ≡ true → is_taken homes a ≡ is_taken homes b
taken_same homes a b same =
    λ i. same_congr a b sys_dir_name same i || same_congr a b descriptor_name same i
    || list_any (λ (e : Fid × Home). is_fid e.1.dir sys_dir && same_congr a b e.1.name same i) (entries homes)

or_more : (a b c d : Bool) → (a || b || c) ≡ true → (a || b || (d || c)) ≡ true
or_more true b c d e = refl
or_more false true c d e = refl
or_more false false c true e = refl
or_more false false c false e = e

-- a name stays taken once a file more is named
taken_stays : (homes : FinMap fid_cmp Home) (f : Fid) (h : Home) (name : List ℕ) → finite.get homes f ≡ None → is_taken homes name ≡ true → is_taken (insert homes f h) name ≡ true
taken_stays homes f h name none taken =
    let test : Fid × Home → Bool = λ e. is_fid e.1.dir sys_dir && is_same_name name e.1.name in
    let absent : find fid_cmp f (entries homes) ≡ None = sym (get-entries homes f) ∙ none in
    ap (λ b. is_same_name name sys_dir_name || is_same_name name descriptor_name || b) (ap (list_any test) (entries-insert fid_total homes f h) ∙ list_any-put fid_cmp test f h (entries homes) absent)
    ∙ or_more (is_same_name name sys_dir_name) (is_same_name name descriptor_name) (list_any test (entries homes)) (test (f, h)) taken

-- ---- what is known to be taken
pub none_passed : (homes : FinMap fid_cmp Home) (passed : Passed) → passed.counts.entries ≡ [] → IsPassed homes passed
none_passed homes passed none name first few k from less =
    let zeroth : passed_of passed name first ≡ 0 = ap (λ es. unwrap_or (lookup (is_at (qualified_cmp (suffix_in_root name first))) es) 0) none in
    absurd (omega (arith, less, zeroth))

-- it stays so when a file gets a name
pub passed_adopted : (homes : FinMap fid_cmp Home) (passed : Passed) (e : Fid × Seen) → IsPassed homes passed → IsPassed (adopted homes e) passed
passed_adopted homes passed e is = elim (contains_key homes e.0) as (λ b. contains_key homes e.0 ≡ b → IsPassed (cond b homes (given homes e.0 e.1)) passed) [
  | true ↦ λ _. is
  | false ↦ λ absent. λ name first few k from less. taken_stays homes e.0 _ (suffixed name k) (none_of (finite.get homes e.0) absent) (is name first few k from less)
] refl

-- and with a new count
pub passed_kept : (homes : FinMap fid_cmp Home) (old new : Passed) (name : List ℕ) (first count : ℕ) → IsPassed homes old → first ≤ 65535 → count < 2 ^ 32 → AreTaken homes name first (first + count)
    → ((q : QualifiedName) → get qualified_cmp new.counts q ≡ cond (is_eq (qualified_cmp (suffix_in_root name first) q)) (Some count) (get qualified_cmp old.counts q)) → IsPassed homes new
passed_kept homes old new name first count is most fits taken updates other start few k from less = by (is_eq (qualified_cmp (suffix_in_root name first) (suffix_in_root other start))) refl
  where
    by : (b : Bool) → is_eq (qualified_cmp (suffix_in_root name first) (suffix_in_root other start)) ≡ b → is_taken homes (suffixed other k) ≡ true
    by true tie =
        let counted : passed_of new other start ≡ count = ap (λ o. unwrap_or o 0) (updates (suffix_in_root other start)) ∙ ap (λ b. unwrap_or (cond b (Some count) (get qualified_cmp old.counts (suffix_in_root other start))) 0) tie in
        let same = (and_parts (is_fid sys_dir sys_dir) (is_same_name (suffixed name first) (suffixed other start)) (sym (tie_qualified (suffix_in_root name first) (suffix_in_root other start)) ∙ tie)).1 in
        let one : first ≡ start = same_numbers name other first start (omega arith) (omega arith) same in
        let at_one = subst (λ n. is_same_name (suffixed name n) (suffixed other start) ≡ true) one same in
        sym (taken_same homes (suffixed name k) (suffixed other k) (same_later name other start k from (omega (arith, less, counted)) at_one)) ∙ taken k (omega (arith, from, one)) (omega (arith, less, counted, one))
    by false apart =
        let counted : passed_of new other start ≡ passed_of old other start =
        ap (λ o. unwrap_or o 0) (updates (suffix_in_root other start)) ∙ ap (λ b. unwrap_or (cond b (Some count) (get qualified_cmp old.counts (suffix_in_root other start))) 0) apart in
        is other start few k from (omega (arith, less, counted))

-- ---- suffixes that are taken, one after another
-- more of them, after those
pub taken_on : (homes : FinMap fid_cmp Home) (name : List ℕ) (first next end : ℕ) → AreTaken homes name first next → AreTaken homes name next end → AreTaken homes name first end
taken_on homes name first next end before behind k from less = elim (leb_tells next k) as (λ _. is_taken homes (suffixed name k) ≡ true) [
  | inl later ↦ behind k later.1 less
  | inr sooner ↦ before k from sooner.1
]

-- the same by their number
pub taken_by_count : (homes : FinMap fid_cmp Home) (name : List ℕ) (first end : ℕ) → AreTaken homes name first end → AreTaken homes name first (first + (end - first))
taken_by_count homes name first end taken k from less = taken k from (omega (arith, from, less))

-- ---- the choice after them
-- so many choices are taken
choosing_taken : (taken : List ℕ → Bool) (name : List ℕ) (all k : ℕ) → k ≤ all → ((j : ℕ) → j < k → taken (choice name j) ≡ true) → Choosing taken name all k
choosing_taken taken name all zero within each = choosing_none taken name all
choosing_taken taken name all (suc k) within each =
    subst (Choosing taken name all) (add-one k) (choosing_next taken name all k (choosing_taken taken name all k (omega arith) (λ j less. each j (omega arith))) (omega arith) (each k (omega arith)))

-- the name itself and the suffixes before this one are
passed_choosing : (homes : FinMap fid_cmp Home) (name : List ℕ) (k : ℕ) → k ≤ 65535 → is_taken homes name ≡ true → AreTaken homes name 1 k → Choosing (is_taken homes) name 65535 k
passed_choosing homes name k most itself taken = choosing_taken (is_taken homes) name 65535 k most by
  where
    by : (j : ℕ) → j < k → is_taken homes (choice name j) ≡ true
    by zero less = itself
    by (suc j) less = taken (suc j) (omega arith) less

-- the name itself isn't taken
pub free_itself : (homes : FinMap fid_cmp Home) (name : List ℕ) → is_taken homes name ≡ false → name ≡ chosen homes name
free_itself homes name no_one = choosing_here (is_taken homes) name 65535 0 (choosing_none (is_taken homes) name 65535) (omega arith) no_one ∙ chosen_is homes name

-- it is, and so are the suffixes before one that isn't
pub free_here : (homes : FinMap fid_cmp Home) (name : List ℕ) (k : ℕ) → 1 ≤ k → k < 65535 → is_taken homes name ≡ true → AreTaken homes name 1 k → is_taken homes (suffixed name k) ≡ false → suffixed name k ≡ chosen homes name
free_here homes name zero some few itself taken no_one = absurd (omega arith)
free_here homes name (suc k) some few itself taken no_one =
    choosing_here (is_taken homes) name 65535 (suc k) (passed_choosing homes name (suc k) (omega arith) itself taken) few no_one
    ∙ chosen_is homes name

-- all that are asked for are taken
pub free_last : (homes : FinMap fid_cmp Home) (name : List ℕ) → is_taken homes name ≡ true → AreTaken homes name 1 65535 → suffixed name 65535 ≡ chosen homes name
free_last homes name itself taken = choosing_end (is_taken homes) name 65535 65535 (passed_choosing homes name 65535 (omega arith) itself taken) (omega arith) ∙ chosen_is homes name
