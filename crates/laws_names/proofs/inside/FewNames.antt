-- A pack has fewer files than sectors, and each of them one name at most.
use Rattle.std.proofs.Common.{◌++◌, ◌-◌, ◌<◌, ◌||◌, ◌∙◌, ◌∷◌, ◌≡◌, ◌≤◌, Bool, List, None, Some, T, [], ap, arith, cond, false, length, ltb-true, nat_lt, not, refl, suc, sym, true, ℕ}
use Rattle.std.proofs.lemmas.List.{length-append}
use Rattle.std.proofs.lemmas.Map.Made.{length-le_from_is_member}
use Rattle.std.specs.Cmp.{eq_by_cmp_equiv}
use Rattle.std.specs.FinMap.{contains_key, entries, entries_sorted, find, get, get-entries, is_sorted}
use Rattle.std.specs.FinMap.Entries.{below_all}
use Rattle.std.specs.List.{AllByRecursion, IsDistinct, list_any}
use Rattle.std.specs.Option.{is_some, option_or}
use Rattle.std.specs.Ordering.{is_eq, is_lt}
use Rattle.laws_mend.specs.alto_words.specs.Fid.{fid_cmp, is_fid, is_system}
use Rattle.laws_mend.specs.alto_words.specs.declared.fid.Fid.{Fid}
use Rattle.laws_mend.specs.disk_records.specs.Addresses.{is_right_header, pages_of}
use Rattle.laws_mend.specs.disk_records.specs.Packs.{Pack, is_usable}
use Rattle.laws_mend.specs.disk_records.specs.declared.records.Sector.{Sector}
use Rattle.laws_mend.specs.disk_records.specs.declared.shape.Shape.{Shape}
use Rattle.laws_mend.specs.pack_model.specs.reading.Files.{first, leader_at, lives}
use Rattle.laws_mend.specs.pack_model.specs.reading.Model.{read_as}
use Rattle.laws_mend.specs.pack_model.specs.reading.Namings.{AllKept, Naming, clashes, is_kept, may_stand, namings}
use Rattle.laws_mend.specs.pack_model.specs.reading.Sights.{Sight, sight, sights, sights_from}
use Rattle.laws_mend.specs.pack_model.specs.reading.Sights.Sight.{free, hidden, holds, leads, stray}
use Rattle.laws_mend.specs.pack_model.specs.showing.View.{Home, names_of, view}
use Rattle.laws_mend.specs.pack_laws.proofs.Keys.{fid_total, same_fid}
use Rattle.laws_mend.specs.laws_record.proofs.Around.{first_part, is_less, second_part}
use Rattle.laws_mend.specs.laws_record.proofs.Heads.{and_left, and_right}
use Rattle.laws_mend.specs.laws_record.proofs.Keeping.{get-where}
use Rattle.laws_mend.specs.laws_record.proofs.Unread.{dark}
use Rattle.laws_mend.specs.laws_operation.proofs.entries.Laws.{read_entries_are_kept}
use Rattle.laws_names.proofs.inside.Unlacking.{name_named}

-- ---- files by their leader pages
-- the files whose leader pages sectors show
led_at : Sight → List Fid
led_at hidden = []
led_at free = []
led_at stray = []
led_at (leads f readable l) = f ∷ []
led_at (holds f n bytes) = []

led : List Sight → List Fid
led [] = []
led (s ∷ ss) = led_at s ++ led ss

-- no more than the pack has sectors
one_at_most : (s : Sight) → length (led_at s) ≤ 1
unfolding led_at
one_at_most hidden = omega arith
one_at_most free = omega arith
one_at_most stray = omega arith
one_at_most (leads f readable l) = omega arith
one_at_most (holds f n bytes) = omega arith

few_led : (shape : Shape) (at : ℕ) (sectors : List Sector) → length (led (sights_from shape at sectors)) ≤ pages_of shape - at
unfolding sights_from led led_at
few_led shape at [] = omega arith
few_led shape at (s ∷ sectors) = by (is_usable shape at s) refl (few_led shape (suc at) sectors)
  where
    by : (b : Bool) → is_usable shape at s ≡ b → length (led (sights_from shape (suc at) sectors)) ≤ pages_of shape - suc at → length (led_at (sight shape at s) ++ led (sights_from shape (suc at) sectors)) ≤ pages_of shape - at
    by false e l =
        let none : length (led_at (sight shape at s) ++ led (sights_from shape (suc at) sectors)) ≡ length (led (sights_from shape (suc at) sectors)) = ap (λ x. length (led_at x ++ led (sights_from shape (suc at) sectors))) (dark shape at s e) in
        omega arith
    by true e l =
        let within : at < pages_of shape = ltb-true at (pages_of shape) (and_left (nat_lt at (pages_of shape)) _ (and_right (nat_lt 0 at) (is_right_header shape at s.header) e)) in
        let one = one_at_most (sight shape at s) in
        let all = length-append (led_at (sight shape at s)) (led (sights_from shape (suc at) sectors)) in
        omega arith

-- a living file is among them
lives_led : (f : Fid) (ss : List Sight) → lives ss f ≡ true → list_any (is_fid f) (led ss) ≡ true
unfolding first led led_at
lives_led f [] e = absurd cc
lives_led f (hidden ∷ ss) e = lives_led f ss e
lives_led f (free ∷ ss) e = lives_led f ss e
lives_led f (stray ∷ ss) e = lives_led f ss e
lives_led f (holds g n bytes ∷ ss) e = lives_led f ss e
lives_led f (leads g readable l ∷ ss) e = by (is_fid f g) e (lives_led f ss)
  where
    by : (b : Bool) → is_some (option_or (cond b (Some l) None) (first (leader_at f) ss)) ≡ true → (lives ss f ≡ true → list_any (is_fid f) (led ss) ≡ true) → (b || list_any (is_fid f) (led ss)) ≡ true
    by true e again = refl
    by false e again = again e

-- ---- keys
keys : List (Fid × Home) → List Fid
keys [] = []
keys (e ∷ es) = e.0 ∷ keys es

keys_many : (es : List (Fid × Home)) → length (keys es) ≡ length es
unfolding keys
keys_many [] = refl
keys_many (e ∷ es) = ap suc (keys_many es)

-- no two are the same
keys_below : (k : Fid) (es : List (Fid × Home)) → T (below_all fid_cmp k es) → AllByRecursion (λ y. is_fid k y ≡ false) (keys es)
unfolding keys
keys_below k [] h = tt
keys_below k (e ∷ es) h = (ap is_eq (is_less (fid_cmp k e.0) (first_part (is_lt (fid_cmp k e.0)) (below_all fid_cmp k es) h)), keys_below k es (second_part (is_lt (fid_cmp k e.0)) (below_all fid_cmp k es) h))

keys_apart : (es : List (Fid × Home)) → T (is_sorted fid_cmp es) → IsDistinct is_fid (keys es)
unfolding IsDistinct keys
keys_apart [] h = tt
keys_apart (e ∷ es) h = (keys_below e.0 es (first_part (below_all fid_cmp e.0 es) (is_sorted fid_cmp es) h), keys_apart es (second_part (below_all fid_cmp e.0 es) (is_sorted fid_cmp es) h))

-- each has a value
key_found : (q : Fid) (es : List (Fid × Home)) → list_any (is_fid q) (keys es) ≡ true → is_some (find fid_cmp q es) ≡ true
unfolding keys
key_found q [] e = absurd cc
key_found q (y ∷ es) e = by (is_fid q y.0) e (key_found q es)
  where
    by : (b : Bool) → (b || list_any (is_fid q) (keys es)) ≡ true → (list_any (is_fid q) (keys es) ≡ true → is_some (find fid_cmp q es) ≡ true) → is_some (cond b (Some y.1) (find fid_cmp q es)) ≡ true
    by true e again = refl
    by false e again = again e

-- ---- names
-- a file that a kept entry names lives
all_live : (v : Fid → Bool) (before ns : List Naming) (f : Fid) → AllKept (is_kept v) before ns → list_any (λ n. is_fid n.fid f) ns ≡ true → v f ≡ true
all_live v before [] f kept e = absurd cc
all_live v before (n ∷ ns) f kept e = by (is_fid n.fid f) refl e (all_live v (n ∷ before) ns f kept.1)
  where
    by : (b : Bool) → is_fid n.fid f ≡ b → (b || list_any (λ n. is_fid n.fid f) ns) ≡ true → (list_any (λ n. is_fid n.fid f) ns ≡ true → v f ≡ true) → v f ≡ true
    by true same e again = ap v (sym (same_fid n.fid f same)) ∙ and_left (v n.fid) _ (and_left (may_stand v n) (not (list_any (clashes n) before)) kept.0)
    by false same e again = again e

-- a file with a name lives
named_lives : (p : Pack) (f : Fid) → contains_key (view (read_as p)).names f ≡ true → lives (sights p) f ≡ true
unfolding view
named_lives p f e = by (is_system f) refl
  where
    by : (b : Bool) → is_system f ≡ b → lives (sights p) f ≡ true
    by true system = absurd (let none : false ≡ true = sym (ap is_some (get-where (names_of (read_as p).files) (λ f. not (is_system f)) f ∙ ap (λ b. cond (not b) (get (names_of (read_as p).files) f) None) system)) ∙ e in cc)
    by false ordinary = all_live (lives (sights p)) [] (namings (entries (read_as p).files)) f (read_entries_are_kept p) (name_named (read_as p) f ordinary e)

-- so there are fewer names than sectors
pub few_names : (p : Pack) → length (entries (view (read_as p)).names) ≤ 65000
few_names p =
    let es : List (Fid × Home) = entries (view (read_as p)).names in
    let l = length-le_from_is_member (eq_by_cmp_equiv fid_total) (keys es) (led (sights p)) (keys_apart es (entries_sorted (view (read_as p)).names))
    (λ q h. lives_led q (sights p) (named_lives p q (ap is_some (get-entries (view (read_as p)).names q) ∙ key_found q es h))) in
    let many = keys_many es in
    let few = few_led p.shape 0 p.sectors in
    let most = p.shape.most_pages in
    omega arith
