-- Tests of lists of entries, and that entries of system files stand apart from all others.
use Rattle.std.proofs.Common.{◌≡◌, ℕ, Bool, true, false, cond, List, [], ◌∷◌, ◌++◌, Some, refl, sym, ap, ◌∙◌}
use Rattle.std.specs.Prelude.{◌&&◌, ◌||◌}
use Rattle.std.specs.Cmp.{eq_by_cmp_equiv}
use Rattle.std.specs.List.{list_any}
use Rattle.std.specs.Option.{option_or}
use Rattle.std.specs.FinMap.{find}
use Rattle.std.proofs.lemmas.Bool.{and_parts}
use Rattle.alto_words.specs.declared.fid.Fid.{Fid}
use Rattle.alto_words.specs.Fid.{fid_cmp, is_fid, is_system, sys_dir, disk_descriptor}
use Rattle.alto_words.specs.Names.{is_same_name}
use Rattle.pack_model.specs.reading.Namings.{Naming, keeps_system, alike, is_own, sys_dir_name, descriptor_name}
use Rattle.pack_model.specs.showing.View.{homes}
use Rattle.pack_laws.proofs.Keys.{fid_total, same_fid}
use Rattle.kept_names.proofs.Tests.{same_congr}

-- ---- tests of lists
pub find-append : {X : Type 0} (q : Fid) (xs ys : List (Fid × X)) → find fid_cmp q (xs ++ ys) ≡ option_or (find fid_cmp q xs) (find fid_cmp q ys)
find-append q [] ys = refl
find-append q (x ∷ xs) ys = elim (is_fid q x.0) as (λ b. cond b (Some x.1) (find fid_cmp q (xs ++ ys)) ≡ option_or (cond b (Some x.1) (find fid_cmp q xs)) (find fid_cmp q ys)) [ true ↦ refl | false ↦ find-append q xs ys ]

pub homes-append : (xs ys : List Naming) → homes (xs ++ ys) ≡ homes xs ++ homes ys
homes-append [] ys = refl
homes-append (x ∷ xs) ys = ap (λ l. (x.fid, record { dir = x.dir; name = x.name }) ∷ l) (homes-append xs ys)

or_mixed : (a b c d : Bool) → ((a || b) || (c || d)) ≡ ((a || c) || (b || d))
or_mixed true b c d = refl
or_mixed false true true d = refl
or_mixed false true false d = refl
or_mixed false false c d = refl

pub list_any-either : (p q : Naming → Bool) (ns : List Naming) → list_any (λ n. p n || q n) ns ≡ (list_any p ns || list_any q ns)
list_any-either p q [] = refl
list_any-either p q (n ∷ ns) = ap (λ b. (p n || q n) || b) (list_any-either p q ns) ∙ or_mixed (p n) (q n) (list_any p ns) (list_any q ns)

-- ---- system files
pub or_parts : (a b : Bool) → (a || b) ≡ false → (a ≡ false) × (b ≡ false)
or_parts true b e = cc
or_parts false b e = (refl, e)

alike_true : (a b : Bool) → a ≡ true → alike a b ≡ true → b ≡ true
alike_true true b e h = h
alike_true false b e h = cc

alike_false : (a b : Bool) → a ≡ false → alike a b ≡ true → b ≡ false
alike_false true b e h = cc
alike_false false true e h = cc
alike_false false false e h = refl

-- an entry has this name in SysDir where another with the same name in the same directory has it
own_congr : (nm : List ℕ) (x e : Naming) → is_fid x.dir e.dir ≡ true → is_same_name x.name e.name ≡ true → is_own nm x ≡ is_own nm e
own_congr nm x e d n = λ i. (eq_by_cmp_equiv fid_total).congr x.dir e.dir sys_dir d i && same_congr x.name e.name nm n i

-- an entry of a system file stands where no other may
pub system_apart : (x e : Naming) → is_system x.fid ≡ false → keeps_system x ≡ true → is_system e.fid ≡ true → keeps_system e ≡ true → (is_fid x.dir e.dir && is_same_name x.name e.name) ≡ false
unfolding keeps_system
system_apart x e other fits_x system fits_e = by (is_fid x.dir e.dir && is_same_name x.name e.name) refl
  where
    not_x : (is_fid x.fid sys_dir ≡ false) × (is_fid x.fid disk_descriptor ≡ false)
    not_x = or_parts _ _ other

    keeps_x : (alike (is_fid x.fid sys_dir) (is_own sys_dir_name x) ≡ true) × (alike (is_fid x.fid disk_descriptor) (is_own descriptor_name x) ≡ true)
    keeps_x = and_parts _ _ fits_x

    keeps_e : (alike (is_fid e.fid sys_dir) (is_own sys_dir_name e) ≡ true) × (alike (is_fid e.fid disk_descriptor) (is_own descriptor_name e) ≡ true)
    keeps_e = and_parts _ _ fits_e

    clash : (is_fid x.dir e.dir ≡ true) × (is_same_name x.name e.name ≡ true) → (a b : Bool) → is_fid e.fid sys_dir ≡ a → is_fid e.fid disk_descriptor ≡ b → (a || b) ≡ true → ⊥
    clash both true b p q h =
        let here = alike_true (is_fid e.fid sys_dir) (is_own sys_dir_name e) p keeps_e.0 in
        let there = alike_false (is_fid x.fid sys_dir) (is_own sys_dir_name x) not_x.0 keeps_x.0 in
        let h : true ≡ false = sym here ∙ sym (own_congr sys_dir_name x e both.0 both.1) ∙ there in cc
    clash both false true p q h =
        let here = alike_true (is_fid e.fid disk_descriptor) (is_own descriptor_name e) q keeps_e.1 in
        let there = alike_false (is_fid x.fid disk_descriptor) (is_own descriptor_name x) not_x.1 keeps_x.1 in
        let h : true ≡ false = sym here ∙ sym (own_congr descriptor_name x e both.0 both.1) ∙ there in cc
    clash both false false p q h = cc

    by : (b : Bool) → (is_fid x.dir e.dir && is_same_name x.name e.name) ≡ b → b ≡ false
    by true is = absurd (clash (and_parts _ _ is) (is_fid e.fid sys_dir) (is_fid e.fid disk_descriptor) refl refl system)
    by false is = refl

-- a file that is shown isn't a system file
pub fid_apart : (f g : Fid) → is_system f ≡ false → is_system g ≡ true → is_fid f g ≡ false
fid_apart f g other system = elim (is_fid f g) as (λ b. is_fid f g ≡ b → b ≡ false) [
  | true ↦ λ e. absurd (let h : true ≡ false = sym system ∙ sym (ap is_system (same_fid f g e)) ∙ other in cc)
  | false ↦ λ e. refl
] refl
