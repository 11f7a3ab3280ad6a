-- Tests of full names, and of names by themselves and with their directories.
use Rattle.std.proofs.Common.{◌≡◌, ℕ, Bool, true, false, cond, not, List, Option, Some, None, refl, sym, ap, ◌∙◌, arith}
use Rattle.std.specs.Prelude.{◌&&◌, ◌||◌, ◌==◌}
use Rattle.std.specs.declared.cmp.Ordering.{Ordering}
use Rattle.std.specs.declared.cmp.Ordering.TheVariants.{Less, Equal, Greater}
use Rattle.std.specs.Ordering.{nat_cmp, ordering_then, is_eq}
use Rattle.std.specs.Cmp.{eq_by_cmp_equiv}
use Rattle.std.specs.Option.{is_some}
use Rattle.std.proofs.lemmas.Bool.Decides.{nat_tests}
use Rattle.alto_words.specs.declared.fid.Fid.{Fid}
use Rattle.alto_words.specs.Fid.{fid_cmp, is_fid, is_system, is_directory, sys_dir, disk_descriptor}
use Rattle.alto_words.specs.Names.{folded_cmp, is_same_name}
use Rattle.alto_words.proofs.Folding.{folded_cmp-equal}
use Rattle.pack_model.specs.reading.Namings.{Naming, keeps_system, alike, sys_dir_name, descriptor_name}
use Rattle.pack_laws.proofs.Keys.{is_eq-Equal}
use Rattle.pack_laws.proofs.Orders.{name_total}
use Rattle.kept_names.specs.declared.names.QualifiedName.{QualifiedName}
use Rattle.kept_names.specs.Homes.{qualified_cmp, may_show}
use Rattle.kept_names.specs.Orders.{qualified_total}

-- ---- orders that tie
pub tie_then : (a b : Ordering) → is_eq (ordering_then a b) ≡ (is_eq a && is_eq b)
tie_then Less b = refl
tie_then Equal b = refl
tie_then Greater b = refl

-- two tests that are true together are one
true_together : (a b : Bool) → (a ≡ true → b ≡ true) → (b ≡ true → a ≡ true) → a ≡ b
true_together true b f g = sym (f refl)
true_together false true f g = g refl
true_together false false f g = refl

pub tie_names : (a b : List ℕ) → is_eq (folded_cmp a b) ≡ is_same_name a b
tie_names a b =
    let e = folded_cmp-equal a b in
    true_together (is_eq (folded_cmp a b)) (is_same_name a b) (λ tie. e.0 (is_eq-Equal (folded_cmp a b) tie)) (λ same. ap is_eq (e.1 same))

-- a name is like others where one is that differs from it by the case of letters alone
pub same_congr : (a b c : List ℕ) → is_same_name a b ≡ true → is_same_name a c ≡ is_same_name b c
same_congr a b c e = sym (tie_names a c) ∙ (eq_by_cmp_equiv name_total).congr a b c (tie_names a b ∙ e) ∙ tie_names b c

-- names with their directories are one where the directory is one and the name the same
pub tie_qualified : (p q : QualifiedName) → is_eq (qualified_cmp p q) ≡ (is_fid p.directory q.directory && is_same_name p.name q.name)
tie_qualified p q = tie_then (fid_cmp p.directory q.directory) (folded_cmp p.name q.name) ∙ ap (λ b. is_fid p.directory q.directory && b) (tie_names p.name q.name)

-- the same from the other one
pub tie_qualified_back : (p q : QualifiedName) → is_eq (qualified_cmp p q) ≡ (is_fid q.directory p.directory && is_same_name q.name p.name)
tie_qualified_back p q = (eq_by_cmp_equiv qualified_total).symm p q ∙ tie_qualified q p

-- ---- answers
pub none_of : {X : Type 0} (o : Option X) → is_some o ≡ false → o ≡ None
none_of None e = refl
none_of (Some x) e = absurd (let h : true ≡ false = e in cc)

-- ---- which entries may stand
core : (a b l d r m k : Bool) → (not (a || b) && (l && ((not d || r) && (alike a (r && m) && alike b (r && k))))) ≡ (not (a || b) && (l && cond r (not (m || k)) (not d)))
core true b l d r m k = refl
core false true l d r m k = refl
core false false false d r m k = refl
core false false true true true true k = refl
core false false true true true false k = refl
core false false true false true true k = refl
core false false true false true false k = refl
core false false true true false m k = refl
core false false true false false m k = refl

pub may_show_is : (lives : Fid → Bool) (e : Naming) → may_show lives e ≡ (not (is_system e.fid) && (lives e.fid && cond (is_fid e.dir sys_dir) (not (is_same_name e.name sys_dir_name || is_same_name e.name descriptor_name)) (not (is_directory e.fid))))
unfolding keeps_system
may_show_is lives e = core (is_fid e.fid sys_dir) (is_fid e.fid disk_descriptor) (lives e.fid) (is_directory e.fid) (is_fid e.dir sys_dir) (is_same_name e.name sys_dir_name) (is_same_name e.name descriptor_name)

-- ---- two full names, word by word
tie_same : (a b : ℕ) → is_eq (nat_cmp a b) ≡ (a == b)
tie_same a b = grind (arith, nat_tests)

pub fid_eq : (f g : Fid) → is_fid f g ≡ (f.high == g.high && (f.low == g.low && f.version == g.version))
fid_eq f g =
    tie_then (nat_cmp f.high g.high) (ordering_then (nat_cmp f.low g.low) (nat_cmp f.version g.version))
    ∙ (λ i. tie_same f.high g.high i && tie_then (nat_cmp f.low g.low) (nat_cmp f.version g.version) i)
    ∙ (λ i. f.high == g.high && (tie_same f.low g.low i && tie_same f.version g.version i))
