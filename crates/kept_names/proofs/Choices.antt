-- Names that are given, and the first one that isn't taken.
use Rattle.std.proofs.Common.{◌≡◌, ℕ, zero, suc, ◌+◌, ◌<◌, ◌≤◌, Bool, true, false, List, refl, sym, ap, ◌∙◌, arith, add-one}
use Rattle.std.specs.Prelude.{◌&&◌, ◌||◌}
use Rattle.std.specs.List.{list_any}
use Rattle.std.specs.BTreeSet.{contains}
use Rattle.std.specs.FinMap.{FinMap, entries}
use Rattle.alto_words.specs.declared.fid.Fid.{Fid}
use Rattle.alto_words.specs.Fid.{fid_cmp, is_fid, sys_dir}
use Rattle.alto_words.specs.Names.{is_same_name}
use Rattle.pack_model.specs.reading.Namings.{sys_dir_name, descriptor_name}
use Rattle.pack_model.specs.showing.View.{Home}
use Rattle.pack_model.specs.showing.Settling.{is_taken, choice, chosen_from, chosen, most_suffixes}
use Rattle.pack_laws.proofs.Keys.{is_fid-sym}
use Rattle.kept_names.specs.declared.names.Names.{Names}
use Rattle.kept_names.specs.Homes.{qualified_cmp, StandsFor}

-- a name that no system file has is taken where an entry stands in SysDir
pub taken_is : (names : Names) (name : List ℕ) → (is_same_name name sys_dir_name || is_same_name name descriptor_name) ≡ false → (homes : FinMap fid_cmp Home) → StandsFor names homes → contains qualified_cmp names.taken (record { directory = sys_dir; name = name }) ≡ is_taken homes name
taken_is names name other homes stands =
    stands.taken sys_dir name
    ∙ (λ i. list_any (λ (e : Fid × Home). is_fid-sym sys_dir e.1.dir i && is_same_name name e.1.name) (entries homes))
    ∙ ap (λ b. b || list_any (λ (e : Fid × Home). is_fid e.1.dir sys_dir && is_same_name name e.1.name) (entries homes)) (sym other)

-- ---- the choices, one after another
-- so many choices are taken
pub record Choosing (taken : List ℕ → Bool) (name : List ℕ) (all k : ℕ) : Type 0 where
  pub left : ℕ
  pub total : k + left ≡ all
  pub so_far : chosen_from left taken name k ≡ chosen_from all taken name 0

pub choosing_none : (taken : List ℕ → Bool) (name : List ℕ) (all : ℕ) → Choosing taken name all 0
choosing_none taken name all = record { left = all; total = omega arith; so_far = refl }

module _ (taken : List ℕ → Bool) (name : List ℕ) (all k : ℕ) (c : Choosing taken name all k) where
  -- this one isn't taken
  pub choosing_here : k < all → taken (choice name k) ≡ false → choice name k ≡ chosen_from all taken name 0
  choosing_here more no_one = by c.left c.total c.so_far
    where
      by : (left : ℕ) → k + left ≡ all → chosen_from left taken name k ≡ chosen_from all taken name 0 → choice name k ≡ chosen_from all taken name 0
      by zero total so_far = absurd (omega arith)
      by (suc n) total so_far = sym (ap (λ b. elim b as (λ _. List ℕ) [ false ↦ choice name k | true ↦ chosen_from n taken name (suc k) ]) no_one) ∙ so_far

  -- this one is
  pub choosing_next : k < all → taken (choice name k) ≡ true → Choosing taken name all (k + 1)
  choosing_next more given = by c.left c.total c.so_far
    where
      by : (left : ℕ) → k + left ≡ all → chosen_from left taken name k ≡ chosen_from all taken name 0 → Choosing taken name all (k + 1)
      by zero total so_far = absurd (omega arith)
      by (suc n) total so_far = record {
        left = n;
        total = omega arith;
        so_far = ap (chosen_from n taken name) (add-one k) ∙ sym (ap (λ b. elim b as (λ _. List ℕ) [ false ↦ choice name k | true ↦ chosen_from n taken name (suc k) ]) given) ∙ so_far;
      }

  -- all of them are
  pub choosing_end : all ≤ k → choice name all ≡ chosen_from all taken name 0
  choosing_end end = by c.left c.total c.so_far
    where
      by : (left : ℕ) → k + left ≡ all → chosen_from left taken name k ≡ chosen_from all taken name 0 → choice name all ≡ chosen_from all taken name 0
      by zero total so_far = let last : all ≡ k = omega arith in ap (choice name) last ∙ so_far
      by (suc n) total so_far = absurd (omega arith)

pub chosen_is : (homes : FinMap fid_cmp Home) (name : List ℕ) → chosen_from 65535 (is_taken homes) name 0 ≡ chosen homes name
unfolding chosen most_suffixes
chosen_is homes name = refl
