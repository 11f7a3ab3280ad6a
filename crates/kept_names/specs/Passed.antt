-- Suffixes that are known to be taken.
use Rattle.std.specs.Prelude.{◌≡◌, ℕ, ◌+◌, ◌<◌, ◌≤◌, true, false, List, Option, unwrap_or, IfSome}
use Rattle.std.specs.BTreeMap.{get}
use Rattle.std.specs.FinMap.{FinMap}
use Rattle.alto_words.specs.Fid.{fid_cmp, sys_dir}
use Rattle.alto_words.specs.Names.{suffixed}
use Rattle.pack_model.specs.showing.Settling.{is_taken}
use Rattle.pack_model.specs.showing.View.{Home}
use Rattle.kept_names.specs.declared.names.QualifiedName.{QualifiedName}
use Rattle.kept_names.specs.declared.passed.Passed.{Passed}
use Rattle.kept_names.specs.declared.groups.Group.{Group}
use Rattle.kept_names.specs.Homes.{qualified_cmp}

-- a name with a suffix, in SysDir
abbrev pub suffix_in_root : List ℕ → ℕ → QualifiedName
suffix_in_root name k = record { directory = sys_dir; name = suffixed name k }

-- how many suffixes of a name, from a first one on, are known to be taken
abbrev pub passed_of : Passed → List ℕ → ℕ → ℕ
passed_of passed name first = unwrap_or (get qualified_cmp passed.counts (suffix_in_root name first)) 0

-- the suffixes of a name from a first one on, and before an end, are taken
abbrev pub AreTaken : FinMap fid_cmp Home → List ℕ → ℕ → ℕ → Type 0
AreTaken homes name first end = (k : ℕ) → first ≤ k → k < end → is_taken homes (suffixed name k) ≡ true

-- the first suffix of a group that isn't taken, or none where all of them are
pub record IsFirstFree (homes : FinMap fid_cmp Home) (name : List ℕ) (group : Group) (suffix : Option ℕ) : Type 0 where
  pub free : IfSome suffix (λ k. is_taken homes (suffixed name k) ≡ false)
  pub taken : AreTaken homes name group.first (unwrap_or suffix group.end)

-- what is known is so, from whichever suffix on
abbrev pub IsPassed : FinMap fid_cmp Home → Passed → Type 0
IsPassed homes passed = (name : List ℕ) (first : ℕ) → first ≤ 65535 → AreTaken homes name first (first + passed_of passed name first)
