-- The names that are kept, and which entries are considered.
use Rattle.std.specs.Prelude.{◌≡◌, ℕ, ◌&&◌, Bool, not, cond, List, map}
use Rattle.std.specs.declared.cmp.Ordering.{Ordering}
use Rattle.std.specs.Ordering.{then_cmp, on}
use Rattle.std.specs.List.{list_any}
use Rattle.std.specs.BTreeSet.{contains}
use Rattle.std.specs.FinMap.{FinMap, entries, contains_key, insert}
use Rattle.alto_words.specs.declared.fid.Fid.{Fid}
use Rattle.alto_words.specs.Fid.{fid_cmp, is_fid, is_system}
use Rattle.alto_words.specs.Names.{folded_cmp, is_same_name}
use Rattle.pack_model.specs.reading.Namings.{Naming, may_stand}
use Rattle.pack_model.specs.showing.View.{Home}
use Rattle.pack_model.specs.showing.Listing.{naming_of, naming_cmp, in_order}
use Rattle.kept_names.specs.declared.names.QualifiedName.{QualifiedName}
use Rattle.kept_names.specs.declared.names.Entry.{Entry}
use Rattle.kept_names.specs.declared.names.Names.{Names}

-- ---- the entries that are kept
-- the order of names with their directories: by directory, and then by name without regard to case
abbrev pub qualified_cmp : QualifiedName → QualifiedName → Ordering
qualified_cmp = then_cmp (on (λ p. p.directory) fid_cmp) (on (λ p. p.name) folded_cmp)

abbrev pub home_at : QualifiedName → Home
home_at n = record { dir = n.directory; name = n.name }

abbrev pub naming_at : Entry → Naming
naming_at e = record { dir = e.name.directory; name = e.name.name; fid = e.fid }

-- some file is named so in this directory
abbrev pub is_taken_in : FinMap fid_cmp Home → Fid → List ℕ → Bool
is_taken_in homes d name = list_any (λ e. is_fid d e.1.dir && is_same_name name e.1.name) (entries homes)

-- the entries are those of files that are named so
pub record StandsFor (names : Names) (homes : FinMap fid_cmp Home) : Type 0 where
  pub named : (f : Fid) → contains fid_cmp names.named f ≡ contains_key homes f
  pub taken : (d : Fid) (name : List ℕ) → contains qualified_cmp names.taken (record { directory = d; name = name }) ≡ is_taken_in homes d name
  pub kept : map naming_at names.kept.keys ≡ in_order naming_cmp (map naming_of (entries homes))

-- ---- the scan
-- an entry of a file that is shown may stand by itself
abbrev pub may_show : (Fid → Bool) → Naming → Bool
may_show lives e = not (is_system e.fid) && may_stand lives e

-- and it is kept where neither its file has a name yet nor its name is taken in its directory
abbrev pub is_let : (Fid → Bool) → FinMap fid_cmp Home → Naming → Bool
is_let lives homes e = may_show lives e && not (contains_key homes e.fid) && not (is_taken_in homes e.dir e.name)

-- the homes once this entry is passed
abbrev pub considered : (Fid → Bool) → FinMap fid_cmp Home → Naming → FinMap fid_cmp Home
considered lives homes e = cond (is_let lives homes e) (insert homes e.fid (record { dir = e.dir; name = e.name })) homes
