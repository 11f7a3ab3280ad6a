-- Files that get a name where they have none, one after another.
use Rattle.std.specs.Prelude.{cond, List, [], ◌∷◌, ◌++◌}
use Rattle.std.specs.FinMap.{FinMap, contains_key, insert}
use Rattle.alto_words.specs.Fid.{fid_cmp, is_system, sys_dir}
use Rattle.kept_names.specs.declared.names.Names.{Names}
use Rattle.kept_names.specs.declared.passed.Passed.{Passed}
use Rattle.kept_names.specs.Homes.{StandsFor}
use Rattle.kept_names.specs.Passed.{IsPassed}
use Rattle.pack_model.specs.showing.Settling.{chosen}
use Rattle.pack_model.specs.showing.View.{Home}
use Rattle.scav_names.specs.declared.living.Living.{Living}

-- a shown file without a name gets its own, or the first suffix of that which is free
abbrev pub named_then : FinMap fid_cmp Home → Living → FinMap fid_cmp Home
named_then homes x = cond (is_system x.fid) homes (cond (contains_key homes x.fid) homes (insert homes x.fid (record { dir = sys_dir; name = chosen homes x.name })))

-- and is entered under it
abbrev pub entered_then : FinMap fid_cmp Home → Living → List Living
entered_then homes x = cond (is_system x.fid) [] (cond (contains_key homes x.fid) [] (record { fid = x.fid; leader_at = x.leader_at; name = chosen homes x.name } ∷ []))

abbrev pub all_entered : FinMap fid_cmp Home → List Living → List Living
all_entered homes [] = []
all_entered homes (x ∷ xs) = entered_then homes x ++ all_entered (named_then homes x) xs

-- The names in memory are those of these homes, and the suffixes passed over are taken in them.
pub record Knows (homes : FinMap fid_cmp Home) (names : Names) (passed : Passed) : Type 0 where
  pub names_are : StandsFor names homes
  pub passed_are : IsPassed homes passed
