-- The names that new entries get, in directories of a sound pack.
use Rattle.std.specs.Prelude.{◌≡◌, ℕ, ◌+◌, true, false, cond, nat_lt, List, Option, Some, None, Result, Ok, Err}
use Rattle.alto_words.specs.declared.fid.Fid.{Fid}
use Rattle.alto_words.specs.declared.wanted.Wanted.{Wanted}
use Rattle.alto_words.specs.Names.{most_version, with_version}
use Rattle.disk_records.specs.Packs.{Pack}
use Rattle.pack_model.specs.reading.Model.{read_as, dir_items}
use Rattle.pack_model.specs.reading.Versions.{new_name, is_name_taken}
use Rattle.exec_words.specs.declared.reply.Refusal.{Refusal}
use Rattle.exec_words.specs.declared.reply.Refusal.TheVariants as refusal
use Rattle.exec_session.specs.declared.stop.Stop.{Stop}
use Rattle.exec_session.specs.declared.stop.Stop.TheVariants.{Refused}

-- the name isn't taken, and this is the one that is given
abbrev pub IsGiven : Pack → Fid → Wanted → List ℕ → Type 0
IsGiven p d w name = (is_name_taken w (dir_items (read_as p) d) ≡ false) × (new_name w (dir_items (read_as p) d) ≡ Some name)

abbrev pub IsTaken : Pack → Fid → Wanted → Refusal → Type 0
IsTaken p d w r = (r ≡ refusal.NameTaken) × (is_name_taken w (dir_items (read_as p) d) ≡ true)

-- the name of the version after this one, if there is one
abbrev pub named_or_taken : Option (List ℕ) → Result (List ℕ) Stop
named_or_taken None = Err (Refused refusal.NameTaken)
named_or_taken (Some name) = Ok name

abbrev pub version_after : List ℕ → ℕ → Result (List ℕ) Stop
version_after base n = cond (nat_lt n most_version) (named_or_taken (with_version base (n + 1))) (Err (Refused refusal.NameTaken))
