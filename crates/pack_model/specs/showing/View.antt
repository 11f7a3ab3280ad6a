-- What is shown of a model: no system file and no entry of one, no bytes of a directory, no slot.
-- What is shown of a model is this project's choice.
use Rattle.std.specs.Prelude.{ℕ, not, List, [], ◌∷◌, Option, Some, None}
use Rattle.std.specs.FinMap.{FinMap, from_entries, entries, retain_keys}
use Rattle.disk_records.specs.alto_words.specs.declared.fid.Fid.{Fid}
use Rattle.disk_records.specs.alto_words.specs.Fid.{fid_cmp, is_system}
use Rattle.pack_model.specs.reading.Leaders.{Leader}
use Rattle.pack_model.specs.sessions.Maps.{map_values}
use Rattle.pack_model.specs.reading.Bodies.{Body, File, Files}
use Rattle.pack_model.specs.reading.Bodies.Body.{data_of, items_of}
use Rattle.pack_model.specs.reading.Namings.{Naming, namings}
use Rattle.pack_model.specs.reading.Model.{Model}

-- where a file is named
pub record Home : Type 0 where
  pub dir : Fid
  pub name : List ℕ

-- a file as it is shown; of a directory there are no bytes
pub record Seen : Type 0 where
  pub leader : Leader
  pub bytes : Option (List ℕ)

-- the files, and of each that has a name, where it is named
pub record View : Type 0 where
  pub files : FinMap fid_cmp Seen
  pub names : FinMap fid_cmp Home

abbrev pub seen_body : Body → Option (List ℕ)
seen_body (data_of bytes) = Some bytes
seen_body (items_of is) = None

-- what is seen of a file
abbrev pub seen_of : Fid → File → Seen
seen_of f x = record { leader = x.leader; bytes = seen_body x.body }

-- entries by the file that each names
abbrev pub homes : List Naming → List (Fid × Home)
homes [] = []
homes (n ∷ ns) = (n.fid, record { dir = n.dir; name = n.name }) ∷ homes ns

abbrev pub names_of : Files → FinMap fid_cmp Home
names_of files = from_entries (homes (namings (entries files)))

-- what a model shows: its files except the system files, and the names of these
unfoldable pub view : Model → View
view m = record {
  files = retain_keys (map_values seen_of m.files) (λ f. not (is_system f));
  names = retain_keys (names_of m.files) (λ f. not (is_system f));
}
