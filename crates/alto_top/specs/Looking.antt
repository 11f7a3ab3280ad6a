-- Rows of the listing, and what is looked up for them.
use Rattle.std.specs.Prelude.{◌≡◌, ℕ, map, List, [], ◌∷◌, Option, Some, None, cond}
use Rattle.std.specs.Option.{option_or}
use Rattle.alto_words.specs.declared.fid.Fid.{Fid}
use Rattle.alto_words.specs.Fid.{is_fid}
use Rattle.pack_model.specs.showing.View.{View}
use Rattle.pack_model.specs.showing.Listing.{Listed, home_name, shown_files}
use Rattle.pack_reading.specs.declared.shown.FileLength.{FileLength}
use Rattle.pack_reading.specs.Lengths.{shown_length}
use Rattle.pack_reading.specs.Shows.{naming}
use Rattle.alto_top.specs.declared.row.Row.{Row}

-- what the first item of a file says
abbrev pub first_of : {X V : Type 0} → (X → Fid) → (X → V) → List X → Fid → Option V
first_of key value [] f = None
first_of key value (x ∷ xs) f = option_or (cond (is_fid f (key x)) (Some (value x)) None) (first_of key value xs f)

-- the names of directories and the lengths of files, as a view has them
pub record Knows (name : Fid → Option (List ℕ)) (files : List FileLength) (v : View) : Type 0 where
  pub names : (f : Fid) → name f ≡ home_name v f
  pub files_are : files ≡ map shown_length (shown_files v)

-- what the model has in a row
abbrev pub listed_in : Row → Listed
listed_in l = record { dir_name = l.dir_name; naming = naming l.named; size = l.length }
