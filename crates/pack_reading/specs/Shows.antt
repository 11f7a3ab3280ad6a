-- What a caller sees of a pack that is shown.
use Rattle.std.specs.Prelude.{◌≡◌, map}
use Rattle.alto_words.specs.declared.fid.Fid.{Fid}
use Rattle.leader_page.specs.Pages.{said}
use Rattle.pack_model.specs.reading.Namings.{Naming}
use Rattle.pack_model.specs.showing.View.{Seen, View}
use Rattle.pack_model.specs.showing.Listing.{shown_files, shown_names}
use Rattle.pack_reading.specs.declared.shown.Shown.{Shown}
use Rattle.pack_reading.specs.declared.shown.ShownFile.{ShownFile}
use Rattle.pack_reading.specs.declared.shown.ShownName.{ShownName}
use Rattle.pack_reading.specs.Kept.{plain_leader}

-- a file with zeros for its leader's hints
abbrev pub shown_file : Fid × Seen → ShownFile
shown_file e = record { fid = e.0; leader = plain_leader e.1.leader; bytes = e.1.bytes }

-- and the file that it is
abbrev pub seen_file : ShownFile → Fid × Seen
seen_file x = (x.fid, record { leader = said x.leader; bytes = x.bytes })

abbrev pub shown_name : Naming → ShownName
shown_name n = record { directory = n.dir; name = n.name; fid = n.fid }

abbrev pub naming : ShownName → Naming
naming n = record { dir = n.directory; name = n.name; fid = n.fid }

-- all files and names of a view, in order
pub record ShowsView (shown : Shown) (v : View) : Type 0 where
  pub files : shown.files ≡ map shown_file (shown_files v)
  pub names : shown.names ≡ map shown_name (shown_names v)
