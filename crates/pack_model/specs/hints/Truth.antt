-- Hints while a session goes on: the table is in memory, and DiskDescriptor's words have to be true only while its mark is clean.
-- An allocation map that is kept in memory and written at closing is this project's choice.
use Rattle.std.specs.Prelude.{◌≡◌, Bool, List}
use Rattle.disk_records.specs.Packs.{Pack}
use Rattle.pack_model.specs.reading.Sights.{sights}
use Rattle.pack_model.specs.states.Sound.{mark_clean, mark_of}
use Rattle.pack_model.specs.hints.Links.{LinksTrue}
use Rattle.pack_model.specs.hints.Tables.{HintsTrue, TableTrue}

-- Links and addresses are true, and so is the table in memory; and as long as the mark is clean all hints are.
pub record Truthful (p : Pack) (busy : List Bool) : Type 0 where
  pub links : LinksTrue p
  pub table : TableTrue p busy
  pub described : mark_of (sights p) ≡ mark_clean → HintsTrue p
