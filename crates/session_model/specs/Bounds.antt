-- How many sector commands a line may take where all hints on its way are handy.
-- The bounds are this project's choice.
use Rattle.std.specs.Prelude.{◌≡◌, ◌≤◌, ℕ, ◌+◌, ◌*◌, ◌/◌, Bool, List, length, Option, Some, None, All}
use Rattle.exec_words.specs.alto_words.specs.declared.fid.Fid.{Fid}
use Rattle.exec_words.specs.alto_words.specs.Fid.{sys_dir}
use Rattle.exec_words.specs.disk_records.specs.Packs.{Pack}
use Rattle.exec_words.specs.pack_model.specs.hints.Handy.{Handy, CachedAt, leader_word, last_at_word, last_number_word}
use Rattle.exec_words.specs.pack_model.specs.hints.Links.{LinksTrue}
use Rattle.exec_words.specs.pack_model.specs.hints.Tables.{TableTrue}
use Rattle.exec_words.specs.pack_model.specs.operations.Committing.{length_of, page_of_byte, pages_added}
use Rattle.exec_words.specs.pack_model.specs.reading.Files.{place}
use Rattle.exec_words.specs.pack_model.specs.reading.Model.{Model}
use Rattle.exec_words.specs.pack_model.specs.reading.Sights.{sights}
use Rattle.exec_words.specs.pack_model.specs.states.Sound.{Sound}
use Rattle.exec_words.specs.declared.line.Line.{Line}
use Rattle.exec_words.specs.declared.line.Line.TheVariants as line
use Rattle.exec_words.specs.declared.line.Path.{Path}
use Rattle.exec_words.specs.declared.line.Target.TheVariants.{ByPath}
use Rattle.exec_words.specs.declared.reply.Reply.{Reply}
use Rattle.exec_words.specs.declared.reply.Reply.TheVariants as reply
use Rattle.session_model.specs.Finding.{the_file, the_dir}

-- ---- when the bounds hold
-- The pack is sound, its links are true, so is the table, and what the leaders and the cache say of these files is right or idle.
pub record AllHandy (p : Pack) (busy : List Bool) (cache : List CachedAt) (files : List Fid) : Type 0 where
  pub sound : Sound p
  pub links : LinksTrue p
  pub table : TableTrue p busy
  pub handy : All (λ f. Handy p f cache) files

-- The last-page words in the file's leader name its last page.
pub record NamesItsLast (p : Pack) (m : Model) (f : Fid) : Type 0 where
  pub at : ℕ
  pub leader : place (sights p) f 0 ≡ Some at
  pub number : leader_word p at last_number_word ≡ page_of_byte (length_of m f)
  pub sector : place (sights p) f (page_of_byte (length_of m f)) ≡ Some (leader_word p at last_at_word)

-- ---- the data pages of the directories in which the names of a path are sought: of SysDir too, where a directory is typed
abbrev pub pages_of_dir : Model → Fid → ℕ
pages_of_dir m d = page_of_byte (length_of m d)

abbrev pub root_pages : Model → Option (List ℕ) → ℕ
root_pages m None = 0
root_pages m (Some name) = pages_of_dir m sys_dir

abbrev pub sought_pages : Model → Path → ℕ
sought_pages m path = root_pages m path.dir + pages_of_dir m (the_dir m path)

-- ---- the bounds
abbrev pub type_runs : Model → Path → ℕ
type_runs m path = sought_pages m path + length_of m (the_file m (ByPath path)) / 512 + 8

abbrev pub append_runs : Model → Path → List ℕ → ℕ
append_runs m path bytes = sought_pages m path + 3 * pages_added (length_of m (the_file m (ByPath path))) (length bytes) + 24

-- of a line that is done: for `type` and `append` of a file by its name
abbrev pub DoneWithin : Pack → Model → Line → ℕ → Type 0
DoneWithin p m (line.TypeOut (ByPath path)) runs = runs ≤ type_runs m path
DoneWithin p m (line.Append (ByPath path) bytes) runs = NamesItsLast p m (the_file m (ByPath path)) → runs ≤ append_runs m path bytes
DoneWithin p m l runs = Unit {0}

abbrev pub RunsWithin : Pack → Model → Line → Reply → ℕ → Type 0
RunsWithin p m l (reply.Done text) runs = DoneWithin p m l runs
RunsWithin p m l (reply.Refused r) runs = Unit {0}
RunsWithin p m l reply.Quit runs = Unit {0}
RunsWithin p m l reply.Scavenge runs = Unit {0}
RunsWithin p m l reply.DiskFault runs = Unit {0}
RunsWithin p m l reply.Memory runs = Unit {0}
