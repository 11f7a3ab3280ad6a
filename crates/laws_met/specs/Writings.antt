-- The premises of calls are met: operations by all their record writes, values of 256 words, and a cache that lists a new file's pages.
use Rattle.std.specs.Prelude.{◌%◌, List, [], ◌∷◌}
use Rattle.laws_steps.specs.disk_records.specs.Commands.{value_writes}
use Rattle.laws_steps.specs.disk_records.specs.Packs.{AreFormed, Pack, sector_at}
use Rattle.laws_steps.specs.pack_model.specs.hints.Handy.{CachedAt, Handy}
use Rattle.laws_steps.specs.pack_model.specs.operations.Operations.{drop_writes}
use Rattle.laws_steps.specs.pack_model.specs.operations.PageWords.{put_value, widening_bytes}
use Rattle.laws_steps.specs.pack_model.specs.operations.Step.Operation.{cut, drop_file, grow, leave, make, put, stamp, title, widen}
use Rattle.laws_steps.specs.laws_call.specs.Writing.{Written, entry_freed, grown_writes}
use Rattle.laws_steps.specs.laws_lookup.specs.HintLaws.{HasFullValues}
use Rattle.laws_steps.specs.laws_midway.specs.MadeLaws.{ListsNewPages}
use Rattle.laws_met.specs.Premises.{system_items}
use Rattle.laws_met.specs.Peopled.{bytes_more, cutting, dir_d, file_a, file_b, made_b, making, name_a, name_b, name_z, numbered_b, peopled, stamping, titling}

-- ---- all record writes of operations
-- As calls name them, on one pack: bytes in place with a word past the file's end, bytes after the last one into a new page, a cut, another
-- name, another written date with the hints of the last page, an entry that leaves, a file that goes with its entry, and a page more for a
-- directory.
pub record MeetsWritings (p : Pack) : Type 0 where
  pub puts : Written p (put file_a 598 (1 ∷ 2 ∷ [])) [] [] (value_writes 7 (put_value (598 % 512) (1 ∷ 2 ∷ []) (7 ∷ []) (sector_at p 7).value))
  pub grows : Written p (grow file_a bytes_more) (12 ∷ []) [] (grown_writes p file_a 600 7 bytes_more (7 ∷ []) (12 ∷ []))
  pub cuts : Written p (cut file_a 100) [] (7 ∷ []) (cutting p 100 6 (7 ∷ []))
  pub titles : Written p (title file_a name_z) [] [] (titling p name_z 5)
  pub stamps : Written p (stamp file_a 2000) [] [] (stamping p 2000 7 2 88 5)
  pub leaves : Written p (leave dir_d name_b) [] [] (value_writes 9 (entry_freed p 9 [] file_b name_b))
  pub drops : Written p (drop_file file_a) [] (5 ∷ 6 ∷ 7 ∷ []) (drop_writes 5 (6 ∷ 7 ∷ []) 2 (entry_freed p 2 system_items file_a name_a))
  pub widens : Written p (widen dir_d) (12 ∷ []) [] (grown_writes p dir_d 510 9 widening_bytes [] (12 ∷ []))

-- so it is of the pack on which three lines were run
abbrev pub WritingsAreMet : Type 0
WritingsAreMet = MeetsWritings peopled

-- A make after its new serial.
abbrev pub MakeIsWritten : Type 0
MakeIsWritten = Written numbered_b (make file_b name_b 1000) (11 ∷ 10 ∷ []) [] (making numbered_b file_b name_b 10 11)

-- ---- values, and a cache
-- each sector has records as those of a disk, so that each page has a value of 256 words
abbrev pub ValuesAreFull : Type 0
ValuesAreFull = AreFormed peopled × HasFullValues peopled

-- a cache that lists both pages of a new file
abbrev pub cache_b : List CachedAt
cache_b = (record { fid = file_b; number = 0 }, 10) ∷ (record { fid = file_b; number = 1 }, 11) ∷ []

-- It lists them, so that all hints of the file are handy once it is made.
pub record MeetsNewPages : Type 0 where
  pub lists : ListsNewPages file_b 10 11 cache_b
  pub handy : Handy made_b file_b cache_b

abbrev pub NewPagesAreListed : Type 0
NewPagesAreListed = MeetsNewPages
