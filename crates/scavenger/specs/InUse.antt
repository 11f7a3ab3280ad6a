-- The pages of one file that are in use.
use Rattle.std.specs.Prelude.{◌==◌, ◌&&◌, ℕ, Bool, false, not, nat_le, Option}
use Rattle.std.specs.Option.{option_map_or}
use Rattle.alto_words.specs.declared.fid.Fid.{Fid}
use Rattle.alto_words.specs.Fid.{is_fid, sys_dir}
use Rattle.disk_records.specs.declared.records.Page.{Page}
use Rattle.disk_records.specs.Packs.{Pack}
use Rattle.pack_model.specs.reading.Bodies.{body_of}
use Rattle.pack_model.specs.reading.Files.{file_bytes}
use Rattle.pack_model.specs.reading.Sights.{sights}
use Rattle.pack_model.specs.scavenger.Needed.{file_lacks}
use Rattle.pack_model.specs.states.InUse.{last_page}

-- the number of a living file's last page in use
abbrev pub last_in_use : Pack → Fid → ℕ
last_in_use p f = last_page p.shape f (body_of f (file_bytes (sights p) f))

-- how many of its pages up to that one no sector carries
abbrev pub lacking_of : Pack → Fid → ℕ
lacking_of p f = file_lacks p.shape (sights p) f (body_of f (file_bytes (sights p) f))

-- SysDir's leader page
abbrev pub is_root : Page → Bool
is_root page = is_fid page.fid sys_dir && (page.number == 0)

-- a page of this file, whose last page in use is given, takes sector 1 from it
abbrev pub takes_of : Option Page → Fid → ℕ → Bool
takes_of first f last = option_map_or (λ page. is_fid page.fid f && (nat_le page.number last && not (is_root page))) first false
