-- Where the address of a file's leader came from.
-- Addresses that are kept as hints are those of the SOSP 1979 paper; which sources there are is this project's choice.
use Rattle.std.specs.Prelude.{◌≡◌, ℕ, Some}
use Rattle.disk_records.specs.alto_words.specs.declared.fid.Fid.{Fid}
use Rattle.disk_records.specs.alto_words.specs.Fid.{sys_dir}
use Rattle.disk_records.specs.declared.records.Place.{Place}
use Rattle.disk_records.specs.declared.records.Place.TheVariants.{Root, Entry, Next, Held}
use Rattle.disk_records.specs.Packs.{Pack, carried}
use Rattle.pack_model.specs.hints.Misled.{StandsInEntry, leader_page}

-- SysDir has a fixed address. An entry has one in its address word, which may mislead. One that was checked before is that of a sector
-- which carries the leader still. No link is where a file is found.
abbrev pub IsFrom : Pack → Fid → ℕ → Place → Type 0
IsFrom p f at Root = (at ≡ 1) × (f ≡ sys_dir)
IsFrom p f at (Entry d w) = StandsInEntry p d w at (leader_page f)
IsFrom p f at (Next i) = ⊥
IsFrom p f at (Held i) = (at ≡ i) × (carried p at ≡ Some (leader_page f))
