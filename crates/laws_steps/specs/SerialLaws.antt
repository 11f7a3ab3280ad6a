-- A file by its serial, sector by sector.
use Rattle.std.specs.Ordering.{is_lt}
use Rattle.std.specs.Option.{option_map}
use Rattle.std.specs.Prelude.{IfSome, None, Option, Some, cond, fold, ℕ, ◌==◌, ◌≡◌}
use Rattle.laws_call.specs.alto_words.specs.Fid.{fid_cmp, serial_of}
use Rattle.laws_call.specs.alto_words.specs.declared.fid.Fid.{Fid}
use Rattle.laws_call.specs.disk_records.specs.Packs.{Pack, carried}
use Rattle.laws_call.specs.pack_model.specs.hints.Misled.{leader_page}
use Rattle.laws_call.specs.pack_model.specs.reading.Files.{numbered}
use Rattle.laws_call.specs.pack_model.specs.reading.Model.{read_as}
use Rattle.laws_call.specs.pack_model.specs.reading.Sights.Sight.{free, hidden, holds, leads, stray}
use Rattle.laws_call.specs.pack_model.specs.reading.Sights.{Sight, sights}
use Rattle.laws_call.specs.pack_model.specs.states.Whole.{Whole}
use Rattle.session_model.specs.Finding.{by_serial}

-- a file, and the sector where its leader was met
abbrev pub LeaderMet : Type 0
LeaderMet = Fid × ℕ

-- the lesser of two, by their full names; the one that was met before, if these are one
abbrev pub lesser_leader : Option LeaderMet → Fid → ℕ → Option LeaderMet
lesser_leader None f at = Some (f, at)
lesser_leader (Some k) f at = cond (is_lt (fid_cmp f k.0)) (Some (f, at)) (Some k)

-- the least with this serial of those met so far and the leader that this sector shows
abbrev pub least_leader : ℕ → Option LeaderMet → ℕ → Sight → Option LeaderMet
least_leader serial met at hidden = met
least_leader serial met at free = met
least_leader serial met at stray = met
least_leader serial met at (leads f readable l) = cond (serial_of f == serial) (lesser_leader met f at) met
least_leader serial met at (holds f n bytes) = met

-- the least of all sectors
abbrev pub leader_met : ℕ → Pack → Option LeaderMet
leader_met serial p = fold (λ met e. least_leader serial met e.0 e.1) None (numbered 0 (sights p))

-- It is the file that the model has by the serial, DiskDescriptor among them, and the sector carries its leader.
pub record IsBySerial (p : Pack) (serial : ℕ) (met : Option LeaderMet) : Type 0 where
  pub fid : option_map (λ l. l.0) met ≡ by_serial (read_as p) serial
  pub carries : IfSome met (λ l. carried p l.1 ≡ Some (leader_page l.0))

-- so it is on a whole pack
abbrev pub SerialIsTheModels : Type 0
SerialIsTheModels = (p : Pack) (serial : ℕ) → Whole p → IsBySerial p serial (leader_met serial p)
