-- The least full name with a serial, of the leaders that a sweep has met, and where its leader is.
use Rattle.std.specs.Option.{option_map}
use Rattle.std.specs.Prelude.{◌≡◌, ℕ, Option}
use Rattle.laws_steps.specs.SerialLaws.{LeaderMet, least_leader}
use Rattle.pack_model.specs.reading.Sights.{Sight}
use Rattle.exec_session.specs.declared.serials.LeaderAt.{LeaderAt}
use Rattle.exec_session.specs.declared.serials.LeastLeader.{LeastLeader}

-- a file and the sector of its leader
abbrev pub leader_of : Option LeaderAt → Option LeaderMet
leader_of = option_map (λ l. (l.fid, l.at))

-- one sector more
abbrev pub MeetsLeader : LeastLeader → ℕ → Sight → LeastLeader → Type 0
MeetsLeader old at s new = (new.serial ≡ old.serial) × (leader_of new.best ≡ least_leader old.serial (leader_of old.best) at s)
