-- Runs of record writes that carry out lists of moves, or show nothing new, one after another.
use Rattle.std.specs.Prelude.{◌++◌, ◌≡◌, List, ℕ}
use Rattle.pack_laws.specs.disk_records.specs.Packs.{Pack, after, crash}
use Rattle.pack_laws.specs.disk_records.specs.declared.records.Event.{Event}
use Rattle.pack_laws.specs.pack_model.specs.sessions.Moves.{Meaning, Obeys, steps}
use Rattle.pack_laws.specs.pack_model.specs.scavenger.Scavenging.{Keeps, Mends, Throughout}
use Rattle.pack_laws.specs.pack_model.specs.showing.Settling.{show}

-- ---- lists of moves
-- They make these moves, in lockstep, and each crash stands for the model there; at the end the pack is read as the last model.
pub record MakesRun {M O : Type 0} (means : Meaning M O) (p : Pack) (events : List Event) (ops : List O) : Type 0 where
  pub each : Obeys means (means.read p) p events ops
  pub ends : means.read (after p events) ≡ steps means (means.read p) ops

-- Two such runs, the second from where the first ends, are one. Where the second isn't read as its last model at the end, as where
-- it failed or was broken off, the two still make all moves in lockstep.
pub record RunsChain {M O : Type 0} (means : Meaning M O) : Type 0 where
  pub whole : (p : Pack) (a b : List Event) (ops more : List O) → MakesRun means p a ops → MakesRun means (after p a) b more → MakesRun means p (a ++ b) (ops ++ more)
  pub broken : (p : Pack) (a b : List Event) (ops more : List O) → MakesRun means p a ops → Obeys means (means.read (after p a)) (after p a) b more → Obeys means (means.read p) p (a ++ b) (ops ++ more)

-- ---- what is kept at each crash
-- Two runs, each of which keeps at every crash what it finds at its beginning, together keep what the first finds.
abbrev pub KeptTogether : (Pack → Pack → Type 0) → Type 0
KeptTogether kept = (p : Pack) (a b : List Event) → Throughout (kept p) p a → Throughout (kept (after p a)) (after p a) b → Throughout (kept p) p (a ++ b)

-- the pack shows the same
abbrev pub ShowsSame : Pack → Pack → Type 0
ShowsSame p q = show q ≡ show p

-- the Scavenger's runs: what is shown alone; that and what is available less what is needed; and a mark that isn't clean
pub record ScavengesJoin : Type 0 where
  pub shown : KeptTogether ShowsSame
  pub kept : KeptTogether Keeps
  pub unclean : KeptTogether Mends
  pub cuts : (p : Pack) (events : List Event) → Throughout (Keeps p) p events → (k : ℕ) → Keeps p (crash p events k)
