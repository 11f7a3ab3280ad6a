-- Runs of record writes, one after another.
use Rattle.std.proofs.Common.{◌++◌, ◌∙◌, ◌∷◌, List, [], ap, arith, subst, suc, sym, zero, ℕ}
use Rattle.pack_laws.specs.disk_records.proofs.Growing.{after-append}
use Rattle.pack_laws.specs.disk_records.specs.Events.{IsFirstOf}
use Rattle.pack_laws.specs.disk_records.specs.Packs.{Pack, after, crash}
use Rattle.pack_laws.specs.disk_records.specs.declared.records.Event.{Event}
use Rattle.pack_laws.specs.pack_model.specs.sessions.Moves.{Meaning, Obeys, steps}
use Rattle.pack_laws.specs.pack_model.specs.scavenger.Scavenging.{Keeps, Mends, Throughout}
use Rattle.pack_laws.proofs.Moving.{obeys_then, steps-append}
use Rattle.laws_record.specs.ChainLaws.{MakesRun, KeptTogether, RunsChain, ScavengesJoin, ShowsSame}

-- ---- moves
module _ {M O : Type 0} (means : Meaning M O) where
  -- the second run from the model where the first ends
  from_there : {p : Pack} {a b : List Event} {ops more : List O} → MakesRun means p a ops → Obeys means (means.read (after p a)) (after p a) b more → Obeys means (steps means (means.read p) ops) (after p a) b more
  from_there {p} {a} {b} {ops} {more} f o = subst (λ m. Obeys means m (after p a) b more) f.ends o

  -- both together
  pub runs_chain : RunsChain means
  runs_chain = record {
    whole = λ p a b ops more f g. record {
      each = obeys_then means f.each (from_there f g.each);
      ends = ap means.read (after-append p a b) ∙ g.ends ∙ ap (λ m. steps means m more) f.ends ∙ sym (steps-append means (means.read p) ops more);
    };
    broken = λ p a b ops more f o. obeys_then means f.each (from_there f o);
  }

-- ---- properties of each crash
module _ (P : Pack → Type 0) where
  -- one after another
  pub run_on : (p : Pack) (a b : List Event) → Throughout P p a → Throughout P (after p a) b → Throughout P p (a ++ b)
  run_on p [] b r s = s
  run_on p (e ∷ a) b r s = (r.0, run_on (after p (e ∷ [])) a b r.1 s)

  -- each crash
  pub at_cut : (p : Pack) (events : List Event) → Throughout P p events → (k : ℕ) → P (crash p events k)
  at_cut p [] r zero = r
  at_cut p [] r (suc k) = r
  at_cut p (e ∷ events) r zero = r.0
  at_cut p (e ∷ events) r (suc k) = at_cut (after p (e ∷ [])) events r.1 k

  -- the first pack, and the last one
  pub at_start : (p : Pack) (events : List Event) → Throughout P p events → P p
  at_start p [] r = r
  at_start p (e ∷ events) r = r.0

  pub at_end : (p : Pack) (events : List Event) → Throughout P p events → P (after p events)
  at_end p [] r = r
  at_end p (e ∷ events) r = at_end (after p (e ∷ [])) events r.1

  -- a run that breaks off
  pub broken_off : (p : Pack) (wanted events : List Event) → IsFirstOf wanted events → Throughout P p wanted → Throughout P p events
  broken_off p wanted [] first r = at_start p wanted r
  broken_off p [] (e ∷ events) first r = elim first [ ]
  broken_off p (w ∷ wanted) (e ∷ events) first r = (r.0, subst (λ x. Throughout P (after p (x ∷ [])) events) (sym first.0) (broken_off (after p (w ∷ [])) wanted events first.1 r.1))

-- a property that carries over
pub throughout_map : (P Q : Pack → Type 0) → ((q : Pack) → P q → Q q) → (p : Pack) (events : List Event) → Throughout P p events → Throughout Q p events
throughout_map P Q g p [] r = g p r
throughout_map P Q g p (e ∷ events) r = (g p r.0, throughout_map P Q g (after p (e ∷ [])) events r.1)

-- what is kept of what is kept is kept
pub kept_together : (kept : Pack → Pack → Type 0) → ((p q r : Pack) → kept p q → kept q r → kept p r) → KeptTogether kept
kept_together kept trans p a b r s = run_on (kept p) p a b r (throughout_map (kept (after p a)) (kept p) (λ q k. trans p (after p a) q (at_end (kept p) p a r) k) (after p a) b s)

-- what the Scavenger keeps
pub keeps_trans : (p q r : Pack) → Keeps p q → Keeps q r → Keeps p r
keeps_trans p q r a b = record {
  shown = b.shown ∙ a.shown;
  balance = (let x = a.balance in let y = b.balance in omega arith);
  scavengeable = λ s. b.scavengeable (a.scavengeable s);
}

-- the Scavenger's runs
pub scavenges_join : ScavengesJoin
scavenges_join = record {
  shown = kept_together ShowsSame (λ p q r a b. b ∙ a);
  kept = kept_together Keeps keeps_trans;
  unclean = kept_together Mends (λ p q r a b. record { keeps = keeps_trans p q r a.keeps b.keeps; unclean = b.unclean });
  cuts = λ p events r k. at_cut (Keeps p) p events r k;
}
