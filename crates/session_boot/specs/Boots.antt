-- A whole session on a machine that is modelled.
use Rattle.std.specs.Prelude.{◌≡◌, ◌⊎◌, ◌<◌, ◌^◌, ℕ, List, [], Option, Some, Result, Ok, Err}
use Rattle.disk_records.specs.declared.records.Page.{Page}
use Rattle.disk_records.specs.declared.records.Place.{Place}
use Rattle.disk_records.specs.declared.records.Tally.{Tally}
use Rattle.disk_records.specs.Events.{writes_in}
use Rattle.disk_records.specs.Tapes.{Grown, Rose, Taped, added, capped, pack}
use Rattle.exec_session.specs.Opens.{MisledOpening}
use Rattle.executive.specs.pack_model.specs.hints.Tables.{HintsTrue}
use Rattle.executive.specs.pack_model.specs.reading.Sights.{sights}
use Rattle.executive.specs.pack_model.specs.states.Sentences.{EachOnce}
use Rattle.executive.specs.pack_model.specs.states.Sound.{Clean, Sound, mark_of}
use Rattle.session_model.specs.Ending.{BootOf, EndsBy, NotBegun, NotEntered, SessionOf, ShowsWhy, Stop, Unentered, done, needs_scavenge, disk_failed, display_failed, keys_failed, no_memory}
use Rattle.session_model.specs.Keeping.{Kept}
use Rattle.session_model.specs.Opening.{Begun, Unready, not_clean, unready, unready_text}
use Rattle.session_model.specs.Turning.{State, hint_text}
use Rattle.session_boot.specs.declared.status.Fault.{Fault}
use Rattle.session_boot.specs.declared.status.Status.{Status}
use Rattle.session_boot.specs.declared.status.Status.TheVariants as status
use Rattle.session_boot.specs.Faults.{stop_of, stop_of_need}

-- the answers of a session
abbrev pub AnswersBoot : Status → Type 0
AnswersBoot status.Done = Unit {0}
AnswersBoot status.Usage = ⊥
AnswersBoot status.NeedsScavenge = Unit {0}
AnswersBoot status.DiskFault = Unit {0}
AnswersBoot status.KeyFault = Unit {0}
AnswersBoot status.DisplayFault = Unit {0}
AnswersBoot status.Memory = Unit {0}
AnswersBoot status.CannotScavenge = ⊥

-- ---- how a session ended, by its status; Usage and CannotScavenge are of none
abbrev pub EndsAs : Status → (Stop → Type 0) → Type 0
EndsAs status.Done P = P done
EndsAs status.Usage P = ⊥
EndsAs status.NeedsScavenge P = P needs_scavenge
EndsAs status.DiskFault P = P disk_failed
EndsAs status.KeyFault P = P keys_failed
EndsAs status.DisplayFault P = P display_failed
EndsAs status.Memory P = P no_memory
EndsAs status.CannotScavenge P = ⊥

abbrev pub Boots : ℕ → Taped → Taped → Tally → Tally → Status → Type 0
Boots moment old new given tally answer = EndsAs answer (λ stop. BootOf moment old new given tally stop)

abbrev pub DoesntEnter : Taped → Taped → Tally → Tally → Status → Type 0
DoesntEnter old new given tally answer = EndsAs answer (λ stop. NotEntered old new given tally stop)

-- as of a pack that isn't ready since its mark isn't clean
abbrev pub TellsMark : Taped → Taped → Tally → Tally → Status → Type 0
TellsMark old new given tally answer = EndsAs answer (λ stop. Unentered old new stop (not_clean (mark_of (sights (pack old)))) × NotBegun old new given tally)

-- The text names a hint that misled on the way, and only one that is met before the reason: where DiskDescriptor has no entry one of SysDir.
pub record NamesHint (old new : Taped) (stop : Stop) : Type 0 where
  pub place : Place
  pub at : ℕ
  pub wanted : Page
  pub found : Option (List ℕ)
  pub misled : MisledOpening (pack old) place at wanted found
  pub shows : ShowsWhy stop (hint_text place at wanted found) (added old new)

-- of a pack that carries no page twice: the reason, or such a hint, or nothing
abbrev pub TellsInOrder : Taped → Taped → Stop → Type 0
TellsInOrder old new stop = (u : Unready) → EachOnce (sights (pack old)) → unready (pack old) ≡ Some u → ShowsWhy stop (unready_text u) (added old new) ⊎ (NamesHint old new stop ⊎ (added old new ≡ []))

-- no device failed
pub record NoneRose (old new : Taped) : Type 0 where
  pub disk : Rose old.disk_faults new.disk_faults → ⊥
  pub keys : Rose old.key_faults new.key_faults → ⊥
  pub display : Rose old.show_faults new.show_faults → ⊥

-- Of a machine that is modelled. A sound and clean pack: the session; and where its hints are true and no device failed it is done, or
-- out of memory. A pack that isn't ready, as a sound one whose mark is open: one text and nothing else, of the first that stops the opening.
pub record Booted (moment : ℕ) (old new : Taped) (given tally : Tally) (answer : Status) : Type 0 where
  pub boots : Sound (pack old) → Clean (pack old) → Boots moment old new given tally answer
  pub complete : Sound (pack old) → Clean (pack old) → HintsTrue (pack old) → NoneRose old new → (answer ≡ status.Done) ⊎ (answer ≡ status.Memory)
  pub not_entered : DoesntEnter old new given tally answer
  pub in_order : EndsAs answer (λ stop. TellsInOrder old new stop)
  pub open_mark : Sound (pack old) → (Clean (pack old) → ⊥) → TellsMark old new given tally answer

-- ---- the lines of a session that has begun
-- the pack was opened by this call, which wrote nothing and took no key
pub record OpenedBy (first old : Taped) : Type 0 where
  pub grown : Grown first old
  pub silent : added first old ≡ []
  pub keys : old.keys ≡ first.keys
  pub counts : first.writes ≡ capped (writes_in first.events)

-- the session, from that call on
pub record LastsTo (moment : ℕ) (old new : Taped) (given tally : Tally) (stop : Stop) : Type 0 where
  pub end : Option State
  pub session : SessionOf moment old new given tally stop end
  pub ends : EndsBy stop old new end

abbrev pub LastsBy : ℕ → Taped → Taped → Tally → Kept → Result (Unit {0}) Fault → Type 0
LastsBy moment first new given two (Ok x) = LastsTo moment first new given two.tally (stop_of_need two.need)
LastsBy moment first new given two (Err fault) = LastsTo moment first new given two.tally (stop_of fault)

abbrev pub Lasts : Taped → Taped → Kept → Kept → Result (Unit {0}) Fault → Type 0
Lasts old new one two result = (moment : ℕ) (first : Taped) (given : Tally) → given.limit < 2 ^ 64 → OpenedBy first old → Sound (pack first) → Begun (pack first) one moment given.limit → LastsBy moment first new given two result
