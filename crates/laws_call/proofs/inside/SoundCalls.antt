-- Calls that are a line from a sound pack.
use Rattle.std.proofs.Common.{Err, List, Ok, OnOk, Result, [], refl, subst, sym, ℕ, ◌++◌, ◌∷◌, ◌≡◌}
use Rattle.laws_hint.specs.disk_records.proofs.FirstOnes.{first_front, first_then}
use Rattle.laws_hint.specs.disk_records.specs.Events.{IsFirstOf}
use Rattle.laws_hint.specs.disk_records.specs.Packs.{Pack, after}
use Rattle.laws_hint.specs.disk_records.specs.declared.records.Event.{Event}
use Rattle.laws_hint.specs.pack_model.specs.operations.Step.{Operation}
use Rattle.laws_hint.specs.pack_model.specs.sessions.Moves.{IsStartOf}
use Rattle.laws_call.specs.Going.{Goes}
use Rattle.laws_call.specs.SoundCalls.{CallsOnASoundPack, LineFits}
use Rattle.laws_hint.specs.LineLinks.{opening_writes}
use Rattle.laws_hint.specs.laws_line.proofs.sound.Laws.{broken_line_on_a_sound_pack, crashes_of_a_line_on_a_sound_pack, part_of_a_line_on_a_sound_pack}
use Rattle.laws_hint.specs.laws_line.specs.CrashLaws.{Batch, over}
use Rattle.laws_hint.specs.laws_line.specs.SoundLines.{LineOnSound}
use Rattle.laws_hint.specs.laws_line.specs.SoundParts.{BreaksOnSound, PartOnSound}

-- what is left of a list after a prefix
record Rest {X : Type 0} (a all : List X) : Type 0 where
  more : List X
  split : a ++ more ≡ all

rest_of : {X : Type 0} (a all : List X) → IsStartOf a all → Rest a all
rest_of [] all h = record { more = all; split = refl }
rest_of (x ∷ a) [] h = elim h [ ]
rest_of (x ∷ a) (y ∷ all) h = let r = rest_of a all h.1 in record { more = r.more; split = λ i. h.0 i ∷ r.split i }

module _ (p : Pack) (at : ℕ) (ops : List Operation) (fits : LineFits p at ops) where
  -- the first operations of the line
  part : (events : List Event) (begun more : List Operation) → begun ++ more ≡ ops → Batch (after p (opening_writes p at)) events begun → PartOnSound p (opening_writes p at ++ events) begun ops
  part events begun more split line =
      subst (λ all. PartOnSound p (opening_writes p at ++ events) begun all) split
      (by (subst (LineFits p at) (sym split) fits))
    where
      by : LineFits p at (begun ++ more) → PartOnSound p (opening_writes p at ++ events) begun (begun ++ more)
      by whole = part_of_a_line_on_a_sound_pack p at events begun more whole.sound whole.placed whole.some whole.line whole.room line

  breaks : {T E : Type 0} (events : List Event) (result : Result T E) → Goes (after p (opening_writes p at)) ops events result → BreaksOnSound p (opening_writes p at ++ events) ops
  breaks events result h =
      let r = rest_of h.begun ops h.start in
      broken_line_on_a_sound_pack p (opening_writes p at ++ h.writes) (opening_writes p at ++ events) h.begun ops (part h.writes h.begun r.more r.split h.line)
      (first_then (opening_writes p at) h.writes (opening_writes p at) events refl h.some)

  opening : (wrote : List Event) → IsFirstOf (opening_writes p at) wrote → BreaksOnSound p wrote ops
  opening wrote first = broken_line_on_a_sound_pack p (opening_writes p at ++ []) wrote [] ops (part [] [] ops refl over) (first_front (opening_writes p at) [] wrote first)

  done : {T E : Type 0} (events : List Event) (result : Result T E) → Goes (after p (opening_writes p at)) ops events result → OnOk result (LineOnSound p (opening_writes p at ++ events) ops)
  done events (Err e) h = tt
  done events (Ok x) h =
      crashes_of_a_line_on_a_sound_pack p at events ops fits.sound fits.placed fits.some fits.line fits.room
      (subst (λ l. Batch (after p (opening_writes p at)) l ops) (sym h.all.1) (subst (λ l. Batch (after p (opening_writes p at)) h.writes l) h.all.0 h.line))

pub calls_on_a_sound_pack : (T E : Type 0) → CallsOnASoundPack T E
calls_on_a_sound_pack T E p at ops fits = record {
  opening_breaks = opening p at ops fits;
  breaks = λ events result h. breaks p at ops fits events result h;
  done = λ events result h. done p at ops fits events result h;
}
