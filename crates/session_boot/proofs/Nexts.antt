-- A line whose keys were taken before its turn.
use Rattle.std.proofs.Common.{◌≡◌, ◌∙◌, inr, ℕ, List, Result, Err, length, drop, ap, subst, sym}
use Rattle.std.specs.Prelude.{IsErrOf, Option}
use Rattle.disk_records.specs.declared.records.Event.{Event}
use Rattle.disk_records.specs.Packs.{after}
use Rattle.disk_records.specs.Tapes.{KeysAlone, Taped, added, first_pack, pack}
use Rattle.session_model.specs.Ending.{cue_of}
use Rattle.session_model.specs.Keeping.{Kept}
use Rattle.session_boot.specs.Keys.{TookWhole}
use Rattle.session_boot.specs.Turns.{LineTaken, NextTurn, TakesTurnBy, TurnsFrom, is_over}
use Rattle.session_boot.specs.declared.line.Next.{Next}
use Rattle.session_boot.specs.declared.status.Fault.{Fault}
use Rattle.session_boot.specs.declared.status.Fault.TheVariants.{Key}

-- taking keys leaves the pack
pub keys_pack : {x y : Taped} → KeysAlone x y → pack y ≡ pack x
keys_pack {x} {y} keys =
    let begun : first_pack y ≡ first_pack x = ap (λ s. record { shape = s; sectors = y.base }) keys.grown.form ∙ ap (λ b. record { shape = x.form; sectors = b }) keys.grown.base in
    ap (λ p. after p y.events) begun ∙ ap (after (first_pack x)) keys.events

pub keys_added : {x y : Taped} (z : Taped) → KeysAlone x y → added y z ≡ added x z
keys_added z keys = ap (λ (e : List Event). drop (length e) z.events) keys.events

module _ {x y z : Taped} {one two : Kept} {before after : ℕ} (text : List ℕ) (keys : KeysAlone x y) (same : z.keys ≡ y.keys) (took : TookWhole x.keys y.keys before after text) where
  line_taken : (result : Result Next Fault) → TakesTurnBy y z one two (cue_of text) result → LineTaken x z one two before after result
  line_taken result turn = record {
    text = text;
    took = subst (λ k. TookWhole x.keys k before after text) (sym same) took;
    turn = subst (λ p. TurnsFrom is_over p (added x z) x.writes z one two (cue_of text) result) (keys_pack keys)
        (subst (λ e. TurnsFrom is_over (pack y) e x.writes z one two (cue_of text) result) (keys_added z keys)
        (subst (λ w. TurnsFrom is_over (pack y) (added y z) w z one two (cue_of text) result) keys.writes turn));
  }

  pub next_broke : (result : Result (Option Next) Fault) (fault : Fault) → TakesTurnBy y z one two (cue_of text) (Err fault) → (IsErrOf {T = Next} (Err fault) Key → ⊥) → result ≡ Err fault → NextTurn x z one two before after result
  next_broke result fault turn other is = subst (NextTurn x z one two before after) (sym is) (inr (line_taken (Err fault) turn, λ key. other (ap (λ f. Err f) key)))
