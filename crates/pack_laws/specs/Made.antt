-- Which record writes make which moves.
use Rattle.std.specs.Prelude.{List, [], ◌∷◌}
use Rattle.pack_model.specs.disk_records.specs.declared.records.Event.{Event}
use Rattle.pack_model.specs.disk_records.specs.declared.records.Event.TheVariants.{Wrote, Shown}
use Rattle.pack_model.specs.disk_records.specs.Packs.{Pack, after}
use Rattle.pack_model.specs.sessions.Moves.{Meaning}

-- Each record write makes the next move on the pack before it, shown bytes make none, and no move is left.
abbrev pub AllMade : {M O : Type 0} → Meaning M O → Pack → List Event → List O → Type 0
AllMade means p [] [] = Unit {0}
AllMade means p [] (o ∷ ops) = ⊥
AllMade means p (Wrote at part words ∷ events) [] = ⊥
AllMade means p (Wrote at part words ∷ events) (o ∷ ops) = means.Makes p (Wrote at part words) o × AllMade means (after p (Wrote at part words ∷ [])) events ops
AllMade means p (Shown byte ∷ events) ops = AllMade means p events ops
