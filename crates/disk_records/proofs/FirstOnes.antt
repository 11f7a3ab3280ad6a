-- First parts of lists of events.
use Rattle.std.proofs.Common.{◌≡◌, List, [], ◌∷◌, ◌++◌, refl}
use Rattle.disk_records.specs.declared.records.Event.{Event}
use Rattle.disk_records.specs.Events.{IsFirstOf}

pub first_all : (ws : List Event) → IsFirstOf ws ws
first_all [] = tt
first_all (w ∷ ws) = (refl, first_all ws)

-- more is wanted
pub first_front : (ws vs a : List Event) → IsFirstOf ws a → IsFirstOf (ws ++ vs) a
first_front ws vs [] h = tt
first_front [] vs (x ∷ a) h = elim h [ ]
first_front (w ∷ ws) vs (x ∷ a) h = (h.0, first_front ws vs a h.1)

-- all that was wanted, and then a prefix of what is wanted next
pub first_then : (ws vs a b : List Event) → a ≡ ws → IsFirstOf vs b → IsFirstOf (ws ++ vs) (a ++ b)
first_then ws vs a b e h = rw e (along ws h)
  where
    along : (us : List Event) → IsFirstOf vs b → IsFirstOf (us ++ vs) (us ++ b)
    along [] h = h
    along (u ∷ us) h = (refl, along us h)

pub none_of_none : (events : List Event) → IsFirstOf [] events → events ≡ []
none_of_none [] h = refl
none_of_none (x ∷ events) h = elim h [ ]
