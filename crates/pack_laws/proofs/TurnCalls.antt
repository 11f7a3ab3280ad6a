-- Calls that are turns: whole, cut within their text, and broken off.
use Rattle.std.proofs.Common.{◌≡◌, ◌≢◌, ℕ, List, [], ◌∷◌, ◌++◌, refl, sym, subst, ◌∙◌, ap, Ok, Err, false}
use Rattle.std.proofs.lemmas.List.{append-nil}
use Rattle.pack_model.specs.disk_records.specs.declared.records.Event.{Event}
use Rattle.pack_model.specs.disk_records.specs.declared.records.Event.TheVariants.{Shown}
use Rattle.pack_model.specs.disk_records.specs.Events.{IsFirstOf, shown_events}
use Rattle.pack_model.specs.disk_records.specs.Packs.{Pack}
use Rattle.pack_model.specs.disk_records.specs.Tapes.{Taped, Grown, pack, added}
use Rattle.pack_model.specs.disk_records.proofs.Growing.{added-twice}
use Rattle.pack_model.specs.sessions.Moves.{Meaning, Obeys, IsStartOf, Does}
use Rattle.pack_model.specs.sessions.Turns.{Turn, IsTurn}
use Rattle.pack_laws.proofs.Moving.{start_self}

-- ---- calls that are turns
-- a prefix of shown bytes are the shown bytes of some first bytes
pub record ShownFirst (text : List ℕ) (shown : List Event) : Type 0 where
  pub some : List ℕ
  pub start : IsStartOf some text
  pub are : shown ≡ shown_events some

-- bytes that are shown of a text are a prefix of it
pub shown_first : (text : List ℕ) (shown : List Event) → IsFirstOf (shown_events text) shown → ShownFirst text shown
shown_first text [] h = record { some = []; start = tt; are = refl }
shown_first [] (x ∷ shown) h = elim h [ ]
shown_first (b ∷ text) (x ∷ shown) h =
    let l = shown_first text shown h.1 in
    record { some = b ∷ l.some; start = (refl, l.start); are = rw (h.0, l.are) refl }

-- a text of which nothing is shown
shown_nothing : (text : List ℕ) → shown_events text ≡ [] → text ≡ []
shown_nothing [] none = refl
shown_nothing (b ∷ text) none = absurd (some none)
  where
    some : Shown b ∷ shown_events text ≢ []
    some e = cc

module _ {M O : Type 0} (means : Meaning M O) {T E F : Type 0} where
  -- all moves are made and the text is shown
  pub turn_whole : {x y z : Taped} {u : T} {v : Unit {0}} (t : Turn O) → Grown x y → Grown y z → Does {E = E} means (pack x) (added x y) t.ops (Ok u) → added y z ≡ shown_events t.text → IsTurn {E = F} means (means.read (pack x)) (pack x) (added x z) t (Ok v)
  turn_whole {x} {y} {z} t one two did shown =
      record {
        made = t;
        wrote = added x y;
        each = subst (λ o. Obeys means (means.read (pack x)) (pack x) (added x y) o) did.all did.each;
        split = added-twice one two ∙ ap (λ l. added x y ++ l) shown;
        by = refl;
      }

  -- all moves are made, and some first bytes of the text are shown
  pub turn_cut : {x y z : Taped} {u : T} {f : F} (t : Turn O) → Grown x y → Grown y z → Does {E = E} means (pack x) (added x y) t.ops (Ok u) → IsFirstOf (shown_events t.text) (added y z)
      → (turn : IsTurn {T = Unit {0}} means (means.read (pack x)) (pack x) (added x z) t (Err f)) × (turn.made.ops ≡ t.ops) × (added y z ≡ [] → turn.made.text ≡ [])
  turn_cut {x} {y} {z} t one two did shown =
      let l = shown_first t.text (added y z) shown in (
        record {
          made = record { ops = t.ops; text = l.some; counts = false };
          wrote = added x y;
          each = subst (λ o. Obeys means (means.read (pack x)) (pack x) (added x y) o) did.all did.each;
          split = added-twice one two ∙ ap (λ e. added x y ++ e) l.are;
          by = record { start = start_self t.ops; text = l.start; later = λ h. refl; uncounted = refl };
        },
        refl,
        λ none. shown_nothing l.some (sym l.are ∙ none),
      )

  -- the moves broke off, and nothing is shown
  pub turn_broken : {p : Pack} {events : List Event} {e : E} {f : F} (t : Turn O) → Does {T = T} means p events t.ops (Err e) → (turn : IsTurn {T = Unit {0}} means (means.read p) p events t (Err f)) × (turn.made.text ≡ [])
  turn_broken {p} {events} {e} {f} t did = (
    record {
      made = record { ops = did.ops; text = []; counts = false };
      wrote = events;
      each = did.each;
      split = sym (append-nil events);
      by = record { start = did.start; text = tt; later = λ h. absurd (h refl); uncounted = refl };
    },
    refl,
  )
