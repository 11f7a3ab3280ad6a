-- The sector commands, cut by cut: what they show and what is read.
use Rattle.std.proofs.Common.{List, None, [], ap, cond, get_or, refl, set, sym, true, ℕ, ◌∙◌, ◌∷◌, ◌≡◌, ◌≢◌}
use Rattle.std.proofs.lemmas.List.{set-get_or}
use Rattle.laws_contents.specs.disk_records.specs.Commands.{claim_writes, ones, relabel_writes, release_writes, value_writes}
use Rattle.laws_contents.specs.disk_records.specs.Labels.{in_range, is_free, page_of, tag}
use Rattle.laws_contents.specs.disk_records.specs.Packs.{Pack, after, is_usable, no_sector, sector_at, with_part}
use Rattle.laws_contents.specs.disk_records.specs.declared.records.Event.TheVariants.{Wrote}
use Rattle.laws_contents.specs.pack_model.specs.operations.Committing.{MakesMove}
use Rattle.laws_contents.specs.pack_model.specs.sessions.Meanings.{reading}
use Rattle.laws_contents.specs.pack_model.specs.reading.Model.{Model, good_one, read_as, read_sights}
use Rattle.laws_contents.specs.pack_model.specs.sessions.Moves.{Obeys, rest, write}
use Rattle.laws_contents.specs.pack_model.specs.operations.Operations.{Move, moved}
use Rattle.laws_contents.specs.pack_model.specs.operations.Operations.Move.{quiet}
use Rattle.laws_contents.specs.pack_model.specs.reading.Sights.{Sight, sight, sights, tag_sight}
use Rattle.laws_contents.specs.pack_model.specs.reading.Sights.Sight.{free, hidden}
use Rattle.laws_contents.specs.pack_laws.proofs.Guarding.{free_shown, here_written, other_kept}
use Rattle.laws_contents.specs.pack_laws.proofs.Sighted.{sights-write}
use Rattle.laws_contents.specs.laws_record.proofs.Unseen.{sights_kept}
use Rattle.laws_operation.proofs.Showing.{free_is, is_here, usable_is}

-- the value of a free sector isn't shown
quiet_free : (p : Pack) (at : ℕ) (value : List ℕ) → is_free (tag (sector_at p at).label) ≡ true → sights (after p (Wrote at 2 value ∷ [])) ≡ sights p
unfolding sight
quiet_free p at value e = sights_kept p at 2 value (ap (λ s. cond (is_usable p.shape at (sector_at p at)) s hidden) (free_shown (tag (sector_at p at).label) value e ∙ sym (free_shown (tag (sector_at p at).label) (sector_at p at).value e)))

-- the value that stands there
written_again : (p : Pack) (at : ℕ) (value : List ℕ) → value ≡ (sector_at p at).value → after p (Wrote at 2 value ∷ []) ≡ p
written_again p at value e = ap (λ v. after p (Wrote at 2 v ∷ [])) e ∙ ap (λ ss. record { shape = p.shape; sectors = ss }) (set-get_or p.sectors at no_sector)

-- ones name no page
pub ones_none : page_of (ones 8) ≡ None
unfolding in_range
ones_none = refl

-- ---- one record
module _ (p : Pack) (at : ℕ) (good : good_one (get_or (sights p) at hidden) ≡ 1) where
  -- what is shown once a record is written
  sets : (part : ℕ) (words : List ℕ) → is_usable p.shape at (with_part part words (sector_at p at)) ≡ true → sights (after p (Wrote at part words ∷ [])) ≡ set (sights p) at (tag_sight (tag (with_part part words (sector_at p at)).label) (with_part part words (sector_at p at)).value)
  unfolding sight
  sets part words u = sights-write p at part words ∙ ap (λ b. set (sights p) at (cond b (tag_sight (tag (with_part part words (sector_at p at)).label) (with_part part words (sector_at p at)).value) hidden)) u

  -- another label
  pub label_shows : (label : List ℕ) (s : Sight) → tag_sight (tag label) (sector_at p at).value ≡ s → sights (after p (Wrote at 1 label ∷ [])) ≡ set (sights p) at s
  label_shows label s e = sets 1 label (usable_is p at good) ∙ ap (set (sights p) at) e

  -- another value
  pub value_shows : (value : List ℕ) (s : Sight) → tag_sight (tag (sector_at p at).label) value ≡ s → sights (after p (Wrote at 2 value ∷ [])) ≡ set (sights p) at s
  value_shows value s e = sets 2 value (usable_is p at good) ∙ ap (set (sights p) at) e

  -- VALUE: one move
  pub value_obeys : (m : Model) (o : Move) (value : List ℕ) (s : Sight) → tag_sight (tag (sector_at p at).label) value ≡ s → read_as p ≡ m → MakesMove p (Wrote at 2 value) o → read_sights p.shape (set (sights p) at s) ≡ moved m o
      → Obeys reading m p (value_writes at value) (o ∷ [])
  value_obeys m o value s e was makes now = write was makes (rest (ap (read_sights p.shape) (value_shows value s e) ∙ now))

  -- RELABEL: the first record makes the move, and the value is written again
  same_value : (label : List ℕ) → after p (relabel_writes at label (sector_at p at).value) ≡ after p (Wrote at 1 label ∷ [])
  same_value label =
      written_again (after p (Wrote at 1 label ∷ [])) at (sector_at p at).value (sym (ap (λ s. s.value) (here_written p at 1 label (is_here p at good))))

  -- both
  pub relabel_shows : (label value : List ℕ) (s : Sight) → value ≡ (sector_at p at).value → tag_sight (tag label) (sector_at p at).value ≡ s → sights (after p (relabel_writes at label value)) ≡ set (sights p) at s
  relabel_shows label value s v e = ap (λ x. sights (after p (relabel_writes at label x))) v ∙ ap sights (same_value label) ∙ label_shows label s e

  -- cut by cut
  pub relabel_obeys : (m : Model) (o : Move) (label value : List ℕ) (s : Sight) → value ≡ (sector_at p at).value → tag_sight (tag label) (sector_at p at).value ≡ s → read_as p ≡ m → MakesMove p (Wrote at 1 label) o → read_sights p.shape (set (sights p) at s) ≡ moved m o
      → Obeys reading m p (relabel_writes at label value) (o ∷ quiet ∷ [])
  relabel_obeys m o label value s v e was makes now =
      write was makes (write (ap (read_sights p.shape) (label_shows label s e) ∙ now) tt (rest (ap (read_sights p.shape) (relabel_shows label value s v e) ∙ now)))

  -- RELEASE: a label that is free, and then any value
  pub release_shows : (label value : List ℕ) → is_free (tag label) ≡ true → sights (after p (relabel_writes at label value)) ≡ set (sights p) at free
  release_shows label value blank =
      let q : Pack = after p (Wrote at 1 label ∷ []) in
      quiet_free q at value (ap (λ s. is_free (tag s.label)) (here_written p at 1 label (is_here p at good)) ∙ blank)
      ∙ label_shows label free (free_shown (tag label) (sector_at p at).value blank)

  -- cut by cut
  pub release_obeys : (m : Model) (o : Move) (label value : List ℕ) → is_free (tag label) ≡ true → read_as p ≡ m → MakesMove p (Wrote at 1 label) o → read_sights p.shape (set (sights p) at free) ≡ moved m o
      → Obeys reading m p (relabel_writes at label value) (o ∷ quiet ∷ [])
  release_obeys m o label value blank was makes now =
      write was makes (write (ap (read_sights p.shape) (label_shows label free (free_shown (tag label) (sector_at p at).value blank)) ∙ now)
      tt (rest (ap (read_sights p.shape) (release_shows label value blank) ∙ now)))

-- CLAIM: of a free sector; the second record makes the move
module _ (p : Pack) (at : ℕ) (is : get_or (sights p) at hidden ≡ free) (label value : List ℕ) (s : Sight) (e : tag_sight (tag label) value ≡ s) where
  -- the value of a free sector shows nothing
  same_sights : sights (after p (Wrote at 2 value ∷ [])) ≡ sights p
  same_sights = quiet_free p at value (free_is p at is)

  -- it is good still
  still_good : good_one (get_or (sights (after p (Wrote at 2 value ∷ []))) at hidden) ≡ 1
  still_good = ap (λ ss. good_one (get_or ss at hidden)) same_sights ∙ ap good_one is

  -- it holds the value
  its_value : value ≡ (sector_at (after p (Wrote at 2 value ∷ [])) at).value
  its_value = sym (ap (λ s. s.value) (here_written p at 2 value (is_here p at (ap good_one is))))

  -- and shows the page once it has the label
  its_sight : tag_sight (tag label) (sector_at (after p (Wrote at 2 value ∷ [])) at).value ≡ s
  its_sight = ap (tag_sight (tag label)) (sym its_value) ∙ e

  -- what is shown at the end
  pub claim_shows : sights (after p (claim_writes at label value)) ≡ set (sights p) at s
  claim_shows = relabel_shows (after p (Wrote at 2 value ∷ [])) at still_good label value s its_value its_sight ∙ ap (λ ss. set ss at s) same_sights

  -- at the label the page is there
  pub claim_label : sights (after (after p (Wrote at 2 value ∷ [])) (Wrote at 1 label ∷ [])) ≡ set (sights p) at s
  claim_label = label_shows (after p (Wrote at 2 value ∷ [])) at still_good label s its_sight ∙ ap (λ ss. set ss at s) same_sights

  -- cut by cut
  pub claim_obeys : (m : Model) (o : Move) → read_as p ≡ m → MakesMove (after p (Wrote at 2 value ∷ [])) (Wrote at 1 label) o → read_sights p.shape (set (sights p) at s) ≡ moved m o → Obeys reading m p (claim_writes at label value) (quiet ∷ o ∷ quiet ∷ [])
  claim_obeys m o was makes now = write was tt (relabel_obeys (after p (Wrote at 2 value ∷ [])) at still_good m o label value s its_value its_sight
      (ap (read_sights p.shape) same_sights ∙ was) makes (ap (λ ss. read_sights p.shape (set ss at s)) same_sights ∙ now))

-- other sectors keep their words
pub claim_apart : (p : Pack) (at i : ℕ) (label value : List ℕ) → i ≢ at → sector_at (after p (claim_writes at label value)) i ≡ sector_at p i
claim_apart p at i label value ne =
    other_kept (after p (Wrote at 2 value ∷ Wrote at 1 label ∷ [])) at 2 value i ne
    ∙ other_kept (after p (Wrote at 2 value ∷ [])) at 1 label i ne ∙ other_kept p at 2 value i ne

-- a release keeps the words of other sectors
pub release_apart : (p : Pack) (at i : ℕ) → i ≢ at → sector_at (after p (release_writes at)) i ≡ sector_at p i
release_apart p at i ne = other_kept (after p (Wrote at 1 (ones 8) ∷ [])) at 2 (ones 256) i ne ∙ other_kept p at 1 (ones 8) i ne
