-- A line that drops one file, from the call that finds it, as a turn.
use Rattle.std.proofs.Common.{◌≡◌, ◌-◌, ◌∷◌, ◌∙◌, Bool, Contains, Err, IsTrue, List, None, Ok, Result, Some, Vec, [], ap, false, refl, subst, sym, ℕ}
use Rattle.std.specs.Result.{IsErrAnd}
use Rattle.disk_records.proofs.Growing.{pack-silent}
use Rattle.disk_records.specs.Events.{writes_in}
use Rattle.disk_records.specs.Packs.{AreFormed, Pack}
use Rattle.disk_records.specs.Tapes.{DiskAlone, Taped, added, capped, pack}
use Rattle.exec_words.specs.Texts.{done_text}
use Rattle.exec_words.specs.declared.line.Line.{Line}
use Rattle.exec_words.specs.declared.line.Line.TheVariants as line
use Rattle.exec_words.specs.declared.line.Path.{Path}
use Rattle.exec_words.specs.declared.reply.Reply.TheVariants as reply
use Rattle.exec_session.specs.laws_contents.proofs.pages.Laws.{formed_pages_have_256_words}
use Rattle.pack_model.specs.reading.Files.{first}
use Rattle.pack_model.specs.reading.Model.{Model, read_as}
use Rattle.pack_model.specs.states.Sound.{Sound}
use Rattle.session_model.specs.Bounds.{DoneWithin}
use Rattle.session_model.specs.Effects.{effect}
use Rattle.session_model.specs.Keeping.{Formed, Keeping, world_of}
use Rattle.session_model.specs.Refusals.{is_obeyed_in_need}
use Rattle.session_model.specs.Replies.{refusal as refusal_to, unless_refused}
use Rattle.session_model.specs.Touched.{files_touched}
use Rattle.session_model.specs.Turning.{HintFailing, IsTakenUp, State, is_quit, is_scavenge, typed}
use Rattle.session_model.specs.Worlds.{World}
use Rattle.exec_session.proofs.Looking.{same_but_looked}
use Rattle.exec_session.proofs.Stopping.{error_is}
use Rattle.exec_session.proofs.TakingUp.{few_none, goes_on, need_none, plain_text}
use Rattle.exec_session.proofs.Turning.{line_is_refused, line_stops_unwritten, turned_is_a_turn}
use Rattle.exec_session.specs.Meant.{IfHint, IfRefused, IsTakenUpBy, LooksAbout, MayObey, TakesLine, kept, kept_replied, kept_stopped, replied, stopped}
use Rattle.exec_session.specs.Turned.{Begins, SameBut, Turned}
use Rattle.exec_session.specs.declared.operands.Found.{Found}
use Rattle.exec_session.specs.declared.session.Session.{Session}
use Rattle.exec_session.specs.declared.stop.Stop.{Stop}
use Rattle.exec_session.specs.declared.stop.Stop.TheVariants as stop
use Rattle.exec_session.proofs.LookedBefore.{looked_before, same_count}
use Rattle.exec_writing.specs.Drops.{DropsFound, FindsDropped, IsDropped}
use Rattle.exec_writing.specs.Dropping.{MayDropFound, to_drop}

-- ---- lines that drop a file
-- It says that it is done, leaves the world, goes on with the session, and isn't obeyed while a scavenge is needed; no bound is promised.
pub record IsDropping (l : Line) : Type 0 where
  pub text : (m : Model) (w : World) → (effect l m w).text ≡ done_text
  pub world : (m : Model) (w : World) → (effect l m w).world ≡ w
  pub quit : is_quit l ≡ false
  pub scavenge : is_scavenge l ≡ false
  pub needs : is_obeyed_in_need l ≡ false
  pub bound : (p : Pack) (m : Model) (n : ℕ) → DoneWithin p m l n

-- ---- a state for which what is kept is right
module _ (old : Taped) (one : Session) (l : Line) (dropping : IsDropping l) (may : MayObey old one l) (s : State) (keeping : Keeping (pack old) (kept one) s) where
  abbrev m : Model
  m = s.model

  abbrev w : World
  w = s.world

  taken : IsTakenUp s (typed l)
  taken = subst (λ x. IsTakenUpBy x l) (sym keeping.world) may.taken_up

  no_need : s.world.need ≡ false
  no_need = need_none l s.world dropping.needs taken

  sound : Sound (pack old)
  sound = keeping.stands.sound no_need

  reads : read_as (pack old) ≡ s.model
  reads = keeping.stands.reads no_need

  -- what is so of the pack is so of the state
  of_state : (P : Model → World → Type 0) → P (read_as (pack old)) (world_of (kept one)) → P s.model s.world
  of_state P h = subst (P s.model) (sym keeping.world) (subst (λ x. P x (world_of (kept one))) reads h)

  finds_here : Type 0 → Type 0
  finds_here X = Sound (pack old) → IsTakenUpBy (world_of (kept one)) l → X

  -- ---- what was found is what the line drops
  drops : (found : Found) → IsDropped (pack old) l (world_of (kept one)) found → DropsFound s l found
  drops found is =
      let unrefused : refusal_to l m w ≡ None = of_state (λ x y. refusal_to l x y ≡ None) is.unrefused in
      let files = ap (λ x. unless_refused x (files_touched l m w) []) taken in
      record {
        ops = ap (λ x. unless_refused x (effect l m w).ops []) unrefused ∙ of_state (λ x y. (effect l x y).ops ≡ to_drop found.file.fid ∷ []) is.ops;
        leaves = ap (λ x. unless_refused x (effect l m w).world w) unrefused ∙ dropping.world m w;
        says = plain_text l s dropping.quit unrefused ∙ ap reply.Done (dropping.text m w);
        file = subst (λ fs. Contains fs found.file.fid) (sym files) (of_state (λ x y. Contains (files_touched l x y) found.file.fid) is.file);
        dir = subst (λ fs. Contains fs found.dir.fid) (sym files) (of_state (λ x y. Contains (files_touched l x y) found.dir.fid) is.dir);
      }

  -- ---- the call that finds it stops the line
  module _ {told : Bool} {most : ℕ} (new : Taped) (two : Session) (is_told : IsTrue told) (about : LooksAbout told most old new one two) where
    silent : added old new ≡ []
    silent = about.looks.silent is_told

    same : SameBut old new (kept one) (kept two)
    same = same_but_looked old new about.looked (pack-silent about.looks.alone.grown silent)

    stops : (e : Stop) → IfRefused {T = Unit {0}} (Err e) (λ r. ⊥) → IfHint {T = Unit {0}} (Err e) (HintFailing (pack old) [] (files_touched l m w)) → Turned old new (kept one) (kept_stopped e (kept two)) s l (stopped e)
    stops e unrefused hint =
        line_stops_unwritten old new (kept one) (kept two) s l e keeping (goes_on l s dropping.quit dropping.scavenge) taken about.looks.alone silent same unrefused
        (subst (λ files. IfHint {T = Unit {0}} (Err e) (HintFailing (pack old) [] files)) (sym (ap (λ x. unless_refused x (files_touched l m w) []) taken)) hint)

    unfound : (e : Stop) → IfRefused {T = Unit {0}} (Err e) (λ r. refusal_to l m w ≡ Some r) → IfHint {T = Unit {0}} (Err e) (HintFailing (pack old) [] (files_touched l m w)) → Turned old new (kept one) (kept_stopped e (kept two)) s l (stopped e)
    unfound (stop.Refused r) refused hint = line_is_refused old new (kept one) (kept two) s l r keeping refused about.looks.alone silent same
    unfound (stop.Misled place at wanted found) refused hint = stops (stop.Misled place at wanted found) tt hint
    unfound stop.DiskFault refused hint = stops stop.DiskFault tt tt
    unfound stop.Memory refused hint = stops stop.Memory tt tt

    refused_too : (e : Stop) → IfRefused {T = Found} (Err e) (λ r. refusal_to l (read_as (pack old)) (world_of (kept one)) ≡ Some r) → IfRefused {T = Unit {0}} (Err e) (λ r. refusal_to l m w ≡ Some r)
    refused_too (stop.Refused r) h = of_state (λ x y. refusal_to l x y ≡ Some r) h
    refused_too (stop.Misled place at wanted found) h = tt
    refused_too stop.DiskFault h = tt
    refused_too stop.Memory h = tt

    hint_too : (e : Stop) → IfHint {T = Found} (Err e) (HintFailing (pack old) [] (files_touched l (read_as (pack old)) (world_of (kept one)))) → IfHint {T = Unit {0}} (Err e) (HintFailing (pack old) [] (files_touched l m w))
    hint_too (stop.Refused r) h = tt
    hint_too (stop.Misled place at wanted found) h = of_state (λ x y. HintFailing (pack old) [] (files_touched l x y) place at wanted found) h
    hint_too stop.DiskFault h = tt
    hint_too stop.Memory h = tt

    unfound_turned : (e : Stop) → FindsDropped (pack old) l (world_of (kept one)) (Err e) → Turned old new (kept one) (kept_stopped e (kept two)) s l (stopped e)
    unfound_turned e finds = unfound e (refused_too e finds.refused) (hint_too e finds.misled)

-- ---- the line
pub stops_unfound : {Z : Type 0} {told : Bool} {most : ℕ} (old new : Taped) (one two : Session) (l : Line) (e : Stop) (r : Result (Vec ℕ Z) Stop) → IsDropping l → IsTrue told → MayObey old one l → LooksAbout told most old new one two → IsErrAnd r (λ x. x ≡ e)
    → (Sound (pack old) → IsTakenUpBy (world_of (kept one)) l → FindsDropped (pack old) l (world_of (kept one)) (Err e)) → TakesLine old new one two l r
stops_unfound {Z} old new one two l e r dropping told may about is finds = λ s keeping.
    turned_is_a_turn old new (kept one) (kept_replied r (kept two)) s l (replied r)
    (subst (λ (x : Result (Vec ℕ Z) Stop). Turned old new (kept one) (kept_replied x (kept two)) s l (replied x)) (sym (error_is r is))
    (unfound_turned old one l dropping may s keeping new two told about e (finds (sound old one l dropping may s keeping) may.taken_up)))
    (λ handy none. few_none l dropping.bound (pack old) s.model (replied r) (new.runs - old.runs))

-- it is found, and the line goes on from there
pub goes_on_found : {Z : Type 0} {told : Bool} {most : ℕ} (old mid new : Taped) (one two three : Session) (l : Line) (found : Found) (r : Result (Vec ℕ Z) Stop) → IsDropping l → IsTrue told → MayObey old one l → LooksAbout told most old mid one two → DiskAlone mid new
    → AreFormed (pack mid) → old.writes ≡ capped (writes_in old.events) → mid.writes ≡ capped (writes_in mid.events)
    → (Sound (pack old) → IsTakenUpBy (world_of (kept one)) l → FindsDropped (pack old) l (world_of (kept one)) (Ok found))
    → ((s : State) → Begins mid (kept one) s l → Formed mid.form (kept one) → SameBut mid mid (kept one) (kept two) → DropsFound s l found → MayDropFound (pack mid) found → Turned mid new (kept one) (kept_replied r (kept three)) s l (replied r))
    → TakesLine old new one three l r
goes_on_found {told = told} old mid new one two three l found r dropping is_told may about alone formed first last finds turned = λ s keeping.
    let quiet : added old mid ≡ [] = about.looks.silent is_told in
    let here : pack mid ≡ pack old = pack-silent about.looks.alone.grown quiet in
    let is : IsDropped (pack old) l (world_of (kept one)) found = (finds (sound old one l dropping may s keeping) may.taken_up).found in
    turned_is_a_turn old new (kept one) (kept_replied r (kept three)) s l (replied r)
    (looked_before old mid new (kept one) (kept_replied r (kept three)) s l (replied r) about.looks.alone alone quiet (same_count old mid about.looks.alone quiet first last)
    (turned s
    (record {
      keeping = subst (λ p. Keeping p (kept one) s) (sym here) keeping;
      unneeded = sym (ap (λ x. x.need) keeping.world) ∙ no_need old one l dropping may s keeping;
      stays = goes_on l s dropping.quit dropping.scavenge;
      taken_up = taken old one l dropping may s keeping;
      full = λ i page e. formed_pages_have_256_words (pack mid) i page formed e;
    })
    (subst (λ f. Formed f (kept one)) (sym about.looks.alone.grown.form) may.formed) (same_but_looked mid mid about.looked refl) (drops old one l dropping may s keeping found is) (subst (λ p. MayDropFound p found) (sym here) is.may)))
    (λ handy none. few_none l dropping.bound (pack old) s.model (replied r) (new.runs - old.runs))

-- ---- the two lines
pub delete_drops : (path : Path) → IsDropping (line.Delete path)
delete_drops path = record { text = λ m w. refl; world = λ m w. refl; quit = refl; scavenge = refl; needs = refl; bound = λ p m n. tt }

pub rmdir_drops : (name : List ℕ) → IsDropping (line.RemoveDir name)
rmdir_drops name = record { text = λ m w. refl; world = λ m w. refl; quit = refl; scavenge = refl; needs = refl; bound = λ p m n. tt }
