-- What an operation on one file keeps of DiskDescriptor, and its outcome.
use Rattle.std.proofs.Common.{List, None, Some, [], ap, cond, false, inl, inr, refl, suc, sym, take, zero, ℕ, ◌&&◌, ◌+◌, ◌∙◌, ◌∷◌, ◌≡◌}
use Rattle.std.specs.Option.{is_some, option_or}
use Rattle.std.specs.Prelude.{◌==◌}
use Rattle.laws_contents.specs.alto_words.specs.Fid.{disk_descriptor, is_fid}
use Rattle.laws_contents.specs.alto_words.specs.declared.fid.Fid.{Fid}
use Rattle.laws_contents.specs.disk_records.specs.Packs.{Pack, after}
use Rattle.laws_contents.specs.disk_records.specs.Words.{word}
use Rattle.laws_contents.specs.disk_records.specs.declared.records.Event.{Event}
use Rattle.laws_contents.specs.pack_model.specs.reading.Bytes.{words_of}
use Rattle.laws_contents.specs.pack_model.specs.operations.Committing.{moves_of}
use Rattle.laws_contents.specs.pack_model.specs.reading.Files.{carries_page, file_bytes, first, lives, numbered, place, place_at}
use Rattle.laws_contents.specs.pack_model.specs.sessions.Meanings.{Meets, reading, viewing}
use Rattle.laws_contents.specs.pack_model.specs.reading.Model.{Model, last_serial, read_as, read_sights}
use Rattle.laws_contents.specs.pack_model.specs.sessions.Moves.{Obeys, steps}
use Rattle.laws_contents.specs.pack_model.specs.operations.Operations.{Move, moved}
use Rattle.laws_contents.specs.pack_model.specs.reading.Sights.{Sight, sights}
use Rattle.laws_contents.specs.pack_model.specs.reading.Sights.Sight.{free, hidden, holds, leads, stray}
use Rattle.laws_contents.specs.pack_model.specs.operations.Step.{Operation, step}
use Rattle.laws_contents.specs.pack_model.specs.showing.View.{view}
use Rattle.laws_contents.specs.pack_laws.proofs.Keys.{is_fid-sym}
use Rattle.laws_contents.specs.pack_laws.proofs.Moving.{crash_of_run, stands_last}
use Rattle.laws_operation.proofs.inside.Elsewhere.{MayBe, SameBut, other_bytes, other_leader}
use Rattle.laws_operation.specs.Outcomes.{CarriesOut, CutsAreViewed, KeepsDescriptor, StillFits}

-- free sectors and those of another file don't carry a page
not_carried : (f g : Fid) (n : ℕ) → is_fid g f ≡ false → (s : Sight) → MayBe f s → carries_page g n s ≡ false
not_carried f g n ne hidden m = absurd m
not_carried f g n ne free m = refl
not_carried f g n ne stray m = absurd m
not_carried f g zero ne (leads h r l) m = ap (is_fid g) m ∙ ne
not_carried f g (suc n) ne (leads h r l) m = refl
not_carried f g zero ne (holds h k b) m = refl
not_carried f g (suc n) ne (holds h k b) m = ap (λ t. t && n == k) (ap (is_fid g) m ∙ ne)

-- so the pages of another file stay where they are
place_from_on : (f g : Fid) (n : ℕ) → is_fid g f ≡ false → (at : ℕ) (ss us : List Sight) → SameBut f ss us → first (place_at g n) (numbered at us) ≡ first (place_at g n) (numbered at ss)
unfolding first
place_from_on f g n ne at [] [] same = refl
place_from_on f g n ne at [] (u ∷ us) same = absurd same
place_from_on f g n ne at (s ∷ ss) [] same = absurd same
place_from_on f g n ne at (s ∷ ss) (u ∷ us) same =
    let e : carries_page g n u ≡ carries_page g n s = elim same.0 [ inl e ↦ ap (carries_page g n) (sym e) | inr m ↦ not_carried f g n ne u m.1 ∙ sym (not_carried f g n ne s m.0) ] in
    ap (λ b. option_or (cond b (Some at) None) (first (place_at g n) (numbered (suc at) us))) e
    ∙ ap (option_or (cond (carries_page g n s) (Some at) None)) (place_from_on f g n ne (suc at) ss us same.1)

-- by any number
pub same_places : (f g : Fid) (ss us : List Sight) → SameBut f ss us → is_fid g f ≡ false → (n : ℕ) → place us g n ≡ place ss g n
same_places f g ss us same ne n = place_from_on f g n ne 0 ss us same

-- ---- DiskDescriptor
module _ (p q : Pack) (f : Fid) (same : SameBut f (sights p) (sights q)) (other : is_fid f disk_descriptor ≡ false) where
  -- f isn't DiskDescriptor
  apart : is_fid disk_descriptor f ≡ false
  apart = is_fid-sym disk_descriptor f ∙ other

  -- the same bytes
  same_bytes : file_bytes (sights q) disk_descriptor ≡ file_bytes (sights p) disk_descriptor
  same_bytes = other_bytes f (sights p) (sights q) same disk_descriptor apart

  -- it lives as before
  same_life : lives (sights q) disk_descriptor ≡ lives (sights p) disk_descriptor
  same_life = ap is_some (other_leader f (sights p) (sights q) same disk_descriptor apart)

  -- DiskDescriptor is kept
  pub descriptor_kept : KeepsDescriptor p q
  descriptor_kept = record {
    places = same_places f disk_descriptor (sights p) (sights q) same apart;
    bytes = same_bytes;
    clean = (
      λ c. record { lives = same_life ∙ c.lives; mark = ap (λ b. word (words_of b) 6) same_bytes ∙ c.mark },
      λ c. record { lives = sym same_life ∙ c.lives; mark = ap (λ b. word (words_of b) 6) (sym same_bytes) ∙ c.mark },
    );
  }

  -- and what a session keeps of it is true
  pub fits_still : q.shape ≡ p.shape → StillFits p q
  unfolding read_sights
  fits_still shape s last mark pages d = record {
    shape_is = shape ∙ d.shape_is;
    last_is = ap (λ b. last_serial (words_of b)) same_bytes ∙ d.last_is;
    mark_is = ap (λ b. word (words_of b) 6) same_bytes ∙ d.mark_is;
    size = d.size;
    bears = λ n l. same_places f disk_descriptor (sights p) (sights q) same apart (n + 1) ∙ d.bears n l;
  }

-- ---- outcomes
-- what is read as a model is viewed as it
pub steps_alike : (m : Model) (moves : List Move) → steps viewing m moves ≡ steps reading m moves
steps_alike m [] = refl
steps_alike m (o ∷ moves) = steps_alike (moved m o) moves

-- so cuts that are read as models are viewed as them
pub cuts_read : (p : Pack) (events : List Event) (moves : List Move) → Obeys reading (read_as p) p events moves → CutsAreViewed p events moves
cuts_read p events moves obeys k = ap view (crash_of_run reading obeys k ∙ sym (steps_alike (read_as p) (take k moves)))

-- an operation whose record writes concern one file alone
pub carries_out : (p : Pack) (events : List Event) (o : Operation) (f : Fid) → steps reading (read_as p) (moves_of (read_as p) o) ≡ step (read_as p) o → SameBut f (sights p) (sights (after p events)) → is_fid f disk_descriptor ≡ false
    → Meets p events (moves_of (read_as p) o) → CarriesOut p events o
carries_out p events o f all same other meets = record {
  meets = meets;
  cuts = cuts_read p events (moves_of (read_as p) o) meets.obeys;
  ends = stands_last reading meets.obeys ∙ all;
  descriptor = descriptor_kept p (after p events) f same other;
  fits = fits_still p (after p events) f same other refl;
}
