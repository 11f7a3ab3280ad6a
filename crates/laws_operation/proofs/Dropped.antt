-- Drop, except its last record write: the leader is released, and then the data pages.
use Rattle.std.proofs.Common.{Bool, List, None, Some, [], ap, arith, cond, false, get_or, inl, inr, length, not, refl, set, subst, sym, true, ℕ, ◌<◌, ◌∙◌, ◌∷◌, ◌≡◌, ◌≤◌}
use Rattle.std.specs.FinMap.{get}
use Rattle.std.specs.Option.{is_some}
use Rattle.laws_contents.specs.alto_words.specs.Fid.{disk_descriptor, is_directory, is_fid}
use Rattle.laws_contents.specs.alto_words.specs.declared.fid.Fid.{Fid}
use Rattle.laws_contents.specs.disk_records.proofs.Growing.{after-append}
use Rattle.laws_contents.specs.disk_records.specs.Commands.{ones, release_writes}
use Rattle.laws_contents.specs.disk_records.specs.Packs.{Pack, after, sector_at}
use Rattle.laws_contents.specs.pack_model.specs.reading.Bodies.{Body, File, body_items, body_length, described, found, is_described, items_in}
use Rattle.laws_contents.specs.pack_model.specs.reading.Bodies.Body.{data_of, items_of}
use Rattle.laws_contents.specs.pack_model.specs.reading.Bytes.{words_of}
use Rattle.laws_contents.specs.pack_model.specs.operations.Commands.{releases_writes, sectors_of}
use Rattle.laws_contents.specs.pack_model.specs.operations.Committing.{length_in, length_of, page_of_byte}
use Rattle.laws_contents.specs.pack_model.specs.reading.Files.{file_bytes, leader, lives}
use Rattle.laws_contents.specs.pack_model.specs.reading.Leaders.{Leader}
use Rattle.laws_contents.specs.pack_model.specs.sessions.Meanings.{reading}
use Rattle.laws_contents.specs.pack_model.specs.reading.Model.{Model, good_one, read_as, read_sights}
use Rattle.laws_contents.specs.pack_model.specs.sessions.Moves.{Obeys, steps}
use Rattle.laws_contents.specs.pack_model.specs.reading.Namings.{body_namings, namings_in}
use Rattle.laws_contents.specs.pack_model.specs.operations.Operations.{release_file_moves, release_file_writes}
use Rattle.laws_contents.specs.pack_model.specs.operations.Operations.Move.{commits, quiet}
use Rattle.laws_contents.specs.pack_model.specs.reading.Sights.{Sight, sights}
use Rattle.laws_contents.specs.pack_model.specs.reading.Sights.Sight.{free, hidden, holds, leads}
use Rattle.laws_contents.specs.pack_model.specs.reading.Slots.{all_words, slots}
use Rattle.laws_contents.specs.pack_model.specs.operations.Step.{Operation, step}
use Rattle.laws_contents.specs.pack_model.specs.operations.Step.Operation.{drop_file}
use Rattle.laws_contents.specs.pack_model.specs.states.Whole.{HasPages, Headless, PageAt, Tidy, TidyBut, Whole, absent}
use Rattle.laws_contents.specs.pack_laws.proofs.Guarding.{ones_free}
use Rattle.laws_contents.specs.pack_laws.proofs.Moving.{obeys_then, stands_last}
use Rattle.laws_contents.specs.pack_laws.proofs.Placing.{leader_of_place}
use Rattle.laws_contents.specs.laws_record.proofs.Heads.{all_read}
use Rattle.laws_contents.specs.laws_record.proofs.Keeping.{get-where}
use Rattle.laws_contents.specs.laws_record.proofs.Reading.{get_by, read_file}
use Rattle.laws_contents.specs.laws_record.proofs.Tidying.{tidy_same}
use Rattle.laws_operation.proofs.Changing.{headed}
use Rattle.laws_operation.proofs.Commanding.{release_apart, release_obeys, release_shows}
use Rattle.laws_operation.proofs.inside.Elsewhere.{MayBe, SameBut, but_trans, not_same, same_at, same_set}
use Rattle.laws_operation.proofs.inside.Going.{drop_reads, drop_whole, tidy_but}
use Rattle.laws_operation.proofs.inside.Kept.{cuts_read, descriptor_kept, fits_still}
use Rattle.laws_operation.proofs.Leaving.{system_apart}
use Rattle.laws_operation.proofs.Lying.{bytes_laid, shows_set, within}
use Rattle.laws_operation.proofs.Rows.{pages_by_bytes, releases_units, row_is}
use Rattle.laws_operation.proofs.Seating.{carries_none, carries_set, carries_split, leader_is, leader_none_is}
use Rattle.laws_operation.proofs.inside.Standing.{FileStands, releases_go}
use Rattle.laws_operation.proofs.Widening.{directory_length}
use Rattle.laws_operation.specs.ByteLaws.{together}
use Rattle.laws_operation.specs.LifeLaws.{GoesOut, MayDrop, first_moves}

-- ---- a living file of a whole and tidy pack, as it is read
pub read_get : (p : Pack) (f : Fid) (l : Leader) → Tidy p → is_fid f disk_descriptor ≡ false → leader (sights p) f ≡ Some l → get (described (sights p)) f ≡ Some (read_file f (file_bytes (sights p) f) l)
read_get p f l t other is = get-where (found (sights p)) is_described f ∙ ap (λ b. cond b (get (found (sights p)) f) None) (ap not other) ∙ get_by (sights p) f l (file_bytes (sights p) f) is refl

-- and in the model
pub read_there : (p : Pack) (f : Fid) (l : Leader) → Tidy p → is_fid f disk_descriptor ≡ false → leader (sights p) f ≡ Some l → get (read_as p).files f ≡ Some (read_file f (file_bytes (sights p) f) l)
unfolding read_sights
read_there p f l t other is = ap (λ m. get m f) (tidy_same (lives (sights p)) (described (sights p)) t) ∙ read_get p f l t other is

-- its length is that of its bytes
length_there : (p : Pack) (f : Fid) (l : Leader) → Whole p → Tidy p → is_fid f disk_descriptor ≡ false → leader (sights p) f ≡ Some l → length_of (read_as p) f ≡ length (file_bytes (sights p) f)
length_there p f l w t other is = ap length_in (read_there p f l t other is) ∙ by (is_directory f) refl
  where
    by : (b : Bool) → is_directory f ≡ b → body_length (cond b (items_of (slots (words_of (file_bytes (sights p) f)))) (data_of (file_bytes (sights p) f))) ≡ length (file_bytes (sights p) f)
    by false e = refl
    by true e =
        let r = w.directories f (ap is_some is) e in
        let x = all_read (words_of (file_bytes (sights p) f)) r.items r.reads in
        directory_length (slots (words_of (file_bytes (sights p) f))) (file_bytes (sights p) f) r.even (ap all_words x.0 ∙ x.1)

-- the entries in a body are those of its slots
pub bodies_bare : (f : Fid) (b : Body) → body_namings f b ≡ namings_in f (body_items b)
bodies_bare f (data_of bytes) = refl
bodies_bare f (items_of is) = refl

module _ (p : Pack) (w : Whole p) (t : Tidy p) (f : Fid) where
  -- all record writes but the last
  pub release_law : (at : ℕ) (pages : List ℕ) → MayDrop p f at pages → GoesOut p f (release_file_writes at pages) × SameBut f (sights p) (sights (after p (release_file_writes at pages))) × ((i : ℕ) → (MayBe f (get_or (sights p) i hidden) → ⊥) → sector_at (after p (release_file_writes at pages)) i ≡ sector_at p i)
  release_law i ats hyp =
      let ss : List Sight = sights p in
      let us : List Sight = set ss i free in
      let here = leader_of_place ss f i hyp.sector in
      let l : Leader = here.lead in
      let h = headed ss f i here.readable l (w.files f) (here.shows hidden) in
      let is = h.leads_it.shows in
      let other = hyp.no_system in
      let apart : is_fid f disk_descriptor ≡ false = system_apart disk_descriptor f refl other in
      let was_leader : leader ss f ≡ Some l = leader_is ss f i true l h.leads_it in
      let x : File = read_file f (file_bytes ss f) l in
      let was : get (described ss) f ≡ Some x = read_get p f l t apart was_leader in
      let bare : body_namings f x.body ≡ [] = bodies_bare f x.body ∙ sym (ap (λ r. namings_in f (items_in r)) (read_there p f l t apart was_leader)) ∙ hyp.bare in
      let good : good_one (get_or ss i hidden) ≡ 1 = ap good_one is in
      let n : i < length ss = within ss i good in
      let o : Operation = drop_file f in
      let m : Model = step (read_as p) o in
      let p1 : Pack = after p (release_writes i) in
      let shows : sights p1 ≡ us = release_shows p i good (ones 8) (ones 256) ones_free in
      let headless : Headless us f = λ j r k e. elim (shows_set ss i free j (leads f r k) n e) [ inl a ↦ (let z = a.1 in absurd cc) | inr a ↦ a.0 (h.leads_it.only j r k a.1) ] in
      let c : HasPages us f h.pages 0 [] = carries_set ss f h.pages 0 [] h.carries i free n (λ k b e. let z : leads f true l ≡ holds f k b = sym is ∙ e in absurd cc) (λ k b e. absurd cc) in
      let loose : HasPages us f [] 0 h.pages = carries_split us f [] h.pages 0 refl c in
      let same : SameBut f ss us = same_set f ss i free (subst (MayBe f) (sym is) refl) tt in
      let dead : f ≡ disk_descriptor → ⊥ = not_same f disk_descriptor apart in
      let reads : read_sights p.shape us ≡ m = drop_reads p.shape ss us f x same (leader_none_is us f headless) other t was bare in
      let no_pages : length {A = PageAt} [] ≤ 0 = omega arith in
      let r = releases_go h.pages p1 f [] None 0 m no_pages (subst (λ y. FileStands y f [] None) (sym shows) (headless, dead)) (subst (λ y. HasPages y f [] 0 h.pages) (sym shows) loose) (ap (read_sights p.shape) shows ∙ reads) in
      let q : Pack = after p1 (releases_writes (sectors_of h.pages)) in
      let all : SameBut f ss (sights q) = but_trans f ss (sights p1) (sights q) (subst (SameBut f ss) (sym shows) same) r.same in
      let now : leader (sights q) f ≡ None = leader_none_is (sights q) f r.stands.0 in
      let size : length (file_bytes ss f) ≡ length (together h.pages) = ap length (bytes_laid ss f h.pages (length h.pages) [] (carries_none ss f h.pages 0 (length h.pages) h.carries) (omega arith) h.laid h.few) in
      let many : length h.pages ≡ page_of_byte (length (file_bytes ss f)) = pages_by_bytes h.pages h.laid ∙ ap page_of_byte (sym size) in
      let ats_are : ats ≡ sectors_of h.pages = row_is ss f h.pages h.carries ats h.pages 0 (hyp.number ∙ sym many) hyp.pages_are h.carries.seated in
      let events_are : release_file_writes i ats ≡ release_file_writes i (sectors_of h.pages) = ap (release_file_writes i) ats_are in
      let e : after p (release_file_writes i ats) ≡ q = ap (after p) events_are ∙ after-append p (release_writes i) (releases_writes (sectors_of h.pages)) in
      let long : length h.pages ≡ page_of_byte (length_of (read_as p) f) = many ∙ ap page_of_byte (sym (length_there p f l w t apart was_leader)) in
      let moves : first_moves p f ≡ release_file_moves o h.pages = ap (λ y. commits o ∷ quiet ∷ y) (releases_units h.pages (page_of_byte (length_of (read_as p) f)) long) in
      let obeys : Obeys reading (read_as p) p (release_file_writes i ats) (first_moves p f) = subst (λ y. Obeys reading (read_as p) p y (first_moves p f)) (sym events_are) (subst (Obeys reading (read_as p) p (release_file_writes i (sectors_of h.pages))) (sym moves)
      (obeys_then reading (release_obeys p i good (read_as p) (commits o) (ones 8) (ones 256) ones_free refl (record { part_is = refl; bears = hyp.sector }) reads) r.obeys)) in
      let all_q : SameBut f ss (sights (after p (release_file_writes i ats))) = subst (λ y. SameBut f ss (sights y)) (sym e) all in (
        record {
          drops = record {
            obeys = obeys;
            whole = subst Whole (sym e) (drop_whole p.shape ss (sights q) f x all now other t was bare w (absent r.stands.0 r.carries));
            gone = subst (λ y. Headless (sights y) f) (sym e) r.stands.0;
            tidy_but = subst (λ y. TidyBut f (sights y)) (sym e) (tidy_but p.shape ss (sights q) f x all now other t was bare (ap is_some was_leader));
          };
          cuts = cuts_read p (release_file_writes i ats) (first_moves p f) obeys;
          ends = stands_last reading obeys ∙ ap (steps reading (read_as p)) moves ∙ r.still;
          descriptor = descriptor_kept p (after p (release_file_writes i ats)) f all_q apart;
          fits = fits_still p (after p (release_file_writes i ats)) f all_q apart refl;
        },
        all_q,
        λ j never. ap (λ y. sector_at y j) e ∙ r.apart j (λ z. never (elim (same_at f ss us j same) [
          | inl k ↦ subst (MayBe f) (sym k) (subst (λ y. MayBe f (get_or y j hidden)) shows z)
          | inr k ↦ k.0
        ])) ∙ release_apart p i j (λ z. never (subst (MayBe f) (sym (ap (λ k. get_or ss k hidden) z ∙ is)) refl)),
      )
