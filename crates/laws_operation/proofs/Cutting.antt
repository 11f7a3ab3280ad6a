-- Cut: a page becomes the last, and those after it are released.
use Rattle.std.proofs.Common.{List, Some, [], ap, append-nil, append_assoc, arith, get_or, inl, length, min, refl, set, subst, suc, sym, take, true, ℕ, ◌%◌, ◌*◌, ◌++◌, ◌+◌, ◌/◌, ◌<◌, ◌∙◌, ◌∷◌, ◌≡◌, ◌≤◌}
use Rattle.std.proofs.lemmas.Bool.{lt-ltb}
use Rattle.std.proofs.lemmas.List.{length-append, length-take, length-take-le, take-append-le, take-take}
use Rattle.std.specs.Prelude.{nat_lt}
use Rattle.laws_contents.specs.alto_words.specs.declared.fid.Fid.{Fid}
use Rattle.laws_contents.specs.disk_records.proofs.Growing.{after-append}
use Rattle.laws_contents.specs.disk_records.specs.Commands.{relabel_writes}
use Rattle.laws_contents.specs.disk_records.specs.Labels.{Tag, tag}
use Rattle.laws_contents.specs.disk_records.specs.Packs.{Pack, after, sector_at}
use Rattle.laws_contents.specs.pack_model.specs.reading.Bytes.{bytes_of}
use Rattle.laws_contents.specs.pack_model.specs.operations.Commands.{releases_writes, sectors_of}
use Rattle.laws_contents.specs.pack_model.specs.operations.Committing.{length_of, moves_of, pages_cut}
use Rattle.laws_contents.specs.pack_model.specs.reading.Files.{file_bytes, most_pages}
use Rattle.laws_contents.specs.pack_model.specs.sessions.Meanings.{reading}
use Rattle.laws_contents.specs.pack_model.specs.reading.Model.{Model, good_one, read_as, read_sights}
use Rattle.laws_contents.specs.pack_model.specs.sessions.Moves.{Obeys, steps}
use Rattle.laws_contents.specs.pack_model.specs.operations.Operations.{cut_moves, cut_writes}
use Rattle.laws_contents.specs.pack_model.specs.operations.Operations.Move.{commits, quiet}
use Rattle.laws_contents.specs.pack_model.specs.operations.PageWords.{page_number}
use Rattle.laws_contents.specs.pack_model.specs.reading.Sights.{Sight, sights, tag_sight}
use Rattle.laws_contents.specs.pack_model.specs.reading.Sights.Sight.{hidden, holds, leads}
use Rattle.laws_contents.specs.pack_model.specs.operations.Step.{Operation, on_bytes, step}
use Rattle.laws_contents.specs.pack_model.specs.operations.Step.Operation.{cut}
use Rattle.laws_contents.specs.pack_model.specs.states.Whole.{HasPages, IsLaid, Leads, PageAt, Seated, Tidy, Whole, present}
use Rattle.laws_contents.specs.pack_laws.proofs.Guarding.{named_shown}
use Rattle.laws_contents.specs.pack_laws.proofs.Moving.{obeys_then}
use Rattle.laws_contents.specs.pack_laws.proofs.Placing.{page_of_place}
use Rattle.laws_contents.specs.laws_record.proofs.Keeping.{plain}
use Rattle.laws_operation.proofs.Changing.{Changed, Placed, leaves, length-one, length-together, seat_of}
use Rattle.laws_operation.proofs.Commanding.{relabel_obeys, relabel_shows}
use Rattle.laws_operation.proofs.inside.Elsewhere.{MayBe, SameBut, but_trans, same_set}
use Rattle.laws_operation.proofs.inside.Kept.{carries_out}
use Rattle.laws_operation.proofs.Lying.{bytes_laid, seated_right, together-append, within}
use Rattle.laws_operation.proofs.inside.OneFile.{file_step}
use Rattle.laws_operation.proofs.OneValue.{fits_page}
use Rattle.laws_operation.proofs.Rows.{ordinary_length, pages_by_bytes, releases_units, row_is}
use Rattle.laws_operation.proofs.Seating.{carries_none, carries_split, carries_write, laid_front, laid_join, leader_is, leads_set}
use Rattle.laws_operation.proofs.Showing.{other_value, tag_is}
use Rattle.laws_operation.proofs.inside.Standing.{FileStands, releases_go}
use Rattle.laws_operation.specs.ByteLaws.{IsOrdinary, MayCut, together}
use Rattle.laws_operation.specs.Outcomes.{CarriesOut}
use Rattle.std.proofs.Math.Seq.{take-append-add}

-- a page of fewer bytes
short_page : (b : ℕ) (old : List ℕ) → b ≤ length old → b < 512 → nat_lt (length (take b old)) 512 ≡ true
short_page b old less short = lt-ltb (length (take b old)) 512 (rw (length-take-le b old less) short)

-- the first bytes of the bytes that a label counts
first_counted : (b c : ℕ) (bytes : List ℕ) → b ≤ length (take c bytes) → take b bytes ≡ take b (take c bytes)
first_counted b c bytes less = let n : length (take c bytes) ≡ min c (length bytes) = length-take c bytes in sym (take-take b c bytes (omega arith))

module _ (ss : List Sight) (f : Fid) (k i : ℕ) (old : List ℕ) (h : Placed ss f k i old) (is : get_or ss i hidden ≡ holds f k old) (b : ℕ) (less : b ≤ length old) (few_bytes : b < 512) where
  -- the pages that are left are laid
  laid_cut : IsLaid (h.front ++ (i, take b old) ∷ [])
  laid_cut = laid_join h.front (i, take b old) [] (laid_front h.front (i, old) h.later h.laid) (short_page b old less few_bytes)

  -- they are few
  few_cut : length (h.front ++ (i, take b old) ∷ []) ≤ most_pages
  few_cut = let n = length-one h.front (i, take b old) in let o = length-append h.front ((i, old) ∷ h.later) in let l = h.few in omega arith

  -- the leader stays
  leads_cut : Leads (set ss i (holds f k (take b old))) f h.at true h.lead
  leads_cut = leads_set ss f h.at true h.lead i (holds f k (take b old)) h.leads_it (within ss i (ap good_one is)) (λ r x z. let y : holds f k old ≡ leads f r x = sym is ∙ z in absurd cc) (λ r x z. absurd cc)

  -- the later pages are loose
  carries_cut : HasPages (set ss i (holds f k (take b old))) f (h.front ++ (i, take b old) ∷ []) (suc k) h.later
  carries_cut =
      let lo : suc k ≡ length (h.front ++ (i, old) ∷ []) = let n = length-one h.front (i, old) in let e = h.number in omega arith in
      let c = carries_split ss f (h.front ++ (i, old) ∷ []) h.later (suc k) lo (subst (λ x. HasPages ss f x 0 []) (sym (append_assoc h.front ((i, old) ∷ []) h.later)) h.carries) in
      subst (λ n. HasPages (set ss i (holds f n (take b old))) f (h.front ++ (i, take b old) ∷ []) (suc k) h.later) h.number
      (carries_write ss f h.front i old [] (suc k) h.later (take b old) c (inl (omega arith)))

  -- they come after
  apart_cut : length (h.front ++ (i, take b old) ∷ []) ≤ suc k
  apart_cut = let n = length-one h.front (i, take b old) in let e = h.number in omega arith

  -- every other file stays
  same_cut : SameBut f ss (set ss i (holds f k (take b old)))
  same_cut = same_set f ss i (holds f k (take b old)) (subst (MayBe f) (sym is) refl) refl

  -- the bytes before
  before_cut : file_bytes ss f ≡ together (h.front ++ (i, old) ∷ h.later)
  before_cut = bytes_laid ss f (h.front ++ (i, old) ∷ h.later) (length (h.front ++ (i, old) ∷ h.later)) [] (carries_none ss f (h.front ++ (i, old) ∷ h.later) 0 (length (h.front ++ (i, old) ∷ h.later)) h.carries) (omega arith) h.laid h.few

  -- the bytes since
  since_cut : file_bytes (set ss i (holds f k (take b old))) f ≡ together (h.front ++ (i, take b old) ∷ [])
  since_cut = bytes_laid (set ss i (holds f k (take b old))) f (h.front ++ (i, take b old) ∷ []) (suc k) h.later carries_cut apart_cut laid_cut few_cut

  -- these are the first ones
  cut_there : take (512 * k + b) (together (h.front ++ (i, old) ∷ h.later)) ≡ together (h.front ++ (i, take b old) ∷ [])
  cut_there =
      let n : length (together h.front) ≡ 512 * length h.front = length-together h.front (laid_front h.front (i, old) h.later h.laid) in
      let e = h.number in
      let place : 512 * k + b ≡ length (together h.front) + b = omega arith in
      ap (λ x. take x (together (h.front ++ (i, old) ∷ h.later))) place ∙ ap (take (length (together h.front) + b)) (together-append h.front ((i, old) ∷ h.later))
      ∙ take-append-add (together h.front) (old ++ together h.later) b
      ∙ ap (λ x. together h.front ++ x) (take-append-le b old (together h.later) less ∙ sym (append-nil (take b old)))
      ∙ sym (together-append h.front ((i, take b old) ∷ []))

module _ (p : Pack) (w : Whole p) (t : Tidy p) (f : Fid) (file : IsOrdinary f) where
  -- cut
  pub cut_law : (n at : ℕ) (label later : List ℕ) → MayCut p f n at label later → CarriesOut p (cut_writes at label (sector_at p at).value later) (cut f n)
  cut_law n i label later hyp =
      let ss : List Sight = sights p in
      let k : ℕ = n / 512 in
      let b : ℕ = n % 512 in
      let value : List ℕ = (sector_at p i).value in
      let here = page_of_place ss f k i hyp.sector in
      let old : List ℕ = here.bytes in
      let is : get_or ss i hidden ≡ holds f k old = here.shows hidden in
      let good : good_one (get_or ss i hidden) ≡ 1 = ap good_one is in
      let h = seat_of ss f k i old (w.files f) is in
      let z : 512 * k + b ≡ n = omega arith in
      let t0 : Tag = tag (sector_at p i).label in
      let told : holds f k old ≡ tag_sight t0 value = sym is ∙ tag_is p i good in
      let same_old : holds f k old ≡ holds f k (take t0.bytes (bytes_of value)) = told ∙ other_value t0 value value f k old (sym told) in
      let old_is : old ≡ take t0.bytes (bytes_of value) = cc in
      let size : length (file_bytes ss f) ≡ length (together (h.front ++ (i, old) ∷ h.later)) = ap length (bytes_laid ss f (h.front ++ (i, old) ∷ h.later) (length (h.front ++ (i, old) ∷ h.later)) [] (carries_none ss f (h.front ++ (i, old) ∷ h.later) 0 (length (h.front ++ (i, old) ∷ h.later)) h.carries) (omega arith) h.laid h.few) in
      let few_bytes : b < 512 = omega arith in
      let less : b ≤ length old = let x = fits_page h.front i k old h.later b 0 h.laid h.number (omega arith) (let y = hyp.within in omega (arith, z, size)) in omega (arith, x) in
      let o : Operation = cut f n in
      let m : Model = step (read_as p) o in
      let us : List Sight = set ss i (holds f k (take b old)) in
      let counted : take b (bytes_of value) ≡ take b old = first_counted b t0.bytes (bytes_of value) (subst (λ x. b ≤ length x) old_is less) ∙ ap (take b) (sym old_is) in
      let s : tag_sight (tag label) value ≡ holds f k (take b old) = named_shown label value (page_number f (suc k)) hyp.page ∙ ap (λ c. holds f k (take c (bytes_of value))) hyp.count ∙ ap (holds f k) counted in
      let p1 : Pack = after p (relabel_writes i label value) in
      let shows : sights p1 ≡ us = relabel_shows p i good label value (holds f k (take b old)) refl s in
      let was = leader_is ss f h.at true h.lead h.leads_it in
      let now = leader_is us f h.at true h.lead (leads_cut ss f k i old h is b less few_bytes) in
      let same = same_cut ss f k i old h is b less few_bytes in
      let step_is : take n (together (h.front ++ (i, old) ∷ h.later)) ≡ together (h.front ++ (i, take b old) ∷ []) = ap (λ x. take x (together (h.front ++ (i, old) ∷ h.later))) (sym z) ∙ cut_there ss f k i old h is b less few_bytes in
      let reads : read_sights p.shape us ≡ m = file_step p.shape ss us f h.lead h.lead same was now file.no_directory file.no_descriptor (on_bytes (take n))
      (ap (plain h.lead) (ap (take n) (before_cut ss f k i old h is b less few_bytes) ∙ step_is ∙ sym (since_cut ss f k i old h is b less few_bytes))) in
      let pages : List PageAt = h.front ++ (i, take b old) ∷ [] in
      let r = releases_go h.later p1 f pages (Some (h.at, h.lead)) (suc k) m (apart_cut ss f k i old h is b less few_bytes)
      (subst (λ x. FileStands x f pages (Some (h.at, h.lead))) (sym shows) (leads_cut ss f k i old h is b less few_bytes, laid_cut ss f k i old h is b less few_bytes, few_cut ss f k i old h is b less few_bytes))
      (subst (λ x. HasPages x f pages (suc k) h.later) (sym shows) (carries_cut ss f k i old h is b less few_bytes)) (ap (read_sights p.shape) shows ∙ reads) in
      let q : Pack = after p1 (releases_writes (sectors_of h.later)) in
      let ch : Changed ss (sights q) f h.lead h.lead (together (h.front ++ (i, old) ∷ h.later)) (together pages) = record {
        same = but_trans f ss (sights p1) (sights q) (subst (SameBut f ss) (sym shows) same) r.same;
        was = was;
        now = leader_is (sights q) f h.at true h.lead r.stands.0;
        before = before_cut ss f k i old h is b less few_bytes;
        since = bytes_laid (sights q) f pages (length pages) [] (carries_none (sights q) f pages 0 (length pages) r.carries) (omega arith) r.stands.1 r.stands.2;
        whole = present h.at h.lead pages r.stands.0 r.carries r.stands.1 r.stands.2;
      } in
      let lv = leaves p.shape ss (sights q) f h.lead h.lead _ _ (on_bytes (take n)) ch file.no_directory file.no_descriptor (ap (plain h.lead) step_is) w t in
      let all : length (h.front ++ (i, old) ∷ h.later) ≡ suc (length (together (h.front ++ (i, old) ∷ h.later)) / 512) = pages_by_bytes (h.front ++ (i, old) ∷ h.later) h.laid in
      let parts : length (h.front ++ (i, old) ∷ h.later) ≡ length h.front + suc (length h.later) = length-append h.front ((i, old) ∷ h.later) in
      let long : length h.later ≡ pages_cut (length (file_bytes ss f)) n = let x = h.number in omega (arith, size, all, parts) in
      let behind : Seated ss f (suc k) h.later = let y = seated_right ss f 0 h.front ((i, old) ∷ h.later) h.carries.seated in let x : suc (0 + length h.front) ≡ suc k = let v = h.number in omega (arith, v) in subst (λ j. Seated ss f j h.later) x y.1 in
      let later_is : later ≡ sectors_of h.later = row_is ss f (h.front ++ (i, old) ∷ h.later) h.carries later h.later (suc k) (hyp.number ∙ sym long) hyp.later_are behind in
      let events_are : cut_writes i label value later ≡ cut_writes i label value (sectors_of h.later) = ap (cut_writes i label value) later_is in
      let e : after p (cut_writes i label value later) ≡ q = ap (after p) events_are ∙ after-append p (relabel_writes i label value) (releases_writes (sectors_of h.later)) in
      let long_in : length h.later ≡ pages_cut (length_of (read_as p) f) n = long ∙ ap (λ x. pages_cut x n) (sym (ordinary_length p.shape ss f h.lead was file)) in
      let moves : moves_of (read_as p) o ≡ cut_moves o h.later = ap (λ x. commits o ∷ quiet ∷ x) (releases_units h.later (pages_cut (length_of (read_as p) f) n) long_in) in
      carries_out p (cut_writes i label value later) o f (ap (steps reading (read_as p)) moves ∙ r.still) (subst (λ x. SameBut f ss (sights x)) (sym e) ch.same) file.no_descriptor (record {
        obeys = subst (λ x. Obeys reading (read_as p) p x (moves_of (read_as p) o)) (sym events_are) (subst (Obeys reading (read_as p) p (cut_writes i label value (sectors_of h.later))) (sym moves)
            (obeys_then reading (relabel_obeys p i good (read_as p) (commits o) label value (holds f k (take b old)) refl s refl (record { part_is = refl; bears = hyp.sector }) reads) r.obeys));
        whole = subst Whole (sym e) lv.whole;
        tidy = subst Tidy (sym e) lv.tidy;
      })
