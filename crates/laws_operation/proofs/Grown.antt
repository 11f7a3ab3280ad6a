-- Grow: new pages come after the last page of an ordinary file.
use Rattle.std.proofs.Common.{List, None, Some, [], ap, append_assoc, arith, cond, get_or, length, refl, set, subst, suc, sym, take, true, ℕ, ◌++◌, ◌+◌, ◌/◌, ◌<◌, ◌∙◌, ◌∷◌, ◌≡◌, ◌≤◌}
use Rattle.std.proofs.lemmas.List.{append-nil, length-append, nil_from_length}
use Rattle.std.specs.Prelude.{nat_lt}
use Rattle.laws_contents.specs.alto_words.specs.declared.fid.Fid.{Fid}
use Rattle.laws_contents.specs.disk_records.specs.Labels.{Tag, page_of, tag}
use Rattle.laws_contents.specs.disk_records.specs.Packs.{Pack, after, sector_at}
use Rattle.laws_contents.specs.disk_records.specs.Words.{word}
use Rattle.laws_contents.specs.disk_records.specs.declared.records.Event.TheVariants.{Wrote}
use Rattle.laws_contents.specs.pack_model.specs.reading.Bytes.{bytes_of}
use Rattle.laws_contents.specs.pack_model.specs.operations.Commands.{Claim, Claimable, all_claimed, claims_writes}
use Rattle.laws_contents.specs.pack_model.specs.operations.Committing.{MakesMove, length_of, moves_of, page_of_byte, pages_added}
use Rattle.laws_contents.specs.pack_model.specs.reading.Files.{file_bytes, most_pages, place}
use Rattle.laws_contents.specs.pack_model.specs.sessions.Meanings.{reading}
use Rattle.laws_contents.specs.pack_model.specs.reading.Model.{good_one, read_as}
use Rattle.laws_contents.specs.pack_model.specs.sessions.Moves.{Obeys, steps}
use Rattle.laws_contents.specs.pack_model.specs.operations.Operations.{grow_moves, grow_writes}
use Rattle.laws_contents.specs.pack_model.specs.operations.Operations.Move.{commits, quiet}
use Rattle.laws_contents.specs.pack_model.specs.operations.PageWords.{page_number}
use Rattle.laws_contents.specs.pack_model.specs.reading.Sights.{Sight, sights, tag_sight}
use Rattle.laws_contents.specs.pack_model.specs.reading.Sights.Sight.{hidden, holds}
use Rattle.laws_contents.specs.pack_model.specs.operations.Step.{Operation, on_bytes}
use Rattle.laws_contents.specs.pack_model.specs.operations.Step.Operation.{grow}
use Rattle.laws_contents.specs.pack_model.specs.states.Whole.{FileWhole, IsLaid, PageAt, Tidy, TidySights, Whole, WholeSights}
use Rattle.laws_contents.specs.pack_laws.proofs.Joining.{most_is}
use Rattle.laws_contents.specs.pack_laws.proofs.Placing.{page_of_place}
use Rattle.laws_contents.specs.laws_record.proofs.Keeping.{plain}
use Rattle.laws_contents.specs.laws_record.proofs.Recording.{number_below}
use Rattle.laws_contents.specs.laws_record.specs.QuietLaws.{counted_of}
use Rattle.laws_operation.proofs.Changing.{Placed, leaves, seat_of}
use Rattle.laws_operation.proofs.inside.Elsewhere.{SameBut}
use Rattle.laws_operation.proofs.inside.Growing.{grow_changed, grow_obeys, grow_shows, old_place, read_before}
use Rattle.laws_operation.proofs.inside.Kept.{carries_out}
use Rattle.laws_operation.proofs.Lying.{bytes_laid, together-append}
use Rattle.laws_operation.proofs.Rows.{claims_still, claims_units, ordinary_length, pages_by_bytes}
use Rattle.laws_operation.proofs.Seating.{carries_none, laid_back, laid_front, laid_join}
use Rattle.laws_operation.proofs.Showing.{other_value, tag_is}
use Rattle.laws_operation.specs.ByteLaws.{IsOrdinary, MayGrow, together}
use Rattle.laws_operation.specs.Outcomes.{CarriesOut}

-- ---- counts
-- as many pages as claims
pub all_claimed_many : (cs : List Claim) → length (all_claimed cs) ≡ length cs
all_claimed_many [] = refl
all_claimed_many (c ∷ cs) = ap suc (all_claimed_many cs)

-- page numbers are words, so no file gets more pages than there are numbers
pub few_pages : (ss : List Sight) (f : Fid) (k : ℕ) (cs : List Claim) → k ≤ most_pages → Claimable ss f k cs → k + length (all_claimed cs) ≤ most_pages
few_pages ss f k [] few able = omega arith
few_pages ss f k (c ∷ cs) few able =
    let named : page_of c.label ≡ Some (page_number (tag c.label).fid (tag c.label).page) = ap (λ b. cond b (Some (page_number (tag c.label).fid (tag c.label).page)) None) able.2 in
    let below : (tag c.label).page < 65536 = number_below c.label (page_number (tag c.label).fid (tag c.label).page) named in
    let number : (tag c.label).page ≡ suc k = ap (λ t. t.page) able.1 in
    let m : most_pages ≡ 65535 = most_is in
    let r = few_pages (set ss c.at (holds f k (take (word c.label 3) (bytes_of c.value)))) f (suc k) cs (omega arith) able.3 in
    omega arith

-- ---- the last page
pub record IsLastPage (ss : List Sight) (f : Fid) (at : ℕ) : Type 0 where
  pub old : List ℕ
  pub shows : get_or ss at hidden ≡ holds f (length (file_bytes ss f) / 512) old
  pub spot : Placed ss f (length (file_bytes ss f) / 512) at old
  pub ends : spot.later ≡ []
  pub short : nat_lt (length old) 512 ≡ true

-- the page that the end of a whole file's bytes is in is its last
pub last_page : (ss : List Sight) (f : Fid) (at : ℕ) → FileWhole ss f → place ss f (page_of_byte (length (file_bytes ss f))) ≡ Some at → IsLastPage ss f at
last_page ss f at whole sector =
    let k : ℕ = length (file_bytes ss f) / 512 in
    let here = page_of_place ss f k at sector in
    let h = seat_of ss f k at here.bytes whole (here.shows hidden) in
    let pages : List PageAt = h.front ++ (at, here.bytes) ∷ h.later in
    let size : length (file_bytes ss f) ≡ length (together pages) = ap length (bytes_laid ss f pages (length pages) [] (carries_none ss f pages 0 (length pages) h.carries) (omega arith) h.laid h.few) in
    let all : length pages ≡ suc (length (together pages) / 512) = pages_by_bytes pages h.laid in
    let parts : length pages ≡ length h.front + suc (length h.later) = length-append h.front ((at, here.bytes) ∷ h.later) in
    let ends : h.later ≡ [] = let n = h.number in nil_from_length h.later (omega (arith, n, size, all, parts)) in
    record {
      old = here.bytes;
      shows = here.shows hidden;
      spot = h;
      ends = ends;
      short = subst (λ x. IsLaid ((at, here.bytes) ∷ x)) ends (laid_back h.front (at, here.bytes) h.later h.laid);
    }

-- its counted bytes are those of its value
pub old_counted : (p : Pack) (f : Fid) (k at : ℕ) (old : List ℕ) → get_or (sights p) at hidden ≡ holds f k old → old ≡ counted_of p at (sector_at p at).value
old_counted p f k at old is =
    let t0 : Tag = tag (sector_at p at).label in
    let told : holds f k old ≡ tag_sight t0 (sector_at p at).value = sym is ∙ tag_is p at (ap good_one is) in
    let both : holds f k old ≡ holds f k (counted_of p at (sector_at p at).value) = told ∙ other_value t0 (sector_at p at).value (sector_at p at).value f k old (sym told) in
    cc

module _ (p : Pack) (w : Whole p) (t : Tidy p) (f : Fid) (file : IsOrdinary f) where
  -- grow
  pub grow_law : (new : List ℕ) (claims : List Claim) (at : ℕ) (label value : List ℕ) → MayGrow p f new claims at label value → CarriesOut p (grow_writes claims at label value) (grow f new)
  grow_law new cs i label v hyp =
      let ss : List Sight = sights p in
      let k : ℕ = length (file_bytes ss f) / 512 in
      let last = last_page ss f i (w.files f) hyp.sector in
      let old : List ℕ = last.old in
      let h = last.spot in
      let is : get_or ss i hidden ≡ holds f k old = last.shows in
      let old_is : old ≡ counted_of p i (sector_at p i).value = old_counted p f k i old is in
      let c0 : List ℕ = take (tag label).bytes (bytes_of v) in
      let past : counted_of p i v ≡ old = hyp.kept ∙ sym old_is in
      let n : length (h.front ++ (i, old) ∷ h.later) ≡ length h.front + suc (length h.later) = length-append h.front ((i, old) ∷ h.later) in
      let few : suc k + length (all_claimed cs) ≤ most_pages = few_pages ss f (suc k) cs (let e = h.number in let l = h.few in omega arith) hyp.claimable in
      let ch = grow_changed p f k i old h is last.short cs hyp.claimable (read_as p) refl label v c0 past hyp.page refl hyp.laid few in
      let us : List Sight = set (sights (after p (claims_writes cs))) i (holds f k c0) in
      let more : c0 ++ together (all_claimed cs) ≡ old ++ new = hyp.bytes ∙ ap (λ x. x ++ new) (sym old_is) in
      let e : together (h.front ++ (i, old) ∷ []) ++ new ≡ together (h.front ++ (i, c0) ∷ all_claimed cs) =
      ap (λ x. x ++ new) (together-append h.front ((i, old) ∷ []) ∙ ap (λ x. together h.front ++ x) (append-nil old)) ∙ append_assoc (together h.front) old new
      ∙ ap (λ x. together h.front ++ x) (sym more) ∙ sym (together-append h.front ((i, c0) ∷ all_claimed cs)) in
      let lv = leaves p.shape ss us f h.lead h.lead _ _ (on_bytes (λ b. b ++ new)) ch file.no_directory file.no_descriptor (ap (plain h.lead) e) w t in
      let shows = grow_shows p f k i old h is last.short cs hyp.claimable (read_as p) refl label v c0 past hyp.page refl hyp.laid few in
      let o : Operation = grow f new in
      let size_in : length_of (read_as p) f ≡ length (file_bytes ss f) = ordinary_length p.shape ss f h.lead ch.was file in
      let q1 : Pack = after (after p (claims_writes cs)) (Wrote i 2 v ∷ []) in
      let same_model : read_as q1 ≡ read_as p = read_before p f k i old h is last.short cs hyp.claimable (read_as p) refl label v c0 past hyp.page refl hyp.laid few in
      let number : page_of_byte (length_of (read_as q1) f) ≡ suc k = ap (λ m. page_of_byte (length_of m f)) same_model ∙ ap page_of_byte size_in in
      let makes : MakesMove q1 (Wrote i 1 label) (commits o) = record { part_is = refl; bears = ap (place (sights q1) f) number ∙ old_place p f k i old h is last.short cs hyp.claimable (read_as p) refl label v c0 past hyp.page refl hyp.laid few } in
      let before : length (together (h.front ++ (i, old) ∷ [])) ≡ length (file_bytes ss f) = ap length (sym ch.before) in
      let now : length (together (h.front ++ (i, c0) ∷ all_claimed cs)) ≡ length (file_bytes ss f) + length new = ap length (sym e) ∙ length-append (together (h.front ++ (i, old) ∷ [])) new ∙ ap (λ x. x + length new) before in
      let all : length (h.front ++ (i, c0) ∷ all_claimed cs) ≡ suc (length (together (h.front ++ (i, c0) ∷ all_claimed cs)) / 512) = pages_by_bytes (h.front ++ (i, c0) ∷ all_claimed cs) (laid_join h.front (i, c0) (all_claimed cs) (laid_front h.front (i, old) h.later h.laid) hyp.laid) in
      let parts : length (h.front ++ (i, c0) ∷ all_claimed cs) ≡ length h.front + suc (length (all_claimed cs)) = length-append h.front ((i, c0) ∷ all_claimed cs) in
      let many : length cs ≡ pages_added (length (file_bytes ss f)) (length new) = let a = all_claimed_many cs in let x = h.number in omega (arith, now, all, parts) in
      let moves : moves_of (read_as p) o ≡ grow_moves cs o = ap (λ x. x ++ (quiet ∷ commits o ∷ quiet ∷ [])) (claims_units cs (pages_added (length_of (read_as p) f) (length new)) (many ∙ ap (λ x. pages_added x (length new)) (sym size_in))) in
      carries_out p (grow_writes cs i label v) o f (ap (steps reading (read_as p)) moves ∙ claims_still cs (read_as p) (quiet ∷ commits o ∷ quiet ∷ [])) (subst (SameBut f ss) (sym shows) ch.same) file.no_descriptor (record {
        obeys = subst (Obeys reading (read_as p) p (grow_writes cs i label v)) (sym moves) (grow_obeys p f k i old h is last.short cs hyp.claimable (read_as p) refl label v c0 past hyp.page refl hyp.laid few o makes lv.reads);
        whole = subst (WholeSights p.shape) (sym shows) lv.whole;
        tidy = subst TidySights (sym shows) lv.tidy;
      })
