-- Widen: a directory gets one free slot more.
use Rattle.std.proofs.Common.{List, [], ap, append_assoc, arith, get_or, length, refl, set, subst, suc, sym, take, true, ℕ, ◌*◌, ◌++◌, ◌+◌, ◌/◌, ◌∙◌, ◌∷◌, ◌≡◌, ◌≤◌}
use Rattle.std.proofs.lemmas.List.{append-nil, get_or-set_other, length-append}
use Rattle.std.specs.FinMap.{insert}
use Rattle.std.specs.List.{list_any}
use Rattle.std.specs.Option.{is_some}
use Rattle.laws_contents.specs.alto_words.specs.Fid.{is_fid, sys_dir}
use Rattle.laws_contents.specs.alto_words.specs.declared.fid.Fid.{Fid}
use Rattle.laws_contents.specs.disk_records.specs.Labels.{tag}
use Rattle.laws_contents.specs.disk_records.specs.Packs.{Pack, after, sector_at}
use Rattle.laws_contents.specs.disk_records.specs.declared.records.Event.TheVariants.{Wrote}
use Rattle.laws_contents.specs.pack_model.specs.reading.Bodies.{body_length, described}
use Rattle.laws_contents.specs.pack_model.specs.reading.Bodies.Body.{items_of}
use Rattle.laws_contents.specs.pack_model.specs.reading.Bytes.{bytes_of, words_of}
use Rattle.laws_contents.specs.pack_model.specs.operations.Commands.{Claim, all_claimed, claims_writes}
use Rattle.laws_contents.specs.pack_model.specs.operations.Committing.{MakesMove, length_in, length_of, moves_of, page_of_byte, pages_added}
use Rattle.laws_contents.specs.pack_model.specs.reading.Files.{file_bytes, lives, most_pages, place}
use Rattle.laws_contents.specs.pack_model.specs.reading.Leaders.{Leader}
use Rattle.laws_contents.specs.pack_model.specs.sessions.Meanings.{reading}
use Rattle.laws_contents.specs.pack_model.specs.reading.Model.{read_as, read_sights}
use Rattle.laws_contents.specs.pack_model.specs.sessions.Moves.{Obeys, steps}
use Rattle.laws_contents.specs.pack_model.specs.reading.Namings.{AllKept, IsTidy, is_kept, namings_in}
use Rattle.laws_contents.specs.pack_model.specs.operations.Operations.{grow_moves, grow_writes}
use Rattle.laws_contents.specs.pack_model.specs.operations.Operations.Move.{commits, quiet}
use Rattle.laws_contents.specs.pack_model.specs.reading.Sights.{Sight, sights}
use Rattle.laws_contents.specs.pack_model.specs.reading.Sights.Sight.{free, hidden, holds, leads}
use Rattle.laws_contents.specs.pack_model.specs.reading.Slots.{IsEven, Item, Reads, all_words, slots}
use Rattle.laws_contents.specs.pack_model.specs.reading.Slots.Item.{space}
use Rattle.laws_contents.specs.pack_model.specs.reading.Slots.Reads.{next, none}
use Rattle.laws_contents.specs.pack_model.specs.operations.Step.{Operation, step}
use Rattle.laws_contents.specs.pack_model.specs.operations.Step.Operation.{widen}
use Rattle.laws_contents.specs.pack_model.specs.states.Whole.{Tidy, TidySights, Whole, WholeSights}
use Rattle.laws_contents.specs.pack_laws.proofs.Bytes.{length-bytes_of, length-words_of, words_of-bytes_of}
use Rattle.laws_contents.specs.laws_record.proofs.DirReads.{not_descriptor}
use Rattle.laws_contents.specs.laws_record.proofs.Entered.{directory, namings_in-append}
use Rattle.laws_contents.specs.laws_record.proofs.Entering.{on_slots}
use Rattle.laws_contents.specs.laws_record.proofs.Heads.{all_read}
use Rattle.laws_contents.specs.laws_record.specs.QuietLaws.{counted_of}
use Rattle.laws_operation.proofs.inside.Elsewhere.{SameBut}
use Rattle.laws_operation.proofs.inside.Evens.{even_by, even_half, words_of-append}
use Rattle.laws_operation.proofs.inside.Growing.{all_claims, grow_changed, grow_obeys, grow_shows, old_place, read_before, still_here}
use Rattle.laws_operation.proofs.Grown.{all_claimed_many, few_pages, last_page, old_counted}
use Rattle.laws_operation.proofs.inside.Kept.{carries_out}
use Rattle.laws_operation.proofs.Lying.{together-append}
use Rattle.laws_operation.proofs.OneDirectory.{dir_get, dir_step, dir_tidy, dir_was, dir_whole, reads_append, slots_namings}
use Rattle.laws_operation.proofs.Rows.{claims_still, claims_units, pages_by_bytes}
use Rattle.laws_operation.proofs.Seating.{laid_front, laid_join}
use Rattle.laws_operation.specs.ByteLaws.{together}
use Rattle.laws_operation.specs.NameLaws.{MayWiden}
use Rattle.laws_operation.specs.Outcomes.{CarriesOut}

-- the length of a directory in the model is that of its bytes
pub directory_length : (items : List Item) (bytes : List ℕ) → IsEven bytes → all_words items ≡ length (words_of bytes) → body_length (items_of items) ≡ length bytes
directory_length items bytes even all = let r = even_half bytes even in let e = r.1 in let n : length (words_of bytes) ≡ length bytes / 2 = length-words_of bytes in omega (arith, all, e, n)

module _ (p : Pack) (w : Whole p) (t : Tidy p) (d : Fid) where
  -- widen
  pub widen_law : (added : List ℕ) (claims : List Claim) (at : ℕ) (label value : List ℕ) → MayWiden p d added claims at label value → CarriesOut p (grow_writes claims at label value) (widen d)
  widen_law added cs i label v hyp =
      let ss : List Sight = sights p in
      let dir = hyp.directory in
      let k : ℕ = length (file_bytes ss d) / 512 in
      let last = last_page ss d i (w.files d) hyp.sector in
      let old : List ℕ = last.old in
      let h = last.spot in
      let is : get_or ss i hidden ≡ holds d k old = last.shows in
      let old_is : old ≡ counted_of p i (sector_at p i).value = old_counted p d k i old is in
      let c0 : List ℕ = take (tag label).bytes (bytes_of v) in
      let past : counted_of p i v ≡ old = hyp.kept ∙ sym old_is in
      let n : length (h.front ++ (i, old) ∷ h.later) ≡ length h.front + suc (length h.later) = length-append h.front ((i, old) ∷ h.later) in
      let few : suc k + length (all_claimed cs) ≤ most_pages = few_pages ss d (suc k) cs (let e = h.number in let l = h.few in omega arith) hyp.claimable in
      let q : Pack = after p (claims_writes cs) in
      let us : List Sight = set (sights q) i (holds d k c0) in
      let ch = grow_changed p d k i old h is last.short cs hyp.claimable (read_as p) refl label v c0 past hyp.page refl hyp.laid few in
      let more_bytes : c0 ++ together (all_claimed cs) ≡ old ++ bytes_of added = hyp.bytes ∙ ap (λ x. x ++ bytes_of added) (sym old_is) in
      let old_bytes : file_bytes ss d ≡ together h.front ++ old = ch.before ∙ together-append h.front ((i, old) ∷ []) ∙ ap (λ x. together h.front ++ x) (append-nil old) in
      let new_bytes : file_bytes us d ≡ file_bytes ss d ++ bytes_of added =
      ch.since ∙ together-append h.front ((i, c0) ∷ all_claimed cs) ∙ ap (λ x. together h.front ++ x) more_bytes ∙ sym (append_assoc (together h.front) old (bytes_of added)) ∙ ap (λ x. x ++ bytes_of added) (sym old_bytes) in
      let ends = w.directories d (ap is_some ch.was) dir in
      let items : List Item = ends.items in
      let more : List Item = items ++ space 256 ∷ [] in
      let words : words_of (file_bytes us d) ≡ words_of (file_bytes ss d) ++ added = ap words_of new_bytes ∙ words_of-append (file_bytes ss d) (bytes_of added) ends.even ∙ ap (λ x. words_of (file_bytes ss d) ++ x) (words_of-bytes_of added) in
      let reads : Reads (words_of (file_bytes us d)) more = subst (λ x. Reads x more) (sym words) (reads_append (words_of (file_bytes ss d)) added items (space 256 ∷ []) ends.reads (next (sym (append-nil added)) hyp.slot none)) in
      let half = even_half (file_bytes ss d) ends.even in
      let grown : length (file_bytes us d) ≡ length (file_bytes ss d) + length (bytes_of added) = ap length new_bytes ∙ length-append (file_bytes ss d) (bytes_of added) in
      let twice : length (bytes_of added) ≡ 2 * length added = length-bytes_of added in
      let size : length (file_bytes us d) ≡ (half.0 + length added) + (half.0 + length added) = let b = half.1 in omega (arith, grown, twice, b) in
      let old_read = all_read (words_of (file_bytes ss d)) items ends.reads in
      let old_slots : slots (words_of (file_bytes ss d)) ≡ items = old_read.0 in
      let new_slots : slots (words_of (file_bytes us d)) ≡ more = (all_read (words_of (file_bytes us d)) more reads).0 in
      let alike : namings_in d more ≡ namings_in d items = namings_in-append d items (space 256 ∷ []) ∙ append-nil (namings_in d items) in
      let in_files = dir_was p.shape ss us d h.lead ch.same ch.was ch.now dir items more old_slots new_slots in
      let names = slots_namings (described ss) d h.lead items more in_files alike in
      let still : IsTidy (lives ss) (insert (described ss) d (directory h.lead more)) = subst (AllKept (is_kept (lives ss)) []) (sym names) t in
      let gets = dir_get p.shape ss us d h.lead ch.same ch.was ch.now dir items more old_slots new_slots t still in
      let does : read_sights p.shape us ≡ step (read_as p) (widen d) =
      dir_step p.shape ss us d h.lead ch.same ch.was ch.now dir items more old_slots new_slots t still ∙ on_slots (read_as p) d h.lead items more (λ is. is ++ space 256 ∷ []) gets refl in
      let root : (l : Leader) → get_or ss 1 hidden ≡ leads sys_dir true l → get_or us 1 hidden ≡ leads sys_dir true l = λ l e.
      let there : get_or (sights q) 1 hidden ≡ leads sys_dir true l = ((all_claims p d k i old h is last.short cs hyp.claimable (read_as p) refl).apart 1 (λ z. let c : free ≡ leads sys_dir true l = sym z ∙ e in absurd cc)).1 ∙ e in
      get_or-set_other (sights q) i 1 (holds d k c0) hidden (λ z. let c : holds d k old ≡ leads sys_dir true l = sym (still_here p d k i old h is last.short cs hyp.claimable (read_as p) refl) ∙ ap (λ n. get_or (sights q) n hidden) (sym z) ∙ there in absurd cc) ∙ there in
      let shows = grow_shows p d k i old h is last.short cs hyp.claimable (read_as p) refl label v c0 past hyp.page refl hyp.laid few in
      let o : Operation = widen d in
      let size_in : length_of (read_as p) d ≡ length (file_bytes ss d) = ap length_in gets ∙ directory_length items (file_bytes ss d) ends.even old_read.1 in
      let q1 : Pack = after q (Wrote i 2 v ∷ []) in
      let same_model : read_as q1 ≡ read_as p = read_before p d k i old h is last.short cs hyp.claimable (read_as p) refl label v c0 past hyp.page refl hyp.laid few in
      let number : page_of_byte (length_of (read_as q1) d) ≡ suc k = ap (λ m. page_of_byte (length_of m d)) same_model ∙ ap page_of_byte size_in in
      let makes : MakesMove q1 (Wrote i 1 label) (commits o) = record { part_is = refl; bears = ap (place (sights q1) d) number ∙ old_place p d k i old h is last.short cs hyp.claimable (read_as p) refl label v c0 past hyp.page refl hyp.laid few } in
      let slot_size : length added ≡ 256 = sym hyp.slot.size in
      let now : length (together (h.front ++ (i, c0) ∷ all_claimed cs)) ≡ length (file_bytes ss d) + 512 = ap length (sym ch.since) ∙ (omega (arith, grown, twice, slot_size)) in
      let all : length (h.front ++ (i, c0) ∷ all_claimed cs) ≡ suc (length (together (h.front ++ (i, c0) ∷ all_claimed cs)) / 512) = pages_by_bytes (h.front ++ (i, c0) ∷ all_claimed cs) (laid_join h.front (i, c0) (all_claimed cs) (laid_front h.front (i, old) h.later h.laid) hyp.laid) in
      let parts : length (h.front ++ (i, c0) ∷ all_claimed cs) ≡ length h.front + suc (length (all_claimed cs)) = length-append h.front ((i, c0) ∷ all_claimed cs) in
      let many : length cs ≡ pages_added (length (file_bytes ss d)) 512 = let a = all_claimed_many cs in let x = h.number in omega (arith, now, all, parts) in
      let moves : moves_of (read_as p) o ≡ grow_moves cs o = ap (λ x. x ++ (quiet ∷ commits o ∷ quiet ∷ [])) (claims_units cs (pages_added (length_of (read_as p) d) 512) (many ∙ ap (λ x. pages_added x 512) (sym size_in))) in
      carries_out p (grow_writes cs i label v) o d (ap (steps reading (read_as p)) moves ∙ claims_still cs (read_as p) (quiet ∷ commits o ∷ quiet ∷ [])) (subst (SameBut d ss) (sym shows) ch.same) (not_descriptor d dir) (record {
        obeys = subst (Obeys reading (read_as p) p (grow_writes cs i label v)) (sym moves) (grow_obeys p d k i old h is last.short cs hyp.claimable (read_as p) refl label v c0 past hyp.page refl hyp.laid few o makes does);
        whole = subst (WholeSights p.shape) (sym shows) (dir_whole p.shape ss us d h.lead ch.same ch.was ch.now dir items more old_slots new_slots t still w ch.whole
            (record { even = even_by (half.0 + length added) (file_bytes us d) size; items = more; reads = reads }) root
            (λ g system. ap (list_any (λ n. is_fid n.fid g)) names));
        tidy = subst TidySights (sym shows) (dir_tidy p.shape ss us d h.lead ch.same ch.was ch.now dir items more old_slots new_slots t still);
      })
