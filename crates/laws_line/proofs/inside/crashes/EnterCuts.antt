-- Each cut of an entering is read as a ready model.
use Rattle.std.proofs.Common.{Bool, List, [], ap, append_assoc, arith, cond, eq-eqb, false, get_or, inl, inr, length, length-drop, min, refl, subst, suc, sym, true, ℕ, ◌++◌, ◌+◌, ◌-◌, ◌/◌, ◌<◌, ◌∙◌, ◌∷◌, ◌≡◌, ◌≢◌, ◌≤◌}
use Rattle.std.proofs.lemmas.Bool.{cases_lt}
use Rattle.std.proofs.lemmas.List.{length-take}
use Rattle.std.specs.Prelude.{◌==◌}
use Rattle.laws_room.specs.alto_words.specs.declared.fid.Fid.{Fid}
use Rattle.disk_records.proofs.Growing.{after-append}
use Rattle.disk_records.specs.Commands.{value_writes}
use Rattle.disk_records.specs.Packs.{Pack, after, sector_at}
use Rattle.pack_model.specs.reading.Bytes.{put_at}
use Rattle.pack_model.specs.operations.Commands.{values_writes}
use Rattle.pack_model.specs.operations.Committing.{page_of_word}
use Rattle.pack_model.specs.operations.Entering.{entry_value, after_joining, joining, overlapping, values_first}
use Rattle.pack_model.specs.reading.Files.{place}
use Rattle.pack_model.specs.hints.Links.{dir_words}
use Rattle.pack_model.specs.reading.Model.{read_as}
use Rattle.pack_model.specs.operations.Operations.{enter_writes}
use Rattle.pack_model.specs.operations.PageWords.{freed_value, in_page, later, near}
use Rattle.pack_model.specs.scavenger.Scavenging.{Throughout}
use Rattle.pack_model.specs.reading.Sights.{sights}
use Rattle.pack_model.specs.reading.Slots.{Item, all_words, entry_length, item_words, slots}
use Rattle.pack_model.specs.reading.Slots.Item.{space}
use Rattle.pack_model.specs.operations.Step.{step}
use Rattle.pack_model.specs.operations.Step.Operation.{enter}
use Rattle.pack_model.specs.states.Whole.{Tidy, Whole}
use Rattle.laws_room.specs.laws_record.proofs.Addressing.{LooseIn}
use Rattle.laws_room.specs.laws_record.specs.DirLaws.{DirWrite, freed}
use Rattle.laws_line.specs.Ready.{Ready}
use Rattle.laws_room.specs.laws_operation.proofs.DirValue.{dir_lead}
use Rattle.laws_room.specs.laws_operation.proofs.EnterLaw.{bare, frees, ready_alone, ready_joined as may_joined, same_step, stage}
use Rattle.laws_room.specs.laws_operation.proofs.EnterMoves.{values-append}
use Rattle.laws_room.specs.laws_operation.proofs.EnterStages.{loose_stage}
use Rattle.laws_room.specs.laws_operation.proofs.Entering.{Ready as MayWrite, second_stage, words_within}
use Rattle.laws_room.specs.laws_operation.proofs.EntryWrite.{loose_in}
use Rattle.laws_room.specs.laws_operation.specs.NameLaws.{MayEnterAt, entry_room}
use Rattle.laws_line.proofs.inside.crashes.Rejoined.{ready_joined}

-- a pack that is read as a ready model
abbrev pub ReadsReady : Pack → Type 0
ReadsReady q = Ready (read_as q)

-- ---- one free slot is the room
module _ (p : Pack) (w : Whole p) (t : Tidy p) (d : Fid) (name : List ℕ) (f : Fid) (a b : List Item) (left : ℕ) (words : List ℕ) (at next_at : ℕ) (r : MayWrite p d name f a b left words at next_at) where
  -- words over the page's end are in the free slot, and aren't read
  over_reads : (page_of_word (all_words a + length words - 1) == page_of_word (all_words a)) ≡ false → read_as (after p (value_writes next_at (put_at 0 (later (all_words a) words) (sector_at p next_at).value))) ≡ read_as p
  over_reads e =
      let apart : page_of_word (all_words a + length words - 1) ≢ page_of_word (all_words a) = λ z. (let x : true ≡ false = sym (eq-eqb (page_of_word (all_words a + length words - 1)) (page_of_word (all_words a)) z) ∙ e in cc) in
      let s : length (near (all_words a) words) ≡ min (256 - in_page (all_words a)) (length words) = length-take (256 - in_page (all_words a)) words in
      let o : length (later (all_words a) words) ≡ length words - (256 - in_page (all_words a)) = length-drop (256 - in_page (all_words a)) words in
      let q : in_page (all_words a) < 256 = omega arith in
      let size = r.words_are.size in
      let short = r.words_are.short in
      let long : 256 - in_page (all_words a) < length words = (elim (cases_lt (256 - in_page (all_words a)) (length words)) [ inl l ↦ l | inr l ↦ absurd (apart (omega arith)) ]) in
      let w2 : ℕ = all_words a + length (near (all_words a) words) in
      let z : in_page w2 ≡ 0 = omega arith in
      let page : w2 / 256 + 1 ≡ suc (page_of_word (all_words a)) = omega arith in
      let inside = words_within p d a b (entry_length (length name) + left) r.slots_are in
      let h : DirWrite p d w2 next_at (later (all_words a) words) = record {
        directory = r.directory;
        lives = r.living;
        sector = ap (place (sights p) d) page ∙ r.next_sector (omega arith);
        some = omega arith;
        one_page = omega arith;
        within = omega arith;
      } in
      let loose : (k : ℕ) → w2 ≤ k → k < w2 + length (later (all_words a) words) → LooseIn 0 (slots (dir_words p d)) k = λ k low high.
      subst (λ is. LooseIn 0 is k) (sym r.slots_are) (loose_in 0 a b (entry_length (length name) + left) k (omega arith) (omega arith)) in
      ap (λ k. read_as (after p (value_writes next_at (put_at k (later (all_words a) words) (sector_at p next_at).value)))) (sym z) ∙ (loose_stage p w t d w2 next_at (later (all_words a) words) h loose).read

  -- each cut of the values that write the words
  words_ready : Ready (read_as p) → Ready (step (read_as p) (enter d name f))
      → Throughout ReadsReady p (values_writes (overlapping p (all_words a) words next_at) ++ value_writes at (put_at (in_page (all_words a)) (near (all_words a) words) (sector_at (after p (values_writes (overlapping p (all_words a) words next_at))) at).value))
  words_ready first last = by (page_of_word (all_words a + length words - 1) == page_of_word (all_words a)) refl (second_stage p w t d name f a b left words at next_at r).ends
    where
      by : (c : Bool) → (page_of_word (all_words a + length words - 1) == page_of_word (all_words a)) ≡ c
          → read_as (after p (values_writes (cond c [] ((next_at, put_at 0 (later (all_words a) words) (sector_at p next_at).value) ∷ [])) ++ value_writes at (put_at (in_page (all_words a)) (near (all_words a) words) (sector_at (after p (values_writes (cond c [] ((next_at, put_at 0 (later (all_words a) words) (sector_at p next_at).value) ∷ [])))) at).value))) ≡ step (read_as p) (enter d name f)
          → Throughout ReadsReady p (values_writes (cond c [] ((next_at, put_at 0 (later (all_words a) words) (sector_at p next_at).value) ∷ [])) ++ value_writes at (put_at (in_page (all_words a)) (near (all_words a) words) (sector_at (after p (values_writes (cond c [] ((next_at, put_at 0 (later (all_words a) words) (sector_at p next_at).value) ∷ [])))) at).value))
      by true e ends = (first, subst Ready (sym ends) last)
      by false e ends = (first, (subst Ready (sym (over_reads e)) first, subst Ready (sym ends) last))

-- ---- any room
module _ (p : Pack) (w : Whole p) (t : Tidy p) (d : Fid) (name : List ℕ) (f : Fid) (a old b : List Item) (left : ℕ) (words : List ℕ) (at next_at : ℕ) (h : MayEnterAt p d name f a old b left words at next_at) where
  -- by whether the room is one slot
  stages_ready : Ready (read_as p) → Ready (step (read_as p) (enter d name f)) → (one : Bool) → (item_words (get_or old 0 (space 0)) == all_words old) ≡ one
      → Throughout ReadsReady p (values_writes (cond one [] ((at, freed_value (all_words a) (all_words old) (sector_at p at).value) ∷ []))
      ++ (values_writes (overlapping (after p (values_writes (cond one [] ((at, freed_value (all_words a) (all_words old) (sector_at p at).value) ∷ [])))) (all_words a) words next_at)
      ++ value_writes at (put_at (in_page (all_words a)) (near (all_words a) words) (sector_at (after (after p (values_writes (cond one [] ((at, freed_value (all_words a) (all_words old) (sector_at p at).value) ∷ [])))) (values_writes (overlapping (after p (values_writes (cond one [] ((at, freed_value (all_words a) (all_words old) (sector_at p at).value) ∷ [])))) (all_words a) words next_at))) at).value)))
  stages_ready first last true e = words_ready p w t d name f a b left words at next_at (ready_alone p w t d name f a old b left words at next_at h e) first last
  stages_ready first last false e =
      let q : Pack = freed p at a old in
      let s = stage p w t d name f a old b left words at next_at h in
      let fr = frees p w t d name f a old b left words at next_at h in
      let joined_ready : Ready (read_as q) = subst Ready (sym s.reads) (ready_joined (read_as p) d (dir_lead p w d (all_words a) at (all_words old ∷ []) fr.write) a old b s.was (bare p w t d name f a old b left words at next_at h) fr.most first) in
      (first, words_ready q s.whole s.tidy d name f a b left words at next_at (may_joined p w t d name f a old b left words at next_at h) joined_ready (subst Ready (sym (same_step p w t d name f a old b left words at next_at h)) last))

  -- all of it
  pub enter_ready : Ready (read_as p) → Ready (step (read_as p) (enter d name f)) → Throughout ReadsReady p (enter_writes (values_first p (entry_room a old at next_at) words) at (entry_value p (entry_room a old at next_at) words))
  enter_ready first last =
      let x : List (ℕ × List ℕ) = joining p (entry_room a old at next_at) in
      let q : Pack = after_joining p (entry_room a old at next_at) in
      let y : List (ℕ × List ℕ) = overlapping q (all_words a) words next_at in
      let twice : after q (values_writes y) ≡ after p (values_writes (x ++ y)) = sym (after-append p (values_writes x) (values_writes y)) ∙ ap (after p) (sym (values-append x y)) in
      let value1 : List ℕ = put_at (in_page (all_words a)) (near (all_words a) words) (sector_at (after q (values_writes y)) at).value in
      let value_is : value1 ≡ entry_value p (entry_room a old at next_at) words = ap (λ k. put_at (in_page (all_words a)) (near (all_words a) words) (sector_at k at).value) twice in
      let events_are : values_writes x ++ (values_writes y ++ value_writes at value1) ≡ enter_writes (values_first p (entry_room a old at next_at) words) at (entry_value p (entry_room a old at next_at) words) =
      sym (append_assoc (values_writes x) (values_writes y) (value_writes at value1)) ∙ ap (λ r. r ++ value_writes at value1) (sym (values-append x y)) ∙ ap (λ v. values_writes (x ++ y) ++ value_writes at v) value_is in
      subst (Throughout ReadsReady p) events_are (stages_ready first last (item_words (get_or old 0 (space 0)) == all_words old) refl)
