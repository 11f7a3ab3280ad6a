-- The record writes of an entering, stage by stage: words inside a free slot, free slots made one, and the entry's first words.
use Rattle.std.proofs.Common.{List, Some, [], ap, arith, cond, inl, inr, length, refl, subst, sym, ℕ, ◌++◌, ◌+◌, ◌<◌, ◌∙◌, ◌∷◌, ◌≡◌, ◌≤◌}
use Rattle.std.proofs.lemmas.Bool.{cases_lt}
use Rattle.std.specs.FinMap.{entries, get, get-insert, insert}
use Rattle.std.specs.List.{list_any}
use Rattle.laws_contents.specs.alto_words.specs.Fid.{is_fid}
use Rattle.laws_contents.specs.alto_words.specs.declared.fid.Fid.{Fid}
use Rattle.laws_contents.specs.disk_records.specs.Commands.{value_writes}
use Rattle.laws_contents.specs.disk_records.specs.Packs.{Pack, after, sector_at}
use Rattle.laws_contents.specs.disk_records.specs.declared.records.Event.{Event}
use Rattle.laws_contents.specs.disk_records.specs.declared.records.Event.TheVariants.{Wrote}
use Rattle.laws_contents.specs.pack_model.specs.reading.Bodies.{Files, described}
use Rattle.laws_contents.specs.pack_model.specs.reading.Bytes.{put_at}
use Rattle.laws_contents.specs.pack_model.specs.reading.Files.{leader, lives}
use Rattle.laws_contents.specs.pack_model.specs.reading.Leaders.{Leader}
use Rattle.laws_contents.specs.pack_model.specs.hints.Links.{dir_words}
use Rattle.laws_contents.specs.pack_model.specs.sessions.Maps.{update_found}
use Rattle.laws_contents.specs.pack_model.specs.sessions.Meanings.{reading, viewing}
use Rattle.laws_contents.specs.pack_model.specs.reading.Model.{Model, read_as, read_sights}
use Rattle.laws_contents.specs.pack_model.specs.sessions.Moves.{Obeys, rest, write}
use Rattle.laws_contents.specs.pack_model.specs.reading.Namings.{AllKept, IsTidy, is_kept, namings, namings_in, tidied}
use Rattle.laws_contents.specs.pack_model.specs.operations.Operations.{Move, enter_moves}
use Rattle.laws_contents.specs.pack_model.specs.operations.Operations.Move.{commits, mends, quiet}
use Rattle.laws_contents.specs.pack_model.specs.operations.PageWords.{in_page}
use Rattle.laws_contents.specs.pack_model.specs.reading.Sights.{Sight, sights}
use Rattle.laws_contents.specs.pack_model.specs.reading.Slots.{Item, all_words, slots}
use Rattle.laws_contents.specs.pack_model.specs.reading.Slots.Item.{space}
use Rattle.laws_contents.specs.pack_model.specs.operations.Step.{Operation, on_items, step, update_file}
use Rattle.laws_contents.specs.pack_model.specs.showing.View.{view}
use Rattle.laws_contents.specs.pack_model.specs.states.Whole.{Tidy, Whole}
use Rattle.laws_contents.specs.pack_laws.proofs.Bytes.{length-put_at}
use Rattle.laws_contents.specs.pack_laws.proofs.Keys.{fid_total, is_fid-itself}
use Rattle.laws_contents.specs.laws_record.proofs.Addressing.{LooseIn, slots_kept}
use Rattle.laws_contents.specs.laws_record.proofs.DirReads.{dir_reads, dir_same, has_leader, insert_same}
use Rattle.laws_contents.specs.laws_record.proofs.DirWords.{dir_change}
use Rattle.laws_contents.specs.laws_record.proofs.Entered.{directory, namings_in-append}
use Rattle.laws_contents.specs.laws_record.proofs.Slotwise.{put_before, put_after, slots_freed}
use Rattle.laws_contents.specs.laws_record.proofs.Tidying.{tidy_same}
use Rattle.laws_contents.specs.laws_record.specs.DirLaws.{DirWrite, Frees, dir_written, freed}
use Rattle.laws_operation.proofs.DirValue.{dir_before, dir_lead, dir_read, value_change, value_same, value_tidy, value_whole}
use Rattle.laws_operation.proofs.inside.Elsewhere.{SameBut, but_trans}
use Rattle.laws_operation.proofs.Leaving.{words_alike}
use Rattle.laws_operation.proofs.OneDirectory.{slots_namings}
use Rattle.laws_contents.specs.laws_record.proofs.Rooting.{insert_twice}
use Rattle.laws_contents.specs.laws_record.proofs.directories.Laws.{free_slots_made_one}

-- ---- moves from another model
-- moves that come to the same from two models
abbrev Comes : List Move → Model → Model → Type 0
Comes [] m n = Unit {0}
Comes (quiet ∷ os) m n = Comes os m n
Comes (commits o ∷ os) m n = step m o ≡ step n o
Comes (mends x ∷ os) m n = Unit {0}

-- so they are made from either
obeys_from : {m : Model} {p : Pack} {events : List Event} {os : List Move} → Obeys viewing m p events os → (n : Model) → view m ≡ view n → Comes os m n → Obeys viewing n p events os
obeys_from (rest here) n v a = rest (here ∙ v)
obeys_from (write {events = events} {o = quiet} here makes later) n v a = write (here ∙ v) makes (obeys_from later n v a)
obeys_from (write {p = p} {at = at} {part = part} {words = words} {events = events} {o = commits o} {ops = os} here makes later) n v a = write (here ∙ v) makes (subst (λ x. Obeys viewing x (after p (Wrote at part words ∷ [])) events os) a later)
obeys_from (write {events = events} {o = mends x} here makes later) n v a = write (here ∙ v) makes later

-- those of an entering
comes_enter : (before : List (Unit {0})) (o : Operation) (m n : Model) → step m o ≡ step n o → Comes (enter_moves before o) m n
comes_enter [] o m n e = e
comes_enter (x ∷ before) o m n e = comes_enter before o m n e

-- what is read as a model is viewed as it
pub views_of : {m : Model} {p : Pack} {events : List Event} {os : List Move} → Obeys reading m p events os → Obeys viewing m p events os
views_of (rest here) = rest (ap view here)
views_of (write here makes later) = write (ap view here) makes (views_of later)

-- ---- what a stage owes
pub record EntersBy (p : Pack) (d : Fid) (events : List Event) (before : List (Unit {0})) (o : Operation) : Type 0 where
  pub obeys : Obeys viewing (read_as p) p events (enter_moves before o)
  pub ends : read_as (after p events) ≡ step (read_as p) o
  pub whole : Whole (after p events)
  pub tidy : Tidy (after p events)
  pub same : SameBut d (sights p) (sights (after p events))

-- a record write that isn't viewed, and then the rest
pub quiet_first : (p : Pack) (d : Fid) (at : ℕ) (value : List ℕ) (events : List Event) (before : List (Unit {0})) (o : Operation) → let q = after p (value_writes at value) in
    view (read_as q) ≡ view (read_as p) → step (read_as q) o ≡ step (read_as p) o → SameBut d (sights p) (sights q) → EntersBy q d events before o → EntersBy p d (value_writes at value ++ events) (tt ∷ before) o
quiet_first p d at value events before o v e same s =
    let q : Pack = after p (value_writes at value) in
    record {
      obeys = write refl tt (obeys_from s.obeys (read_as p) v (comes_enter before o (read_as q) (read_as p) e));
      ends = s.ends ∙ e;
      whole = s.whole;
      tidy = s.tidy;
      same = but_trans d (sights p) (sights q) (sights (after q events)) same s.same;
    }

-- ---- words inside a free slot
pub record StaysRead (p q : Pack) (d : Fid) : Type 0 where
  pub read : read_as q ≡ read_as p
  pub whole : Whole q
  pub tidy : Tidy q
  pub same : SameBut d (sights p) (sights q)
  pub slots_stay : slots (dir_words q d) ≡ slots (dir_words p d)

-- such words are written
pub loose_stage : (p : Pack) → Whole p → Tidy p → (d : Fid) (w at : ℕ) (new : List ℕ) → DirWrite p d w at new → ((k : ℕ) → w ≤ k → k < w + length new → LooseIn 0 (slots (dir_words p d)) k) → StaysRead p (dir_written p w at new) d
loose_stage p whole tidy d w at new h loose =
    let ss : List Sight = sights p in
    let ws : List ℕ = dir_words p d in
    let is : List Item = slots ws in
    let now : slots (put_at w new ws) ≡ is = slots_kept ws (put_at w new ws) 0 is (length-put_at w new ws h.within) refl
    (λ k low high. elim (cases_lt k w) [
      | inl before ↦ inl (put_before w new ws k h.within before)
      | inr past ↦ elim (cases_lt k (w + length new)) [ inl here ↦ inr (loose k past here) | inr behind ↦ inl (put_after w new ws k h.within behind) ]
    ]) in
    let c = dir_change p d w at new h in
    let l : Leader = dir_lead p whole d w at new h in
    let there : get (described ss) d ≡ Some (directory l is) = dir_before p whole d w at new h is now refl in
    let same_files : insert (described ss) d (directory l is) ≡ described ss = insert_same (described ss) d (directory l is) there in
    let still : IsTidy (lives ss) (insert (described ss) d (directory l is)) = subst (IsTidy (lives ss)) (sym same_files) tidy in
    let lead = has_leader ss d h.lives in
    record {
      read = (dir_same p (dir_written p w at new) d (put_at w new ws) c h.directory lead.0 lead.1 now).read;
      whole = value_whole p whole d w at new h is now refl tidy still (λ g system. ap (λ m. list_any (λ n. is_fid n.fid g) (namings (entries m))) same_files);
      tidy = value_tidy p whole d w at new h is now refl tidy still;
      same = value_same p whole d w at new h;
      slots_stay = ap slots c.words_are ∙ now;
    }

-- then the rest
pub later_first : (p : Pack) → Whole p → Tidy p → (d : Fid) (w at : ℕ) (new : List ℕ) (h : DirWrite p d w at new) → ((k : ℕ) → w ≤ k → k < w + length new → LooseIn 0 (slots (dir_words p d)) k)
    → (events : List Event) (before : List (Unit {0})) (o : Operation) → EntersBy (dir_written p w at new) d events before o → EntersBy p d (value_writes at (put_at (in_page w) new (sector_at p at).value) ++ events) (tt ∷ before) o
later_first p whole tidy d w at new h loose events before o s =
    let r = loose_stage p whole tidy d w at new h loose in
    quiet_first p d at (put_at (in_page w) new (sector_at p at).value) events before o (ap view r.read) (ap (λ m. step m o) r.read) r.same s

-- ---- free slots made one
pub record Joined (p q : Pack) (d : Fid) (l : Leader) (a old b : List Item) : Type 0 where
  pub views : view (read_as q) ≡ view (read_as p)
  pub reads : read_as q ≡ record (read_as p) { files = insert (read_as p).files d (directory l (a ++ space (all_words old) ∷ b)) }
  pub was : get (read_as p).files d ≡ Some (directory l (a ++ (old ++ b)))
  pub whole : Whole q
  pub tidy : Tidy q
  pub same : SameBut d (sights p) (sights q)
  pub slots_now : slots (dir_words q d) ≡ a ++ space (all_words old) ∷ b

-- the files of a tidy pack with another directory
joined_files : (p : Pack) (d : Fid) (l : Leader) (js : List Item) {x : Files} → Tidy p → x ≡ insert (described (sights p)) d (directory l js) → IsTidy (lives (sights p)) (insert (described (sights p)) d (directory l js)) → tidied (lives (sights p)) x ≡ insert (read_as p).files d (directory l js)
unfolding read_sights
joined_files p d l js t e still = ap (tidied (lives (sights p))) e ∙ tidy_same (lives (sights p)) (insert (described (sights p)) d (directory l js)) still ∙ ap (λ m. insert m d (directory l js)) (sym (tidy_same (lives (sights p)) (described (sights p)) t))

-- they are made one
pub join_stage : (p : Pack) (w : Whole p) → Tidy p → (d : Fid) (at : ℕ) (a old b : List Item) (fr : Frees p d at a old b) → namings_in d old ≡ [] → Joined p (freed p at a old) d (dir_lead p w d (all_words a) at (all_words old ∷ []) fr.write) a old b
join_stage p w t d at a old b fr bare =
    let ss : List Sight = sights p in
    let h = fr.write in
    let new : List ℕ = all_words old ∷ [] in
    let n : ℕ = all_words old in
    let js : List Item = a ++ space n ∷ b in
    let q : Pack = dir_written p (all_words a) at new in
    let now : slots (put_at (all_words a) new (dir_words p d)) ≡ js = slots_freed (dir_words p d) a old b fr.slots_are fr.some (let m = fr.most in omega arith) in
    let one : all_words (space n ∷ []) ≡ n = omega arith in
    let sum : all_words js ≡ all_words (slots (dir_words p d)) = words_alike a old (space n ∷ []) b one ∙ ap all_words (sym fr.slots_are) in
    let l : Leader = dir_lead p w d (all_words a) at new h in
    let c = dir_change p d (all_words a) at new h in
    let here : get (described ss) d ≡ Some (directory l (a ++ (old ++ b))) = dir_before p w d (all_words a) at new h js now sum ∙ ap (λ x. Some (directory l x)) fr.slots_are in
    let alike : namings_in d js ≡ namings_in d (a ++ (old ++ b)) =
    namings_in-append d a (space n ∷ b) ∙ ap (λ x. namings_in d a ++ x) (sym (namings_in-append d old b ∙ ap (λ x. x ++ namings_in d b) bare)) ∙ sym (namings_in-append d a (old ++ b)) in
    let names = slots_namings (described ss) d l (a ++ (old ++ b)) js here alike in
    let still : IsTidy (lives ss) (insert (described ss) d (directory l js)) = subst (AllKept (is_kept (lives ss)) []) (sym names) t in
    let was : get (read_as p).files d ≡ Some (directory l (a ++ (old ++ b))) = dir_read p w d (all_words a) at new h js now sum t still ∙ ap (λ x. Some (directory l x)) fr.slots_are in
    let lead : leader ss d ≡ Some l = (value_change p w d (all_words a) at new h).was in
    record {
      views = free_slots_made_one p d at a old b fr bare;
      reads = dir_reads p q d (put_at (all_words a) new (dir_words p d)) c h.directory l lead (insert (read_as p).files d (directory l js)) (joined_files p d l js t (ap (λ x. insert (described ss) d (directory l x)) now) still);
      was = was;
      whole = value_whole p w d (all_words a) at new h js now sum t still (λ g system. ap (list_any (λ n. is_fid n.fid g)) names);
      tidy = value_tidy p w d (all_words a) at new h js now sum t still;
      same = value_same p w d (all_words a) at new h;
      slots_now = ap slots c.words_are ∙ now;
    }

-- ---- changes that an operation doesn't care for
-- the directory has other slots, which become the same
pub alike_slots : (m : Model) (d : Fid) (l : Leader) (is js : List Item) (g : List Item → List Item) → get m.files d ≡ Some (directory l is) → g js ≡ g is
    → update_file (record m { files = insert m.files d (directory l js) }) d (on_items g) ≡ update_file m d (on_items g)
alike_slots m d l is js g gets e =
    let here : get (insert m.files d (directory l js)) d ≡ Some (directory l js) = get-insert fid_total m.files d (directory l js) d ∙ ap (λ b. cond b (Some (directory l js)) (get m.files d)) (is_fid-itself d) in
    ap (λ r. record m { files = update_found (insert m.files d (directory l js)) d (on_items g) r }) here
    ∙ ap (λ f. record m { files = f }) (insert_twice m.files d (directory l js) (directory l (g js)))
    ∙ ap (λ x. record m { files = insert m.files d (directory l x) }) e
    ∙ ap (λ r. record m { files = update_found m.files d (on_items g) r }) (sym gets)
