-- The last record write of a drop: the slot of a file that doesn't live becomes free.
use Rattle.std.proofs.Common.{Bool, List, Some, [], ap, arith, cond, false, not, refl, subst, sym, true, ℕ, ◌&&◌, ◌++◌, ◌∙◌, ◌∷◌, ◌≡◌}
use Rattle.std.specs.FinMap.{get, insert}
use Rattle.std.specs.List.{list_any}
use Rattle.laws_contents.specs.alto_words.specs.Fid.{disk_descriptor, is_fid, sys_dir}
use Rattle.laws_contents.specs.alto_words.specs.Names.{is_same_name}
use Rattle.laws_contents.specs.alto_words.specs.declared.fid.Fid.{Fid}
use Rattle.laws_contents.specs.disk_records.specs.Commands.{value_writes}
use Rattle.laws_contents.specs.disk_records.specs.Packs.{Pack, sector_at}
use Rattle.laws_contents.specs.pack_model.specs.reading.Bodies.{Files, described}
use Rattle.laws_contents.specs.pack_model.specs.reading.Bytes.{put_at}
use Rattle.laws_contents.specs.pack_model.specs.reading.Files.{leader, lives}
use Rattle.laws_contents.specs.pack_model.specs.reading.Leaders.{Leader}
use Rattle.laws_contents.specs.pack_model.specs.hints.Links.{dir_words}
use Rattle.laws_contents.specs.pack_model.specs.reading.Model.{is_named, read_as, read_sights}
use Rattle.laws_contents.specs.pack_model.specs.sessions.Moves.{rest, write}
use Rattle.laws_contents.specs.pack_model.specs.reading.Namings.{AllKept, IsTidy, Naming, clashes, fits, is_kept, kept_after, may_stand, tidied}
use Rattle.laws_contents.specs.pack_model.specs.operations.PageWords.{in_page}
use Rattle.laws_contents.specs.pack_model.specs.reading.Sights.{Sight, sights}
use Rattle.laws_contents.specs.pack_model.specs.reading.Slots.{Item, all_words, item_words, slots}
use Rattle.laws_contents.specs.pack_model.specs.reading.Slots.Item.{entry, space}
use Rattle.laws_contents.specs.pack_model.specs.states.Whole.{Tidy, Whole, living_too}
use Rattle.laws_contents.specs.pack_laws.proofs.Keys.{is_fid-sym}
use Rattle.laws_contents.specs.laws_record.proofs.Beside.{any_second}
use Rattle.laws_contents.specs.laws_record.proofs.DirReads.{dir_reads, insert_same, not_descriptor}
use Rattle.laws_contents.specs.laws_record.proofs.DirWords.{dir_change}
use Rattle.laws_contents.specs.laws_record.proofs.Entered.{directory, spot}
use Rattle.laws_contents.specs.laws_record.proofs.Heads.{and_right}
use Rattle.laws_contents.specs.laws_record.proofs.Scanned.{kept_before, scan_tidied}
use Rattle.laws_contents.specs.laws_record.proofs.Slotwise.{slots_freed}
use Rattle.laws_contents.specs.laws_record.proofs.Tidying.{onto, or_false_left, or_false_right, remove_kept, split_kept}
use Rattle.laws_contents.specs.laws_record.proofs.Unkept.{unkept_items}
use Rattle.laws_contents.specs.laws_record.specs.DirLaws.{Frees, dir_written}
use Rattle.laws_operation.proofs.DirValue.{described_then, dir_before, dir_lead, lives_then, value_change, value_same, value_whole_by}
use Rattle.laws_operation.proofs.inside.Kept.{descriptor_kept, fits_still}
use Rattle.laws_operation.proofs.Leaving.{words_alike}
use Rattle.laws_operation.specs.LifeLaws.{SlotCarriesOut, SlotFreed}
use Rattle.laws_contents.specs.laws_record.proofs.DirSteps.{onto_none}
use Rattle.std.proofs.lemmas.Bool.{not-true}

-- ---- entries of other files
-- none of these is f's
abbrev NoneOf : Fid → List Naming → Type 0
NoneOf f [] = Unit {0}
NoneOf f (x ∷ xs) = (is_fid x.fid f ≡ false) × NoneOf f xs

-- of two lists
none_join : (f : Fid) (a b : List Naming) → NoneOf f a → NoneOf f b → NoneOf f (a ++ b)
none_join f [] b h g = g
none_join f (x ∷ a) b h g = (h.0, none_join f a b h.1 g)

-- what stands before an entry, and what is kept after it, is of other files
before_clear : (e : Naming) (xs : List Naming) → list_any (clashes e) xs ≡ false → NoneOf e.fid xs
before_clear e [] h = tt
before_clear e (x ∷ xs) h = (is_fid-sym x.fid e.fid ∙ or_false_left (is_fid e.fid x.fid) (is_fid e.dir x.dir && is_same_name e.name x.name) (or_false_left (clashes e x) (list_any (clashes e) xs) h), before_clear e xs (or_false_right (clashes e x) (list_any (clashes e) xs) h))

-- and those after it
later_clear : (v : Fid → Bool) (e : Naming) (pre post xs : List Naming) → AllKept (is_kept v) (pre ++ e ∷ post) xs → NoneOf e.fid xs
later_clear v e pre post [] h = tt
later_clear v e pre post (x ∷ xs) h =
    let clear : list_any (clashes x) (pre ++ e ∷ post) ≡ false = not-true (list_any (clashes x) (pre ++ e ∷ post)) (and_right (may_stand v x) (not (list_any (clashes x) (pre ++ e ∷ post))) h.0) in
    (or_false_left (is_fid x.fid e.fid) (is_fid x.dir e.dir && is_same_name x.name e.name) (or_false_left (clashes x e) (list_any (clashes x) post) (any_second (clashes x) pre (e ∷ post) clear)), later_clear v e (x ∷ pre) post xs h.1)

-- whether f lives doesn't matter to the others
kept_dead : (f : Fid) (v : Fid → Bool) (before xs : List Naming) → NoneOf f xs → AllKept (is_kept (living_too f v)) before xs → AllKept (is_kept v) before xs
kept_dead f v before [] n h = tt
kept_dead f v before (x ∷ xs) n h = (ap (λ c. (cond c true (v x.fid) && fits x) && not (list_any (clashes x) before)) (sym n.0) ∙ h.0, kept_dead f v (x ∷ before) xs n.1 h.1)

-- without the one entry of f all others are kept, though f doesn't live
left_kept : (f : Fid) (v : Fid → Bool) (e : Naming) (a b : List Naming) → e.fid ≡ f → AllKept (is_kept (living_too f v)) [] (a ++ e ∷ b) → AllKept (is_kept v) [] (a ++ b)
left_kept f v e a b is kept =
    let u : Fid → Bool = living_too f v in
    let parts = split_kept (is_kept u) [] a (e ∷ b) kept in
    let none : list_any (clashes e) (onto a []) ≡ false = not-true (list_any (clashes e) (onto a [])) (and_right (may_stand u e) (not (list_any (clashes e) (onto a []))) parts.1.0) in
    let clear : NoneOf e.fid (a ++ b) = none_join e.fid a b (before_clear e a (onto_none (clashes e) a [] none).0) (later_clear u e [] (onto a []) b parts.1.1) in
    kept_dead f v [] (a ++ b) (subst (λ g. NoneOf g (a ++ b)) is clear) (remove_kept u [] a e b kept)

-- ---- the record write
-- what is read stays
free_reads : (p : Pack) (d : Fid) (at : ℕ) (a b : List Item) (f : Fid) (own : List ℕ) (l : Leader) (fr : Frees p d at a (entry f own ∷ []) b) → leader (sights p) d ≡ Some l → (here : get (described (sights p)) d ≡ Some (directory l (a ++ entry f own ∷ b)))
    → slots (put_at (all_words a) (all_words (entry f own ∷ []) ∷ []) (dir_words p d)) ≡ a ++ space (item_words (entry f own)) ∷ b → lives (sights p) f ≡ false → read_as (dir_written p (all_words a) at (all_words (entry f own ∷ []) ∷ [])) ≡ read_as p
unfolding read_sights
free_reads p d at a b f own l fr lead here now dead =
    let v : Fid → Bool = lives (sights p) in
    let new : List ℕ = all_words (entry f own ∷ []) ∷ [] in
    let e : Naming = record { dir = d; name = own; fid = f } in
    let before : List Naming = kept_before v (described (sights p)) d l (a ++ entry f own ∷ b) here in
    let u = unkept_items (is_kept v) d before a b f own (ap (λ r. (r && fits e) && not (list_any (clashes e) (kept_after (is_kept v) d before a))) dead) in
    dir_reads p (dir_written p (all_words a) at new) d (put_at (all_words a) new (dir_words p d)) (dir_change p d (all_words a) at new fr.write) fr.write.directory l lead (tidied v (described (sights p)))
    (ap (λ is. tidied v (insert (described (sights p)) d (directory l is))) now ∙ scan_tidied v (described (sights p)) d l (a ++ entry f own ∷ b) (a ++ space (item_words (entry f own)) ∷ b) here (sym u.0, sym u.1))

-- the slot is made free
pub slot_carries_out : SlotCarriesOut
slot_carries_out p f d at a b own w t dead fr =
    let ss : List Sight = sights p in
    let h = fr.write in
    let old : List Item = entry f own ∷ [] in
    let n : ℕ = item_words (entry f own) in
    let one : all_words old ≡ n = omega arith in
    let files : Files = described ss in
    let e : Naming = record { dir = d; name = own; fid = f } in
    let new : List ℕ = all_words old ∷ [] in
    let js : List Item = a ++ space n ∷ b in
    let now : slots (put_at (all_words a) new (dir_words p d)) ≡ js = slots_freed (dir_words p d) a old b fr.slots_are fr.some (let m = fr.most in omega arith) ∙ ap (λ k. a ++ space k ∷ b) one in
    let sum : all_words js ≡ all_words (slots (dir_words p d)) = words_alike a old (space n ∷ []) b refl ∙ ap all_words (sym fr.slots_are) in
    let l : Leader = dir_lead p w d (all_words a) at new h in
    let lead : leader ss d ≡ Some l = (value_change p w d (all_words a) at new h).was in
    let here : get files d ≡ Some (directory l (a ++ entry f own ∷ b)) = dir_before p w d (all_words a) at new h js now sum ∙ ap (λ x. Some (directory l x)) fr.slots_are in
    let same_files : insert files d (directory l (a ++ entry f own ∷ b)) ≡ files = insert_same files d (directory l (a ++ entry f own ∷ b)) here in
    let q : Pack = dir_written p (all_words a) at new in
    let reads : read_as q ≡ read_as p = free_reads p d at a b f own l fr lead here now dead in
    let pl = spot files d l (a ++ entry f own ∷ b) a b here in
    let kept : AllKept (is_kept (living_too f (lives ss))) [] (pl.before ++ e ∷ pl.later) = subst (AllKept (is_kept (living_too f (lives ss))) []) (pl.with f own) (subst (IsTidy (living_too f (lives ss))) (sym same_files) t) in
    let left : AllKept (is_kept (lives ss)) [] (pl.before ++ pl.later) = left_kept f (lives ss) e pl.before pl.later refl kept in
    let tidy : Tidy q = subst (λ v. IsTidy v (described (sights q))) (sym (lives_then p w d (all_words a) at new h js now sum)) (subst (IsTidy (lives ss)) (sym (described_then p w d (all_words a) at new h js now sum)) (subst (AllKept (is_kept (lives ss)) []) (sym (pl.without n)) left)) in
    let whole : Whole q = value_whole_by p w d (all_words a) at new h js now sum (ap (λ m. is_named m sys_dir) reads ∙ w.root_named) (ap (λ m. is_named m disk_descriptor) reads ∙ w.descriptor_named) in
    let same = value_same p w d (all_words a) at new h in
    let out : SlotFreed p (value_writes at (put_at (in_page (all_words a)) new (sector_at p at).value)) = record {
      meets = record { obeys = write refl tt (rest reads); whole = whole; tidy = tidy };
      descriptor = descriptor_kept p q d same (not_descriptor d h.directory);
      fits = fits_still p q d same (not_descriptor d h.directory) refl;
    } in
    subst (λ k. SlotFreed p (value_writes at (put_at (in_page (all_words a)) (k ∷ []) (sector_at p at).value))) one out
