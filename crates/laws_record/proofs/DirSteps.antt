-- Widen and leave: the record write is the step.
use Rattle.std.proofs.Common.{◌&&◌, ◌++◌, ◌/◌, ◌∙◌, ◌∷◌, ◌≡◌, Bool, List, Some, [], ap, arith, cond, false, length, map, not, refl, subst, suc, sym, take, true, ℕ}
use Rattle.std.proofs.lemmas.Bool.{not-true}
use Rattle.std.specs.FinMap.{entries, find, from_entries, get, get-from_entries, get-insert, insert, same_map}
use Rattle.std.specs.List.{list_any}
use Rattle.pack_laws.specs.alto_words.specs.Fid.{fid_cmp, is_directory, is_fid}
use Rattle.pack_laws.specs.alto_words.specs.Names.{fold_case, is_same_name}
use Rattle.pack_laws.specs.alto_words.specs.declared.fid.Fid.{Fid}
use Rattle.pack_laws.specs.disk_records.specs.Labels.{page_of, tag}
use Rattle.pack_laws.specs.disk_records.specs.Packs.{Pack, sector_at}
use Rattle.pack_laws.specs.pack_model.specs.reading.Bodies.{File, Files, described}
use Rattle.pack_laws.specs.pack_model.specs.reading.Bytes.{bytes_of, put_at}
use Rattle.pack_laws.specs.pack_model.specs.reading.Files.{file_bytes, leader, lives, place}
use Rattle.pack_laws.specs.pack_model.specs.reading.Leaders.{Leader}
use Rattle.pack_laws.specs.pack_model.specs.hints.Links.{dir_words}
use Rattle.pack_laws.specs.pack_model.specs.reading.Model.{read_as, read_sights}
use Rattle.pack_laws.specs.pack_model.specs.reading.Namings.{AllKept, IsTidy, Naming, clashes, files_kept, is_kept, items_kept, kept_after, may_stand, namings, namings_in, tidied}
use Rattle.pack_laws.specs.pack_model.specs.reading.Sights.{sights}
use Rattle.pack_laws.specs.pack_model.specs.reading.Slots.{Item, SlotsReachEnd, all_words, item_words, slots}
use Rattle.pack_laws.specs.pack_model.specs.reading.Slots.Item.{entry, space}
use Rattle.pack_laws.specs.pack_model.specs.operations.Step.{items_left, step}
use Rattle.pack_laws.specs.pack_model.specs.operations.Step.Operation.{widen}
use Rattle.laws_record.proofs.Around.{around}
use Rattle.laws_record.proofs.Beside.{any_second}
use Rattle.laws_record.proofs.DirReads.{dir_reads, dir_was, has_leader, insert_same}
use Rattle.laws_record.proofs.DirWords.{DirChange, dir_change}
use Rattle.laws_record.proofs.EnterScan.{find_replaced, items_kept-append}
use Rattle.laws_record.proofs.Entered.{directory, leave_tidy, spot}
use Rattle.laws_record.proofs.Entering.{on_slots}
use Rattle.laws_record.proofs.inside.FileSteps.{count_shown}
use Rattle.laws_record.proofs.Fitting.{same_equiv, same_sym}
use Rattle.laws_record.proofs.Heads.{all_read, and_right}
use Rattle.pack_laws.proofs.Keys.{fid_same, fid_total, is_fid-itself}
use Rattle.laws_record.proofs.inside.OneFile.{page_change}
use Rattle.pack_laws.proofs.Placing.{page_of_place}
use Rattle.laws_record.proofs.Scanned.{kept_before, kept_none, none_in_front, scan_at, tidied_items}
use Rattle.laws_record.proofs.Slotting.{slots_reads}
use Rattle.laws_record.proofs.Slotwise.{slots_freed}
use Rattle.laws_record.proofs.Tidying.{onto, or_false, or_false_left, or_false_right, split_kept, tidy_same}
use Rattle.laws_record.specs.DirLaws.{freed}
use Rattle.laws_record.specs.QuietLaws.{with_label}
use Rattle.laws_record.specs.StepLaws.{LeaveIsTheStep, WidenIsTheStep}

-- ---- widen
-- other slots after the last, of which the scan keeps no entry
pub scan_more : (v : Fid → Bool) (files : Files) (d : Fid) (l : Leader) (is js : List Item) (here : get files d ≡ Some (directory l is)) → namings_in d js ≡ [] → tidied v (insert files d (directory l (is ++ js))) ≡ insert (tidied v files) d (directory l (items_kept (is_kept v) d (kept_before v files d l is here) is ++ js))
unfolding tidied
scan_more v files d l is js here bare =
    let before : List Naming = kept_before v files d l is here in
    let r = around fid_total fid_same files d (directory l is) here in
    let front_files : List (Fid × File) = files_kept (is_kept v) [] r.front in
    let back_files : List (Fid × File) = files_kept (is_kept v) (kept_after (is_kept v) d before is) r.back in
    let kept : List Item = items_kept (is_kept v) d before is in
    let s = items_kept-append (is_kept v) d before is js in
    let t = bare_same (is_kept v) d (kept_after (is_kept v) d before is) js bare in
    let now : files_kept (is_kept v) [] (entries (insert files d (directory l (is ++ js)))) ≡ front_files ++ (d, directory l (kept ++ js)) ∷ back_files =
    scan_at v files d l is (is ++ js) here
    ∙ (λ i. front_files ++ ((d, directory l (s.0 i)) ∷ files_kept (is_kept v) (s.1 i) r.back))
    ∙ (λ i. front_files ++ ((d, directory l (kept ++ t.0 i)) ∷ files_kept (is_kept v) (t.1 i) r.back)) in
    let was : files_kept (is_kept v) [] (entries files) ≡ front_files ++ (d, directory l kept) ∷ back_files =
    ap (λ m. files_kept (is_kept v) [] (entries m)) (sym (insert_same files d (directory l is) here)) ∙ scan_at v files d l is is here in
    let alone = kept_none (is_kept v) d [] r.front (none_in_front files d (directory l is) r) in
    same_map fid_total fid_same _ _ (λ g.
    get-from_entries fid_total (files_kept (is_kept v) [] (entries (insert files d (directory l (is ++ js))))) g
    ∙ ap (find fid_cmp g) now
    ∙ find_replaced g d (directory l (kept ++ js)) (directory l kept) front_files back_files alone
    ∙ ap (λ es. cond (is_fid g d) (Some (directory l (kept ++ js))) (find fid_cmp g es)) (sym was)
    ∙ ap (cond (is_fid g d) (Some (directory l (kept ++ js)))) (sym (get-from_entries fid_total (files_kept (is_kept v) [] (entries files)) g))
    ∙ sym (get-insert fid_total (from_entries {R = fid_cmp} (files_kept (is_kept v) [] (entries files))) d (directory l (kept ++ js)) g))
  where
    bare_same : (ok : List Naming → Naming → Bool) (d : Fid) (before : List Naming) (js : List Item) → namings_in d js ≡ [] → (items_kept ok d before js ≡ js) × (kept_after ok d before js ≡ before)
    bare_same ok d before [] e = (refl, refl)
    bare_same ok d before (space n ∷ js) e = let r = bare_same ok d before js e in (ap (λ q. space n ∷ q) r.0, r.1)
    bare_same ok d before (entry f name ∷ js) e = absurd (let clash : record { dir = d; name = name; fid = f } ∷ namings_in d js ≡ [] = e in cc)

-- a directory with a free slot after its others
widened : (p q : Pack) (d : Fid) (words : List ℕ) → DirChange p q d words → is_directory d ≡ true → (l : Leader) → leader (sights p) d ≡ Some l → slots words ≡ slots (dir_words p d) ++ space 256 ∷ [] → read_as q ≡ step (read_as p) (widen d)
unfolding read_sights
widened p q d words c dir l lead all =
    let v : Fid → Bool = lives (sights p) in
    let here = dir_was p q d words c dir l lead in
    dir_reads p q d words c dir l lead (insert (tidied v (described (sights p))) d (directory l (items_kept (is_kept v) d (kept_before v (described (sights p)) d l (slots (dir_words p d)) here) (slots (dir_words p d)) ++ space 256 ∷ [])))
    (ap (λ js. tidied v (insert (described (sights p)) d (directory l js))) all ∙ scan_more v (described (sights p)) d l (slots (dir_words p d)) (space 256 ∷ []) here refl)
    ∙ on_slots (read_as p) d l _ _ (λ js. js ++ space 256 ∷ []) (tidied_items v (described (sights p)) d l (slots (dir_words p d)) here) refl

-- the label of the last page, after which a free slot comes: the words of the directory
pub widen_change : (p : Pack) (at : ℕ) (d : Fid) (label fresh : List ℕ) → let b : ℕ = length (file_bytes (sights p) d) in let q : Pack = with_label p at label in
    place (sights p) d (suc (b / 512)) ≡ Some at → page_of label ≡ Some (record { fid = d; number = suc (b / 512) }) → dir_words q d ≡ dir_words p d ++ fresh → DirChange p q d (dir_words p d ++ fresh)
widen_change p at d label fresh bears names more =
    let q : Pack = with_label p at label in
    let n : ℕ = length (file_bytes (sights p) d) / 512 in
    let h = page_of_place (sights p) d n at bears in
    let shown = count_shown p at n d label h names in
    let c = page_change p q d n at (take (tag label).bytes (bytes_of (sector_at p at).value)) (file_bytes (sights q) d) h refl shown (ap (λ us. file_bytes us d) (sym shown)) in
    record { shape = c.shape; good = c.good; leaders = c.leaders; others = c.others; words_are = more }

-- and its slots
pub widen_slots : (p : Pack) (d : Fid) (fresh : List ℕ) → SlotsReachEnd (file_bytes (sights p) d) → slots fresh ≡ space 256 ∷ [] → slots (dir_words p d ++ fresh) ≡ slots (dir_words p d) ++ space 256 ∷ []
widen_slots p d fresh ends one =
    let r = all_read (dir_words p d) ends.items ends.reads in
    slots_reads (dir_words p d) fresh ends.items ends.reads ∙ (λ i. sym r.0 i ++ one i)

-- so the record write is the step
pub widen_is_the_step : WidenIsTheStep
widen_is_the_step p at d label fresh dir live bears names ends more one =
    let l = has_leader (sights p) d live in
    widened p (with_label p at label) d (dir_words p d ++ fresh) (widen_change p at d label fresh bears names more) dir l.0 l.1 (widen_slots p d fresh ends one)

-- ---- leave
-- none of several passes a test, nor of those put onto them
pub onto_none : (t : Naming → Bool) (a b : List Naming) → list_any t (onto a b) ≡ false → (list_any t a ≡ false) × (list_any t b ≡ false)
onto_none t [] b h = (refl, h)
onto_none t (x ∷ a) b h =
    let r = onto_none t a (x ∷ b) h in
    (or_false (t x) (list_any t a) (or_false_left (t x) (list_any t b) r.1) r.0, or_false_right (t x) (list_any t b) r.1)

-- the first entry with this name is the one that no other has it before
left_first : (d f : Fid) (name : List ℕ) (a b : List Item) → list_any (clashes (record { dir = d; name = name; fid = f })) (namings_in d a) ≡ false → items_left name (a ++ entry f name ∷ b) ≡ a ++ space (item_words (entry f name)) ∷ b
left_first d f name [] b none = ap (λ t. cond t (space (item_words (entry f name)) ∷ b) (entry f name ∷ items_left name b)) (same_equiv.refl (map fold_case name))
left_first d f name (space n ∷ a) b none = ap (λ r. space n ∷ r) (left_first d f name a b none)
left_first d f name (entry g own ∷ a) b none =
    let e : Naming = record { dir = d; name = name; fid = f } in
    let x : Naming = record { dir = d; name = own; fid = g } in
    let apart : (is_fid d d && is_same_name name own) ≡ false = or_false_right (is_fid f g) (is_fid d d && is_same_name name own) (or_false_left (clashes e x) (list_any (clashes e) (namings_in d a)) none) in
    let other : is_same_name own name ≡ false = same_sym own name ∙ sym (ap (λ t. t && is_same_name name own) (is_fid-itself d)) ∙ apart in
    ap (λ t. cond t (space (item_words (entry g own)) ∷ (a ++ entry f name ∷ b)) (entry g own ∷ items_left name (a ++ entry f name ∷ b))) other
    ∙ ap (λ r. entry g own ∷ r) (left_first d f name a b (or_false_right (clashes e x) (list_any (clashes e) (namings_in d a)) none))

-- in tidy files no other entry of the directory has its name
pub apart_before : (v : Fid → Bool) (files : Files) (d : Fid) (l : Leader) (a b : List Item) (f : Fid) (name : List ℕ) → IsTidy v files → (here : get files d ≡ Some (directory l (a ++ entry f name ∷ b))) → list_any (clashes (record { dir = d; name = name; fid = f })) (namings_in d a) ≡ false
apart_before v files d l a b f name tidy here =
    let e : Naming = record { dir = d; name = name; fid = f } in
    let p = spot files d l (a ++ entry f name ∷ b) a b here in
    let all : AllKept (is_kept v) [] (p.before ++ e ∷ p.later) = subst (AllKept (is_kept v) []) (ap (λ m. namings (entries m)) (sym (insert_same files d (directory l (a ++ entry f name ∷ b)) here)) ∙ p.with f name) tidy in
    let kept : is_kept v (onto p.before []) e ≡ true = (split_kept (is_kept v) [] p.before (e ∷ p.later) all).1.0 in
    let none : list_any (clashes e) (onto p.before []) ≡ false = not-true (list_any (clashes e) (onto p.before [])) (and_right (may_stand v e) (not (list_any (clashes e) (onto p.before []))) kept) in
    any_second (clashes e) p.ahead (namings_in d a) (sym (ap (list_any (clashes e)) p.before_is) ∙ (onto_none (clashes e) p.before [] none).0)

-- the value in which an entry's slot becomes free
pub leave_is_the_step : LeaveIsTheStep
unfolding read_sights
leave_is_the_step p d at a b f name tidy h =
    let v : Fid → Bool = lives (sights p) in
    let files : Files = described (sights p) in
    let old : List Item = entry f name ∷ [] in
    let n : ℕ = all_words old in
    let words : List ℕ = put_at (all_words a) (n ∷ []) (dir_words p d) in
    let l = has_leader (sights p) d h.write.lives in
    let c = dir_change p d (all_words a) at (n ∷ []) h.write in
    let here : get files d ≡ Some (directory l.0 (a ++ entry f name ∷ b)) = dir_was p (freed p at a old) d words c h.write.directory l.0 l.1 ∙ ap (λ is. Some (directory l.0 is)) h.slots_are in
    let z : n ≡ item_words (entry f name) = omega arith in
    let js : List Item = a ++ space (item_words (entry f name)) ∷ b in
    let now : slots words ≡ js = slots_freed (dir_words p d) a old b h.slots_are h.some (let m = h.most in omega arith) ∙ ap (λ k. a ++ space k ∷ b) z in
    let same : tidied v files ≡ files = tidy_same v files tidy in
    let still : IsTidy v (insert files d (directory l.0 js)) =
    leave_tidy v files d l.0 (a ++ entry f name ∷ b) a b here f name (item_words (entry f name)) (subst (IsTidy v) (sym (insert_same files d (directory l.0 (a ++ entry f name ∷ b)) here)) tidy) in
    dir_reads p (freed p at a old) d words c h.write.directory l.0 l.1 (insert (tidied v files) d (directory l.0 js))
    (ap (λ is. tidied v (insert files d (directory l.0 is))) now ∙ tidy_same v (insert files d (directory l.0 js)) still ∙ ap (λ m. insert m d (directory l.0 js)) (sym same))
    ∙ on_slots (read_as p) d l.0 (a ++ entry f name ∷ b) js (items_left name) (ap (λ m. get m d) same ∙ here) (left_first d f name a b (apart_before v files d l.0 a b f name tidy here))
