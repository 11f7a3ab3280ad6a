-- Words of a directory are written: loose ones, free slots made one, and slots that aren't kept made free.
use Rattle.std.proofs.Common.{Bool, List, Some, [], ap, arith, cond, false, get_or, inl, inr, length, refl, subst, sym, true, ℕ, ◌++◌, ◌+◌, ◌-◌, ◌∙◌, ◌∷◌, ◌≡◌}
use Rattle.std.proofs.lemmas.Bool.{cases_lt}
use Rattle.std.specs.FinMap.{find, get, get-insert, insert}
use Rattle.std.specs.Option.{option_map}
use Rattle.pack_laws.specs.alto_words.specs.Fid.{fid_cmp, is_directory, is_fid, is_system}
use Rattle.pack_laws.specs.alto_words.specs.declared.fid.Fid.{Fid}
use Rattle.pack_laws.specs.disk_records.specs.Packs.{Pack}
use Rattle.pack_laws.specs.pack_model.specs.reading.Bodies.{Files, described, items_in}
use Rattle.pack_laws.specs.pack_model.specs.reading.Bytes.{put_at}
use Rattle.pack_laws.specs.pack_model.specs.reading.Files.{leader, lives}
use Rattle.pack_laws.specs.pack_model.specs.reading.Leaders.{Leader}
use Rattle.pack_laws.specs.pack_model.specs.hints.Links.{dir_words}
use Rattle.pack_laws.specs.pack_model.specs.reading.Model.{dir_items, read_as, read_sights}
use Rattle.pack_laws.specs.pack_model.specs.reading.Namings.{Naming, is_kept, item_kept, items_kept, kept_after, kept_by, namings_in, tidied}
use Rattle.pack_laws.specs.pack_model.specs.reading.Sights.{sights}
use Rattle.pack_laws.specs.pack_model.specs.reading.Slots.{Item, all_words, item_words, slots}
use Rattle.pack_laws.specs.pack_model.specs.reading.Slots.Item.{entry, space}
use Rattle.pack_laws.specs.pack_model.specs.showing.View.{homes, seen_of, view}
use Rattle.pack_laws.proofs.Bytes.{length-put_at}
use Rattle.pack_laws.proofs.Keys.{fid_total, same_fid}
use Rattle.laws_record.proofs.Addressing.{IsLoose, LooseIn, loose_among, slots_kept}
use Rattle.laws_record.proofs.DirReads.{dir_reads, dir_same, dir_was, has_leader}
use Rattle.laws_record.proofs.DirWords.{DirChange, dir_change}
use Rattle.laws_record.proofs.Entered.{directory}
use Rattle.laws_record.proofs.Scanned.{kept_before, not_kept, scan_same, scan_tidied, tidied_items}
use Rattle.laws_record.proofs.Slotwise.{put_before, put_after, slots_freed}
use Rattle.laws_record.proofs.Staying.{Stays}
use Rattle.laws_record.proofs.Unkept.{unkept_items}
use Rattle.laws_record.proofs.inside.Viewed.{name_left, tidied_view}
use Rattle.laws_record.specs.DirLaws.{FreeSlotsMadeOne, IsLooseWord, LooseWords, SlotThatIsNotKept, dir_written, freed}
use Rattle.laws_record.specs.DirLaws.IsLooseWord.{in_space, of_address}
use Rattle.laws_record.specs.ViewLaws.{ViewsSame}

-- the address of a slot that stands there, as a loose word
loose_word : (p : Pack) (d : Fid) (k : ℕ) → IsLooseWord p d k → LooseIn 0 (slots (dir_words p d)) k
loose_word p d k (in_space s n stands is low high) =
    let j : ℕ = k - s.place in
    let z : s.place + j ≡ k = omega arith in
    subst (LooseIn 0 (slots (dir_words p d))) z (loose_among (dir_words p d) 0 (slots (dir_words p d)) stands.0 s j stands.1 stands.2 (subst (λ x. IsLoose x j) (sym is) (omega arith, omega arith)))
loose_word p d k (of_address a) =
    subst (LooseIn 0 (slots (dir_words p d))) (sym a.word) (loose_among (dir_words p d) 0 (slots (dir_words p d)) a.stands.0 a.slot 5 a.stands.1 a.stands.2 (subst (λ x. IsLoose x 5) (sym a.item) refl))

-- other loose words leave all slots
pub loose_words : LooseWords Stays
loose_words p d w at new h loose =
    let l = has_leader (sights p) d h.lives in
    let ws : List ℕ = dir_words p d in
    let c = dir_change p d w at new h in
    let size = length-put_at w new ws h.within in
    dir_same p (dir_written p w at new) d (put_at w new ws) c h.directory l.0 l.1
    (slots_kept ws (put_at w new ws) 0 (slots ws) size refl
    (λ k low high. elim (cases_lt k w) [
      | inl before ↦ inl (put_before w new ws k h.within before)
      | inr past ↦ elim (cases_lt k (w + length new)) [
        | inl here ↦ inr (loose_word p d k (loose k past here))
        | inr behind ↦ inl (put_after w new ws k h.within behind)
      ]
    ]))

-- ---- what is viewed
-- of a directory its slots aren't seen
seen_dir : (files : Files) (d : Fid) (l : Leader) (is js : List Item) (q : Fid) → get files d ≡ Some (directory l is) → option_map (seen_of q) (get (insert files d (directory l js)) q) ≡ option_map (seen_of q) (get files q)
seen_dir files d l is js q here = ap (option_map (seen_of q)) (get-insert fid_total files d (directory l js) q) ∙ at
  where
    at : option_map (seen_of q) (cond (is_fid q d) (Some (directory l js)) (get files q)) ≡ option_map (seen_of q) (get files q)
    at = elim (is_fid q d) as (λ b. is_fid q d ≡ b → option_map (seen_of q) (cond b (Some (directory l js)) (get files q)) ≡ option_map (seen_of q) (get files q)) [
      | true ↦ λ e. sym (ap (option_map (seen_of q)) (ap (get files) (same_fid q d e) ∙ here))
      | false ↦ λ e. refl
    ] refl

-- a pack is viewed as before where a directory's slots leave each file its name
pub view_change : (p q : Pack) (d : Fid) (words : List ℕ) → DirChange p q d words → is_directory d ≡ true → (l : Leader) → leader (sights p) d ≡ Some l
    → ((f : Fid) → is_system f ≡ false → name_left (lives (sights p)) (insert (described (sights p)) d (directory l (slots words))) f ≡ name_left (lives (sights p)) (described (sights p)) f) → ViewsSame p q
unfolding read_sights
view_change p q d words c dir l lead names =
    ap view (dir_reads p q d words c dir l lead (tidied (lives (sights p)) (insert (described (sights p)) d (directory l (slots words)))) refl)
    ∙ tidied_view p.shape _ _ _ _ (lives (sights p)) (lives (sights p)) (insert (described (sights p)) d (directory l (slots words))) (described (sights p))
    (λ f e. seen_dir (described (sights p)) d l (slots (dir_words p d)) (slots words) f (dir_was p q d words c dir l lead)) names

-- ---- free slots are made one
-- the scan passes free slots
spaces_pass : (ok : List Naming → Naming → Bool) (d : Fid) (before : List Naming) (old : List Item) (n : ℕ) (b : List Item) → namings_in d old ≡ []
    → (namings_in d (items_kept ok d before (space n ∷ b)) ≡ namings_in d (items_kept ok d before (old ++ b))) × (kept_after ok d before (space n ∷ b) ≡ kept_after ok d before (old ++ b))
spaces_pass ok d before [] n b e = (refl, refl)
spaces_pass ok d before (space k ∷ old) n b e = spaces_pass ok d before old n b e
spaces_pass ok d before (entry f name ∷ old) n b e = absurd (let clash : record { dir = d; name = name; fid = f } ∷ namings_in d old ≡ [] = e in cc)

-- also after others
pub spaces_in : (ok : List Naming → Naming → Bool) (d : Fid) (before : List Naming) (a old : List Item) (n : ℕ) (b : List Item) → namings_in d old ≡ []
    → (namings_in d (items_kept ok d before (a ++ space n ∷ b)) ≡ namings_in d (items_kept ok d before (a ++ (old ++ b)))) × (kept_after ok d before (a ++ space n ∷ b) ≡ kept_after ok d before (a ++ (old ++ b)))
spaces_in ok d before [] old n b e = spaces_pass ok d before old n b e
spaces_in ok d before (space k ∷ a) old n b e = spaces_in ok d before a old n b e
spaces_in ok d before (entry f name ∷ a) old n b e =
    let r = spaces_in ok d (kept_by ok d before (entry f name)) a old n b e in
    (namings_one d (item_kept ok d before (entry f name)) (items_kept ok d (kept_by ok d before (entry f name)) (a ++ space n ∷ b)) (items_kept ok d (kept_by ok d before (entry f name)) (a ++ (old ++ b))) r.0, r.1)
  where
    namings_one : (d : Fid) (i : Item) (x y : List Item) → namings_in d x ≡ namings_in d y → namings_in d (i ∷ x) ≡ namings_in d (i ∷ y)
    namings_one d (space n) x y e = e
    namings_one d (entry f name) x y e = ap (λ r. record { dir = d; name = name; fid = f } ∷ r) e

-- free slots are made one
pub free_slots_made_one : FreeSlotsMadeOne
free_slots_made_one p d at a old b h bare =
    let v : Fid → Bool = lives (sights p) in
    let n : ℕ = all_words old in
    let words : List ℕ = put_at (all_words a) (n ∷ []) (dir_words p d) in
    let l = has_leader (sights p) d h.write.lives in
    let c = dir_change p d (all_words a) at (n ∷ []) h.write in
    let was : get (described (sights p)) d ≡ Some (directory l.0 (slots (dir_words p d))) = dir_was p (freed p at a old) d words c h.write.directory l.0 l.1 in
    let now : slots words ≡ a ++ space n ∷ b = slots_freed (dir_words p d) a old b h.slots_are h.some (let m = h.most in omega arith) in
    view_change p (freed p at a old) d words c h.write.directory l.0 l.1
    (λ f e. ap (λ ns. find fid_cmp f (homes ns))
    (scan_same v (described (sights p)) d l.0 (slots (dir_words p d)) (slots words) was
    (let before : List Naming = kept_before v (described (sights p)) d l.0 (slots (dir_words p d)) was in
    let s = spaces_in (is_kept v) d before a old n b bare in (
      ap (λ is. namings_in d (items_kept (is_kept v) d before is)) now ∙ s.0 ∙ ap (λ is. namings_in d (items_kept (is_kept v) d before is)) (sym h.slots_are),
      ap (kept_after (is_kept v) d before) now ∙ s.1 ∙ ap (kept_after (is_kept v) d before) (sym h.slots_are),
    ))))

-- ---- a slot that isn't kept is made free
-- the slots of a directory in the model
model_items : (p : Pack) (d : Fid) (l : Leader) (is : List Item) (here : get (described (sights p)) d ≡ Some (directory l is)) → dir_items (read_as p) d ≡ items_kept (is_kept (lives (sights p))) d (kept_before (lives (sights p)) (described (sights p)) d l is here) is
unfolding read_sights
model_items p d l is here = ap items_in (tidied_items (lives (sights p)) (described (sights p)) d l is here)

-- an entry that isn't kept is made free
pub slot_that_is_not_kept : SlotThatIsNotKept
unfolding read_sights
slot_that_is_not_kept p d at a b f name h unkept =
    let v : Fid → Bool = lives (sights p) in
    let old : List Item = entry f name ∷ [] in
    let n : ℕ = all_words old in
    let words : List ℕ = put_at (all_words a) (n ∷ []) (dir_words p d) in
    let l = has_leader (sights p) d h.write.lives in
    let c = dir_change p d (all_words a) at (n ∷ []) h.write in
    let was : get (described (sights p)) d ≡ Some (directory l.0 (slots (dir_words p d))) = dir_was p (freed p at a old) d words c h.write.directory l.0 l.1 in
    let before : List Naming = kept_before v (described (sights p)) d l.0 (slots (dir_words p d)) was in
    let z : n ≡ item_words (entry f name) = omega arith in
    let now : slots words ≡ a ++ space (item_words (entry f name)) ∷ b = slots_freed (dir_words p d) a old b h.slots_are h.some (let m = h.most in omega arith) ∙ ap (λ k. a ++ space k ∷ b) z in
    let e = not_kept (is_kept v) d before a b f name
    (ap (λ is. get_or (items_kept (is_kept v) d before is) (length a) (entry f name)) (sym h.slots_are) ∙ ap (λ is. get_or is (length a) (entry f name)) (sym (model_items p d l.0 (slots (dir_words p d)) was)) ∙ unkept) in
    let s = unkept_items (is_kept v) d before a b f name e in
    dir_reads p (freed p at a old) d words c h.write.directory l.0 l.1 (read_as p).files
    (scan_tidied v (described (sights p)) d l.0 (slots (dir_words p d)) (slots words) was (
      ap (items_kept (is_kept v) d before) now ∙ sym s.0 ∙ ap (items_kept (is_kept v) d before) (sym h.slots_are),
      ap (kept_after (is_kept v) d before) now ∙ sym s.1 ∙ ap (kept_after (is_kept v) d before) (sym h.slots_are),
    ))
