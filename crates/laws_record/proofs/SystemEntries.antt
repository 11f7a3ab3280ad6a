-- The entry of a system file is entered: what is viewed stays.
use Rattle.std.proofs.Common.{Bool, List, Some, [], ap, arith, false, length, refl, suc, sym, true, zero, ℕ, ◌++◌, ◌+◌, ◌||◌, ◌∙◌, ◌∷◌, ◌≡◌}
use Rattle.std.specs.FinMap.{find, get, insert}
use Rattle.pack_laws.specs.alto_words.specs.Fid.{disk_descriptor, fid_cmp, is_fid, is_system, sys_dir}
use Rattle.pack_laws.specs.alto_words.specs.declared.fid.Fid.{Fid}
use Rattle.pack_laws.specs.pack_model.specs.reading.Bodies.{Files, described}
use Rattle.pack_laws.specs.pack_model.specs.reading.Bytes.{put_at}
use Rattle.pack_laws.specs.pack_model.specs.reading.Files.{lives}
use Rattle.pack_laws.specs.pack_model.specs.reading.Leaders.{Leader}
use Rattle.pack_laws.specs.pack_model.specs.hints.Links.{dir_words}
use Rattle.pack_laws.specs.pack_model.specs.reading.Namings.{Naming, descriptor_name, is_kept, items_kept, kept_after, namings_in, sys_dir_name}
use Rattle.pack_laws.specs.pack_model.specs.operations.Rooms.{left_over}
use Rattle.pack_laws.specs.pack_model.specs.reading.Sights.{sights}
use Rattle.pack_laws.specs.pack_model.specs.reading.Slots.{Item, all_words, entry_length, slots}
use Rattle.pack_laws.specs.pack_model.specs.reading.Slots.Item.{entry, space}
use Rattle.pack_laws.specs.pack_model.specs.showing.View.{homes}
use Rattle.laws_record.proofs.inside.Aside.{names_aside}
use Rattle.laws_record.proofs.DirKinds.{spaces_in, view_change}
use Rattle.laws_record.proofs.DirReads.{dir_was, has_leader}
use Rattle.laws_record.proofs.DirWords.{dir_change}
use Rattle.laws_record.proofs.Entered.{directory}
use Rattle.laws_record.proofs.EnterSlots.{slots_entered}
use Rattle.laws_record.proofs.Fitting.{fits_own, fits_root}
use Rattle.pack_laws.proofs.Keys.{same_fid}
use Rattle.laws_record.proofs.Scanned.{kept_before, scan_same}
use Rattle.laws_record.proofs.inside.Viewed.{name_left}
use Rattle.laws_record.specs.DirLaws.{EntryOfASystemFile, entered}
use Rattle.laws_record.proofs.Tidying.{or_false_left, or_false_right}

-- words left over have no entry
pub left_names : (d : Fid) (left : ℕ) (b : List Item) → namings_in d (left_over left b) ≡ namings_in d b
left_names d zero b = refl
left_names d (suc n) b = refl

-- and as many words as they are
pub left_words : (left : ℕ) (b : List Item) → all_words (left_over left b) ≡ left + all_words b
left_words zero b = omega arith
left_words (suc n) b = refl

-- they are a free slot, or none
pub left_split : (left : ℕ) (b : List Item) → left_over left b ≡ left_over left [] ++ b
left_split zero b = refl
left_split (suc n) b = refl

-- without an entry
left_bare : (d : Fid) (left n : ℕ) → namings_in d (space n ∷ left_over left []) ≡ []
left_bare d zero n = refl
left_bare d (suc k) n = refl

-- a system file is one of the two, and each has its name
name_aside : (v : Fid → Bool) (files : Files) (d : Fid) (l : Leader) (is a b : List Item) (f : Fid) (name : List ℕ) (n : ℕ) → is_system f ≡ true → get files d ≡ Some (directory l is) → (q : Fid) → is_system q ≡ false
    → name_left v (insert files d (directory l (a ++ entry f name ∷ b))) q ≡ name_left v (insert files d (directory l (a ++ space n ∷ b))) q
name_aside v files d l is a b f name n system here q other = by (is_fid f sys_dir) (is_fid f disk_descriptor) refl refl system
  where
    by : (x y : Bool) → is_fid f sys_dir ≡ x → is_fid f disk_descriptor ≡ y → (x || y) ≡ true → name_left v (insert files d (directory l (a ++ entry f name ∷ b))) q ≡ name_left v (insert files d (directory l (a ++ space n ∷ b))) q
    by false false x y e = cc
    by true y e0 e1 e =
        ap (λ g. name_left v (insert files d (directory l (a ++ entry g name ∷ b))) q) (same_fid f sys_dir e0)
        ∙ names_aside sys_dir sys_dir_name fits_root v files d l is a b name n here q (or_false_left (is_fid q sys_dir) (is_fid q disk_descriptor) other)
    by false true e0 e1 e =
        ap (λ g. name_left v (insert files d (directory l (a ++ entry g name ∷ b))) q) (same_fid f disk_descriptor e1)
        ∙ names_aside disk_descriptor descriptor_name fits_own v files d l is a b name n here q (or_false_right (is_fid q sys_dir) (is_fid q disk_descriptor) other)

-- the entry of a system file
pub entry_of_a_system_file : EntryOfASystemFile
entry_of_a_system_file p d at new a b f name left h system =
    let v : Fid → Bool = lives (sights p) in
    let files : Files = described (sights p) in
    let n : ℕ = entry_length (length name) in
    let words : List ℕ = put_at (all_words a) new (dir_words p d) in
    let l = has_leader (sights p) d h.write.lives in
    let c = dir_change p d (all_words a) at new h.write in
    let was : get files d ≡ Some (directory l.0 (slots (dir_words p d))) = dir_was p (entered p at a new) d words c h.write.directory l.0 l.1 in
    let now : slots words ≡ a ++ entry f name ∷ left_over left b = slots_entered p d at new a b f name left h in
    let before : List Naming = kept_before v files d l.0 (slots (dir_words p d)) was in
    let old : List Item = space n ∷ left_over left [] in
    let s = spaces_in (is_kept v) d before a old (n + left) b (left_bare d left n) in
    let split : a ++ space n ∷ left_over left b ≡ a ++ (old ++ b) = ap (λ r. a ++ space n ∷ r) (left_split left b) in
    view_change p (entered p at a new) d words c h.write.directory l.0 l.1
    (λ q e. ap (λ is. name_left v (insert files d (directory l.0 is)) q) now
    ∙ name_aside v files d l.0 (slots (dir_words p d)) a (left_over left b) f name n system was q e
    ∙ ap (λ ns. find fid_cmp q (homes ns))
    (scan_same v files d l.0 (slots (dir_words p d)) (a ++ space n ∷ left_over left b) was (
      ap (λ is. namings_in d (items_kept (is_kept v) d before is)) split ∙ sym s.0 ∙ ap (λ is. namings_in d (items_kept (is_kept v) d before is)) (sym h.slots_are),
      ap (kept_after (is_kept v) d before) split ∙ sym s.1 ∙ ap (kept_after (is_kept v) d before) (sym h.slots_are),
    )))
