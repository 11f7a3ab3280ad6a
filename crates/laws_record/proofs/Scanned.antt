-- What the scan leaves of one directory.
use Rattle.std.proofs.Common.{◌++◌, ◌∙◌, ◌∷◌, ◌≡◌, Bool, List, None, Option, Some, [], ap, cond, false, get_or, length, refl, sym, true, ℕ}
use Rattle.std.specs.FinMap.{entries, entries-insert, find, from_entries, get, get-from_entries, insert}
use Rattle.std.specs.FinMap.Entries.{find-put}
use Rattle.std.specs.Option.{option_or}
use Rattle.pack_laws.specs.alto_words.specs.Fid.{fid_cmp, is_fid}
use Rattle.pack_laws.specs.alto_words.specs.declared.fid.Fid.{Fid}
use Rattle.pack_laws.specs.pack_model.specs.reading.Bodies.{Body, File, Files}
use Rattle.pack_laws.specs.pack_model.specs.reading.Bodies.Body.{data_of, items_of}
use Rattle.pack_laws.specs.pack_model.specs.reading.Leaders.{Leader}
use Rattle.pack_laws.specs.pack_model.specs.reading.Namings.{Naming, body_kept, files_kept, is_kept, items_kept, kept_after, kept_after_body, kept_by, namings, namings_in, tidied}
use Rattle.pack_laws.specs.pack_model.specs.reading.Slots.{Item, item_words}
use Rattle.pack_laws.specs.pack_model.specs.reading.Slots.Item.{entry, space}
use Rattle.laws_record.proofs.Around.{Around, around}
use Rattle.laws_record.proofs.DirReads.{insert_same}
use Rattle.laws_record.proofs.Entered.{directory, namings-append}
use Rattle.pack_laws.proofs.Keys.{fid_same, fid_total, is_fid-itself}
use Rattle.laws_record.proofs.Unkept.{after_files, files_kept-append}

-- ---- the entries in front of a directory
-- a list in front of another
pub find-append : (q : Fid) (a b : List (Fid × File)) → find fid_cmp q (a ++ b) ≡ option_or (find fid_cmp q a) (find fid_cmp q b)
find-append q [] b = refl
find-append q (e ∷ a) b = ap (cond (is_fid q e.0) (Some e.1)) (find-append q a b) ∙ either (is_fid q e.0)
  where
    either : (t : Bool) → cond t (Some e.1) (option_or (find fid_cmp q a) (find fid_cmp q b)) ≡ option_or (cond t (Some e.1) (find fid_cmp q a)) (find fid_cmp q b)
    either true = refl
    either false = refl

-- the body of a file that is there
body_in : Option File → Body
body_in None = data_of []
body_in (Some x) = x.body

-- none of them is the directory itself
pub none_in_front : (files : Files) (d : Fid) (x : File) (r : Around fid_cmp (entries files) d x) → find fid_cmp d r.front ≡ None
unfolding body_in
none_in_front files d x r = by (find fid_cmp d r.front) refl
  where
    all : (y : File) → option_or (find fid_cmp d r.front) (find fid_cmp d ((d, y) ∷ r.back)) ≡ Some y
    all y =
        sym (find-append d r.front ((d, y) ∷ r.back))
        ∙ ap (find fid_cmp d) (sym (r.now y))
        ∙ find-put fid_cmp fid_total d d y (entries files) ∙ ap (λ b. cond b (Some y) (find fid_cmp d (entries files))) (is_fid-itself d)

    by : (s : Option File) → find fid_cmp d r.front ≡ s → find fid_cmp d r.front ≡ None
    by None e = e
    by (Some z) e =
        let one : (y : File) → Some z ≡ Some y = λ y. sym (ap (λ s. option_or s (find fid_cmp d ((d, y) ∷ r.back))) e) ∙ all y in
        let a = one (record { leader = x.leader; body = data_of [] }) in
        let b = one (record { leader = x.leader; body = items_of [] }) in
        absurd (let clash : data_of [] ≡ items_of [] = ap body_in (sym a ∙ b) in cc)

-- the scan keeps keys
pub kept_none : (ok : List Naming → Naming → Bool) (d : Fid) (before : List Naming) (es : List (Fid × File)) → find fid_cmp d es ≡ None → find fid_cmp d (files_kept ok before es) ≡ None
kept_none ok d before [] e = refl
kept_none ok d before (x ∷ es) e = by (is_fid d x.0) e (kept_none ok d (kept_after_body ok x.0 before x.1.body) es)
  where
    by : (t : Bool) → cond t (Some x.1) (find fid_cmp d es) ≡ None → (find fid_cmp d es ≡ None → find fid_cmp d (files_kept ok (kept_after_body ok x.0 before x.1.body) es) ≡ None)
        → cond t (Some (record { leader = x.1.leader; body = body_kept ok x.0 before x.1.body })) (find fid_cmp d (files_kept ok (kept_after_body ok x.0 before x.1.body) es)) ≡ None
    by true e again = cc
    by false e again = again e

-- the entries kept before a directory
abbrev pub kept_before : (v : Fid → Bool) (files : Files) (d : Fid) (l : Leader) (is : List Item) → get files d ≡ Some (directory l is) → List Naming
kept_before v files d l is here = after_files (is_kept v) [] (around fid_total fid_same files d (directory l is) here).front

-- what the scan leaves of all, by what it leaves of one directory
pub scan_at : (v : Fid → Bool) (files : Files) (d : Fid) (l : Leader) (is js : List Item) (here : get files d ≡ Some (directory l is)) → let r = around fid_total fid_same files d (directory l is) here in
    files_kept (is_kept v) [] (entries (insert files d (directory l js))) ≡ files_kept (is_kept v) [] r.front ++ files_kept (is_kept v) (kept_before v files d l is here) ((d, directory l js) ∷ r.back)
scan_at v files d l is js here =
    let r = around fid_total fid_same files d (directory l is) here in
    ap (files_kept (is_kept v) []) (entries-insert fid_total files d (directory l js) ∙ r.now (directory l js)) ∙ files_kept-append (is_kept v) [] r.front ((d, directory l js) ∷ r.back)

-- the slots of the directory that it leaves
pub tidied_items : (v : Fid → Bool) (files : Files) (d : Fid) (l : Leader) (is : List Item) (here : get files d ≡ Some (directory l is)) → get (tidied v files) d ≡ Some (directory l (items_kept (is_kept v) d (kept_before v files d l is here) is))
unfolding tidied
tidied_items v files d l is here =
    let r = around fid_total fid_same files d (directory l is) here in
    let before : List Naming = kept_before v files d l is here in
    get-from_entries fid_total (files_kept (is_kept v) [] (entries files)) d
    ∙ ap (λ m. find fid_cmp d (files_kept (is_kept v) [] (entries m))) (sym (insert_same files d (directory l is) here))
    ∙ ap (find fid_cmp d) (scan_at v files d l is is here)
    ∙ find-append d (files_kept (is_kept v) [] r.front) (files_kept (is_kept v) before ((d, directory l is) ∷ r.back))
    ∙ ap (λ s. option_or s (find fid_cmp d (files_kept (is_kept v) before ((d, directory l is) ∷ r.back)))) (kept_none (is_kept v) d [] r.front (none_in_front files d (directory l is) r))
    ∙ ap (λ b. cond b (Some (directory l (items_kept (is_kept v) d before is))) (find fid_cmp d (files_kept (is_kept v) (kept_after (is_kept v) d before is) r.back))) (is_fid-itself d)

-- slots that the scan leaves the same leave all files the same
pub scan_tidied : (v : Fid → Bool) (files : Files) (d : Fid) (l : Leader) (is js : List Item) (here : get files d ≡ Some (directory l is))
    → (items_kept (is_kept v) d (kept_before v files d l is here) js ≡ items_kept (is_kept v) d (kept_before v files d l is here) is) × (kept_after (is_kept v) d (kept_before v files d l is here) js ≡ kept_after (is_kept v) d (kept_before v files d l is here) is)
    → tidied v (insert files d (directory l js)) ≡ tidied v files
unfolding tidied
scan_tidied v files d l is js here same =
    let r = around fid_total fid_same files d (directory l is) here in
    ap (from_entries {R = fid_cmp}) (scan_at v files d l is js here
    ∙ (λ i. files_kept (is_kept v) [] r.front ++ ((d, directory l (same.0 i)) ∷ files_kept (is_kept v) (same.1 i) r.back))
    ∙ sym (scan_at v files d l is is here)
    ∙ ap (λ m. files_kept (is_kept v) [] (entries m)) (insert_same files d (directory l is) here))

-- slots that it leaves alike, by their entries
pub scan_same : (v : Fid → Bool) (files : Files) (d : Fid) (l : Leader) (is js : List Item) (here : get files d ≡ Some (directory l is))
    → (namings_in d (items_kept (is_kept v) d (kept_before v files d l is here) js) ≡ namings_in d (items_kept (is_kept v) d (kept_before v files d l is here) is)) × (kept_after (is_kept v) d (kept_before v files d l is here) js ≡ kept_after (is_kept v) d (kept_before v files d l is here) is)
    → namings (files_kept (is_kept v) [] (entries (insert files d (directory l js)))) ≡ namings (files_kept (is_kept v) [] (entries files))
scan_same v files d l is js here same =
    let r = around fid_total fid_same files d (directory l is) here in
    let before : List Naming = kept_before v files d l is here in
    ap namings (scan_at v files d l is js here)
    ∙ namings-append (files_kept (is_kept v) [] r.front) (files_kept (is_kept v) before ((d, directory l js) ∷ r.back))
    ∙ (λ i. namings (files_kept (is_kept v) [] r.front) ++ (same.0 i ++ namings (files_kept (is_kept v) (same.1 i) r.back)))
    ∙ sym (namings-append (files_kept (is_kept v) [] r.front) (files_kept (is_kept v) before ((d, directory l is) ∷ r.back)))
    ∙ sym (ap namings (scan_at v files d l is is here))
    ∙ ap (λ m. namings (files_kept (is_kept v) [] (entries m))) (insert_same files d (directory l is) here)

-- a slot that the scan leaves free wasn't kept
pub not_kept : (ok : List Naming → Naming → Bool) (d : Fid) (before : List Naming) (a b : List Item) (f : Fid) (name : List ℕ) → get_or (items_kept ok d before (a ++ entry f name ∷ b)) (length a) (entry f name) ≡ space (item_words (entry f name)) → ok (kept_after ok d before a) (record { dir = d; name = name; fid = f }) ≡ false
not_kept ok d before [] b f name e = by (ok before (record { dir = d; name = name; fid = f })) e
  where
    by : (t : Bool) → cond t (entry f name) (space (item_words (entry f name))) ≡ space (item_words (entry f name)) → t ≡ false
    by true e = absurd cc
    by false e = refl
not_kept ok d before (i ∷ a) b f name e = not_kept ok d (kept_by ok d before i) a b f name e
