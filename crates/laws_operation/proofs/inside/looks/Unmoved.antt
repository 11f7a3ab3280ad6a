-- Operations that leave all entries.
use Rattle.std.proofs.Common.{List, None, Option, Some, [], ap, refl, sym, ℕ, ◌++◌, ◌∙◌, ◌∷◌, ◌≡◌}
use Rattle.std.proofs.lemmas.List.{append-nil}
use Rattle.std.specs.FinMap.{entries, entries-insert, get, insert}
use Rattle.laws_contents.specs.alto_words.specs.declared.fid.Fid.{Fid}
use Rattle.laws_contents.specs.pack_model.specs.reading.Bodies.{Body, File, Files}
use Rattle.laws_contents.specs.pack_model.specs.reading.Bodies.Body.{data_of, items_of}
use Rattle.laws_contents.specs.pack_model.specs.sessions.Maps.{update, update_found}
use Rattle.laws_contents.specs.pack_model.specs.reading.Namings.{body_namings, namings, namings_in}
use Rattle.laws_contents.specs.pack_model.specs.reading.Slots.Item.{space}
use Rattle.laws_contents.specs.pack_model.specs.operations.Step.{body_bytes, body_slots}
use Rattle.laws_contents.specs.pack_model.specs.operations.Step.Operation.{cut, drop_file, enter, grow, leave, make, put, stamp, title, widen}
use Rattle.laws_contents.specs.pack_laws.proofs.Keys.{fid_same, fid_total}
use Rattle.laws_contents.specs.laws_record.proofs.Around.{around}
use Rattle.laws_contents.specs.laws_record.proofs.Entered.{namings-append, namings_in-append}
use Rattle.laws_operation.specs.EntryLaws.{BytesLeadersAndWideningsKeepEntries}

-- another file of the same entries in the place of one
insert_namings : (files : Files) (f : Fid) (x y : File) → get files f ≡ Some x → body_namings f y.body ≡ body_namings f x.body → namings (entries (insert files f y)) ≡ namings (entries files)
insert_namings files f x y here same =
    let r = around fid_total fid_same files f x here in
    ap namings (entries-insert fid_total files f y ∙ r.now y) ∙ namings-append r.front ((f, y) ∷ r.back)
    ∙ ap (λ ns. namings r.front ++ (ns ++ namings r.back)) same
    ∙ sym (ap namings r.was ∙ namings-append r.front ((f, x) ∷ r.back))

-- where it is there
update_namings : (files : Files) (f : Fid) (g : File → File) → ((x : File) → body_namings f (g x).body ≡ body_namings f x.body) → namings (entries (update files f g)) ≡ namings (entries files)
update_namings files f g same = by (get files f) refl
  where
    by : (r : Option File) → get files f ≡ r → namings (entries (update_found files f g r)) ≡ namings (entries files)
    by None e = refl
    by (Some x) e = insert_namings files f x (g x) e (same x)

-- other bytes
bytes_bare : (f : Fid) (g : List ℕ → List ℕ) (b : Body) → body_namings f (body_bytes g b) ≡ body_namings f b
bytes_bare f g (data_of bytes) = refl
bytes_bare f g (items_of is) = refl

-- a free slot more
widened_bare : (d : Fid) (b : Body) → body_namings d (body_slots (λ is. is ++ space 256 ∷ []) b) ≡ body_namings d b
widened_bare d (data_of bytes) = refl
widened_bare d (items_of is) = namings_in-append d is (space 256 ∷ []) ∙ append-nil (namings_in d is)

pub bytes_leaders_and_widenings_keep_entries : BytesLeadersAndWideningsKeepEntries
bytes_leaders_and_widenings_keep_entries m (make f name moment) e = absurd cc
bytes_leaders_and_widenings_keep_entries m (put f offset new) e = update_namings m.files f _ (λ x. bytes_bare f _ x.body)
bytes_leaders_and_widenings_keep_entries m (grow f new) e = update_namings m.files f _ (λ x. bytes_bare f _ x.body)
bytes_leaders_and_widenings_keep_entries m (cut f n) e = update_namings m.files f _ (λ x. bytes_bare f _ x.body)
bytes_leaders_and_widenings_keep_entries m (title f name) e = update_namings m.files f _ (λ x. refl)
bytes_leaders_and_widenings_keep_entries m (stamp f moment) e = update_namings m.files f _ (λ x. refl)
bytes_leaders_and_widenings_keep_entries m (drop_file f) e = absurd cc
bytes_leaders_and_widenings_keep_entries m (leave d name) e = absurd cc
bytes_leaders_and_widenings_keep_entries m (enter d name f) e = absurd cc
bytes_leaders_and_widenings_keep_entries m (widen d) e = update_namings m.files d _ (λ x. widened_bare d x.body)
