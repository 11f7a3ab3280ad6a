-- A file without entries comes to live: what is read, and whole and tidy packs.
use Rattle.std.proofs.Common.{Bool, Equal, Greater, Less, List, None, Some, [], ap, arith, cond, false, get_or, not, refl, subst, sym, true, ◌&&◌, ◌++◌, ◌∙◌, ◌∷◌, ◌≡◌, ◌≤◌}
use Rattle.std.specs.FinMap.{entries, entries-insert, find, get, get-entries, insert, put, retain_keys}
use Rattle.std.specs.FinMap.Entries.{by_order}
use Rattle.std.specs.List.{list_any}
use Rattle.std.specs.Option.{is_some, option_map}
use Rattle.std.specs.Ordering.{is_eq}
use Rattle.laws_contents.specs.alto_words.specs.Fid.{disk_descriptor, fid_cmp, is_directory, is_fid, serial_of, sys_dir}
use Rattle.laws_contents.specs.alto_words.specs.declared.fid.Fid.{Fid}
use Rattle.laws_contents.specs.disk_records.specs.declared.shape.Shape.{Shape}
use Rattle.laws_contents.specs.pack_model.specs.reading.Bodies.{File, Files, described, found, is_described}
use Rattle.laws_contents.specs.pack_model.specs.reading.Bytes.{words_of}
use Rattle.laws_contents.specs.pack_model.specs.reading.Files.{file_bytes, leader, lives}
use Rattle.laws_contents.specs.pack_model.specs.reading.Leaders.{Leader}
use Rattle.laws_contents.specs.pack_model.specs.reading.Model.{is_named, last_serial, read_sights}
use Rattle.laws_contents.specs.pack_model.specs.reading.Namings.{AllKept, Naming, body_namings, clashes, fits, is_kept, namings}
use Rattle.laws_contents.specs.pack_model.specs.reading.Sights.{Sight}
use Rattle.laws_contents.specs.pack_model.specs.reading.Sights.Sight.{hidden, leads}
use Rattle.laws_contents.specs.pack_model.specs.reading.Slots.{SlotsReachEnd}
use Rattle.laws_contents.specs.pack_model.specs.states.Whole.{FileWhole, Fits, TidySights, WholeSights}
use Rattle.laws_contents.specs.pack_laws.proofs.Keys.{fid_total, is_fid-sym, same_fid}
use Rattle.laws_contents.specs.laws_record.proofs.Framing.{model_same}
use Rattle.laws_contents.specs.laws_record.proofs.Heads.{and_left, and_right}
use Rattle.laws_contents.specs.laws_record.proofs.Keeping.{get-where, kept_insert}
use Rattle.laws_contents.specs.laws_record.proofs.Reading.{get-found, get_alike, get_by, insert_from_get, read_file}
use Rattle.laws_contents.specs.laws_record.proofs.Tidying.{tidy_same}
use Rattle.laws_operation.proofs.inside.Elsewhere.{SameBut, not_same, other_bytes, other_file, other_leader, other_used, same_good}
use Rattle.std.proofs.lemmas.Bool.{and_from}

-- more files live: what is kept stays kept
kept_more : (v u : Fid → Bool) → ((g : Fid) → v g ≡ true → u g ≡ true) → (before es : List Naming) → AllKept (is_kept v) before es → AllKept (is_kept u) before es
kept_more v u more before [] h = tt
kept_more v u more before (e ∷ es) h =
    let l = and_left (v e.fid && fits e) (not (list_any (clashes e) before)) h.0 in (
      and_from (u e.fid && fits e) (not (list_any (clashes e) before)) (and_from (u e.fid) (fits e) (more e.fid (and_left (v e.fid) (fits e) l)) (and_right (v e.fid) (fits e) l)) (and_right (v e.fid && fits e) (not (list_any (clashes e) before)) h.0),
      kept_more v u more (e ∷ before) es h.1,
    )

-- a new file without entries
bare_put : (f : Fid) (x : File) (es : List (Fid × File)) → body_namings f x.body ≡ [] → find fid_cmp f es ≡ None → namings (put fid_cmp f x es) ≡ namings es
bare_put f x [] bare new = ap (λ b. b ++ []) bare
bare_put f x (e ∷ es) bare new = elim (fid_cmp f e.0) as (λ r. cond (is_eq r) (Some e.1) (find fid_cmp f es) ≡ None → namings (by_order r ((f, x) ∷ e ∷ es) ((e.0, x) ∷ es) (e ∷ put fid_cmp f x es)) ≡ namings (e ∷ es)) [
  | Less ↦ λ n. ap (λ b. b ++ namings (e ∷ es)) bare
  | Equal ↦ λ n. absurd cc
  | Greater ↦ λ n. ap (λ r. body_namings e.0 e.1.body ++ r) (bare_put f x es bare n)
] new

-- so the entries of all files stay
pub bare_namings : (files : Files) (f : Fid) (x : File) → body_namings f x.body ≡ [] → get files f ≡ None → namings (entries (insert files f x)) ≡ namings (entries files)
bare_namings files f x bare new = ap namings (entries-insert fid_total files f x) ∙ bare_put f x (entries files) bare (sym (get-entries files f) ∙ new)

-- a file comes to live
module _ (shape : Shape) (ss us : List Sight) (f : Fid) (k : Leader) (x : File) (same : SameBut f ss us) (was : leader ss f ≡ None) (now : leader us f ≡ Some k) (other : is_fid f disk_descriptor ≡ false) (file : read_file f (file_bytes us f) k ≡ x) (bare : body_namings f x.body ≡ []) (t : TidySights ss) where
  -- what lived still lives
  lives_more : (g : Fid) → lives ss g ≡ true → lives us g ≡ true
  lives_more g l = elim (is_fid g f) as (λ c. is_fid g f ≡ c → is_some (leader us g) ≡ true) [
    | true ↦ λ e. ap (λ h. is_some (leader us h)) (same_fid g f e) ∙ ap is_some now
    | false ↦ λ e. ap is_some (other_leader f ss us same g e) ∙ l
  ] refl

  -- the files then
  made : described us ≡ insert (described ss) f x
  made =
      ap (λ m. retain_keys m is_described) (insert_from_get (found ss) (found us) f _ (get_by us f k (file_bytes us f) now refl) (λ g e. get_alike ss us g (other_leader f ss us same g e) (other_bytes f ss us same g e)) ∙ ap (insert (found ss) f) file)
      ∙ kept_insert (found ss) is_described f _ (ap not other)

  -- it was none of them
  unmade : get (described ss) f ≡ None
  unmade = get-where (found ss) is_described f ∙ ap (λ b. cond b (get (found ss) f) None) (ap not other) ∙ get-found ss f ∙ ap (option_map (read_file f (file_bytes ss f))) was

  -- the same entries
  make_namings : namings (entries (described us)) ≡ namings (entries (described ss))
  make_namings = ap (λ m. namings (entries m)) made ∙ bare_namings (described ss) f x bare unmade

  -- tidy again
  pub make_tidy : TidySights us
  make_tidy = subst (AllKept (is_kept (lives us)) []) (sym make_namings) (kept_more (lives ss) (lives us) lives_more [] (namings (entries (described ss))) t)

  -- the last serial stays
  make_last : (read_sights shape us).last ≡ (read_sights shape ss).last
  unfolding read_sights
  make_last = ap (λ b. last_serial (words_of b)) (other_bytes f ss us same disk_descriptor (is_fid-sym disk_descriptor f ∙ other))

  -- what is read
  pub make_reads : (read_sights shape ss).last ≡ serial_of f → read_sights shape us ≡ record { shape = (read_sights shape ss).shape; good = (read_sights shape ss).good; last = serial_of f; files = insert (read_sights shape ss).files f x }
  unfolding read_sights
  make_reads last = model_same shape _ _ _ _ _ _ (same_good f ss us same) (make_last ∙ last)
      (tidy_same (lives us) (described us) make_tidy ∙ made ∙ ap (λ m. insert m f x) (sym (tidy_same (lives ss) (described ss) t)))

  -- the same files are named
  make_names : (g : Fid) → is_named (read_sights shape us) g ≡ is_named (read_sights shape ss) g
  unfolding read_sights
  make_names g =
      ap (λ m. list_any (λ n. is_fid n.fid g) (namings (entries m))) (tidy_same (lives us) (described us) make_tidy)
      ∙ ap (list_any (λ n. is_fid n.fid g)) make_namings
      ∙ ap (λ m. list_any (λ n. is_fid n.fid g) (namings (entries m))) (sym (tidy_same (lives ss) (described ss) t))

  -- whole again
  pub make_whole : WholeSights shape ss → FileWhole us f → (is_directory f ≡ true → SlotsReachEnd (file_bytes us f)) → (read_sights shape ss).last ≡ serial_of f
      → ((l : Leader) → get_or ss 1 hidden ≡ leads sys_dir true l → get_or us 1 hidden ≡ leads sys_dir true l) → WholeSights shape us
  make_whole w mine ends last root =
      let lived : (g : Fid) → is_fid g f ≡ false → lives us g ≡ true → lives ss g ≡ true = λ g e l. ap is_some (sym (other_leader f ss us same g e)) ∙ l in
      let apart : is_fid disk_descriptor f ≡ false = is_fid-sym disk_descriptor f ∙ other in
      record {
        files = λ g. elim (is_fid g f) as (λ c. is_fid g f ≡ c → FileWhole us g) [
          | true ↦ λ e. subst (FileWhole us) (sym (same_fid g f e)) mine
          | false ↦ λ e. other_file f ss us same g (not_same g f e) (w.files g)
        ] refl;
        used = other_used f ss us same w.used;
        directories = λ g live dir. elim (is_fid g f) as (λ c. is_fid g f ≡ c → SlotsReachEnd (file_bytes us g)) [
          | true ↦ λ e. subst (λ y. SlotsReachEnd (file_bytes us y)) (sym (same_fid g f e)) (ends (ap is_directory (sym (same_fid g f e)) ∙ dir))
          | false ↦ λ e. subst SlotsReachEnd (sym (other_bytes f ss us same g e)) (w.directories g (lived g e live) dir)
        ] refl;
        root = (w.root.0, root w.root.0 w.root.1);
        root_named = make_names sys_dir ∙ w.root_named;
        descriptor_named = make_names disk_descriptor ∙ w.descriptor_named;
        descriptor_lives = lives_more disk_descriptor w.descriptor_lives;
        descriptor_fits = subst (Fits shape) (sym (other_bytes f ss us same disk_descriptor apart)) w.descriptor_fits;
        last = λ g live. subst (λ n. serial_of g ≤ n) (sym make_last) (elim (is_fid g f) as (λ c. is_fid g f ≡ c → serial_of g ≤ (read_sights shape ss).last) [
          | true ↦ λ e. let n : serial_of g ≡ serial_of f = ap serial_of (same_fid g f e) in omega (arith, last)
          | false ↦ λ e. w.last g (lived g e live)
        ] refl);
      }
