-- One ordinary file changes: what is read, and whole and tidy packs.
use Rattle.std.proofs.Common.{List, None, Some, [], ap, cond, false, inl, inr, not, refl, subst, sym, true, ℕ, ◌∙◌, ◌∷◌, ◌≡◌, ◌≤◌, ◌⊎◌}
use Rattle.std.specs.FinMap.{entries, entries-insert, get, insert, retain_keys}
use Rattle.std.specs.List.{list_any}
use Rattle.std.specs.Option.{is_some}
use mathlib.Core.Path.{fun_ext}
use Rattle.laws_contents.specs.alto_words.specs.Fid.{disk_descriptor, is_directory, is_fid, serial_of, sys_dir}
use Rattle.laws_contents.specs.alto_words.specs.declared.fid.Fid.{Fid}
use Rattle.laws_contents.specs.disk_records.specs.declared.shape.Shape.{Shape}
use Rattle.laws_contents.specs.pack_model.specs.reading.Bodies.{File, Files, described, found, is_described}
use Rattle.laws_contents.specs.pack_model.specs.reading.Bodies.Body.{data_of, items_of}
use Rattle.laws_contents.specs.pack_model.specs.reading.Bytes.{words_of}
use Rattle.laws_contents.specs.pack_model.specs.reading.Files.{file_bytes, leader, lives}
use Rattle.laws_contents.specs.pack_model.specs.reading.Leaders.{Leader}
use Rattle.laws_contents.specs.pack_model.specs.sessions.Maps.{update_found}
use Rattle.laws_contents.specs.pack_model.specs.reading.Model.{is_named, last_serial, read_sights}
use Rattle.laws_contents.specs.pack_model.specs.reading.Namings.{AllKept, is_kept, namings, tidied}
use Rattle.laws_contents.specs.pack_model.specs.reading.Sights.{Sight}
use Rattle.laws_contents.specs.pack_model.specs.reading.Sights.Sight.{leads}
use Rattle.laws_contents.specs.pack_model.specs.reading.Slots.{SlotsReachEnd, slots}
use Rattle.laws_contents.specs.pack_model.specs.operations.Step.{update_file}
use Rattle.laws_contents.specs.pack_model.specs.states.Whole.{FileWhole, Fits, TidySights, WholeSights}
use Rattle.laws_contents.specs.pack_laws.proofs.Keys.{fid_same, fid_total, is_fid-sym, same_fid}
use Rattle.laws_contents.specs.laws_record.proofs.Around.{around}
use Rattle.laws_contents.specs.laws_record.proofs.Entered.{namings-append}
use Rattle.laws_contents.specs.laws_record.proofs.Framing.{model_same}
use Rattle.laws_contents.specs.laws_record.proofs.Keeping.{get-tidied_plain, get-where, kept_insert, plain, tidied_insert}
use Rattle.laws_contents.specs.laws_record.proofs.Reading.{found_frame, get_alike, get_by, insert_from_get, read_file}
use Rattle.laws_contents.specs.laws_record.proofs.Tidying.{tidy_same}
use Rattle.laws_operation.proofs.inside.Elsewhere.{SameBut, not_same, other_bytes, other_file, other_leader, other_used, same_good, there}

-- ---- nothing that is read changes
pub read_alike : (shape : Shape) (ss us : List Sight) (f : Fid) → SameBut f ss us → leader us f ≡ leader ss f → ((leader us f ≡ None → ⊥) ⊎ (f ≡ disk_descriptor) → file_bytes us f ≡ file_bytes ss f) → read_sights shape us ≡ read_sights shape ss
unfolding read_sights
read_alike shape ss us f same l b =
    model_same shape _ _ _ _ _ _ (same_good f ss us same)
    (ap (λ b. last_serial (words_of b)) (bytes disk_descriptor (inr refl)))
    (ap (λ v. tidied v (described us)) (fun_ext (λ g. ap is_some (leaders g)))
    ∙ ap (λ m. tidied (lives ss) (retain_keys m is_described)) (found_frame us ss leaders (λ g live. bytes g (inl live))))
  where
    leaders : (g : Fid) → leader us g ≡ leader ss g
    leaders g = elim (is_fid g f) as (λ c. is_fid g f ≡ c → leader us g ≡ leader ss g) [
      | true ↦ λ e. ap (leader us) (same_fid g f e) ∙ l ∙ ap (leader ss) (sym (same_fid g f e))
      | false ↦ λ e. other_leader f ss us same g e
    ] refl

    bytes : (g : Fid) → (leader us g ≡ None → ⊥) ⊎ (g ≡ disk_descriptor) → file_bytes us g ≡ file_bytes ss g
    bytes g live = elim (is_fid g f) as (λ c. is_fid g f ≡ c → file_bytes us g ≡ file_bytes ss g) [
      | true ↦ λ e. ap (file_bytes us) (same_fid g f e) ∙ b (subst (λ h. (leader us h ≡ None → ⊥) ⊎ (h ≡ disk_descriptor)) (same_fid g f e) live) ∙ ap (file_bytes ss) (sym (same_fid g f e))
      | false ↦ λ e. other_bytes f ss us same g e
    ] refl

-- an ordinary file has no entries
pub plain_namings : (files : Files) (f : Fid) (l k : Leader) (b c : List ℕ) → get files f ≡ Some (plain l b) → namings (entries (insert files f (plain k c))) ≡ namings (entries files)
plain_namings files f l k b c is =
    let r = around fid_total fid_same files f (plain l b) is in
    ap namings (entries-insert fid_total files f (plain k c) ∙ r.now (plain k c)) ∙ namings-append r.front ((f, plain k c) ∷ r.back)
    ∙ sym (namings-append r.front ((f, plain l b) ∷ r.back)) ∙ ap namings (sym r.was)

-- ---- an ordinary file has another leader or other bytes
module _ (shape : Shape) (ss us : List Sight) (f : Fid) (l k : Leader) (same : SameBut f ss us) (was : leader ss f ≡ Some l) (now : leader us f ≡ Some k) (ordinary : is_directory f ≡ false) (shown : is_fid f disk_descriptor ≡ false) where
  -- its file, as an ordinary one
  is_plain : (x : Leader) (bytes : List ℕ) → read_file f bytes x ≡ plain x bytes
  is_plain x bytes = ap (λ b. record { leader = x; body = cond b (items_of (slots (words_of bytes))) (data_of bytes) }) ordinary

  -- the same files live
  pub lives_alike : lives us ≡ lives ss
  lives_alike = fun_ext (λ g. elim (is_fid g f) as (λ c. is_fid g f ≡ c → is_some (leader us g) ≡ is_some (leader ss g)) [
    | true ↦ λ e. ap (λ h. is_some (leader us h)) (same_fid g f e) ∙ ap is_some now ∙ sym (ap is_some was) ∙ ap (λ h. is_some (leader ss h)) (sym (same_fid g f e))
    | false ↦ λ e. ap is_some (other_leader f ss us same g e)
  ] refl)

  -- the files then
  pub described_now : described us ≡ insert (described ss) f (plain k (file_bytes us f))
  described_now =
      ap (λ m. retain_keys m is_described) (insert_from_get (found ss) (found us) f _ (get_by us f k (file_bytes us f) now refl) (λ g e. get_alike ss us g (other_leader f ss us same g e) (other_bytes f ss us same g e)) ∙ ap (insert (found ss) f) (is_plain k (file_bytes us f)))
      ∙ kept_insert (found ss) is_described f _ (ap not shown)

  -- the file before
  pub described_was : get (described ss) f ≡ Some (plain l (file_bytes ss f))
  described_was = get-where (found ss) is_described f ∙ ap (λ b. cond b (get (found ss) f) None) (ap not shown) ∙ get_by ss f l _ was refl ∙ ap Some (is_plain l (file_bytes ss f))

  -- the step
  pub file_step : (g : File → File) → g (plain l (file_bytes ss f)) ≡ plain k (file_bytes us f) → read_sights shape us ≡ update_file (read_sights shape ss) f g
  unfolding read_sights
  file_step g e =
      model_same shape _ _ _ _ _ _ (same_good f ss us same)
      (ap (λ b. last_serial (words_of b)) (other_bytes f ss us same disk_descriptor (is_fid-sym disk_descriptor f ∙ shown)))
      (ap (λ v. tidied v (described us)) lives_alike
      ∙ ap (tidied (lives ss)) described_now
      ∙ tidied_insert (lives ss) (described ss) f (plain l (file_bytes ss f)) k _ described_was (file_bytes ss f, refl)
      ∙ ap (insert _ f) (sym e)
      ∙ ap (update_found _ f g) (sym (get-tidied_plain (lives ss) (described ss) f (plain l (file_bytes ss f)) described_was (file_bytes ss f, refl))))

  -- ---- whole and tidy
  same_namings : namings (entries (described us)) ≡ namings (entries (described ss))
  same_namings = ap (λ m. namings (entries m)) described_now ∙ plain_namings (described ss) f l k _ _ described_was

  -- tidy again
  pub tidy_after : TidySights ss → TidySights us
  tidy_after tidy = subst (λ v. AllKept (is_kept v) [] (namings (entries (described us)))) (sym lives_alike) (subst (AllKept (is_kept (lives ss)) []) (sym same_namings) tidy)

  -- the same files are named
  same_names : TidySights ss → (g : Fid) → is_named (read_sights shape us) g ≡ is_named (read_sights shape ss) g
  unfolding read_sights
  same_names tidy g =
      ap (λ m. list_any (λ n. is_fid n.fid g) (namings (entries m))) (tidy_same (lives us) (described us) (tidy_after tidy))
      ∙ ap (list_any (λ n. is_fid n.fid g)) same_namings
      ∙ ap (λ m. list_any (λ n. is_fid n.fid g) (namings (entries m))) (sym (tidy_same (lives ss) (described ss) tidy))

  -- the last serial stays
  same_last : (read_sights shape us).last ≡ (read_sights shape ss).last
  unfolding read_sights
  same_last = ap (λ b. last_serial (words_of b)) (other_bytes f ss us same disk_descriptor (is_fid-sym disk_descriptor f ∙ shown))

  -- a directory is another file
  not_f : (d : Fid) → is_directory d ≡ true → is_fid d f ≡ false
  not_f d dir = elim (is_fid d f) as (λ c. is_fid d f ≡ c → c ≡ false) [
    | true ↦ λ e. let x : true ≡ false = sym dir ∙ ap is_directory (same_fid d f e) ∙ ordinary in absurd cc
    | false ↦ λ e. refl
  ] refl

  -- whole again
  pub whole_after : WholeSights shape ss → TidySights ss → FileWhole us f → WholeSights shape us
  whole_after w tidy mine =
      let others : (g : Fid) → FileWhole us g = λ g. elim (is_fid g f) as (λ c. is_fid g f ≡ c → FileWhole us g) [
        | true ↦ λ e. subst (FileWhole us) (sym (same_fid g f e)) mine
        | false ↦ λ e. other_file f ss us same g (not_same g f e) (w.files g)
      ] refl in
      let d : Fid = disk_descriptor in
      let apart : is_fid d f ≡ false = is_fid-sym d f ∙ shown in
      record {
        files = others;
        used = other_used f ss us same w.used;
        directories = λ g live dir. subst SlotsReachEnd (sym (other_bytes f ss us same g (not_f g dir))) (w.directories g (sym (ap (λ v. v g) lives_alike) ∙ live) dir);
        root = (w.root.0, there f ss us same 1 (leads sys_dir true w.root.0) (not_same sys_dir f (not_f sys_dir refl)) w.root.1);
        root_named = same_names tidy sys_dir ∙ w.root_named;
        descriptor_named = same_names tidy disk_descriptor ∙ w.descriptor_named;
        descriptor_lives = ap (λ v. v d) lives_alike ∙ w.descriptor_lives;
        descriptor_fits = subst (Fits shape) (sym (other_bytes f ss us same d apart)) w.descriptor_fits;
        last = λ g live. subst (λ n. serial_of g ≤ n) (sym same_last) (w.last g (sym (ap (λ v. v g) lives_alike) ∙ live));
      }
