-- One directory's slots change: what is read, and whole and tidy packs.
use Rattle.std.proofs.Common.{List, None, Some, [], ap, append_assoc, cond, false, get_or, not, refl, subst, sym, true, ℕ, ◌++◌, ◌||◌, ◌∙◌, ◌∷◌, ◌≡◌, ◌≤◌}
use Rattle.std.specs.FinMap.{entries, get, insert, retain_keys}
use Rattle.std.specs.List.{list_any}
use Rattle.std.specs.Option.{is_some}
use mathlib.Core.Path.{fun_ext}
use Rattle.laws_contents.specs.alto_words.specs.Fid.{disk_descriptor, is_directory, is_fid, is_system, serial_of, sys_dir}
use Rattle.laws_contents.specs.alto_words.specs.declared.fid.Fid.{Fid}
use Rattle.laws_contents.specs.disk_records.specs.declared.shape.Shape.{Shape}
use Rattle.laws_contents.specs.pack_model.specs.reading.Bodies.{Files, described, found, is_described}
use Rattle.laws_contents.specs.pack_model.specs.reading.Bodies.Body.{data_of, items_of}
use Rattle.laws_contents.specs.pack_model.specs.reading.Bytes.{words_of}
use Rattle.laws_contents.specs.pack_model.specs.reading.Files.{file_bytes, leader, lives}
use Rattle.laws_contents.specs.pack_model.specs.reading.Leaders.{Leader}
use Rattle.laws_contents.specs.pack_model.specs.reading.Model.{IsNamed, is_named, last_serial, read_sights}
use Rattle.laws_contents.specs.pack_model.specs.reading.Namings.{IsTidy, Naming, namings, namings_in, tidied}
use Rattle.laws_contents.specs.pack_model.specs.reading.Sights.{Sight}
use Rattle.laws_contents.specs.pack_model.specs.reading.Sights.Sight.{hidden, leads}
use Rattle.laws_contents.specs.pack_model.specs.reading.Slots.{Item, Reads, SlotsReachEnd, slots}
use Rattle.laws_contents.specs.pack_model.specs.reading.Slots.Reads.{next, none}
use Rattle.laws_contents.specs.pack_model.specs.states.Whole.{FileWhole, Fits, TidySights, WholeSights}
use Rattle.laws_contents.specs.pack_laws.proofs.Keys.{fid_same, fid_total, is_fid-sym, same_fid}
use Rattle.laws_contents.specs.laws_record.proofs.Around.{around}
use Rattle.laws_contents.specs.laws_record.proofs.DirReads.{insert_same, not_descriptor}
use Rattle.laws_contents.specs.laws_record.proofs.Entered.{directory, namings_around}
use Rattle.laws_contents.specs.laws_record.proofs.Framing.{model_same}
use Rattle.laws_contents.specs.laws_record.proofs.Keeping.{get-where, kept_insert}
use Rattle.laws_contents.specs.laws_record.proofs.Reading.{get_alike, get_by, insert_from_get, read_file}
use Rattle.laws_contents.specs.laws_record.proofs.Tidying.{tidy_same}
use Rattle.laws_operation.proofs.inside.Elsewhere.{SameBut, not_same, other_bytes, other_file, other_leader, other_used, same_good}

-- slots one after another
pub reads_append : (v w : List ℕ) (is js : List Item) → Reads v is → Reads w js → Reads (v ++ w) (is ++ js)
reads_append v w is js none r = r
reads_append v w is js (next {w = a} {rest = b} {i = i} {is = ks} e s more) r = next (ap (λ x. x ++ w) e ∙ append_assoc a b w) s (reads_append b w ks js more r)

module _ (shape : Shape) (ss us : List Sight) (d : Fid) (l : Leader) (same : SameBut d ss us) (was : leader ss d ≡ Some l) (now : leader us d ≡ Some l) (dir : is_directory d ≡ true) where
  -- its file, as a directory
  is_dir : (bytes : List ℕ) (is : List Item) → slots (words_of bytes) ≡ is → read_file d bytes l ≡ directory l is
  is_dir bytes is e = ap (λ b. record { leader = l; body = cond b (items_of (slots (words_of bytes))) (data_of bytes) }) dir ∙ ap (directory l) e

  -- the same files live
  pub lives_as : lives us ≡ lives ss
  lives_as = fun_ext (λ g. elim (is_fid g d) as (λ c. is_fid g d ≡ c → is_some (leader us g) ≡ is_some (leader ss g)) [
    | true ↦ λ e. ap (λ h. is_some (leader us h)) (same_fid g d e) ∙ ap is_some now ∙ sym (ap is_some was) ∙ ap (λ h. is_some (leader ss h)) (sym (same_fid g d e))
    | false ↦ λ e. ap is_some (other_leader d ss us same g e)
  ] refl)

  -- it isn't DiskDescriptor
  apart : is_fid disk_descriptor d ≡ false
  apart = is_fid-sym disk_descriptor d ∙ not_descriptor d dir

  -- the last serial stays
  pub last_now : (read_sights shape us).last ≡ (read_sights shape ss).last
  unfolding read_sights
  last_now = ap (λ b. last_serial (words_of b)) (other_bytes d ss us same disk_descriptor apart)

  -- whole again, where the system files are named
  pub whole_by : WholeSights shape ss → FileWhole us d → SlotsReachEnd (file_bytes us d)
      → ((k : Leader) → get_or ss 1 hidden ≡ leads sys_dir true k → get_or us 1 hidden ≡ leads sys_dir true k)
      → IsNamed (read_sights shape us) sys_dir → IsNamed (read_sights shape us) disk_descriptor → WholeSights shape us
  whole_by w mine ends root one two =
      let live : (g : Fid) → lives us g ≡ lives ss g = λ g. ap (λ v. v g) lives_as in
      record {
        files = λ g. elim (is_fid g d) as (λ c. is_fid g d ≡ c → FileWhole us g) [
          | true ↦ λ e. subst (FileWhole us) (sym (same_fid g d e)) mine
          | false ↦ λ e. other_file d ss us same g (not_same g d e) (w.files g)
        ] refl;
        used = other_used d ss us same w.used;
        directories = λ g alive is_dir_g. elim (is_fid g d) as (λ c. is_fid g d ≡ c → SlotsReachEnd (file_bytes us g)) [
          | true ↦ λ e. subst (λ x. SlotsReachEnd (file_bytes us x)) (sym (same_fid g d e)) ends
          | false ↦ λ e. subst SlotsReachEnd (sym (other_bytes d ss us same g e)) (w.directories g (sym (live g) ∙ alive) is_dir_g)
        ] refl;
        root = (w.root.0, root w.root.0 w.root.1);
        root_named = one;
        descriptor_named = two;
        descriptor_lives = live disk_descriptor ∙ w.descriptor_lives;
        descriptor_fits = subst (Fits shape) (sym (other_bytes d ss us same disk_descriptor apart)) w.descriptor_fits;
        last = λ g alive. subst (λ n. serial_of g ≤ n) (sym last_now) (w.last g (sym (live g) ∙ alive));
      }

  module _ (is js : List Item) (old : slots (words_of (file_bytes ss d)) ≡ is) (new : slots (words_of (file_bytes us d)) ≡ js) where
    -- the files then
    pub dir_now : described us ≡ insert (described ss) d (directory l js)
    dir_now =
        ap (λ m. retain_keys m is_described) (insert_from_get (found ss) (found us) d _ (get_by us d l (file_bytes us d) now refl) (λ g e. get_alike ss us g (other_leader d ss us same g e) (other_bytes d ss us same g e)) ∙ ap (insert (found ss) d) (is_dir (file_bytes us d) js new))
        ∙ kept_insert (found ss) is_described d _ (ap not (not_descriptor d dir))

    -- the directory before
    pub dir_was : get (described ss) d ≡ Some (directory l is)
    dir_was = get-where (found ss) is_described d ∙ ap (λ b. cond b (get (found ss) d) None) (ap not (not_descriptor d dir)) ∙ get_by ss d l _ was refl ∙ ap Some (is_dir (file_bytes ss d) is old)

    module _ (tidy : TidySights ss) (still : IsTidy (lives ss) (insert (described ss) d (directory l js))) where
      -- tidy again
      pub dir_tidy : TidySights us
      dir_tidy = subst (λ v. IsTidy v (described us)) (sym lives_as) (subst (IsTidy (lives ss)) (sym dir_now) still)

      -- what is read of them
      files_now : tidied (lives us) (described us) ≡ insert (tidied (lives ss) (described ss)) d (directory l js)
      files_now = tidy_same (lives us) (described us) dir_tidy ∙ dir_now ∙ ap (λ m. insert m d (directory l js)) (sym (tidy_same (lives ss) (described ss) tidy))

      -- the step
      pub dir_step : read_sights shape us ≡ record (read_sights shape ss) { files = insert (read_sights shape ss).files d (directory l js) }
      unfolding read_sights
      dir_step = model_same shape _ _ _ _ _ _ (same_good d ss us same) (ap (λ b. last_serial (words_of b)) (other_bytes d ss us same disk_descriptor apart)) files_now

      -- the directory as it was read
      pub dir_get : get (read_sights shape ss).files d ≡ Some (directory l is)
      unfolding read_sights
      dir_get = ap (λ m. get m d) (tidy_same (lives ss) (described ss) tidy) ∙ dir_was

      -- the entries then
      names_now : (g : Fid) → is_named (read_sights shape us) g ≡ list_any (λ n. is_fid n.fid g) (namings (entries (insert (described ss) d (directory l js))))
      unfolding read_sights
      names_now g = ap (λ m. list_any (λ n. is_fid n.fid g) (namings (entries m))) (tidy_same (lives us) (described us) dir_tidy ∙ dir_now)

      -- and before
      names_was : (g : Fid) → is_named (read_sights shape ss) g ≡ list_any (λ n. is_fid n.fid g) (namings (entries (described ss)))
      unfolding read_sights
      names_was g = ap (λ m. list_any (λ n. is_fid n.fid g) (namings (entries m))) (tidy_same (lives ss) (described ss) tidy)

      -- system files are named as before
      pub dir_whole : WholeSights shape ss → FileWhole us d → SlotsReachEnd (file_bytes us d)
          → ((k : Leader) → get_or ss 1 hidden ≡ leads sys_dir true k → get_or us 1 hidden ≡ leads sys_dir true k)
          → ((g : Fid) → is_system g ≡ true → list_any (λ n. is_fid n.fid g) (namings (entries (insert (described ss) d (directory l js)))) ≡ list_any (λ n. is_fid n.fid g) (namings (entries (described ss))))
          → WholeSights shape us
      dir_whole w mine ends root named = whole_by w mine ends root
          (names_now sys_dir ∙ named sys_dir refl ∙ sym (names_was sys_dir) ∙ w.root_named)
          (names_now disk_descriptor ∙ named disk_descriptor refl ∙ sym (names_was disk_descriptor) ∙ w.descriptor_named)

-- an entry of another file more or less leaves a file named
pub named_apart : (g : Fid) (e : Naming) (x y : List Naming) → is_fid e.fid g ≡ false → list_any (λ n. is_fid n.fid g) (x ++ e ∷ y) ≡ list_any (λ n. is_fid n.fid g) (x ++ y)
named_apart g e [] y apart = ap (λ b. b || list_any (λ n. is_fid n.fid g) y) apart
named_apart g e (n ∷ x) y apart = ap (λ r. is_fid n.fid g || r) (named_apart g e x y apart)

-- slots with the same entries
pub slots_namings : (files : Files) (d : Fid) (l : Leader) (is js : List Item) → get files d ≡ Some (directory l is) → namings_in d js ≡ namings_in d is → namings (entries (insert files d (directory l js))) ≡ namings (entries files)
slots_namings files d l is js in_files e =
    let r = around fid_total fid_same files d (directory l is) in_files in
    namings_around files d l is r js ∙ ap (λ x. namings r.front ++ (x ++ namings r.back)) e ∙ sym (namings_around files d l is r is) ∙ ap (λ m. namings (entries m)) (insert_same files d _ in_files)
