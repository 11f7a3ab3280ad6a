-- A file without entries of its own goes: its entry is kept no more.
use Rattle.std.proofs.Common.{Bool, List, None, Some, [], ap, cond, false, refl, subst, sym, true, ◌++◌, ◌||◌, ◌∙◌, ◌∷◌, ◌≡◌, ◌≤◌}
use Rattle.std.specs.FinMap.{FinMap, entries, get, get-insert, get-remove, insert, remove, same_map}
use Rattle.std.specs.List.{list_any}
use Rattle.std.specs.Option.{is_some, option_map}
use mathlib.Core.Path.{fun_ext}
use Rattle.laws_contents.specs.alto_words.specs.Fid.{disk_descriptor, fid_cmp, is_fid, is_system, serial_of, sys_dir}
use Rattle.laws_contents.specs.alto_words.specs.declared.fid.Fid.{Fid}
use Rattle.laws_contents.specs.disk_records.specs.declared.shape.Shape.{Shape}
use Rattle.laws_contents.specs.pack_model.specs.reading.Bodies.{Body, File, Files, described, found, is_described}
use Rattle.laws_contents.specs.pack_model.specs.reading.Bodies.Body.{data_of, items_of}
use Rattle.laws_contents.specs.pack_model.specs.reading.Bytes.{words_of}
use Rattle.laws_contents.specs.pack_model.specs.reading.Files.{file_bytes, leader, lives}
use Rattle.laws_contents.specs.pack_model.specs.sessions.Maps.{map_entries, map_values}
use Rattle.laws_contents.specs.pack_model.specs.reading.Model.{is_named, last_serial, read_sights}
use Rattle.laws_contents.specs.pack_model.specs.reading.Namings.{AllKept, IsTidy, Naming, body_namings, is_kept, namings, namings_in, tidied}
use Rattle.laws_contents.specs.pack_model.specs.reading.Sights.{Sight}
use Rattle.laws_contents.specs.pack_model.specs.reading.Sights.Sight.{leads}
use Rattle.laws_contents.specs.pack_model.specs.reading.Slots.{Item, SlotsReachEnd, item_words}
use Rattle.laws_contents.specs.pack_model.specs.reading.Slots.Item.{entry, space}
use Rattle.laws_contents.specs.pack_model.specs.operations.Step.{body_without, file_without, items_without, step}
use Rattle.laws_contents.specs.pack_model.specs.operations.Step.Operation.{drop_file}
use Rattle.laws_contents.specs.pack_model.specs.states.Whole.{FileWhole, Fits, TidyBut, TidySights, WholeSights, living_too}
use Rattle.laws_contents.specs.pack_laws.proofs.Keys.{fid_same, fid_total, is_fid-itself, is_fid-sym, same_fid}
use Rattle.laws_contents.specs.pack_laws.proofs.Mapping.{entries-map_values}
use Rattle.laws_contents.specs.laws_record.proofs.Dropping.{dropped_tidied, gone, others, others-append}
use Rattle.laws_contents.specs.laws_record.proofs.Framing.{model_same}
use Rattle.laws_contents.specs.laws_record.proofs.Keeping.{get-where}
use Rattle.laws_contents.specs.laws_record.proofs.Reading.{get-found, get_alike, read_file}
use Rattle.laws_contents.specs.laws_record.proofs.Tidying.{tidy_same}
use Rattle.laws_operation.proofs.inside.Coming.{bare_namings}
use Rattle.laws_operation.proofs.inside.Elsewhere.{SameBut, not_same, other_bytes, other_file, other_leader, other_used, same_good, there}
use Rattle.laws_operation.proofs.Leaving.{system_apart}

-- ---- maps
insert_back : {X : Type 0} (m : FinMap fid_cmp X) (f : Fid) (x : X) → get m f ≡ Some x → insert (remove m f) f x ≡ m
insert_back m f x is = same_map fid_total fid_same _ _ (λ q. get-insert fid_total (remove m f) f x q ∙ ap (cond (is_fid q f) (Some x)) (get-remove fid_total m f q) ∙ at q)
  where
    at : (q : Fid) → cond (is_fid q f) (Some x) (cond (is_fid q f) None (get m q)) ≡ get m q
    at q = elim (is_fid q f) as (λ b. is_fid q f ≡ b → cond b (Some x) (cond b None (get m q)) ≡ get m q) [ true ↦ λ e. sym (ap (get m) (same_fid q f e) ∙ is) | false ↦ λ e. refl ] refl

-- a file without entries goes
pub bare_removed : (files : Files) (f : Fid) (x : File) → body_namings f x.body ≡ [] → get files f ≡ Some x → namings (entries (remove files f)) ≡ namings (entries files)
bare_removed files f x bare is =
    sym (bare_namings (remove files f) f x bare (get-remove fid_total files f f ∙ ap (λ b. cond b None (get files f)) (is_fid-itself f))) ∙ ap (λ m. namings (entries m)) (insert_back files f x is)

-- ---- entries of other files
-- a directory's entries without those of f
others_in : (f d : Fid) (is : List Item) → namings_in d (items_without f is) ≡ others f (namings_in d is)
others_in f d [] = refl
others_in f d (space n ∷ is) = others_in f d is
others_in f d (entry g name ∷ is) = elim (is_fid g f) as (λ c. namings_in d (cond c (space (item_words (entry g name))) (entry g name) ∷ items_without f is) ≡ cond c (others f (namings_in d is)) (record { dir = d; name = name; fid = g } ∷ others f (namings_in d is))) [
  | true ↦ others_in f d is
  | false ↦ ap (λ r. record { dir = d; name = name; fid = g } ∷ r) (others_in f d is)
]

-- and a body's
others_body : (f d : Fid) (b : Body) → body_namings d (body_without f b) ≡ others f (body_namings d b)
others_body f d (data_of bytes) = refl
others_body f d (items_of is) = others_in f d is

-- and those of all files
pub others_namings : (f : Fid) (es : List (Fid × File)) → namings (map_entries (file_without f) es) ≡ others f (namings es)
others_namings f [] = refl
others_namings f (e ∷ es) = ap (λ x. x ++ namings (map_entries (file_without f) es)) (others_body f e.0 e.1.body) ∙ ap (λ x. others f (body_namings e.0 e.1.body) ++ x) (others_namings f es) ∙ sym (others-append f (body_namings e.0 e.1.body) (namings es))

-- other files are named as before
pub any_other : (g f : Fid) (ns : List Naming) → is_fid f g ≡ false → list_any (λ n. is_fid n.fid g) (others f ns) ≡ list_any (λ n. is_fid n.fid g) ns
any_other g f [] e = refl
any_other g f (n ∷ ns) e = elim (is_fid n.fid f) as (λ c. is_fid n.fid f ≡ c → list_any (λ n. is_fid n.fid g) (cond c (others f ns) (n ∷ others f ns)) ≡ (is_fid n.fid g || list_any (λ n. is_fid n.fid g) ns)) [
  | true ↦ λ is. any_other g f ns e ∙ sym (ap (λ b. b || list_any (λ n. is_fid n.fid g) ns) (ap (λ h. is_fid h g) (same_fid n.fid f is) ∙ e))
  | false ↦ λ is. ap (λ r. is_fid n.fid g || r) (any_other g f ns e)
] refl

-- ---- a file goes
module _ (shape : Shape) (ss us : List Sight) (f : Fid) (x : File) (same : SameBut f ss us) (now : leader us f ≡ None) (other : is_system f ≡ false) (t : TidySights ss) (was : get (described ss) f ≡ Some x) (bare : body_namings f x.body ≡ []) where
  -- it isn't DiskDescriptor
  not_dd : is_fid disk_descriptor f ≡ false
  not_dd = is_fid-sym disk_descriptor f ∙ system_apart disk_descriptor f refl other

  -- it lives no more
  lives_gone : lives us ≡ gone f (lives ss)
  lives_gone = fun_ext (λ g. elim (is_fid g f) as (λ c. is_fid g f ≡ c → is_some (leader us g) ≡ cond c false (is_some (leader ss g))) [
    | true ↦ λ e. ap (λ h. is_some (leader us h)) (same_fid g f e) ∙ ap is_some now
    | false ↦ λ e. ap is_some (other_leader f ss us same g e)
  ] refl)

  -- the files but it
  found_gone : found us ≡ remove (found ss) f
  found_gone = same_map fid_total fid_same _ _ (λ g. at g ∙ sym (get-remove fid_total (found ss) f g))
    where
      at : (g : Fid) → get (found us) g ≡ cond (is_fid g f) None (get (found ss) g)
      at g = elim (is_fid g f) as (λ c. is_fid g f ≡ c → get (found us) g ≡ cond c None (get (found ss) g)) [
        | true ↦ λ e. get-found us g ∙ ap (option_map (read_file g (file_bytes us g))) (ap (leader us) (same_fid g f e) ∙ now)
        | false ↦ λ e. get_alike ss us g (other_leader f ss us same g e) (other_bytes f ss us same g e)
      ] refl

  -- also without DiskDescriptor
  described_gone : described us ≡ remove (described ss) f
  described_gone = same_map fid_total fid_same _ _ (λ g.
      get-where (found us) is_described g ∙ ap (λ m. cond (is_described g) (get m g) None) found_gone ∙ ap (λ r. cond (is_described g) r None) (get-remove fid_total (found ss) f g) ∙ at g
      ∙ ap (cond (is_fid g f) None) (sym (get-where (found ss) is_described g)) ∙ sym (get-remove fid_total (described ss) f g))
    where
      at : (g : Fid) → cond (is_described g) (cond (is_fid g f) None (get (found ss) g)) None ≡ cond (is_fid g f) None (cond (is_described g) (get (found ss) g) None)
      at g = by (is_described g) (is_fid g f)
        where
          by : (a b : Bool) → cond a (cond b None (get (found ss) g)) None ≡ cond b None (cond a (get (found ss) g) None)
          by true b = refl
          by false true = refl
          by false false = refl

  -- the entries are kept without it
  pub tidy_without : IsTidy (lives ss) (remove (described ss) f)
  tidy_without = subst (AllKept (is_kept (lives ss)) []) (sym (bare_removed (described ss) f x bare was)) t

  -- tidy except the slot
  pub tidy_but : lives ss f ≡ true → TidyBut f us
  tidy_but alive = subst (λ m. IsTidy (living_too f (lives us)) m) (sym described_gone) (subst (λ v. IsTidy v (remove (described ss) f)) (fun_ext same_lives) tidy_without)
    where
      same_lives : (g : Fid) → lives ss g ≡ cond (is_fid g f) true (lives us g)
      same_lives g = elim (is_fid g f) as (λ c. is_fid g f ≡ c → lives ss g ≡ cond c true (lives us g)) [
        | true ↦ λ e. ap (lives ss) (same_fid g f e) ∙ alive
        | false ↦ λ e. ap is_some (sym (other_leader f ss us same g e))
      ] refl

  -- what is read of the files
  files_gone : tidied (lives us) (described us) ≡ map_values (file_without f) (remove (described ss) f)
  files_gone = ap (λ v. tidied v (described us)) lives_gone ∙ ap (tidied (gone f (lives ss))) described_gone ∙ dropped_tidied (lives ss) f (described ss) tidy_without

  -- the last serial stays
  gone_last : (read_sights shape us).last ≡ (read_sights shape ss).last
  unfolding read_sights
  gone_last = ap (λ b. last_serial (words_of b)) (other_bytes f ss us same disk_descriptor not_dd)

  -- what is read
  pub drop_reads : read_sights shape us ≡ step (read_sights shape ss) (drop_file f)
  unfolding read_sights
  drop_reads = model_same shape _ _ _ _ _ _ (same_good f ss us same) gone_last (files_gone ∙ ap (λ m. map_values {R = fid_cmp} (file_without f) (remove m f)) (sym (tidy_same (lives ss) (described ss) t)))

  -- other files are named as before
  gone_names : (g : Fid) → is_fid f g ≡ false → is_named (read_sights shape us) g ≡ is_named (read_sights shape ss) g
  unfolding read_sights
  gone_names g e =
      ap (λ m. list_any (λ n. is_fid n.fid g) (namings (entries m))) files_gone
      ∙ ap (λ es. list_any (λ n. is_fid n.fid g) (namings es)) (entries-map_values fid_total fid_same (file_without f) (remove (described ss) f))
      ∙ ap (list_any (λ n. is_fid n.fid g)) (others_namings f (entries (remove (described ss) f)) ∙ ap (others f) (bare_removed (described ss) f x bare was))
      ∙ any_other g f (namings (entries (described ss))) e
      ∙ ap (λ m. list_any (λ n. is_fid n.fid g) (namings (entries m))) (sym (tidy_same (lives ss) (described ss) t))

  -- whole again
  pub drop_whole : WholeSights shape ss → FileWhole us f → WholeSights shape us
  drop_whole w mine =
      let live : (g : Fid) → lives us g ≡ true → (is_fid g f ≡ false) × (lives ss g ≡ true) = λ g l. elim (is_fid g f) as (λ c. is_fid g f ≡ c → (c ≡ false) × (lives ss g ≡ true)) [
        | true ↦ λ e. let z : false ≡ true = sym (ap is_some (ap (leader us) (same_fid g f e) ∙ now)) ∙ l in absurd cc
        | false ↦ λ e. (refl, ap is_some (sym (other_leader f ss us same g e)) ∙ l)
      ] refl in
      let not_root : is_fid sys_dir f ≡ false = is_fid-sym sys_dir f ∙ system_apart sys_dir f refl other in
      record {
        files = λ g. elim (is_fid g f) as (λ c. is_fid g f ≡ c → FileWhole us g) [
          | true ↦ λ e. subst (FileWhole us) (sym (same_fid g f e)) mine
          | false ↦ λ e. other_file f ss us same g (not_same g f e) (w.files g)
        ] refl;
        used = other_used f ss us same w.used;
        directories = λ g l dir. let r = live g l in subst SlotsReachEnd (sym (other_bytes f ss us same g r.0)) (w.directories g r.1 dir);
        root = (w.root.0, there f ss us same 1 (leads sys_dir true w.root.0) (not_same sys_dir f not_root) w.root.1);
        root_named = gone_names sys_dir (system_apart sys_dir f refl other) ∙ w.root_named;
        descriptor_named = gone_names disk_descriptor (system_apart disk_descriptor f refl other) ∙ w.descriptor_named;
        descriptor_lives = ap is_some (other_leader f ss us same disk_descriptor not_dd) ∙ w.descriptor_lives;
        descriptor_fits = subst (Fits shape) (sym (other_bytes f ss us same disk_descriptor not_dd)) w.descriptor_fits;
        last = λ g l. subst (λ n. serial_of g ≤ n) (sym gone_last) (w.last g (live g l).1);
      }
