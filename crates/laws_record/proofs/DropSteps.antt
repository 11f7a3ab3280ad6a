-- A leader goes: the record write is the drop.
use Rattle.std.proofs.Common.{◌++◌, ◌<◌, ◌∙◌, ◌∷◌, ◌≡◌, ◌≢◌, Bool, Equal, Greater, Less, List, None, Option, Some, [], ap, cond, false, get_or, length, refl, set, subst, sym, true, ℕ}
use mathlib.Core.Path.{fun_ext}
use Rattle.std.specs.FinMap.{entries, entries-insert, find, get, get-entries, get-insert, get-remove, insert, remove, retain_keys, same_map}
use Rattle.std.specs.FinMap.Entries.{by_order, put}
use Rattle.std.specs.Option.{is_some}
use Rattle.std.specs.Ordering.{is_eq}
use Rattle.std.specs.declared.cmp.Ordering.{Ordering}
use Rattle.pack_laws.specs.alto_words.specs.Fid.{disk_descriptor, fid_cmp, is_fid}
use Rattle.pack_laws.specs.alto_words.specs.declared.fid.Fid.{Fid}
use Rattle.pack_laws.specs.disk_records.specs.Packs.{sector_at}
use Rattle.pack_laws.specs.disk_records.specs.declared.records.Page.{Page}
use Rattle.pack_laws.specs.pack_model.specs.reading.Bodies.{File, Files, described, found, is_described}
use Rattle.pack_laws.specs.pack_model.specs.reading.Bytes.{words_of}
use Rattle.pack_laws.specs.pack_model.specs.reading.Files.{file_bytes, leader, leader_at, lives, page_at}
use Rattle.pack_laws.specs.pack_model.specs.reading.Leaders.{Leader, is_readable, leader_of, leader_words}
use Rattle.pack_laws.specs.pack_model.specs.sessions.Maps.{map_values}
use Rattle.pack_laws.specs.pack_model.specs.reading.Model.{good_one, last_serial, read_sights}
use Rattle.pack_laws.specs.pack_model.specs.reading.Namings.{AllKept, IsTidy, Naming, body_namings, is_kept, namings, tidied}
use Rattle.pack_laws.specs.pack_model.specs.reading.Sights.{Sight, sights}
use Rattle.pack_laws.specs.pack_model.specs.reading.Sights.Sight.{free, hidden, leads}
use Rattle.pack_laws.specs.pack_model.specs.operations.Step.{file_without}
use Rattle.pack_laws.proofs.Carrying.{carried_shown}
use Rattle.laws_record.proofs.Dropping.{dropped_tidied, gone}
use Rattle.pack_laws.proofs.Firsts.{first_alone, first_same}
use Rattle.laws_record.proofs.Framing.{bytes_frame, good_set, model_same}
use Rattle.pack_laws.proofs.Guarding.{carried_parts}
use Rattle.laws_record.proofs.Keeping.{get-where}
use Rattle.pack_laws.proofs.Keys.{fid_same, fid_total, is_fid-itself, same_fid}
use Rattle.laws_record.proofs.inside.Leading.{LeadsAlone, drop_step}
use Rattle.pack_laws.proofs.Placing.{led_alike}
use Rattle.laws_record.proofs.Reading.{get_by, read_file}
use Rattle.laws_record.proofs.Recording.{carried_sight, carried_within, freed_sights}
use Rattle.pack_laws.proofs.Sighted.{length-sights}
use Rattle.laws_record.proofs.SystemWrites.{some_leader}
use Rattle.laws_record.proofs.Systemic.{described_get}
use Rattle.laws_record.proofs.Tidying.{onto, split_kept, still_kept, tidy_same}
use Rattle.laws_record.specs.QuietLaws.{with_label}
use Rattle.laws_record.specs.StepLaws.{DropIsTheStep}

-- entries that are kept, and others that are kept after them
pub join_kept : (ok : List Naming → Naming → Bool) (b x y : List Naming) → AllKept ok b x → AllKept ok (onto x b) y → AllKept ok b (x ++ y)
join_kept ok b [] y h g = g
join_kept ok b (e ∷ x) y h g = (h.0, join_kept ok (e ∷ b) x y h.1 g)

-- ---- tidy files without one
module _ (v : Fid → Bool) where
  -- entries are kept beside fewer
  fewer_kept : (a b c : List Naming) → AllKept (is_kept v) (onto a b) c → AllKept (is_kept v) b c
  fewer_kept [] b c h = h
  fewer_kept (x ∷ a) b c h = still_kept v [] x b c (fewer_kept a (x ∷ b) c h)

  -- without one file they are all kept
  put_kept : (f : Fid) (x : File) (b : List Naming) (es : List (Fid × File)) → find fid_cmp f es ≡ None → AllKept (is_kept v) b (namings (put fid_cmp f x es)) → AllKept (is_kept v) b (namings es)
  put_kept f x b [] none h = Prim.tt
  put_kept f x b (e ∷ es) none h = by (fid_cmp f e.0) none h (λ b. put_kept f x b es)
    where
      by : (r : Ordering) → cond (is_eq r) (Some e.1) (find fid_cmp f es) ≡ None → AllKept (is_kept v) b (namings (by_order r ((f, x) ∷ e ∷ es) ((e.0, x) ∷ es) (e ∷ put fid_cmp f x es)))
          → ((b : List Naming) → find fid_cmp f es ≡ None → AllKept (is_kept v) b (namings (put fid_cmp f x es)) → AllKept (is_kept v) b (namings es)) → AllKept (is_kept v) b (namings (e ∷ es))
      by Less n h again = let s = split_kept (is_kept v) b (body_namings f x.body) (namings (e ∷ es)) h in fewer_kept (body_namings f x.body) b (namings (e ∷ es)) s.1
      by Equal n h again = absurd (let clash : Some e.1 ≡ None = n in cc)
      by Greater n h again =
          let here : List Naming = body_namings e.0 e.1.body in
          let s = split_kept (is_kept v) b here (namings (put fid_cmp f x es)) h in
          join_kept (is_kept v) b here (namings es) s.0 (again (onto here b) n s.1)

  -- so tidy files stay so
  tidy_remove : (files : Files) (f : Fid) (x : File) → get files f ≡ Some x → IsTidy v files → IsTidy v (remove files f)
  tidy_remove files f x here tidy =
      let none : find fid_cmp f (entries (remove files f)) ≡ None = sym (get-entries (remove files f) f) ∙ get-remove fid_total files f f ∙ ap (λ b. cond b None (get files f)) (is_fid-itself f) in
      put_kept f x [] (entries (remove files f)) none (subst (λ m. AllKept (is_kept v) [] (namings m)) (ap entries (sym back) ∙ entries-insert fid_total (remove files f) f x) tidy)
    where
      at : (g : Fid) → cond (is_fid g f) (Some x) (cond (is_fid g f) None (get files g)) ≡ get files g
      at g = elim (is_fid g f) as (λ b. is_fid g f ≡ b → cond b (Some x) (cond b None (get files g)) ≡ get files g) [
        | true ↦ λ e. sym (ap (get files) (same_fid g f e) ∙ here)
        | false ↦ λ e. refl
      ] refl

      back : insert (remove files f) f x ≡ files
      back = same_map fid_total fid_same _ _ (λ g. get-insert fid_total (remove files f) f x g ∙ ap (cond (is_fid g f) (Some x)) (get-remove fid_total files f g) ∙ at g)

-- a file goes, and then those whose key doesn't pass
where_remove : (m : Files) (t : Fid → Bool) (f : Fid) → retain_keys (remove m f) t ≡ remove (retain_keys m t) f
where_remove m t f = same_map fid_total fid_same _ _ (λ g.
    get-where (remove m f) t g ∙ ap (λ r. cond (t g) r None) (get-remove fid_total m f g) ∙ either (t g) (is_fid g f) (get m g)
    ∙ ap (cond (is_fid g f) None) (sym (get-where m t g)) ∙ sym (get-remove fid_total (retain_keys m t) f g))
  where
    either : (a b : Bool) (r : Option File) → cond a (cond b None r) None ≡ cond b None (cond a r None)
    either true b r = refl
    either false true r = refl
    either false false r = refl

-- ---- the pack
-- a free label in the place of the only leader
pub drop_is_the_step : DropIsTheStep
unfolding read_sights
drop_is_the_step p at f label tidy other is only none =
    let x : Page = record { fid = f; number = 0 } in
    let ss : List Sight = sights p in
    let us : List Sight = set ss at free in
    let v : Fid → Bool = lives ss in
    let files : Files = described ss in
    let shows : get_or ss at hidden ≡ leads f (is_readable (leader_words (sector_at p at).value)) (leader_of f (sector_at p at).value) = carried_sight p at x is in
    let within = carried_within p at x is in
    let shown : sights (with_label p at label) ≡ us = freed_sights p at label (carried_parts p at x is).0 none in
    let alone : (k : ℕ) (d : Sight) → k < length ss → k ≢ at → leader_at f (get_or ss k d) ≡ None = λ k d l apart. not_led k d (subst (λ n. k < n) (length-sights p) l) apart in
    let h : LeadsAlone ss at f = record {
      within = within;
      no_page = λ g n. ap (page_at g n) shows;
      no_other = λ g e. ap (leader_at g) shows ∙ ap (λ b. cond b (Some (leader_of f (sector_at p at).value)) None) e;
      alone = alone;
    } in
    let l = some_leader ss at f _ _ within shows in
    let here : get files f ≡ Some (read_file f (file_bytes ss f) l.0) = described_get ss f other ∙ get_by ss f l.0 (file_bytes ss f) l.1 refl in
    let now : described us ≡ remove files f = ap (λ m. retain_keys m is_described) (drop_step ss at f h) ∙ where_remove (found ss) is_described f in
    let live : lives us ≡ gone f v = fun_ext (λ g. elim (is_fid g f) as (λ b. is_fid g f ≡ b → is_some (leader us g) ≡ cond b false (is_some (leader ss g))) [
      | true ↦ λ e. ap (λ k. is_some (leader us k)) (same_fid g f e) ∙ ap is_some (first_alone (leader_at f) ss at free within alone)
      | false ↦ λ e. ap is_some (first_same (leader_at g) ss at free hidden (sym (h.no_other g e)))
    ] refl) in
    ap (read_sights p.shape) shown
    ∙ model_same p.shape _ _ _ _ _ _ (good_set ss at free hidden (sym (ap good_one shows))) (ap (λ b. last_serial (words_of b)) (bytes_frame us ss disk_descriptor (λ n r. first_same (page_at disk_descriptor n) ss at free hidden (sym (h.no_page disk_descriptor n)))))
    (ap (λ w. tidied w (described us)) live ∙ ap (tidied (gone f v)) now
    ∙ dropped_tidied v f files (tidy_remove v files f (read_file f (file_bytes ss f) l.0) here tidy)
    ∙ ap (λ m. map_values (file_without f) (remove m f)) (sym (tidy_same v files tidy)))
  where
    not_led : (k : ℕ) (d : Sight) → k < length p.sectors → k ≢ at → leader_at f (get_or (sights p) k d) ≡ None
    not_led k d l apart = by (leader_at f (get_or (sights p) k d)) refl
      where
        by : (r : Option Leader) → leader_at f (get_or (sights p) k d) ≡ r → leader_at f (get_or (sights p) k d) ≡ None
        by None e = e
        by (Some y) e = absurd (apart (only k (carried_shown p k (record { fid = f; number = 0 }) d l (led_alike f (get_or (sights p) k d) ∙ ap is_some e))))
