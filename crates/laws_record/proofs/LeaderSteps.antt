-- The leader of one file says something else: what is read then.
use Rattle.std.proofs.Common.{◌++◌, ◌∙◌, ◌∷◌, ◌≡◌, Bool, List, None, Some, [], ap, cond, false, get_or, not, refl, set, sym, true, ℕ}
use mathlib.Core.Path.{fun_ext}
use Rattle.std.specs.FinMap.{entries, entries-insert, find, from_entries, get, get-from_entries, get-insert, insert, retain_keys, same_map}
use Rattle.std.specs.Option.{is_some}
use Rattle.pack_laws.specs.alto_words.specs.Fid.{disk_descriptor, fid_cmp, is_fid}
use Rattle.pack_laws.specs.alto_words.specs.declared.fid.Fid.{Fid}
use Rattle.pack_laws.specs.disk_records.specs.Labels.{tag}
use Rattle.pack_laws.specs.disk_records.specs.Packs.{Pack, carried, sector_at}
use Rattle.pack_laws.specs.disk_records.specs.declared.records.Page.{Page}
use Rattle.pack_laws.specs.pack_model.specs.reading.Bodies.{Body, File, Files, described, found, is_described}
use Rattle.pack_laws.specs.pack_model.specs.reading.Bytes.{words_of}
use Rattle.pack_laws.specs.pack_model.specs.reading.Files.{file_bytes, leader, leader_at, lives, page_at, place}
use Rattle.pack_laws.specs.pack_model.specs.reading.Leaders.{Leader, is_readable, leader_of, leader_words}
use Rattle.pack_laws.specs.pack_model.specs.sessions.Maps.{update_found}
use Rattle.pack_laws.specs.pack_model.specs.reading.Model.{good_one, last_serial, read_as, read_sights}
use Rattle.pack_laws.specs.pack_model.specs.reading.Namings.{Naming, body_kept, files_kept, is_kept, kept_after_body, tidied}
use Rattle.pack_laws.specs.pack_model.specs.reading.Sights.{Sight, page_sight, sights}
use Rattle.pack_laws.specs.pack_model.specs.reading.Sights.Sight.{hidden, leads}
use Rattle.pack_laws.specs.pack_model.specs.operations.Step.{on_leader, update_file}
use Rattle.laws_record.proofs.Around.{around}
use Rattle.laws_record.proofs.Copying.{place_carried}
use Rattle.laws_record.proofs.DirReads.{insert_same}
use Rattle.laws_record.proofs.EnterScan.{find_replaced}
use Rattle.pack_laws.proofs.Firsts.{first_borne, first_same}
use Rattle.laws_record.proofs.Framing.{bytes_same, good_set, model_same}
use Rattle.laws_record.proofs.Keeping.{kept_insert}
use Rattle.pack_laws.proofs.Keys.{fid_same, fid_total, is_fid-itself, same_fid}
use Rattle.pack_laws.proofs.Placing.{leader_at-leads, leader_of_place}
use Rattle.laws_record.proofs.Reading.{get_alike, get_by, insert_from_get, read_file}
use Rattle.laws_record.proofs.Recording.{carried_sight, value_sights}
use Rattle.laws_record.proofs.Scanned.{kept_none, none_in_front}
use Rattle.laws_record.proofs.Systemic.{described_get}
use Rattle.laws_record.proofs.Unkept.{after_files, files_kept-append}
use Rattle.laws_record.specs.QuietLaws.{with_value}
use Rattle.laws_record.specs.StepLaws.{StampIsTheStep, TitleIsTheStep}

-- ---- the scan
module _ (v : Fid → Bool) (files : Files) (f : Fid) (x : File) (here : get files f ≡ Some x) where
  -- the files around it
  abbrev front : List (Fid × File)
  front = (around fid_total fid_same files f x here).front

  -- and after it
  abbrev back : List (Fid × File)
  back = (around fid_total fid_same files f x here).back

  -- the entries kept before it
  abbrev before : List Naming
  before = after_files (is_kept v) [] front

  -- its body, as the scan leaves it
  abbrev pub body_left : Body
  body_left = body_kept (is_kept v) f before x.body

  -- the scan with another leader
  scan_leader : (k : Leader) → files_kept (is_kept v) [] (entries (insert files f (record { leader = k; body = x.body }))) ≡ files_kept (is_kept v) [] front ++ (f, record { leader = k; body = body_left }) ∷ files_kept (is_kept v) (kept_after_body (is_kept v) f before x.body) back
  scan_leader k =
      let r = around fid_total fid_same files f x here in
      ap (files_kept (is_kept v) []) (entries-insert fid_total files f (record { leader = k; body = x.body }) ∙ r.now (record { leader = k; body = x.body })) ∙ files_kept-append (is_kept v) [] front ((f, record { leader = k; body = x.body }) ∷ back)

  -- and with its own
  scan_same_leader : files_kept (is_kept v) [] (entries files) ≡ files_kept (is_kept v) [] front ++ (f, record { leader = x.leader; body = body_left }) ∷ files_kept (is_kept v) (kept_after_body (is_kept v) f before x.body) back
  scan_same_leader = ap (λ m. files_kept (is_kept v) [] (entries m)) (sym (insert_same files f x here)) ∙ scan_leader x.leader

  -- no file before it is this one
  alone : find fid_cmp f (files_kept (is_kept v) [] front) ≡ None
  alone = kept_none (is_kept v) f [] front (none_in_front files f x (around fid_total fid_same files f x here))

  -- the file, as the scan leaves it
  pub tidied_file : get (tidied v files) f ≡ Some (record { leader = x.leader; body = body_left })
  unfolding tidied
  tidied_file =
      get-from_entries fid_total (files_kept (is_kept v) [] (entries files)) f
      ∙ ap (find fid_cmp f) scan_same_leader
      ∙ find_replaced f f (record { leader = x.leader; body = body_left }) x (files_kept (is_kept v) [] front) (files_kept (is_kept v) (kept_after_body (is_kept v) f before x.body) back) alone
      ∙ ap (λ b. cond b (Some (record { leader = x.leader; body = body_left })) (find fid_cmp f (files_kept (is_kept v) [] front ++ (f, x) ∷ files_kept (is_kept v) (kept_after_body (is_kept v) f before x.body) back))) (is_fid-itself f)

  -- all files with another leader
  pub tidied_leader : (k : Leader) → tidied v (insert files f (record { leader = k; body = x.body })) ≡ insert (tidied v files) f (record { leader = k; body = body_left })
  unfolding tidied
  tidied_leader k = same_map fid_total fid_same _ _ (λ g.
      get-from_entries fid_total (files_kept (is_kept v) [] (entries (insert files f (record { leader = k; body = x.body })))) g
      ∙ ap (find fid_cmp g) (scan_leader k)
      ∙ find_replaced g f (record { leader = k; body = body_left }) (record { leader = x.leader; body = body_left }) (files_kept (is_kept v) [] front) (files_kept (is_kept v) (kept_after_body (is_kept v) f before x.body) back) alone
      ∙ ap (λ es. cond (is_fid g f) (Some (record { leader = k; body = body_left })) (find fid_cmp g es)) (sym scan_same_leader)
      ∙ ap (cond (is_fid g f) (Some (record { leader = k; body = body_left }))) (sym (get-from_entries fid_total (files_kept (is_kept v) [] (entries files)) g))
      ∙ sym (get-insert fid_total (from_entries {R = fid_cmp} (files_kept (is_kept v) [] (entries files))) f (record { leader = k; body = body_left }) g))

-- ---- the pack
module _ (p : Pack) (at : ℕ) (f : Fid) (value : List ℕ) (bears : place (sights p) f 0 ≡ Some at) (other : is_fid f disk_descriptor ≡ false) where
  -- what the sectors show
  abbrev ss : List Sight
  ss = sights p

  -- the page
  abbrev x0 : Page
  x0 = record { fid = f; number = 0 }

  -- what the sector says before and after
  abbrev old : Leader
  old = leader_of f (sector_at p at).value

  -- and after
  abbrev new : Leader
  new = leader_of f value

  -- what it shows then
  abbrev s : Sight
  s = page_sight f 0 (tag (sector_at p at).label).bytes value

  -- it carries the leader
  is : carried p at ≡ Some x0
  is = place_carried p x0 at bears

  -- the sights then
  shown : sights (with_value p at value) ≡ set ss at s
  shown = value_sights p at x0 value is

  -- what it showed
  was : get_or ss at hidden ≡ page_sight f 0 (tag (sector_at p at).label).bytes (sector_at p at).value
  was = carried_sight p at x0 is

  -- its leader before
  lead : leader ss f ≡ Some old
  lead =
      let h = leader_of_place ss f at bears in
      let same : leads f h.readable h.lead ≡ page_sight f 0 (tag (sector_at p at).label).bytes (sector_at p at).value = sym (h.shows hidden) ∙ was in
      let l : h.lead ≡ old = cc in
      h.leader_is ∙ ap Some l

  -- and after
  lead_now : leader (set ss at s) f ≡ Some new
  lead_now = first_borne (leader_at f) ss at (leader_of_place ss f at bears).lead new s (leader_of_place ss f at bears).bears (leader_at-leads f (is_readable (leader_words value)) new)

  -- the leaders of all other files stay
  leaders_stay : (g : Fid) → is_fid g f ≡ false → leader (set ss at s) g ≡ leader ss g
  leaders_stay g e = first_same (leader_at g) ss at s hidden (ap (λ b. cond b (Some new) None) e ∙ sym (ap (leader_at g) was ∙ ap (λ b. cond b (Some old) None) e))

  -- and the bytes of all files
  bytes_stay : (g : Fid) → file_bytes (set ss at s) g ≡ file_bytes ss g
  bytes_stay g = bytes_same ss at s g (λ n. sym (ap (page_at g n) was))

  -- so the same files live
  lives_stay : lives (set ss at s) ≡ lives ss
  lives_stay = fun_ext (λ g. elim (is_fid g f) as (λ b. is_fid g f ≡ b → is_some (leader (set ss at s) g) ≡ is_some (leader ss g)) [
    | true ↦ λ e. ap (λ h. is_some (leader (set ss at s) h)) (same_fid g f e) ∙ ap is_some lead_now ∙ sym (ap (λ h. is_some (leader ss h)) (same_fid g f e) ∙ ap is_some lead)
    | false ↦ λ e. ap is_some (leaders_stay g e)
  ] refl)

  -- the file before
  file_was : get (described ss) f ≡ Some (read_file f (file_bytes ss f) old)
  file_was = described_get ss f other ∙ get_by ss f old (file_bytes ss f) lead refl

  -- and all files then
  files_now : described (set ss at s) ≡ insert (described ss) f (read_file f (file_bytes ss f) new)
  files_now =
      ap (λ m. retain_keys m is_described)
      (insert_from_get (found ss) (found (set ss at s)) f (read_file f (file_bytes ss f) new) (get_by (set ss at s) f new (file_bytes ss f) lead_now (bytes_stay f)) (λ g e. get_alike ss (set ss at s) g (leaders_stay g e) (bytes_stay g)))
      ∙ kept_insert (found ss) is_described f (read_file f (file_bytes ss f) new) (ap not other)

  -- the model, where the leader is changed so
  pub leader_changes : (g : Leader → Leader) → g old ≡ new → read_as (with_value p at value) ≡ update_file (read_as p) f (on_leader g)
  unfolding read_sights
  leader_changes g e =
      ap (read_sights p.shape) shown
      ∙ model_same p.shape _ _ _ _ _ _ (good_set ss at s hidden (sym (ap good_one was))) (ap (λ b. last_serial (words_of b)) (bytes_stay disk_descriptor))
      (ap (λ v. tidied v (described (set ss at s))) lives_stay
      ∙ ap (tidied (lives ss)) files_now
      ∙ tidied_leader (lives ss) (described ss) f (read_file f (file_bytes ss f) old) file_was new
      ∙ ap (λ k. insert (tidied (lives ss) (described ss)) f (record { leader = k; body = body_left (lives ss) (described ss) f (read_file f (file_bytes ss f) old) file_was })) (sym e)
      ∙ ap (update_found (tidied (lives ss) (described ss)) f (on_leader g)) (sym (tidied_file (lives ss) (described ss) f (read_file f (file_bytes ss f) old) file_was)))

-- another name
pub title_is_the_step : TitleIsTheStep
title_is_the_step p at f name value bears other e = leader_changes p at f value bears other (λ l. record l { name = name }) (sym e)

-- another written date
pub stamp_is_the_step : StampIsTheStep
stamp_is_the_step p at f moment value bears other e = leader_changes p at f value bears other (λ l. record l { written = moment }) (sym e)
