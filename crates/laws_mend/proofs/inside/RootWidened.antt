-- SysDir of a mended pack gets a page more, for the next entry that is lacking.
use Rattle.std.proofs.Common.{[], ◌++◌, ◌/◌, ◌∙◌, ◌∷◌, ◌≡◌, ◌≢◌, ◌≤◌, Bool, List, None, Some, ap, append-nil, arith, false, get_or, inl, length, refl, set, subst, suc, sym, take, true, ℕ}
use Rattle.std.proofs.lemmas.List.{set-get_or}
use Rattle.std.specs.FinMap.{entries, find}
use Rattle.std.specs.List.{list_any}
use Rattle.std.specs.Option.{is_some}
use Rattle.laws_room.specs.alto_words.specs.declared.fid.Fid.{Fid}
use Rattle.laws_room.specs.alto_words.specs.Fid.{disk_descriptor, fid_cmp, is_fid, sys_dir}
use Rattle.laws_room.specs.disk_records.specs.Commands.{claim_writes, relabel_writes, value_writes}
use Rattle.laws_room.specs.disk_records.specs.Labels.{page_of, tag}
use Rattle.laws_room.specs.disk_records.specs.Packs.{Pack, carried, sector_at}
use Rattle.laws_room.specs.disk_records.specs.declared.records.Page.{Page}
use Rattle.laws_room.specs.disk_records.specs.declared.records.Sector.{Sector}
use Rattle.laws_room.specs.pack_model.specs.hints.Links.{dir_words}
use Rattle.laws_room.specs.pack_model.specs.operations.Rooms.{placed}
use Rattle.laws_room.specs.pack_model.specs.reading.Bodies.{described}
use Rattle.laws_room.specs.pack_model.specs.reading.Bytes.{bytes_of, words_of}
use Rattle.laws_room.specs.pack_model.specs.reading.Files.{carries_page, file_bytes, lives, place}
use Rattle.laws_room.specs.pack_model.specs.reading.Model.{Model, root_items}
use Rattle.laws_room.specs.pack_model.specs.reading.Namings.{Naming, descriptor_name, is_kept, items_kept, kept_after, namings, namings_in, sys_dir_name}
use Rattle.laws_room.specs.pack_model.specs.reading.Sights.{page_sight, sights}
use Rattle.laws_room.specs.pack_model.specs.reading.Sights.Sight.{free, hidden, holds, leads}
use Rattle.laws_room.specs.pack_model.specs.reading.SlotWords.{space_words}
use Rattle.laws_room.specs.pack_model.specs.reading.Slots.{Item, SlotsReachEnd, entry_length, slots}
use Rattle.laws_room.specs.pack_model.specs.reading.Slots.Item.{entry, space}
use Rattle.laws_room.specs.pack_model.specs.scavenger.Mended.{lacking, mended}
use Rattle.laws_room.specs.pack_model.specs.scavenger.Reports.{PagesMended}
use Rattle.laws_room.specs.pack_model.specs.showing.Settling.{given_names, unless}
use Rattle.laws_room.specs.pack_model.specs.showing.View.{homes, view}
use Rattle.laws_room.specs.pack_laws.proofs.Carrying.{carried_shown}
use Rattle.laws_room.specs.pack_laws.proofs.Guarding.{carried_parts, value_page}
use Rattle.laws_room.specs.pack_laws.proofs.Sighted.{length-sights}
use Rattle.laws_room.specs.laws_record.proofs.Carried.{carries_within}
use Rattle.laws_room.specs.laws_record.proofs.Describing.{view_files}
use Rattle.laws_room.specs.laws_record.proofs.DirKinds.{spaces_in, view_change}
use Rattle.laws_room.specs.laws_record.proofs.DirReads.{dir_was, has_leader}
use Rattle.laws_room.specs.laws_record.proofs.DirSteps.{widen_change, widen_slots}
use Rattle.laws_room.specs.laws_record.proofs.DirWords.{DirChange}
use Rattle.laws_room.specs.laws_record.proofs.Framing.{SameCounted, claim_frame, counted_bytes}
use Rattle.laws_room.specs.laws_record.proofs.quiet.Laws.{past_count_reads_same}
use Rattle.laws_room.specs.laws_record.proofs.Recording.{carried_sight, label_sights}
use Rattle.laws_room.specs.laws_record.proofs.Scanned.{kept_before, scan_same}
use Rattle.laws_room.specs.laws_record.proofs.Staying.{Stays, stay_counted}
use Rattle.laws_room.specs.laws_record.proofs.Systemic.{mended_stays}
use Rattle.laws_room.specs.laws_record.proofs.Unread.{unread}
use Rattle.laws_room.specs.laws_record.specs.QuietLaws.{IsUnread, counted_of, with_label}
use Rattle.laws_room.specs.laws_record.specs.QuietLaws.IsUnread.{past_end}
use Rattle.laws_room.specs.laws_record.specs.ViewLaws.{ViewsSame}
use Rattle.laws_room.proofs.entering.Laws.{more_room_keeps}
use Rattle.laws_room.proofs.keeping.Laws.{past_count_keeps_aside}
use Rattle.laws_room.proofs.marks.Laws.{unmarked_stays}
use Rattle.laws_room.specs.KeepLaws.{KeepsWithRoot}
use Rattle.laws_room.specs.KeepLaws.RootMay.{as_before}
use Rattle.laws_room.specs.MarkLaws.{mark_page}
use Rattle.laws_room.specs.NextLaws.{LackingNext, mended_pack}
use Rattle.laws_room.specs.pack_laws.proofs.files.Laws.{places_are_lowest}
use Rattle.laws_mend.proofs.inside.Claiming.{unread_claim_tends}
use Rattle.laws_mend.proofs.inside.Joining.{nothing_tends, tends_join}
use Rattle.laws_mend.proofs.inside.Relabelling.{pages_once, relabel_tends, usable_value}
use Rattle.laws_mend.proofs.inside.SystemPages.{root_page, root_shown}
use Rattle.laws_mend.proofs.inside.Widened.{apart, claimed, comes, ends, held, here_middle, here_valued, k, label_1, label_2, last_is, living, middle, next_is, place_last, places_middle, q, reaches, value_1, value_2, valued, was_free, words_are}
use Rattle.laws_mend.proofs.inside.WideningBytes.{one_item}
use Rattle.laws_mend.proofs.inside.WideningWords.{few, last_kept, last_named, next_named}
use Rattle.laws_mend.specs.Tending.{AllTends, Tends}
use Rattle.laws_mend.specs.WidenLaws.{CanWiden, RootWideningTends, widening_writes}

-- ---- entries that are lacking
-- they are those of the files alone
lacking_files : (m n : Model) → m.files ≡ n.files → lacking m ≡ lacking n
unfolding lacking
lacking_files m n e =
    let v : view m ≡ view n = view_files m n e in
    λ i. unless (list_any (λ x. is_fid x.fid sys_dir) (namings (entries (e i)))) (sys_dir, sys_dir_name)
    (unless (list_any (λ x. is_fid x.fid disk_descriptor) (namings (entries (e i)))) (disk_descriptor, descriptor_name) (given_names (v i).names (entries (v i).files)))

-- and so is the place of an item among SysDir's slots
placed_files : (m n : Model) (i : Item) → m.files ≡ n.files → placed i (root_items m) ≡ placed i (root_items n)
placed_files m n x e = ap (λ files. placed x (root_items (record { shape = n.shape; good = n.good; last = n.last; files = files }))) e

module _ (p : Pack) (at fresh : ℕ) (f : Fid) (name : List ℕ) (rest : List (Fid × List ℕ)) (m : PagesMended p) (h : CanWiden p sys_dir at fresh)
    (next : LackingNext p f name rest) (none : placed (entry f name) (root_items (mended_pack p)) ≡ None) (small : entry_length (length name) ≤ 256) where
  abbrev one : Pack
  one = middle p sys_dir at fresh m h

  abbrev two : Pack
  two = valued p sys_dir at fresh m h

  abbrev last_page : Page
  last_page = last_is p sys_dir at fresh m h

  abbrev label : List ℕ
  label = label_2 p sys_dir at fresh m h

  abbrev value : List ℕ
  value = value_2 p sys_dir at fresh m h

  -- the pack with the label, and in the end
  abbrev three : Pack
  three = with_label two at label

  abbrev four : Pack
  four = q p sys_dir at fresh m h

  here_one : carried one at ≡ Some last_page
  here_one = here_middle p sys_dir at fresh m h

  here_two : carried two at ≡ Some last_page
  here_two = here_valued p sys_dir at fresh m h

  -- ---- the claim
  apart_root : fresh ≢ 1
  apart_root same = (let c : free ≡ leads sys_dir m.pages.root.1 m.pages.root.0 = sym (was_free p sys_dir at fresh m h) ∙ ap (λ j. get_or (sights p) j hidden) same ∙ m.pages.root.2 in cc)

  past : IsUnread (sights p) sys_dir (suc (suc (k p sys_dir at fresh m h)))
  past = past_end (omega arith)

  claim_tends : AllTends p (claim_writes fresh (label_1 p sys_dir at fresh m h) (value_1 p sys_dir at fresh m h))
  claim_tends = unread_claim_tends p fresh (next_is p sys_dir at fresh m h) (label_1 p sys_dir at fresh m h) (value_1 p sys_dir at fresh m h) h.free apart_root (next_named p sys_dir at fresh h) refl past

  -- ---- the value
  at_one : sector_at one at ≡ sector_at p at
  at_one = (claimed p sys_dir at fresh m h).others at (apart p sys_dir at fresh m h)

  kept : counted_of one at value ≡ counted_of one at (sector_at one at).value
  kept = ap (λ (s : Sector). take (tag s.label).bytes (bytes_of value)) at_one ∙ last_kept p sys_dir at fresh h ∙ sym (ap (λ (s : Sector). take (tag s.label).bytes (bytes_of s.value)) at_one)

  no_mark_one : carried one at ≡ Some mark_page → ⊥
  no_mark_one e = (let both : Some last_page ≡ Some mark_page = sym here_one ∙ e in let same : last_page ≡ mark_page = cc in let c : false ≡ true = ap (λ (x : Page). is_fid x.fid disk_descriptor) same in cc)

  value_tends : Tends one two
  value_tends = record {
    keeps = past_count_keeps_aside one at last_page value here_one (omega arith) kept (as_before (usable_value one at value 1) (value_page one at value 1));
    viewed = ap view (past_count_reads_same one at last_page value here_one (omega arith) kept);
    unmarked = λ u. unmarked_stays one at 2 value u (λ is. absurd (no_mark_one ((places_are_lowest one mark_page).lowest at is).here)) (λ c. absurd (no_mark_one (sym (value_page one at value at) ∙ c)));
  }

  -- ---- what was read
  shown_two : sights two ≡ sights one
  shown_two =
      (comes p sys_dir at fresh m h).shown ∙ ap (λ bytes. set (sights one) at (holds sys_dir (k p sys_dir at fresh m h) bytes)) kept
      ∙ ap (set (sights one) at) (sym (carried_sight one at last_page here_one)) ∙ set-get_or (sights one) at hidden

  frame : SameCounted (sights p) (set (sights p) fresh (page_sight sys_dir (suc (suc (k p sys_dir at fresh m h))) (tag (label_1 p sys_dir at fresh m h)).bytes (value_1 p sys_dir at fresh m h)))
  frame = claim_frame (sights p) fresh sys_dir (suc (k p sys_dir at fresh m h)) (take (tag (label_1 p sys_dir at fresh m h)).bytes (bytes_of (value_1 p sys_dir at fresh m h))) (was_free p sys_dir at fresh m h)
      (unread p sys_dir (suc (k p sys_dir at fresh m h)) (let l = few p sys_dir at fresh h in omega arith) past)

  stays : Stays p one
  stays = stay_counted p one _ refl (claimed p sys_dir at fresh m h).shown frame

  live : lives (sights two) sys_dir ≡ true
  live = ap (λ us. lives us sys_dir) shown_two ∙ ap (λ r. is_some r) (stays.files.leaders sys_dir) ∙ living p sys_dir at fresh m h

  bytes_two : file_bytes (sights two) sys_dir ≡ file_bytes (sights p) sys_dir
  bytes_two =
      let l = has_leader (sights p) sys_dir (living p sys_dir at fresh m h) in
      ap (λ us. file_bytes us sys_dir) (shown_two ∙ (claimed p sys_dir at fresh m h).shown)
      ∙ sym ((counted_bytes (sights p) _ frame).bytes sys_dir (inl (λ gone. let c : None ≡ Some l.0 = sym gone ∙ l.1 in cc)))

  files_two : (mended_pack two).files ≡ (mended_pack p).files
  unfolding mended
  files_two = ap (λ us. (mended p.shape us).files) shown_two ∙ (mended_stays p one stays.files).files

  -- ---- the label
  bears : place (sights two) sys_dir (suc (length (file_bytes (sights two) sys_dir) / 512)) ≡ Some at
  bears =
      ap (λ b. place (sights two) sys_dir (suc (length b / 512))) bytes_two ∙ ap (λ us. place us sys_dir (suc (k p sys_dir at fresh m h))) shown_two
      ∙ sym (places_middle p sys_dir at fresh m h sys_dir (suc (k p sys_dir at fresh m h))) ∙ place_last p sys_dir at fresh m h

  named : page_of label ≡ Some (record { fid = sys_dir; number = suc (length (file_bytes (sights two) sys_dir) / 512) })
  named = (last_named p sys_dir at fresh h).0 ∙ ap (λ b. Some (record { fid = sys_dir; number = suc (length b / 512) })) (sym bytes_two)

  reaches_two : SlotsReachEnd (file_bytes (sights two) sys_dir)
  reaches_two = subst SlotsReachEnd (sym bytes_two) (reaches p sys_dir at fresh m h)

  shown_four : sights four ≡ sights three
  shown_four =
      (ends p sys_dir at fresh m h).shown ∙ ap (λ v. set (sights two) at (page_sight sys_dir (suc (k p sys_dir at fresh m h)) (tag label).bytes v)) (sym (held p sys_dir at fresh m h))
      ∙ sym (label_sights two at last_page label (carried_parts two at last_page here_two).0 (last_named p sys_dir at fresh h).0)

  words_three : dir_words three sys_dir ≡ dir_words two sys_dir ++ space_words 256
  words_three = ap (λ us. words_of (file_bytes us sys_dir)) (sym shown_four) ∙ words_are p sys_dir at fresh m h ∙ ap (λ b. words_of b ++ space_words 256) (sym bytes_two)

  next_two : LackingNext two f name rest
  next_two = lacking_files (mended_pack two) (mended_pack p) files_two ∙ next

  none_two : placed (entry f name) (root_items (mended_pack two)) ≡ None
  none_two = placed_files (mended_pack two) (mended_pack p) (entry f name) files_two ∙ none

  more : KeepsWithRoot two three × LackingNext three f name rest
  more = more_room_keeps two at label (space_words 256) f name rest live bears named reaches_two words_three one_item next_two none_two small

  viewed : ViewsSame two three
  viewed =
      let words : List ℕ = dir_words two sys_dir ++ space_words 256 in
      let v : Fid → Bool = lives (sights two) in
      let items : List Item = slots (dir_words two sys_dir) in
      let l = has_leader (sights two) sys_dir live in
      let c : DirChange two three sys_dir words = widen_change two at sys_dir label (space_words 256) bears named words_three in
      let was = dir_was two three sys_dir words c refl l.0 l.1 in
      let now : slots words ≡ items ++ space 256 ∷ [] = widen_slots two sys_dir (space_words 256) reaches_two one_item in
      let before : List Naming = kept_before v (described (sights two)) sys_dir l.0 items was in
      let s = spaces_in (is_kept v) sys_dir before items [] 256 [] refl in
      view_change two three sys_dir words c refl l.0 l.1
      (λ g e. ap (λ ns. find fid_cmp g (homes ns)) (scan_same v (described (sights two)) sys_dir l.0 items (slots words) was (
        ap (λ is. namings_in sys_dir (items_kept (is_kept v) sys_dir before is)) now ∙ s.0 ∙ ap (λ is. namings_in sys_dir (items_kept (is_kept v) sys_dir before is)) (append-nil items),
        ap (kept_after (is_kept v) sys_dir before) now ∙ s.1 ∙ ap (kept_after (is_kept v) sys_dir before) (append-nil items),
      )))

  root_three : carried three 1 ≡ Some root_page
  root_three =
      let shows : carries_page sys_dir 0 (get_or (sights p) 1 hidden) ≡ true = ap (carries_page sys_dir 0) m.pages.root.2 in
      let within = carries_within (sights p) sys_dir 0 1 shows in
      let size = length-sights p in
      pages_once two at last_page label here_two (last_named p sys_dir at fresh h).0 1 ∙ value_page one at value 1
      ∙ (claimed p sys_dir at fresh m h).pages 1 (λ same. apart_root (sym same)) ∙ carried_shown p 1 root_page hidden (omega arith) shows

  label_tends : AllTends two (relabel_writes at label value)
  label_tends = subst (λ v. AllTends two (relabel_writes at label v)) (held p sys_dir at fresh m h)
      (relabel_tends two at last_page label here_two (last_named p sys_dir at fresh h).0 (λ may. more.0 (λ before. root_shown three root_three)) viewed)

  -- ---- all together
  all_tends : AllTends p (widening_writes p sys_dir at fresh)
  all_tends = tends_join p (claim_writes fresh (label_1 p sys_dir at fresh m h) (value_1 p sys_dir at fresh m h)) (claim_writes at label value) claim_tends
      (tends_join one (value_writes at value) (relabel_writes at label value) (nothing_tends one, value_tends) label_tends)

  still_lacking : LackingNext four f name rest
  still_lacking = ap (λ us. lacking (mended p.shape us)) shown_four ∙ more.1

pub root_widening_tends : RootWideningTends
root_widening_tends p at fresh f name rest m h next none small = (all_tends p at fresh f name rest m h next none small, still_lacking p at fresh f name rest m h next none small)
