-- All files are counted.
use Rattle.std.proofs.Common.{◌≡◌, inl, inr, ◌==◌, ◌&&◌, ◌||◌, ℕ, zero, suc, ◌+◌, ◌*◌, ◌/◌, ◌<◌, ◌≤◌, nat_le, Bool, true, false, cond, not, max, min, List, [], ◌∷◌, get_or, length, Option, Some, None, T, refl, sym, ap, ◌∙◌, eqb-true, arith}
use Rattle.std.specs.FinMap.{FinMap, contains_key, entries, entries_sorted, find, get, get-entries, is_sorted, len, len-entries, len-insert}
use Rattle.std.specs.FinMap.Entries.{below_all, where_key}
use Rattle.std.specs.Option.{is_some, option_map, option_map_or}
use Rattle.std.proofs.lemmas.Bool.Decides.{nat_tests}
use Rattle.alto_words.specs.declared.fid.Fid.{Fid}
use Rattle.alto_words.specs.Fid.{disk_descriptor, fid_cmp, is_fid, is_system, serial_of, sys_dir}
use Rattle.disk_records.specs.Addresses.{disks_of, pages_of}
use Rattle.disk_records.specs.declared.shape.Shape.{Shape}
use Rattle.disk_records.specs.declared.records.Page.{Page}
use Rattle.disk_records.specs.Packs.{Pack, carried, sector_at}
use Rattle.disk_records.specs.Labels.{tag}
use Rattle.pack_model.specs.scavenger.Scavenging.{root_stands}
use Rattle.scav_names.specs.laws_room.specs.NextLaws.{mended_pack}
use Rattle.pack_model.specs.operations.Rooms.{placed}
use Rattle.pack_model.specs.reading.Bodies.{items_in, pages_for}
use Rattle.pack_model.specs.reading.Bodies.Body.{data_of, items_of}
use Rattle.pack_model.specs.reading.Model.{Model, files_pages, good_sectors}
use Rattle.pack_model.specs.reading.Slots.{Item, all_words}
use Rattle.pack_model.specs.reading.Slots.Item.{entry}
use Rattle.pack_model.specs.scavenger.Mended.{lacking, mended, needs, on_room, root_body, root_file, rooted, widens, with_page, with_system}
use Rattle.scav_names.specs.laws_contents.proofs.ends.Laws.{missing_page_ends_the_file}
use Rattle.scav_names.specs.laws_contents.proofs.pages.Laws.{none_before_the_first}
use Rattle.scav_names.specs.laws_operation.proofs.places.Laws.{file_lives_in_a_place}
use Rattle.scav_names.specs.laws_record.proofs.Around.{second_part}
use Rattle.scav_names.specs.laws_record.proofs.Mending.{entries-tidied}
use Rattle.scav_names.specs.laws_record.proofs.Reading.{get-found, read_file}
use Rattle.scav_names.specs.laws_record.proofs.Unread.{no_page_shown}
use Rattle.scav_names.specs.laws_room.specs.CountLaws.{count_placed, placed_pages}
use Rattle.scav_names.specs.laws_room.proofs.numbers.Laws.{counting_theorem}
use Rattle.scav_names.specs.pack_laws.proofs.ByLists.{entries-retain_keys, is_shown, seen_by, seen_list}
use Rattle.scav_names.specs.pack_laws.proofs.Keys.{fid_same, fid_total, is_fid-itself, same_fid}
use Rattle.scav_names.specs.pack_laws.proofs.Placing.{place_none}
use Rattle.scav_names.specs.laws_operation.proofs.Showing.{is_here, usable_is}
use Rattle.scav_names.specs.laws_record.proofs.Recording.{carried_sight}
use Rattle.scavenger.proofs.Closing.{counts_page}
use Rattle.scav_names.specs.pack_laws.proofs.Sighted.{length-sights}
use Rattle.pack_model.specs.reading.Bodies.{Body, File, body_items, body_length, body_of, described, found, is_described}
use Rattle.pack_model.specs.reading.Files.{carries_page, file_bytes, leader, lives, numbered, page, place}
use Rattle.pack_model.specs.reading.Leaders.{Leader}
use Rattle.pack_model.specs.reading.Model.{descriptor_pages, descriptor_words, good_one, is_named, root_items, read_as, read_sights}
use Rattle.pack_model.specs.reading.Namings.{Naming, descriptor_name, sys_dir_name, body_kept, files_kept, is_kept, kept_after_body}
use Rattle.pack_model.specs.reading.Sights.{Sight, page_sight, sights}
use Rattle.pack_model.specs.reading.Sights.Sight.{free, hidden, holds, leads, stray}
use Rattle.pack_model.specs.scavenger.Needed.{descriptor_lacks, file_lacks, files_lack, needed, root_lacks}
use Rattle.pack_model.specs.scavenger.Reports.{greatest_serial, mended_serial, says_drives}
use Rattle.pack_model.specs.sessions.Descriptor.{data_pages}
use Rattle.pack_model.specs.showing.Settling.{adopted, chosen, given_names, settle, show, unless}
use Rattle.pack_model.specs.showing.View.{Home, Seen, seen_of, view}
use Rattle.pack_model.specs.states.InUse.{counts, how_many, in_use, is_good, is_within, last_page, one_if}
use Rattle.scav_pages.proofs.Describing.{few_data_pages, placed_first}
use Rattle.scav_pages.specs.Ends.{ArePlaces}
use Rattle.scavenger.specs.declared.counts.Counts.{Counts}
use Rattle.scavenger.specs.declared.system.System.{System}
use Rattle.scavenger.specs.Counting.{Counted, CountsAll, MetAll, living}
use Rattle.scavenger.specs.Descriptors.{IsSystem, old_serial_of}
use Rattle.scavenger.specs.InUse.{is_root, lacking_of, last_in_use}
use Rattle.scavenger.proofs.FileNumbers.{its_end, lacks_by_body, lacks_by_format, placed_or_missing}
use Rattle.scav_pages.proofs.Ahead.{few_pass}
use Rattle.scavenger.proofs.Filtering.{all_met, found_first, found_later}
use Rattle.scavenger.proofs.OldSerial.{none_said, said_long}

abbrev Entries : Type 0
Entries = List (Fid × File)

-- ---- all files that live
-- those that are found
lives_found : (p : Pack) (f : Fid) (x : File) → find fid_cmp f (entries (found (sights p))) ≡ Some x → (lives (sights p) f ≡ true) × (x.body ≡ body_of f (file_bytes (sights p) f))
lives_found p f x is = by (leader (sights p) f) refl (sym (get-found (sights p) f) ∙ get-entries (found (sights p)) f ∙ is)
  where
    by : (o : Option Leader) → leader (sights p) f ≡ o → option_map (read_file f (file_bytes (sights p) f)) (leader (sights p) f) ≡ Some x → (lives (sights p) f ≡ true) × (x.body ≡ body_of f (file_bytes (sights p) f))
    by None e q = absurd (let both : None ≡ Some x = sym (ap (option_map (read_file f (file_bytes (sights p) f))) e) ∙ q in cc)
    by (Some l) e q = (ap is_some e, (let both : Some (read_file f (file_bytes (sights p) f) l) ≡ Some x = sym (ap (option_map (read_file f (file_bytes (sights p) f))) e) ∙ q in let one : read_file f (file_bytes (sights p) f) l ≡ x = cc in ap (λ (y : File). y.body) (sym one)))

all_living : (p : Pack) (met : Fid → Bool) → MetAll p met → living p met ≡ entries (found (sights p))
all_living p met all = all_met met (entries (found (sights p))) (entries_sorted (found (sights p))) (λ f x is. all.0 f (lives_found p f x is).0)

-- ---- how many there can be
length-numbered : (from : ℕ) (ss : List Sight) → length (numbered from ss) ≡ length ss
length-numbered from [] = refl
length-numbered from (s ∷ ss) = ap suc (length-numbered (suc from) ss)

module _ (p : Pack) where
  -- a file that lives has its leader page among those that are carried, and lacks 5 pages at most
  leader_placed : (f : Fid) → lives (sights p) f ≡ true → (n : ℕ) → 1 ≤ placed_pages (sights p) f n
  leader_placed f living zero = let here : one_if (is_some (place (sights p) f 0)) ≡ 1 = ap one_if (sym (file_lives_in_a_place p f) ∙ living) in omega (arith, here)
  leader_placed f living (suc n) = let rest = leader_placed f living n in omega (arith, rest)

  few_lack : (f : Fid) → lives (sights p) f ≡ true → lacking_of p f ≤ 5
  few_lack f living = by (is_fid f disk_descriptor) refl
    where
      at_most : (b : Bool) → one_if b ≤ 1
      at_most true = omega arith
      at_most false = omega arith

      by : (t : Bool) → is_fid f disk_descriptor ≡ t → lacking_of p f ≤ 5
      by true e =
          let all = placed_or_missing p f living (last_in_use p f) in
          let some = leader_placed f living (last_in_use p f) in
          let same = lacks_by_format p f e in
          let few = few_data_pages p.shape in
          let last : last_in_use p f ≡ data_pages p.shape = ap (λ g. last_in_use p g) (same_fid f disk_descriptor e) in
          omega (arith, all, some, same, few, last)
      by false e = let same = lacks_by_body p f e in let one = at_most (not (is_some (page (sights p) f (its_end p f)))) in omega (arith, same, one)

  -- of these files, each of which is found
  lack_few : (es : Entries) → T (is_sorted fid_cmp es) → ((f : Fid) (x : File) → find fid_cmp f es ≡ Some x → (lives (sights p) f ≡ true) × (x.body ≡ body_of f (file_bytes (sights p) f))) → (files_lack p.shape (sights p) es ≤ 5 * count_placed p.shape (sights p) es) × (length es ≤ count_placed p.shape (sights p) es)
  lack_few [] sorted each = (omega arith, omega arith)
  lack_few (e ∷ es) sorted each =
      let rest = lack_few es (second_part (below_all fid_cmp e.0 es) (is_sorted fid_cmp es) sorted) (λ f x is. each f x (found_later f x e es sorted is)) in
      let here = each e.0 e.1 (found_first e es) in
      let few = few_lack e.0 here.0 in
      let lacks : file_lacks p.shape (sights p) e.0 e.1.body ≡ lacking_of p e.0 = ap (file_lacks p.shape (sights p) e.0) here.1 in
      let some = leader_placed e.0 here.0 (last_page p.shape e.0 e.1.body) in
      let a = rest.0 in
      let b = rest.1 in
      (omega (arith, few, lacks, some, a), omega (arith, some, b))

  -- of all
  module _ (sized : length p.sectors ≡ pages_of p.shape) where
    pub few_placed : count_placed p.shape (sights p) (entries (found (sights p))) ≤ 65535
    few_placed =
        let all = (counting_theorem p).in_use in
        let few = few_pass (in_use p.shape (sights p)) (numbered 0 (sights p)) in
        let long = length-numbered 0 (sights p) in
        let sights_are = length-sights p in
        let most = p.shape.most_pages in
        omega (arith, all, few, long, sights_are, sized, most)

    pub few_lacking : files_lack p.shape (sights p) (entries (found (sights p))) ≤ 327675
    few_lacking = let few = few_placed in let lack = (lack_few (entries (found (sights p))) (entries_sorted (found (sights p))) (lives_found p)).0 in omega (arith, few, lack)

    pub few_files : length (entries (found (sights p))) ≤ 65535
    few_files = let few = few_placed in let long = (lack_few (entries (found (sights p))) (entries_sorted (found (sights p))) (lives_found p)).1 in omega (arith, few, long)

-- ---- the files that are shown
shown_many : (ok : List Naming → Naming → Bool) (before : List Naming) (es : Entries) → length (seen_by (files_kept ok before (where_key fid_cmp is_described es))) ≡ how_many (λ e. not (is_system e.0)) es
shown_many ok before [] = refl
shown_many ok before (e ∷ es) = by (is_described e.0) refl (λ b. shown_many ok b es)
  where
    one : (t : Bool) (b : List Naming) (x : Fid × File) → x.0 ≡ e.0 → is_shown e.0 ≡ t → length (seen_by (files_kept ok b (where_key fid_cmp is_described es))) ≡ how_many (λ e. not (is_system e.0)) es
        → length (cond (is_shown e.0) ((e.0, seen_of e.0 x.1) ∷ seen_by (files_kept ok b (where_key fid_cmp is_described es))) (seen_by (files_kept ok b (where_key fid_cmp is_described es)))) ≡ one_if (is_shown e.0) + how_many (λ e. not (is_system e.0)) es
    one true b x same q rest = ap (λ t. length (cond t ((e.0, seen_of e.0 x.1) ∷ seen_by (files_kept ok b (where_key fid_cmp is_described es))) (seen_by (files_kept ok b (where_key fid_cmp is_described es))))) q ∙ (omega (arith, rest)) ∙ sym (ap (λ t. one_if t + how_many (λ e. not (is_system e.0)) es) q)
    one false b x same q rest = ap (λ t. length (cond t ((e.0, seen_of e.0 x.1) ∷ seen_by (files_kept ok b (where_key fid_cmp is_described es))) (seen_by (files_kept ok b (where_key fid_cmp is_described es))))) q ∙ (omega (arith, rest)) ∙ sym (ap (λ t. one_if t + how_many (λ e. not (is_system e.0)) es) q)

    by : (t : Bool) → is_described e.0 ≡ t → ((b : List Naming) → length (seen_by (files_kept ok b (where_key fid_cmp is_described es))) ≡ how_many (λ e. not (is_system e.0)) es)
        → length (seen_by (files_kept ok before (cond (is_described e.0) (e ∷ where_key fid_cmp is_described es) (where_key fid_cmp is_described es)))) ≡ one_if (not (is_system e.0)) + how_many (λ e. not (is_system e.0)) es
    by true q again =
        ap (λ t. length (seen_by (files_kept ok before (cond t (e ∷ where_key fid_cmp is_described es) (where_key fid_cmp is_described es))))) q
        ∙ one (is_shown e.0) (kept_after_body ok e.0 before e.1.body) (e.0, record { leader = e.1.leader; body = body_kept ok e.0 before e.1.body }) refl refl (again (kept_after_body ok e.0 before e.1.body))
    by false q again =
        let its : is_fid e.0 disk_descriptor ≡ true = back (is_fid e.0 disk_descriptor) q in
        let system : is_system e.0 ≡ true = ap (λ b. is_fid e.0 sys_dir || b) its ∙ any (is_fid e.0 sys_dir) in
        let rest = again before in
        ap (λ t. length (seen_by (files_kept ok before (cond t (e ∷ where_key fid_cmp is_described es) (where_key fid_cmp is_described es))))) q ∙ rest ∙ (omega arith) ∙ sym (ap (λ t. one_if (not t) + how_many (λ e. not (is_system e.0)) es) system)
      where
        back : (t : Bool) → not t ≡ false → t ≡ true
        back true q = refl
        back false q = absurd cc

        any : (t : Bool) → (t || true) ≡ true
        any true = refl
        any false = refl

pub shown_files : (p : Pack) → length (entries (show p).files) ≡ how_many (λ e. not (is_system e.0)) (entries (found (sights p)))
unfolding settle read_sights
shown_files p =
    ap length (seen_list (read_as p))
    ∙ ap (λ es. length (seen_by es)) (entries-tidied (lives (sights p)) (described (sights p)) ∙ ap (files_kept (is_kept (lives (sights p))) []) (entries-retain_keys fid_total fid_same (found (sights p)) is_described))
    ∙ shown_many (is_kept (lives (sights p))) [] (entries (found (sights p)))

-- ---- the numbers
pub root_lives : (p : Pack) (counts : Counts) → CountsAll p counts → counts.root ≡ lives (sights p) sys_dir
root_lives p counts all = all.counts_to.root ∙ by (lives (sights p) sys_dir) refl
  where
    both : (m : Bool) → (m && false) ≡ false
    both true = refl
    both false = refl

    by : (t : Bool) → lives (sights p) sys_dir ≡ t → (all.met sys_dir && lives (sights p) sys_dir) ≡ lives (sights p) sys_dir
    by true e = ap (λ b. b && lives (sights p) sys_dir) (all.all.0 sys_dir e)
    by false e = ap (λ b. all.met sys_dir && b) e ∙ both (all.met sys_dir) ∙ sym e

-- a DiskDescriptor without a first page says no serial
no_old_serial : (p : Pack) → place (sights p) disk_descriptor 1 ≡ None → old_serial_of p ≡ 0
no_old_serial p none = sym (none_said p [] (λ at is. absurd (let both : None ≡ Some at = sym none ∙ is in cc)) p.shape false false (sym (short (disks_of p.shape))) (sym (short 1)) refl)
  where
    empty : length (file_bytes (sights p) disk_descriptor) ≡ 0
    empty = let size = missing_page_ends_the_file p disk_descriptor 0 (none_before_the_first p disk_descriptor) none in omega (arith, size)

    short : (drives : ℕ) → says_drives drives p.shape (file_bytes (sights p) disk_descriptor) (descriptor_words (sights p)) ≡ false
    short drives = by (says_drives drives p.shape (file_bytes (sights p) disk_descriptor) (descriptor_words (sights p))) refl
      where
        by : (t : Bool) → says_drives drives p.shape (file_bytes (sights p) disk_descriptor) (descriptor_words (sights p)) ≡ t → says_drives drives p.shape (file_bytes (sights p) disk_descriptor) (descriptor_words (sights p)) ≡ false
        by false e = e
        by true e = absurd (let long = said_long p [] (λ at is. absurd (let both : None ≡ Some at = sym none ∙ is in cc)) p.shape drives e in omega (arith, long, empty))

-- the greatest serial
mended_last : (p : Pack) (counts : Counts) (last : ℕ) → CountsAll p counts → last ≡ max counts.last (serial_of disk_descriptor) → last ≡ mended_serial p
mended_last p counts last all is = by (all.met disk_descriptor) refl
  where
    known : counts.last ≡ max (cond (all.met disk_descriptor) (old_serial_of p) 0) (greatest_serial (entries (found (sights p))))
    known = all.counts_to.last ∙ ap (λ es. max (cond (all.met disk_descriptor) (old_serial_of p) 0) (greatest_serial es)) (all_living p all.met all.all)

    by : (t : Bool) → all.met disk_descriptor ≡ t → last ≡ mended_serial p
    by true e = let k : counts.last ≡ max (old_serial_of p) (greatest_serial (entries (found (sights p)))) = known ∙ ap (λ b. max (cond b (old_serial_of p) 0) (greatest_serial (entries (found (sights p))))) e in omega (arith, k, is)
    by false e =
        let none = no_old_serial p (all.all.1 e) in
        let k : counts.last ≡ max 0 (greatest_serial (entries (found (sights p)))) = known ∙ ap (λ b. max (cond b (old_serial_of p) 0) (greatest_serial (entries (found (sights p))))) e in
        omega (arith, k, is, none)

-- ---- sector 1
good_is : (s : Sight) → is_good s ≡ true → good_one s ≡ 1
good_is hidden e = absurd cc
good_is free e = refl
good_is stray e = refl
good_is (leads f readable l) e = refl
good_is (holds f n bytes) e = refl

-- a page that counts is one of a living file
counted_lives : (p : Pack) (f : Fid) (n : ℕ) → counts p.shape (sights p) f n ≡ true → lives (sights p) f ≡ true
counted_lives p f n e = by (leader (sights p) f) refl (sym (ap (is_within p.shape f n) (get-found (sights p) f)) ∙ e)
  where
    by : (o : Option Leader) → leader (sights p) f ≡ o → is_within p.shape f n (option_map (read_file f (file_bytes (sights p) f)) (leader (sights p) f)) ≡ true → lives (sights p) f ≡ true
    by None q h = absurd (let both : false ≡ true = sym (ap (λ o. is_within p.shape f n (option_map (read_file f (file_bytes (sights p) f)) o)) q) ∙ h in cc)
    by (Some l) q h = ap is_some q

-- the file whose leader page is in sector 1 lives
first_lives : (p : Pack) (page : Page) → is_good (get_or (sights p) 1 hidden) ≡ true → carried p 1 ≡ Some page → page.number ≡ 0 → lives (sights p) page.fid ≡ true
first_lives p page good here number = file_lives_in_a_place p page.fid ∙ by (place (sights p) page.fid 0) refl
  where
    within : 1 < length (sights p)
    within = let size = length-sights p in let there = is_here p 1 (good_is (get_or (sights p) 1 hidden) good) in omega (arith, size, there)

    carries : carries_page page.fid 0 (get_or (sights p) 1 hidden) ≡ true
    carries =
        ap (carries_page page.fid 0) (carried_sight p 1 page here)
        ∙ ap (λ k. carries_page page.fid 0 (page_sight page.fid k (tag (sector_at p 1).label).bytes (sector_at p 1).value)) number
        ∙ is_fid-itself page.fid

    by : (o : Option ℕ) → place (sights p) page.fid 0 ≡ o → is_some (place (sights p) page.fid 0) ≡ true
    by (Some at) e = ap is_some e
    by None e = absurd (let both : true ≡ false = sym carries ∙ place_none (sights p) page.fid 0 1 hidden e within in cc)

module _ (p : Pack) (met : Fid → Bool) (all : MetAll p met) where
  counted_met : (f : Fid) (n : ℕ) → (met f && counts p.shape (sights p) f n) ≡ counts p.shape (sights p) f n
  counted_met f n = by (counts p.shape (sights p) f n) refl
    where
      none : (m : Bool) → (m && false) ≡ false
      none true = refl
      none false = refl

      by : (t : Bool) → counts p.shape (sights p) f n ≡ t → (met f && counts p.shape (sights p) f n) ≡ counts p.shape (sights p) f n
      by true e = ap (λ b. b && counts p.shape (sights p) f n) (all.0 f (counted_lives p f n e))
      by false e = ap (λ b. met f && b) e ∙ none (met f) ∙ sym e

  taken_by : (page : Page) → (met page.fid && (counts p.shape (sights p) page.fid page.number && not (is_root page))) ≡ (counts p.shape (sights p) page.fid page.number && not (is_root page))
  taken_by page = by (met page.fid) (counts p.shape (sights p) page.fid page.number) (counted_met page.fid page.number)
    where
      by : (m c : Bool) → (m && c) ≡ c → (m && (c && not (is_root page))) ≡ (c && not (is_root page))
      by true c e = refl
      by false true e = absurd cc
      by false false e = refl

  -- what it shows
  first_shown : is_good (get_or (sights p) 1 hidden) ≡ true → (o : Option Page) → carried p 1 ≡ o → not (option_map_or (λ page. met page.fid && (counts p.shape (sights p) page.fid page.number && not (is_root page))) o false) ≡ root_stands p.shape (sights p) (get_or (sights p) 1 hidden)
  first_shown good None e = elim (no_page_shown p 1 (usable_is p 1 (good_is (get_or (sights p) 1 hidden) good)) e) [
    | inl free_is ↦ sym (ap (root_stands p.shape (sights p)) free_is)
    | inr stray_is ↦ sym (ap (root_stands p.shape (sights p)) stray_is)
  ]
  first_shown good (Some page) e = ap not (taken_by page) ∙ by page.number refl ∙ sym (ap (root_stands p.shape (sights p)) (carried_sight p 1 page e))
    where
      shows : Sight
      shows = page_sight page.fid page.number (tag (sector_at p 1).label).bytes (sector_at p 1).value

      low : (n : ℕ) → nat_le 0 n ≡ true
      low n = grind (arith, nat_tests)

      later : (n : ℕ) → (suc n == 0) ≡ false
      later n = grind (arith, nat_tests)

      yes : (c r : Bool) → c ≡ true → not (c && not (r && true)) ≡ r
      yes true true q = refl
      yes true false q = refl
      yes false r q = absurd cc

      no : (c r : Bool) → not (c && not (r && false)) ≡ not c
      no true true = refl
      no true false = refl
      no false r = refl

      by : (n : ℕ) → page.number ≡ n → not (counts p.shape (sights p) page.fid page.number && not (is_root page)) ≡ root_stands p.shape (sights p) (page_sight page.fid page.number (tag (sector_at p 1).label).bytes (sector_at p 1).value)
      by zero q =
          let living = first_lives p page good e q in
          let in_it : counts p.shape (sights p) page.fid page.number ≡ true = counts_page p met page.fid page (is_fid-itself page.fid) ∙ (λ i. living i && nat_le (q i) (last_in_use p page.fid)) ∙ low (last_in_use p page.fid) in
          ap (λ k. not (counts p.shape (sights p) page.fid page.number && not (is_fid page.fid sys_dir && (k == 0)))) q
          ∙ yes (counts p.shape (sights p) page.fid page.number) (is_fid page.fid sys_dir) in_it
          ∙ sym (ap (λ k. root_stands p.shape (sights p) (page_sight page.fid k (tag (sector_at p 1).label).bytes (sector_at p 1).value)) q)
      by (suc n) q =
          ap (λ k. not (counts p.shape (sights p) page.fid k && not (is_fid page.fid sys_dir && (k == 0)))) q
          ∙ ap (λ b. not (counts p.shape (sights p) page.fid (suc n) && not (is_fid page.fid sys_dir && b))) (later n)
          ∙ no (counts p.shape (sights p) page.fid (suc n)) (is_fid page.fid sys_dir)
          ∙ sym (ap (λ k. root_stands p.shape (sights p) (page_sight page.fid k (tag (sector_at p 1).label).bytes (sector_at p 1).value)) q)

pub finished : (p : Pack) (system : System) (counts : Counts) (more needed_now files_now last_now : ℕ) → length p.sectors ≡ pages_of p.shape → IsSystem p system → CountsAll p counts → more ≡ root_lacks (sights p) + descriptor_lacks p.shape (sights p) → more ≤ 8
    → needed_now ≡ min (counts.needed + more) 4294967295 → files_now ≡ min (counts.files + 2) 4294967295 → last_now ≡ max counts.last (serial_of disk_descriptor)
    → Counted p (record { in_use = counts.in_use; needed = needed_now; files = files_now; last = last_now; taken = counts.taken; mark_at = get_or system.places 1 0; root = counts.root })
unfolding needed
finished p system counts more needed_now files_now last_now sized is all more_is few needed_is files_is last_is = record {
  in_use_is = (let n = all.counts_to.in_use_is in let few = few_placed p sized in let same = ap (count_placed p.shape (sights p)) living_all in omega (arith, n, few, same)) ∙ sym (counting_theorem p).in_use;
  needed_is = let n = all.counts_to.needed_is in let most = few_lacking p sized in let same = ap (files_lack p.shape (sights p)) living_all in omega (arith, n, most, same, needed_is, more_is, few);
  files = let n = all.counts_to.files in let most = few_files p sized in let same = ap (how_many (λ e. not (is_system e.0))) living_all in let pass = few_pass (λ (e : Fid × File). not (is_system e.0)) (entries (found (sights p))) in let shown = shown_files p in omega (arith, n, most, same, pass, shown, files_is);
  last = mended_last p counts last_now all last_is;
  taken = λ good. ap not all.counts_to.taken ∙ first_shown p all.met all.all good (carried p 1) refl;
  mark = is.places 1 (omega arith);
}
  where
    living_all : living p all.met ≡ entries (found (sights p))
    living_all = all_living p all.met all.all

-- ---- what the system files need
pub root_wanted : (p : Pack) (lives_now : Bool) (n : ℕ) → lives_now ≡ lives (sights p) sys_dir → n ≡ cond lives_now 0 2 → n ≡ root_lacks (sights p)
root_wanted p lives_now n is e = e ∙ ap (λ b. cond b 0 2) is

descriptor_lives : (p : Pack) (places : List ℕ) → ArePlaces p places → lives (sights p) disk_descriptor ≡ not (get_or places 0 0 == 0)
descriptor_lives p places are = file_lives_in_a_place p disk_descriptor ∙ by (place (sights p) disk_descriptor 0) refl
  where
    by : (o : Option ℕ) → place (sights p) disk_descriptor 0 ≡ o → is_some (place (sights p) disk_descriptor 0) ≡ not (get_or places 0 0 == 0)
    by None e = ap is_some e ∙ sym (ap (λ k. not (k == 0)) (are 0 (omega arith) ∙ ap (λ o. option_map_or (λ at. at) o 0) e))
    by (Some at) e = ap is_some e ∙ sym (ap not (some (get_or places 0 0 == 0) refl (are 0 (omega arith) ∙ ap (λ o. option_map_or (λ at. at) o 0) e) (placed_first p disk_descriptor 0 at e)))
      where
        some : (t : Bool) → (get_or places 0 0 == 0) ≡ t → get_or places 0 0 ≡ at → 1 ≤ at → (get_or places 0 0 == 0) ≡ false
        some true q here low = absurd (let zero = eqb-true (get_or places 0 0) 0 q in omega (arith, zero, here, low))
        some false q here low = q

pub descriptor_wanted : (p : Pack) (places : List ℕ) (shape : Shape) (n pages : ℕ) → ArePlaces p places → pages ≡ data_pages shape → n ≡ cond (get_or places 0 0 == 0) (1 + pages) 0 → n ≡ descriptor_lacks shape (sights p)
descriptor_wanted p places shape n pages are is e = e ∙ by (get_or places 0 0 == 0) ∙ sym (ap (λ b. cond b 0 (descriptor_pages shape)) (descriptor_lives p places are))
  where
    by : (t : Bool) → cond t (1 + pages) 0 ≡ cond (not t) 0 (descriptor_pages shape)
    by true = omega (arith, is)
    by false = refl

-- ---- the entries that are lacking are few
where_few : (test : Fid → Bool) (es : Entries) → length (where_key fid_cmp test es) ≤ length es
where_few test [] = omega arith
where_few test (e ∷ es) = by (test e.0) (where_few test es)
  where
    by : (t : Bool) → length (where_key fid_cmp test es) ≤ length es → length (cond t (e ∷ where_key fid_cmp test es) (where_key fid_cmp test es)) ≤ length (e ∷ es)
    by true rest = omega (arith, rest)
    by false rest = omega (arith, rest)

seen_few : (ok : List Naming → Naming → Bool) (before : List Naming) (es : Entries) → length (seen_by (files_kept ok before es)) ≤ length es
seen_few ok before [] = omega arith
seen_few ok before (e ∷ es) = by (is_shown e.0) (seen_few ok (kept_after_body ok e.0 before e.1.body) es)
  where
    by : (t : Bool) → length (seen_by (files_kept ok (kept_after_body ok e.0 before e.1.body) es)) ≤ length es
        → length (cond t ((e.0, seen_of e.0 (record { leader = e.1.leader; body = body_kept ok e.0 before e.1.body })) ∷ seen_by (files_kept ok (kept_after_body ok e.0 before e.1.body) es)) (seen_by (files_kept ok (kept_after_body ok e.0 before e.1.body) es))) ≤ length (e ∷ es)
    by true rest = omega (arith, rest)
    by false rest = omega (arith, rest)

given_few : (names : FinMap fid_cmp Home) (es : List (Fid × Seen)) → length (given_names names es) ≤ length es
given_few names [] = omega arith
given_few names (e ∷ es) = by (contains_key names e.0) (given_few (adopted names e) es)
  where
    by : (t : Bool) → length (given_names (adopted names e) es) ≤ length es → length (unless t (e.0, chosen names e.1.leader.name) (given_names (adopted names e) es)) ≤ length (e ∷ es)
    by true rest = omega (arith, rest)
    by false rest = omega (arith, rest)

unless_few : {X : Type 0} (t : Bool) (x : X) (xs : List X) → length (unless t x xs) ≤ 1 + length xs
unless_few true x xs = omega arith
unless_few false x xs = omega arith

mended_few : (p : Pack) → length (entries (view (mended_pack p)).files) ≤ 1 + length (entries (found (sights p)))
unfolding mended
mended_few p =
    let shown = ap length (seen_list (mended_pack p)) in
    let kept = ap (λ es. length (seen_by es)) (entries-tidied (with_system (lives (sights p))) (rooted (described (sights p)))) in
    let few = seen_few (is_kept (with_system (lives (sights p)))) [] (entries (rooted (described (sights p)))) in
    let made = len-insert fid_total (described (sights p)) sys_dir (root_file (root_body (get (described (sights p)) sys_dir))) in
    let size = len-entries (rooted (described (sights p))) in
    let old = len-entries (described (sights p)) in
    let some = ap length (entries-retain_keys fid_total fid_same (found (sights p)) is_described) in
    let all = where_few is_described (entries (found (sights p))) in
    let most = one (contains_key (described (sights p)) sys_dir) (len (described (sights p))) in
    omega (arith, shown, kept, few, made, size, old, some, all, most)
  where
    one : (t : Bool) (n : ℕ) → cond t n (n + 1) ≤ n + 1
    one true n = omega arith
    one false n = omega arith

pub few_entries : (p : Pack) → length p.sectors ≡ pages_of p.shape → length (lacking (mended_pack p)) ≤ 65538
unfolding lacking
few_entries p sized =
    let files = few_files p sized in
    let mended = mended_few p in
    let names = given_few (view (mended_pack p)).names (entries (view (mended_pack p)).files) in
    let second = unless_few (is_named (mended_pack p) disk_descriptor) (disk_descriptor, descriptor_name) (given_names (view (mended_pack p)).names (entries (view (mended_pack p)).files)) in
    let first = unless_few (is_named (mended_pack p) sys_dir) (sys_dir, sys_dir_name) (unless (is_named (mended_pack p) disk_descriptor) (disk_descriptor, descriptor_name) (given_names (view (mended_pack p)).names (entries (view (mended_pack p)).files))) in
    omega (arith, files, mended, names, second, first)

widens_few : (is : List Item) (es : List (Fid × List ℕ)) → widens is es ≤ length es
unfolding widens
widens_few is [] = omega arith
widens_few is (e ∷ es) = by (placed (entry e.0 e.1) is) (placed (entry e.0 e.1) (with_page is)) (λ js. widens_few js es)
  where
    by : (a b : Option (List Item)) → ((js : List Item) → widens js es ≤ length es) → on_room a (λ js. widens js es) (suc (on_room b (λ js. widens js es) 0)) ≤ length (e ∷ es)
    by (Some js) b again = let rest = again js in omega (arith, rest)
    by None (Some js) again = let rest = again js in omega (arith, rest)
    by None None again = omega arith

pub few_needed : (p : Pack) → length p.sectors ≡ pages_of p.shape → needed p.shape (sights p) ≤ 393221
unfolding needed
few_needed p sized =
    let wide = widens_few (root_items (mended_pack p)) (lacking (mended_pack p)) in
    let few = few_entries p sized in
    let files = few_lacking p sized in
    let root = two (lives (sights p) sys_dir) in
    let desc = six (lives (sights p) disk_descriptor) in
    omega (arith, wide, few, files, root, desc)
  where
    two : (t : Bool) → cond t 0 2 ≤ 2
    two true = omega arith
    two false = omega arith

    six : (t : Bool) → cond t 0 (descriptor_pages p.shape) ≤ 6
    six true = omega arith
    six false = let pages = few_data_pages p.shape in omega (arith, pages)

-- ---- SysDir's slots are few
in_pages : (f : Fid) (x : File) (es : Entries) → find fid_cmp f es ≡ Some x → pages_for (body_length x.body) ≤ files_pages es
in_pages f x [] is = absurd cc
in_pages f x (e ∷ es) is = by (in_pages f x es) (is_fid f e.0) refl
  where
    by : (find fid_cmp f es ≡ Some x → pages_for (body_length x.body) ≤ files_pages es) → (t : Bool) → is_fid f e.0 ≡ t → pages_for (body_length x.body) ≤ files_pages (e ∷ es)
    by again true q =
        let value : Some e.1 ≡ Some x = sym (ap (λ b. cond b (Some e.1) (find fid_cmp f es)) q) ∙ is in
        let one : e.1 ≡ x = cc in
        let same : pages_for (body_length e.1.body) ≡ pages_for (body_length x.body) = ap (λ (y : File). pages_for (body_length y.body)) one in
        omega (arith, same)
    by again false q = let rest = again (sym (ap (λ b. cond b (Some e.1) (find fid_cmp f es)) q) ∙ is) in omega (arith, rest)

root_few : (m : Model) → all_words (root_items m) * 2 / 512 ≤ files_pages (entries m.files)
root_few m = by (get m.files sys_dir) (sym (get-entries m.files sys_dir))
  where
    items : (x : File) → pages_for (body_length x.body) ≤ files_pages (entries m.files) → all_words (body_items x.body) * 2 / 512 ≤ files_pages (entries m.files)
    items x few = kind x.body few
      where
        kind : (b : Body) → pages_for (body_length b) ≤ files_pages (entries m.files) → all_words (body_items b) * 2 / 512 ≤ files_pages (entries m.files)
        kind (data_of bytes) few = omega arith
        kind (items_of is) few = omega (arith, few)

    by : (o : Option File) → find fid_cmp sys_dir (entries m.files) ≡ o → all_words (items_in o) * 2 / 512 ≤ files_pages (entries m.files)
    by None q = omega arith
    by (Some x) q = items x (in_pages sys_dir x (entries m.files) q)

pub few_words : (p : Pack) → length p.sectors ≡ pages_of p.shape → all_words (root_items (mended_pack p)) + 256 * length (lacking (mended_pack p)) < 4294967296
unfolding needs
few_words p sized =
    let words = root_few (mended_pack p) in
    let law = (counting_theorem p).needed_is in
    let need = few_needed p sized in
    let entries_few = few_entries p sized in
    let good = good_few (sights p) in
    let size = length-sights p in
    let most = p.shape.most_pages in
    omega (arith, words, law, need, entries_few, good, size, sized, most)
  where
    one : (s : Sight) → good_one s ≤ 1
    one hidden = omega arith
    one free = omega arith
    one stray = omega arith
    one (leads f readable l) = omega arith
    one (holds f n bytes) = omega arith

    good_few : (ss : List Sight) → good_sectors ss ≤ length ss
    good_few [] = omega arith
    good_few (s ∷ ss) = let rest = good_few ss in let here = one s in omega (arith, rest, here)
