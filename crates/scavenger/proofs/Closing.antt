-- A file in hand, no more rows of which come, is counted.
use Rattle.std.proofs.Common.{◌≡◌, ◌&&◌, ◌||◌, ℕ, suc, ◌+◌, ◌/◌, nat_le, Bool, true, false, cond, not, max, length, Option, Some, None, refl, sym, ap, subst, ◌∙◌, arith}
use Rattle.std.specs.FinMap.{entries, entries_sorted, find, get, get-entries}
use Rattle.std.specs.Option.{is_some, option_map, option_map_or}
use Rattle.alto_words.specs.declared.fid.Fid.{Fid}
use Rattle.alto_words.specs.Fid.{disk_descriptor, fid_cmp, is_directory, is_fid, is_system, serial_of, sys_dir}
use Rattle.disk_records.specs.declared.records.Page.{Page}
use Rattle.disk_records.specs.Packs.{Pack, carried}
use Rattle.scav_names.specs.laws_record.proofs.Reading.{get-found, read_file}
use Rattle.scav_names.specs.laws_room.specs.CountLaws.{count_placed, placed_pages}
use Rattle.scav_names.specs.pack_laws.proofs.Keys.{is_fid-sym, same_fid}
use Rattle.pack_model.specs.hints.Links.{dir_words}
use Rattle.pack_model.specs.reading.Bodies.{File, found, body_of}
use Rattle.pack_model.specs.reading.Files.{file_bytes, leader, lives, place}
use Rattle.pack_model.specs.reading.Leaders.{Leader}
use Rattle.pack_model.specs.reading.Sights.{sights}
use Rattle.pack_model.specs.reading.Slots.{all_words, slots}
use Rattle.pack_model.specs.scavenger.Needed.{file_lacks, files_lack}
use Rattle.pack_model.specs.scavenger.Reports.{greatest_serial}
use Rattle.pack_model.specs.states.InUse.{counts, how_many, is_within, last_page, one_if}
use Rattle.scav_pages.specs.declared.directory.Directory.{Directory}
use Rattle.scav_pages.specs.WalkLaws.{IsKnown}
use Rattle.scav_pages.specs.Walks.{file_in_hand}
use Rattle.scav_pages.proofs.laws.Laws.{left_directory_is_known, left_file_is_known}
use Rattle.scavenger.specs.declared.counts.Counts.{Counts}
use Rattle.scavenger.specs.Counting.{Adds, CountsFiles, CountsTo, IsLeftAt, capped, living, or_in_hand}
use Rattle.scavenger.specs.Descriptors.{old_serial_of}
use Rattle.scavenger.specs.InUse.{is_root, lacking_of, last_in_use, takes_of}
use Rattle.scavenger.proofs.FileNumbers.{PagesMet, file_total}
use Rattle.scavenger.proofs.FileNumbers.PagesMet.{open_ended, closed}
use Rattle.scavenger.proofs.Filtering.{IsAmong, lacks_more, many_more, more, none_more, one_more, placed_more, serial_more}

-- ---- what is known of the file
module _ (p : Pack) (f : Fid) (dir : Directory) (left : IsLeftAt p dir) (hand : file_in_hand dir.walk ≡ Some f) where
  pub known : IsKnown p f dir.walk
  known = left_file_is_known p left.last dir.walk f left.read.walked hand (left.left f hand)

  pub directory_end : lives (sights p) f ≡ true → is_directory f ≡ true → dir.slots.place ≡ all_words (slots (dir_words p f))
  directory_end living isdir = ((left_directory_is_known p left.last dir left.read left.left f hand).1 living isdir).end

  pub pages_met : PagesMet p f dir.walk.pages
  pages_met = by dir.walk.goes_on refl
    where
      by : (t : Bool) → dir.walk.goes_on ≡ t → PagesMet p f dir.walk.pages
      by true e =
          let size = known.size in
          let full = (known.missing e).0 in
          let pages : dir.walk.pages ≡ length (file_bytes (sights p) f) / 512 = omega (arith, size, full) in
          open_ended pages (ap (λ n. place (sights p) f (suc n)) (sym pages) ∙ (known.missing e).1)
      by false e =
          let ends = (left.read.walked.file f hand).ended e in
          let size = ends.size in
          let pages : dir.walk.pages ≡ suc (length (file_bytes (sights p) f) / 512) = ends.pages ∙ ap (λ n. suc (n / 512)) size in
          closed pages (ap (λ n. is_some (place (sights p) f n)) (sym pages) ∙ ends.carried)

-- ---- the numbers, with it
capped_more : (old n k new more : ℕ) → old ≡ capped n → new ≡ capped (old + k) → more ≡ k + n → new ≡ capped more
capped_more old n k new more a b c = omega (arith, a, b, c)

module _ (p : Pack) (met : Fid → Bool) (f : Fid) where
  -- the greatest serial, the old one among them
  last_more : (old g s : ℕ) (new : ℕ) → old ≡ max (cond (met disk_descriptor) (old_serial_of p) 0) g → new ≡ max (max old (cond (is_fid disk_descriptor f) (old_serial_of p) 0)) s → new ≡ max (cond (more met f disk_descriptor) (old_serial_of p) 0) (max s g)
  last_more old g s new a b = by (met disk_descriptor) (is_fid disk_descriptor f) a b
    where
      by : (t u : Bool) → old ≡ max (cond t (old_serial_of p) 0) g → new ≡ max (max old (cond u (old_serial_of p) 0)) s → new ≡ max (cond (t || u) (old_serial_of p) 0) (max s g)
      by true true x y = omega (arith, x, y)
      by true false x y = omega (arith, x, y)
      by false true x y = omega (arith, x, y)
      by false false x y = omega (arith, x, y)

  -- the page in sector 1
  takes_more : (first : Option Page) → ((page : Page) → first ≡ Some page → is_fid page.fid f ≡ true → counts p.shape (sights p) page.fid page.number ≡ (lives (sights p) f && nat_le page.number (last_in_use p f)))
      → lives (sights p) f ≡ true → (option_map_or (λ page. met page.fid && (counts p.shape (sights p) page.fid page.number && not (is_root page))) first false || takes_of first f (last_in_use p f)) ≡ option_map_or (λ page. more met f page.fid && (counts p.shape (sights p) page.fid page.number && not (is_root page))) first false
  takes_more None its living = refl
  takes_more (Some page) its living = by (is_fid page.fid f) refl
    where
      join : (m c : Bool) → ((m && c) || c) ≡ ((m || true) && c)
      join true true = refl
      join true false = refl
      join false true = refl
      join false false = refl

      keep : (m c : Bool) → ((m && c) || false) ≡ ((m || false) && c)
      keep true true = refl
      keep true false = refl
      keep false true = refl
      keep false false = refl

      by : (t : Bool) → is_fid page.fid f ≡ t → ((met page.fid && (counts p.shape (sights p) page.fid page.number && not (is_root page))) || (is_fid page.fid f && (nat_le page.number (last_in_use p f) && not (is_root page)))) ≡ ((met page.fid || is_fid page.fid f) && (counts p.shape (sights p) page.fid page.number && not (is_root page)))
      by true e =
          let same : (nat_le page.number (last_in_use p f) && not (is_root page)) ≡ (counts p.shape (sights p) page.fid page.number && not (is_root page)) = ap (λ b. b && not (is_root page)) (sym (its page refl e ∙ ap (λ b. b && nat_le page.number (last_in_use p f)) living)) in
          ap (λ b. (met page.fid && (counts p.shape (sights p) page.fid page.number && not (is_root page))) || (b && (nat_le page.number (last_in_use p f) && not (is_root page)))) e
          ∙ ap (λ b. (met page.fid && (counts p.shape (sights p) page.fid page.number && not (is_root page))) || b) same
          ∙ join (met page.fid) (counts p.shape (sights p) page.fid page.number && not (is_root page))
          ∙ sym (ap (λ b. (met page.fid || b) && (counts p.shape (sights p) page.fid page.number && not (is_root page))) e)
      by false e =
          ap (λ b. (met page.fid && (counts p.shape (sights p) page.fid page.number && not (is_root page))) || (b && (nat_le page.number (last_in_use p f) && not (is_root page)))) e
          ∙ keep (met page.fid) (counts p.shape (sights p) page.fid page.number && not (is_root page))
          ∙ sym (ap (λ b. (met page.fid || b) && (counts p.shape (sights p) page.fid page.number && not (is_root page))) e)

  takes_same : (first : Option Page) → ((page : Page) → first ≡ Some page → is_fid page.fid f ≡ true → counts p.shape (sights p) page.fid page.number ≡ false)
      → option_map_or (λ page. met page.fid && (counts p.shape (sights p) page.fid page.number && not (is_root page))) first false ≡ option_map_or (λ page. more met f page.fid && (counts p.shape (sights p) page.fid page.number && not (is_root page))) first false
  takes_same None its = refl
  takes_same (Some page) its = by (is_fid page.fid f) refl
    where
      never : (m c : Bool) → c ≡ false → (m && (c && not (is_root page))) ≡ ((m || true) && (c && not (is_root page)))
      never true c e = refl
      never false c e = sym (ap (λ b. b && not (is_root page)) e)

      keep : (m c : Bool) → (m && c) ≡ ((m || false) && c)
      keep true c = refl
      keep false c = refl

      by : (t : Bool) → is_fid page.fid f ≡ t → (met page.fid && (counts p.shape (sights p) page.fid page.number && not (is_root page))) ≡ ((met page.fid || is_fid page.fid f) && (counts p.shape (sights p) page.fid page.number && not (is_root page)))
      by true e = never (met page.fid) (counts p.shape (sights p) page.fid page.number) (its page refl e) ∙ sym (ap (λ b. (met page.fid || b) && (counts p.shape (sights p) page.fid page.number && not (is_root page))) e)
      by false e = keep (met page.fid) (counts p.shape (sights p) page.fid page.number && not (is_root page)) ∙ sym (ap (λ b. (met page.fid || b) && (counts p.shape (sights p) page.fid page.number && not (is_root page))) e)

  -- SysDir
  root_more : (old : Bool) → old ≡ (met sys_dir && lives (sights p) sys_dir) → lives (sights p) f ≡ true → (old || is_fid f sys_dir) ≡ (more met f sys_dir && lives (sights p) sys_dir)
  root_more old is living = ap (λ b. b || is_fid f sys_dir) is ∙ by (is_fid f sys_dir) refl
    where
      by : (t : Bool) → is_fid f sys_dir ≡ t → ((met sys_dir && lives (sights p) sys_dir) || is_fid f sys_dir) ≡ ((met sys_dir || is_fid sys_dir f) && lives (sights p) sys_dir)
      by true e =
          let here : lives (sights p) sys_dir ≡ true = ap (lives (sights p)) (sym (same_fid f sys_dir e)) ∙ living in
          (λ i. (met sys_dir && here i) || e i) ∙ yes (met sys_dir) ∙ sym (λ i. (met sys_dir || (is_fid-sym sys_dir f ∙ e) i) && here i)
        where
          yes : (m : Bool) → ((m && true) || true) ≡ ((m || true) && true)
          yes true = refl
          yes false = refl
      by false e = ap (λ b. (met sys_dir && lives (sights p) sys_dir) || b) e ∙ keep (met sys_dir) (lives (sights p) sys_dir) ∙ sym (ap (λ b. (met sys_dir || b) && lives (sights p) sys_dir) (is_fid-sym sys_dir f ∙ e))
        where
          keep : (m l : Bool) → ((m && l) || false) ≡ ((m || false) && l)
          keep true true = refl
          keep true false = refl
          keep false l = refl

  root_same : lives (sights p) f ≡ false → (met sys_dir && lives (sights p) sys_dir) ≡ (more met f sys_dir && lives (sights p) sys_dir)
  root_same dead = by (is_fid sys_dir f) refl
    where
      keep : (m l : Bool) → (m && l) ≡ ((m || false) && l)
      keep true l = refl
      keep false l = refl

      none : (m l : Bool) → l ≡ false → (m && l) ≡ ((m || true) && l)
      none true l e = refl
      none false l e = sym e

      by : (t : Bool) → is_fid sys_dir f ≡ t → (met sys_dir && lives (sights p) sys_dir) ≡ ((met sys_dir || is_fid sys_dir f) && lives (sights p) sys_dir)
      by true e = none (met sys_dir) (lives (sights p) sys_dir) (ap (lives (sights p)) (same_fid sys_dir f e) ∙ dead) ∙ sym (ap (λ b. (met sys_dir || b) && lives (sights p) sys_dir) e)
      by false e = keep (met sys_dir) (lives (sights p) sys_dir) ∙ sym (ap (λ b. (met sys_dir || b) && lives (sights p) sys_dir) e)

  -- ---- a file that lives, and one that doesn't
  file_in : Leader → File
  file_in = read_file f (file_bytes (sights p) f)

  pub counts_page : (page : Page) → is_fid page.fid f ≡ true → counts p.shape (sights p) page.fid page.number ≡ (lives (sights p) f && nat_le page.number (last_in_use p f))
  counts_page page same = ap (λ g. counts p.shape (sights p) g page.number) (same_fid page.fid f same) ∙ by (leader (sights p) f) (get-found (sights p) f) refl
    where
      by : (o : Option Leader) → get (found (sights p)) f ≡ option_map (read_file f (file_bytes (sights p) f)) o → leader (sights p) f ≡ o → is_within p.shape f page.number (get (found (sights p)) f) ≡ (is_some (leader (sights p) f) && nat_le page.number (last_in_use p f))
      by None q e = ap (is_within p.shape f page.number) q ∙ sym (ap (λ o. is_some o && nat_le page.number (last_in_use p f)) e)
      by (Some l) q e = ap (is_within p.shape f page.number) q ∙ sym (ap (λ o. is_some o && nat_le page.number (last_in_use p f)) e)

  -- the file among those that are found
  found_here : lives (sights p) f ≡ true → (x : File) × (find fid_cmp f (entries (found (sights p))) ≡ Some x) × (x.body ≡ body_of f (file_bytes (sights p) f))
  found_here living = by (leader (sights p) f) (sym (get-entries (found (sights p)) f) ∙ get-found (sights p) f) living
    where
      by : (o : Option Leader) → find fid_cmp f (entries (found (sights p))) ≡ option_map (read_file f (file_bytes (sights p) f)) o → is_some o ≡ true → (x : File) × (find fid_cmp f (entries (found (sights p))) ≡ Some x) × (x.body ≡ body_of f (file_bytes (sights p) f))
      by None q e = absurd cc
      by (Some l) q e = (read_file f (file_bytes (sights p) f) l, q, refl)

  found_none : lives (sights p) f ≡ false → find fid_cmp f (entries (found (sights p))) ≡ None
  found_none dead = by (leader (sights p) f) (sym (get-entries (found (sights p)) f) ∙ get-found (sights p) f) dead
    where
      by : (o : Option Leader) → find fid_cmp f (entries (found (sights p))) ≡ option_map (read_file f (file_bytes (sights p) f)) o → is_some o ≡ false → find fid_cmp f (entries (found (sights p))) ≡ None
      by None q e = q
      by (Some l) q e = absurd cc

-- the old last serial comes with DiskDescriptor, whether it lives or not
pub record SaysOld (p : Pack) (f : Fid) (old new : Counts) : Type 0 where
  pub in_use_is : new.in_use ≡ old.in_use
  pub needed_is : new.needed ≡ old.needed
  pub files : new.files ≡ old.files
  pub last_is : new.last ≡ max old.last (cond (is_fid disk_descriptor f) (old_serial_of p) 0)
  pub taken : new.taken ≡ old.taken
  pub root : new.root ≡ old.root

pub counts_dead : (p : Pack) (met : Fid → Bool) (f : Fid) (old new : Counts) → lives (sights p) f ≡ false → SaysOld p f old new → CountsTo p met old → CountsTo p (more met f) new
counts_dead p met f old new dead says c = record {
  in_use_is = says.in_use_is ∙ c.in_use_is ∙ ap (λ es. capped (count_placed p.shape (sights p) es)) (sym same);
  needed_is = says.needed_is ∙ c.needed_is ∙ ap (λ es. capped (files_lack p.shape (sights p) es)) (sym same);
  files = says.files ∙ c.files ∙ ap (λ es. capped (how_many (λ e. not (is_system e.0)) es)) (sym same);
  last = last_more p met f old.last (greatest_serial (living p met)) 0 new.last c.last (let is = says.last_is in omega (arith, is)) ∙ ap (max (cond (more met f disk_descriptor) (old_serial_of p) 0)) (least (greatest_serial (living p met)) ∙ ap greatest_serial (sym same));
  taken = says.taken ∙ c.taken ∙ takes_same p met f (carried p 1) (λ page is own. counts_page p met f page own ∙ ap (λ b. b && nat_le page.number (last_in_use p f)) dead);
  root = says.root ∙ c.root ∙ root_same p met f dead;
}
  where
    least : (n : ℕ) → max 0 n ≡ n
    least n = omega arith

    same : living p (more met f) ≡ living p met
    same = none_more met f (entries (found (sights p))) (found_none p met f dead)

pub counts_living : (p : Pack) (met : Fid → Bool) (f : Fid) (old mid new : Counts) (first : Option Page) (last lacks : ℕ) → lives (sights p) f ≡ true → met f ≡ false → first ≡ carried p 1 → last ≡ last_in_use p f → lacks ≡ lacking_of p f
    → SaysOld p f old mid → Adds first f last lacks mid new → CountsTo p met old → CountsTo p (more met f) new
counts_living p met f old mid new first last lacks living_is unmet first_is last_is lacks_is says adds c = record {
  in_use_is = capped_more old.in_use (count_placed p.shape (sights p) (living p met)) (placed_pages (sights p) f (last_in_use p f)) new.in_use (count_placed p.shape (sights p) (living p (more met f))) c.in_use_is
      (let is = adds.in_use_is in let same = says.in_use_is in let total = file_total p f living_is in omega (arith, is, same, total, last_is, lacks_is)) placed;
  needed_is = capped_more old.needed (files_lack p.shape (sights p) (living p met)) (lacking_of p f) new.needed (files_lack p.shape (sights p) (living p (more met f))) c.needed_is
      (let is = adds.needed_is in let same = says.needed_is in omega (arith, is, same, lacks_is)) lacking;
  files = capped_more old.files (how_many (λ e. not (is_system e.0)) (living p met)) (one_if (not (is_system f))) new.files (how_many (λ e. not (is_system e.0)) (living p (more met f))) c.files
      (let is = adds.files in let same = says.files in omega (arith, is, same)) many;
  last = last_more p met f old.last (greatest_serial (living p met)) (serial_of f) new.last c.last (let is = adds.last_is in let mid_is = says.last_is in omega (arith, is, mid_is)) ∙ ap (max (cond (more met f disk_descriptor) (old_serial_of p) 0)) (sym serial);
  taken = adds.taken ∙ (λ i. (says.taken ∙ c.taken) i || takes_of (first_is i) f (last_is i)) ∙ takes_more p met f (carried p 1) (λ page is own. counts_page p met f page own) living_is;
  root = adds.root ∙ root_more p met f mid.root (says.root ∙ c.root) living_is;
}
  where
    here : (x : File) × (find fid_cmp f (entries (found (sights p))) ≡ Some x) × (x.body ≡ body_of f (file_bytes (sights p) f))
    here = found_here p met f living_is

    among : IsAmong met f here.0 (entries (found (sights p)))
    among = one_more met f here.0 (entries (found (sights p))) (entries_sorted (found (sights p))) unmet here.1

    placed : count_placed p.shape (sights p) (living p (more met f)) ≡ placed_pages (sights p) f (last_in_use p f) + count_placed p.shape (sights p) (living p met)
    placed =
        ap (count_placed p.shape (sights p)) among.new_is
        ∙ placed_more p.shape (sights p) f here.0 among.front among.back
        ∙ (λ i. placed_pages (sights p) f (last_page p.shape f (here.2 i)) + count_placed p.shape (sights p) (sym among.old_is i))

    lacking : files_lack p.shape (sights p) (living p (more met f)) ≡ lacking_of p f + files_lack p.shape (sights p) (living p met)
    lacking =
        ap (files_lack p.shape (sights p)) among.new_is
        ∙ lacks_more p.shape (sights p) f here.0 among.front among.back
        ∙ (λ i. file_lacks p.shape (sights p) f (here.2 i) + files_lack p.shape (sights p) (sym among.old_is i))

    many : how_many (λ e. not (is_system e.0)) (living p (more met f)) ≡ one_if (not (is_system f)) + how_many (λ e. not (is_system e.0)) (living p met)
    many =
        ap (how_many (λ e. not (is_system e.0))) among.new_is
        ∙ many_more p.shape (sights p) f here.0 (λ e. not (is_system e.0)) among.front among.back
        ∙ ap (λ es. one_if (not (is_system f)) + how_many (λ e. not (is_system e.0)) es) (sym among.old_is)

    serial : greatest_serial (living p (more met f)) ≡ max (serial_of f) (greatest_serial (living p met))
    serial =
        ap greatest_serial among.new_is
        ∙ serial_more p.shape (sights p) f here.0 among.front among.back
        ∙ ap (λ es. max (serial_of f) (greatest_serial es)) (sym among.old_is)

-- ---- the call
pub closes : (p : Pack) (dir : Directory) (f : Fid) (old new : Counts) → file_in_hand dir.walk ≡ Some f → ((met : Fid → Bool) → met f ≡ false → CountsTo p met old → CountsTo p (more met f) new) → CountsFiles p dir old new
closes p dir f old new hand h = λ met unmet c. subst (λ o. CountsTo p (or_in_hand met o) new) (sym hand) (h met (unmet f hand) c)

pub closes_none : (p : Pack) (dir : Directory) (old : Counts) → file_in_hand dir.walk ≡ None → CountsFiles p dir old old
closes_none p dir old none = λ met unmet c. subst (λ o. CountsTo p (or_in_hand met o) old) (sym none) c

-- ---- the old last serial
pub says_old : (p : Pack) (f : Fid) (old : Counts) (last serial : ℕ) → is_fid f disk_descriptor ≡ true → serial ≡ old_serial_of p → last ≡ max old.last serial → SaysOld p f old (record old { last = last })
says_old p f old last serial is said greatest = record {
  in_use_is = refl;
  needed_is = refl;
  files = refl;
  last_is = greatest ∙ ap (max old.last) (said ∙ sym (ap (λ b. cond b (old_serial_of p) 0) (is_fid-sym disk_descriptor f ∙ is)));
  taken = refl;
  root = refl;
}

pub says_none : (p : Pack) (f : Fid) (old : Counts) → is_fid f disk_descriptor ≡ false → SaysOld p f old old
says_none p f old other = record {
  in_use_is = refl;
  needed_is = refl;
  files = refl;
  last_is = let none : cond (is_fid disk_descriptor f) (old_serial_of p) 0 ≡ 0 = ap (λ b. cond b (old_serial_of p) 0) (is_fid-sym disk_descriptor f ∙ other) in omega (arith, none);
  taken = refl;
  root = refl;
}
