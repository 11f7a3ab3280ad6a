-- The last page of the file in hand is claimed, if it is missing.
use Rattle.std.proofs.Common.{◌≡◌, inr, ℕ, suc, ◌+◌, ◌/◌, ◌<◌, ◌==◌, ◌&&◌, Bool, true, false, cond, length, replicate, Some, None, refl, sym, ap, subst, ◌∙◌, arith}
use Rattle.std.proofs.lemmas.Bool.Decides.{nat_tests}
use Rattle.std.proofs.lemmas.Option.{cond_some}
use Rattle.alto_words.specs.declared.fid.Fid.{Fid}
use Rattle.alto_words.specs.Fid.{is_fid, is_full_name, disk_descriptor}
use Rattle.disk_records.specs.declared.records.Page.{Page}
use Rattle.disk_records.specs.Labels.{Tag, in_range, page_of, tag}
use Rattle.disk_records.specs.Packs.{Pack, carried, is_free_at, sector_at}
use Rattle.pack_model.specs.reading.Files.{file_bytes, lives, place}
use Rattle.pack_model.specs.reading.Sights.{sights}
use Rattle.pack_model.specs.states.Sentences.{HasLastPage}
use Rattle.laws_mend.specs.pack_laws.proofs.Guarding.{carried_parts, free_parts, free_unnamed}
use Rattle.laws_mend.specs.pack_laws.proofs.Keys.{same_fid}
use Rattle.laws_mend.specs.laws_contents.proofs.ends.Laws.{each_file_has_its_end}
use Rattle.laws_mend.specs.PartLaws as part_laws
use Rattle.laws_mend.proofs.counting.Laws.{full_pages_are_few}
use Rattle.laws_mend.proofs.numbers.Laws.{lacking_page_is_free}
use Rattle.laws_mend.proofs.parts.Laws.{last_claim_leaves}
use Rattle.scav_table.specs.Laws.{WritesAt}
use Rattle.scav_pages.specs.declared.files.FileWalk.{FileWalk}
use Rattle.scav_pages.specs.Ends.{HasEnd, MayClaim, MayClaimLast}
use Rattle.scav_pages.specs.Ends.IsWanted.{ends}
use Rattle.scav_pages.specs.Parts.{ClaimsHand, LastClaimed, PageClaimed, PageWritten}
use Rattle.scav_pages.specs.Walks.{file_in_hand}
use Rattle.scav_pages.proofs.Claiming.{carried_not_free, claim_takes, not_root, root_carried}
use Rattle.scav_pages.proofs.Passing.{claim_at}
use Rattle.scav_pages.proofs.Ranking.{living_row}
use Rattle.scav_pages.proofs.Rooting.{root_page}

-- ---- names of files
full_in_range : (t : Tag) → in_range t ≡ true → is_full_name t.fid ≡ true
unfolding in_range
full_in_range t h = grind (arith, nat_tests)

pub carried_name : (p : Pack) (at : ℕ) (page : Page) → carried p at ≡ Some page → is_full_name page.fid ≡ true
carried_name p at page e =
    let parts = cond_some (in_range (tag (sector_at p at).label)) _ page (carried_parts p at page e).1 in
    ap (λ (x : Page). is_full_name x.fid) (sym parts.1) ∙ full_in_range (tag (sector_at p at).label) parts.0

living_name : (p : Pack) (f : Fid) → lives (sights p) f ≡ true → is_full_name f ≡ true
living_name p f alive = let h = living_row p f alive in carried_name p h.0 (record { fid = f; number = 0 }) h.1.carries

-- DiskDescriptor's words
pub other_by_words : (f : Fid) → (f.high == 0 && (f.low == 2 && f.version == 1)) ≡ false → is_fid f disk_descriptor ≡ false
other_by_words f words = by (is_fid f disk_descriptor) refl
  where
    by : (t : Bool) → is_fid f disk_descriptor ≡ t → t ≡ false
    by true e = (let no : true ≡ false = subst (λ (x : Fid). (x.high == 0 && (x.low == 2 && x.version == 1)) ≡ false) (same_fid f disk_descriptor e) words in no)
    by false e = refl

-- ---- nothing is missing
pub last_is_there : (p : Pack) (walk : FileWalk) (from : ℕ) → MayClaimLast p walk from → ((f : Fid) → file_in_hand walk ≡ Some f → is_fid f disk_descriptor ≡ false → HasLastPage (sights p) f) → LastClaimed walk from p p tt
last_is_there p walk from may there = record {
  rooted = may.rooted;
  last_page = there;
  lives_are = λ f. refl;
  bytes_are = λ f. refl;
  kept = λ f n at e. e;
  others = λ f n other. refl;
  none_below = may.none_below;
}

-- ---- it is missing
abbrev pub last_page_of : FileWalk → Fid → Page
last_page_of walk f = record { fid = f; number = walk.pages + 1 }

module _ (p : Pack) (walk : FileWalk) (from : ℕ) (may : MayClaimLast p walk from) (f : Fid) (hand : file_in_hand walk ≡ Some f) (apart : is_fid f disk_descriptor ≡ false) (on : walk.goes_on ≡ true) where
  its_end : HasEnd p f walk
  its_end = may.hand f hand apart

  full_pages : length (file_bytes (sights p) f) / 512 ≡ walk.pages
  full_pages = let size = (its_end.missing on).0 in omega (arith, size)

  pub few_pages : walk.pages + 1 < 65536
  few_pages =
      let few = full_pages_are_few p f (length (file_bytes (sights p) f) / 512) (each_file_has_its_end p f).before in
      let same = full_pages in
      let most = p.shape.most_pages in
      omega (arith, few, same, most)

  number_is : walk.pages + 1 ≡ suc (length (file_bytes (sights p) f) / 512)
  number_is = let same = full_pages in omega (arith, same)

  lacks_last : place (sights p) f (walk.pages + 1) ≡ None
  lacks_last = let one : walk.pages + 1 ≡ suc walk.pages = omega arith in ap (place (sights p) f) one ∙ (its_end.missing on).1

  root_kept : is_free_at p 1 ≡ false
  root_kept = carried_not_free p 1 (root_page 0) (root_carried p may.rooted.root.0 may.rooted.root.1 may.rooted.root.2)

  pub may_claim_last_page : MayClaim p (last_page_of walk f) 0 from
  may_claim_last_page =
      let free = lacking_page_is_free p f may.scavengeable may.rooted its_end.living apart (ap (place (sights p) f) (sym number_is) ∙ lacks_last) in
      record {
        some = (free.0, free.2);
        none_below = may.none_below;
        root = root_kept;
        named = living_name p f its_end.living;
        number = few_pages;
        lacks = lacks_last;
        wanted = ends refl apart number_is;
      }

  module _ (q : Pack) (at next : ℕ) (claimed : PageClaimed (last_page_of walk f) 0 next p q at) where
    left_last : part_laws.LastClaimed p q at (last_page_of walk f)
    left_last =
        let w = claimed.wrote in
        subst (λ x. part_laws.LastClaimed p x at (last_page_of walk f)) (sym w.left)
        (last_claim_leaves p at (last_page_of walk f) w.label (replicate 256 0) w.was_free (not_root p at root_kept w.was_free) w.names apart w.count number_is lacks_last)

    kept_last : (g : Fid) (n i : ℕ) → place (sights p) g n ≡ Some i → place (sights q) g n ≡ Some i
    kept_last g n i e = left_last.others g n (λ same m. (let no : None ≡ Some i = sym lacks_last ∙ (λ j. place (sights p) (sym same j) (sym m j)) ∙ e in cc)) ∙ e

    others_last : (g : Fid) (n : ℕ) → (file_in_hand walk ≡ Some g → is_fid g disk_descriptor ≡ true) → place (sights q) g n ≡ place (sights p) g n
    others_last g n other = left_last.others g n (λ same m. (let is : is_fid f disk_descriptor ≡ true = subst (λ x. is_fid x disk_descriptor ≡ true) same (other (hand ∙ ap (λ x. Some x) (sym same))) in let no : true ≡ false = sym is ∙ apart in cc))

    pub last_was_claimed : LastClaimed walk next p q tt
    last_was_claimed = record {
      rooted = left_last.rooted its_end.living may.rooted;
      last_page = λ g here other. (let same : f ≡ g = (let both : Some f ≡ Some g = sym hand ∙ here in cc) in subst (HasLastPage (sights q)) same left_last.last_page);
      lives_are = left_last.lives_are;
      bytes_are = left_last.bytes_are;
      kept = kept_last;
      others = others_last;
      none_below = claimed.none_below;
    }

-- ---- what was written
free_carries_none : (p : Pack) (at : ℕ) → is_free_at p at ≡ true → carried p at ≡ None
free_carries_none p at e =
    let parts = free_parts p at e in
    ap (λ b. cond b (page_of (sector_at p at).label) None) parts.0 ∙ free_unnamed (sector_at p at).label parts.1

pub claims_for_hand : (p q : Pack) (walk : FileWalk) (page : Page) (at : ℕ) → file_in_hand walk ≡ Some page.fid → PageWritten page 0 p q at → ClaimsHand walk p q
claims_for_hand p q walk page at hand w = inr (
  at,
  record {
    written = subst (WritesAt at p) (sym w.left) (claim_at p at w.label (replicate 256 0));
    nothing = free_carries_none p at w.was_free;
    page = page;
    carries = (claim_takes p q page at w.label (replicate 256 0) w.was_free w.names w.left).page_here;
    hand = hand;
  },
)
