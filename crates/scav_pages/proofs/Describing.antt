-- DiskDescriptor's pages are made, one after another.
use Rattle.std.proofs.Common.{◌≡◌, ◌≢◌, ℕ, suc, ◌+◌, ◌-◌, ◌*◌, ◌/◌, ◌<◌, ◌≤◌, ◌==◌, ◌&&◌, nat_lt, min, Bool, true, false, List, get_or, length, replicate, set, Option, Some, None, refl, sym, ap, subst, ◌∙◌, arith}
use Rattle.std.specs.Option.{is_some, option_map_or}
use Rattle.std.proofs.lemmas.Bool.Decides.{nat_tests}
use Rattle.std.proofs.lemmas.List.{get_or-set_other, get_or-set_same}
use Rattle.alto_words.specs.declared.fid.Fid.{Fid}
use Rattle.alto_words.specs.Fid.{is_fid, disk_descriptor}
use Rattle.disk_records.specs.declared.records.Page.{Page}
use Rattle.disk_records.specs.declared.shape.Shape.{Shape}
use Rattle.disk_records.specs.Addresses.{descriptor_length, is_right_header}
use Rattle.disk_records.specs.Commands.{claim_writes, relabel_writes}
use Rattle.disk_records.specs.Labels.{page_of, tag}
use Rattle.disk_records.specs.Packs.{AreFormed, Pack, after, carried, is_free_at, sector_at}
use Rattle.disk_records.specs.Words.{word}
use Rattle.leader_page.specs.Pages.{Says}
use Rattle.pack_model.specs.reading.Files.{file_bytes, lives, place}
use Rattle.pack_model.specs.reading.Sights.{sights}
use Rattle.pack_model.specs.scavenger.Scavenging.{Scavengeable}
use Rattle.pack_model.specs.sessions.Descriptor.{data_pages}
use Rattle.pack_model.specs.states.Sentences.{HasLastPage}
use Rattle.laws_mend.specs.pack_laws.specs.GuardLaws.{ComesToHold}
use Rattle.laws_mend.specs.pack_laws.proofs.files.Laws.{places_are_lowest}
use Rattle.laws_mend.specs.pack_laws.proofs.guards.Laws.{relabel_keeps_the_page}
use Rattle.laws_mend.specs.pack_laws.proofs.Guarding.{carried_parts}
use Rattle.laws_mend.specs.pack_laws.proofs.Keys.{is_fid-itself}
use Rattle.laws_mend.specs.laws_record.proofs.Copying.{place_carried}
use Rattle.laws_mend.specs.laws_record.proofs.DirReads.{not_descriptor}
use Rattle.laws_mend.specs.laws_contents.specs.PageLaws.{bytes_at}
use Rattle.laws_mend.specs.laws_contents.proofs.pages.Laws.{formed_pages_have_256_words, labels_count}
use Rattle.laws_mend.specs.laws_operation.proofs.places.Laws.{file_lives_in_a_place}
use Rattle.laws_mend.specs.PartLaws.{DescriptorPageWritten, IsDescribed, IsDescribedWhole}
use Rattle.laws_mend.specs.Parts.{Lasting}
use Rattle.laws_mend.proofs.numbers.Laws.{lacking_descriptor_page_is_free}
use Rattle.laws_mend.proofs.parts.Laws.{described_is_lasting, descriptor_claim_leaves, descriptor_count_leaves, descriptor_leader_makes_lasting}
use Rattle.laws_mend.proofs.runs.Laws.{descriptor_count_tends, descriptor_leader_tends}
use Rattle.scav_pages.specs.Ends.{ArePlaces, MayClaim, MayDescribePage}
use Rattle.scav_pages.specs.Ends.IsWanted.{describes}
use Rattle.scav_pages.specs.Free.{NoneFreeBelow, NoneFreeFrom}
use Rattle.scav_pages.specs.Fresh.{fresh_leader}
use Rattle.scav_pages.specs.Parts.{PageClaimed}
use Rattle.scav_pages.proofs.Changing.{claim_changes, relabel_changes}
use Rattle.scav_pages.proofs.Claiming.{carried_not_free, claim_takes, not_root, root_carried}
use Rattle.scav_pages.proofs.Keeping.{Mends, keeps_bytes, leader_keeps}
use Rattle.scav_pages.proofs.Leading.{leaders_beside, leads_new, other_number}
use Rattle.scav_pages.proofs.Rooting.{root_page}

-- ---- pages and their places
pub few_data_pages : (shape : Shape) → data_pages shape ≤ 5
few_data_pages shape = let most = shape.most_pages in omega (arith, most)

abbrev pub its_page : ℕ → Page
its_page n = record { fid = disk_descriptor; number = n }

pub placed_first : (p : Pack) (f : Fid) (n at : ℕ) → place (sights p) f n ≡ Some at → 1 ≤ at
placed_first p f n at e = by (nat_lt 0 at) refl (carried_parts p at (record { fid = f; number = n }) (place_carried p (record { fid = f; number = n }) at e)).0
  where
    by : (t : Bool) → nat_lt 0 at ≡ t → (t && is_right_header p.shape at (sector_at p at).header) ≡ true → 1 ≤ at
    by true e h = grind (arith, nat_tests, e)
    by false e h = cc

pub no_place_at : (p : Pack) (places : List ℕ) (n : ℕ) → ArePlaces p places → n < 6 → get_or places n 0 ≡ 0 → place (sights p) disk_descriptor n ≡ None
no_place_at p places n are few none = by (place (sights p) disk_descriptor n) refl
  where
    by : (o : Option ℕ) → place (sights p) disk_descriptor n ≡ o → o ≡ None
    by None e = refl
    by (Some at) e =
        let first : 1 ≤ at = placed_first p disk_descriptor n at e in
        let here : at ≡ 0 = sym (are n few ∙ ap (λ o. option_map_or (λ i. i) o 0) e) ∙ none in
        absurd (omega (arith, first, here))

pub some_place_at : (p : Pack) (places : List ℕ) (n : ℕ) → ArePlaces p places → n < 6 → get_or places n 0 ≢ 0 → place (sights p) disk_descriptor n ≡ Some (get_or places n 0)
some_place_at p places n are few some = by (place (sights p) disk_descriptor n) refl
  where
    by : (o : Option ℕ) → place (sights p) disk_descriptor n ≡ o → o ≡ Some (get_or places n 0)
    by None e = absurd (some (are n few ∙ ap (λ o. option_map_or (λ i. i) o 0) e))
    by (Some at) e = ap Some (sym (are n few ∙ ap (λ o. option_map_or (λ i. i) o 0) e))

-- the other files aren't DiskDescriptor
other_file : (f : Fid) → is_fid f disk_descriptor ≡ false → f ≢ disk_descriptor
other_file f apart same = (let no : true ≡ false = sym (is_fid-itself disk_descriptor) ∙ ap (λ g. is_fid g disk_descriptor) (sym same) ∙ apart in cc)

-- ---- a data page
-- the bytes of a page that was written, by its label
counted_by_label : (q : Pack) (n at bytes : ℕ) (label : List ℕ) → AreFormed q → place (sights q) disk_descriptor (suc n) ≡ Some at → (sector_at q at).label ≡ label → (tag label).bytes ≡ bytes → length (bytes_at q at) ≡ bytes
counted_by_label q n at bytes label formed here is count =
    (labels_count q disk_descriptor n at here).says (formed_pages_have_256_words q at (its_page (suc n)) formed (place_carried q (its_page (suc n)) at here)) ∙ ap (λ l. word l 3) is ∙ count

module _ (p : Pack) (number from : ℕ) (places : List ℕ) (may : MayDescribePage p number places from) (some : 1 ≤ number) (few : number ≤ data_pages p.shape) where
  small : number < 6
  small = let most = few_data_pages p.shape in omega (arith, most, few)

  pred_number : number ≡ suc (number - 1)
  pred_number = omega (arith, some)

  pub root_not_free : is_free_at p 1 ≡ false
  root_not_free = carried_not_free p 1 (root_page 0) (root_carried p may.rooted.root.0 may.rooted.root.1 may.rooted.root.2)

  -- where no sector is noted
  pub lacks_page : get_or places number 0 ≡ 0 → place (sights p) disk_descriptor number ≡ None
  lacks_page none = no_place_at p places number may.places_are small none

  pub may_claim_data : (bytes : ℕ) → get_or places number 0 ≡ 0 → MayClaim p (its_page number) bytes from
  may_claim_data bytes none =
      let free = lacking_descriptor_page_is_free p number may.scavengeable may.rooted few (lacks_page none) in
      let small_number = small in
      record {
        some = (free.0, free.2);
        none_below = may.none_below;
        root = root_not_free;
        named = refl;
        number = omega (arith, small_number);
        lacks = lacks_page none;
        wanted = describes (number - 1) (ap its_page pred_number);
      }

  -- where one is
  pub has_page : (at : ℕ) → get_or places number 0 ≡ at → at ≢ 0 → place (sights p) disk_descriptor number ≡ Some at
  has_page at noted here = some_place_at p places number may.places_are small (λ none. here (sym noted ∙ none)) ∙ ap Some noted

  pub carries_page_there : (at : ℕ) → get_or places number 0 ≡ at → at ≢ 0 → carried p at ≡ Some (its_page number)
  carries_page_there at noted here = place_carried p (its_page number) at (has_page at noted here)

  its_place_before : (at : ℕ) → get_or places number 0 ≡ at → at ≢ 0 → place (sights p) disk_descriptor (suc (number - 1)) ≡ Some at
  its_place_before at noted here = ap (place (sights p) disk_descriptor) (sym pred_number) ∙ has_page at noted here

  -- Data pages up to this one are as they have to be, once it is written.
  module _ (q : Pack) (at next : ℕ) (later : List ℕ) (written : DescriptorPageWritten p q at (number - 1)) (shape_is : q.shape ≡ p.shape) (can : Scavengeable q) (below : NoneFreeBelow q next)
      (others : (n : ℕ) → n < 6 → n ≢ number → get_or later n 0 ≡ get_or places n 0) (here : get_or later number 0 ≡ at)
      (counts : length (bytes_at q at) ≡ min 512 (descriptor_length p.shape - 512 * (number - 1))) where
    its_place : place (sights q) disk_descriptor number ≡ Some at
    its_place = ap (place (sights q) disk_descriptor) pred_number ∙ written.here

    places_now : (n : ℕ) → n < 6 → (t : Bool) → (n == number) ≡ t → get_or later n 0 ≡ option_map_or (λ i. i) (place (sights q) disk_descriptor n) 0
    places_now n low true e =
        let same : n ≡ number = grind (arith, nat_tests, e) in
        subst (λ k. get_or later k 0 ≡ option_map_or (λ i. i) (place (sights q) disk_descriptor k) 0) (sym same) (here ∙ ap (λ o. option_map_or (λ i. i) o 0) (sym its_place))
    places_now n low false e =
        let apart : n ≢ number = λ same. (let no = subst (λ k. (k == number) ≡ false) same e in grind (arith, nat_tests, no)) in
        let next_one : number ≡ suc (number - 1) = pred_number in
        others n low apart ∙ may.places_are n low ∙ ap (λ o. option_map_or (λ i. i) o 0) (sym (written.others disk_descriptor n (λ f m. apart (m ∙ sym next_one))))

    described_now : (n : ℕ) → suc n < suc number → (t : Bool) → (n == number - 1) ≡ t → IsDescribed q n
    described_now n low true e =
        let same : n ≡ number - 1 = grind (arith, nat_tests, e) in
        subst (IsDescribed q) (sym same) (written.described_here counts)
    described_now n low false e =
        let apart : n ≢ number - 1 = λ same. (let no = subst (λ k. (k == number - 1) ≡ false) same e in grind (arith, nat_tests, no)) in
        written.described n apart (may.described n (omega (arith, low, apart, some)))

    last_now : (f : Fid) → lives (sights q) f ≡ true → is_fid f disk_descriptor ≡ false → HasLastPage (sights q) f
    last_now f alive apart =
        let bytes = written.bytes_are f apart in
        let k = suc (length (file_bytes (sights p) f) / 512) in
        ap (λ b. is_some (place (sights q) f (suc (length b / 512)))) bytes ∙ ap is_some (written.others f k (λ same m. other_file f apart same)) ∙ may.last_pages f (sym (written.lives_are f) ∙ alive) apart

    pub page_described : MayDescribePage q (suc number) later next
    page_described = record {
      scavengeable = can;
      rooted = written.rooted may.rooted;
      places_are = λ n low. places_now n low (n == number) refl;
      described = λ n low. described_now n low (n == number - 1) refl;
      last_pages = last_now;
      none_below = below;
    }

  -- it was claimed
  pub claim_described : (q : Pack) (at next bytes : ℕ) → PageClaimed (its_page number) bytes next p q at → AreFormed q → Scavengeable q → bytes ≡ min 512 (descriptor_length p.shape - 512 * (number - 1)) → get_or places number 0 ≡ 0 → number < length places → MayDescribePage q (suc number) (set places number at) next
  claim_described q at next bytes claimed formed can size none long =
      let w = claimed.wrote in
      let named : page_of w.label ≡ Some (its_page (suc (number - 1))) = w.names ∙ ap (λ n. Some (its_page n)) pred_number in
      let lacks : place (sights p) disk_descriptor (suc (number - 1)) ≡ None = ap (place (sights p) disk_descriptor) (sym pred_number) ∙ lacks_page none in
      let written : DescriptorPageWritten p q at (number - 1) = subst (λ x. DescriptorPageWritten p x at (number - 1)) (sym w.left)
      (descriptor_claim_leaves p at (number - 1) w.label (replicate 256 0) w.was_free (not_root p at root_not_free w.was_free) named (omega (arith, few, some)) lacks) in
      let taken : ComesToHold at (its_page number) w.label (replicate 256 0) p q = claim_takes p q (its_page number) at w.label (replicate 256 0) w.was_free w.names w.left in
      page_described q at next (set places number at) written (ap (λ x. x.shape) w.left) can claimed.none_below
      (λ n low apart. get_or-set_other places number n at 0 apart) (get_or-set_same places number at 0 long)
      (counted_by_label q (number - 1) at bytes w.label formed written.here (ap (λ s. s.label) taken.here) w.count ∙ size)

  -- it got another count
  module _ (at : ℕ) (noted : get_or places number 0 ≡ at) (here : at ≢ 0) where
    carries : carried p at ≡ Some (its_page (suc (number - 1)))
    carries = carries_page_there at noted here ∙ ap (λ n. Some (its_page n)) pred_number

    pub count_mends : (label : List ℕ) → page_of label ≡ Some (its_page number) → label ≢ (sector_at p at).label → Mends p (relabel_writes at label (sector_at p at).value)
    count_mends label names other = record {
      each = record {
        tends = descriptor_count_tends p at (number - 1) label carries (names ∙ ap (λ n. Some (its_page n)) pred_number);
        changes = relabel_changes p at label (sector_at p at).value other;
      };
      keeps = (let written = descriptor_count_leaves p at (number - 1) label (its_place_before at noted here) (names ∙ ap (λ n. Some (its_page n)) pred_number) in keeps_bytes written.lives_are (leaders_beside (relabel_keeps_the_page p at (its_page (suc (number - 1))) label 2 carries (names ∙ ap (λ n. Some (its_page n)) pred_number) (omega arith)) written.lives_are (λ f e. other_number disk_descriptor f (number - 1) (sym carries ∙ e)) (λ f. other_number disk_descriptor f (number - 1))) (λ d live dir. written.bytes_are d (not_descriptor d dir)));
    }

    none_free : (q : Pack) (label : List ℕ) (k : ℕ) → ComesToHold at (its_page (suc (number - 1))) label (sector_at p at).value p q → k < from → (t : Bool) → (k == at) ≡ t → is_free_at q k ≡ false
    none_free q label k keeps low true e = let same : k ≡ at = grind (arith, nat_tests, e) in ap (is_free_at q) same ∙ keeps.free_here
    none_free q label k keeps low false e =
        let other : k ≢ at = λ same. (let no = subst (λ i. (i == at) ≡ false) same e in grind (arith, nat_tests, no)) in
        keeps.frees k other ∙ may.none_below k low

    pub count_described : (q : Pack) (bytes : ℕ) (label : List ℕ) → page_of label ≡ Some (its_page number) → (tag label).bytes ≡ bytes → q ≡ after p (relabel_writes at label (sector_at p at).value)
        → AreFormed q → Scavengeable q → bytes ≡ min 512 (descriptor_length p.shape - 512 * (number - 1)) → MayDescribePage q (suc number) places from
    count_described q bytes label names count left formed can size =
        let named : page_of label ≡ Some (its_page (suc (number - 1))) = names ∙ ap (λ n. Some (its_page n)) pred_number in
        let written : DescriptorPageWritten p q at (number - 1) = subst (λ x. DescriptorPageWritten p x at (number - 1)) (sym left) (descriptor_count_leaves p at (number - 1) label (its_place_before at noted here) named) in
        let keeps : ComesToHold at (its_page (suc (number - 1))) label (sector_at p at).value p q =
        subst (ComesToHold at (its_page (suc (number - 1))) label (sector_at p at).value p) (sym left) (relabel_keeps_the_page p at (its_page (suc (number - 1))) label 2 carries named (omega arith)) in
        page_described q at from places written (ap (λ x. x.shape) left) can (λ k low. none_free q label k keeps low (k == at) refl)
        (λ n low apart. refl) noted (counted_by_label q (number - 1) at bytes label formed written.here (ap (λ s. s.label) keeps.here) count ∙ size)

    -- it had it
    described_before : AreFormed p → word (sector_at p at).label 3 ≡ min 512 (descriptor_length p.shape - 512 * (number - 1)) → (n : ℕ) → suc n < suc number → (t : Bool) → (n == number - 1) ≡ t → IsDescribed p n
    described_before formed size n low true e =
        let is : n ≡ number - 1 = grind (arith, nat_tests, e) in
        subst (IsDescribed p) (sym is) (record {
          at = at;
          sector = its_place_before at noted here;
          counts = counted_by_label p (number - 1) at (word (sector_at p at).label 3) (sector_at p at).label formed (its_place_before at noted here) refl refl ∙ size;
        })
    described_before formed size n low false e =
        let apart : n ≢ number - 1 = λ same. (let no = subst (λ k. (k == number - 1) ≡ false) same e in grind (arith, nat_tests, no)) in
        may.described n (omega (arith, low, apart, some))

    pub already_described : (q : Pack) → q ≡ p → AreFormed q → word (sector_at p at).label 3 ≡ min 512 (descriptor_length p.shape - 512 * (number - 1)) → MayDescribePage q (suc number) places from
    already_described q same formed size = subst (λ x. MayDescribePage x (suc number) places from) (sym same) (record {
      scavengeable = may.scavengeable;
      rooted = may.rooted;
      places_are = may.places_are;
      described = λ n low. described_before (subst AreFormed same formed) size n low (n == number - 1) refl;
      last_pages = may.last_pages;
      none_below = may.none_below;
    })

-- ---- the leader page
pub described_whole : (p : Pack) (places : List ℕ) (from : ℕ) → MayDescribePage p (data_pages p.shape + 1) places from → IsDescribedWhole p
described_whole p places from may = record { rooted = may.rooted; described = λ n low. may.described n (omega (arith, low)); last_pages = may.last_pages }

pub described_lasts : (p : Pack) (places : List ℕ) (from : ℕ) → MayDescribePage p (data_pages p.shape + 1) places from → get_or places 0 0 ≢ 0 → Lasting p
described_lasts p places from may some =
    described_is_lasting p (described_whole p places from may) (file_lives_in_a_place p disk_descriptor ∙ ap is_some (some_place_at p places 0 may.places_are (omega arith) some))

module _ (p : Pack) (places : List ℕ) (from : ℕ) (may : MayDescribePage p (data_pages p.shape + 1) places from) (none : get_or places 0 0 ≡ 0) where
  no_leader : place (sights p) disk_descriptor 0 ≡ None
  no_leader = no_place_at p places 0 may.places_are (omega arith) none

  at_root : carried p 1 ≡ Some (root_page 0)
  at_root = root_carried p may.rooted.root.0 may.rooted.root.1 may.rooted.root.2

  apart_from_root : (at : ℕ) → is_free_at p at ≡ true → at ≢ 1
  apart_from_root at free = not_root p at (carried_not_free p 1 (root_page 0) at_root) free

  pub leader_place_free : NoneFreeFrom p from → ⊥
  leader_place_free nothing =
      let free = lacking_descriptor_page_is_free p 0 may.scavengeable may.rooted (omega arith) no_leader in
      by free.0 free.2 (nat_lt free.0 from) refl
    where
      by : (at : ℕ) → is_free_at p at ≡ true → (u : Bool) → nat_lt at from ≡ u → ⊥
      by at free true l = let low : at < from = grind (arith, nat_tests, l) in let no : true ≡ false = sym free ∙ may.none_below at low in cc
      by at free false l = let high : from ≤ at = grind (arith, nat_tests, l) in let no : true ≡ false = sym free ∙ nothing at high in cc

  pub leader_mends : (at : ℕ) (label value : List ℕ) {hints : List ℕ} → is_free_at p at ≡ true → page_of label ≡ Some (its_page 0) → Says value (fresh_leader disk_descriptor) hints → Mends p (claim_writes at label value)
  leader_mends at label value free names says = record {
    each = record {
      tends = descriptor_leader_tends p at label value free (apart_from_root at free) at_root names;
      changes = claim_changes p at (its_page 0) label value free names;
    };
    keeps = leader_keeps p at disk_descriptor label value free names (λ dead here. cc) (λ readable l x. absurd (let wrong : None ≡ Some x.at = sym no_leader ∙ x.sector in cc))
        (λ dead. leads_new p at disk_descriptor label value free names (λ j below. (places_are_lowest p (its_page 0)).none no_leader j) says);
  }

  pub leader_lasts : (q : Pack) (at : ℕ) (label value : List ℕ) → is_free_at p at ≡ true → page_of label ≡ Some (its_page 0) → q ≡ after p (claim_writes at label value) → Lasting q
  leader_lasts q at label value free names left = subst Lasting (sym left) (descriptor_leader_makes_lasting p at label value (described_whole p places from may) free (apart_from_root at free) names no_leader)
