-- Handy hints over operations on files: of all other files, and of the file itself.
use Rattle.std.proofs.Common.{List, None, Option, Some, [], ap, arith, eq-eqb, eqb-true, false, get_or, inl, length, refl, subst, suc, sym, true, Bool, ℕ, ◌++◌, ◌<◌, ◌==◌, ◌∙◌, ◌∷◌, ◌≡◌, ◌≢◌, ◌≤◌}
use Rattle.std.proofs.lemmas.Bool.{le-leb}
use Rattle.std.proofs.lemmas.List.{get_or-set_other}
use Rattle.std.specs.Option.{is_some}
use Rattle.laws_line.specs.alto_words.specs.declared.fid.Fid.{Fid}
use Rattle.laws_line.specs.disk_records.specs.Commands.{claim_writes, relabel_writes, release_writes}
use Rattle.laws_line.specs.disk_records.specs.Packs.{Pack, after, carried, no_sector, sector_at, with_part}
use Rattle.laws_line.specs.disk_records.specs.Words.{word}
use Rattle.laws_line.specs.disk_records.specs.declared.records.Event.TheVariants.{Shown, Wrote}
use Rattle.laws_line.specs.disk_records.specs.declared.records.Event.{Event}
use Rattle.laws_line.specs.disk_records.specs.declared.records.Page.{Page}
use Rattle.laws_line.specs.pack_model.specs.hints.Handy.{CachedAt, Handy, last_at_word, last_number_word, row_word}
use Rattle.laws_line.specs.pack_model.specs.operations.Commands.{Claim, Claimable, claims_writes, releases_writes}
use Rattle.laws_line.specs.pack_model.specs.operations.Committing.{page_of_byte}
use Rattle.laws_line.specs.pack_model.specs.operations.Operations.{cut_writes, grow_writes}
use Rattle.laws_line.specs.pack_model.specs.operations.PageWords.{page_number}
use Rattle.laws_line.specs.pack_model.specs.reading.Files.{carries_page, file_bytes, lives, place}
use Rattle.laws_line.specs.pack_model.specs.reading.Sights.Sight.{free, hidden}
use Rattle.laws_line.specs.pack_model.specs.reading.Sights.{Sight, sights}
use Rattle.laws_line.specs.pack_model.specs.states.Whole.{Whole}
use Rattle.laws_line.specs.pack_laws.proofs.guards.Laws.{relabel_keeps_the_page, release_frees_at_the_label}
use Rattle.laws_hint.proofs.inside.HandyStaying.{handy_where_pages_come, handy_where_pages_stay_or_go}
use Rattle.laws_hint.specs.HandyLaws.{HandyAfterCut, HandyAfterGrowth, HandyAfterWidening, HandyOfOthers, SameHandyWords, SpeaksUpTo}
use Rattle.laws_line.specs.laws_operation.proofs.lengths.Laws.{placed_pages_are_those_up_to_the_last}
use Rattle.laws_lookup.proofs.others.Laws.{grow_keeps_pages, widen_keeps_pages}
use Rattle.laws_line.specs.laws_operation.proofs.places.Laws.{carried_in_place}
use Rattle.laws_line.specs.laws_operation.specs.ByteLaws.{Bear}
use Rattle.laws_line.specs.laws_record.proofs.Copying.{place_carried}
use Rattle.laws_line.specs.pack_laws.proofs.Placing.{place_is}

-- the number of a page, or this one
abbrev number_in : ℕ → Option Page → ℕ
number_in n None = n
number_in n (Some x) = x.number

-- the words of a sector that stays
words_stay : (p q : Pack) (at : ℕ) → sector_at q at ≡ sector_at p at → SameHandyWords p q at
words_stay p q at same = record { row = ap (λ s. word s.value row_word) same; last_at = ap (λ s. word s.value last_at_word) same; last_number = ap (λ s. word s.value last_number_word) same }

-- ---- other files
pub handy_of_others : HandyOfOthers
handy_of_others p q f g cache left other h =
    handy_where_pages_stay_or_go p q g cache (record {
      pages = λ n at there. sym (left.places g n other) ∙ there;
      words = λ at there. words_stay p q at (left.sectors g 0 at other (sym (left.places g 0 other) ∙ there));
    }) h

-- ---- a cut
-- Each page that a sector carries is one that it carried; and the sector of the file's leader is as it was, and carries it still.
record Lessens (p q : Pack) (f : Fid) : Type 0 where
  pages : (i : ℕ) (x : Page) → carried q i ≡ Some x → carried p i ≡ Some x
  leads : (i : ℕ) → carried p i ≡ Some (page_number f 0) → carried q i ≡ Some (page_number f 0)
  sector : (i : ℕ) → carried p i ≡ Some (page_number f 0) → sector_at q i ≡ sector_at p i

lessens_twice : {p q r : Pack} {f : Fid} → Lessens p q f → Lessens q r f → Lessens p r f
lessens_twice a b = record { pages = λ i x is. a.pages i x (b.pages i x is); leads = λ i is. b.leads i (a.leads i is); sector = λ i is. b.sector i (a.leads i is) ∙ a.sector i is }

apart_pages : (p : Pack) (f : Fid) (n m at i : ℕ) → (n ≡ m → ⊥) → carried p at ≡ Some (page_number f n) → carried p i ≡ Some (page_number f m) → i ≢ at
apart_pages p f n m at i ne a b same =
    let both : Some (page_number f n) ≡ Some (page_number f m) = sym a ∙ ap (carried p) (sym same) ∙ b in
    ne (ap (number_in n) both)

-- one sector is changed: it carries what it carried, or nothing, and no leader
one_lessens : (p q : Pack) (f : Fid) (n at : ℕ) → 0 < n → carried p at ≡ Some (page_number f n) → ((x : Page) → carried q at ≡ Some x → carried p at ≡ Some x) → ((i : ℕ) → i ≢ at → carried q i ≡ carried p i) → ((i : ℕ) → i ≢ at → sector_at q i ≡ sector_at p i) → Lessens p q f
one_lessens p q f n at some was here others words = record {
  pages = λ i x is. by i x is (i == at) refl;
  leads = λ i is. others i (apart_pages p f n 0 at i (λ e. absurd (omega (arith, e, some))) was is) ∙ is;
  sector = λ i is. words i (apart_pages p f n 0 at i (λ e. absurd (omega (arith, e, some))) was is);
}
  where
    by : (i : ℕ) (x : Page) → carried q i ≡ Some x → (b : Bool) → (i == at) ≡ b → carried p i ≡ Some x
    by i x is true e = let same : i ≡ at = eqb-true i at e in subst (λ j. carried p j ≡ Some x) (sym same) (here x (subst (λ j. carried q j ≡ Some x) same is))
    by i x is false e = sym (others i (λ same. let both : true ≡ false = sym (eq-eqb i at same) ∙ e in absurd cc)) ∙ is

-- sectors that carry pages of the file in a row
abbrev CarryRow : Pack → Fid → ℕ → List ℕ → Type 0
CarryRow p f n [] = Unit {0}
CarryRow p f n (at ∷ ats) = (carried p at ≡ Some (page_number f n)) × CarryRow p f (suc n) ats

row_carried : (p : Pack) (f : Fid) (n : ℕ) (ats : List ℕ) → Bear (sights p) f n ats → CarryRow p f n ats
row_carried p f n [] h = tt
row_carried p f n (at ∷ ats) h = (place_carried p (page_number f n) at h.0, row_carried p f (suc n) ats h.1)

-- a record write elsewhere leaves them so
row_stays : (p q : Pack) (f : Fid) (at k n : ℕ) (ats : List ℕ) → k < n → carried p at ≡ Some (page_number f k) → ((i : ℕ) → i ≢ at → carried q i ≡ carried p i) → CarryRow p f n ats → CarryRow q f n ats
row_stays p q f at k n [] low here same h = tt
row_stays p q f at k n (i ∷ ats) low here same h =
    (same i (apart_pages p f k n at i (λ e. absurd (omega (arith, e, low))) here h.0) ∙ h.0, row_stays p q f at k (suc n) ats (omega (arith, low)) here same h.1)

releases_lessen : (p : Pack) (f : Fid) (n : ℕ) (ats : List ℕ) → 0 < n → CarryRow p f n ats → Lessens p (after p (releases_writes ats)) f
releases_lessen p f n [] some row = record { pages = λ i x is. is; leads = λ i is. is; sector = λ i is. refl }
releases_lessen p f n (at ∷ ats) some row =
    let q : Pack = after p (release_writes at) in
    let h = release_frees_at_the_label p at (page_number f n) 2 row.0 (omega arith) in
    lessens_twice (one_lessens p q f n at some row.0 (λ x is. let both : ◌≡◌ {A = Option Page} None (Some x) = sym h.page_here ∙ is in cc) h.pages h.others)
    (releases_lessen q f (suc n) ats (omega arith) (row_stays p q f at n (suc n) ats (omega arith) row.0 h.pages row.1))

pub handy_after_cut : HandyAfterCut
handy_after_cut p f n at label later cache whole may h =
    handy_where_pages_stay_or_go p q f cache (record {
      pages = λ k i there. carried_in_place p (page_number f k) i whole (all.pages i (page_number f k) (place_carried q (page_number f k) i there));
      words = λ i there. words_stay p q i (all.sector i (all.pages i (page_number f 0) (place_carried q (page_number f 0) i there)));
    }) h
  where
    q : Pack
    q = after p (cut_writes at label (sector_at p at).value later)

    all : Lessens p (after p (cut_writes at label (sector_at p at).value later)) f
    all =
        let last : ℕ = page_of_byte n in
        let here : carried p at ≡ Some (page_number f last) = place_carried p (page_number f last) at may.sector in
        let c = relabel_keeps_the_page p at (page_number f last) label 2 here may.page (omega arith) in
        let r : Pack = after p (relabel_writes at label (sector_at p at).value) in
        lessens_twice (one_lessens p r f last at (omega arith) here (λ x is. here ∙ sym c.page_here ∙ is) c.pages c.others)
        (releases_lessen r f (suc last) later (omega arith) (row_stays p r f at last (suc last) later (omega arith) here c.pages (row_carried p f (suc last) later may.later_are)))

-- ---- pages come
-- no event writes into the sector
abbrev NotAt : ℕ → List Event → Type 0
NotAt i [] = Unit {0}
NotAt i (Wrote at part words ∷ events) = (i ≢ at) × NotAt i events
NotAt i (Shown byte ∷ events) = NotAt i events

untouched : (events : List Event) (p : Pack) (i : ℕ) → NotAt i events → sector_at (after p events) i ≡ sector_at p i
untouched [] p i h = refl
untouched (Wrote at part words ∷ events) p i h = untouched events (after p (Wrote at part words ∷ [])) i h.1 ∙ get_or-set_other p.sectors at i (with_part part words (sector_at p at)) no_sector h.0
untouched (Shown byte ∷ events) p i h = untouched events p i h

not_both : (i : ℕ) (a b : List Event) → NotAt i a → NotAt i b → NotAt i (a ++ b)
not_both i [] b h k = k
not_both i (Wrote at part words ∷ a) b h k = (h.0, not_both i a b h.1 k)
not_both i (Shown byte ∷ a) b h k = not_both i a b h k

claims_apart : (cs : List Claim) (ss : List Sight) (f : Fid) (k i : ℕ) → Claimable ss f k cs → (get_or ss i hidden ≡ free → ⊥) → NotAt i (claims_writes cs)
claims_apart [] ss f k i h busy = tt
claims_apart (c ∷ cs) ss f k i h busy =
    let apart : i ≢ c.at = λ same. busy (ap (λ j. get_or ss j hidden) same ∙ h.0) in
    (apart, (apart, (apart, claims_apart cs _ f (suc k) i h.3 (λ e. busy (sym (get_or-set_other ss c.at i _ hidden apart) ∙ e)))))

not_free : (p : Pack) (f : Fid) (i : ℕ) → place (sights p) f 0 ≡ Some i → get_or (sights p) i hidden ≡ free → ⊥
not_free p f i there e = let h = place_is (sights p) f 0 i there in let both : true ≡ false = sym (h.carries hidden) ∙ ap (carries_page f 0) e in cc

module _ (p : Pack) (f : Fid) (claims : List Claim) (at n : ℕ) (label value : List ℕ) (cache : List CachedAt) (some : 0 < n) (sector : place (sights p) f n ≡ Some at) (claimable : Claimable (sights p) f n claims) (last : ℕ)
    (placed : (k : ℕ) → k ≤ last → place (sights p) f k ≢ None) (kept : (k i : ℕ) → k ≤ last → place (sights p) f k ≡ Some i → place (sights (after p (grow_writes claims at label value))) f k ≡ Some i) (speaks : SpeaksUpTo p f last cache) (h : Handy p f cache) where
  q : Pack
  q = after p (grow_writes claims at label value)

  leader_was : (i : ℕ) → place (sights (after p (grow_writes claims at label value))) f 0 ≡ Some i → place (sights p) f 0 ≡ Some i
  leader_was i there = by (place (sights p) f 0) refl
    where
      by : (r : Option ℕ) → place (sights p) f 0 ≡ r → place (sights p) f 0 ≡ Some i
      by None e = absurd (placed 0 (omega arith) e)
      by (Some j) e = let same : ◌≡◌ {A = Option ℕ} (Some j) (Some i) = sym (kept 0 j (omega arith) e) ∙ there in e ∙ same

  leader_stays : (i : ℕ) → place (sights p) f 0 ≡ Some i → sector_at (after p (grow_writes claims at label value)) i ≡ sector_at p i
  leader_stays i there =
      let apart : i ≢ at = apart_pages p f n 0 at i (λ e. absurd (omega (arith, e, some))) (place_carried p (page_number f n) at sector) (place_carried p (page_number f 0) i there) in
      untouched (grow_writes claims at label value) p i (not_both i (claims_writes claims) (claim_writes at label value) (claims_apart claims (sights p) f n i claimable (not_free p f i there)) (apart, (apart, (apart, tt))))

  pages_come : Handy (after p (grow_writes claims at label value)) f cache
  pages_come = handy_where_pages_come p (after p (grow_writes claims at label value)) f last cache (record {
    pages = λ k i low there. kept k i low there;
    there = placed;
    words = λ i there. words_stay p (after p (grow_writes claims at label value)) i (leader_stays i (leader_was i there));
    row = λ i there. let was = leader_was i there in (words_stay p (after p (grow_writes claims at label value)) i (leader_stays i was)).row ∙ speaks.row i was;
    number = λ i there. let was = leader_was i there in subst (λ k. k ≤ last) (sym (words_stay p (after p (grow_writes claims at label value)) i (leader_stays i was)).last_number) (speaks.number i was);
    cached = λ i d low e. inl (speaks.cached i d low e, h.cached i d low e);
  }) h

-- a living file's pages have a place up to its last
placed_to_last : (p : Pack) (f : Fid) → Whole p → lives (sights p) f ≡ true → (k : ℕ) → k ≤ page_of_byte (length (file_bytes (sights p) f)) → place (sights p) f k ≢ None
placed_to_last p f whole alive k low none =
    let there = placed_pages_are_those_up_to_the_last p f k whole alive ∙ le-leb k (page_of_byte (length (file_bytes (sights p) f))) low in
    let both : false ≡ true = sym (ap is_some none) ∙ there in absurd cc

pub handy_after_growth : HandyAfterGrowth
handy_after_growth p f new claims at label value cache whole tidy alive may speaks h =
    pages_come p f claims at (page_of_byte (length (file_bytes (sights p) f))) label value cache (omega arith) may.sector may.claimable (page_of_byte (length (file_bytes (sights p) f)))
    (placed_to_last p f whole alive) (λ k i low there. grow_keeps_pages p f new claims at label value whole tidy may k i low there) speaks h

pub handy_after_widening : HandyAfterWidening
handy_after_widening p d added claims at label value cache whole tidy alive may speaks h =
    pages_come p d claims at (page_of_byte (length (file_bytes (sights p) d))) label value cache (omega arith) may.sector may.claimable (page_of_byte (length (file_bytes (sights p) d)))
    (placed_to_last p d whole alive) (λ k i low there. widen_keeps_pages p d added claims at label value whole tidy may k i low there) speaks h
