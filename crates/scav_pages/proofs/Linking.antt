-- The links of one page, and its name.
use Rattle.std.proofs.Common.{◌≡◌, ◌≢◌, ℕ, ◌≤◌, Bool, true, false, cond, List, [], ◌∷◌, drop, get_or, length, Some, None, refl, sym, ap, subst, ◌∙◌, arith}
use Rattle.std.proofs.lemmas.List.Elements.{All-get_or}
use Rattle.disk_records.specs.declared.records.Page.{Page}
use Rattle.disk_records.specs.Commands.{relabel_writes}
use Rattle.disk_records.specs.Labels.{in_range, label_of, page_of, tag}
use Rattle.disk_records.specs.Packs.{AreFormed, IsFormed, Pack, after, carried, no_sector, sector_at}
use Rattle.disk_records.specs.Words.{word}
use Rattle.pack_model.specs.hints.Links.{next_link, previous_link}
use Rattle.pack_model.specs.reading.Files.{place}
use Rattle.pack_model.specs.reading.Sights.{sights}
use Rattle.pack_model.specs.reading.Sights.Sight.{hidden}
use Rattle.laws_mend.specs.pack_laws.proofs.Guarding.{carried_parts, usable_within}
use Rattle.laws_mend.specs.pack_laws.proofs.guards.Laws.{relabel_keeps_the_page}
use Rattle.laws_mend.specs.Parts.{Lasting}
use Rattle.laws_mend.specs.PartLaws.{LinksWritten}
use Rattle.laws_mend.proofs.parts.Laws.{other_links_leave}
use Rattle.laws_mend.proofs.runs.Laws.{other_links_tend}
use Rattle.scav_pages.specs.declared.links.Pending.{Pending}
use Rattle.scav_pages.specs.Links.{MayMendPage, PageLinked, WritesPage}
use Rattle.scav_pages.proofs.Changing.{relabel_changes}
use Rattle.scav_pages.proofs.Cutting.{made_names}
use Rattle.scav_pages.proofs.Keeping.{Mends, keeps_shown}
use Rattle.scav_pages.proofs.Passing.{relabel_at}
use Rattle.scav_pages.proofs.Ranking.{page_ranged}

-- the label of a page under other links has all its other words
words_of_page : (label : List ℕ) (page : Page) (n : ℕ) → page_of label ≡ Some page → n ∷ page.number ∷ page.fid.version ∷ page.fid.high ∷ page.fid.low ∷ [] ≡ n ∷ word label 4 ∷ word label 5 ∷ word label 6 ∷ word label 7 ∷ []
words_of_page label page n e = by_test (in_range (tag label)) refl e
  where
    by_test : (t : Bool) → in_range (tag label) ≡ t → cond t (Some (record { fid = (tag label).fid; number = (tag label).page })) None ≡ Some page → n ∷ page.number ∷ page.fid.version ∷ page.fid.high ∷ page.fid.low ∷ [] ≡ n ∷ word label 4 ∷ word label 5 ∷ word label 6 ∷ word label 7 ∷ []
    by_test true range h =
        let same : ◌≡◌ {A = Page} (record { fid = (tag label).fid; number = (tag label).page }) page = cc in
        ap (λ (x : Page). n ∷ x.number ∷ x.fid.version ∷ x.fid.high ∷ x.fid.low ∷ []) (sym same)
    by_test false range h = cc

last_words : (label : List ℕ) → length label ≡ 8 → drop 3 label ≡ word label 3 ∷ word label 4 ∷ word label 5 ∷ word label 6 ∷ word label 7 ∷ []
last_words (a ∷ b ∷ c ∷ d ∷ e ∷ f ∷ h ∷ l ∷ []) size = refl
last_words [] size = cc
last_words (a ∷ []) size = cc
last_words (a ∷ b ∷ []) size = cc
last_words (a ∷ b ∷ c ∷ []) size = cc
last_words (a ∷ b ∷ c ∷ d ∷ []) size = cc
last_words (a ∷ b ∷ c ∷ d ∷ e ∷ []) size = cc
last_words (a ∷ b ∷ c ∷ d ∷ e ∷ f ∷ []) size = cc
last_words (a ∷ b ∷ c ∷ d ∷ e ∷ f ∷ h ∷ []) size = cc
last_words (a ∷ b ∷ c ∷ d ∷ e ∷ f ∷ h ∷ l ∷ x ∷ xs) size = cc

pub same_last_words : (label : List ℕ) (page : Page) (bytes next previous : ℕ) → length label ≡ 8 → page_of label ≡ Some page → bytes ≡ word label 3 → drop 3 (label_of page bytes next previous) ≡ drop 3 label
same_last_words label page bytes next previous size names counts = words_of_page label page bytes names ∙ ap (λ n. n ∷ word label 4 ∷ word label 5 ∷ word label 6 ∷ word label 7 ∷ []) counts ∙ sym (last_words label size)

-- where its links are true nothing is written
pub linked_already : {p : Pack} {page : Pending} {next : ℕ} → MayMendPage p page next → word (sector_at p page.row.at).label 0 ≡ next → word (sector_at p page.row.at).label 1 ≡ page.previous → PageLinked page.row.at p p tt
linked_already may next previous = record {
  lasting = may.lasting;
  places = λ f n. refl;
  links = record { next = next ∙ may.next_is; previous = previous ∙ may.previous_is };
  others = λ i other h. h;
  shown = λ i other. refl;
}

-- what other links leave
pub links_linked : {p q : Pack} {at : ℕ} {label : List ℕ} → LinksWritten p q at label → Lasting p → word label 0 ≡ next_link p.shape (sights p) (get_or (sights p) at hidden) → word label 1 ≡ previous_link p.shape (sights p) (get_or (sights p) at hidden) → PageLinked at p q tt
links_linked w lasting next previous = record {
  lasting = w.lasting lasting;
  places = λ f n. ap (λ s. place s f n) w.shown;
  links = w.here next previous;
  others = w.others;
  shown = λ i other. ap (λ s. get_or s i hidden) w.shown;
}

-- ---- the label that is made
pub label_size : (p : Pack) (at : ℕ) {page : Page} → AreFormed p → carried p at ≡ Some page → length (sector_at p at).label ≡ 8
label_size p at {page} formed carries = (All-get_or IsFormed p.sectors at no_sector (usable_within p at (carried_parts p at page carries).0) formed).label

pub links_made : (p : Pack) (at : ℕ) (page : Page) (label : List ℕ) (bytes next previous : ℕ) → length (sector_at p at).label ≡ 8 → carried p at ≡ Some page → bytes ≡ word (sector_at p at).label 3 → label ≡ label_of page bytes next previous
    → (page_of label ≡ Some page) × (drop 3 label ≡ drop 3 (sector_at p at).label)
links_made p at page label bytes next previous size carries counts is =
    let names = (carried_parts p at page carries).1 in (
      made_names (sector_at p at).label page bytes next previous names is (subst (λ n. n ≤ 512) (sym counts) (page_ranged (sector_at p at).label page names).1),
      ap (λ l. drop 3 l) is ∙ same_last_words (sector_at p at).label page bytes next previous size names counts,
    )

pub links_mend : (p : Pack) (at : ℕ) (page : Page) (label : List ℕ) → carried p at ≡ Some page → page_of label ≡ Some page → drop 3 label ≡ drop 3 (sector_at p at).label → label ≢ (sector_at p at).label → Mends p (relabel_writes at label (sector_at p at).value)
links_mend p at page label carries names last other = record {
  each = record { tends = other_links_tend p at page label carries names last; changes = relabel_changes p at label (sector_at p at).value other };
  keeps = keeps_shown (other_links_leave p at page label carries names last).shown;
}

pub made_linked : (p : Pack) (page : Pending) (next : ℕ) (label : List ℕ) (bytes : ℕ) → MayMendPage p page next → page_of label ≡ Some page.row.page → drop 3 label ≡ drop 3 (sector_at p page.row.at).label → label ≡ label_of page.row.page bytes next page.previous
    → (q : Pack) → q ≡ after p (relabel_writes page.row.at label (sector_at p page.row.at).value) → PageLinked page.row.at p q tt
made_linked p page next label bytes may names last is q left =
    subst (λ x. PageLinked page.row.at p x tt) (sym left)
    (links_linked (other_links_leave p page.row.at page.row.page label may.carries names last) may.lasting (ap (λ l. word l 0) is ∙ may.next_is) (ap (λ l. word l 1) is ∙ may.previous_is))

pub made_writes : (p : Pack) (at : ℕ) (page : Page) (label : List ℕ) → carried p at ≡ Some page → page_of label ≡ Some page → (q : Pack) → q ≡ after p (relabel_writes at label (sector_at p at).value) → WritesPage at page p q
made_writes p at page label was names q left = subst (WritesPage at page p) (sym left) (record {
  written = relabel_at p at label (sector_at p at).value;
  was = was;
  carries = (relabel_keeps_the_page p at page label 2 was names (omega arith)).page_here;
})

pub made_value : (p : Pack) (at : ℕ) (page : Page) (label : List ℕ) → carried p at ≡ Some page → page_of label ≡ Some page → (q : Pack) → q ≡ after p (relabel_writes at label (sector_at p at).value) → (sector_at q at).value ≡ (sector_at p at).value
made_value p at page label was names q left = ap (λ x. (sector_at x at).value) left ∙ ap (λ s. s.value) (relabel_keeps_the_page p at page label 2 was names (omega arith)).here
