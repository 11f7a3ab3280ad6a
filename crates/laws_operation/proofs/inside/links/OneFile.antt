-- Links are true again where they are so of the one file that record writes concern.
use Rattle.std.proofs.Common.{Bool, List, Some, ap, arith, false, inl, inr, refl, subst, suc, sym, true, zero, ℕ, ◌<◌, ◌∙◌, ◌≡◌, ◌≤◌}
use Rattle.std.proofs.lemmas.Bool.{cases_eq}
use Rattle.laws_contents.specs.alto_words.specs.Fid.{is_directory, is_fid}
use Rattle.laws_contents.specs.alto_words.specs.declared.fid.Fid.{Fid}
use Rattle.laws_contents.specs.disk_records.specs.Packs.{Pack, after, sector_at}
use Rattle.laws_contents.specs.disk_records.specs.Words.{word}
use Rattle.laws_contents.specs.disk_records.specs.declared.records.Event.{Event}
use Rattle.laws_contents.specs.pack_model.specs.reading.Files.{place}
use Rattle.laws_contents.specs.pack_model.specs.hints.Links.{LinksTrue, PageLinks, link_to}
use Rattle.laws_contents.specs.pack_model.specs.reading.Sights.{sights}
use Rattle.laws_contents.specs.pack_model.specs.states.Whole.{Tidy, Whole}
use Rattle.laws_contents.specs.pack_laws.proofs.Keys.{same_fid}
use Rattle.laws_operation.proofs.inside.links.Directories.{all_dirs, dirs_true, other_dir, other_lives}
use Rattle.laws_operation.proofs.inside.links.Framing.{AllConcern, other_links}
use Rattle.laws_operation.proofs.inside.links.Linked.{FileLinks, Linked, file_links, link_before, page_links}

-- a directory isn't an ordinary file
pub dir_apart : (d f : Fid) → is_directory d ≡ true → is_directory f ≡ false → is_fid d f ≡ false
dir_apart d f dir ordinary = by (is_fid d f) refl
  where
    by : (b : Bool) → is_fid d f ≡ b → b ≡ false
    by false e = refl
    by true e = let clash : true ≡ false = sym dir ∙ ap is_directory (same_fid d f e) ∙ ordinary in cc

module _ (p : Pack) (f : Fid) (events : List Event) (wp : Whole p) (wq : Whole (after p events)) (all : AllConcern f p events) where
  -- the links of pages
  pub pages_true : FileLinks (after p events) f → PageLinks p → PageLinks (after p events)
  pages_true mine links = page_links (after p events) wq (λ g. elim (is_fid g f) as (λ b. is_fid g f ≡ b → FileLinks (after p events) g) [
    | true ↦ λ e. subst (FileLinks (after p events)) (sym (same_fid g f e)) mine
    | false ↦ λ e. other_links p f events wp wq all g e (file_links p wp links g)
  ] refl)

  -- and the addresses of entries, where f isn't a directory
  pub ordinary_true : Tidy p → Tidy (after p events) → is_directory f ≡ false → ((a : ℕ) → place (sights p) f 0 ≡ Some a → place (sights (after p events)) f 0 ≡ Some a) → FileLinks (after p events) f → LinksTrue p → LinksTrue (after p events)
  ordinary_true tp tq ordinary leader mine links = record {
    pages = pages_true mine links.pages;
    entries = all_dirs (after p events) (λ d live dir.
        let ne : is_fid d f ≡ false = dir_apart d f dir ordinary in
        other_dir p f events wp wq all tp tq leader d ne live dir (dirs_true p links.entries d (other_lives p f events wp wq all d ne live) dir));
  }

-- ---- a file whose pages stay up to one, which has another label
module _ (p : Pack) (f : Fid) (events : List Event) (last at : ℕ)
    (same : (m : ℕ) → m ≤ last → place (sights (after p events)) f m ≡ place (sights p) f m)
    (front : (m i : ℕ) → m < last → place (sights p) f m ≡ Some i → (sector_at (after p events) i).label ≡ (sector_at p i).label)
    (here : place (sights p) f last ≡ Some at)
    (next : word (sector_at (after p events) at).label 0 ≡ link_to p.shape (place (sights (after p events)) f (suc last)))
    (previous : word (sector_at (after p events) at).label 1 ≡ word (sector_at p at).label 1) where
  -- the previous links stay
  before_same : (m : ℕ) → m ≤ last → link_before p.shape (sights (after p events)) f m ≡ link_before p.shape (sights p) f m
  before_same zero l = refl
  before_same (suc m) l = ap (link_to p.shape) (same m (omega arith))

  -- their links are true
  pub old_linked : FileLinks p f → (m i : ℕ) → m ≤ last → place (sights (after p events)) f m ≡ Some i → Linked (after p events) f m i
  old_linked links m i l e = elim (cases_eq m last) [
    | inl is ↦
        let both : Some i ≡ Some at = sym e ∙ same m l ∙ ap (place (sights p) f) is ∙ here in
        let i_is : i ≡ at = cc in
        record {
          next = ap (λ j. word (sector_at (after p events) j).label 0) i_is ∙ next ∙ ap (λ k. link_to p.shape (place (sights (after p events)) f (suc k))) (sym is);
          previous = ap (λ j. word (sector_at (after p events) j).label 1) i_is ∙ previous ∙ ap (λ j. word (sector_at p j).label 1) (sym i_is) ∙ (links m i (sym (same m l) ∙ e)).previous ∙ sym (before_same m l);
        }
    | inr ne ↦
        let less : m < last = omega arith in
        let was : place (sights p) f m ≡ Some i = sym (same m l) ∙ e in
        let h = links m i was in
        record {
          next = ap (λ x. word x 0) (front m i less was) ∙ h.next ∙ ap (link_to p.shape) (sym (same (suc m) (omega arith)));
          previous = ap (λ x. word x 1) (front m i less was) ∙ h.previous ∙ sym (before_same m l);
        }
  ]
