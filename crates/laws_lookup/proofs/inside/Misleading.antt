-- Words that were followed and misled.
use Rattle.std.proofs.Common.{ap, refl, sym, ℕ, ◌<◌, ◌∙◌, ◌≡◌}
use Rattle.laws_operation.specs.disk_records.proofs.Reals.{at_of-back}
use Rattle.laws_operation.specs.disk_records.specs.Addresses.{pages_of, real_of}
use Rattle.laws_operation.specs.disk_records.specs.Packs.{after, carried, label_found}
use Rattle.laws_operation.specs.disk_records.specs.declared.records.Place.{Place}
use Rattle.laws_operation.specs.disk_records.specs.declared.records.Place.TheVariants.{Entry, Held, Next, Root}
use Rattle.laws_operation.specs.disk_records.specs.declared.shape.Shape.{Shape}
use Rattle.laws_operation.specs.pack_model.specs.hints.Misled.{IsAddressOf}
use Rattle.laws_lookup.specs.HintLaws.{HintMisledBefore, HintNamesOneSector, LabelOfAnotherPageMisleads, LinkMeansTheNextPage, NoSectorMisleads}

-- ---- one sector
-- a sector has one real address
real_once : (shape : Shape) (i j : ℕ) → i < pages_of shape → j < pages_of shape → real_of shape i ≡ real_of shape j → i ≡ j
real_once shape i j a b e = sym (at_of-back shape i (real_of shape j) a e) ∙ at_of-back shape j (real_of shape j) b refl

one_named : (shape : Shape) (place : Place) (at i j : ℕ) → i < pages_of shape → j < pages_of shape → IsAddressOf shape place at i → IsAddressOf shape place at j → i ≡ j
one_named shape Root at i j a b x y = sym x ∙ y
one_named shape (Entry dir w) at i j a b x y = sym x ∙ y
one_named shape (Next k) at i j a b x y = real_once shape i j a b (sym x ∙ y)
one_named shape (Held k) at i j a b x y = sym x ∙ y

pub hint_names_one_sector : HintNamesOneSector
hint_names_one_sector shape place at i j x y = one_named shape place at i j x.last y.last x.named y.named

-- ---- the answer
pub label_of_another_page_misleads : LabelOfAnotherPageMisleads
label_of_another_page_misleads p events place at i wanted stands names other on = record {
  misled = record {
    stands = stands;
    misses = λ j n is. other (ap (carried p) (hint_names_one_sector p.shape place at i j names n) ∙ is);
  };
  on_disk = on;
  finds = record {
    named = λ j n. ap (label_found (after p events)) (hint_names_one_sector p.shape place at i j names n);
    unnamed = λ none. absurd (none i names);
  };
}

pub no_sector_misleads : NoSectorMisleads
no_sector_misleads p events place at wanted stands none on = record {
  misled = record { stands = stands; misses = λ j n is. none j n };
  on_disk = on;
  finds = record { named = λ j n. absurd (none j n); unnamed = λ no. refl };
}

pub link_means_the_next_page : LinkMeansTheNextPage
link_means_the_next_page p i page is full = record { page = page; carries = is; full = full; means = refl; link = refl }

-- ---- after record writes
pub hint_misled_before : HintMisledBefore
hint_misled_before p events place at wanted stands kept m = record { stands = stands; misses = λ i n is. m.misses i n (kept i is) }
