-- Packs whose pages are mended have all parts.
use Rattle.std.proofs.Common.{◌∙◌, ◌≡◌, ap, false, inl, inr, sym, true}
use Rattle.laws_mend.specs.pack_model.specs.reading.Sights.{sights}
use Rattle.laws_mend.specs.pack_model.specs.reading.Sights.Sight.{free, stray}
use Rattle.laws_mend.specs.pack_model.specs.states.InUse.{in_use, is_good}
use Rattle.laws_names.specs.PartLaws.{MendedHasParts}

pub mended_has_parts : MendedHasParts
mended_has_parts p m = record {
  rooted = record {
    used = record {
      ended = record {
        cleared = record {
          once = m.pages.once;
          no_stray = λ i e. elim (m.pages.used i (ap is_good e)) [
            | inl is ↦ (let c : stray ≡ free = sym e ∙ is in cc)
            | inr is ↦ (let c : false ≡ true = sym (ap (λ s. in_use p.shape (sights p) (i, s)) e) ∙ is in cc)
          ];
        };
        directories = m.pages.directories;
      };
      used = m.pages.used;
    };
    root = m.pages.root;
  };
  last_pages = m.pages.last_pages;
  descriptor_lives = m.pages.descriptor_lives;
  descriptor_size = m.pages.descriptor_size;
}
