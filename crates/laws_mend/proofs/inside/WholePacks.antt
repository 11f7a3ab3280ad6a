-- Whole packs have all parts.
use Rattle.std.proofs.Common.{◌∙◌, ◌≡◌, ap, false, get_or, inl, inr, sym, true, ℕ}
use Rattle.laws_room.specs.disk_records.specs.Packs.{Pack}
use Rattle.laws_room.specs.pack_model.specs.reading.Sights.{sights}
use Rattle.laws_room.specs.pack_model.specs.reading.Sights.Sight.{free, hidden, stray}
use Rattle.laws_room.specs.pack_model.specs.states.InUse.{in_use, is_good}
use Rattle.laws_room.specs.pack_model.specs.states.Sentences.{PagesWhole}
use Rattle.laws_room.specs.laws_record.proofs.sentences.Laws.{sentences_hold}
use Rattle.laws_mend.specs.PartLaws.{SoundIsMended, WholeIsLasting}

-- no good sector shows a label out of range, if each is free or in use
none_stray : (p : Pack) → PagesWhole p.shape (sights p) → (i : ℕ) → get_or (sights p) i hidden ≡ stray → ⊥
none_stray p w i e = elim (w.used i (ap is_good e)) [
  | inl is ↦ (let c : stray ≡ free = sym e ∙ is in cc)
  | inr is ↦ (let c : false ≡ true = sym (ap (λ s. in_use p.shape (sights p) (i, s)) e) ∙ is in cc)
]

pub whole_is_lasting : WholeIsLasting
whole_is_lasting p w =
    let s = (sentences_hold p w).pages in
    record {
      rooted = record {
        used = record {
          ended = record { cleared = record { once = s.once; no_stray = none_stray p s }; directories = s.directories };
          used = s.used;
        };
        root = s.root;
      };
      last_pages = s.last_pages;
      descriptor_lives = s.descriptor_lives;
      descriptor_size = s.descriptor_size;
    }

pub sound_is_mended : SoundIsMended
sound_is_mended p s links = record { pages = (sentences_hold p s.whole).pages; links = links; tidy = s.tidy; named = s.named }
