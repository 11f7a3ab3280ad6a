-- The same files are found: then a pack is read as before.
use Rattle.std.proofs.Common.{◌∙◌, ◌≡◌, List, ap, inl, refl, sym}
use Rattle.std.specs.FinMap.{retain_keys}
use Rattle.pack_laws.specs.alto_words.specs.declared.fid.Fid.{Fid}
use Rattle.pack_laws.specs.disk_records.specs.Packs.{Pack}
use Rattle.pack_laws.specs.pack_model.specs.reading.Bodies.{described, is_described}
use Rattle.pack_laws.specs.pack_model.specs.reading.Files.{leader}
use Rattle.pack_laws.specs.pack_model.specs.reading.Model.{good_sectors, read_sights}
use Rattle.pack_laws.specs.pack_model.specs.reading.Sights.{Sight, sights}
use Rattle.laws_record.proofs.Framing.{SameBytes, SameCounted, counted_bytes, read_bytes}
use Rattle.laws_record.proofs.Reading.{found_frame}
use Rattle.laws_record.specs.QuietLaws.{ReadsSame}

-- The same good sectors, the same leaders, and the same files but DiskDescriptor.
pub record FilesStay (p q : Pack) : Type 0 where
  pub shape : q.shape ≡ p.shape
  pub good : good_sectors (sights q) ≡ good_sectors (sights p)
  pub leaders : (f : Fid) → leader (sights q) f ≡ leader (sights p) f
  pub files : described (sights q) ≡ described (sights p)

-- So it is, and the pack is read the same.
pub record Stays (p q : Pack) : Type 0 where
  pub read : ReadsSame p q
  pub files : FilesStay p q

-- the same bytes count
pub stay_bytes : (p q : Pack) (us : List Sight) → q.shape ≡ p.shape → sights q ≡ us → SameBytes (sights p) us → Stays p q
stay_bytes p q us shape shown same = record {
  read = (λ i. read_sights (shape i) (shown i)) ∙ sym (read_bytes p.shape (sights p) us same);
  files = record {
    shape = shape;
    good = ap good_sectors shown ∙ sym same.good;
    leaders = λ f. ap (λ ss. leader ss f) shown ∙ sym (same.leaders f);
    files = ap described shown ∙ sym (ap (λ m. retain_keys m is_described) (found_frame (sights p) us same.leaders (λ f lives. same.bytes f (inl lives))));
  };
}

-- the same sectors count
pub stay_counted : (p q : Pack) (us : List Sight) → q.shape ≡ p.shape → sights q ≡ us → SameCounted (sights p) us → Stays p q
stay_counted p q us shape shown same = stay_bytes p q us shape shown (counted_bytes (sights p) us same)

-- the same sights
pub stay_sights : (p q : Pack) → q.shape ≡ p.shape → sights q ≡ sights p → Stays p q
stay_sights p q shape shown = stay_bytes p q (sights p) shape shown (record { good = refl; leaders = λ f. refl; bytes = λ f file. refl })
