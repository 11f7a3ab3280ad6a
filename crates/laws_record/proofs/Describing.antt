-- What DiskDescriptor's pages hold isn't shown.
use Rattle.std.proofs.Common.{◌∙◌, ◌≡◌, List, None, ap, false, get_or, set, sym, ℕ}
use Rattle.pack_laws.specs.alto_words.specs.Fid.{disk_descriptor, is_fid}
use Rattle.pack_laws.specs.alto_words.specs.declared.fid.Fid.{Fid}
use Rattle.pack_laws.specs.pack_model.specs.reading.Bodies.{described}
use Rattle.pack_laws.specs.pack_model.specs.reading.Files.{file_bytes, leader, leader_at, page_at}
use Rattle.pack_laws.specs.pack_model.specs.reading.Model.{Model}
use Rattle.pack_laws.specs.pack_model.specs.reading.Sights.{Sight}
use Rattle.pack_laws.specs.pack_model.specs.reading.Sights.Sight.{hidden}
use Rattle.pack_laws.specs.pack_model.specs.showing.View.{view}
use Rattle.pack_laws.proofs.Firsts.{first_same}
use Rattle.laws_record.proofs.Framing.{bytes_same}
use Rattle.laws_record.proofs.Keeping.{described_kept}
use Rattle.laws_record.proofs.Reading.{get_alike}

-- what is shown is by the files alone
pub view_files : (m n : Model) → m.files ≡ n.files → view m ≡ view n
unfolding view
view_files m n e = ap (λ fs. view (record { shape = m.shape; good = m.good; last = m.last; files = fs })) e

-- a sight that answers for no file but the descriptor, and has no leader
pub record OnlyDescriptor (s : Sight) : Type 0 where
  pub leads : (g : Fid) → leader_at g s ≡ None
  pub holds : (g : Fid) (n : ℕ) → is_fid g disk_descriptor ≡ false → page_at g n s ≡ None

module _ (ss : List Sight) (i : ℕ) (s : Sight) (was : OnlyDescriptor (get_or ss i hidden)) (now : OnlyDescriptor s) where
  -- all leaders stay
  pub leaders_stay : (g : Fid) → leader (set ss i s) g ≡ leader ss g
  leaders_stay g = first_same (leader_at g) ss i s hidden (now.leads g ∙ sym (was.leads g))

  -- so do the bytes of all other files
  pub bytes_stay : (g : Fid) → is_fid g disk_descriptor ≡ false → file_bytes (set ss i s) g ≡ file_bytes ss g
  bytes_stay g e = bytes_same ss i s g (λ n. now.holds g n e ∙ sym (was.holds g n e))

  -- so do all other files
  pub described_same : described (set ss i s) ≡ described ss
  described_same = described_kept ss (set ss i s) (λ g e. get_alike ss (set ss i s) g (leaders_stay g) (bytes_stay g e))
