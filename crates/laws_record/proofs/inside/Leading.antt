-- A leader is written, comes or goes.
use Rattle.std.proofs.Common.{◌<◌, ◌∙◌, ◌≡◌, ◌≢◌, List, None, ap, cond, false, get_or, length, refl, set, sym, true, ℕ}
use Rattle.std.specs.FinMap.{get, get-remove, remove, same_map}
use Rattle.std.specs.Option.{option_map}
use Rattle.pack_laws.specs.alto_words.specs.Fid.{is_fid}
use Rattle.pack_laws.specs.alto_words.specs.declared.fid.Fid.{Fid}
use Rattle.pack_laws.specs.pack_model.specs.reading.Bodies.{found}
use Rattle.pack_laws.specs.pack_model.specs.reading.Files.{file_bytes, leader, leader_at, page_at}
use Rattle.pack_laws.specs.pack_model.specs.reading.Sights.{Sight}
use Rattle.pack_laws.specs.pack_model.specs.reading.Sights.Sight.{free, hidden}
use Rattle.pack_laws.proofs.Firsts.{first_alone, first_same}
use Rattle.pack_laws.proofs.Keys.{fid_same, fid_total, same_fid}
use Rattle.laws_record.proofs.Framing.{bytes_same}
use Rattle.laws_record.proofs.Reading.{get-found, get_alike, read_file}

-- sector i shows no page but the leader of f, and no other sector shows that
pub record LeadsAlone (ss : List Sight) (i : ℕ) (f : Fid) : Type 0 where
  pub within : i < length ss
  pub no_page : (g : Fid) (n : ℕ) → page_at g n (get_or ss i hidden) ≡ None
  pub no_other : (g : Fid) → is_fid g f ≡ false → leader_at g (get_or ss i hidden) ≡ None
  pub alone : (j : ℕ) (d : Sight) → j < length ss → j ≢ i → leader_at f (get_or ss j d) ≡ None

module _ (ss : List Sight) (i : ℕ) (f : Fid) (h : LeadsAlone ss i f) where
  -- the bytes of all files stay
  module_parts : (s : Sight) → ((g : Fid) (n : ℕ) → page_at g n s ≡ None) → (g : Fid) → file_bytes (set ss i s) g ≡ file_bytes ss g
  module_parts s none g = bytes_same ss i s g (λ n. none g n ∙ sym (h.no_page g n))

  -- the leaders of other files stay
  other_leaders : (s : Sight) → ((g : Fid) → is_fid g f ≡ false → leader_at g s ≡ None) → (g : Fid) → is_fid g f ≡ false → leader (set ss i s) g ≡ leader ss g
  other_leaders s none g e = first_same (leader_at g) ss i s hidden (none g e ∙ sym (h.no_other g e))

  -- a leader goes
  pub drop_step : found (set ss i free) ≡ remove (found ss) f
  drop_step = same_map fid_total fid_same _ _ (λ g. at g ∙ sym (get-remove fid_total (found ss) f g))
    where
      at : (g : Fid) → get (found (set ss i free)) g ≡ cond (is_fid g f) None (get (found ss) g)
      at g = elim (is_fid g f) as (λ b. is_fid g f ≡ b → get (found (set ss i free)) g ≡ cond b None (get (found ss) g)) [
        | true ↦ λ e. get-found (set ss i free) g ∙ ap (option_map (read_file g (file_bytes (set ss i free) g))) (ap (leader (set ss i free)) (same_fid g f e) ∙ first_alone (leader_at f) ss i free h.within h.alone)
        | false ↦ λ e. get_alike ss (set ss i free) g (other_leaders free (λ g e. refl) g e) (module_parts free (λ g n. refl) g)
      ] refl
