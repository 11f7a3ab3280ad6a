-- The living files that sectors show, by their look-ups.
use Rattle.std.proofs.Common.{◌≡◌, ℕ, Bool, true, false, cond, List, [], ◌∷◌, Option, Some, None, refl, sym, ap, ◌∙◌}
use Rattle.std.specs.Option.{option_map, option_or}
use Rattle.std.specs.FinMap.{find, get, get-from_entries, from_entries, same_map}
use Rattle.pack_model.specs.alto_words.specs.declared.fid.Fid.{Fid}
use Rattle.pack_model.specs.alto_words.specs.Fid.{fid_cmp, is_fid}
use Rattle.pack_model.specs.reading.Bytes.{put_at}
use Rattle.pack_model.specs.reading.Leaders.{Leader}
use Rattle.pack_model.specs.reading.Sights.{Sight}
use Rattle.pack_model.specs.reading.Sights.Sight.{hidden, free, stray, leads, holds}
use Rattle.pack_model.specs.reading.Files.{first, leader, file_bytes}
use Rattle.pack_model.specs.reading.Stored.{leader_entries, stored_file, files_shown, put_bytes, stored_put}
use Rattle.pack_laws.proofs.Keys.{fid_total, fid_same, same_fid}
use Rattle.pack_laws.proofs.Mapping.{get-map_values, get-update}

-- an answer by a test, and the rest
cond_or : {X : Type 0} (b : Bool) (x : X) (q : Option X) → cond b (Some x) q ≡ option_or (cond b (Some x) None) q
cond_or true x q = refl
cond_or false x q = refl

-- the first leader entry of a file is its leader
find-leaders : (ss : List Sight) (f : Fid) → find fid_cmp f (leader_entries ss) ≡ leader ss f
unfolding first
find-leaders [] f = refl
find-leaders (hidden ∷ ss) f = find-leaders ss f
find-leaders (free ∷ ss) f = find-leaders ss f
find-leaders (stray ∷ ss) f = find-leaders ss f
find-leaders (holds g n bytes ∷ ss) f = find-leaders ss f
find-leaders (leads g r l ∷ ss) f = ap (cond (is_fid f g) (Some l)) (find-leaders ss f) ∙ cond_or (is_fid f g) l (leader ss f)

-- A file lives where it has a leader, and is that leader and its bytes.
pub get-files_shown : (ss : List Sight) (f : Fid) → get (files_shown ss) f ≡ option_map (stored_file ss f) (leader ss f)
unfolding files_shown
get-files_shown ss f =
    get-map_values fid_total fid_same (stored_file ss) (from_entries (leader_entries ss)) f
    ∙ ap (option_map (stored_file ss f)) (get-from_entries fid_total (leader_entries ss) f ∙ find-leaders ss f)

-- Sights that differ in the bytes of one file show files that differ by those bytes. If it doesn't live they show the same.
pub changed_files : (ss tt : List Sight) (f : Fid) (offset : ℕ) (new : List ℕ) → ((g : Fid) → leader tt g ≡ leader ss g) → ((g : Fid) → is_fid g f ≡ false → file_bytes tt g ≡ file_bytes ss g)
    → file_bytes tt f ≡ put_at offset new (file_bytes ss f) → files_shown tt ≡ stored_put (files_shown ss) f offset new
changed_files ss tt f offset new l others here = same_map fid_total fid_same (files_shown tt) (stored_put (files_shown ss) f offset new)
    (λ g. get-files_shown tt g ∙ ap (option_map (stored_file tt g)) (l g) ∙ at g ∙ sym (get-update fid_total fid_same (files_shown ss) f (put_bytes offset new) g))
  where
    put_in : (r : Option Leader) → option_map (stored_file tt f) r ≡ option_map (put_bytes offset new) (option_map (stored_file ss f) r)
    put_in None = refl
    put_in (Some x) = ap (λ bytes. Some (record { leader = x; bytes = bytes })) here

    kept : (g : Fid) (r : Option Leader) → file_bytes tt g ≡ file_bytes ss g → option_map (stored_file tt g) r ≡ option_map (stored_file ss g) r
    kept g None e = refl
    kept g (Some x) e = ap (λ bytes. Some (record { leader = x; bytes = bytes })) e

    at : (g : Fid) → option_map (stored_file tt g) (leader ss g) ≡ cond (is_fid g f) (option_map (put_bytes offset new) (get (files_shown ss) f)) (get (files_shown ss) g)
    at g = elim (is_fid g f) as (λ b. is_fid g f ≡ b → option_map (stored_file tt g) (leader ss g) ≡ cond b (option_map (put_bytes offset new) (get (files_shown ss) f)) (get (files_shown ss) g)) [
      | true ↦ λ e. ap (λ h. option_map (stored_file tt h) (leader ss h)) (same_fid g f e) ∙ put_in (leader ss f) ∙ ap (option_map (put_bytes offset new)) (sym (get-files_shown ss f))
      | false ↦ λ e. kept g (leader ss g) (others g e) ∙ sym (get-files_shown ss g)
    ] refl
