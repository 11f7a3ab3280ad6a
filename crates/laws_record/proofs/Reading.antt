-- The files that are found in sectors, with their bodies, by their look-ups.
use Rattle.std.proofs.Common.{◌∙◌, ◌≡◌, List, None, Some, ap, cond, false, refl, sym, true, ℕ}
use Rattle.std.specs.FinMap.{FinMap, get, get-insert, insert, same_map}
use Rattle.std.specs.Option.{option_map}
use Rattle.pack_laws.specs.alto_words.specs.Fid.{fid_cmp, is_fid}
use Rattle.pack_laws.specs.alto_words.specs.declared.fid.Fid.{Fid}
use Rattle.pack_laws.specs.pack_model.specs.reading.Bodies.{File, body_of, file_of, found}
use Rattle.pack_laws.specs.pack_model.specs.reading.Files.{file_bytes, leader}
use Rattle.pack_laws.specs.pack_model.specs.reading.Leaders.{Leader}
use Rattle.pack_laws.specs.pack_model.specs.reading.Sights.{Sight}
use Rattle.pack_laws.specs.pack_model.specs.reading.Stored.{files_shown, stored_file}
use Rattle.pack_laws.proofs.Keys.{fid_same, fid_total, same_fid}
use Rattle.pack_laws.proofs.Mapping.{get-map_values}
use Rattle.pack_laws.proofs.Storing.{get-files_shown}
use Rattle.pack_laws.proofs.Uses.{map_twice}

-- a file, by its leader and its bytes
abbrev pub read_file : Fid → List ℕ → Leader → File
read_file f bytes l = record { leader = l; body = body_of f bytes }

-- a file is found where it has a leader
pub get-found : (ss : List Sight) (f : Fid) → get (found ss) f ≡ option_map (read_file f (file_bytes ss f)) (leader ss f)
unfolding found
get-found ss f =
    get-map_values fid_total fid_same file_of (files_shown ss) f
    ∙ ap (option_map (file_of f)) (get-files_shown ss f)
    ∙ map_twice (file_of f) (stored_file ss f) (leader ss f)

-- with the same leaders, and the same bytes of each file that lives, the same files are found
pub found_frame : (ss tt : List Sight) → ((f : Fid) → leader ss f ≡ leader tt f) → ((f : Fid) → (leader ss f ≡ None → ⊥) → file_bytes ss f ≡ file_bytes tt f) → found ss ≡ found tt
found_frame ss tt l b = same_map fid_total fid_same (found ss) (found tt) (λ f. get-found ss f ∙ same_file f ∙ sym (get-found tt f))
  where
    same_bytes : (f : Fid) → option_map (read_file f (file_bytes ss f)) (leader ss f) ≡ option_map (read_file f (file_bytes tt f)) (leader ss f)
    same_bytes f = elim (leader ss f) as (λ r. leader ss f ≡ r → option_map (read_file f (file_bytes ss f)) r ≡ option_map (read_file f (file_bytes tt f)) r) [
      | None ↦ λ is. refl
      | Some x ↦ λ is. ap (λ bytes. Some (read_file f bytes x)) (b f (λ none. cc))
    ] refl

    same_file : (f : Fid) → option_map (read_file f (file_bytes ss f)) (leader ss f) ≡ option_map (read_file f (file_bytes tt f)) (leader tt f)
    same_file f = same_bytes f ∙ ap (option_map (read_file f (file_bytes tt f))) (l f)

-- a map that differs at one file
pub insert_from_get : {X : Type 0} (m n : FinMap fid_cmp X) (f : Fid) (x : X) → get n f ≡ Some x → ((g : Fid) → is_fid g f ≡ false → get n g ≡ get m g) → n ≡ insert m f x
insert_from_get m n f x here there = same_map fid_total fid_same n (insert m f x) (λ g. at g ∙ sym (get-insert fid_total m f x g))
  where
    at : (g : Fid) → get n g ≡ cond (is_fid g f) (Some x) (get m g)
    at g = elim (is_fid g f) as (λ b. is_fid g f ≡ b → get n g ≡ cond b (Some x) (get m g)) [
      | true ↦ λ e. ap (get n) (same_fid g f e) ∙ here
      | false ↦ λ e. there g e
    ] refl

-- a file with this leader and these bytes
pub get_by : (ss : List Sight) (f : Fid) (l : Leader) (bytes : List ℕ) → leader ss f ≡ Some l → file_bytes ss f ≡ bytes → get (found ss) f ≡ Some (read_file f bytes l)
get_by ss f l bytes a b = get-found ss f ∙ ap (option_map (read_file f (file_bytes ss f))) a ∙ ap (λ x. Some (read_file f x l)) b

-- a file with the same leader and the same bytes
pub get_alike : (ss tt : List Sight) (f : Fid) → leader tt f ≡ leader ss f → file_bytes tt f ≡ file_bytes ss f → get (found tt) f ≡ get (found ss) f
get_alike ss tt f a b = get-found tt f ∙ ap (option_map (read_file f (file_bytes tt f))) a ∙ ap (λ x. option_map (read_file f x) (leader ss f)) b ∙ sym (get-found ss f)
