-- Places, leaders and stored files of a pack, by what its sectors carry.
use Rattle.std.proofs.Common.{List, None, Option, Some, ap, arith, get_or, length, refl, subst, sym, ℕ, ◌<◌, ◌∙◌, ◌≡◌, ◌≢◌}
use Rattle.std.specs.Option.{is_some, option_map}
use Rattle.std.specs.FinMap.{get}
use Rattle.pack_model.specs.alto_words.specs.declared.fid.Fid.{Fid}
use Rattle.pack_model.specs.disk_records.specs.declared.records.Page.{Page}
use Rattle.pack_model.specs.disk_records.specs.Packs.{Pack, carried}
use Rattle.pack_model.specs.reading.Leaders.{Leader}
use Rattle.pack_model.specs.reading.Sights.{Sight, sights}
use Rattle.pack_model.specs.reading.Sights.Sight.{hidden}
use Rattle.pack_model.specs.reading.Files.{carries_page, file_bytes, leader, leader_at, page_at, place}
use Rattle.pack_model.specs.reading.Stored.{StoredFile, stored_file, stored_files}
use Rattle.pack_laws.specs.FileLaws.{CarriesLowest, FilesAreBorne, IsStoredFile, PlaceIsLowest}
use Rattle.pack_laws.proofs.Firsts.{first_is_borne}
use Rattle.pack_laws.proofs.Sighted.{length-sights}
use Rattle.pack_laws.proofs.Placing.{place_from, place_is, place_none}
use Rattle.pack_laws.proofs.Carrying.{carried_shown, sight_carries}
use Rattle.pack_laws.proofs.Guarding.{carried_parts, usable_within}
use Rattle.pack_laws.proofs.Storing.{get-files_shown}
use Rattle.std.proofs.lemmas.Bool.{false_from_ne_true}

-- ---- bearers
pub leaders_and_pages_are_borne : (ss : List Sight) (f : Fid) → FilesAreBorne ss f
leaders_and_pages_are_borne ss f = record { leaders = first_is_borne (leader_at f) ss; pages = λ n. first_is_borne (page_at f n) ss }

-- ---- places
-- a sector that carries a page is one of the pack's
carried_within : (p : Pack) (at : ℕ) (page : Page) → carried p at ≡ Some page → at < length p.sectors
carried_within p at page is = usable_within p at (carried_parts p at page is).0

module _ (p : Pack) (page : Page) where
  -- the place of a page carries it, and no lower sector does
  lowest_of_place : (at : ℕ) → place (sights p) page.fid page.number ≡ Some at → CarriesLowest p page at
  lowest_of_place at e =
      let h = place_is (sights p) page.fid page.number at e in
      let l : at < length p.sectors = subst (λ k. at < k) (length-sights p) h.within in
      record {
        here = carried_shown p at page hidden l (h.carries hidden);
        lowest = λ j below is.
            let shown = sight_carries p j page hidden (omega arith) is in
            let not_shown = h.lowest j hidden below in
            absurd cc;
      }

  -- the lowest sector that carries a page is its place
  place_of_lowest : (at : ℕ) → CarriesLowest p page at → place (sights p) page.fid page.number ≡ Some at
  place_of_lowest at h =
      let l : at < length p.sectors = carried_within p at page h.here in
      place_from (sights p) page.fid page.number at (record {
        within = subst (λ k. at < k) (sym (length-sights p)) l;
        carries = λ d. sight_carries p at page d l h.here;
        lowest = λ j d below. false_from_ne_true (carries_page page.fid page.number (get_or (sights p) j d)) (λ shown. h.lowest j below (carried_shown p j page d (omega arith) shown));
      })

  -- where there is no place no sector carries the page
  none_carries : place (sights p) page.fid page.number ≡ None → (at : ℕ) → carried p at ≢ Some page
  none_carries e at is =
      let l : at < length p.sectors = carried_within p at page is in
      let shown = sight_carries p at page hidden l is in
      let not_shown = place_none (sights p) page.fid page.number at hidden e (subst (λ k. at < k) (sym (length-sights p)) l) in
      absurd cc

-- both ways
pub places_are_lowest : (p : Pack) (page : Page) → PlaceIsLowest p page
places_are_lowest p page = record { lowest = lowest_of_place p page; place_is = place_of_lowest p page; none = none_carries p page }

-- ---- stored files
-- what stands for a leader is there where the leader is
kept_some : (ss : List Sight) (f : Fid) (r : Option Leader) → is_some (option_map (stored_file ss f) r) ≡ is_some r
kept_some ss f None = refl
kept_some ss f (Some l) = refl

-- and says which leader it is, and the bytes
kept_leader : (ss : List Sight) (f : Fid) (r : Option Leader) (x : StoredFile) → option_map (stored_file ss f) r ≡ Some x → (r ≡ Some x.leader) × (x.bytes ≡ file_bytes ss f)
kept_leader ss f None x e = absurd cc
kept_leader ss f (Some l) x e = let same : x ≡ stored_file ss f l = cc in (ap (λ y. Some y.leader) (sym same), ap (λ y. y.bytes) same)

pub stored_files_are_leaders_and_bytes : (p : Pack) (f : Fid) → IsStoredFile p f
stored_files_are_leaders_and_bytes p f =
    let ss : List Sight = sights p in
    let both : (x : StoredFile) → get (stored_files p) f ≡ Some x → (leader ss f ≡ Some x.leader) × (x.bytes ≡ file_bytes ss f) = λ x e. kept_leader ss f (leader ss f) x (sym (get-files_shown ss f) ∙ e) in
    record {
      living = ap is_some (get-files_shown ss f) ∙ kept_some ss f (leader ss f);
      stored = λ l e. get-files_shown ss f ∙ ap (option_map (stored_file ss f)) e;
      leader_is = λ x e. (both x e).0;
      bytes_are = λ x e. (both x e).1;
    }
