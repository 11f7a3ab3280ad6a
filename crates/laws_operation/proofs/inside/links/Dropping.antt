-- A drop except its entry's slot.
use Rattle.std.proofs.Common.{List, None, Option, Some, ap, cond, false, inl, inr, refl, subst, suc, sym, true, zero, ℕ, ◌∙◌, ◌∷◌, ◌≡◌}
use Rattle.std.specs.FinMap.{get, get-remove, remove}
use Rattle.std.specs.Option.{option_map}
use Rattle.laws_contents.specs.alto_words.specs.Fid.{is_fid}
use Rattle.laws_contents.specs.alto_words.specs.declared.fid.Fid.{Fid}
use Rattle.laws_contents.specs.disk_records.specs.Packs.{Pack, after}
use Rattle.laws_contents.specs.disk_records.specs.declared.records.Event.{Event}
use Rattle.laws_contents.specs.pack_model.specs.reading.Bodies.{Body, File, body_items, items_in}
use Rattle.laws_contents.specs.pack_model.specs.reading.Bodies.Body.{data_of, items_of}
use Rattle.laws_contents.specs.pack_model.specs.reading.Bytes.{words_of}
use Rattle.laws_contents.specs.pack_model.specs.reading.Files.{place}
use Rattle.laws_contents.specs.pack_model.specs.hints.Links.{dir_words}
use Rattle.laws_contents.specs.pack_model.specs.reading.Model.{Model, dir_items, read_as}
use Rattle.laws_contents.specs.pack_model.specs.operations.Operations.{release_file_writes}
use Rattle.laws_contents.specs.pack_model.specs.operations.PageWords.{page_number}
use Rattle.laws_contents.specs.pack_model.specs.reading.Sights.{Sight, sights}
use Rattle.laws_contents.specs.pack_model.specs.reading.Sights.Sight.{hidden}
use Rattle.laws_contents.specs.pack_model.specs.operations.Step.{body_without, file_without, items_without, step}
use Rattle.laws_contents.specs.pack_model.specs.operations.Step.Operation.{drop_file}
use Rattle.laws_contents.specs.pack_model.specs.states.Whole.{FileWhole, Headless, Whole, absent, present}
use Rattle.laws_contents.specs.pack_laws.proofs.Keys.{fid_same, fid_total, same_fid}
use Rattle.laws_contents.specs.pack_laws.proofs.Mapping.{get-map_values}
use Rattle.laws_contents.specs.pack_laws.proofs.Placing.{leader_of_place, page_of_place, place_of_leader}
use Rattle.laws_contents.specs.laws_record.proofs.Copying.{place_carried}
use Rattle.laws_contents.specs.laws_record.proofs.DirReads.{has_leader}
use Rattle.laws_operation.proofs.Dropped.{release_law}
use Rattle.laws_operation.specs.LifeLaws.{MayDrop}
use Rattle.laws_operation.proofs.inside.links.Addresses.{AllTrue, true_without}
use Rattle.laws_operation.proofs.inside.links.Directories.{DirTrue, all_dirs, dirs_true, other_bytes, other_lives}
use Rattle.laws_operation.proofs.inside.links.Framing.{AllConcern, other_place}
use Rattle.laws_operation.proofs.inside.links.OneFile.{pages_true}
use Rattle.laws_operation.proofs.inside.links.Releases.{bear_of, releases_concern}
use Rattle.laws_operation.proofs.inside.links.Values.{of_carried}
use Rattle.laws_operation.specs.LinkLaws.{ReleaseKeepsLinks}

-- no sector is a place of a whole file without a leader
pub none_there : (ss : List Sight) (f : Fid) → FileWhole ss f → Headless ss f → (n i : ℕ) → place ss f n ≡ Some i → ⊥
none_there ss f whole headless zero i e = let h = leader_of_place ss f i e in headless i h.readable h.lead (h.shows hidden)
none_there ss f (absent bare c) headless (suc n) i e = let h = page_of_place ss f n i e in elim (c.only i n h.bytes (h.shows hidden)) [ inl s ↦ s | inr s ↦ s ]
none_there ss f (present at l pages h c laid few) headless (suc n) i e = headless at true l h.shows

-- a directory that isn't f loses f's entries
items_gone : (m : Model) (f d : Fid) → is_fid d f ≡ false → dir_items (step m (drop_file f)) d ≡ items_without f (dir_items m d)
items_gone m f d ne =
    ap items_in (get-map_values fid_total fid_same (file_without f) (remove m.files f) d)
    ∙ ap (λ r. items_in (option_map (file_without f d) r)) (get-remove fid_total m.files f d ∙ ap (λ b. cond b None (get m.files d)) ne)
    ∙ by (get m.files d)
  where
    of_body : (x : Body) → body_items (body_without f x) ≡ items_without f (body_items x)
    of_body (data_of bytes) = refl
    of_body (items_of is) = refl

    by : (r : Option File) → items_in (option_map (file_without f d) r) ≡ items_without f (items_in r)
    by None = refl
    by (Some x) = of_body x.body

-- all record writes but the last concern the file
pub release_concerns : (p : Pack) (f : Fid) (at : ℕ) (pages : List ℕ) → MayDrop p f at pages → AllConcern f p (release_file_writes at pages)
release_concerns p f at pages h = releases_concern f (at ∷ pages) p (of_carried f 0 p at (place_carried p (page_number f 0) at h.sector), bear_of p f 1 pages h.pages_are)

-- they keep links true
pub release_keeps_links : ReleaseKeepsLinks
release_keeps_links p f at pages w t h links =
    let events : List Event = release_file_writes at pages in
    let q : Pack = after p events in
    let out = (release_law p w t f at pages h).0 in
    let wq : Whole q = out.drops.whole in
    let all : AllConcern f p events = release_concerns p f at pages h in
    let none : (n i : ℕ) → place (sights q) f n ≡ Some i → ⊥ = none_there (sights q) f (wq.files f) out.drops.gone in
    record {
      pages = pages_true p f events w wq all (λ n i there. absurd (none n i there)) links.pages;
      entries = all_dirs q (λ d live dir. elim (is_fid d f) as (λ b. is_fid d f ≡ b → DirTrue q d) [
        | true ↦ λ e. let l = has_leader (sights q) d live in let r = place_of_leader (sights q) d l.0 l.1 in absurd (none 0 r.0 (subst (λ k. place (sights q) k 0 ≡ Some r.0) (same_fid d f e) r.1))
        | false ↦ λ e.
            let words : dir_words q d ≡ dir_words p d = ap words_of (other_bytes p f events w wq all d e) in
            let items : dir_items (read_as q) d ≡ items_without f (dir_items (read_as p) d) = ap (λ m. dir_items m d) out.ends ∙ items_gone (read_as p) f d e in
            let was : DirTrue p d = dirs_true p links.entries d (other_lives p f events w wq all d e live) dir in
            let moved = true_without (sights p) (sights q) f (dir_words p d) 0 (dir_items (read_as p) d) (λ g a ne x. other_place p f events w wq all g 0 ne ∙ x) was in
            subst (λ ws. AllTrue (sights q) ws 0 (dir_items (read_as q) d)) (sym words) (subst (AllTrue (sights q) (dir_words p d) 0) (sym items) moved)
      ] refl);
    }
