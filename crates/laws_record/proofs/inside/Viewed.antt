-- Views of files that are scanned, by what is seen of each and by who is named where.
use Rattle.std.proofs.Common.{◌∙◌, ◌≡◌, Bool, None, Option, [], ap, cond, false, not, refl, sym, true, ℕ}
use Rattle.std.specs.FinMap.{entries, find, get, get-from_entries, same_map}
use Rattle.std.specs.Option.{option_map}
use Rattle.pack_laws.specs.alto_words.specs.Fid.{fid_cmp, is_system}
use Rattle.pack_laws.specs.alto_words.specs.declared.fid.Fid.{Fid}
use Rattle.pack_laws.specs.disk_records.specs.declared.shape.Shape.{Shape}
use Rattle.pack_laws.specs.pack_model.specs.reading.Bodies.{Files}
use Rattle.pack_laws.specs.pack_model.specs.sessions.Maps.{map_values}
use Rattle.pack_laws.specs.pack_model.specs.reading.Namings.{files_kept, is_kept, namings, tidied}
use Rattle.pack_laws.specs.pack_model.specs.showing.View.{Home, homes, names_of, seen_of, view}
use Rattle.laws_record.proofs.Keeping.{get-where}
use Rattle.pack_laws.proofs.Keys.{fid_same, fid_total}
use Rattle.pack_laws.proofs.Mapping.{get-map_values}
use Rattle.laws_record.proofs.Mending.{entries-tidied, get-seen}
use Rattle.laws_record.proofs.Viewing.{same_view}

-- where a scan leaves a file named
abbrev pub name_left : (Fid → Bool) → Files → Fid → Option Home
name_left v m q = find fid_cmp q (homes (namings (files_kept (is_kept v) [] (entries m))))

-- the same is seen of each file but the system ones, and each has the same name
pub tidied_view : (shape : Shape) (good last good2 last2 : ℕ) (v w : Fid → Bool) (m n : Files) → ((q : Fid) → is_system q ≡ false → option_map (seen_of q) (get m q) ≡ option_map (seen_of q) (get n q)) → ((q : Fid) → is_system q ≡ false → name_left v m q ≡ name_left w n q)
    → view (record { shape = shape; good = good; last = last; files = tidied v m }) ≡ view (record { shape = shape; good = good2; last = last2; files = tidied w n })
unfolding view
tidied_view shape good last good2 last2 v w m n same names = same_view _ _ _ _
    (same_map fid_total fid_same _ _ (λ q. get-where _ (λ f. not (is_system f)) q ∙ seen q ∙ sym (get-where _ (λ f. not (is_system f)) q)))
    (same_map fid_total fid_same _ _ (λ q. get-where _ (λ f. not (is_system f)) q ∙ named q ∙ sym (get-where _ (λ f. not (is_system f)) q)))
  where
    look : (v : Fid → Bool) (m : Files) (q : Fid) → get (map_values {R = fid_cmp} seen_of (tidied v m)) q ≡ option_map (seen_of q) (get m q)
    look v m q = get-map_values fid_total fid_same seen_of (tidied v m) q ∙ get-seen v m q

    seen : (q : Fid) → cond (not (is_system q)) (get (map_values {R = fid_cmp} seen_of (tidied v m)) q) None ≡ cond (not (is_system q)) (get (map_values {R = fid_cmp} seen_of (tidied w n)) q) None
    seen q = elim (is_system q) as (λ b. is_system q ≡ b → cond (not b) (get (map_values {R = fid_cmp} seen_of (tidied v m)) q) None ≡ cond (not b) (get (map_values {R = fid_cmp} seen_of (tidied w n)) q) None) [
      | true ↦ λ e. refl
      | false ↦ λ e. look v m q ∙ same q e ∙ sym (look w n q)
    ] refl

    find_name : (v : Fid → Bool) (m : Files) (q : Fid) → get (names_of (tidied v m)) q ≡ name_left v m q
    find_name v m q = get-from_entries fid_total (homes (namings (entries (tidied v m)))) q ∙ ap (λ es. find fid_cmp q (homes (namings es))) (entries-tidied v m)

    named : (q : Fid) → cond (not (is_system q)) (get (names_of (tidied v m)) q) None ≡ cond (not (is_system q)) (get (names_of (tidied w n)) q) None
    named q = elim (is_system q) as (λ b. is_system q ≡ b → cond (not b) (get (names_of (tidied v m)) q) None ≡ cond (not b) (get (names_of (tidied w n)) q) None) [
      | true ↦ λ e. refl
      | false ↦ λ e. find_name v m q ∙ names q e ∙ sym (find_name w n q)
    ] refl
