-- The living file of least full name with a serial, once its name is found.
use Rattle.std.proofs.Common.{◌≡◌, ℕ, Bool, true, false, cond, List, [], ◌∷◌, Option, Some, None, refl, sym, ap, ◌∙◌, eqb-true}
use Rattle.std.specs.Prelude.{◌==◌, find, fold}
use Rattle.std.specs.Option.{option_map}
use Rattle.std.specs.FinMap.{find as find_key, get, get-entries, entries}
use Rattle.pack_model.specs.alto_words.specs.declared.fid.Fid.{Fid}
use Rattle.pack_model.specs.alto_words.specs.Fid.{fid_cmp, is_fid, serial_of}
use Rattle.pack_model.specs.reading.Leaders.{Leader}
use Rattle.pack_model.specs.reading.Sights.{Sight}
use Rattle.pack_model.specs.reading.Files.{leader, file_bytes}
use Rattle.pack_model.specs.reading.Stored.{StoredFile, files_shown, stored_file, file_of_serial}
use Rattle.pack_laws.specs.Least.{least_shown}
use Rattle.pack_laws.proofs.Keys.{is_fid-itself, same_fid}
use Rattle.pack_laws.proofs.Storing.{get-files_shown}
use Rattle.pack_laws.proofs.Serials.{file_of_serial-fold}

-- the first entry that passes a test of its key is what its key has
find_get : {X : Type 0} (test : Fid → Bool) (es : List (Fid × X)) (e : Fid × X) → find (λ e. test e.0) es ≡ Some e → (test e.0 ≡ true) × (find_key fid_cmp e.0 es ≡ Some e.1)
find_get test [] e is = absurd cc
find_get {X} test (x ∷ es) e is = by (test x.0) refl is (find_get test es e)
  where
    by : (t : Bool) → test x.0 ≡ t → cond t (Some x) (find (λ e. test e.0) es) ≡ Some e → (find (λ e. test e.0) es ≡ Some e → (test e.0 ≡ true) × (find_key fid_cmp e.0 es ≡ Some e.1)) → (test e.0 ≡ true) × (find_key fid_cmp e.0 (x ∷ es) ≡ Some e.1)
    by true passes same later =
        let one : x ≡ e = cc in
        (ap (λ y. test y.0) (sym one) ∙ passes, ap (λ y. find_key fid_cmp y.0 (x ∷ es)) (sym one) ∙ ap (λ b. cond b (Some x.1) (find_key fid_cmp x.0 es)) (is_fid-itself x.0) ∙ ap (λ y. Some y.1) one)
    by false fails same later =
        let r = later same in (
          r.0,
          elim (is_fid e.0 x.0) as (λ b. is_fid e.0 x.0 ≡ b → cond b (Some x.1) (find_key fid_cmp e.0 es) ≡ Some e.1) [
            | true ↦ λ tie. absurd (let t : test x.0 ≡ true = ap test (sym (same_fid e.0 x.0 tie)) ∙ r.0 in cc)
            | false ↦ λ apart. r.1
          ] refl,
        )

-- A file with this serial: it lives, and is its leader and its bytes.
pub record IsOfSerial (ss : List Sight) (serial : ℕ) (f : Fid) : Type 0 where
  pub lead : Leader
  pub serial_is : serial_of f ≡ serial
  pub leader_is : leader ss f ≡ Some lead
  pub found : file_of_serial (files_shown ss) serial ≡ Some (f, record { leader = lead; bytes = file_bytes ss f })

-- the name that a look at each sector found is that of the file
pub serial_found : (ss : List Sight) (serial : ℕ) (f : Fid) → fold (least_shown serial) None ss ≡ Some f → IsOfSerial ss serial f
serial_found ss serial f e = by (file_of_serial (files_shown ss) serial) refl (file_of_serial-fold serial ss ∙ e)
  where
    at : (r : Option Leader) (x : StoredFile) → option_map (stored_file ss f) r ≡ Some x → (l : Leader) × (r ≡ Some l) × (x ≡ record { leader = l; bytes = file_bytes ss f })
    at None x e = absurd cc
    at (Some l) x e = (l, refl, cc)

    by : (r : Option (Fid × StoredFile)) → file_of_serial (files_shown ss) serial ≡ r → option_map (λ e. e.0) r ≡ Some f → IsOfSerial ss serial f
    by None is e = absurd cc
    by (Some x) is e =
        let name : x.0 ≡ f = cc in
        let h = find_get (λ g. serial_of g == serial) (entries (files_shown ss)) x is in
        let has : option_map (stored_file ss f) (leader ss f) ≡ Some x.1 =
        sym (get-files_shown ss f) ∙ ap (get (files_shown ss)) (sym name) ∙ get-entries (files_shown ss) x.0 ∙ h.1 in
        let r = at (leader ss f) x.1 has in
        record {
          lead = r.0;
          serial_is = ap serial_of (sym name) ∙ eqb-true (serial_of x.0) serial h.0;
          leader_is = r.1;
          found = is ∙ (λ i. Some (name i, r.2 i));
        }
