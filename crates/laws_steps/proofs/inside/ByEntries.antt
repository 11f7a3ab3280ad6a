-- The first full name with a serial among the entries of a model.
use Rattle.std.proofs.Common.{Bool, List, None, Option, Some, [], ap, arith, cond, false, fold, not, refl, sym, true, ℕ, ◌==◌, ◌∙◌, ◌∷◌, ◌≡◌}
use Rattle.std.proofs.lemmas.Bool.Decides.{nat_tests}
use Rattle.std.specs.FinMap.Entries.{where_key}
use Rattle.std.specs.FinMap.{entries}
use Rattle.std.specs.Option.{option_map, option_or}
use Rattle.std.specs.Prelude.{find}
use Rattle.laws_call.specs.alto_words.specs.Fid.{disk_descriptor, fid_cmp, is_fid, serial_of}
use Rattle.laws_call.specs.alto_words.specs.declared.fid.Fid.{Fid}
use Rattle.laws_call.specs.disk_records.specs.Packs.{Pack}
use Rattle.laws_call.specs.laws_record.proofs.Mending.{entries-tidied}
use Rattle.pack_laws.proofs.ByLists.{entries-retain_keys}
use Rattle.pack_laws.proofs.Keys.{fid_same, fid_total, same_fid}
use Rattle.pack_laws.proofs.Mapping.{entries-map_values}
use Rattle.pack_laws.proofs.Serials.{file_of_serial-fold}
use Rattle.pack_laws.specs.Least.{least_shown}
use Rattle.laws_call.specs.pack_model.specs.reading.Bodies.{File, described, file_of, found, is_described}
use Rattle.laws_call.specs.pack_model.specs.reading.Files.{first, lives}
use Rattle.laws_call.specs.pack_model.specs.reading.Model.{read_as, read_sights}
use Rattle.laws_call.specs.pack_model.specs.reading.Namings.{Naming, files_kept, is_kept, kept_after_body}
use Rattle.laws_call.specs.pack_model.specs.reading.Sights.{Sight, sights}
use Rattle.laws_call.specs.pack_model.specs.reading.Stored.{files_shown}
use Rattle.laws_call.specs.pack_model.specs.sessions.Maps.{map_entries}

-- ---- the entries of maps
-- the first full name with a serial
abbrev pub of_serial : {X : Type 0} → ℕ → List (Fid × X) → Option Fid
of_serial n es = first (λ e. cond (serial_of e.0 == n) (Some e.0) None) es

of_found : {X : Type 0} (n : ℕ) (es : List (Fid × X)) → of_serial n es ≡ option_map (λ e. e.0) (find (λ e. serial_of e.0 == n) es)
unfolding first
of_found n [] = refl
of_found n (e ∷ es) = by (serial_of e.0 == n) (of_found n es)
  where
    by : (b : Bool) → of_serial n es ≡ option_map (λ e. e.0) (find (λ e. serial_of e.0 == n) es) → option_or (cond b (Some e.0) None) (of_serial n es) ≡ option_map (λ e. e.0) (cond b (Some e) (find (λ e. serial_of e.0 == n) es))
    by true rest = refl
    by false rest = rest

of_values : {X Y : Type 0} (n : ℕ) (g : Fid → X → Y) (es : List (Fid × X)) → of_serial n (map_entries g es) ≡ of_serial n es
unfolding first
of_values n g [] = refl
of_values n g (e ∷ es) = ap (option_or (cond (serial_of e.0 == n) (Some e.0) None)) (of_values n g es)

of_kept : (n : ℕ) (ok : List Naming → Naming → Bool) (before : List Naming) (es : List (Fid × File)) → of_serial n (files_kept ok before es) ≡ of_serial n es
unfolding first
of_kept n ok before [] = refl
of_kept n ok before (e ∷ es) = ap (option_or (cond (serial_of e.0 == n) (Some e.0) None)) (of_kept n ok (kept_after_body ok e.0 before e.1.body) es)

-- another serial than DiskDescriptor's
of_described : {X : Type 0} (n : ℕ) (es : List (Fid × X)) → (n == serial_of disk_descriptor) ≡ false → of_serial n (where_key fid_cmp is_described es) ≡ of_serial n es
unfolding first
of_described n [] other = refl
of_described {X} n (e ∷ es) other = by (is_fid e.0 disk_descriptor) refl (of_described n es other)
  where
    by : (b : Bool) → is_fid e.0 disk_descriptor ≡ b → of_serial n (where_key fid_cmp is_described es) ≡ of_serial n es
        → of_serial n (cond (not b) (e ∷ where_key fid_cmp is_described es) (where_key fid_cmp is_described es)) ≡ option_or (cond (serial_of e.0 == n) (Some e.0) None) (of_serial n es)
    by false is rest = ap (option_or (cond (serial_of e.0 == n) (Some e.0) None)) rest
    by true is rest =
        let same : e.0 ≡ disk_descriptor = same_fid e.0 disk_descriptor is in
        let apart : (serial_of e.0 == n) ≡ false = ap (λ f. serial_of f == n) same ∙ turned n other in
        rest ∙ ap (λ c. option_or (cond c (Some e.0) None) (of_serial n es)) (sym apart)
      where
        turned : (k : ℕ) → (k == serial_of disk_descriptor) ≡ false → (serial_of disk_descriptor == k) ≡ false
        turned k h = grind (arith, nat_tests)

-- ---- the model's file
-- of another serial it is the least that is shown
pub other_serial : (p : Pack) (n : ℕ) → (n == serial_of disk_descriptor) ≡ false → fold (least_shown n) None (sights p) ≡ of_serial n (entries (read_as p).files)
unfolding found read_sights
other_serial p n other =
    let ss : List Sight = sights p in
    sym (file_of_serial-fold n ss)
    ∙ sym (of_found n (entries (files_shown ss)))
    ∙ sym (of_values n file_of (entries (files_shown ss)))
    ∙ ap (of_serial n) (sym (entries-map_values fid_total fid_same file_of (files_shown ss)))
    ∙ sym (of_described n (entries (found ss)) other)
    ∙ ap (of_serial n) (sym (entries-retain_keys fid_total fid_same (found ss) is_described))
    ∙ sym (of_kept n (is_kept (lives ss)) [] (entries (described ss)))
    ∙ ap (of_serial n) (sym (entries-tidied (lives ss) (described ss)))
