-- Whole files: each good sector is free or in use, and no page of a living file lacks.
use Rattle.std.proofs.Common.{◌&&◌, ◌+◌, ◌/◌, ◌∙◌, ◌∷◌, ◌≡◌, ◌≤◌, Bool, List, None, Option, Some, [], ap, arith, cond, get_or, length, not, refl, subst, suc, sym, true, false, zero, ℕ}
use Rattle.std.specs.FinMap.{entries, get}
use Rattle.std.specs.Option.{is_some, option_map}
use Rattle.laws_operation.specs.alto_words.specs.Fid.{disk_descriptor, is_fid}
use Rattle.laws_operation.specs.alto_words.specs.declared.fid.Fid.{Fid}
use Rattle.laws_operation.specs.disk_records.specs.Packs.{Pack}
use Rattle.laws_operation.specs.pack_model.specs.reading.Bodies.{File, found}
use Rattle.laws_operation.specs.pack_model.specs.reading.Files.{carries_page, file_bytes, leader, numbered}
use Rattle.laws_operation.specs.pack_model.specs.states.InUse.{available, free_sector_count, how_many, in_use, is_available, is_free_sight, is_good, one_if}
use Rattle.laws_operation.specs.pack_model.specs.reading.Leaders.{Leader}
use Rattle.laws_operation.specs.pack_model.specs.scavenger.Needed.{file_lacks, files_lack, missing, page_lacks}
use Rattle.laws_operation.specs.pack_model.specs.reading.Sights.{Sight, sights}
use Rattle.laws_operation.specs.pack_model.specs.reading.Sights.Sight.{free, hidden, holds, leads, stray}
use Rattle.laws_operation.specs.pack_model.specs.states.Whole.{Whole}
use Rattle.laws_operation.specs.pack_laws.proofs.Keys.{is_fid-itself}
use Rattle.laws_operation.specs.pack_laws.proofs.Placing.{carries-holds}
use Rattle.laws_record.proofs.Reading.{get-found, read_file}
use Rattle.laws_record.proofs.AllSectors.{carried_used, fit, has_pages}
use Rattle.laws_record.proofs.Ends.{end_is}
use Rattle.laws_room.proofs.Each.{Each, each_entry}

-- tests that agree on each sector hold equally often
many_alike : (t : ℕ × Sight → Bool) (u : Sight → Bool) (from : ℕ) (xs : List Sight) → ((k : ℕ) → t (from + k, get_or xs k hidden) ≡ u (get_or xs k hidden)) → how_many t (numbered from xs) ≡ how_many u xs
many_alike t u from [] h = refl
many_alike t u from (x ∷ xs) h =
    let z : from ≡ from + 0 = omega arith in
    let here : t (from, x) ≡ u x = ap (λ n. t (n, x)) z ∙ h 0 in
    let rest : how_many t (numbered (suc from) xs) ≡ how_many u xs = many_alike t u (suc from) xs (λ k. let s : suc from + k ≡ from + suc k = omega arith in ap (λ n. t (n, get_or xs k hidden)) s ∙ h (suc k)) in
    λ i. one_if (here i) + rest i

module _ (p : Pack) (w : Whole p) where
  -- ---- sectors
  -- one is in use where it is good and not free
  pub sector_used : (i : ℕ) (s : Sight) → get_or (sights p) i hidden ≡ s → in_use p.shape (sights p) (i, s) ≡ (is_good s && not (is_free_sight s))
  sector_used i hidden is = refl
  sector_used i free is = refl
  sector_used i stray is = absurd (w.used i is)
  sector_used i (leads f r l) is = carried_used p w f 0 i (w.files f) (ap (carries_page f 0) is ∙ is_fid-itself f)
  sector_used i (holds f n b) is = carried_used p w f (suc n) i (w.files f) (ap (carries_page f (suc n)) is ∙ carries-holds f n b)

  -- and available where it is free
  pub sector_free : (i : ℕ) (s : Sight) → get_or (sights p) i hidden ≡ s → is_available p.shape (sights p) (i, s) ≡ is_free_sight s
  sector_free i s is = by s (sector_used i s is)
    where
      by : (s : Sight) → in_use p.shape (sights p) (i, s) ≡ (is_good s && not (is_free_sight s)) → is_available p.shape (sights p) (i, s) ≡ is_free_sight s
      by hidden e = refl
      by free e = refl
      by stray e = ap not e
      by (leads f r l) e = ap not e
      by (holds f n b) e = ap not e

  -- the available sectors are the free ones
  pub available_free : available p.shape (sights p) ≡ free_sector_count (sights p)
  unfolding available
  available_free = many_alike (is_available p.shape (sights p)) is_free_sight 0 (sights p) (λ k. let z : 0 + k ≡ k = omega arith in ap (λ n. is_available p.shape (sights p) (n, get_or (sights p) k hidden)) z ∙ sector_free k (get_or (sights p) k hidden) refl)

  -- ---- pages
  -- none up to the one that a living file's bytes end in is missing
  none_missing : (f : Fid) (l : Leader) → leader (sights p) f ≡ Some l → (n : ℕ) → n ≤ suc (length (file_bytes (sights p) f) / 512) → missing (sights p) f n ≡ 0
  none_missing f l lead zero low = refl
  none_missing f l lead (suc n) low =
      let here = ap (λ b. one_if (not b)) (has_pages p w f (w.files f) (ap is_some lead) n (omega arith)) in
      let rest = none_missing f l lead n (omega arith) in omega arith

  -- a file lacks no page
  file_complete : (f : Fid) (x : File) → get (found (sights p)) f ≡ Some x → file_lacks p.shape (sights p) f x.body ≡ 0
  file_complete f x is = by (leader (sights p) f) refl (sym (get-found (sights p) f) ∙ is)
    where
      lacks : (l : Leader) → leader (sights p) f ≡ Some l → (b : Bool) → cond b (missing (sights p) f (suc (length (file_bytes (sights p) f) / 512))) (page_lacks (sights p) f (length (file_bytes (sights p) f) / 512)) ≡ 0
      lacks l lead true = none_missing f l lead (suc (length (file_bytes (sights p) f) / 512)) (omega arith)
      lacks l lead false = ap (λ b. one_if (not b)) (has_pages p w f (w.files f) (ap is_some lead) (length (file_bytes (sights p) f) / 512) (omega arith))

      by : (r : Option Leader) → leader (sights p) f ≡ r → option_map (read_file f (file_bytes (sights p) f)) r ≡ Some x → file_lacks p.shape (sights p) f x.body ≡ 0
      by None e q = absurd (let n : None ≡ Some x = q in cc)
      by (Some l) e q =
          let y : read_file f (file_bytes (sights p) f) l ≡ x = cc in
          subst (λ z. file_lacks p.shape (sights p) f z.body ≡ 0) y
          (ap (λ n. cond (is_fid f disk_descriptor) (missing (sights p) f (suc (n / 512))) (page_lacks (sights p) f (n / 512))) (end_is p.shape (sights p) (fit p w) f (ap is_some e)) ∙ lacks l e (is_fid f disk_descriptor))

  -- nor do all files
  pub files_complete : files_lack p.shape (sights p) (entries (found (sights p))) ≡ 0
  files_complete = all (entries (found (sights p))) (each_entry (λ f x. file_lacks p.shape (sights p) f x.body ≡ 0) (found (sights p)) file_complete)
    where
      all : (es : List (Fid × File)) → Each (λ f x. file_lacks p.shape (sights p) f x.body ≡ 0) es → files_lack p.shape (sights p) es ≡ 0
      all [] h = refl
      all (e ∷ es) h = let here = h.0 in let rest = all es h.1 in omega arith
