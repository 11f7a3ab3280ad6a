-- What is kept of one sector.
use Rattle.std.proofs.Common.{◌≡◌, ℕ, zero, suc, cond, List, take, Some, None, refl, sym, ◌∙◌, arith}
use Rattle.std.specs.Prelude.{◌&&◌, ◌==◌}
use Rattle.std.specs.Option.{option_or}
use Rattle.std.proofs.lemmas.Bool.Decides.{nat_tests}
use Rattle.alto_words.specs.declared.fid.Fid.{Fid}
use Rattle.alto_words.specs.Fid.{is_fid}
use Rattle.pack_model.specs.reading.Bytes.{bytes_of}
use Rattle.pack_model.specs.reading.Sights.{page_sight}
use Rattle.label_sweep.specs.pack_laws.proofs.Firsts.{or_none}
use Rattle.pack_reading.specs.declared.swept.Pages.{Pages}
use Rattle.pack_reading.specs.declared.swept.Swept.{Swept}
use Rattle.pack_reading.specs.Kept.{leader_kept, page_kept, KeepsSight}

pub suc-eqb : (n k : ℕ) → (suc n == suc k) ≡ (n == k)
suc-eqb n k = grind (arith, nat_tests)

-- a data page
pub page_keeps : (old : Swept) (new : Pages) (f : Fid) (number count : ℕ) (value bytes : List ℕ) → (number ≡ 0 → ⊥) → bytes ≡ take count (bytes_of value)
    → ((g : Fid) (n : ℕ) → page_kept new g n ≡ option_or (page_kept old.pages g n) (cond (is_fid g f && suc n == number) (Some bytes) None))
    → KeepsSight (page_sight f number count value) old (record { leaders = old.leaders; pages = new })
page_keeps old new f zero count value bytes some is kept = absurd (some refl)
page_keeps old new f (suc k) count value bytes some is kept = record {
  leaders = λ g. sym (or_none (leader_kept old.leaders g));
  pages = λ g n. kept g n ∙ (λ i. option_or (page_kept old.pages g n) (cond (is_fid g f && suc-eqb n k i) (Some (is i)) None));
}
