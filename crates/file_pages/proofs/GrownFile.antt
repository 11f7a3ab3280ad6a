-- Where the pages of a file are after it is grown, or a directory after it is widened.
use Rattle.std.proofs.Common.{List, Some, ap, arith, nat_le, subst, sym, true, ℕ, ◌∙◌, ◌≡◌, ◌≤◌}
use Rattle.std.proofs.lemmas.Bool.Decides.{nat_tests}
use Rattle.std.specs.Option.{is_some}
use Rattle.alto_words.specs.declared.fid.Fid.{Fid}
use Rattle.disk_records.specs.Packs.{Pack, after}
use Rattle.laws_call.specs.Writing.{grown_writes}
use Rattle.laws_midway.proofs.growing.Laws.{directory_has_grown, file_has_grown}
use Rattle.laws_midway.specs.GrowingLaws.{HasGrown}
use Rattle.laws_operation.proofs.lengths.Laws.{placed_pages_are_those_up_to_the_last}
use Rattle.laws_operation.specs.FileWords.{CanGrow}
use Rattle.page_seeking.specs.Seeking.{file_length}
use Rattle.pack_model.specs.operations.Committing.{page_of_byte}
use Rattle.pack_model.specs.operations.Step.{Operation}
use Rattle.pack_model.specs.reading.Files.{place}
use Rattle.pack_model.specs.reading.Sights.{sights}
use Rattle.pack_model.specs.states.Whole.{Tidy, Whole}
use Rattle.file_pages.proofs.GrowthWords.{is_lived}
use Rattle.file_pages.specs.Growing.{Grew, IsGrowth, of_directory, of_file}

-- a page that is there comes no later than the last one
pub placed_low : (p : Pack) (f : Fid) (n at : ℕ) → Whole p → place (sights p) f n ≡ Some at → n ≤ page_of_byte (file_length p f)
placed_low p f n at whole there =
    let low : nat_le n (page_of_byte (file_length p f)) ≡ true = sym (placed_pages_are_those_up_to_the_last p f n whole (is_lived p f n at whole there)) ∙ ap is_some there in
    grind (arith, nat_tests)

module _ (p : Pack) (f : Fid) (at : ℕ) (new past fresh : List ℕ) (whole : Whole p) (tidy : Tidy p) (can : CanGrow p f (file_length p f) new past fresh at) where
  has_grown : (o : Operation) → IsGrowth f new o → HasGrown p (after p (grown_writes p f (file_length p f) at new past fresh)) f (page_of_byte (file_length p f)) fresh
  has_grown o (of_file ordinary) = file_has_grown p f (file_length p f) new past fresh at whole tidy ordinary can
  has_grown o (of_directory directory same) =
      subst (λ n. HasGrown p (after p (grown_writes p f (file_length p f) at n past fresh)) f (page_of_byte (file_length p f)) fresh) (sym same)
      (directory_has_grown p f (file_length p f) past fresh at whole tidy directory (subst (λ n. CanGrow p f (file_length p f) n past fresh at) same can))

  pub grew : (o : Operation) → IsGrowth f new o → Grew p (after p (grown_writes p f (file_length p f) at new past fresh)) f (page_of_byte (file_length p f)) fresh
  grew o growth = let h = has_grown o growth in record { there = h.there; kept = h.kept; comes = h.comes; none = h.none; leads = h.leads; ends = h.ends; others = h.others }
