-- A session on the pack that formatting writes.
use Rattle.std.proofs.Common.{[], ap, arith, true, ◌&&◌, ◌<◌, ◌∙◌, ◌∷◌, ◌≡◌}
use Rattle.std.proofs.lemmas.Bool.{le-leb, lt-ltb}
use Rattle.std.proofs.lemmas.List.Elements.{All-cons, All-nil}
use Rattle.std.specs.Prelude.{nat_le, nat_lt}
use Rattle.laws_steps.specs.alto_words.specs.Fid.{sys_dir}
use Rattle.laws_steps.specs.disk_records.specs.Addresses.{pages_of}
use Rattle.laws_steps.specs.disk_records.specs.Packs.{Pack, is_free_at}
use Rattle.laws_steps.specs.disk_records.specs.declared.shape.Shape.{Shape}
use Rattle.laws_steps.specs.pack_model.specs.operations.Step.Operation.{widen}
use Rattle.laws_steps.specs.pack_model.specs.sessions.Format.{formatted, sectors_used}
use Rattle.laws_format.proofs.formatted.Laws.{formatted_descriptor_fits, formatted_pack_begins_a_session, formatted_pack_has_free_sectors}
use Rattle.laws_met.specs.First.{FormattedPackTakesALine}
use Rattle.laws_format.specs.Formatted.{FreeAfterUsed, SessionBegins}
use Rattle.laws_steps.specs.laws_hint.specs.MapChanges.{marked}
use Rattle.laws_steps.specs.laws_line.specs.EndLaws.{idle}
use Rattle.laws_steps.specs.laws_line.specs.SoundLines.{changes}

-- a pack of any shape has a sector more than its system files take
one_more : (shape : Shape) → sectors_used shape < pages_of shape
one_more shape = let least = shape.least_pages in let most = shape.most_pages in omega (arith, least, most)

pub formatted_pack_takes_a_line : FormattedPackTakesALine
formatted_pack_takes_a_line shape number moment = record {
  truthful = record { links = begins.hints.links; table = frees.table; described = λ clean. begins.hints };
  reserves = record { bits = ap (marked true (sectors_used shape ∷ [])) frees.table; free = All-cons (λ at. is_free_at p at ≡ true) (sectors_used shape) [] here (All-nil (λ at. is_free_at p at ≡ true)) };
  line = record {
    sound = begins.sound;
    placed = (formatted_descriptor_fits shape number moment).fits.bears 0 (omega arith);
    some = omega arith;
    line = changes (widen sys_dir ∷ []) (tt, tt);
    room = let shown = frees.shown in let more = one_more shape in omega (arith, shown, more);
  };
  end = idle begins.sound;
}
  where
    p : Pack
    p = formatted shape number moment

    begins : SessionBegins (formatted shape number moment)
    begins = formatted_pack_begins_a_session shape number moment

    frees : FreeAfterUsed (formatted shape number moment)
    frees = formatted_pack_has_free_sectors shape number moment

    here : is_free_at (formatted shape number moment) (sectors_used shape) ≡ true
    here =
        let low : nat_le (sectors_used shape) (sectors_used shape) ≡ true = le-leb (sectors_used shape) (sectors_used shape) (omega arith) in
        let high : nat_lt (sectors_used shape) (pages_of shape) ≡ true = lt-ltb (sectors_used shape) (pages_of shape) (one_more shape) in
        (formatted_pack_has_free_sectors shape number moment).which (sectors_used shape) ∙ (λ i. low i && high i)
