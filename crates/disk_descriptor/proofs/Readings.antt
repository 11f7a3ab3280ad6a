-- What the pack is read as after the mark was opened, a serial given, or the pack closed; and that its links stay true.
use Rattle.std.proofs.Common.{Bool, List, [], ap, arith, cond, false, get_or, length, refl, subst, sym, true, ℕ, ◌+◌, ◌∙◌, ◌∷◌, ◌≡◌, ◌≢◌}
use Rattle.std.proofs.lemmas.List.{take_all}
use Rattle.std.specs.Prelude.{reverse, ◌==◌}
use Rattle.alto_words.specs.Fid.{sys_dir}
use Rattle.disk_records.proofs.Growing.{pack-after}
use Rattle.disk_records.specs.Commands.{value_writes}
use Rattle.disk_records.specs.Packs.{AreFormed, Pack, after, crash, sector_at}
use Rattle.disk_records.specs.Tapes.{Grown, Taped, added, pack}
use Rattle.disk_records.specs.declared.records.Event.{Event}
use Rattle.disk_records.specs.declared.shape.Shape.{Shape}
use Rattle.laws_hint.proofs.closing.Laws.{closing_describes_its_map}
use Rattle.laws_hint.specs.LineLinks.{opening_writes}
use Rattle.laws_hint.specs.MapClosing.{Describes}
use Rattle.laws_format.specs.laws_line.proofs.fits.Laws.{fitting_descriptor_may_close}
use Rattle.laws_format.specs.laws_operation.proofs.descriptor.Laws.{close_carries_out, close_keeps_links, open_carries_out, open_keeps_links, serial_carries_out, serial_keeps_links}
use Rattle.laws_format.specs.laws_operation.specs.DescriptorLaws.{MayClose}
use Rattle.laws_format.specs.laws_operation.proofs.places.Laws.{serial_keeps_places}
use Rattle.laws_format.specs.pack_laws.proofs.Moving.{stands_last}
use Rattle.pack_model.specs.hints.Links.{LinksTrue}
use Rattle.pack_model.specs.operations.Commands.{values_writes}
use Rattle.pack_model.specs.operations.Operations.{quiet_moves}
use Rattle.pack_model.specs.operations.Operations.Move.{quiet}
use Rattle.pack_model.specs.operations.Step.Operation.{drop_file}
use Rattle.pack_model.specs.reading.Files.{lives}
use Rattle.pack_model.specs.reading.Model.{Model, read_as}
use Rattle.pack_model.specs.reading.Sights.{sights}
use Rattle.pack_model.specs.sessions.Descriptor.{closed_values, opened_value, serial_writes}
use Rattle.pack_model.specs.sessions.Meanings.{reading}
use Rattle.pack_model.specs.sessions.Moves.{steps}
use Rattle.pack_model.specs.states.Sound.{mark_clean, mark_of, mark_open}
use Rattle.disk_descriptor.proofs.Keeping.{closes_all, first_placed, kept_of, opens_once, serial_at_first, values_sized}
use Rattle.disk_descriptor.specs.Fields.{Fields, FitsDisk, IsAboveLiving, ReadsAs, closes}

-- ---- moves that change no model
opening_reads : (m : Model) (is_open : Bool) → steps reading m (cond is_open [] (quiet ∷ [])) ≡ m
opening_reads m true = refl
opening_reads m false = refl

quiet_reads : (m : Model) (pages : List ℕ) → steps reading m (quiet_moves pages) ≡ m
quiet_reads m [] = refl
quiet_reads m (at ∷ pages) = quiet_reads m pages

closing_reads : (m : Model) (is_clean : Bool) (pages : List ℕ) → steps reading m (cond is_clean [] (quiet_moves pages)) ≡ m
closing_reads m true pages = refl
closing_reads m false pages = quiet_reads m pages

-- a call that writes nothing
pub reads_itself : (p : Pack) → ReadsAs (read_as p) p p
reads_itself p = record { reads = refl; links = λ links. links }

-- ---- on any pack that it fits
module _ (p : Pack) (kept : Fields) (here : FitsDisk p kept) where
  reads_opened : ReadsAs (read_as p) p (after p (opening_writes p (get_or kept.pages 0 0)))
  reads_opened =
      let at : ℕ = get_or kept.pages 0 0 in
      let placed = first_placed p kept here.fits in
      record {
        reads = stands_last reading (open_carries_out p at (drop_file sys_dir) [] here.whole here.tidy placed).obeys ∙ opening_reads (read_as p) (mark_of (sights p) == mark_open);
        links = open_keeps_links p at here.whole here.tidy placed;
      }

  reads_serial : (new : ℕ) → new ≡ kept.last + 1 → ReadsAs (record (read_as p) { last = new }) p (after p (serial_writes (get_or kept.pages 0 0) new (sector_at p (get_or kept.pages 0 0)).value))
  reads_serial new is =
      let at : ℕ = get_or kept.pages 0 0 in
      let placed = first_placed p kept here.fits in
      let last = here.fits.last_is in
      record {
        reads = (serial_carries_out p at new here.whole here.tidy placed (omega (arith, last))).reads;
        links = serial_keeps_links p at new here.whole here.tidy placed (omega (arith, last));
      }

  reads_closed : (busy : List Bool) → AreFormed p → ReadsAs (read_as p) p (after p (closes p busy kept))
  reads_closed busy formed =
      let may : MayClose p kept.pages = fitting_descriptor_may_close p kept.shape kept.last kept.mark kept.pages here.fits (values_sized p kept here.fits formed) in
      let es : List Event = closes p busy kept in
      let whole : crash p es (length es) ≡ after p es = ap (after p) (take_all (length es) es (omega arith)) in
      record {
        reads = stands_last reading (close_carries_out p busy kept.pages here.whole here.tidy may).obeys ∙ closing_reads (read_as p) (mark_of (sights p) == mark_clean) kept.pages;
        links = λ links. subst LinksTrue whole (close_keeps_links p busy kept.pages (length es) here.whole here.tidy may links);
      }

-- ---- after a call
module _ (s : Shape) (last mark : ℕ) (pages : List ℕ) where
  abbrev kept : Fields
  kept = kept_of s last mark pages

  abbrev first : ℕ
  first = get_or pages 0 0

  pub reads_after_opening : {a b : Taped} → FitsDisk (pack a) kept → mark ≢ mark_open → Grown a b → added a b ≡ value_writes first (opened_value (sector_at (pack a) first).value) → ReadsAs (read_as (pack a)) (pack a) (pack b)
  reads_after_opening {a} {b} here other grown wrote =
      subst (ReadsAs (read_as (pack a)) (pack a)) (sym (pack-after grown ∙ ap (after (pack a)) (wrote ∙ sym (opens_once s last mark pages (pack a) here.fits other)))) (reads_opened (pack a) kept here)

  pub reads_after_serial : {a b : Taped} → FitsDisk (pack a) kept → Grown a b → added a b ≡ serial_writes first (last + 1) (sector_at (pack a) first).value → ReadsAs (record (read_as (pack a)) { last = last + 1 }) (pack a) (pack b)
  reads_after_serial {a} {b} here grown wrote =
      subst (ReadsAs (record (read_as (pack a)) { last = last + 1 }) (pack a)) (sym (pack-after grown ∙ ap (after (pack a)) (wrote ∙ sym (serial_at_first s last mark pages (pack a) (last + 1))))) (reads_serial (pack a) kept here (last + 1) refl)

  pub above_after_serial : {a b : Taped} → FitsDisk (pack a) kept → Grown a b → added a b ≡ serial_writes first (last + 1) (sector_at (pack a) first).value → IsAboveLiving (pack b) (last + 1)
  above_after_serial {a} {b} here grown wrote =
      subst (λ p. IsAboveLiving p (last + 1)) (sym (pack-after grown ∙ ap (after (pack a)) wrote)) (λ f now.
      let before : lives (sights (pack a)) f ≡ true = sym ((serial_keeps_places (pack a) first (last + 1) (sector_at (pack a) first).value).living f) ∙ now in
      let most = here.whole.last f before in
      let is = here.fits.last_is in
      omega (arith, most, is))

  pub reads_after_closing : {a b : Taped} (busy : List Bool) → FitsDisk (pack a) kept → AreFormed (pack a) → mark ≢ mark_clean → Grown a b → added a b ≡ values_writes (reverse (closed_values s last busy 0 kept.pages)) → ReadsAs (read_as (pack a)) (pack a) (pack b)
  reads_after_closing {a} {b} busy here formed other grown wrote =
      subst (ReadsAs (read_as (pack a)) (pack a)) (sym (pack-after grown ∙ ap (after (pack a)) (wrote ∙ sym (closes_all s last mark pages (pack a) busy here.fits other)))) (reads_closed (pack a) kept here busy formed)

  pub describes_after_closing : {a b : Taped} (busy : List Bool) → FitsDisk (pack a) kept → AreFormed (pack a) → mark ≢ mark_clean → Grown a b → added a b ≡ values_writes (reverse (closed_values s last busy 0 kept.pages)) → Describes (pack a) (pack b) busy
  describes_after_closing {a} {b} busy here formed other grown wrote =
      let may : MayClose (pack a) kept.pages = fitting_descriptor_may_close (pack a) s last mark kept.pages here.fits (values_sized (pack a) kept here.fits formed) in
      subst (λ p. Describes (pack a) p busy) (sym (pack-after grown ∙ ap (after (pack a)) (wrote ∙ sym (closes_all s last mark pages (pack a) busy here.fits other))))
      (closing_describes_its_map (pack a) busy kept.pages here.whole here.tidy may (λ is. other (sym here.fits.mark_is ∙ is)))
