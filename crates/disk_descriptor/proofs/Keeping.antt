-- What is kept of DiskDescriptor fits the disk, before a call and after it.
use Rattle.std.proofs.Common.{All, Bool, Err, List, Ok, Result, Some, [], ap, arith, cond, eq-eqb, eqb-true, get_or, length, refl, subst, sym, take, ℕ, ◌+◌, ◌<◌, ◌∙◌, ◌∷◌, ◌≡◌, ◌≢◌}
use Rattle.std.proofs.lemmas.List.Elements.{All-from_get_or, All-get_or}
use Rattle.std.proofs.lemmas.Bool.{false_from_ne_true}
use Rattle.std.proofs.lemmas.List.{get_or-take, take_all}
use Rattle.std.proofs.lemmas.Option.{slice_get-get_or}
use Rattle.std.specs.Prelude.{reverse, ◌==◌}
use Rattle.alto_words.specs.Fid.{disk_descriptor, sys_dir}
use Rattle.disk_records.proofs.Growing.{nothing_added, pack-after}
use Rattle.disk_records.specs.Commands.{value_writes}
use Rattle.disk_records.specs.Events.{IsFirstOf}
use Rattle.disk_records.specs.Packs.{AreFormed, IsFormed, Pack, after, carried, crash, no_sector, sector_at}
use Rattle.disk_records.specs.Tapes.{Grown, Taped, added, pack}
use Rattle.disk_records.specs.declared.records.Event.{Event}
use Rattle.disk_records.specs.declared.shape.Shape.{Shape}
use Rattle.laws_hint.specs.LineLinks.{opening_writes}
use Rattle.laws_format.specs.laws_line.proofs.fits.Laws.{descriptor_fits_on, fitting_descriptor_may_close}
use Rattle.laws_format.specs.laws_operation.proofs.descriptor.Laws.{close_carries_out, open_carries_out, serial_carries_out}
use Rattle.laws_format.specs.laws_operation.specs.DescriptorLaws.{MayClose}
use Rattle.laws_format.specs.pack_laws.proofs.Guarding.{carried_parts, usable_within}
use Rattle.laws_format.specs.pack_laws.proofs.files.Laws.{places_are_lowest}
use Rattle.pack_model.specs.operations.Commands.{values_writes}
use Rattle.pack_model.specs.operations.Step.Operation.{drop_file}
use Rattle.pack_model.specs.reading.Files.{place}
use Rattle.pack_model.specs.reading.Sights.{sights}
use Rattle.pack_model.specs.sessions.Descriptor.{DescriptorFits, close_writes, closed_values, data_pages, open_writes, opened_value, serial_writes}
use Rattle.pack_model.specs.states.Sound.{mark_clean, mark_open}
use Rattle.pack_model.specs.states.Whole.{Tidy, Whole}
use Rattle.disk_descriptor.proofs.Guards.{held_as, own_done, own_nothing}
use Rattle.disk_descriptor.proofs.Writings.{writes_all}
use Rattle.disk_descriptor.specs.Answers.{IfHeld}
use Rattle.disk_descriptor.specs.Fields.GivesOne.{given}
use Rattle.disk_descriptor.specs.Fields.{Fits, FitsDisk, GivesOne, Fields, Opens, closed, closes, closes_kept, first_kept, gives_kept, most_last, opened, opens_kept, with_last}
use Rattle.disk_descriptor.specs.Writing.{StopsAt, Writes, WritesOwn, data_page}
use Rattle.disk_descriptor.specs.declared.errors.DescError.TheVariants.{Memory, Spent}
use Rattle.disk_descriptor.specs.declared.errors.DescError.{DescError}

module _ (p : Pack) (kept : Fields) (fits : Fits p kept) where
  -- its pages are in the sectors that are kept
  pub page_placed : (n : ℕ) → n < length kept.pages → place (sights p) disk_descriptor (n + 1) ≡ Some (get_or kept.pages n 0)
  page_placed n within = fits.bears n within ∙ slice_get-get_or kept.pages n 0 within

  pub pages_carried : (n : ℕ) → n < length kept.pages → carried p (get_or kept.pages n 0) ≡ Some (data_page (n + 1))
  pages_carried n within = ((places_are_lowest p (data_page (n + 1))).lowest (get_or kept.pages n 0) (page_placed n within)).here

  pub first_placed : place (sights p) disk_descriptor 1 ≡ Some (get_or kept.pages 0 0)
  first_placed = page_placed 0 (let size = fits.size in omega (arith, size))

  -- the record writes by which it is closed, by what is kept
  pub closes_by : (busy : List Bool) → closes p busy kept ≡ close_writes kept.mark kept.shape kept.last busy kept.pages
  closes_by busy = λ i. close_writes (fits.mark_is i) (fits.shape_is i) (fits.last_is i) busy kept.pages

  pub opens_by : (at : ℕ) → opening_writes p at ≡ open_writes kept.mark at (sector_at p at).value
  opens_by at = ap (λ mark. open_writes mark at (sector_at p at).value) fits.mark_is

  -- values of 256 words
  pub values_sized : AreFormed p → All (λ at. length (sector_at p at).value ≡ 256) kept.pages
  values_sized formed = All-from_get_or (λ at. length (sector_at p at).value ≡ 256) kept.pages 0 (λ n within.
      let at : ℕ = get_or kept.pages n 0 in
      let here : at < length p.sectors = usable_within p at (carried_parts p at (data_page (n + 1)) (pages_carried n within)).0 in
      (All-get_or IsFormed p.sectors at no_sector here formed).value)

module _ (p : Pack) (kept : Fields) (here : FitsDisk p kept) where
  pub fits_opened : FitsDisk (after p (opening_writes p (get_or kept.pages 0 0))) (opened kept)
  fits_opened =
      let at : ℕ = get_or kept.pages 0 0 in
      let placed = first_placed p kept here.fits in
      let keeps = (open_carries_out p at (drop_file sys_dir) [] here.whole here.tidy placed).keeps in
      record {
        whole = keeps.whole;
        tidy = keeps.tidy;
        fits = subst (λ es. DescriptorFits (after p es) kept.shape kept.last mark_open kept.pages) (sym (opens_by p kept here.fits at)) ((descriptor_fits_on p kept.shape kept.last kept.mark kept.pages here.whole here.tidy here.fits).opened at placed);
      }

  pub fits_serial : (new : ℕ) → new ≡ kept.last + 1 → FitsDisk (after p (serial_writes (get_or kept.pages 0 0) new (sector_at p (get_or kept.pages 0 0)).value)) (with_last new kept)
  fits_serial new is =
      let at : ℕ = get_or kept.pages 0 0 in
      let placed = first_placed p kept here.fits in
      let last = here.fits.last_is in
      let keeps = (serial_carries_out p at new here.whole here.tidy placed (omega (arith, last))).keeps in
      record {
        whole = keeps.whole;
        tidy = keeps.tidy;
        fits = (descriptor_fits_on p kept.shape kept.last kept.mark kept.pages here.whole here.tidy here.fits).serial at new placed (omega arith);
      }

  pub fits_closed : (busy : List Bool) → AreFormed p → FitsDisk (after p (closes p busy kept)) (closed kept)
  fits_closed busy formed =
      let may : MayClose p kept.pages = fitting_descriptor_may_close p kept.shape kept.last kept.mark kept.pages here.fits (values_sized p kept here.fits formed) in
      let es : List Event = closes p busy kept in
      let keeps = (close_carries_out p busy kept.pages here.whole here.tidy may).keeps (length es) in
      let whole : crash p es (length es) ≡ after p es = ap (after p) (take_all (length es) es (omega arith)) in
      record {
        whole = subst (λ q. Whole q) whole keeps.whole;
        tidy = subst (λ q. Tidy q) whole keeps.tidy;
        fits = subst (λ l. DescriptorFits (after p l) kept.shape kept.last mark_clean kept.pages) (sym (closes_by p kept here.fits busy)) ((descriptor_fits_on p kept.shape kept.last kept.mark kept.pages here.whole here.tidy here.fits).closed busy may);
      }

-- ---- what a descriptor holds: room for five sectors, of which those of the data pages count
module _ (s : Shape) (last mark : ℕ) (pages : List ℕ) where
  abbrev pub kept_of : Fields
  kept_of = record { shape = s; last = last; mark = mark; pages = take (data_pages s) pages }

  abbrev first : ℕ
  first = get_or pages 0 0

  first_is : get_or kept_of.pages 0 0 ≡ first
  first_is = get_or-take (data_pages s) pages 0 0 (omega arith)

  pub first_carried : (p : Pack) → Fits p kept_of → carried p first ≡ Some (data_page 1)
  first_carried p fits = ap (carried p) (sym first_is) ∙ pages_carried p kept_of fits 0 (let size = fits.size in omega (arith, size))

  -- it is so where the guarded calls look
  pub never_held : {T : Type 0} (p : Pack) (events : List Event) (result : Result T DescError) → Fits p kept_of → IfHeld result (StopsAt p kept_of.pages events) → IfHeld result (λ at found. ⊥)
  never_held p events result fits = held_as result (λ at found h.
      let later = h.later in h.other (ap (carried p) h.is_kept ∙ pages_carried p kept_of fits h.n (omega (arith, later))))

  pub first_never_held : {T : Type 0} (p : Pack) (events : List Event) (result : Result T DescError) → Fits p kept_of → IfHeld result (StopsAt p (first ∷ []) events) → IfHeld result (λ at found. ⊥)
  first_never_held p events result fits = held_as result (λ at found h.
      let later = h.later in
      let none : h.n ≡ 0 = omega (arith, later) in
      h.other (ap (carried p) (h.is_kept ∙ ap (λ n. get_or (first ∷ []) n 0) none) ∙ first_carried p fits ∙ ap (λ n. Some (data_page (n + 1))) (sym none)))

  -- ---- the mark
  -- by what is kept, whether it fits or not
  pub own_opened : (a : Taped) → mark ≡ mark_open → WritesOwn {T = Unit {0}} (first_kept kept_of ∷ []) (opens_kept (pack a) kept_of) 3 a a (Ok tt)
  own_opened a is = own_done tt (first_kept kept_of ∷ []) (opens_kept (pack a) kept_of) 3 a
      (ap (λ b. cond b [] (value_writes (first_kept kept_of) (opened_value (sector_at (pack a) (first_kept kept_of)).value))) (eq-eqb mark mark_open is))

  pub own_opens : {T : Type 0} {a b : Taped} {result : Result T DescError} → mark ≢ mark_open → WritesOwn (first ∷ []) (value_writes first (opened_value (sector_at (pack a) first).value)) 3 a b result
      → WritesOwn (first_kept kept_of ∷ []) (opens_kept (pack a) kept_of) 3 a b result
  own_opens {a = a} {b = b} {result = result} other call =
      let writes : open_writes mark first (sector_at (pack a) first).value ≡ value_writes first (opened_value (sector_at (pack a) first).value) =
      ap (λ b. cond b [] (value_writes first (opened_value (sector_at (pack a) first).value))) (false_from_ne_true (mark == mark_open) (λ is. other (eqb-true mark mark_open is))) in
      subst (λ at. WritesOwn (at ∷ []) (open_writes mark at (sector_at (pack a) at).value) 3 a b result) (sym first_is) (subst (λ es. WritesOwn (first ∷ []) es 3 a b result) (sym writes) call)

  -- opening writes nothing where it is open, and else one value
  opens_nothing : (p : Pack) (at : ℕ) → Fits p kept_of → mark ≡ mark_open → opening_writes p at ≡ []
  opens_nothing p at fits is = opens_by p kept_of fits at ∙ ap (λ b. cond b [] (value_writes at (opened_value (sector_at p at).value))) (eq-eqb mark mark_open is)

  pub opens_once : (p : Pack) → Fits p kept_of → mark ≢ mark_open → opening_writes p (get_or kept_of.pages 0 0) ≡ value_writes first (opened_value (sector_at p first).value)
  opens_once p fits other =
      ap (opening_writes p) first_is
      ∙ opens_by p kept_of fits first
      ∙ ap (λ b. cond b [] (value_writes first (opened_value (sector_at p first).value))) (false_from_ne_true (mark == mark_open) (λ is. other (eqb-true mark mark_open is)))

  pub opens_not : (a : Taped) → Fits (pack a) kept_of → mark ≡ mark_open → Opens {T = Unit {0}} Memory a a (Ok tt)
  opens_not a fits is = record {
    at = get_or kept_of.pages 0 0;
    placed = first_placed (pack a) kept_of fits;
    writes = writes_all Memory tt _ 3 (nothing_added a.events ∙ sym (opens_nothing (pack a) (get_or kept_of.pages 0 0) fits is)) (omega arith);
  }

  pub opens_after : {T : Type 0} {a b : Taped} {result : Result T DescError} → Fits (pack a) kept_of → mark ≢ mark_open → Writes Memory (value_writes first (opened_value (sector_at (pack a) first).value)) 3 a b result → Opens Memory a b result
  opens_after {a = a} {b = b} {result = result} fits other wrote = record {
    at = get_or kept_of.pages 0 0;
    placed = first_placed (pack a) kept_of fits;
    writes = subst (λ es. Writes Memory es 3 a b result) (sym (opens_once (pack a) fits other)) wrote;
  }

  pub fits_after_opening : {a b : Taped} → FitsDisk (pack a) kept_of → mark ≢ mark_open → Grown a b → added a b ≡ value_writes first (opened_value (sector_at (pack a) first).value) → FitsDisk (pack b) (opened kept_of)
  fits_after_opening {a} {b} here other grown wrote =
      subst (λ p. FitsDisk p (opened kept_of)) (sym (pack-after grown ∙ ap (after (pack a)) (wrote ∙ sym (opens_once (pack a) here.fits other)))) (fits_opened (pack a) kept_of here)

  -- ---- serials
  pub own_gives : {T : Type 0} {a b : Taped} {result : Result T DescError} → WritesOwn (first ∷ []) (serial_writes first (last + 1) (sector_at (pack a) first).value) 3 a b result
      → WritesOwn (first_kept kept_of ∷ []) (gives_kept (pack a) kept_of) 3 a b result
  own_gives {a = a} {b = b} {result = result} call = subst (λ at. WritesOwn (at ∷ []) (serial_writes at (last + 1) (sector_at (pack a) at).value) 3 a b result) (sym first_is) call

  -- none is given
  pub own_spent : {T : Type 0} (a : Taped) → WritesOwn {T = T} (first_kept kept_of ∷ []) (gives_kept (pack a) kept_of) 3 a a (Err (Spent last))
  own_spent a = record {
    writes = record {
      some = subst (IsFirstOf (gives_kept (pack a) kept_of)) (sym (nothing_added a.events)) tt;
      ok = tt;
      want = λ short. cc;
      runs = omega arith;
    };
    own = own_nothing (first_kept kept_of ∷ []) a;
    held = tt;
    short = λ want. cc;
  }

  pub serial_at_first : (p : Pack) (new : ℕ) → serial_writes (get_or kept_of.pages 0 0) new (sector_at p (get_or kept_of.pages 0 0)).value ≡ serial_writes first new (sector_at p first).value
  serial_at_first p new = ap (λ at. serial_writes at new (sector_at p at).value) first_is

  pub gives_after : {T : Type 0} {a b : Taped} {result : Result T DescError} → Fits (pack a) kept_of → last < most_last → Writes Memory (serial_writes first (last + 1) (sector_at (pack a) first).value) 3 a b result → GivesOne Memory kept_of a b result
  gives_after {a = a} {b = b} {result = result} fits some wrote =
      given (get_or kept_of.pages 0 0) some (first_placed (pack a) kept_of fits) (subst (λ es. Writes Memory es 3 a b result) (sym (serial_at_first (pack a) (last + 1))) wrote)

  pub fits_after_serial : {a b : Taped} → FitsDisk (pack a) kept_of → Grown a b → added a b ≡ serial_writes first (last + 1) (sector_at (pack a) first).value → FitsDisk (pack b) (with_last (last + 1) kept_of)
  fits_after_serial {a} {b} here grown wrote =
      subst (λ p. FitsDisk p (with_last (last + 1) kept_of)) (sym (pack-after grown ∙ ap (after (pack a)) (wrote ∙ sym (serial_at_first (pack a) (last + 1))))) (fits_serial (pack a) kept_of here (last + 1) refl)

  -- ---- closing
  pub own_closed : (a : Taped) (busy : List Bool) (most : ℕ) → mark ≡ mark_clean → WritesOwn {T = Unit {0}} kept_of.pages (closes_kept busy kept_of) most a a (Ok tt)
  own_closed a busy most is = own_done tt kept_of.pages (closes_kept busy kept_of) most a
      (ap (λ b. cond b [] (values_writes (reverse (closed_values s last busy 0 kept_of.pages)))) (eq-eqb mark mark_clean is))

  pub own_closes : {T : Type 0} {a b : Taped} {result : Result T DescError} (busy : List Bool) (most : ℕ) → mark ≢ mark_clean → WritesOwn kept_of.pages (values_writes (reverse (closed_values s last busy 0 kept_of.pages))) most a b result
      → WritesOwn kept_of.pages (closes_kept busy kept_of) most a b result
  own_closes {a = a} {b = b} {result = result} busy most other call =
      let writes : closes_kept busy kept_of ≡ values_writes (reverse (closed_values s last busy 0 kept_of.pages)) =
      ap (λ b. cond b [] (values_writes (reverse (closed_values s last busy 0 kept_of.pages)))) (false_from_ne_true (mark == mark_clean) (λ is. other (eqb-true mark mark_clean is))) in
      subst (λ es. WritesOwn kept_of.pages es most a b result) (sym writes) call

  closes_nothing : (p : Pack) (busy : List Bool) → Fits p kept_of → mark ≡ mark_clean → closes p busy kept_of ≡ []
  closes_nothing p busy fits is = closes_by p kept_of fits busy ∙ ap (λ b. cond b [] (values_writes (reverse (closed_values s last busy 0 kept_of.pages)))) (eq-eqb mark mark_clean is)

  pub closes_all : (p : Pack) (busy : List Bool) → Fits p kept_of → mark ≢ mark_clean → closes p busy kept_of ≡ values_writes (reverse (closed_values s last busy 0 kept_of.pages))
  closes_all p busy fits other =
      closes_by p kept_of fits busy
      ∙ ap (λ b. cond b [] (values_writes (reverse (closed_values s last busy 0 kept_of.pages)))) (false_from_ne_true (mark == mark_clean) (λ is. other (eqb-true mark mark_clean is)))

  pub closes_not : (a : Taped) (busy : List Bool) (most : ℕ) → Fits (pack a) kept_of → mark ≡ mark_clean → Writes {T = Unit {0}} Memory (closes (pack a) busy kept_of) most a a (Ok tt)
  closes_not a busy most fits is = writes_all Memory tt _ most (nothing_added a.events ∙ sym (closes_nothing (pack a) busy fits is)) (omega arith)

  pub closes_after : {T : Type 0} {a b : Taped} {result : Result T DescError} (busy : List Bool) (most : ℕ) → Fits (pack a) kept_of → mark ≢ mark_clean → Writes Memory (values_writes (reverse (closed_values s last busy 0 kept_of.pages))) most a b result → Writes Memory (closes (pack a) busy kept_of) most a b result
  closes_after {a = a} {b = b} {result = result} busy most fits other wrote = subst (λ es. Writes Memory es most a b result) (sym (closes_all (pack a) busy fits other)) wrote

  pub fits_after_closing : {a b : Taped} (busy : List Bool) → FitsDisk (pack a) kept_of → AreFormed (pack a) → mark ≢ mark_clean → Grown a b → added a b ≡ values_writes (reverse (closed_values s last busy 0 kept_of.pages)) → FitsDisk (pack b) (closed kept_of)
  fits_after_closing {a} {b} busy here formed other grown wrote =
      subst (λ p. FitsDisk p (closed kept_of)) (sym (pack-after grown ∙ ap (after (pack a)) (wrote ∙ sym (closes_all (pack a) busy here.fits other)))) (fits_closed (pack a) kept_of here busy formed)
