use Rattle.std.proofs.Common.{◌≡◌, ◌∙◌, ◌/◌, ◌++◌, ◌∷◌, [], ℕ, true, false, cond, length, take, ap, sym, subst, append-nil, arith, length-take, refl}
use Rattle.std.proofs.lemmas.List.{take_all}
use Rattle.alto_words.specs.Fid.{is_fid, sys_dir}
use Rattle.disk_records.specs.declared.records.Sector.{Sector}
use Rattle.disk_records.specs.Packs.{Pack, sector_at}
use Rattle.disk_records.specs.Tapes.{pack}
use Rattle.disk_records.specs.Words.{word}
use Rattle.disk_records.proofs.Growing.{alone_here}
use Rattle.label_check.specs.declared.errors.PageInfo.{PageInfo}
use Rattle.label_check.specs.Guarded.{info_of}
use Rattle.kept_names.proofs.Tests.{fid_eq}
use Rattle.scav_pages.specs.declared.errors.Stop.TheVariants.{Memory}
use Rattle.scav_names.specs.Readings.{MeetsSlots, counted_words}
use Rattle.scav_pages.proofs.Ranking.{page_ranged}
use Rattle.scav_pages.proofs.Causing.{cause_of_guarded, cause_of_part}
use Rattle.scav_names.proofs.ReadingSlots.{slots_end, slots_more, slots_none}
use Rattle.scav_names.proofs.Erring.{found_guarded, found_memory}
use Rattle.scav_names.proofs.read.Reading.take_page.Goals as goal

pub shared_ref_as_front-words : goal.shared_ref_as_front-words
shared_ref_as_front-words g c =
    let few = (page_ranged c.read_page.new.buf.label (record { fid = c.args.row.now.page.fid; number = c.args.row.now.page.number }) c.in_ok-info.ensures.page.names).1 in
    let tells = ap (λ i. i.bytes) c.in_ok-info.ensures.tells in
    let from = c.from.ensures in
    omega (arith, few, tells, from)

pub loop-met-init : goal.loop-met-init
loop-met-init g c =
    let cut = length-take c.from.result c.read_page.new.buf.value in
    let whole = c.in_ok-info.ensures.whole in
    record {
      within = omega arith;
      long = omega (arith, cut, whole);
      few = omega arith;
      walk = refl;
      living = refl;
      pages = refl;
      met = λ given w. slots_none c.args.row.now.page.fid given c.args.self.now.catalogue c.args.self.now.slots w;
    }

pub loop-met-preserved : goal.loop-met-preserved
loop-met-preserved g c =
    let inv = c.loop-met.invariant in
    let few = inv.few in
    let taken = c.in-Some.ensures.taken in
    record {
      within = c.in-Some.ensures.within;
      long = inv.long;
      few = omega (arith, few, taken);
      walk = inv.walk;
      living = c.in_ok-take.ensures.living ∙ inv.living;
      pages = c.in_ok-take.ensures.pages ∙ inv.pages;
      met = λ given w.
          let m = inv.met given w in
          slots_more c.args.row.now.page.fid given _ _ c.args.self.now.catalogue c.loop-met.self.catalogue c.take.new.self c.loop-met.self.slots c.next.new.self c.in-Some.met m (c.in-Some.ensures.meets given m.walked) c.in_ok-take.ensures;
    }

-- all words of the page were taken
words_all : (p : Pack) (at from k n : ℕ) (buf : Sector) (info : PageInfo) → buf ≡ sector_at p at → info ≡ info_of buf.label → k ≡ info.bytes / 2 → n ≡ length (take k buf.value) → take n (take k buf.value) ≡ counted_words p at
words_all p at from k n buf info holds tells half all =
    let bytes : info.bytes ≡ word (sector_at p at).label 3 = ap (λ i. i.bytes) tells ∙ ap (λ (s : Sector). word s.label 3) holds in
    take_all n (take k buf.value) (omega (arith, all)) ∙ ap (λ m. take m buf.value) (half ∙ ap (λ b. b / 2) bytes) ∙ ap (λ (s : Sector). take (word (sector_at p at).label 3 / 2) s.value) holds

pub returns-in_ok-push-clause-slots : goal.returns-in_ok-push-clause-slots
returns-in_ok-push-clause-slots g c = λ told.
    let inv = c.loop-met.invariant in
    let p = pack (g.D.Tape.tape c.args.disk.now) in
    let d = c.args.row.now.page.fid in
    let words = words_all p c.args.row.now.at 0 c.from.result c.next.new.from c.read_page.new.buf c.in_ok-info.info (c.in_ok-info.ensures.read told).holds c.in_ok-info.ensures.tells c.from.ensures c.in_default.ensures.none in
    record {
      walk = inv.walk;
      living = inv.living;
      met = λ given w.
          let m = inv.met given w in
          let e = subst (λ a. MeetsSlots d given (given ++ a) c.args.self.now.catalogue c.loop-met.self.catalogue c.next.new.self) words (slots_end d given _ _ c.args.self.now.catalogue c.loop-met.self.catalogue c.loop-met.self.slots c.next.new.self m (c.in_default.ensures.meets given m.walked)) in
          record { slots = e.slots; walked = e.walked; placed = e.placed; entries_are = e.entries_are; rooms = e.rooms };
    }

pub returns-else-eq-clause-slots : goal.returns-else-eq-clause-slots
returns-else-eq-clause-slots g c = λ told.
    let inv = c.loop-met.invariant in
    let p = pack (g.D.Tape.tape c.args.disk.now) in
    let d = c.args.row.now.page.fid in
    let words = words_all p c.args.row.now.at 0 c.from.result c.next.new.from c.read_page.new.buf c.in_ok-info.info (c.in_ok-info.ensures.read told).holds c.in_ok-info.ensures.tells c.from.ensures c.in_default.ensures.none in
    record {
      walk = inv.walk;
      living = inv.living;
      met = λ given w.
          let m = inv.met given w in
          let e = subst (λ a. MeetsSlots d given (given ++ a) c.args.self.now.catalogue c.loop-met.self.catalogue c.next.new.self) words (slots_end d given _ _ c.args.self.now.catalogue c.loop-met.self.catalogue c.loop-met.self.slots c.next.new.self m (c.in_default.ensures.meets given m.walked)) in
          record { slots = e.slots; walked = e.walked; placed = e.placed; entries_are = e.entries_are; rooms = e.rooms };
    }

pub returns-in_ok-push-clause-sectors : goal.returns-in_ok-push-clause-sectors
returns-in_ok-push-clause-sectors g c =
    let inv = c.loop-met.invariant in
    let d = c.args.row.now.page.fid in
    let root : is_fid d sys_dir ≡ true = fid_eq d sys_dir ∙ sym c.eq.ensures ∙ c.if-eq.true in
    cc (c.in_ok-push.ensures, c.as_vec.ensures.value, inv.pages) ∙ ap (λ b. c.args.self.now.catalogue.root_pages ++ cond b (c.args.row.now.at ∷ []) []) (sym root)

pub returns-else-eq-clause-sectors : goal.returns-else-eq-clause-sectors
returns-else-eq-clause-sectors g c =
    let inv = c.loop-met.invariant in
    let d = c.args.row.now.page.fid in
    let other : is_fid d sys_dir ≡ false = fid_eq d sys_dir ∙ sym c.eq.ensures ∙ c.if-eq.false in
    inv.pages ∙ sym (append-nil c.args.self.now.catalogue.root_pages) ∙ ap (λ b. c.args.self.now.catalogue.root_pages ++ cond b (c.args.row.now.at ∷ []) []) (sym other)

pub returns-in_err-info-clause-cause : goal.returns-in_err-info-clause-cause
returns-in_err-info-clause-cause g c = cause_of_guarded c.in_err-info.field-0.0 c.from_residual.result (alone_here _) refl c.in_err-info.ensures.looks.alone c.in_err-info.ensures.cause c.from_residual.ensures.1

pub returns-in_err-take-clause-cause : goal.returns-in_err-take-clause-cause
returns-in_err-take-clause-cause g c = cause_of_part Memory c.from_residual-in_err-take.result c.in_ok-info.ensures.looks.alone c.in_ok-info.ensures.cause (alone_here _) refl c.from_residual-in_err-take.ensures.1

pub returns-in_err-push-clause-cause : goal.returns-in_err-push-clause-cause
returns-in_err-push-clause-cause g c = cause_of_part Memory c.from_residual-in_err-push.result c.in_ok-info.ensures.looks.alone c.in_ok-info.ensures.cause (alone_here _) refl c.from_residual-in_err-push.ensures.1

pub returns-in_err-info-clause-looks : goal.returns-in_err-info-clause-looks
returns-in_err-info-clause-looks g c = c.in_err-info.ensures.looks

pub returns-in_err-info-clause-found : goal.returns-in_err-info-clause-found
returns-in_err-info-clause-found g c = λ k here astray. found_guarded c.in_err-info.field-0.0 c.from_residual.result (c.in_err-info.ensures.guarded k) here c.from_residual.ensures.1 astray

pub returns-in_err-take-clause-looks : goal.returns-in_err-take-clause-looks
returns-in_err-take-clause-looks g c = c.in_ok-info.ensures.looks

pub returns-in_err-take-clause-found : goal.returns-in_err-take-clause-found
returns-in_err-take-clause-found g c = λ k here astray. found_memory c.from_residual-in_err-take.result c.from_residual-in_err-take.ensures.1 astray

pub returns-in_err-push-clause-looks : goal.returns-in_err-push-clause-looks
returns-in_err-push-clause-looks g c = c.in_ok-info.ensures.looks

pub returns-in_err-push-clause-found : goal.returns-in_err-push-clause-found
returns-in_err-push-clause-found g c = λ k here astray. found_memory c.from_residual-in_err-push.result c.from_residual-in_err-push.ensures.1 astray

pub returns-in_ok-push-clause-looks : goal.returns-in_ok-push-clause-looks
returns-in_ok-push-clause-looks g c = c.in_ok-info.ensures.looks

pub returns-in_ok-push-clause-cause : goal.returns-in_ok-push-clause-cause
returns-in_ok-push-clause-cause g c = c.in_ok-info.ensures.cause

pub returns-in_ok-push-clause-found : goal.returns-in_ok-push-clause-found
returns-in_ok-push-clause-found g c = λ k here astray. cc

pub returns-else-eq-clause-looks : goal.returns-else-eq-clause-looks
returns-else-eq-clause-looks g c = c.in_ok-info.ensures.looks

pub returns-else-eq-clause-cause : goal.returns-else-eq-clause-cause
returns-else-eq-clause-cause g c = c.in_ok-info.ensures.cause

pub returns-else-eq-clause-found : goal.returns-else-eq-clause-found
returns-else-eq-clause-found g c = λ k here astray. cc
