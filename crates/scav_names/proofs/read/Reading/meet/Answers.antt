use Rattle.std.proofs.Common.{◌≡◌, ◌+◌, ◌∙◌, Some, inl, inr, ap, arith, refl, subst, sym}
use Rattle.std.specs.Prelude.{◌&&◌, not}
use Rattle.alto_words.specs.Fid.{is_directory, is_fid, sys_dir}
use Rattle.disk_records.specs.Tapes.{pack}
use Rattle.disk_records.proofs.Looking.{looks_none}
use Rattle.scav_pages.specs.declared.files.FileWalk.{FileWalk}
use Rattle.scav_pages.specs.declared.files.Met.TheVariants.{Copy, Leader, Next, Past}
use Rattle.scav_pages.specs.Walks.{GoesOn, IsMet, Walked, bytes_met, file_in_hand, pages_met}
use Rattle.scav_names.specs.Catalogues.{AreSectors}
use Rattle.scav_names.proofs.ReadingOn.{on_both, on_ok, with_sector, read_leader, read_other, read_page}
use Rattle.scav_names.proofs.read.Reading.meet.Goals as goal

pub returns-in-Leader-clause-read : goal.returns-in-Leader-clause-read
returns-in-Leader-clause-read g c = λ told last h words first.
    let p = pack (g.D.Tape.tape c.args.disk.now) in
    let row = c.args.row.now in
    let same = c.requires.same in
    let old = c.args.self.now.walk in
    let met : IsMet p row Leader = subst (IsMet p row) c.in-Leader.is (c.meet.ensures.met p last h.walked first) in
    let pages : c.meet.new.self.pages ≡ old.pages = c.meet.ensures.pages same ∙ ap (λ m. old.pages + pages_met m) c.in-Leader.is ∙ omega arith in
    let long : c.meet.new.self.length ≡ old.length = c.meet.ensures.bytes same ∙ ap (λ m. old.length + bytes_met m row) c.in-Leader.is ∙ omega arith in
    on_ok c.take_file.result (λ r.
    read_leader p last row c.args.self.now c.take_file.new.self h same words first (subst (Walked p (Some row)) (sym r.walk) (c.meet.ensures.walked p last h.walked first)) (ap file_in_hand r.walk ∙ c.meet.ensures.hand)
    met.0 met.1 (ap (λ (x : FileWalk). x.pages) r.walk ∙ pages) (ap (λ (x : FileWalk). x.length) r.walk ∙ long) _ refl refl (sym r.walk) r) (c.take_file.ensures.file told)

pub returns-in-Next-clause-read : goal.returns-in-Next-clause-read
returns-in-Next-clause-read g c = λ told last h words first.
    let p = pack (g.D.Tape.tape c.args.disk.now) in
    let row = c.args.row.now in
    let same = c.requires.same in
    let old = c.args.self.now.walk in
    let met : IsMet p row Next = subst (IsMet p row) c.in-Next.is (c.meet.ensures.met p last h.walked first) in
    let goes : GoesOn row c.meet.new.self = c.meet.ensures.goes p last h.walked first c.in-Next.is in
    let pages : c.meet.new.self.pages ≡ old.pages + 1 = c.meet.ensures.pages same ∙ ap (λ m. old.pages + pages_met m) c.in-Next.is in
    let long : c.meet.new.self.length ≡ old.length + row.bytes = c.meet.ensures.bytes same ∙ ap (λ m. old.length + bytes_met m row) c.in-Next.is in
    let wanted = sym c.wants.ensures ∙ c.if-wants.true in
    on_both c.take_page.result (λ r sectors.
    read_page p last row c.args.self.now c.take_page.new.self h same words first (subst (Walked p (Some row)) (sym r.walk) (c.meet.ensures.walked p last h.walked first)) (ap file_in_hand r.walk ∙ c.meet.ensures.hand)
    met (ap (λ (x : FileWalk). x.pages) r.walk ∙ pages) (ap (λ (x : FileWalk). x.length) r.walk ∙ long) (subst (GoesOn row) (sym r.walk) goes) (ap (λ (x : FileWalk). x.lives && is_directory row.page.fid && not c.args.self.now.slots.ended) r.walk ∙ wanted)
    r.living (r.met h.given h.words.walked) sectors) (c.take_page.ensures.slots told) c.take_page.ensures.sectors

pub returns-in-Next-clause-sectors : goal.returns-in-Next-clause-sectors
returns-in-Next-clause-sectors g c = λ are. on_ok c.take_page.result (λ kept. subst (AreSectors (g.D.Tape.tape c.args.disk.now).form) (sym kept) (with_sector (g.D.Tape.tape c.args.disk.now).form c.args.row.now.at c.args.self.now.catalogue.root_pages (is_fid c.args.row.now.page.fid sys_dir) (c.requires.first, c.requires.place) are)) c.take_page.ensures.sectors

pub returns-in-Next-2-clause-read : goal.returns-in-Next-2-clause-read
returns-in-Next-2-clause-read g c = λ told last h words first.
    let p = pack (g.D.Tape.tape c.args.disk.now) in
    let same = c.requires.same in
    read_other p last c.args.row.now c.args.self.now _ h same words first (c.meet.ensures.walked p last h.walked first) c.meet.ensures.hand c.meet.result (c.meet.ensures.met p last h.walked first) (λ e. (let both : Next ≡ Leader = sym c.in-Next.is ∙ e in cc))
    (c.meet.ensures.pages same) (c.meet.ensures.bytes same) (λ next. c.meet.ensures.goes p last h.walked first next) (λ _. sym c.wants.ensures ∙ c.if-wants.false) refl refl

pub returns-in-Copy-clause-read : goal.returns-in-Copy-clause-read
returns-in-Copy-clause-read g c = λ told last h words first.
    let p = pack (g.D.Tape.tape c.args.disk.now) in
    let same = c.requires.same in
    let no_leader : c.meet.result ≡ Leader → ⊥ = λ e. elim c.in-Copy.is [ inl is ↦ (let both : Copy ≡ Leader = sym is ∙ e in cc) | inr is ↦ (let both : Past ≡ Leader = sym is ∙ e in cc) ] in
    let no_next : c.meet.result ≡ Next → ⊥ = λ e. elim c.in-Copy.is [ inl is ↦ (let both : Copy ≡ Next = sym is ∙ e in cc) | inr is ↦ (let both : Past ≡ Next = sym is ∙ e in cc) ] in
    read_other p last c.args.row.now c.args.self.now _ h same words first (c.meet.ensures.walked p last h.walked first) c.meet.ensures.hand c.meet.result (c.meet.ensures.met p last h.walked first) no_leader
    (c.meet.ensures.pages same) (c.meet.ensures.bytes same) (λ next. c.meet.ensures.goes p last h.walked first next) (λ next. absurd (no_next next)) refl refl

pub returns-in-Leader-clause-found : goal.returns-in-Leader-clause-found
returns-in-Leader-clause-found g c = c.take_file.ensures.found

pub returns-in-Leader-clause-cause : goal.returns-in-Leader-clause-cause
returns-in-Leader-clause-cause g c = c.take_file.ensures.cause

pub returns-in-Leader-clause-looks : goal.returns-in-Leader-clause-looks
returns-in-Leader-clause-looks g c = c.take_file.ensures.looks

pub returns-in-Next-clause-found : goal.returns-in-Next-clause-found
returns-in-Next-clause-found g c = c.take_page.ensures.found

pub returns-in-Next-clause-cause : goal.returns-in-Next-clause-cause
returns-in-Next-clause-cause g c = c.take_page.ensures.cause

pub returns-in-Next-clause-looks : goal.returns-in-Next-clause-looks
returns-in-Next-clause-looks g c = c.take_page.ensures.looks

pub returns-in-Next-2-clause-sectors : goal.returns-in-Next-2-clause-sectors
returns-in-Next-2-clause-sectors g c = λ are. are

pub returns-in-Next-2-clause-found : goal.returns-in-Next-2-clause-found
returns-in-Next-2-clause-found g c = λ k here astray. cc

pub returns-in-Next-2-clause-cause : goal.returns-in-Next-2-clause-cause
returns-in-Next-2-clause-cause g c = refl

pub returns-in-Next-2-clause-looks : goal.returns-in-Next-2-clause-looks
returns-in-Next-2-clause-looks g c = looks_none 1 (g.D.Tape.tape c.args.disk.now)

pub returns-in-Copy-clause-sectors : goal.returns-in-Copy-clause-sectors
returns-in-Copy-clause-sectors g c = λ are. are

pub returns-in-Copy-clause-found : goal.returns-in-Copy-clause-found
returns-in-Copy-clause-found g c = λ k here astray. cc

pub returns-in-Copy-clause-cause : goal.returns-in-Copy-clause-cause
returns-in-Copy-clause-cause g c = refl

pub returns-in-Copy-clause-looks : goal.returns-in-Copy-clause-looks
returns-in-Copy-clause-looks g c = looks_none 1 (g.D.Tape.tape c.args.disk.now)
