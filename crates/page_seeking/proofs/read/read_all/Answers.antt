use Rattle.std.proofs.Common.{arith, length, sym, subst, take, ◌+◌, ◌-◌, ◌≡◌, ◌∙◌}
use Rattle.std.proofs.lemmas.Grind.{common_steps}
use Rattle.page_seeking.proofs.Listing.{end_since, listed_since}
use Rattle.pack_model.specs.reading.Files.{file_bytes}
use Rattle.pack_model.specs.reading.Sights.{sights}
use Rattle.pack_model.specs.states.Sentences.{EachOnce}
use Rattle.page_seeking.proofs.Parting.{read_all_there}
use Rattle.page_seeking.specs.Parts.{IsWithinPart, ListsEnd, ListsNext}
use Rattle.disk_records.proofs.Looking.{looks_pack, looks_twice}
use Rattle.disk_records.specs.Tapes.{pack}
use Rattle.page_seeking.proofs.Easing.{keeps_handy_twice, quick_later}
use Rattle.disk_records.specs.Packs.{Pack}
use Rattle.page_seeking.specs.Refs.{FileStands}
use Rattle.pack_model.specs.hints.Links.{LinksTrue}
use Rattle.page_seeking.proofs.read.read_all.Goals as goal

pub returns-in-Ok-read_part-clause-looks : goal.returns-in-Ok-read_part-clause-looks
returns-in-Ok-read_part-clause-looks g c = looks_twice 131174 c.length.ensures.looks c.read_part.ensures.looks (omega arith)

pub returns-in-Err-read_part-clause-looks : goal.returns-in-Err-read_part-clause-looks
returns-in-Err-read_part-clause-looks g c = looks_twice 131174 c.length.ensures.looks c.read_part.ensures.looks (omega arith)

pub returns-in-Ok-read_part-clause-handy : goal.returns-in-Ok-read_part-clause-handy
returns-in-Ok-read_part-clause-handy g c told =
    let looks = looks_pack c.length.ensures.looks told in
    keeps_handy_twice (pack (g.D.Tape.tape c.args.disk.now)) (pack (g.D.Tape.tape c.length.new.disk)) c.args.hints.now.cache c.length.new.hints.cache c.read_part.new.hints.cache looks (c.length.ensures.handy told) (c.read_part.ensures.handy told)

pub returns-in-Err-read_part-clause-handy : goal.returns-in-Err-read_part-clause-handy
returns-in-Err-read_part-clause-handy g c told =
    let looks = looks_pack c.length.ensures.looks told in
    keeps_handy_twice (pack (g.D.Tape.tape c.args.disk.now)) (pack (g.D.Tape.tape c.length.new.disk)) c.args.hints.now.cache c.length.new.hints.cache c.read_part.new.hints.cache looks (c.length.ensures.handy told) (c.read_part.ensures.handy told)

pub returns-in-Err-read_part-clause-true_links : goal.returns-in-Err-read_part-clause-true_links
returns-in-Err-read_part-clause-true_links g c told stands links =
    let same = sym (looks_pack c.length.ensures.looks told) in
    c.in-Err-read_part.ensures.true_links told (subst (λ (p : Pack). FileStands p c.args.file.now) same stands) (subst LinksTrue same links)

pub returns-in-Ok-read_part-clause-last : goal.returns-in-Ok-read_part-clause-last
returns-in-Ok-read_part-clause-last g c first =
    let p = pack (g.D.Tape.tape c.args.disk.now) in
    let n = c.in-Ok-read_part.n in
    let size : length c.truncate.new.self.items ≡ n = grind (arith, common_steps) in
    let byte : 0 + n - 1 ≡ length c.truncate.new.self.items - 1 = omega (arith, size) in
    let listed = listed_since c.args.hints.now.cache c.length.new.hints.cache c.read_part.new.hints.cache c.length.ensures.looks c.length.ensures.refused (c.in-Ok-read_part.ensures.last (omega (arith, size, first))) in
    subst (λ k. ListsNext g.D.Tape.told p c.args.file.now.fid k c.args.hints.now.cache c.read_part.new.hints.cache) byte listed

pub returns-in-Ok-read_part-clause-listed : goal.returns-in-Ok-read_part-clause-listed
returns-in-Ok-read_part-clause-listed g c =
    let p = pack (g.D.Tape.tape c.args.disk.now) in
    let n = c.in-Ok-read_part.n in
    let size : 0 + n ≡ length c.truncate.new.self.items = grind (arith, common_steps) in
    subst (λ k. ListsEnd g.D.Tape.told p c.args.file.now.fid k c.args.hints.now.cache c.read_part.new.hints.cache) size (end_since c.args.hints.now.cache c.length.new.hints.cache c.read_part.new.hints.cache c.length.ensures.looks c.length.ensures.refused c.in-Ok-read_part.ensures.listed)

pub returns-in-Ok-read_part-clause-read : goal.returns-in-Ok-read_part-clause-read
returns-in-Ok-read_part-clause-read g c told once =
    let f = c.args.file.now.fid in
    let same = looks_pack c.length.ensures.looks told in
    let n = c.in-Ok-read_part.n in
    let room : length c.deref_mut.result.now ≡ c.in-Ok.size = grind (arith, common_steps) in
    let kept : c.truncate.new.self.items ≡ take n c.read_part.new.out = grind (arith, common_steps) in
    let most = c.in-Ok.ensures.most told once in
    let part = c.in-Ok-read_part.ensures.read_once told (subst (λ (p : Pack). EachOnce (sights p)) (sym same) once) (omega arith) in
    let mine = subst (λ (p : Pack). IsWithinPart (file_bytes (sights p) f) 0 c.deref_mut.result.now c.read_part.new.out n) same part in
    kept ∙ read_all_there (file_bytes (sights (pack (g.D.Tape.tape c.args.disk.now))) f) c.deref_mut.result.now c.read_part.new.out n mine (omega (arith, most, room))

pub returns-in-Ok-read_part-clause-quick : goal.returns-in-Ok-read_part-clause-quick
returns-in-Ok-read_part-clause-quick g c told quick named =
    let same = looks_pack c.length.ensures.looks told in
    let size : length c.truncate.new.self.items ≡ c.in-Ok-read_part.n = grind (arith, common_steps) in
    let first = c.in-Ok.ensures.quick told quick named in
    let after = c.in-Ok-read_part.ensures.quick told (quick_later same (c.length.ensures.handy told) quick) in
    omega (arith, first, after, size)
