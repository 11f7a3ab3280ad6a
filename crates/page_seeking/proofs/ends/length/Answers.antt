use Rattle.std.proofs.Common.{◌∙◌, arith, Err, []}
use Rattle.page_seeking.specs.declared.links.Below.{Below}
use Rattle.page_seeking.proofs.Easing.{keeps_handy, quick_cache}
use Rattle.page_seeking.proofs.Erring.{caused_length}
use Rattle.page_seeking.proofs.Forgetting.{highest_left, lists_forgotten}
use Rattle.page_seeking.proofs.Recalling.{sought_kept}
use Rattle.page_seeking.proofs.Lasting.{ends_at, is_last}
use Rattle.page_seeking.proofs.Once.{most_once}
use Rattle.page_seeking.proofs.Seeking.{ends_of}
use Rattle.page_seeking.proofs.TrueLinks.{never_led}
use Rattle.disk_records.specs.Tapes.{pack}
use Rattle.page_seeking.proofs.Listing.{is_listed}
use Rattle.page_seeking.proofs.Parting.{few_bytes}
use Rattle.page_seeking.proofs.ends.length.Goals as goal

pub returns-in-Ok-clause-length : goal.returns-in-Ok-clause-length
returns-in-Ok-clause-length g c told whole = c.length_at.ensures ∙ ends_at whole told (ends_of c.in-Ok.ensures.ends c.in-Ok.ensures.found)

pub returns-in-Ok-clause-most : goal.returns-in-Ok-clause-most
returns-in-Ok-clause-most g c told once =
    let most = most_once once told (ends_of c.in-Ok.ensures.ends c.in-Ok.ensures.found) in
    let is = c.length_at.ensures in
    omega (arith, most, is)

pub returns-in-Err-clause-cause : goal.returns-in-Err-clause-cause
returns-in-Err-clause-cause g c = caused_length Below (g.D.Tape.tape c.args.disk.now) (g.D.Tape.tape c.seek_last.new.disk) c.in-Err.error c.in-Err.ensures.cause c.in-Err.ensures.never_beyond

pub returns-in-Ok-clause-handy : goal.returns-in-Ok-clause-handy
returns-in-Ok-clause-handy g c told = keeps_handy (sought_kept c.forget_after.ensures.refused c.forget_after.ensures.each c.seek_last.ensures.sought) told

pub returns-in-Err-clause-handy : goal.returns-in-Err-clause-handy
returns-in-Err-clause-handy g c told = keeps_handy c.seek_last.ensures.sought told

pub returns-in-Ok-clause-quick : goal.returns-in-Ok-clause-quick
returns-in-Ok-clause-quick g c told quick named = c.in-Ok.ensures.quick told (quick_cache quick) named

pub returns-in-Err-clause-true_links : goal.returns-in-Err-clause-true_links
returns-in-Err-clause-true_links g c told stands links =
    never_led {T = Unit {0}} (pack (g.D.Tape.tape c.args.disk.now)) [] c.args.file.now.fid c.args.file.now (Err c.in-Err.error) (g.met.D.Disk.formed c.args.disk.now told) stands links (c.in-Err.ensures.misled told stands.from)

pub returns-in-Ok-clause-bound : goal.returns-in-Ok-clause-bound
returns-in-Ok-clause-bound g c =
    let few = few_bytes c.in-Ok.ensures.found.seen in
    let is = c.length_at.ensures in
    let first = c.in-Ok.ensures.ends.first in
    omega (arith, few, is, first)

pub returns-in-Ok-clause-listed : goal.returns-in-Ok-clause-listed
returns-in-Ok-clause-listed g c =
    let found = c.in-Ok.ensures.found in
    let lists = lists_forgotten c.args.hints.now.cache c.seek_last.new.cache c.forget_after.new.cache c.in-Ok.ensures.ends c.forget_after.ensures.refused (c.forget_after.ensures.lower c.in-Ok.last.number (omega arith)) found.lists in
    record {
      number = c.in-Ok.last.number;
      bytes = c.in-Ok.last.found.info.bytes;
      tells = c.length_at.ensures;
      ends = c.in-Ok.ensures.ends;
      most = few_bytes found.seen;
      is = λ told whole. (is_last whole told (ends_of c.in-Ok.ensures.ends found)).number;
      listed = is_listed g.D.Tape.told (pack (g.D.Tape.tape c.args.disk.now)) lists (λ told. (found.stands told).carries);
    }

pub returns-in-Ok-clause-highest : goal.returns-in-Ok-clause-highest
returns-in-Ok-clause-highest g c told whole low =
    let found = c.in-Ok.ensures.found in
    let ends = ends_of c.in-Ok.ensures.ends found in
    let last = is_last whole told ends in
    let lists = lists_forgotten c.args.hints.now.cache c.seek_last.new.cache c.forget_after.new.cache c.in-Ok.ensures.ends c.forget_after.ensures.refused (c.forget_after.ensures.lower c.in-Ok.last.number (omega arith)) found.lists in
    let size = c.length_at.ensures ∙ ends_at whole told ends in
    let number = last.number in
    highest_left c.args.hints.now.cache c.forget_after.new.cache last (omega (arith, low, size, number)) lists c.forget_after.ensures.none
