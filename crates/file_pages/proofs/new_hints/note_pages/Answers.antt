use Rattle.std.proofs.Common.{List, ap, arith, drop, inl, refl, subst, suc, ℕ, ◌+◌, ◌-◌, ◌∙◌, ◌≡◌, ◌⊎◌, length}
use Rattle.page_seeking.specs.Seeking.{Refused, page_number}
use Rattle.disk_records.specs.declared.records.Page.{Page}
use Rattle.file_pages.specs.Growing.{NotesOne}
use Rattle.file_pages.proofs.NewNotes.{NotedSoFar, none_noted, noted_all, noted_on}
use Rattle.file_pages.proofs.NewListed.{ListsSome, all_listed_then, next_left, some_on}
use Rattle.file_pages.proofs.new_hints.note_pages.Goals as goal

pub loop-at-init : goal.loop-at-init
loop-at-init c = record { numbers = refl; grows = omega arith; least = omega arith; left = λ k is. let none : k ≡ 0 = omega (arith, is) in rw none refl; listed = λ k is. inl (λ i less most. absurd (omega (arith, is, less))); quiet = λ none. refl; notes = inl (none_noted c.args.fid c.args.last c.args.fresh.now c.args.cache.now.entries) }

pub loop-at-preserved : goal.loop-at-preserved
loop-at-preserved c =
    let inv = c.loop-at.invariant in
    let rest = c.in-Some.ensures.cases.0 in
    let long = c.in-Some.ensures.cases.1 in
    let numbers = inv.numbers in
    let grows = inv.grows in
    let one = c.note_one.ensures in
    let more = one.grows in
    let page : c.page_of_file.result ≡ page_number c.args.fid (suc c.loop-at.before) = c.page_of_file.ensures ∙ ap (page_number c.args.fid) (omega arith) in
    let noted = subst (λ (p : Page). NotesOne p c.in-Some.at.now c.loop-at.cache c.note_one.new.cache) page one in
    let was = subst (λ (l : List ℕ). NotedSoFar c.args.fid c.args.last c.args.fresh.now c.loop-at.before l c.args.cache.now.entries c.loop-at.cache.entries ⊎ Refused c.args.cache.now c.loop-at.cache) rest inv.notes in
    let now = noted_on c.args.fid c.args.last c.args.fresh.now c.loop-at.before c.in-Some.at.now c.in-Some.later.now c.args.cache.now c.loop-at.cache c.note_one.new.cache grows was noted in
    record {
      numbers = omega (arith, numbers, long);
      grows = omega (arith, grows, more);
      left = λ k is.
          let least = inv.least in
          let was = inv.left (k - 1) (omega (arith, is, least)) ∙ rest in
          subst (λ n. drop n c.args.fresh.now ≡ c.in-Some.later.now) (omega (arith, is, least)) (next_left (k - 1) c.args.fresh.now c.in-Some.at.now c.in-Some.later.now was).1;
      listed = λ k is.
          let least = inv.least in
          let was = inv.left (k - 1) (omega (arith, is, least)) ∙ rest in
          let this : c.page_of_file.result ≡ page_number c.args.fid (c.args.last + 1 + (k - 1)) = c.page_of_file.ensures ∙ ap (page_number c.args.fid) (omega (arith, is, least)) in
          subst (λ n. ListsSome c.args.fid c.args.last c.args.fresh.now n c.note_one.new.cache.entries ⊎ Refused c.args.cache.now c.note_one.new.cache) (omega (arith, is, least))
          (some_on c.args.fid c.args.last c.args.fresh.now (k - 1) c.in-Some.at.now c.in-Some.later.now c.page_of_file.result c.args.cache.now c.loop-at.cache c.note_one.new.cache grows this was one (inv.listed (k - 1) (omega (arith, is, least))));
      quiet = λ none. let many = ap length none in let least = inv.least in absurd (omega (arith, many, numbers, long, least));
      least = let least = inv.least in omega (arith, least);
      notes = subst (λ n. NotedSoFar c.args.fid c.args.last c.args.fresh.now n c.in-Some.later.now c.args.cache.now.entries c.note_one.new.cache.entries ⊎ Refused c.args.cache.now c.note_one.new.cache) (omega arith) now;
    }

pub returns-clause-notes : goal.returns-clause-notes
returns-clause-notes c =
    let none = c.in_default.ensures.cases in
    let numbers = c.loop-at.invariant.numbers in
    noted_all c.args.fid c.args.last c.args.fresh.now c.loop-at.before c.loop-at.rest.now c.args.cache.now c.loop-at.cache (omega (arith, none, numbers)) c.loop-at.invariant.notes

pub returns-clause-listed : goal.returns-clause-listed
returns-clause-listed c =
    let none = c.in_default.ensures.cases in
    let numbers = c.loop-at.invariant.numbers in
    all_listed_then c.args.fid c.args.last c.args.fresh.now c.args.cache.now c.loop-at.cache (c.loop-at.invariant.listed (length c.args.fresh.now) (omega (arith, none, numbers)))
