-- Releases one after another, as one loop makes them.
use Rattle.std.proofs.Common.{Bool, Err, IsErrOf, List, Ok, Some, [], ap, append_assoc, arith, false, length, set, subst, sym, ℕ, ◌++◌, ◌+◌, ◌<◌, ◌≤◌, ◌∙◌, ◌∷◌, ◌≡◌, ◌≢◌, ◌⊎◌}
use Rattle.std.proofs.lemmas.List.{append-nil, length-append}
use Rattle.alto_words.specs.declared.fid.Fid.{Fid}
use Rattle.disk_records.proofs.FirstOnes.{first_all, first_front, first_then}
use Rattle.disk_records.proofs.Growing.{added-twice, nothing_added}
use Rattle.disk_records.specs.Commands.{release_writes}
use Rattle.disk_records.specs.Events.{IsFirstOf}
use Rattle.disk_records.specs.Packs.{Pack, carried}
use Rattle.disk_records.specs.Tapes.{Grown, Taped, added, pack}
use Rattle.label_check.specs.declared.errors.PageInfo.{PageInfo}
use Rattle.laws_hint.specs.MapChanges.{marked}
use Rattle.pack_model.specs.operations.Commands.{releases_writes}
use Rattle.page_seeking.specs.Seeking.{IsFull, page_number}
use Rattle.page_seeking.specs.declared.refs.FileError.TheVariants.{Memory}
use Rattle.page_seeking.specs.declared.refs.FileError.{FileError}
use Rattle.file_pages.proofs.Going.{memory_as}
use Rattle.file_pages.proofs.Remaining.{marked_more, next_of, none_left, releases_joined, releases_more}
use Rattle.file_pages.specs.Releasing.{AreAfter, Follows, Halfway, ReleasesAll, ReleasesNext}

-- no page is released yet
pub halfway_here : {p : Pack} {f : Fid} {number : ℕ} {pages : List ℕ} (a : Taped) (bits : List Bool) → AreAfter p f number pages → Halfway p f number pages a a bits bits
halfway_here {pages = pages} a bits left = record { done = []; rest = pages; split = λ i. pages; wrote = nothing_added a.events; table = λ i. bits; left = left }

-- one more is
pub halfway_more : {p : Pack} {f : Fid} {number : ℕ} {pages : List ℕ} {a b c : Taped} {at to : ℕ} {info next : PageInfo} {bits mid now : List Bool} → Grown a b → Grown b c → Halfway p f number pages a b bits mid → Follows p (pack b) (page_number f number) at info
    → IsFull (page_number f number) info.bytes → ReleasesNext p (page_number f number) to next b c mid now → Halfway p f (number + 1) pages a c bits now
halfway_more {p} {f} {number} {pages} {a} {b} {c} {at} {to} {info} {next} {bits} {mid} {now} one two h follows full r =
    let n = next_of p f number at info h.rest follows.known full h.left in
    let same : to ≡ n.to = n.alone to (r.follows.known.carries) in
    record {
      done = h.done ++ to ∷ [];
      rest = n.rest;
      split = h.split ∙ ap (λ l. h.done ++ l) (n.split ∙ ap (λ i. i ∷ n.rest) (sym same)) ∙ sym (append_assoc h.done (to ∷ []) n.rest);
      wrote = added-twice one two ∙ ap (λ l. l ++ added b c) h.wrote ∙ ap (λ l. releases_writes h.done ++ l) r.wrote ∙ sym (releases_more h.done to);
      table = r.table ∙ ap (λ l. set l to false) h.table ∙ sym (marked_more h.done to false bits);
      left = n.left;
    }

-- none is left
pub releases_all : {p : Pack} {f : Fid} {number : ℕ} {pages : List ℕ} {a b : Taped} {at : ℕ} {info : PageInfo} {bits now : List Bool} → Halfway p f number pages a b bits now → Follows p (pack b) (page_number f number) at info → 1 ≤ number → (info.bytes ≢ 512) ⊎ (number ≡ 65535)
    → ReleasesAll pages a b bits now (Ok tt)
releases_all {p} {f} {number} {pages} {a} {b} {at} {info} {bits} {now} h follows first ends =
    let none = none_left p f number at info h.rest follows.known first ends h.left in
    let all : pages ≡ h.done = h.split ∙ ap (λ l. h.done ++ l) none ∙ append-nil h.done in
    let wrote : added a b ≡ releases_writes pages = h.wrote ∙ ap releases_writes (sym all) in
    record {
      some = subst (IsFirstOf (releases_writes pages)) (sym wrote) (first_all (releases_writes pages));
      all = wrote;
      table = h.table ∙ ap (λ l. marked false l bits) (sym all);
      less = λ memory. cc;
    }

-- the next one failed
pub releases_broke : {p : Pack} {f : Fid} {number : ℕ} {pages : List ℕ} {a b c : Taped} {at : ℕ} {info : PageInfo} {bits mid now : List Bool} {e : FileError} → Grown a b → Grown b c → Halfway p f number pages a b bits mid → Follows p (pack b) (page_number f number) at info
    → IsFull (page_number f number) info.bytes → ((to : ℕ) → ((i : ℕ) → carried p i ≡ Some (page_number f (number + 1)) → i ≡ to) → IsFirstOf (release_writes to) (added b c)) → (IsErrOf {T = ℕ × PageInfo} (Err e) Memory → b.spare < 2)
    → ReleasesAll pages a c bits now (Err e)
releases_broke {p} {f} {number} {pages} {a} {b} {c} {at} {info} {e = e} one two h follows full breaks less =
    let n = next_of p f number at info h.rest follows.known full h.left in
    let part = first_front (release_writes n.to) (releases_writes n.rest) (added b c) (breaks n.to n.alone) in
    let whole : releases_writes pages ≡ releases_writes h.done ++ (release_writes n.to ++ releases_writes n.rest) = ap releases_writes (h.split ∙ ap (λ l. h.done ++ l) n.split) ∙ releases_joined h.done (n.to ∷ n.rest) in
    let both : added a c ≡ added a b ++ added b c = added-twice one two in
    let some : IsFirstOf (releases_writes h.done ++ (release_writes n.to ++ releases_writes n.rest)) (added a b ++ added b c) = first_then (releases_writes h.done) (release_writes n.to ++ releases_writes n.rest) (added a b) (added b c) h.wrote part in
    record {
      some = subst (λ l. IsFirstOf l (added a c)) (sym whole) (subst (IsFirstOf (releases_writes h.done ++ (release_writes n.to ++ releases_writes n.rest))) (sym both) some);
      all = tt;
      table = tt;
      less = λ memory.
          let few = less (memory_as (Unit {0}) (ℕ × PageInfo) e memory) in
          let kept = one.spare in
          let wrote = ap length h.wrote in
          let size = ap length whole in
          let sum = length-append (releases_writes h.done) (release_writes n.to ++ releases_writes n.rest) in
          let rest = length-append (release_writes n.to) (releases_writes n.rest) in
          omega (arith, few, kept, wrote, size, sum, rest);
    }
