-- Keys.
use Rattle.std.proofs.Common.{◌≡◌, ℕ, ◌+◌, ◌≤◌, List, ◌++◌, length, take, drop, sym, subst, ◌∙◌, ap, Ok, arith, length-drop, length-take, drop_of_length-le}
use Rattle.std.proofs.lemmas.List.{take-append-drop, drop-drop}
use Rattle.std.proofs.Math.Seq.{take-append_seam}
use Rattle.disk_records.specs.Tapes.{Taped, HasRead}

-- the next n keys were read, and none only where none were left
pub has_read : {old new : Taped} (keys : List ℕ) (taken n : ℕ) (before moved : List ℕ) → old.keys ≡ drop taken keys → new.keys ≡ drop (taken + n) keys → taken + n ≤ length keys → moved ≡ take n (drop taken keys) → (n ≡ 0 → taken ≡ length keys) → HasRead before (moved ++ drop n before) old new (Ok n)
has_read {old} {new} keys taken n before moved first then within is end =
    let exact : length moved ≡ n = ap length is ∙ length-take n (drop taken keys) ∙ omega (arith, length-drop taken keys) in
    let front : take n (moved ++ drop n before) ≡ moved = subst (λ k. take k (moved ++ drop n before) ≡ moved) exact (take-append_seam moved (drop n before)) in
    let cut : old.keys ≡ take n (moved ++ drop n before) ++ new.keys =
    first
    ∙ sym (take-append-drop n (drop taken keys))
    ∙ ap (λ l. take n (drop taken keys) ++ l) (drop-drop n taken keys ∙ sym then)
    ∙ ap (λ l. l ++ new.keys) (sym (front ∙ is)) in
    record {
      ok = record {
        moved = cut;
        end_of_keys = (λ z. first ∙ drop_of_length-le keys (let e = end z in omega arith), λ e. omega (arith, length-drop taken keys, ap length (sym first ∙ e)));
      };
      err = tt;
      want = λ h. cc;
    }
