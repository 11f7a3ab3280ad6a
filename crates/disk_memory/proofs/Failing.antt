-- Commands that fail after some of their record writes.
use Rattle.std.proofs.Common.{◌≡◌, ◌≢◌, ℕ, ◌+◌, ◌-◌, ◌<◌, ◌≤◌, zero, suc, List, [], ◌++◌, length, take, drop, min, refl, sym, subst, ◌∙◌, ap, cond, Some, None, Result, Ok, Err, arith}
use Rattle.std.specs.Prelude.{is_none}
use Rattle.std.specs.Option.{option_or}
use Rattle.std.proofs.lemmas.List.{take-append-drop, length-take}
use Rattle.disk_records.specs.declared.records.Sector.{Sector}
use Rattle.disk_records.specs.declared.records.Act.{Act}
use Rattle.disk_records.specs.declared.records.Act.TheVariants.{Read, Check, Write}
use Rattle.disk_records.specs.declared.records.Plan.{Plan}
use Rattle.disk_records.specs.declared.records.Event.{Event}
use Rattle.disk_records.specs.declared.traits.DiskError.{DiskError}
use Rattle.disk_records.specs.declared.traits.DiskError.TheVariants.{Failed, Memory, Mismatch}
use Rattle.disk_records.specs.Packs.{Pack, sector_at}
use Rattle.disk_records.specs.Checks.{mismatch as first_mismatch, mismatch_in, write_of, writes_of}
use Rattle.disk_records.specs.Events.{IsFirstOf}
use Rattle.disk_records.specs.Tapes.{Taped, DiskAlone, Ran, RanWhole, RanAgainst, RanShort, added, capped, pack}
use Rattle.disk_records.proofs.FirstOnes.{first_front}
use Rattle.disk_memory.specs.Adding.{writes_by, within, first_writes}
use Rattle.disk_memory.specs.Failing.{HasFailed, writes_before}

-- ---- the command that makes the first record writes of another one
-- an act that makes no record write instead of one checks what it checked
mismatch_in-within : (part : ℕ) (act : Act) (n : ℕ) (memory disk : List ℕ) → mismatch_in part (within act n) memory disk ≡ mismatch_in part act memory disk
mismatch_in-within part Read n memory disk = refl
mismatch_in-within part Check n memory disk = refl
mismatch_in-within part Write zero memory disk = refl
mismatch_in-within part Write (suc n) memory disk = refl

-- it has the same first mismatch
mismatch-first_writes : (plan : Plan) (n : ℕ) (memory disk : Sector) → first_mismatch (first_writes plan n) memory disk ≡ first_mismatch plan memory disk
mismatch-first_writes plan n memory disk =
    let left = n - writes_by plan.header in
    let header = mismatch_in-within 0 plan.header n memory.header disk.header in
    let label = mismatch_in-within 1 plan.label left memory.label disk.label in
    let value = mismatch_in-within 2 plan.value (left - writes_by plan.label) memory.value disk.value in
    ap (λ h. option_or h (option_or (mismatch_in 1 (within plan.label left) memory.label disk.label) (mismatch_in 2 (within plan.value (left - writes_by plan.label)) memory.value disk.value))) header
    ∙ ap (λ l. option_or (mismatch_in 0 plan.header memory.header disk.header) (option_or l (mismatch_in 2 (within plan.value (left - writes_by plan.label)) memory.value disk.value))) label
    ∙ ap (λ v. option_or (mismatch_in 0 plan.header memory.header disk.header) (option_or (mismatch_in 1 plan.label memory.label disk.label) v)) value

-- first ones of no events
take-nil : (n : ℕ) → take n (let none : List Event = [] in none) ≡ []
take-nil zero = refl
take-nil (suc n) = refl

-- it makes the first ones of an act's record writes
write_of-within : (at part : ℕ) (act : Act) (n : ℕ) (words : List ℕ) → write_of at part (within act n) words ≡ take n (write_of at part act words)
write_of-within at part Read n words = sym (take-nil n)
write_of-within at part Check n words = sym (take-nil n)
write_of-within at part Write zero words = refl
write_of-within at part Write (suc n) words = ap (λ l. write_of at part Write words ++ l) (sym (take-nil n))

-- the first ones of an act's record writes and of others
take-write_of : (at part : ℕ) (act : Act) (words : List ℕ) (n : ℕ) (more : List Event) → take n (write_of at part act words ++ more) ≡ write_of at part (within act n) words ++ take (n - writes_by act) more
take-write_of at part Read words n more = ap (λ k. take k more) (omega arith)
take-write_of at part Check words n more = ap (λ k. take k more) (omega arith)
take-write_of at part Write words zero more = refl
take-write_of at part Write words (suc n) more = ap (λ k. write_of at part Write words ++ take k more) (omega arith)

-- it makes the first ones of all record writes
writes_of-first_writes : (at : ℕ) (plan : Plan) (n : ℕ) (memory : Sector) → writes_of at (first_writes plan n) memory ≡ take n (writes_of at plan memory)
writes_of-first_writes at plan n memory =
    let left = n - writes_by plan.header in
    let label = write_of at 1 plan.label memory.label in
    let value = write_of at 2 plan.value memory.value in
    sym (take-write_of at 0 plan.header memory.header n (label ++ value)
    ∙ ap (λ l. write_of at 0 (within plan.header n) memory.header ++ l)
    (take-write_of at 1 plan.label memory.label left value
    ∙ ap (λ l. write_of at 1 (within plan.label left) memory.label ++ l) (sym (write_of-within at 2 plan.value (left - writes_by plan.label) memory.value))))

-- ---- a tape with other counts of faults
abbrev pub faulty : Taped → ℕ → ℕ → ℕ → Taped
faulty t disk keys shows = record t { disk_faults = disk; key_faults = keys; show_faults = shows }

-- a fault is counted after a command
pub alone_failed : {x y new : Taped} (disk keys shows : ℕ) → DiskAlone x y → new ≡ faulty y (capped (disk + 1)) keys shows → disk ≤ new.disk_faults → DiskAlone (faulty x disk keys shows) new
alone_failed {x} {y} {new} disk keys shows a same more =
    let P : Taped → Type 0 = DiskAlone (faulty x disk keys shows) in
    let g = a.grown in
    let count : new.disk_faults ≡ capped (disk + 1) = ap (λ t. t.disk_faults) same in
    subst P (sym same) (record {
      grown = record { form = g.form; base = g.base; events = g.events; disk_faults = omega (arith, count, more); key_faults = omega arith; show_faults = omega arith; runs = g.runs; writes = g.writes; spare = g.spare };
      keys = a.keys;
      key_faults = refl;
      show_faults = refl;
      shown = a.shown;
    })

-- first ones of the first ones are first ones
some_of : (at : ℕ) (plan : Plan) (n : ℕ) (memory : Sector) (events : List Event) → IsFirstOf (writes_of at (first_writes plan n) memory) events → IsFirstOf (writes_of at plan memory) events
some_of at plan n memory events some =
    let all = writes_of at plan memory in
    let P : List Event → Type 0 = λ l. IsFirstOf l events in
    subst P (take-append-drop n all) (first_front (take n all) (drop n all) events (subst P (writes_of-first_writes at plan n memory) some))

-- the record writes before a failure were made
pub record WroteBefore (at : ℕ) (plan : Plan) (after : ℕ) (memory : Sector) (x y : Taped) : Type 0 where
  pub wrote : added x y ≡ writes_before (pack x) at plan memory after

-- what the command with the first record writes says of the whole one
pub record Shortened (at : ℕ) (plan : Plan) (after : ℕ) (memory buffer : Sector) (x y : Taped) (inner : Result (Unit {0}) DiskError) : Type 0 where
  pub some : IsFirstOf (writes_of at plan memory) (added x y)
  pub checked : added x y ≢ [] → first_mismatch plan memory (sector_at (pack x) at) ≡ None
  pub whole : inner ≡ Ok tt → WroteBefore at plan after memory x y
  pub against : (part word : ℕ) → inner ≡ Err (Mismatch part word) → WroteBefore at plan after memory x y
  pub want : inner ≡ Err Memory → RanShort at plan memory x y
  pub room : inner ≡ Err Memory → x.spare < length (writes_before (pack x) at plan memory after)
  pub runs : y.runs ≡ capped (x.runs + 1)

-- where all checked words match
matches_before : (p : Pack) (at : ℕ) (plan : Plan) (memory : Sector) (after : ℕ) → first_mismatch plan memory (sector_at p at) ≡ None → writes_before p at plan memory after ≡ take after (writes_of at plan memory)
matches_before p at plan memory after matches = ap (λ o. cond (is_none o) (take after (writes_of at plan memory)) []) matches

-- where a checked word differs
differs_before : (p : Pack) (at : ℕ) (plan : Plan) (memory : Sector) (after : ℕ) (found : ℕ × ℕ) → first_mismatch plan memory (sector_at p at) ≡ Some found → writes_before p at plan memory after ≡ []
differs_before p at plan memory after found differs = ap (λ o. cond (is_none o) (take after (writes_of at plan memory)) []) differs

-- what Ok says
ok_of : {x y : Taped} {at : ℕ} {plan : Plan} {memory buffer : Sector} (inner : Result (Unit {0}) DiskError) → Ran at plan memory buffer x y inner → inner ≡ Ok tt → RanWhole at plan memory buffer (pack x) (added x y)
ok_of (Ok tt) h e = h.ok
ok_of (Err error) h e = absurd (cc)

-- what a mismatch says
mismatch_of : {x y : Taped} {at : ℕ} {plan : Plan} {memory buffer : Sector} (inner : Result (Unit {0}) DiskError) (part word : ℕ) → Ran at plan memory buffer x y inner → inner ≡ Err (Mismatch part word) → RanAgainst at plan memory (pack x) (added x y) part word
mismatch_of {x} {y} {at} {plan} {memory} {buffer} inner part word h e =
    let P : Result (Unit {0}) DiskError → Type 0 = Ran at plan memory buffer x y in
    let r = subst P e h in
    r.mismatch

-- the command with the first record writes says all of this
pub shortened : {x y : Taped} {short : Plan} (at : ℕ) (plan : Plan) (after : ℕ) (memory buffer : Sector) (inner : Result (Unit {0}) DiskError) → short ≡ first_writes plan after → Ran at short memory buffer x y inner → Shortened at plan after memory buffer x y inner
shortened {x} {y} {short} at plan after memory buffer inner is ran =
    let P : Plan → Type 0 = λ q. Ran at q memory buffer x y inner in
    let h = subst P is ran in
    let same : first_mismatch (first_writes plan after) memory (sector_at (pack x) at) ≡ first_mismatch plan memory (sector_at (pack x) at) = mismatch-first_writes plan after memory (sector_at (pack x) at) in
    let writes : writes_of at (first_writes plan after) memory ≡ take after (writes_of at plan memory) = writes_of-first_writes at plan after memory in
    record {
      some = some_of at plan after memory (added x y) h.some;
      checked = λ some. sym same ∙ h.checked some;
      whole = λ e. let w = ok_of inner h e in record { wrote = w.wrote ∙ writes ∙ sym (matches_before (pack x) at plan memory after (sym same ∙ w.matches)) };
      against = λ part word e. let w = mismatch_of inner part word h e in record { wrote = w.silent ∙ sym (differs_before (pack x) at plan memory after (part, word) (sym same ∙ w.differs)) };
      want = λ e.
          let short = h.want e in
          let less : x.spare < length (writes_of at (first_writes plan after) memory) = short.less in
          let fewer : length (writes_of at (first_writes plan after) memory) ≡ min after (length (writes_of at plan memory)) = ap length writes ∙ length-take after (writes_of at plan memory) in
          record { matches = sym same ∙ short.matches; silent = short.silent; less = omega (arith, fewer, less) };
      room = λ e.
          let short = h.want e in
          let Q : List Event → Type 0 = λ l. x.spare < length l in
          subst Q (writes ∙ sym (matches_before (pack x) at plan memory after (sym same ∙ short.matches))) short.less;
      runs = h.runs;
    }

-- ---- a machine's answer
-- it failed
pub ran_failed : {x y new : Taped} {inner : Result (Unit {0}) DiskError} (disk keys shows : ℕ) (at : ℕ) (plan : Plan) (after : ℕ) (memory buffer : Sector) (result : Result (Unit {0}) DiskError) → Shortened at plan after memory buffer x y inner → new ≡ faulty y (capped (disk + 1)) keys shows → result ≡ Err Failed → Ran at plan memory buffer (faulty x disk keys shows) new result
ran_failed {x} {y} {new} disk keys shows at plan after memory buffer result h same is =
    let P : Taped → Type 0 = λ t. Ran at plan memory buffer (faulty x disk keys shows) t result in
    let Q : Result (Unit {0}) DiskError → Type 0 = Ran at plan memory buffer (faulty x disk keys shows) (faulty y (capped (disk + 1)) keys shows) in
    subst P (sym same) (subst Q (sym is) (record { some = h.some; checked = h.checked; ok = tt; mismatch = tt; want = λ e. cc; runs = h.runs }))

-- it says where it failed
pub has_failed : {x y new : Taped} (disk keys shows : ℕ) (at : ℕ) (plan : Plan) (after : ℕ) (memory : Sector) (result : Result (Unit {0}) DiskError) → WroteBefore at plan after memory x y → new ≡ faulty y (capped (disk + 1)) keys shows → result ≡ Err Failed → HasFailed at plan memory (faulty x disk keys shows) new result after
has_failed {x} {y} {new} disk keys shows at plan after memory result h same is =
    let P : Taped → Type 0 = λ t. HasFailed at plan memory (faulty x disk keys shows) t result after in
    subst P (sym same) (record { failed = λ e. is; wrote = λ e. h.wrote; counted = λ e. refl; uncounted = λ e. absurd (cc); want = λ e. absurd (cc) })

-- there was no memory
pub ran_want : {x y : Taped} {inner : Result (Unit {0}) DiskError} (disk keys shows : ℕ) (at : ℕ) (plan : Plan) (after : ℕ) (memory buffer : Sector) → Shortened at plan after memory buffer x y inner → inner ≡ Err Memory → Ran at plan memory buffer (faulty x disk keys shows) (faulty y disk keys shows) (Err Memory)
ran_want disk keys shows at plan after memory buffer h none =
    let short = h.want none in
    record { some = h.some; checked = h.checked; ok = tt; mismatch = tt; want = λ e. record { matches = short.matches; silent = short.silent; less = short.less }; runs = h.runs }

pub has_wanted : {x y : Taped} {inner : Result (Unit {0}) DiskError} (disk keys shows : ℕ) (at : ℕ) (plan : Plan) (after : ℕ) (memory buffer : Sector) → Shortened at plan after memory buffer x y inner → inner ≡ Err Memory → HasFailed at plan memory (faulty x disk keys shows) (faulty y disk keys shows) (Err Memory) after
has_wanted disk keys shows at plan after memory buffer h none =
    record { failed = λ e. absurd (e refl); wrote = λ e. absurd (cc); counted = λ e. absurd (cc); uncounted = λ e. refl; want = λ e. h.room none }
