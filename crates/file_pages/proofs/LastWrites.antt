-- The old last page of a file that grows: its value, its label, and its value again.
use Rattle.std.proofs.Common.{Err, IsErrOf, List, Ok, Some, ap, arith, cond, false, length, nat_le, refl, subst, sym, [], ℕ, ◌++◌, ◌+◌, ◌-◌, ◌<◌, ◌^◌, ◌∙◌, ◌∷◌, ◌≡◌}
use Rattle.std.proofs.lemmas.Bool.Decides.{nat_tests}
use Rattle.std.proofs.lemmas.List.{length-append}
use Rattle.disk_records.proofs.FirstOnes.{first_front, first_then}
use Rattle.disk_records.proofs.Growing.{added-twice, pack-after, writes-append}
use Rattle.disk_records.specs.Commands.{claim_writes, relabel_writes, value_writes}
use Rattle.disk_records.specs.Events.{IsFirstOf, writes_in}
use Rattle.disk_records.specs.Packs.{Pack, after, carried, sector_at}
use Rattle.disk_records.specs.Tapes.{DiskAlone, Taped, added, capped, pack}
use Rattle.disk_records.specs.declared.records.Event.{Event}
use Rattle.disk_records.specs.declared.records.Page.{Page}
use Rattle.disk_records.specs.declared.records.Place.{Place}
use Rattle.disk_records.specs.declared.records.Tally.{Tally}
use Rattle.label_check.specs.Guarded.{Carries, DoneWhole, Guarded}
use Rattle.label_check.specs.declared.errors.GuardError.TheVariants as guard
use Rattle.label_check.specs.declared.errors.GuardError.{GuardError}
use Rattle.laws_call.specs.pack_laws.proofs.guards.Laws.{value_writes_keep_the_page}
use Rattle.laws_call.specs.pack_laws.proofs.tallies.Laws.{count_tells_what_was_written}
use Rattle.pack_model.specs.sessions.Tallies.{is_among, took_effect}
use Rattle.page_seeking.specs.declared.refs.FileError.TheVariants as file
use Rattle.page_seeking.specs.declared.refs.FileError.{FileError}
use Rattle.file_pages.proofs.Counting.{effect_by_the_count, first_length}
use Rattle.file_pages.proofs.Erring.{fault_of, memory_of}
use Rattle.file_pages.specs.Counting.{counted_after}
use Rattle.file_pages.specs.Growing.{Commits, counted_second}
use Rattle.file_pages.specs.Inside.{error_at}

-- no second one, nothing is counted
none_counted : (writes n : ℕ) (t : Tally) → n < 2 → t ≡ counted_second writes n t
none_counted writes n t few = let off : nat_le 2 n ≡ false = grind (arith, nat_tests) in sym (ap (λ k. cond k (took_effect (writes + 2) t) t) off)

module _ (a b : Taped) (at : ℕ) (page : Page) (label value : List ℕ) (one : DiskAlone a b) where
  -- the first value failed
  pub value_not_done : (t : Tally) (error : GuardError) (place : Place) (held : ℕ) (wanted : Page) (e : FileError) → e ≡ error_at place held wanted error
      → Guarded {T = Unit {0}} (Carries at page) at [] (value_writes at value) 2 a b (Err error) → Commits at label value a b t t (Err e)
  value_not_done t error place held wanted e same guarded =
      let few = first_length (value_writes at value) (added a b) guarded.some in
      record {
        makes = record {
          some = first_front (value_writes at value) (relabel_writes at label value) (added a b) guarded.some;
          all = tt;
          out_of_memory = λ memory. let less = (guarded.want (memory_of error place held wanted e same memory)).less in omega (arith, less);
          runs = let r = guarded.runs in omega (arith, r);
        };
        counts = λ tells. none_counted a.writes (length (added a b)) t (omega (arith, few));
      }

  module _ (carries : carried (pack a) at ≡ Some page) (done : DoneWhole (Carries at page) (value_writes at value) 2 a b) where
    packs : pack b ≡ after (pack a) (value_writes at value)
    packs = pack-after one.grown ∙ ap (after (pack a)) done.wrote

    -- the page stands there still, with the value
    pub carried_still : carried (pack b) at ≡ Some page
    carried_still = subst (λ (p : Pack). carried p at ≡ Some page) (sym packs) (value_writes_keep_the_page (pack a) at page value 1 carries (omega arith)).page_here

    pub value_stands : (sector_at (pack b) at).value ≡ value
    value_stands = subst (λ (p : Pack). (sector_at p at).value ≡ value) (sym packs) (ap (λ s. s.value) (value_writes_keep_the_page (pack a) at page value 1 carries (omega arith)).here)

    module _ (c : Taped) (two : DiskAlone b c) where
      both : added a c ≡ added a b ++ added b c
      both = added-twice one.grown two.grown

      many : length (added a c) ≡ 1 + length (added b c)
      many = let sum : length (added a b ++ added b c) ≡ length (added a b) + length (added b c) = length-append (added a b) (added b c) in let first = ap length done.wrote in let long = ap length both in omega (arith, sum, first, long)

      ab : writes_in b.events ≡ writes_in a.events + 1
      ab = let first : writes_in (added a b) ≡ 1 = ap writes_in done.wrote in let sum : writes_in b.events ≡ writes_in a.events + writes_in (added a b) = ap writes_in one.grown.events ∙ writes-append a.events (added a b) in omega (arith, sum, first)

      some_second : IsFirstOf (relabel_writes at label value) (added b c) → IsFirstOf (claim_writes at label value) (added a c)
      some_second some = subst (IsFirstOf (claim_writes at label value)) (sym both) (first_then (value_writes at value) (relabel_writes at label value) (added a b) (added b c) done.wrote some)

      module _ (first : a.writes ≡ capped (writes_in a.events)) (mid : b.writes ≡ capped (writes_in b.events)) (last : c.writes ≡ capped (writes_in c.events)) (t : Tally) (limit : t.limit < 2 ^ 64) where
        -- an operation that the label commits is counted alike after the first value
        effect : took_effect (b.writes + 1) t ≡ took_effect (a.writes + 2) t
        effect = effect_by_the_count b.writes a.writes (writes_in b.events) (writes_in a.events) 1 1 t mid first ab limit (omega arith)

        -- some of the label and the value were written
        counted_label : (events : List Event) → IsFirstOf (relabel_writes at label value) events → is_among b.writes 1 c.writes ≡ nat_le 1 (writes_in events)
            → cond (is_among b.writes 1 c.writes) (took_effect (b.writes + 1) t) t ≡ counted_second a.writes (1 + length events) t
        counted_label [] h is = ap (λ k. cond k (took_effect (b.writes + 1) t) t) is
        counted_label (x ∷ []) h is = ap (λ k. cond k (took_effect (b.writes + 1) t) t) (is ∙ ap (λ (e : Event). nat_le 1 (writes_in (e ∷ []))) h.0) ∙ effect
        counted_label (x ∷ y ∷ []) h is = ap (λ k. cond k (took_effect (b.writes + 1) t) t) (is ∙ ap (λ (e : Event). nat_le 1 (writes_in (e ∷ y ∷ []))) h.0 ∙ ap (λ (e : Event). nat_le 1 (1 + writes_in (e ∷ []))) h.1.0) ∙ effect
        counted_label (x ∷ y ∷ z ∷ events) h is = absurd h.1.1

        broken_counts : (error : GuardError) (place : Place) (held : ℕ) (wanted : Page) (e : FileError) → e ≡ error_at place held wanted error
            → Guarded {T = Unit {0}} (Carries at page) at [] (relabel_writes at label value) 2 b c (Err error)
            → (IsErrOf {T = Unit {0}} (Err e) file.DiskFault → c.writes < 2 ^ 64 - 1)
            → counted_after b.writes 1 c.writes (Err error) t ≡ counted_second a.writes (length (added a c)) t
        broken_counts (guard.Wrong found) place held wanted e same guarded tells =
            let none : length (added b c) ≡ 0 = ap length guarded.wrong.silent in none_counted a.writes (length (added a c)) t (omega (arith, many, none))
        broken_counts guard.DiskFault place held wanted e same guarded tells =
            counted_label (added b c) guarded.some (count_tells_what_was_written b c 1 two.grown mid last (tells (fault_of e same))) ∙ ap (λ n. counted_second a.writes n t) (sym many)
        broken_counts guard.Memory place held wanted e same guarded tells =
            let none = first_length [] (added b c) (guarded.want refl).unwritten in none_counted a.writes (length (added a c)) t (omega (arith, many, none))

        -- the label wasn't done
        pub label_not_done : {u : Tally} (error : GuardError) (place : Place) (held : ℕ) (wanted : Page) (e : FileError) → e ≡ error_at place held wanted error
            → Guarded {T = Unit {0}} (Carries at page) at [] (relabel_writes at label value) 2 b c (Err error) → u ≡ counted_after b.writes 1 c.writes (Err error) t
            → Commits at label value a c t u (Err e)
        label_not_done error place held wanted e same guarded counts =
            let spare = one.grown.spare in
            let put = ap length done.wrote in
            record {
              makes = record {
                some = some_second guarded.some;
                all = tt;
                out_of_memory = λ memory. let less = (guarded.want (memory_of error place held wanted e same memory)).less in omega (arith, less, spare, put);
                runs = let r = guarded.runs in let s = done.runs in omega (arith, r, s);
              };
              counts = λ tells. counts ∙ broken_counts error place held wanted e same guarded tells;
            }

        -- it was
        pub label_done : {u : Tally} → Guarded {T = Unit {0}} (Carries at page) at [] (relabel_writes at label value) 2 b c (Ok tt) → u ≡ counted_after b.writes 1 c.writes (Ok tt) t
            → Commits at label value a c t u (Ok tt)
        label_done guarded counts =
            let all : added a c ≡ claim_writes at label value = both ∙ ap (λ l. l ++ added b c) done.wrote ∙ ap (λ l. value_writes at value ++ l) guarded.ok.wrote in
            record {
              makes = record {
                some = some_second guarded.some;
                all = all;
                out_of_memory = λ memory. cc;
                runs = let r = guarded.runs in let s = done.runs in omega (arith, r, s);
              };
              counts = λ tells. counts ∙ effect ∙ ap (λ (l : List Event). counted_second a.writes (length l) t) (sym all);
            }
