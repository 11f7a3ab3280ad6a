-- A growth: the claims of its pages, and then its old last page.
use Rattle.std.proofs.Common.{Bool, Err, List, OnOk, Ok, Result, [], ap, append_assoc, arith, cond, false, length, nat_le, nat_lt, refl, subst, suc, sym, take, true, ℕ, ◌*◌, ◌++◌, ◌+◌, ◌<◌, ◌^◌, ◌∙◌, ◌∷◌, ◌≡◌, ◌≤◌}
use Rattle.std.proofs.lemmas.Bool.Decides.{nat_tests}
use Rattle.std.proofs.lemmas.List.Sums.{sum_by-append}
use Rattle.std.proofs.lemmas.List.{length-append}
use Rattle.alto_words.specs.declared.fid.Fid.{Fid}
use Rattle.disk_records.proofs.FirstOnes.{first_front, first_then}
use Rattle.disk_records.proofs.Growing.{added-twice, writes-append}
use Rattle.disk_records.specs.Commands.{claim_writes}
use Rattle.disk_records.specs.Events.{IsFirstOf, writes_in}
use Rattle.disk_records.specs.Packs.{sector_at}
use Rattle.disk_records.specs.Tapes.{DiskAlone, Taped, added, capped, pack}
use Rattle.disk_records.specs.declared.records.Event.{Event}
use Rattle.disk_records.specs.declared.records.Tally.{Tally}
use Rattle.laws_call.specs.Acting.{around, Operates, begun}
use Rattle.laws_call.specs.Writing.{grown_writes}
use Rattle.laws_hint.specs.MapChanges.{marked}
use Rattle.laws_call.specs.pack_laws.proofs.tallies.Laws.{one_commit_is_counted}
use Rattle.laws_call.specs.pack_laws.specs.TallyLaws.{operations_in}
use Rattle.pack_model.specs.operations.Commands.{Claim, claims_of, claims_writes, grown_claims, grown_label, grown_value}
use Rattle.pack_model.specs.operations.Operations.Move.{commits, quiet}
use Rattle.pack_model.specs.operations.Operations.{Move, claims_moves, grow_moves, weight_of}
use Rattle.pack_model.specs.operations.Step.{Operation}
use Rattle.pack_model.specs.sessions.Tallies.{counted, took_effect}
use Rattle.page_seeking.specs.declared.refs.FileError.TheVariants as file
use Rattle.page_seeking.specs.declared.refs.FileError.{FileError}
use Rattle.file_pages.proofs.ClaimRow.{claims_many, claims_written}
use Rattle.file_pages.proofs.Counting.{effect_by_the_count, first_length}
use Rattle.file_pages.proofs.GrowthWords.{IsGrown}
use Rattle.file_pages.specs.Growing.{Commits, Makes, WritesAs, counted_second}

-- ---- the tally
claims_quiet : (fresh : List ℕ) → operations_in (claims_moves fresh) ≡ 0
claims_quiet [] = refl
claims_quiet (at ∷ fresh) = sum_by-append weight_of (quiet ∷ quiet ∷ quiet ∷ []) (claims_moves fresh) ∙ ap (λ n. 0 + n) (claims_quiet fresh)

claims_moved : (fresh : List ℕ) → length (claims_moves fresh) ≡ 3 * length fresh
claims_moved [] = refl
claims_moved (at ∷ fresh) = let h = claims_moved fresh in omega (arith, h)

-- of a growth's record writes some were made: it is counted where its label is among them
growth_counted : (o : Operation) (fresh : List ℕ) (w k : ℕ) (t : Tally) → counted w (take k (grow_moves fresh o)) t ≡ cond (nat_lt (3 * length fresh + 1) k) (took_effect (w + (3 * length fresh + 2)) t) t
growth_counted o fresh w k t =
    let before : List Move = claims_moves fresh ++ quiet ∷ [] in
    let same : grow_moves fresh o ≡ before ++ commits o ∷ quiet ∷ [] = sym (append_assoc (claims_moves fresh) (quiet ∷ []) (commits o ∷ quiet ∷ [])) in
    let none : operations_in before ≡ 0 = sum_by-append weight_of (claims_moves fresh) (quiet ∷ []) ∙ ap (λ n. n + 0) (claims_quiet fresh) in
    let long : length before ≡ 3 * length fresh + 1 = length-append (claims_moves fresh) (quiet ∷ []) ∙ ap (λ n. n + 1) (claims_moved fresh) in
    let next : suc (length before) ≡ 3 * length fresh + 2 = omega (arith, long) in
    ap (λ (l : List Move). counted w (take k l) t) same ∙ one_commit_is_counted w k before (quiet ∷ []) o t none refl
    ∙ ap (λ n. cond (nat_lt n k) (took_effect (w + suc (length before)) t) t) long ∙ ap (λ n. cond (nat_lt (3 * length fresh + 1) k) (took_effect (w + n) t) t) next

-- not where some of its claims alone were
few_counted : (o : Operation) (fresh : List ℕ) (w k : ℕ) (t : Tally) → k ≤ 3 * length fresh → counted w (take k (grow_moves fresh o)) t ≡ t
few_counted o fresh w k t few =
    let off : nat_lt (3 * length fresh + 1) k ≡ false = grind (arith, nat_tests) in growth_counted o fresh w k t ∙ ap (λ b. cond b (took_effect (w + (3 * length fresh + 2)) t) t) off

same_test : (m n k : ℕ) → k ≡ m + n → nat_le 2 n ≡ nat_lt (m + 1) k
same_test m n k sum = by (nat_le 2 n) refl
  where
    by : (b : Bool) → nat_le 2 n ≡ b → nat_le 2 n ≡ nat_lt (m + 1) k
    by true is = let on : nat_lt (m + 1) k ≡ true = grind (arith, nat_tests) in is ∙ sym on
    by false is = let off : nat_lt (m + 1) k ≡ false = grind (arith, nat_tests) in is ∙ sym off

-- ---- the operation
module _ (a b : Taped) (o : Operation) (f : Fid) (n at : ℕ) (new past fresh bytes : List ℕ) (number : ℕ) (is : IsGrown (pack a) o f n at new past fresh) (claims_are : claims_of a.form f number at bytes past fresh ≡ grown_claims a.form f n at new past fresh) (bits : List Bool) (t : Tally) where
  abbrev claimed : List Event
  claimed = claims_writes (claims_of a.form f number at bytes past fresh)

  abbrev label : List ℕ
  label = grown_label a.form n new fresh (sector_at (pack a) at).label

  abbrev value : List ℕ
  value = grown_value n new past fresh (sector_at (pack a) at).value

  all_are : claims_writes (claims_of a.form f number at bytes past fresh) ++ claim_writes at (grown_label a.form n new fresh (sector_at (pack a) at).label) (grown_value n new past fresh (sector_at (pack a) at).value) ≡ grown_writes (pack a) f n at new past fresh
  all_are = ap (λ (cs : List Claim). claims_writes cs ++ claim_writes at label value) claims_are

  long : length (claims_writes (claims_of a.form f number at bytes past fresh)) ≡ 3 * length fresh
  long = claims_many a.form f past fresh number at bytes

  all_long : length (grown_writes (pack a) f n at new past fresh) ≡ 3 * length fresh + 3
  all_long = ap length (sym all_are) ∙ length-append claimed (claim_writes at label value) ∙ ap (λ k. k + 3) long

  -- record writes of the claims alone
  pub claims_first : (e : FileError) → Makes (claims_writes (claims_of a.form f number at bytes past fresh)) (2 * length fresh) a b (Err e) → WritesAs {T = Unit {0}} (grown_writes (pack a) f n at new past fresh) (added a b) (Err e)
  claims_first e makes = record { some = subst (λ l. IsFirstOf l (added a b)) all_are (first_front claimed (claim_writes at label value) (added a b) makes.some); all = tt }

  -- a claim failed
  pub claims_failed : (e : FileError) → Makes (claims_writes (claims_of a.form f number at bytes past fresh)) (2 * length fresh) a b (Err e)
      → Operates {T = Unit {0}} file.DiskFault file.Memory o fresh (around a bits t) (around b bits t) (Err e)
  claims_failed e makes =
      let few = first_length claimed (added a b) makes.some in
      begun (record {
        writes = grown_writes (pack a) f n at new past fresh;
        released = [];
        exact = is.exact;
        acts = is.acts;
        some = (claims_first e makes).some;
        all = tt;
        table = tt;
        counts = λ tells. sym (ap (λ (l : List Move). counted a.writes (take (length (added a b)) l) t) is.moves ∙ few_counted o fresh a.writes (length (added a b)) t (omega (arith, few, long)));
        out_of_memory = λ memory. let less = makes.out_of_memory memory in omega (arith, less, long, all_long);
      })

  module _ (c : Taped) (one : DiskAlone a b) (two : DiskAlone b c) (done : added a b ≡ claims_writes (claims_of a.form f number at bytes past fresh)) (first : a.writes ≡ capped (writes_in a.events)) (mid : b.writes ≡ capped (writes_in b.events)) (limit : t.limit < 2 ^ 64) where
    both : added a c ≡ added a b ++ added b c
    both = added-twice one.grown two.grown

    many : length (added a c) ≡ 3 * length fresh + length (added b c)
    many = ap length both ∙ length-append (added a b) (added b c) ∙ ap (λ k. k + length (added b c)) (ap length done ∙ long)

    ab : writes_in b.events ≡ writes_in a.events + 3 * length fresh
    ab = ap writes_in one.grown.events ∙ writes-append a.events (added a b) ∙ ap (λ k. writes_in a.events + k) (ap writes_in done ∙ claims_written a.form f past fresh number at bytes)

    some_then : IsFirstOf (claim_writes at (grown_label a.form n new fresh (sector_at (pack a) at).label) (grown_value n new past fresh (sector_at (pack a) at).value)) (added b c) → IsFirstOf (grown_writes (pack a) f n at new past fresh) (added a c)
    some_then some = subst (λ l. IsFirstOf l (added a c)) all_are (subst (IsFirstOf (claimed ++ claim_writes at label value)) (sym both) (first_then claimed (claim_writes at label value) (added a b) (added b c) done some))

    counts_then : (u : Tally) → u ≡ counted_second b.writes (length (added b c)) t → u ≡ counted a.writes (take (length (added a c)) (grow_moves fresh o)) t
    counts_then u counts =
        let second = effect_by_the_count b.writes a.writes (writes_in b.events) (writes_in a.events) (3 * length fresh) 2 t mid first ab limit (omega arith) in
        counts ∙ ap (λ x. cond (nat_le 2 (length (added b c))) x t) second
        ∙ ap (λ k. cond k (took_effect (a.writes + (3 * length fresh + 2)) t) t) (same_test (3 * length fresh) (length (added b c)) (length (added a c)) many)
        ∙ sym (growth_counted o fresh a.writes (length (added a c)) t)

    -- all of them were written
    pub all_written : added b c ≡ claim_writes at (grown_label a.form n new fresh (sector_at (pack a) at).label) (grown_value n new past fresh (sector_at (pack a) at).value) → added a c ≡ grown_writes (pack a) f n at new past fresh
    all_written all = both ∙ ap (λ l. l ++ added b c) done ∙ ap (λ l. claimed ++ l) all ∙ all_are

    -- and of the old last page
    pub page_first : (result : Result (Unit {0}) FileError) → Makes (claim_writes at (grown_label a.form n new fresh (sector_at (pack a) at).label) (grown_value n new past fresh (sector_at (pack a) at).value)) 4 b c result → WritesAs (grown_writes (pack a) f n at new past fresh) (added a c) result
    page_first result makes = record { some = some_then makes.some; all = all_then result makes.all }
      where
        all_then : (result : Result (Unit {0}) FileError) → OnOk result (added b c ≡ claim_writes at (grown_label a.form n new fresh (sector_at (pack a) at).label) (grown_value n new past fresh (sector_at (pack a) at).value)) → OnOk result (added a c ≡ grown_writes (pack a) f n at new past fresh)
        all_then (Ok x) all = all_written all
        all_then (Err e) all = tt

    -- the old last page was written, or not
    pub page_committed : (now : List Bool) (u : Tally) (result : Result (Unit {0}) FileError) → Commits at (grown_label a.form n new fresh (sector_at (pack a) at).label) (grown_value n new past fresh (sector_at (pack a) at).value) b c t u result
        → OnOk result (now ≡ marked true fresh bits) → Operates file.DiskFault file.Memory o fresh (around a bits t) (around c now u) result
    page_committed now u result x table =
        let spare = one.grown.spare in
        let put = ap length done in
        let first_ones = page_first result x.makes in
        begun (record {
          writes = grown_writes (pack a) f n at new past fresh;
          released = [];
          exact = is.exact;
          acts = is.acts;
          some = first_ones.some;
          all = first_ones.all;
          table = table;
          counts = λ tells. counts_then u (x.counts tells) ∙ ap (λ (l : List Move). counted a.writes (take (length (added a c)) l) t) (sym is.moves);
          out_of_memory = λ memory. let less = x.makes.out_of_memory memory in omega (arith, less, long, all_long, spare, put);
        })
