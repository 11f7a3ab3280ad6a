-- A make, by its two claims.
use Rattle.std.proofs.Common.{Bool, Err, IsErrOf, List, Ok, ap, arith, length, refl, subst, suc, sym, take, true, [], ℕ, ◌++◌, ◌+◌, ◌-◌, ◌<◌, ◌^◌, ◌∙◌, ◌∷◌, ◌≡◌, ◌≢◌}
use Rattle.std.proofs.lemmas.List.{append-nil, length-append}
use Rattle.std.proofs.lemmas.List.Elements.{All-cons, All-nil}
use Rattle.alto_words.specs.declared.fid.Fid.{Fid}
use Rattle.disk_records.proofs.FirstOnes.{first_front, first_then}
use Rattle.disk_records.proofs.Growing.{added-twice, grown_twice, pack-after, writes-append}
use Rattle.disk_records.specs.Frames.{IsFreeSector}
use Rattle.disk_records.specs.Commands.{claim_writes, value_writes}
use Rattle.disk_records.specs.Events.{IsFirstOf, writes_in}
use Rattle.disk_records.specs.Packs.{after, is_free_at}
use Rattle.disk_records.specs.Tapes.{DiskAlone, Taped, added, capped, pack}
use Rattle.disk_records.specs.declared.records.Event.{Event}
use Rattle.disk_records.specs.declared.records.Page.{Page}
use Rattle.disk_records.specs.declared.records.Place.{Place}
use Rattle.disk_records.specs.declared.records.Tally.{Tally}
use Rattle.label_check.specs.Guarded.{DoneWhole, Guarded}
use Rattle.label_check.specs.declared.errors.GuardError.TheVariants as guard
use Rattle.label_check.specs.declared.errors.GuardError.{GuardError}
use Rattle.pack_model.specs.operations.Commands.{Claim, first_page_claim, leader_claim}
use Rattle.pack_model.specs.operations.Operations.{make_moves, make_writes}
use Rattle.pack_model.specs.operations.Step.Operation.{make}
use Rattle.pack_model.specs.sessions.Tallies.{counted, took_effect}
use Rattle.laws_call.proofs.acting.Laws.{acts_of_each_operation}
use Rattle.laws_call.specs.Acting.{Operates, around, begun}
use Rattle.laws_call.specs.Writing.{makes}
use Rattle.laws_hint.specs.MapChanges.{marked}
use Rattle.laws_lookup.proofs.others.Laws.{make_leaves_others}
use Rattle.laws_lookup.specs.OtherLaws.{LeavesOthers}
use Rattle.laws_operation.proofs.grow.Laws.{claims_keep_unclaimed_free}
use Rattle.laws_operation.proofs.make.Laws.{make_places_its_pages, make_words_fit}
use Rattle.laws_operation.specs.PlaceLaws.{HasTwoPages}
use Rattle.page_seeking.specs.declared.refs.FileError.TheVariants as file
use Rattle.page_seeking.specs.declared.refs.FileError.{FileError}
use Rattle.file_pages.proofs.Counting.{effect_by_the_count, first_length}
use Rattle.file_pages.specs.Calls.{MayBeMade}
use Rattle.file_pages.specs.Counting.{counted_after}
use Rattle.file_pages.specs.Inside.{error_at}
use Rattle.file_pages.proofs.Erring.{memory_of, fault_of}
use Rattle.file_pages.proofs.MakeMoves.{few_quiet, later_counts}

module _ (a b : Taped) (bits : List Bool) (f : Fid) (name : List ℕ) (moment leader_at page_at : ℕ) (may : MayBeMade (pack a) f name leader_at page_at) where
  abbrev page : Claim
  page = first_page_claim (pack a).shape f leader_at page_at

  abbrev leader : Claim
  leader = leader_claim (pack a).shape f name moment leader_at page_at

  -- the first claim failed
  pub make_unbegun : {t : Tally} (bits_now : List Bool) (error : GuardError) (place : Place) (held : ℕ) (wanted : Page) (e : FileError) → e ≡ error_at place held wanted error
      → let claim = first_page_claim (pack a).shape f leader_at page_at in Guarded {T = Unit {0}} (λ p. IsFreeSector p page_at) page_at (value_writes page_at claim.value) (claim_writes page_at claim.label claim.value) 2 a b (Err error)
      → Operates {T = Unit {0}} file.DiskFault file.Memory (make f name moment) (page_at ∷ leader_at ∷ []) (around a bits t) (around b bits_now t) (Err e)
  make_unbegun {t} bits_now error place held wanted e same guarded =
      let few = first_length (claim_writes page_at page.label page.value) (added a b) guarded.some in
      begun (record {
        writes = make_writes page leader;
        released = [];
        exact = makes may.can;
        acts = (acts_of_each_operation (pack a) may.whole may.tidy).makes f name moment leader_at page_at may.can;
        some = first_front (claim_writes page_at page.label page.value) (claim_writes leader_at leader.label leader.value ++ []) (added a b) guarded.some;
        all = tt;
        table = tt;
        counts = λ tells. sym (few_quiet (make f name moment) t a.writes (length (added a b)) (omega (arith, few)));
        out_of_memory = λ memory. let less = (guarded.want (memory_of error place held wanted e same memory)).less in omega (arith, less);
      })

  module _ (c : Taped) (one : DiskAlone a b) (two : DiskAlone b c) (done : DoneWhole (λ p. IsFreeSector p page_at) (claim_writes page_at (first_page_claim (pack a).shape f leader_at page_at).label (first_page_claim (pack a).shape f leader_at page_at).value) 2 a b) where
    -- the leader's sector is free still
    pub leader_still_free : is_free_at (pack b) leader_at ≡ true
    leader_still_free =
        subst (λ p. is_free_at p leader_at ≡ true) (sym (pack-after one.grown ∙ ap (after (pack a)) done.wrote)) (claims_keep_unclaimed_free (pack a) (page ∷ []) leader_at may.can.leader_free (All-cons (λ at. leader_at ≢ at) page_at [] may.can.two (All-nil (λ at. leader_at ≢ at))))

    both : added a c ≡ added a b ++ added b c
    both = added-twice one.grown two.grown

    many : length (added a c) ≡ 3 + length (added b c)
    many = let sum : length (added a b ++ added b c) ≡ length (added a b) + length (added b c) = length-append (added a b) (added b c) in let three : length (added a b) ≡ 3 = ap length done.wrote in let long = ap length both in omega (arith, sum, three, long)

    ab : writes_in b.events ≡ writes_in a.events + 3
    ab = let three : writes_in (added a b) ≡ 3 = ap writes_in done.wrote in let sum : writes_in b.events ≡ writes_in a.events + writes_in (added a b) = ap writes_in one.grown.events ∙ writes-append a.events (added a b) in omega (arith, sum, three)

    -- a prefix of the make's record writes
    some_first : IsFirstOf (claim_writes leader_at leader.label leader.value) (added b c) → IsFirstOf (make_writes page leader) (added a c)
    some_first some = subst (IsFirstOf (make_writes page leader)) (sym both) (first_then (claim_writes page_at page.label page.value) (claim_writes leader_at leader.label leader.value ++ []) (added a b) (added b c) done.wrote (first_front (claim_writes leader_at leader.label leader.value) [] (added b c) some))

    -- all of them
    pub make_wrote : added b c ≡ claim_writes leader_at (leader_claim (pack a).shape f name moment leader_at page_at).label (leader_claim (pack a).shape f name moment leader_at page_at).value
        → added a c ≡ make_writes (first_page_claim (pack a).shape f leader_at page_at) (leader_claim (pack a).shape f name moment leader_at page_at)
    make_wrote wrote = both ∙ ap (λ l. l ++ added b c) done.wrote ∙ ap (λ l. claim_writes page_at page.label page.value ++ l) (wrote ∙ sym (append-nil (claim_writes leader_at leader.label leader.value)))

    -- the new file's pages are in its sectors
    pub make_placed : added b c ≡ claim_writes leader_at (leader_claim (pack a).shape f name moment leader_at page_at).label (leader_claim (pack a).shape f name moment leader_at page_at).value → HasTwoPages (pack c) f leader_at page_at
    make_placed wrote =
        subst (λ p. HasTwoPages p f leader_at page_at) (sym (pack-after (grown_twice one.grown two.grown) ∙ ap (after (pack a)) (make_wrote wrote)))
        (make_places_its_pages (pack a) f name moment page leader may.whole may.tidy (make_words_fit (pack a) f name moment leader_at page_at may.can))

    -- and all other files are as they were
    pub make_others : added b c ≡ claim_writes leader_at (leader_claim (pack a).shape f name moment leader_at page_at).label (leader_claim (pack a).shape f name moment leader_at page_at).value → LeavesOthers f (pack a) (pack c)
    make_others wrote =
        subst (λ p. LeavesOthers f (pack a) p) (sym (pack-after (grown_twice one.grown two.grown) ∙ ap (after (pack a)) (make_wrote wrote)))
        (make_leaves_others (pack a) f name moment page leader may.whole may.tidy (make_words_fit (pack a) f name moment leader_at page_at may.can))

    module _ (first : a.writes ≡ capped (writes_in a.events)) (mid : b.writes ≡ capped (writes_in b.events)) (last : c.writes ≡ capped (writes_in c.events)) where
      later : (events : List Event) (at : ℕ) (label value : List ℕ) → IsFirstOf (claim_writes at label value) events → writes_in events ≡ length events
      later [] at label value h = refl
      later (x ∷ []) at label value h = rw h.0 refl
      later (x ∷ y ∷ []) at label value h = rw (h.0, h.1.0) refl
      later (x ∷ y ∷ z ∷ []) at label value h = rw (h.0, h.1.0, h.1.1.0) refl
      later (x ∷ y ∷ z ∷ u ∷ events) at label value h = absurd h.1.1.1

      bc : writes_in c.events ≡ writes_in b.events + writes_in (added b c)
      bc = ap writes_in two.grown.events ∙ writes-append b.events (added b c)

      start : c.writes < 2 ^ 64 - 1 → a.writes + 3 ≡ b.writes
      start small = omega (arith, ab, bc, first, mid, last, small)

      rise : c.writes < 2 ^ 64 - 1 → IsFirstOf (claim_writes leader_at leader.label leader.value) (added b c) → b.writes + length (added b c) ≡ c.writes
      rise small some = let same = later (added b c) leader_at leader.label leader.value some in omega (arith, ab, bc, same, first, mid, last, small)

      -- the tally after a second claim that failed
      broken_counts : (t : Tally) (error : GuardError) (place : Place) (held : ℕ) (wanted : Page) (e : FileError) → e ≡ error_at place held wanted error
          → Guarded {T = Unit {0}} (λ p. IsFreeSector p leader_at) leader_at (value_writes leader_at leader.value) (claim_writes leader_at leader.label leader.value) 2 b c (Err error)
          → (IsErrOf {T = Unit {0}} (Err e) file.DiskFault → c.writes < 2 ^ 64 - 1)
          → counted_after b.writes 2 c.writes (Err error) t ≡ counted a.writes (take (length (added a c)) (make_moves (make f name moment))) t
      broken_counts t (guard.Wrong found) place held wanted e same guarded tells =
          let none : length (added b c) ≡ 0 = ap length guarded.wrong.silent in
          sym (few_quiet (make f name moment) t a.writes (length (added a c)) (omega (arith, many, none)))
      broken_counts t guard.DiskFault place held wanted e same guarded tells =
          let small = tells (fault_of e same) in
          later_counts (make f name moment) t a.writes b.writes c.writes leader_at leader.label leader.value (added b c) guarded.some (start small) (rise small guarded.some) small
          ∙ ap (λ n. counted a.writes (take n (make_moves (make f name moment))) t) (sym many)
      broken_counts t guard.Memory place held wanted e same guarded tells =
          let one_at_most = first_length (value_writes leader_at leader.value) (added b c) (guarded.want refl).unwritten in
          sym (few_quiet (make f name moment) t a.writes (length (added a c)) (omega (arith, many, one_at_most)))

      -- the second claim failed
      pub make_broken : {t u : Tally} (bits_now : List Bool) (error : GuardError) (place : Place) (held : ℕ) (wanted : Page) (e : FileError) → e ≡ error_at place held wanted error
          → let claim = leader_claim (pack a).shape f name moment leader_at page_at in Guarded {T = Unit {0}} (λ p. IsFreeSector p leader_at) leader_at (value_writes leader_at claim.value) (claim_writes leader_at claim.label claim.value) 2 b c (Err error)
          → u ≡ counted_after b.writes 2 c.writes (Err error) t
          → Operates {T = Unit {0}} file.DiskFault file.Memory (make f name moment) (page_at ∷ leader_at ∷ []) (around a bits t) (around c bits_now u) (Err e)
      make_broken {t} {u} bits_now error place held wanted e same guarded counts =
          let spare = one.grown.spare in
          let put = ap length done.wrote in
          begun (record {
            writes = make_writes page leader;
            released = [];
            exact = makes may.can;
            acts = (acts_of_each_operation (pack a) may.whole may.tidy).makes f name moment leader_at page_at may.can;
            some = some_first guarded.some;
            all = tt;
            table = tt;
            counts = λ tells. counts ∙ broken_counts t error place held wanted e same guarded tells;
            out_of_memory = λ memory. let less = (guarded.want (memory_of error place held wanted e same memory)).less in omega (arith, less, spare, put);
          })

      -- both were done
      pub make_done : {t u : Tally} (bits_now : List Bool) → let claim = leader_claim (pack a).shape f name moment leader_at page_at in Guarded {T = Unit {0}} (λ p. IsFreeSector p leader_at) leader_at (value_writes leader_at claim.value) (claim_writes leader_at claim.label claim.value) 2 b c (Ok tt)
          → bits_now ≡ marked true (page_at ∷ leader_at ∷ []) bits → u ≡ counted_after b.writes 2 c.writes (Ok tt) t → t.limit < 2 ^ 64
          → Operates {T = Unit {0}} file.DiskFault file.Memory (make f name moment) (page_at ∷ leader_at ∷ []) (around a bits t) (around c bits_now u) (Ok tt)
      make_done {t} {u} bits_now guarded table counts limit =
          let all = make_wrote guarded.ok.wrote in
          let effect = effect_by_the_count b.writes a.writes (writes_in b.events) (writes_in a.events) 3 2 t mid first ab limit (omega arith) in
          let fifth : a.writes + (3 + 2) ≡ suc (suc (suc (suc (suc a.writes)))) = omega arith in
          begun (record {
            writes = make_writes page leader;
            released = [];
            exact = makes may.can;
            acts = (acts_of_each_operation (pack a) may.whole may.tidy).makes f name moment leader_at page_at may.can;
            some = some_first guarded.some;
            all = all;
            table = table;
            counts = λ tells. counts ∙ effect ∙ ap (λ n. took_effect n t) fifth ∙ ap (λ l. counted a.writes (take (length l) (make_moves (make f name moment))) t) (sym all);
            out_of_memory = λ memory. cc;
          })
