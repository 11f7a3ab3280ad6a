-- What `grow_pages` finds out of its arguments, where the machine is modelled.
use Rattle.std.proofs.Common.{All, Bool, List, OnOk, Ok, Err, Result, Some, ap, arith, drop, length, min, refl, subst, suc, sym, take, true, ℕ, ◌*◌, ◌++◌, ◌+◌, ◌-◌, ◌/◌, ◌<◌, ◌^◌, ◌∙◌, ◌≡◌, ◌≤◌}
use Rattle.alto_words.specs.declared.fid.Fid.{Fid}
use Rattle.disk_records.proofs.Growing.{grown_twice, pack-after}
use Rattle.disk_records.specs.Events.{writes_in}
use Rattle.disk_records.specs.Packs.{Pack, after, carried, is_free_at, sector_at}
use Rattle.disk_records.specs.Tapes.{DiskAlone, Taped, added, capped, pack}
use Rattle.disk_records.specs.declared.records.Sector.{Sector}
use Rattle.disk_records.specs.declared.records.Tally.{Tally}
use Rattle.laws_call.specs.Acting.{around}
use Rattle.laws_hint.specs.MapChanges.{marked}
use Rattle.laws_midway.proofs.loops.Laws.{claims_leave_carried_pages}
use Rattle.laws_operation.specs.FileWords.{CanGrow}
use Rattle.page_seeking.specs.Seeking.{Stands, file_length, page_number}
use Rattle.page_seeking.specs.declared.refs.FileError.{FileError}
use Rattle.pack_model.specs.operations.Commands.{claims_of, claims_writes, grown_claims, grown_label, grown_value, past_last}
use Rattle.pack_model.specs.operations.Committing.{page_of_byte}
use Rattle.pack_model.specs.operations.PageWords.{link_to_first, relabelled}
use Rattle.pack_model.specs.operations.Step.{Operation}
use Rattle.pack_model.specs.reading.Bytes.{bytes_of, put_at, words_of}
use Rattle.pack_model.specs.states.Whole.{Tidy, Whole}
use Rattle.file_pages.proofs.ClaimRow.{claims_sectors}
use Rattle.file_pages.proofs.Growth.{all_written, claims_failed, claims_first, page_committed, page_first}
use Rattle.file_pages.proofs.GrownFile.{grew}
use Rattle.file_pages.proofs.GrowthWords.{IsGrown, can_claim, can_grow, counted_bytes, first_bytes, is_grown, other_bytes, words_fit}
use Rattle.file_pages.specs.Growing.{CanClaim, Commits, Grew, GrowsWith, Makes, MayBeGrown}
use Rattle.page_seeking.specs.Seeking.{IsLast}
use Rattle.page_seeking.specs.declared.ends.LastPage.{LastPage}

-- What is asked where the machine is modelled.
pub record Asked (p : Pack) (o : Operation) (f : Fid) (last : LastPage) (buffer : Sector) (new past fresh : List ℕ) : Type 0 where
  pub whole : Whole p
  pub tidy : Tidy p
  pub stands : Stands p (page_number f last.number) last.at buffer
  pub is : IsLast p f last
  pub may : MayBeGrown p o f new past fresh
  pub sized : length buffer.value ≡ 256
  pub bytes : All (λ x. x < 256) new
  pub words : All (λ w. w < 65536) past
  pub small : last.number ≤ 65535

module _ (a : Taped) (o : Operation) (f : Fid) (last : LastPage) (buffer : Sector) (new past fresh : List ℕ) (x : Asked (pack a) o f last buffer new past fresh) (count : ℕ) (count_is : count ≡ min (length new) (512 - last.info.bytes)) where
  abbrev b : ℕ
  b = file_length (pack a) f

  can : CanGrow (pack a) f (file_length (pack a) f) new past fresh last.at
  can = can_grow (pack a) o f new past fresh last buffer x.is x.stands x.sized x.bytes x.words x.may

  number : last.number ≡ page_of_byte (file_length (pack a) f)
  number = x.is.number

  grown : IsGrown (pack a) o f (file_length (pack a) f) last.at new past fresh
  grown = is_grown (pack a) f last.at new past fresh x.whole x.tidy can o x.may.growth (let small = x.small in omega (arith, number, small))

  pub few : last.number + length fresh ≤ 65535
  few = let h = grown.few in omega (arith, number, h)

  claims_are : claims_of a.form f (suc last.number) last.at (drop count new) past fresh ≡ grown_claims a.form f (file_length (pack a) f) last.at new past fresh
  claims_are =
      let next : suc last.number ≡ file_length (pack a) f / 512 + 2 = omega (arith, number) in
      ap (λ n. claims_of a.form f n last.at (drop count new) past fresh) next
      ∙ ap (λ (l : List ℕ). claims_of a.form f (file_length (pack a) f / 512 + 2) last.at l past fresh) (other_bytes b new past fresh x.may.number x.may.room last.info.bytes count x.is.bytes count_is)

  -- the claims
  pub may_claim : CanClaim (pack a) last.number (drop count new) past fresh
  may_claim = can_claim b new past fresh x.may.number x.may.room last.info.bytes count x.is.bytes count_is (pack a) o f last.number refl few x.may

  -- the words of the old last page
  pub words_are : last.info.bytes + count + 2 * length (past_last past fresh) ≤ 512
  words_are = words_fit b new past fresh x.may.number x.may.room last.info.bytes count x.is.bytes count_is

  value_is : (value words : List ℕ) → value ≡ words_of (put_at last.info.bytes (take count new ++ bytes_of words) (bytes_of buffer.value)) → words ≡ past_last past fresh → value ≡ grown_value (file_length (pack a) f) new past fresh (sector_at (pack a) last.at).value
  value_is value words is same =
      let old = x.is.bytes in
      let first = first_bytes b new past fresh x.may.number x.may.room last.info.bytes count x.is.bytes count_is in
      let was : buffer.value ≡ (sector_at (pack a) last.at).value = ap (λ (s : Sector). s.value) x.stands.holds in
      is ∙ (λ i. words_of (put_at (old i) (first i ++ bytes_of (same i)) (bytes_of (was i))))

  label_is : (label : List ℕ) (bytes next : ℕ) → label ≡ relabelled buffer.label bytes next → bytes ≡ last.info.bytes + count → next ≡ link_to_first a.form fresh → label ≡ grown_label a.form (file_length (pack a) f) new fresh (sector_at (pack a) last.at).label
  label_is label bytes next is many link =
      let counted = many ∙ counted_bytes b new past fresh x.may.number x.may.room last.info.bytes count x.is.bytes count_is in
      let was : buffer.label ≡ (sector_at (pack a) last.at).label = ap (λ (s : Sector). s.label) x.stands.holds in
      is ∙ (λ i. relabelled (was i) (counted i) (link i))

  module _ (c : Taped) (one : DiskAlone a c) (bits : List Bool) (t : Tally) where
    -- the claims, by the bytes that the code takes
    pub claims_then : (more : List ℕ) (result : Result (Unit {0}) FileError) → more ≡ drop count new → (CanClaim (pack a) last.number more past fresh → Makes (claims_writes (claims_of a.form f (suc last.number) last.at more past fresh)) (2 * length fresh) a c result)
        → Makes (claims_writes (claims_of a.form f (suc last.number) last.at (drop count new) past fresh)) (2 * length fresh) a c result
    claims_then more result same h =
        subst (λ (l : List ℕ). Makes (claims_writes (claims_of a.form f (suc last.number) last.at l past fresh)) (2 * length fresh) a c result) same
        (h (subst (λ (l : List ℕ). CanClaim (pack a) last.number l past fresh) (sym same) may_claim))

    -- a claim failed
    pub not_claimed : (e : FileError) → Makes (claims_writes (claims_of a.form f (suc last.number) last.at (drop count new) past fresh)) (2 * length fresh) a c (Err e) → GrowsWith o f last.at new past fresh (around a bits t) (around c bits t) (Err e)
    not_claimed e makes = record {
      operates = claims_failed a c o f b last.at new past fresh (drop count new) (suc last.number) grown claims_are bits t e makes;
      writes = claims_first a c o f b last.at new past fresh (drop count new) (suc last.number) grown claims_are bits t e makes;
    }

    module _ (done : added a c ≡ claims_writes (claims_of a.form f (suc last.number) last.at (drop count new) past fresh)) where
      -- the page is there still
      pub still_there : carried (pack c) last.at ≡ Some (page_number f last.number)
      still_there =
          let claims = claims_of a.form f (suc last.number) last.at (drop count new) past fresh in
          let free = subst (λ ats. All (λ i. is_free_at (pack a) i ≡ true) ats) (sym (claims_sectors a.form f past fresh (suc last.number) last.at (drop count new))) x.may.free in
          ap (λ (q : Pack). carried q last.at) (pack-after one.grown ∙ ap (after (pack a)) done) ∙ claims_leave_carried_pages (pack a) claims last.at (page_number f last.number) x.stands.carries free

      -- its words are those of the growth
      grown_commits : (d : Taped) (label value words : List ℕ) (bytes next : ℕ) → label ≡ relabelled buffer.label bytes next → bytes ≡ last.info.bytes + count → next ≡ link_to_first a.form fresh → value ≡ words_of (put_at last.info.bytes (take count new ++ bytes_of words) (bytes_of buffer.value)) → words ≡ past_last past fresh
          → (u : Tally) (result : Result (Unit {0}) FileError) → Commits last.at label value c d t u result → Commits last.at (grown_label a.form (file_length (pack a) f) new fresh (sector_at (pack a) last.at).label) (grown_value (file_length (pack a) f) new past fresh (sector_at (pack a) last.at).value) c d t u result
      grown_commits d label value words bytes next is_label many link is_value same u result commits =
          subst (λ (v : List ℕ). Commits last.at (grown_label a.form (file_length (pack a) f) new fresh (sector_at (pack a) last.at).label) v c d t u result) (value_is value words is_value same)
          (subst (λ (l : List ℕ). Commits last.at l value c d t u result) (label_is label bytes next is_label many link) commits)

      -- the page was written, or not
      pub operated : (d : Taped) (two : DiskAlone c d) → a.writes ≡ capped (writes_in a.events) → c.writes ≡ capped (writes_in c.events) → t.limit < 2 ^ 64 → (label value words : List ℕ) (bytes next : ℕ) → label ≡ relabelled buffer.label bytes next → bytes ≡ last.info.bytes + count → next ≡ link_to_first a.form fresh
          → value ≡ words_of (put_at last.info.bytes (take count new ++ bytes_of words) (bytes_of buffer.value)) → words ≡ past_last past fresh → (now : List Bool) (u : Tally) (result : Result (Unit {0}) FileError) → Commits last.at label value c d t u result → OnOk result (now ≡ marked true fresh bits)
          → GrowsWith o f last.at new past fresh (around a bits t) (around d now u) result
      operated d two first mid limit label value words bytes next is_label many link is_value same now u result commits table =
          let now_grown = grown_commits d label value words bytes next is_label many link is_value same u result commits in
          record {
            operates = page_committed a c o f b last.at new past fresh (drop count new) (suc last.number) grown claims_are bits t d one two done first mid limit now u result now_grown table;
            writes = page_first a c o f b last.at new past fresh (drop count new) (suc last.number) grown claims_are bits t d one two done first mid limit result now_grown.makes;
          }

      -- it was written: the pages are there
      pub grew_then : (d : Taped) (two : DiskAlone c d) → a.writes ≡ capped (writes_in a.events) → c.writes ≡ capped (writes_in c.events) → t.limit < 2 ^ 64 → (label value words : List ℕ) (bytes next : ℕ) → label ≡ relabelled buffer.label bytes next → bytes ≡ last.info.bytes + count → next ≡ link_to_first a.form fresh
          → value ≡ words_of (put_at last.info.bytes (take count new ++ bytes_of words) (bytes_of buffer.value)) → words ≡ past_last past fresh → (u : Tally) → Commits last.at label value c d t u (Ok tt) → Grew (pack a) (pack d) f last.number fresh
      grew_then d two first mid limit label value words bytes next is_label many link is_value same u commits =
          let now = grown_commits d label value words bytes next is_label many link is_value same u (Ok tt) commits in
          let all = all_written a c o f b last.at new past fresh (drop count new) (suc last.number) grown claims_are bits t d one two done first mid limit now.makes.all in
          subst (λ n. Grew (pack a) (pack d) f n fresh) (sym number)
          (subst (λ (q : Pack). Grew (pack a) q f (page_of_byte (file_length (pack a) f)) fresh) (sym (pack-after (grown_twice one.grown two.grown) ∙ ap (after (pack a)) all)) (grew (pack a) f last.at new past fresh x.whole x.tidy can o x.may.growth))
