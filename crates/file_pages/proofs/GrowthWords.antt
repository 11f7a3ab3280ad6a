-- The words of a growth, as the code takes them, and what is claimed.
use Rattle.std.proofs.Common.{All, Bool, List, None, Option, Some, [], ap, arith, drop, false, length, min, refl, subst, suc, sym, take, true, ℕ, ◌%◌, ◌*◌, ◌++◌, ◌+◌, ◌-◌, ◌/◌, ◌<◌, ◌∙◌, ◌∷◌, ◌≡◌, ◌≤◌}
use Rattle.std.proofs.lemmas.List.{drop_min, length-drop, take_min}
use Rattle.alto_words.specs.Fid.{disk_descriptor, is_fid}
use Rattle.alto_words.specs.declared.fid.Fid.{Fid}
use Rattle.disk_records.proofs.Bytes.{length-bytes_of}
use Rattle.disk_records.specs.Packs.{Pack}
use Rattle.disk_records.specs.declared.records.Sector.{Sector}
use Rattle.disk_records.specs.declared.shape.Shape.{Shape}
use Rattle.laws_call.proofs.writing.Laws.{written_acts}
use Rattle.laws_call.specs.Acting.{Acts}
use Rattle.laws_call.specs.Writing.{Written, grown_writes, grows, widens}
use Rattle.laws_call.specs.laws_contents.proofs.model.Laws.{model_lengths_are_of_bytes}
use Rattle.laws_operation.proofs.Grown.{few_pages}
use Rattle.laws_operation.proofs.Rows.{claims_units}
use Rattle.laws_operation.proofs.grow.Laws.{grow_words_fit}
use Rattle.laws_operation.proofs.places.Laws.{file_that_does_not_live_has_no_page}
use Rattle.laws_operation.proofs.widen.Laws.{widen_words_fit}
use Rattle.laws_operation.specs.FileWords.{CanGrow}
use Rattle.laws_call.specs.laws_record.proofs.DirReads.{not_descriptor}
use Rattle.page_seeking.specs.Seeking.{Stands, file_length, page_number}
use Rattle.page_seeking.specs.Seeking.{IsLast}
use Rattle.page_seeking.specs.declared.ends.LastPage.{LastPage}
use Rattle.laws_call.specs.pack_laws.proofs.Joining.{most_is}
use Rattle.pack_model.specs.operations.Commands.{Claimable, all_claimed, claims_of, grown_claims, last_room, past_last}
use Rattle.pack_model.specs.operations.Committing.{length_of, moves_of, page_of_byte, pages_added, units}
use Rattle.pack_model.specs.operations.Operations.Move.{commits, quiet}
use Rattle.pack_model.specs.operations.Operations.{Move, grow_moves}
use Rattle.pack_model.specs.operations.Step.Operation.{grow, widen}
use Rattle.pack_model.specs.operations.Step.{Operation}
use Rattle.pack_model.specs.reading.Bytes.{bytes_of}
use Rattle.pack_model.specs.reading.Files.{lives, most_pages, place}
use Rattle.pack_model.specs.reading.Model.{read_as}
use Rattle.pack_model.specs.reading.Sights.{sights}
use Rattle.pack_model.specs.states.Whole.{Tidy, Whole}
use Rattle.file_pages.specs.Growing.{CanClaim, IsGrowth, MayBeGrown, of_directory, of_file}

-- ---- what a caller knows
pub can_grow : (p : Pack) (o : Operation) (f : Fid) (new past fresh : List ℕ) (last : LastPage) (buffer : Sector) → IsLast p f last → Stands p (page_number f last.number) last.at buffer → length buffer.value ≡ 256
    → All (λ x. x < 256) new → All (λ w. w < 65536) past → MayBeGrown p o f new past fresh → CanGrow p f (file_length p f) new past fresh last.at
can_grow p o f new past fresh last buffer is stands sized bytes words may = record {
  size = refl;
  sector = ap (place (sights p) f) (sym is.number) ∙ is.placed;
  sized = ap (λ (s : Sector). length s.value) (sym stands.holds) ∙ sized;
  bytes = bytes;
  words = words;
  room = may.room;
  number = may.number;
  free = may.free;
  distinct = may.distinct;
}

-- ---- the operation
-- These are all record writes of a growth, with as many moves.
pub record IsGrown (p : Pack) (o : Operation) (f : Fid) (b at : ℕ) (new past fresh : List ℕ) : Type 0 where
  pub exact : Written p o fresh [] (grown_writes p f b at new past fresh)
  pub acts : Acts p o fresh [] (grown_writes p f b at new past fresh)
  pub moves : moves_of (read_as p) o ≡ grow_moves fresh o
  pub few : page_of_byte b + length fresh ≤ 65535

claimed_many : (shape : Shape) (f : Fid) (past fresh : List ℕ) (number previous : ℕ) (bytes : List ℕ) → length (all_claimed (claims_of shape f number previous bytes past fresh)) ≡ length fresh
claimed_many shape f past [] number previous bytes = refl
claimed_many shape f past (at ∷ fresh) number previous bytes = ap suc (claimed_many shape f past fresh (suc number) at (drop 512 bytes))

pub written_growth : (p : Pack) (o : Operation) (f : Fid) (b at : ℕ) (new past fresh : List ℕ) → IsGrowth f new o → CanGrow p f b new past fresh at → Written p o fresh [] (grown_writes p f b at new past fresh)
written_growth p o f b at new past fresh (of_file ordinary) can = grows ordinary can
written_growth p o f b at new past fresh (of_directory directory same) can =
    subst (λ n. Written p (widen f) fresh [] (grown_writes p f b at n past fresh)) (sym same) (widens directory (subst (λ n. CanGrow p f b n past fresh at) same can))

-- a file of which a page has a place lives
pub is_lived : (p : Pack) (f : Fid) (n at : ℕ) → Whole p → place (sights p) f n ≡ Some at → lives (sights p) f ≡ true
is_lived p f n at whole placed = by (lives (sights p) f) refl
  where
    by : (b : Bool) → lives (sights p) f ≡ b → lives (sights p) f ≡ true
    by true is = is
    by false is = let none : ◌≡◌ {A = Option ℕ} None (Some at) = sym (file_that_does_not_live_has_no_page p f n whole is) ∙ placed in absurd cc

module _ (p : Pack) (f : Fid) (at : ℕ) (new past fresh : List ℕ) (whole : Whole p) (tidy : Tidy p) (can : CanGrow p f (file_length p f) new past fresh at) where
  lived : lives (sights p) f ≡ true
  lived = is_lived p f (page_of_byte (file_length p f)) at whole can.sector

  moves_are : (o : Operation) → is_fid f disk_descriptor ≡ false → grow_moves (units (pages_added (length_of (read_as p) f) (length new))) o ≡ grow_moves fresh o
  moves_are o apart =
      let long = model_lengths_are_of_bytes p f whole tidy apart lived in
      ap (λ (l : List Move). l ++ (quiet ∷ commits o ∷ quiet ∷ [])) (claims_units fresh (pages_added (length_of (read_as p) f) (length new)) (can.number ∙ ap (λ n. pages_added n (length new)) (sym long)))

  growth_moves : (o : Operation) → IsGrowth f new o → moves_of (read_as p) o ≡ grow_moves fresh o
  growth_moves o (of_file ordinary) = moves_are (grow f new) ordinary.no_descriptor
  growth_moves o (of_directory directory same) =
      let long : length new ≡ 512 = ap length same in
      ap (λ n. grow_moves (units (pages_added (length_of (read_as p) f) n)) (widen f)) (sym long) ∙ moves_are (widen f) (not_descriptor f directory)

  claimable_growth : (o : Operation) → IsGrowth f new o → Claimable (sights p) f (page_of_byte (file_length p f)) (grown_claims p.shape f (file_length p f) at new past fresh)
  claimable_growth o (of_file ordinary) = (grow_words_fit p f (file_length p f) new past fresh at whole ordinary can).claimable
  claimable_growth o (of_directory directory same) =
      subst (λ n. Claimable (sights p) f (page_of_byte (file_length p f)) (grown_claims p.shape f (file_length p f) at n past fresh)) (sym same)
      (widen_words_fit p f (file_length p f) past fresh at whole directory (subst (λ n. CanGrow p f (file_length p f) n past fresh at) same can)).claimable

  pub is_grown : (o : Operation) → IsGrowth f new o → page_of_byte (file_length p f) ≤ 65535 → IsGrown p o f (file_length p f) at new past fresh
  is_grown o growth small =
      let exact = written_growth p o f (file_length p f) at new past fresh growth can in
      record {
        exact = exact;
        acts = written_acts p o fresh [] (grown_writes p f (file_length p f) at new past fresh) whole tidy exact;
        moves = growth_moves o growth;
        few =
            let m : most_pages ≡ 65535 = most_is in
            let many = claimed_many p.shape f past fresh (file_length p f / 512 + 2) at (drop (last_room (file_length p f)) new) in
            let h = few_pages (sights p) f (page_of_byte (file_length p f)) (grown_claims p.shape f (file_length p f) at new past fresh) (omega (arith, m, small)) (claimable_growth o growth) in
            omega (arith, m, many, h);
      }

-- ---- the bytes
module _ (b : ℕ) (new past fresh : List ℕ) (number : length fresh ≡ pages_added b (length new)) (room : (b + length new) % 512 + length (bytes_of past) ≤ 512) (old count : ℕ) (old_is : old ≡ b % 512) (count_is : count ≡ min (length new) (512 - old)) where
  room_words : (b + length new) % 512 + 2 * length past ≤ 512
  room_words = let long = length-bytes_of past in omega (arith, long, room)

  swapped : count ≡ min (last_room b) (length new)
  swapped = omega (arith, count_is, old_is)

  -- those that go into the old last page, and those that come after it
  pub first_bytes : take count new ≡ take (last_room b) new
  first_bytes = ap (λ n. take n new) swapped ∙ take_min (last_room b) new

  pub other_bytes : drop count new ≡ drop (last_room b) new
  other_bytes = ap (λ n. drop n new) swapped ∙ drop_min (last_room b) new

  pub counted_bytes : old + count ≡ min 512 (b % 512 + length new)
  counted_bytes = omega (arith, count_is, old_is)

  -- the words past them fit
  pub words_fit : old + count + 2 * length (past_last past fresh) ≤ 512
  words_fit = by fresh number
    where
      by : (fs : List ℕ) → length fs ≡ pages_added b (length new) → old + count + 2 * length (past_last past fs) ≤ 512
      by [] number = let r = room_words in omega (arith, r, number, count_is, old_is)
      by (at ∷ fs) number = omega (arith, count_is, old_is)

  -- the pages that come can be claimed
  pub can_claim : (p : Pack) (o : Operation) (f : Fid) (last : ℕ) → b ≡ file_length p f → last + length fresh ≤ 65535 → MayBeGrown p o f new past fresh → CanClaim p last (drop count new) past fresh
  can_claim p o f last is few may = record {
    free = may.free;
    distinct = may.distinct;
    few = few;
    small = let r = room_words in omega (arith, r);
    room = λ some. let r = room_words in let less = length-drop count new in omega (arith, r, some, less, number, count_is, old_is);
  }
