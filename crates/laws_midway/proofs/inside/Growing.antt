-- Where the pages of a file are after a growth, or those of a directory after a widening.
use Rattle.std.proofs.Common.{All, List, None, Option, Some, [], ap, arith, drop, false, length, nat_le, subst, suc, sym, true, ℕ, ◌+◌, ◌/◌, ◌<◌, ◌∙◌, ◌∷◌, ◌≡◌, ◌≢◌, ◌≤◌, refl}
use Rattle.std.proofs.lemmas.Bool.Decides.{nat_tests}
use Rattle.std.specs.Option.{is_some}
use Rattle.laws_hint.specs.alto_words.specs.Fid.{disk_descriptor, is_directory, is_fid}
use Rattle.laws_hint.specs.alto_words.specs.declared.fid.Fid.{Fid}
use Rattle.laws_hint.specs.disk_records.proofs.Growing.{after-append}
use Rattle.laws_hint.specs.disk_records.specs.Commands.{claim_writes}
use Rattle.laws_hint.specs.disk_records.specs.Packs.{Pack, after, carried, is_free_at, sector_at}
use Rattle.laws_hint.specs.disk_records.specs.declared.records.Page.{Page}
use Rattle.laws_hint.specs.disk_records.specs.declared.shape.Shape.{Shape}
use Rattle.laws_hint.specs.laws_contents.proofs.model.Laws.{model_lengths_are_of_bytes}
use Rattle.laws_hint.specs.laws_line.proofs.crashes.Laws.{crashes_of_each_operation}
use Rattle.laws_hint.specs.laws_line.specs.CrashLaws.{StaysMendable}
use Rattle.laws_hint.specs.laws_lookup.proofs.others.Laws.{grow_keeps_pages, grow_leaves_others, widen_keeps_pages, widen_leaves_others}
use Rattle.laws_hint.specs.laws_lookup.specs.OtherLaws.{KeepsPages, LeavesOthers}
use Rattle.laws_hint.specs.laws_operation.proofs.Commanding.{claim_apart}
use Rattle.laws_hint.specs.laws_operation.proofs.grow.Laws.{grow_places_its_pages, grow_words_fit}
use Rattle.laws_hint.specs.laws_operation.proofs.lengths.Laws.{placed_pages_are_those_up_to_the_last}
use Rattle.laws_hint.specs.laws_operation.proofs.widen.Laws.{widen_places_its_pages, widen_words_fit}
use Rattle.laws_hint.specs.laws_operation.specs.ByteLaws.{Bear, IsOrdinary}
use Rattle.laws_hint.specs.laws_operation.specs.FileWords.{CanGrow}
use Rattle.laws_hint.specs.laws_record.proofs.Copying.{place_carried}
use Rattle.laws_hint.specs.laws_record.proofs.DirReads.{not_descriptor}
use Rattle.laws_hint.specs.pack_model.specs.operations.Commands.{Claim, all_claimed, claims_of, claims_writes, grown_claims, grown_label, grown_value, last_room, sectors_of}
use Rattle.laws_hint.specs.pack_model.specs.operations.Committing.{length_of, page_of_byte}
use Rattle.laws_hint.specs.pack_model.specs.operations.Operations.{grow_writes}
use Rattle.laws_hint.specs.pack_model.specs.operations.PageWords.{page_number, widening_bytes}
use Rattle.laws_hint.specs.pack_model.specs.operations.Step.Operation.{grow, widen}
use Rattle.laws_hint.specs.pack_model.specs.operations.Step.{Operation, step}
use Rattle.laws_hint.specs.pack_model.specs.reading.Files.{file_bytes, lives, place}
use Rattle.laws_hint.specs.pack_model.specs.reading.Model.{read_as}
use Rattle.laws_hint.specs.pack_model.specs.reading.Sights.{sights}
use Rattle.laws_hint.specs.pack_model.specs.reading.SlotWords.{space_words}
use Rattle.laws_hint.specs.pack_model.specs.states.Whole.{Tidy, Whole}
use Rattle.laws_midway.proofs.inside.Apart.{carried_is_apart_from_free}
use Rattle.laws_midway.proofs.inside.Longer.{grow_lengthens, is_lived, widen_lengthens}
use Rattle.laws_midway.proofs.inside.Looping.{claims_leave_other_sectors}
use Rattle.laws_midway.specs.GrowingLaws.{DirectoryHasGrown, FileHasGrown, HasGrown}

-- ---- places on a whole pack
-- the last page, and those before it
placed_to_the_last : (p : Pack) (f : Fid) (n : ℕ) → Whole p → lives (sights p) f ≡ true → n ≤ page_of_byte (length (file_bytes (sights p) f)) → place (sights p) f n ≢ None
placed_to_the_last p f n whole living low none =
    let on : nat_le n (page_of_byte (length (file_bytes (sights p) f))) ≡ true = grind (arith, nat_tests) in
    let both : false ≡ true = ap is_some (sym none) ∙ placed_pages_are_those_up_to_the_last p f n whole living ∙ on in
    absurd cc

none_past_the_last : (p : Pack) (f : Fid) (n : ℕ) → Whole p → lives (sights p) f ≡ true → page_of_byte (length (file_bytes (sights p) f)) < n → place (sights p) f n ≡ None
none_past_the_last p f n whole living high =
    let off : nat_le n (page_of_byte (length (file_bytes (sights p) f))) ≡ false = grind (arith, nat_tests) in
    by (place (sights p) f n) (placed_pages_are_those_up_to_the_last p f n whole living ∙ off)
  where
    by : (r : Option ℕ) → is_some r ≡ false → r ≡ None
    by None e = refl
    by (Some at) e = absurd cc

-- ---- the sectors of claims
claims_sectors : (shape : Shape) (f : Fid) (past fresh : List ℕ) (number previous : ℕ) (bytes : List ℕ) → sectors_of (all_claimed (claims_of shape f number previous bytes past fresh)) ≡ fresh
claims_sectors shape f past [] number previous bytes = refl
claims_sectors shape f past (at ∷ fresh) number previous bytes = ap (λ l. at ∷ l) (claims_sectors shape f past fresh (suc number) at (drop 512 bytes))

one_page : {x y : Page} → ◌≡◌ {A = Option Page} (Some x) (Some y) → x ≡ y
one_page e = cc

-- ---- a file of its length
abbrev grown_pack : Pack → Fid → ℕ → ℕ → List ℕ → List ℕ → List ℕ → Pack
grown_pack p f b at new past fresh = after p (grow_writes (grown_claims p.shape f b at new past fresh) at (grown_label p.shape b new fresh (sector_at p at).label) (grown_value b new past fresh (sector_at p at).value))

module _ (p : Pack) (f : Fid) (at : ℕ) (new past fresh : List ℕ) (whole : Whole p) (tidy : Tidy p) (can : CanGrow p f (length (file_bytes (sights p) f)) new past fresh at) where
  abbrev size : ℕ
  size = length (file_bytes (sights p) f)

  abbrev claims : List Claim
  claims = grown_claims p.shape f (length (file_bytes (sights p) f)) at new past fresh

  abbrev label : List ℕ
  label = grown_label p.shape (length (file_bytes (sights p) f)) new fresh (sector_at p at).label

  abbrev value : List ℕ
  value = grown_value (length (file_bytes (sights p) f)) new past fresh (sector_at p at).value

  abbrev q : Pack
  q = grown_pack p f (length (file_bytes (sights p) f)) at new past fresh

  sectors_are : sectors_of (all_claimed claims) ≡ fresh
  sectors_are = claims_sectors p.shape f past fresh (size / 512 + 2) at (drop (last_room size) new)

  lived : lives (sights p) f ≡ true
  lived = is_lived p f (page_of_byte size) at whole can.sector

  -- the leader's sector isn't written
  leads : (l : ℕ) → place (sights p) f 0 ≡ Some l → sector_at q l ≡ sector_at p l
  leads l there =
      let here = place_carried p (page_number f 0) l there in
      let last = place_carried p (page_number f (page_of_byte size)) at can.sector in
      let apart : l ≢ at = λ same. let n = one_page (sym here ∙ ap (carried p) same ∙ last) in let none : 0 ≡ page_of_byte size = ap (λ (x : Page). x.number) n in absurd (omega (arith, none)) in
      ap (λ (r : Pack). sector_at r l) (after-append p (claims_writes claims) (claim_writes at label value))
      ∙ claim_apart (after p (claims_writes claims)) at l label value apart
      ∙ claims_leave_other_sectors p claims l (carried_is_apart_from_free p l (page_number f 0) (sectors_of (all_claimed claims)) here (subst (λ ats. All (λ i. is_free_at p i ≡ true) ats) (sym sectors_are) can.free))

  pub has_grown : (o : Operation) → is_fid f disk_descriptor ≡ false → StaysMendable p (grow_writes claims at label value) o → KeepsPages f (page_of_byte size) p q → LeavesOthers f p q → Bear (sights q) f (suc (page_of_byte size)) (sectors_of (all_claimed claims)) → length_of (step (read_as p) o) f ≡ length_of (read_as p) f + length new
      → HasGrown p q f (page_of_byte size) fresh
  has_grown o apart stays kept others comes longer =
      let living : lives (sights q) f ≡ true = is_lived q f (page_of_byte size) at stays.whole (kept (page_of_byte size) at (omega arith) can.sector) in
      let before = model_lengths_are_of_bytes p f whole tidy apart lived in
      let now = model_lengths_are_of_bytes q f stays.whole stays.tidy apart living in
      let step_long : length_of (read_as q) f ≡ length_of (read_as p) f + length new = ap (λ m. length_of m f) stays.reads ∙ longer in
      let number = can.number in
      record {
        there = λ n low. placed_to_the_last p f n whole lived low;
        kept = kept;
        comes = subst (Bear (sights q) f (suc (page_of_byte size))) sectors_are comes;
        none = λ n high. none_past_the_last q f n stays.whole living (omega (arith, high, before, now, step_long, number));
        leads = leads;
        ends = omega (arith, before, now, step_long, number);
        others = others;
      }

-- ---- any length that is known
at_length : (p : Pack) (f : Fid) (new past fresh : List ℕ) (at : ℕ) → Whole p → Tidy p → IsOrdinary f → CanGrow p f (length (file_bytes (sights p) f)) new past fresh at
    → HasGrown p (grown_pack p f (length (file_bytes (sights p) f)) at new past fresh) f (page_of_byte (length (file_bytes (sights p) f))) fresh
at_length p f new past fresh at whole tidy ordinary can =
    let may = grow_words_fit p f (length (file_bytes (sights p) f)) new past fresh at whole ordinary can in
    has_grown p f at new past fresh whole tidy can (grow f new) ordinary.no_descriptor ((crashes_of_each_operation p whole tidy).grows f new _ at _ _ may) (grow_keeps_pages p f new _ at _ _ whole tidy may) (grow_leaves_others p f new _ at _ _ whole tidy may) (grow_places_its_pages p f new _ at _ _ whole tidy may)
    (grow_lengthens p f new ordinary (is_lived p f (page_of_byte (length (file_bytes (sights p) f))) at whole can.sector))

pub file_has_grown : FileHasGrown
file_has_grown p f b new past fresh at whole tidy ordinary can =
    subst (λ b. CanGrow p f b new past fresh at → HasGrown p (grown_pack p f b at new past fresh) f (page_of_byte b) fresh) (sym can.size)
    (λ can. at_length p f new past fresh at whole tidy ordinary can) can

wide_at_length : (p : Pack) (d : Fid) (past fresh : List ℕ) (at : ℕ) → Whole p → Tidy p → is_directory d ≡ true → CanGrow p d (length (file_bytes (sights p) d)) widening_bytes past fresh at
    → HasGrown p (grown_pack p d (length (file_bytes (sights p) d)) at widening_bytes past fresh) d (page_of_byte (length (file_bytes (sights p) d))) fresh
wide_at_length p d past fresh at whole tidy directory can =
    let may = widen_words_fit p d (length (file_bytes (sights p) d)) past fresh at whole directory can in
    has_grown p d at widening_bytes past fresh whole tidy can (widen d) (not_descriptor d directory) ((crashes_of_each_operation p whole tidy).widens d (space_words 256) _ at _ _ may) (widen_keeps_pages p d (space_words 256) _ at _ _ whole tidy may) (widen_leaves_others p d (space_words 256) _ at _ _ whole tidy may) (widen_places_its_pages p d (space_words 256) _ at _ _ whole tidy may)
    (widen_lengthens p d directory (is_lived p d (page_of_byte (length (file_bytes (sights p) d))) at whole can.sector))

pub directory_has_grown : DirectoryHasGrown
directory_has_grown p d b past fresh at whole tidy directory can =
    subst (λ b. CanGrow p d b widening_bytes past fresh at → HasGrown p (grown_pack p d b at widening_bytes past fresh) d (page_of_byte b) fresh) (sym can.size)
    (λ can. wide_at_length p d past fresh at whole tidy directory can) can
