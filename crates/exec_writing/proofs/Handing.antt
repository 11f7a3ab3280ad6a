-- Hints of a file that are handy, over the opening of the mark.
use Rattle.std.proofs.Common.{◌≡◌, ◌∙◌, ◌==◌, ◌⊎◌, ◌++◌, ℕ, Bool, true, false, cond, List, [], ◌∷◌, length, Some, None, append-nil, ap, refl, sym, subst, inl, inr, arith}
use Rattle.alto_words.specs.declared.fid.Fid.{Fid}
use Rattle.alto_words.specs.Fid.{disk_descriptor, is_fid}
use Rattle.disk_records.proofs.Growing.{pack-after}
use Rattle.disk_records.specs.Commands.{value_writes}
use Rattle.disk_records.specs.Packs.{Pack, after, sector_at}
use Rattle.disk_records.specs.Tapes.{Taped, pack}
use Rattle.disk_records.specs.declared.records.Event.{Event}
use Rattle.disk_records.specs.declared.records.Sector.{Sector}
use Rattle.disk_records.specs.Words.{word}
use Rattle.exec_session.specs.laws_hint.specs.LineLinks.{opening_writes}
use Rattle.exec_session.specs.laws_line.specs.CrashLaws.{Batch, over}
use Rattle.laws_lookup.proofs.others.Laws.{place_is_of_its_file, values_leave_others}
use Rattle.laws_lookup.specs.OtherLaws.{LeavesOthers}
use Rattle.page_seeking.specs.Seeking.{LastNamed, NamedNearEnd, file_length}
use Rattle.pack_model.specs.hints.Handy.{CachedAt, Handy, HandyCache, IsRightOrIdle, NamesLastPage, last_at_word, last_number_word, leader_word, row_word}
use Rattle.pack_model.specs.operations.Committing.{page_of_byte}
use Rattle.pack_model.specs.operations.Step.{Operation}
use Rattle.pack_model.specs.reading.Files.{place}
use Rattle.pack_model.specs.reading.Sights.{sights}
use Rattle.pack_model.specs.sessions.Descriptor.{opened_value}
use Rattle.pack_model.specs.states.Sound.{mark_of, mark_open}
use Rattle.pack_model.specs.states.Whole.{Whole}
use Rattle.session_model.specs.Keeping.{Kept}
use Rattle.exec_steps.specs.Midway.{Midway}

-- ---- the opening leaves all files but DiskDescriptor
others_here : (f : Fid) (p : Pack) → LeavesOthers f p p
others_here f p = record { living = λ g other. refl; places = λ g n other. refl; sectors = λ g n at other e. refl; bytes = λ g other. refl }

opening_leaves_others : (p : Pack) (at : ℕ) → Whole p → place (sights p) disk_descriptor 1 ≡ Some at → Whole (after p (opening_writes p at)) → LeavesOthers disk_descriptor p (after p (opening_writes p at))
opening_leaves_others p at whole placed = by (mark_of (sights p) == mark_open)
  where
    by : (b : Bool) → Whole (after p (cond b [] (value_writes at (opened_value (sector_at p at).value)))) → LeavesOthers disk_descriptor p (after p (cond b [] (value_writes at (opened_value (sector_at p at).value))))
    by true w = others_here disk_descriptor p
    by false w = values_leave_others p disk_descriptor ((at, opened_value (sector_at p at).value) ∷ []) whole w (place_is_of_its_file p disk_descriptor 1 at placed, tt)

none_wrote : {p : Pack} {events : List Event} → Batch p events [] → events ≡ []
none_wrote over = refl

-- the pack with the open mark
pub opened_others : (old now : Taped) (one two : Kept) (at : ℕ) (all : List Operation) (reserved : List ℕ) → Whole (pack old) → Midway old now one two at [] all reserved → LeavesOthers disk_descriptor (pack old) (pack now)
opened_others old now one two at all reserved whole m =
    let here : pack now ≡ after (pack old) (opening_writes (pack old) at) =
    pack-after m.grown ∙ ap (after (pack old)) (m.events ∙ ap (λ es. opening_writes (pack old) at ++ es) (none_wrote m.line) ∙ append-nil (opening_writes (pack old) at))
    in
    subst (LeavesOthers disk_descriptor (pack old)) (sym here) (opening_leaves_others (pack old) at whole m.placed (subst Whole here m.whole))

-- ---- what is handy then
module _ (f g : Fid) (p q : Pack) (leaves : LeavesOthers f p q) (other : is_fid g f ≡ false) where
  -- a word of its leader
  word_stays : (at n : ℕ) → place (sights p) g 0 ≡ Some at → leader_word q at n ≡ leader_word p at n
  word_stays at n e = ap (λ (s : Sector). word s.value n) (leaves.sectors g 0 at other e)

  right_stays : (n at : ℕ) → IsRightOrIdle (sights p) g n at → IsRightOrIdle (sights q) g n at
  right_stays n at h = subst (λ x. (x ≡ Some at) ⊎ (x ≡ None)) (sym (leaves.places g n other)) h

  cache_stays : (cache : List CachedAt) → HandyCache (sights p) g cache → HandyCache (sights q) g cache
  cache_stays cache h = λ k d less e. right_stays _ _ (h k d less e)

  was : (n at : ℕ) → place (sights q) g n ≡ Some at → place (sights p) g n ≡ Some at
  was n at e = sym (leaves.places g n other) ∙ e

  pub handy_stays : (cache : List CachedAt) → Handy p g cache → Handy q g cache
  handy_stays cache h = record {
    row = λ at e. elim (h.row at (was 0 at e)) [
      | inl none ↦ inl (word_stays at row_word (was 0 at e) ∙ none)
      | inr lies ↦ inr (λ n bt there. lies n bt (was n bt there))
    ];
    last = λ at e.
        let before = was 0 at e in
        subst (λ n. NamesLastPage (sights q) g n (leader_word q at last_at_word)) (sym (word_stays at last_number_word before))
        (subst (NamesLastPage (sights q) g (leader_word p at last_number_word)) (sym (word_stays at last_at_word before))
        (elim (h.last at before) [ inl none ↦ inl none | inr right ↦ inr (right_stays (leader_word p at last_number_word) (leader_word p at last_at_word) right) ]));
    cached = cache_stays cache h.cached;
  }

  pub last_stays : LastNamed p g → LastNamed q g
  last_stays h =
      let long : file_length q g ≡ file_length p g = ap length (leaves.bytes g other) in
      let same = word_stays h.leader_at in
      record {
        leader_at = h.leader_at;
        leader = leaves.places g 0 other ∙ h.leader;
        number = same last_number_word h.leader ∙ h.number ∙ ap page_of_byte (sym long);
        at = ap (λ n. place (sights q) g (page_of_byte n)) long ∙ leaves.places g (page_of_byte (file_length p g)) other ∙ h.at ∙ ap Some (sym (same last_at_word h.leader));
      }

-- a leader that names the last page names one near the end
pub near_of_last : (p : Pack) (g : Fid) → LastNamed p g → NamedNearEnd p g 0
near_of_last p g h = record {
  leader_at = h.leader_at;
  leader = h.leader;
  first = let number = h.number in omega (arith, number);
  at = ap (place (sights p) g) h.number ∙ h.at;
  near = let number = h.number in omega (arith, number);
}
