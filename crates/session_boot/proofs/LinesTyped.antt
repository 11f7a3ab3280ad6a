-- The lines of the keys, as cues, and the keys that were taken for them.
use Rattle.std.proofs.Common.{◌≡◌, ◌≢◌, ◌⊎◌, inl, inr, ℕ, ◌+◌, ◌<◌, suc, List, [], ◌∷◌, ◌++◌, length, map, refl, sym, ◌∙◌, ap, subst, arith, append_assoc, true, cond}
use Rattle.std.specs.Prelude.{unwrap_or, None}
use Rattle.std.proofs.lemmas.List.{append-nil, length-append, length-take, take_all}
use Rattle.std.proofs.lemmas.Bool.{cases_lt, le-leb}
use Rattle.disk_records.specs.Tapes.{Taped}
use Rattle.exec_words.specs.Grammar.{line_in, typed_in, read_by, grammar, words_in}
use Rattle.exec_words.specs.declared.line.Line.TheVariants as line
use Rattle.executive.specs.pack_laws.proofs.Moving.{start_after}
use Rattle.executive.specs.pack_model.specs.sessions.Lines.{is_too_long, lines, longest_line, TookLines}
use Rattle.executive.specs.pack_model.specs.sessions.Moves.{IsStartOf}
use Rattle.session_model.specs.Ending.{Stop, TookKeys, cue_of, cues_of, keys_failed, no_memory, typed_cues}
use Rattle.session_model.specs.Turning.{Cue, cue_for, ended}
use Rattle.session_boot.specs.Keys.{TookPart, kept_of}
use Rattle.session_boot.proofs.LineEnds.{ended_few}
use Rattle.session_boot.proofs.Lined.{Lined, lined_front, lined_part, lined_split}
use Rattle.session_boot.proofs.Live.{Over}

-- ---- what is kept of a line is read as the line
too_long : (text : List ℕ) → 4096 < length text → is_too_long text ≡ true
unfolding longest_line
too_long text h = le-leb 4097 (length text) h

kept_line : (text : List ℕ) → line_in (kept_of text) ≡ line_in text
unfolding line_in
kept_line text = elim (cases_lt 4096 (length text)) [
  | inl long ↦
      let kept : is_too_long (kept_of text) ≡ true = too_long (kept_of text) (omega (arith, length-take 4097 text, long)) in
      ap (λ b. unwrap_or (cond b None (read_by grammar (words_in (kept_of text)))) line.Bad) kept
      ∙ sym (ap (λ b. unwrap_or (cond b None (read_by grammar (words_in text))) line.Bad) (too_long text long))
  | inr short ↦ ap (λ l. unwrap_or (typed_in l) line.Bad) (take_all 4097 text (omega (arith, short)))
]

pub kept_cue : (text whole : List ℕ) → text ≡ kept_of whole → cue_of text ≡ cue_of whole
kept_cue text whole is = ap cue_of is ∙ ap cue_for (kept_line whole)

-- ---- cues
abbrev pub cues : List (List ℕ) → List Cue
cues texts = map cue_of texts

pub cues-push : (texts : List (List ℕ)) (text : List ℕ) → cues (texts ++ text ∷ []) ≡ cues texts ++ cue_of text ∷ []
cues-push [] text = refl
cues-push (first ∷ texts) text = ap (λ l. cue_of first ∷ l) (cues-push texts text)

cues-append : (a b : List (List ℕ)) → cues (a ++ b) ≡ cues a ++ cues b
cues-append [] b = refl
cues-append (first ∷ a) b = ap (λ l. cue_of first ∷ l) (cues-append a b)

typed-cues : (texts : List (List ℕ)) (more : List Cue) → typed_cues (cues texts ++ more) ≡ length texts + typed_cues more
typed-cues [] more = omega arith
typed-cues (first ∷ texts) more = ap suc (typed-cues texts more) ∙ omega arith

typed_all : (texts : List (List ℕ)) → typed_cues (cues texts) ≡ length texts
typed_all texts = ap typed_cues (sym (append-nil (cues texts))) ∙ typed-cues texts [] ∙ omega arith

typed_ended : (texts : List (List ℕ)) → typed_cues (cues texts ++ ended ∷ []) ≡ length texts
typed_ended texts = typed-cues texts (ended ∷ []) ∙ omega arith

length-cues : (texts : List (List ℕ)) → length (cues texts) ≡ length texts
length-cues [] = refl
length-cues (first ∷ texts) = ap suc (length-cues texts)

starts : {X : Type 0} (a b : List X) → IsStartOf a (a ++ b)
starts a b = subst (λ l. IsStartOf l (a ++ b)) (append-nil a) (start_after a [] b tt)

-- the cues of some first lines, and of all of them with the end of the keys
pub cues_start : {old mid : List ℕ} {before : ℕ} {texts : List (List ℕ)} → Lined old mid before texts → IsStartOf (cues texts) (cues_of old)
cues_start {old} {texts = texts} lined =
    let front = lined_front lined in
    let all : cues_of old ≡ cues texts ++ (cues front.0 ++ ended ∷ []) =
    ap (λ l. cues l ++ ended ∷ []) front.1 ∙ ap (λ l. l ++ ended ∷ []) (cues-append texts front.0) ∙ append_assoc (cues texts) (cues front.0) (ended ∷ []) in
    subst (IsStartOf (cues texts)) (sym all) (starts (cues texts) (cues front.0 ++ ended ∷ []))

pub all_cues : {old new : List ℕ} {left : ℕ} {texts : List (List ℕ)} → Over old new left texts → cues texts ++ ended ∷ [] ≡ cues_of old
all_cues over = ap (λ l. cues l ++ ended ∷ []) (sym over.all)

pub all_start : {old new : List ℕ} {left : ℕ} {texts : List (List ℕ)} → Over old new left texts → IsStartOf (cues texts ++ ended ∷ []) (cues_of old)
all_start {old} {texts = texts} over = subst (λ l. IsStartOf l (cues_of old)) (sym (all_cues over)) (subst (IsStartOf (cues_of old)) (append-nil (cues_of old)) (starts (cues_of old) []))

not_all : (texts : List (List ℕ)) (old : List ℕ) {X : Type 0} → cues texts ≡ cues_of old → X
not_all texts old is =
    let many = ap length is in
    let typed_many = ap typed_cues is in
    absurd (omega (arith, many, typed_many, length-cues texts, length-append (cues (lines old)) (ended ∷ []), length-cues (lines old), typed_all texts, typed_ended (lines old)))

-- ---- the keys that were taken
module _ {old new : Taped} {texts : List (List ℕ)} (stop : Stop) where
  pub keys_lines : {left : ℕ} → Lined old.keys new.keys left texts → stop ≢ keys_failed → TookKeys old new stop (cues texts)
  keys_lines lined other =
      let s = lined_split lined in
      let many = typed_all texts in
      record {
        taken = s.taken;
        split = s.split;
        none_passed = omega (arith, s.ahead, many);
        none_early = omega (arith, s.are_taken, many);
        exact = λ keys memory. subst (TookLines old.keys new.keys s.taken) (sym many) s.exact;
        at_fault = λ is. absurd (other is);
        at_end = λ is. not_all texts old.keys is;
      }

  pub keys_end : {left : ℕ} → Over old.keys new.keys left texts → stop ≢ keys_failed → TookKeys old new stop (cues texts ++ ended ∷ [])
  keys_end over other =
      let s = lined_split (inr over) in
      let many = typed_ended texts in
      record {
        taken = s.taken;
        split = s.split;
        none_passed = omega (arith, s.ahead, many);
        none_early = omega (arith, s.are_taken, many);
        exact = λ keys memory. subst (TookLines old.keys new.keys s.taken) (sym many) s.exact;
        at_fault = λ is. absurd (other is);
        at_end = λ is. over.keys;
      }

  pub keys_part : {mid : List ℕ} {before : ℕ} → Lined old.keys mid before texts → TookPart mid new.keys before → (stop ≡ keys_failed) ⊎ (stop ≡ no_memory) → TookKeys old new stop (cues texts)
  keys_part lined part which =
      let s = lined_part lined part in
      let many = typed_all texts in
      record {
        taken = s.0;
        split = s.1;
        none_passed = omega (arith, ap length s.2, many);
        none_early = omega (arith, ap length s.2, ended_few s.0, many);
        exact = λ keys memory. elim which [ inl is ↦ absurd (keys is) | inr is ↦ absurd (memory is) ];
        at_fault = λ is. many ∙ sym (ap length s.2);
        at_end = λ is. not_all texts old.keys is;
      }
