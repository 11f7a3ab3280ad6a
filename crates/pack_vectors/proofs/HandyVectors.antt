-- Hints that may be passed over: which are handy, and which aren't.
use Rattle.std.proofs.Common.{◌≡◌, ◌⊎◌, ℕ, zero, suc, ◌+◌, Bool, true, false, cond, arith, eqb-true, List, [], ◌∷◌, ◌++◌, Option, Some, None, refl, sym, ap, subst, ◌∙◌, inl, inr}
use Rattle.std.proofs.lemmas.Option.{none-some}
use Rattle.std.proofs.lemmas.List.Elements.{All-cons, All-nil}
use Rattle.std.specs.Prelude.{◌==◌, codes, replicate}
use Rattle.std.specs.Option.{option_or}
use Rattle.pack_laws.specs.alto_words.specs.declared.fid.Fid.{Fid}
use Rattle.pack_laws.specs.alto_words.specs.Fid.{sys_dir}
use Rattle.pack_laws.specs.alto_words.specs.Names.{is_stored_name}
use Rattle.pack_laws.specs.disk_records.specs.Addresses.{real_of}
use Rattle.pack_laws.specs.disk_records.specs.Labels.{in_range, is_free, label_of}
use Rattle.pack_laws.specs.disk_records.specs.Packs.{Pack}
use Rattle.pack_laws.specs.pack_model.specs.reading.Leaders.{leader_of, leader_name, is_readable}
use Rattle.pack_laws.specs.pack_model.specs.reading.Sights.{sight, sights, sights_from}
use Rattle.pack_laws.specs.pack_model.specs.reading.Files.{first, place}
use Rattle.pack_laws.specs.pack_model.specs.operations.PageWords.{page_number, page_value, leader_label, leader_value}
use Rattle.pack_laws.specs.pack_model.specs.operations.Step.{new_leader}
use Rattle.pack_laws.specs.pack_model.specs.hints.Links.{no_link}
use Rattle.pack_laws.specs.pack_model.specs.sessions.Format.{Written, formatted}
use Rattle.pack_laws.specs.pack_model.specs.hints.Handy.{Handy, HandyCache, LiesInARow, NamesLastPage, IsRightOrIdle, CachedAt, leader_word, row_word, last_at_word, last_number_word}
use Rattle.pack_vectors.proofs.Shapes.{small}
use Rattle.pack_vectors.proofs.SmallPacks.{free_sector, pack_of, system, words_a, its_words, some_or, file_3}

-- with the one sector that bears the leader
handy_by : (p : Pack) (f : Fid) (at : ℕ) (cache : List CachedAt)
    → place (sights p) f 0 ≡ Some at
    → (leader_word p at row_word ≡ 0) ⊎ LiesInARow (sights p) f at
    → NamesLastPage (sights p) f (leader_word p at last_number_word) (leader_word p at last_at_word)
    → HandyCache (sights p) f cache
    → Handy p f cache
handy_by p f at cache bears row last cached = record {
  row = λ i e. subst (λ x. (leader_word p x row_word ≡ 0) ⊎ LiesInARow (sights p) f x) (same i e) row;
  last = λ i e. subst (λ x. NamesLastPage (sights p) f (leader_word p x last_number_word) (leader_word p x last_at_word)) (same i e) last;
  cached = cached;
}
  where
    same : (i : ℕ) → place (sights p) f 0 ≡ Some i → at ≡ i
    same i e = ap some_or (sym bears ∙ e)

-- ---- the pack that formatting writes: the flag is 0, and SysDir's last page is page 1, in sector 2
root_handy : Handy (formatted small 1 1000) sys_dir []
unfolding sights_from sight real_of in_range is_free leader_of leader_name is_readable is_stored_name first
root_handy = handy_by (formatted small 1 1000) sys_dir 1 [] refl (inl refl) (inr (inl refl)) (All-nil _)

-- ---- a file of 600 bytes: its leader is in sector 5, its pages are in 6 and in 7, or in 8 where there are others between; its
-- leader has this flag, and this address and number of a last page
abbrev hinted : ℕ → ℕ → ℕ → List Written → Pack
hinted flag at number between = pack_of 37 (system words_a (its_words 3 1) (
    (leader_label small file_3 6, leader_value (new_leader (codes "A.") 1000) (0 ∷ flag ∷ 0 ∷ 0 ∷ 0 ∷ 0 ∷ 0 ∷ at ∷ number ∷ 88 ∷ []))
    ∷ (label_of (page_number file_3 1) 512 no_link no_link, page_value (replicate 512 17) [])
    ∷ (between ++ (label_of (page_number file_3 2) 88 no_link no_link, page_value (replicate 88 17) []) ∷ [])
    ))

abbrev in_row : Pack
in_row = hinted 1 7 2 []

abbrev apart : ℕ → ℕ → ℕ → Pack
apart flag at number = hinted flag at number (free_sector ∷ [])

rows : LiesInARow (sights in_row) file_3 5
unfolding sights_from sight real_of in_range is_free leader_of leader_name is_readable is_stored_name first
rows zero at e = sym (ap some_or e)
rows (suc n) at e = by (n == 0) (n == 1) refl refl e
  where
    by : (a b : Bool) → (n == 0) ≡ a → (n == 1) ≡ b → option_or (cond a (Some 6) None) (option_or (cond b (Some 7) None) None) ≡ Some at → at ≡ 5 + suc n
    by true b p q e = let m : n ≡ 0 = eqb-true n 0 p in let i : 6 ≡ at = ap some_or e in omega arith
    by false true p q e = let m : n ≡ 1 = eqb-true n 1 q in let i : 7 ≡ at = ap some_or e in omega arith
    by false false p q e = absurd (none-some _ e)

-- a flag of pages that are in a row, and a last page where it is; a leader and a page where they are, a page that no sector
-- carries, and a page of another file, wherever that is said to be
abbrev cached : Fid → ℕ → ℕ → CachedAt
cached f n at = (record { fid = f; number = n }, at)

abbrev c0 : CachedAt
c0 = cached file_3 0 5

abbrev c2 : CachedAt
c2 = cached file_3 2 7

abbrev c3 : CachedAt
c3 = cached file_3 3 40

abbrev root_1 : CachedAt
root_1 = cached sys_dir 1 47

abbrev listed : List CachedAt
listed = c0 ∷ c2 ∷ c3 ∷ root_1 ∷ []

another : sys_dir ≡ file_3 → ⊥
another e = let low : ◌≡◌ {A = ℕ} 1 3 = ap (λ f. f.low) e in omega arith

abbrev is_handy : Pack → CachedAt → Type 0
is_handy p c = c.0.fid ≡ file_3 → IsRightOrIdle (sights p) file_3 c.0.number c.1

row_handy : Handy in_row file_3 listed
unfolding sights_from sight real_of in_range is_free leader_of leader_name is_readable is_stored_name first
row_handy = handy_by in_row file_3 5 listed refl (inr rows) (inr (inl refl)) (
    All-cons (is_handy in_row) c0 (c2 ∷ c3 ∷ root_1 ∷ []) (λ e. inl refl)
    (All-cons (is_handy in_row) c2 (c3 ∷ root_1 ∷ []) (λ e. inl refl)
    (All-cons (is_handy in_row) c3 (root_1 ∷ []) (λ e. inr refl)
    (All-cons (is_handy in_row) root_1 [] (λ e. absurd (another e)) (All-nil (is_handy in_row))))))

-- a flag of 0 says nothing, nor does a page number that the file doesn't have, or 0
idle_handy : Handy (apart 0 7 3) file_3 [] × Handy (apart 0 7 0) file_3 []
unfolding sights_from sight real_of in_range is_free leader_of leader_name is_readable is_stored_name first
idle_handy = (
  handy_by (apart 0 7 3) file_3 5 [] refl (inl refl) (inr (inr refl)) (All-nil _),
  handy_by (apart 0 7 0) file_3 5 [] refl (inl refl) (inl refl) (All-nil _),
)

-- ---- not handy: page 2 is in sector 8, and so not in a row; the leader says 7 of it; the cache does
wrongly : {r : Option ℕ} → r ≡ Some 8 → (r ≡ Some 7) ⊎ (r ≡ None) → ⊥
wrongly e (inl seven) = let apart : ◌≡◌ {A = ℕ} 8 7 = ap some_or (sym e ∙ seven) in omega arith
wrongly e (inr none) = none-some _ (sym none ∙ e)

flag_wrong : Handy (apart 1 8 2) file_3 [] → ⊥
unfolding sights_from sight real_of in_range is_free leader_of leader_name is_readable is_stored_name first
flag_wrong h = elim (h.row 5 refl) [ inl none ↦ let zero_flag : ◌≡◌ {A = ℕ} 1 0 = none in omega arith | inr lies ↦ let row : ◌≡◌ {A = ℕ} 8 7 = lies 2 8 refl in omega arith ]

last_wrong : Handy (apart 0 7 2) file_3 [] → ⊥
unfolding sights_from sight real_of in_range is_free leader_of leader_name is_readable is_stored_name first
last_wrong h = elim (h.last 5 refl) [ inl none ↦ let no_number : ◌≡◌ {A = ℕ} 2 0 = none in omega arith | inr said ↦ wrongly refl said ]

cache_wrong : Handy (apart 0 8 2) file_3 (c2 ∷ []) → ⊥
unfolding sights_from sight real_of in_range is_free leader_of leader_name is_readable is_stored_name first
cache_wrong h = wrongly refl (h.cached 0 c2 (omega arith) refl)
