-- Record writes that change what stands: one run after another, a prefix of one, and those of the guarded commands.
use Rattle.std.proofs.Common.{◌≡◌, ◌≢◌, ℕ, true, false, cond, List, [], ◌∷◌, ◌++◌, Option, Some, None, refl, sym, ap, subst, ◌∙◌, arith}
use Rattle.std.proofs.lemmas.List.{get_or-set_same, set-get_or}
use Rattle.std.specs.Prelude.{get_or, set}
use Rattle.disk_records.specs.declared.records.Event.{Event}
use Rattle.disk_records.specs.declared.records.Event.TheVariants.{Shown, Wrote}
use Rattle.disk_records.specs.declared.records.Page.{Page}
use Rattle.disk_records.specs.declared.records.Sector.{Sector}
use Rattle.disk_records.specs.Commands.{claim_writes, ones, relabel_writes, release_writes, value_writes}
use Rattle.disk_records.specs.Events.{IsFirstOf}
use Rattle.disk_records.specs.Labels.{is_free, page_of, tag}
use Rattle.disk_records.specs.Packs.{Pack, after, carried, is_free_at, is_usable, no_sector, sector_at, with_part}
use Rattle.disk_records.specs.Words.{word}
use Rattle.laws_mend.specs.pack_laws.proofs.Guarding.{carried_parts, free_parts, free_unnamed, ones_free, usable_within}
use Rattle.laws_mend.proofs.joins.Laws.{nothing_tends, tends_breaks_off, tends_join}
use Rattle.scav_pages.specs.Changes.{AllChange, AllMend, ChangeAfter, labelled_by}

-- ---- runs
-- those that change what stands where no label was written just before do so where one was
after_label : (labelled : Option ℕ) (p : Pack) (events : List Event) → AllChange p events → ChangeAfter labelled p events
after_label labelled p [] all = tt
after_label labelled p (Wrote at part words ∷ events) all = (record { label = all.0.label; value = λ is busy apart. all.0.value is busy (λ none. cc) }, all.1)
after_label labelled p (Shown byte ∷ events) all = after_label labelled p events all

pub change_join : (labelled : Option ℕ) (p : Pack) (a b : List Event) → ChangeAfter labelled p a → AllChange (after p a) b → ChangeAfter labelled p (a ++ b)
change_join labelled p [] b one two = after_label labelled p b two
change_join labelled p (Wrote at part words ∷ a) b one two = (one.0, change_join (labelled_by at part) (after p (Wrote at part words ∷ [])) a b one.1 two)
change_join labelled p (Shown byte ∷ a) b one two = change_join labelled p a b one two

pub change_first : (labelled : Option ℕ) (p : Pack) (events some : List Event) → IsFirstOf events some → ChangeAfter labelled p events → ChangeAfter labelled p some
change_first labelled p events [] is all = tt
change_first labelled p [] (e ∷ some) is all = absurd is
change_first labelled p (Wrote at part words ∷ events) (e ∷ some) is all =
    subst (λ x. ChangeAfter labelled p (x ∷ some)) (sym is.0) (all.0, change_first (labelled_by at part) (after p (Wrote at part words ∷ [])) events some is.1 all.1)
change_first labelled p (Shown byte ∷ events) (e ∷ some) is all = subst (λ x. ChangeAfter labelled p (x ∷ some)) (sym is.0) (change_first labelled p events some is.1 all)

-- and keep what a mending keeps
pub nothing_mends : (p : Pack) → AllMend p []
nothing_mends p = record { tends = nothing_tends p; changes = tt }

pub mend_join : (p : Pack) (a b : List Event) → AllMend p a → AllMend (after p a) b → AllMend p (a ++ b)
mend_join p a b one two = record { tends = tends_join p a b one.tends two.tends; changes = change_join None p a b one.changes two.changes }

pub mend_breaks_off : (p : Pack) (events some : List Event) → IsFirstOf events some → AllMend p events → AllMend p some
mend_breaks_off p events some is all = record { tends = tends_breaks_off p events some is all.tends; changes = change_first None p events some is all.changes }

-- ---- guarded commands
-- another value alone
pub value_changes : (p : Pack) (at : ℕ) (value : List ℕ) → value ≢ (sector_at p at).value → AllChange p (value_writes at value)
value_changes p at value other = (record { label = λ is. absurd (omega (arith, is)); value = λ is busy apart. other }, tt)

-- a label with another word in one place is another one
pub other_word : (k found : ℕ) (label made stands : List ℕ) → label ≡ made → found ≡ word stands k → found ≢ word made k → label ≢ stands
other_word k found label made stands is holds other same = other (holds ∙ ap (λ l. word l k) (sym same ∙ is))

pub relabel_changes : (p : Pack) (at : ℕ) (label value : List ℕ) → label ≢ (sector_at p at).label → AllChange p (relabel_writes at label value)
relabel_changes p at label value other = (
  record { label = λ is. other; value = λ is. absurd (omega (arith, is)) },
  (record { label = λ is. absurd (omega (arith, is)); value = λ is busy apart. absurd (apart refl) }, tt),
)

-- a label that names a page isn't a free one
named_not_free : (label free : List ℕ) (page : Page) → page_of label ≡ Some page → page_of free ≡ None → free ≢ label
named_not_free label free page names none same = (let wrong : None ≡ Some page = sym none ∙ ap page_of same ∙ names in cc)

pub release_changes : (p : Pack) (at : ℕ) (page : Page) → carried p at ≡ Some page → AllChange p (release_writes at)
release_changes p at page carries =
    relabel_changes p at (ones 8) (ones 256) (named_not_free (sector_at p at).label (ones 8) page (carried_parts p at page carries).1 (free_unnamed (ones 8) ones_free))

-- of a sector that isn't free
pub busy_release_changes : (p : Pack) (at : ℕ) → is_usable p.shape at (sector_at p at) ≡ true → is_free_at p at ≡ false → AllChange p (release_writes at)
busy_release_changes p at usable busy = relabel_changes p at (ones 8) (ones 256) (λ same.
    (let free : is_free (tag (sector_at p at).label) ≡ true = ap (λ l. is_free (tag l)) (sym same) ∙ ones_free in
    let wrong : true ≡ false = sym (λ i. cond (usable i) (free i) false) ∙ busy in
    cc))

-- the label of a sector whose value is written stays
pub label_stays : (p : Pack) (at : ℕ) (value : List ℕ) → is_usable p.shape at (sector_at p at) ≡ true → (sector_at (after p (value_writes at value)) at).label ≡ (sector_at p at).label
label_stays p at value usable = ap (λ (s : Sector). s.label) (get_or-set_same p.sectors at (with_part 2 value (sector_at p at)) no_sector (usable_within p at usable))

pub claim_changes : (p : Pack) (at : ℕ) (page : Page) (label value : List ℕ) → is_free_at p at ≡ true → page_of label ≡ Some page → AllChange p (claim_writes at label value)
claim_changes p at page label value free names = (
  record { label = λ is. absurd (omega (arith, is)); value = λ is busy. (let wrong : true ≡ false = sym free ∙ busy in cc) },
  relabel_changes (after p (value_writes at value)) at label value (λ same.
      named_not_free label (sector_at p at).label page names (free_unnamed (sector_at p at).label (free_parts p at free).1) (sym (same ∙ label_stays p at value (free_parts p at free).0))),
)

-- the label and the value that stand are no change
pub relabel_same : (p : Pack) (at : ℕ) (label : List ℕ) → label ≡ (sector_at p at).label → after p (relabel_writes at label (sector_at p at).value) ≡ p
relabel_same p at label is = subst (λ l. after p (relabel_writes at l s.value) ≡ p) (sym is) both
  where
    s : Sector
    s = sector_at p at

    both : after p (relabel_writes at s.label s.value) ≡ p
    both = ap (λ (xs : List Sector). record p { sectors = set xs at (with_part 2 s.value (get_or xs at no_sector)) }) (set-get_or p.sectors at no_sector)
        ∙ ap (λ (xs : List Sector). record p { sectors = xs }) (set-get_or p.sectors at no_sector)
