-- Pages that aren't read come and go.
use Rattle.std.proofs.Common.{◌*◌, ◌+◌, ◌-◌, ◌<◌, ◌∙◌, ◌≡◌, ◌≤◌, ◌⊎◌, Bool, List, None, Option, Some, ap, arith, cond, false, get_or, inl, inr, length, length-append, refl, set, subst, suc, sym, true, zero, ℕ}
use Rattle.pack_laws.specs.alto_words.specs.Fid.{disk_descriptor, is_fid}
use Rattle.pack_laws.specs.alto_words.specs.declared.fid.Fid.{Fid}
use Rattle.pack_laws.specs.disk_records.specs.Labels.{in_range, is_free, page_of, tag}
use Rattle.pack_laws.specs.disk_records.specs.Packs.{Pack, carried, is_usable, sector_at, with_part}
use Rattle.pack_laws.specs.disk_records.specs.declared.records.Page.{Page}
use Rattle.pack_laws.specs.disk_records.specs.declared.records.Sector.{Sector}
use Rattle.pack_laws.specs.disk_records.specs.declared.shape.Shape.{Shape}
use Rattle.pack_laws.specs.pack_model.specs.reading.Files.{file_bytes, joined, leader_at, most_pages, page, page_at}
use Rattle.pack_laws.specs.pack_model.specs.reading.Model.{good_one}
use Rattle.pack_laws.specs.pack_model.specs.reading.Sights.{Sight, page_sight, sight, sights, tag_sight}
use Rattle.pack_laws.specs.pack_model.specs.reading.Sights.Sight.{free, hidden, stray}
use Rattle.pack_laws.proofs.Guarding.{carried_parts, free_parts, usable_shown, usable_within}
use Rattle.pack_laws.proofs.Joining.{AreShort, Reaches, continue, front, joined_at, length-front, most_is, skip}
use Rattle.pack_laws.proofs.Keys.{is_fid-itself}
use Rattle.pack_laws.proofs.Placing.{short_pages}
use Rattle.pack_laws.proofs.Sighted.{sights-get}
use Rattle.laws_record.proofs.Framing.{IsRead, SameCounted, claim_frame, mute_frame, release_frame}
use Rattle.laws_record.proofs.Recording.{carried_sight, free_sight, freed_sights, label_sights, number_below}
use Rattle.laws_record.proofs.Staying.{Stays, stay_counted, stay_sights}
use Rattle.laws_record.proofs.Unseen.{sights_kept}
use Rattle.laws_record.specs.QuietLaws.{IsUnread, StrayRelease, UnreadClaim, UnreadRelease, with_label}
use Rattle.laws_record.specs.QuietLaws.IsUnread.{leaderless, past_end}

-- pages that are reached are within the length
reached_length : (fuel : ℕ) (pages : ℕ → Option (List ℕ)) (k : ℕ) → AreShort pages → k < fuel → Reaches pages k → 512 * k ≤ length (joined fuel pages)
reached_length fuel pages k short l r =
    let rest : List ℕ = continue (pages k) (joined (fuel - suc k) (skip (suc k) pages)) in
    let all : length (joined fuel pages) ≡ length (front k pages) + length rest = ap length (joined_at k fuel pages l r) ∙ length-append (front k pages) rest in
    let size = length-front k pages short r in
    omega arith

-- so a page after the last one isn't reached
past_reached : (p : Pack) (f : Fid) (n : ℕ) → n < most_pages → Reaches (page (sights p) f) n → 512 * n ≤ length (file_bytes (sights p) f)
unfolding file_bytes
past_reached p f n l r = reached_length most_pages (page (sights p) f) n (short_pages p f) l r

-- a page that isn't read by its number isn't read
pub unread : (p : Pack) (f : Fid) (n : ℕ) → n < 65535 → IsUnread (sights p) f (suc n) → IsRead (sights p) f n → ⊥
unread p f n l (leaderless none other some) r = elim r.file [
  | inl lives ↦ lives none
  | inr is ↦ (let both : true ≡ false = sym (is_fid-itself disk_descriptor) ∙ ap (λ g. is_fid g disk_descriptor) (sym is) ∙ other in cc)
]
unread p f n l (past_end past) r =
    let m : n < most_pages = rw most_is l in
    let all = past_reached p f n m r.reached in
    omega arith

-- no leader is such a page
unread_leader : (ss : List Sight) (f : Fid) → IsUnread ss f 0 → ⊥
unread_leader ss f (leaderless none other some) = omega arith
unread_leader ss f (past_end past) = omega arith

-- such a page in the label of a free sector
pub unread_claim : UnreadClaim Stays
unread_claim p at x label is names past = by x.number refl
  where
    by : (n : ℕ) → x.number ≡ n → Stays p (with_label p at label)
    by zero e = absurd (unread_leader (sights p) x.fid (subst (IsUnread (sights p) x.fid) e past))
    by (suc n) e =
        let below = number_below label x names in
        stay_counted p (with_label p at label) _ refl
        (label_sights p at x label (free_parts p at is).0 names ∙ ap (λ k. set (sights p) at (page_sight x.fid k (tag label).bytes (sector_at p at).value)) e)
        (claim_frame (sights p) at x.fid n _ (free_sight p at is) (unread p x.fid n (omega arith) (subst (IsUnread (sights p) x.fid) e past)))

-- a free label in the place of such a page
pub unread_release : UnreadRelease Stays
unread_release p at x label is none past = by x.number refl
  where
    by : (n : ℕ) → x.number ≡ n → Stays p (with_label p at label)
    by zero e = absurd (unread_leader (sights p) x.fid (subst (IsUnread (sights p) x.fid) e past))
    by (suc n) e =
        let parts = carried_parts p at x is in
        let below = number_below (sector_at p at).label x parts.1 in
        stay_counted p (with_label p at label) (set (sights p) at free) refl
        (freed_sights p at label parts.0 none)
        (release_frame (sights p) at x.fid n _ (carried_sight p at x is ∙ ap (λ k. page_sight x.fid k (tag (sector_at p at).label).bytes (sector_at p at).value) e) (unread p x.fid n (omega arith) (subst (IsUnread (sights p) x.fid) e past)))

-- ---- a label that names no page
-- what a usable sector shows that carries none
pub no_page_shown : (p : Pack) (at : ℕ) → is_usable p.shape at (sector_at p at) ≡ true → carried p at ≡ None → (get_or (sights p) at hidden ≡ free) ⊎ (get_or (sights p) at hidden ≡ stray)
no_page_shown p at usable is =
    let s = sector_at p at in
    let names : page_of s.label ≡ None = sym (ap (λ b. cond b (page_of s.label) None) usable) ∙ is in
    let here : get_or (sights p) at hidden ≡ tag_sight (tag s.label) s.value = sights-get p at hidden (usable_within p at usable) ∙ usable_shown p.shape at s usable in
    by (in_range (tag s.label)) (is_free (tag s.label)) names here
  where
    by : (r f : Bool) → cond {A = Option Page} r (Some (record { fid = (tag (sector_at p at).label).fid; number = (tag (sector_at p at).label).page })) None ≡ None
        → get_or (sights p) at hidden ≡ cond r (page_sight (tag (sector_at p at).label).fid (tag (sector_at p at).label).page (tag (sector_at p at).label).bytes (sector_at p at).value) (cond f free stray)
        → (get_or (sights p) at hidden ≡ free) ⊎ (get_or (sights p) at hidden ≡ stray)
    by true f names here = cc
    by false true names here = inl here
    by false false names here = inr here

-- such a sector is made free
freed_frame : (ss : List Sight) (i : ℕ) → (get_or ss i hidden ≡ free) ⊎ (get_or ss i hidden ≡ stray) → SameCounted ss (set ss i free)
freed_frame ss i (inl e) = mute_frame ss i free (sym (ap good_one e)) (λ f. sym (ap (leader_at f) e)) (λ f n. sym (ap (page_at f n) e))
freed_frame ss i (inr e) = mute_frame ss i free (sym (ap good_one e)) (λ f. sym (ap (leader_at f) e)) (λ f n. sym (ap (page_at f n) e))

-- a sector that isn't usable shows nothing
pub dark : (shape : Shape) (at : ℕ) (s : Sector) → is_usable shape at s ≡ false → sight shape at s ≡ hidden
unfolding sight
dark shape at s e = ap (λ b. cond b (tag_sight (tag s.label) s.value) hidden) e

-- a free label in the place of one that is neither free nor names a page
pub stray_release : StrayRelease Stays
stray_release p at label none free_now = by (is_usable p.shape at (sector_at p at)) refl
  where
    by : (u : Bool) → is_usable p.shape at (sector_at p at) ≡ u → Stays p (with_label p at label)
    by true usable = stay_counted p (with_label p at label) (set (sights p) at free) refl (freed_sights p at label usable free_now) (freed_frame (sights p) at (no_page_shown p at usable none))
    by false usable = stay_sights p (with_label p at label) refl (sights_kept p at 1 label (dark p.shape at (with_part 1 label (sector_at p at)) usable ∙ sym (dark p.shape at (sector_at p at) usable)))
