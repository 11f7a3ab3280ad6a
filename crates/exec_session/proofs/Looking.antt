-- Calls of a line that only look, one after another, and how many sector commands they take.
use Rattle.std.proofs.Common.{◌≡◌, ◌≤◌, ◌+◌, ℕ, zero, suc, Bool, IsTrue, true, inl, inr, List, [], ◌∷◌, refl, sym, ap, subst, ◌∙◌, arith}
use Rattle.std.specs.Prelude.{All}
use Rattle.alto_words.specs.declared.fid.Fid.{Fid}
use Rattle.alto_words.specs.Fid.{is_directory}
use Rattle.disk_records.specs.Packs.{Pack}
use Rattle.disk_records.specs.Tapes.{Taped, Looks, pack}
use Rattle.disk_records.proofs.Looking.{looks_none, looks_pack, looks_twice, looks_within}
use Rattle.hint_cache.specs.Caches.{Cached}
use Rattle.hint_cache.specs.declared.hints.Hints.{Hints}
use Rattle.pack_model.specs.hints.Handy.{Handy}
use Rattle.pack_model.specs.operations.Committing.{page_of_byte}
use Rattle.pack_model.specs.reading.Files.{lives}
use Rattle.pack_model.specs.reading.Model.{read_as}
use Rattle.pack_model.specs.reading.Sights.{sights}
use Rattle.pack_model.specs.states.Sound.{Sound}
use Rattle.page_seeking.specs.Seeking.{KeepsHandy, Quick, Refused, all_listed, file_length}
use Rattle.directory.specs.laws_contents.proofs.model.Laws.{model_lengths_are_of_bytes}
use Rattle.directory.specs.laws_record.proofs.DirReads.{not_descriptor}
use Rattle.pack_model.specs.hints.Tables.{TableTrue}
use Rattle.session_model.specs.Bounds.{AllHandy, pages_of_dir}
use Rattle.session_model.specs.Keeping.{Formed}
use Rattle.exec_session.specs.declared.session.Session.{Session}
use Rattle.exec_session.specs.Meant.{IsSoon, Looked, LooksAbout, Stays, kept}
use Rattle.exec_session.specs.Turned.{SameBut}

-- ---- hints over several calls
handy_twice : (p q : Pack) (a b c : Cached) → q ≡ p → KeepsHandy p a b → KeepsHandy q b c → KeepsHandy p a c
handy_twice p q a b c same first next = λ whole links f handy. (subst (λ r. KeepsHandy r b c) same next) whole links f (first whole links f handy)

refused_sooner : (a b c : Cached) → b.refused ≤ c.refused → Refused a b → Refused a c
refused_sooner a b c grows rose = omega (arith, grows, rose)

refused_later : (a b c : Cached) → a.refused ≤ b.refused → Refused b c → Refused a c
refused_later a b c grows rose = omega (arith, grows, rose)

-- ---- the frame
-- a call that is lent the hints
pub hints_looked : {told : Bool} {most : ℕ} {x y : Taped} (s : Session) (h : Hints) → Looks told most x y → h.table ≡ s.hints.table → s.hints.cache.refused ≤ h.cache.refused → (IsTrue told → KeepsHandy (pack x) s.hints.cache h.cache) → LooksAbout told most x y s (record s { hints = h })
hints_looked s h looks table refused handy = record {
  looks = looks;
  looked = record { same = ap (λ t. record s { hints = record { cache = h.cache; table = t } }) table; refused = refused };
  handy = handy;
}

-- one that isn't
pub looks_about_same : {told : Bool} {most : ℕ} {x y : Taped} (s : Session) → Looks told most x y → LooksAbout told most x y s s
looks_about_same s looks = record { looks = looks; looked = record { same = refl; refused = omega arith }; handy = λ told whole links f handy. handy }

-- none at all
pub looks_about_none : {told : Bool} (most : ℕ) (t : Taped) (s : Session) → LooksAbout told most t t s s
looks_about_none most t s = looks_about_same s (looks_none most t)

looked_twice : {a b c : Session} → Looked a b → Looked b c → Looked a c
looked_twice {a} {b} {c} one two =
    let first = one.refused in
    let next = two.refused in
    record {
      same = two.same ∙ ap (λ (s : Session). record s { hints = record { cache = c.hints.cache; table = s.hints.table } }) one.same;
      refused = omega (arith, first, next);
    }

pub looks_about_twice : {told : Bool} {few more : ℕ} {x y z : Taped} {a b c : Session} (most : ℕ) → few + more ≤ most → LooksAbout told few x y a b → LooksAbout told more y z b c → LooksAbout told most x z a c
looks_about_twice {x = x} {y = y} {a = a} {b = b} {c = c} most within one two = record {
  looks = looks_twice most one.looks two.looks within;
  looked = looked_twice one.looked two.looked;
  handy = λ told. handy_twice (pack x) (pack y) a.hints.cache b.hints.cache c.hints.cache (looks_pack one.looks told) (one.handy told) (two.handy told);
}

pub looks_about_within : {told : Bool} {few : ℕ} {x y : Taped} {a b : Session} (most : ℕ) → few ≤ most → LooksAbout told few x y a b → LooksAbout told most x y a b
looks_about_within most within about = record { looks = looks_within most about.looks within; looked = about.looked; handy = about.handy }

-- what is kept after a call that looked
pub same_but_looked : (old new : Taped) {one two : Session} → Looked one two → pack new ≡ pack old → SameBut old new (kept one) (kept two)
same_but_looked old new {one} {two} looked same = subst (λ s. SameBut old new (kept one) (kept s)) (sym looked.same) (record {
  world = record { moment = refl; level = refl; memory = refl; streams = refl; need = refl };
  shape = refl;
  last = refl;
  mark = refl;
  pages = refl;
  tally = refl;
  table = λ was. subst (λ p. TableTrue p one.hints.table) (sym same) was;
})

pub stays_looked : (old new : Taped) {one two : Session} → Looked one two → new.form ≡ old.form → Formed old.form (kept one) → Stays new one two
stays_looked old new {one} {two} looked form formed = subst (λ s. Stays new one s) (sym looked.same) (record {
  formed = subst (λ f. Formed f (kept (record one { hints = record { cache = two.hints.cache; table = one.hints.table } }))) (sym form)
      (record { shape = formed.shape; bits = formed.bits; memory = formed.memory; streams = formed.streams; apart = formed.apart });
  world = refl;
})

-- ---- few sector commands
pub soon_twice : (few more most : ℕ) (x y z : Taped) {a b c : Session} → few + more ≤ most → Looked a b → Looked b c → IsSoon few x y a b → IsSoon more y z b c → IsSoon most x z a c
soon_twice few more most x y z {a} {b} {c} within one two first next = elim first [
  | inl runs ↦ elim next [ inl later ↦ inl (omega (arith, runs, later, within)) | inr rose ↦ inr (refused_later a.hints.cache b.hints.cache c.hints.cache one.refused rose) ]
  | inr rose ↦ inr (refused_sooner a.hints.cache b.hints.cache c.hints.cache two.refused rose)
]

-- ---- what they ask for
pub all_first : {p : Pack} {busy : List Bool} (s : Session) (f : Fid) (more : List Fid) → AllHandy p busy (all_listed s.hints.cache) (f ∷ more) → AllHandy p busy (all_listed s.hints.cache) (f ∷ [])
all_first {p = p} s f more h = record { sound = h.sound; links = h.links; table = h.table; handy = by }
  where
    by : All (λ g. Handy p g (all_listed s.hints.cache)) (f ∷ [])
    by zero d less = h.handy 0 d (omega arith)
    by (suc k) d less = absurd (omega (arith, less))

pub quick_of_first : {p : Pack} {busy : List Bool} (s : Session) (f : Fid) (more : List Fid) → AllHandy p busy (all_listed s.hints.cache) (f ∷ more) → Quick p f s.hints.cache
quick_of_first s f more h = record { whole = h.sound.whole; links = h.links; handy = h.handy 0 f (omega arith) }

pub quick_of_second : {p : Pack} {busy : List Bool} (s : Session) (e f : Fid) (more : List Fid) → AllHandy p busy (all_listed s.hints.cache) (e ∷ f ∷ more) → Quick p f s.hints.cache
quick_of_second s e f more h = record { whole = h.sound.whole; links = h.links; handy = h.handy 1 f (omega arith) }

-- it stays so while others look
pub quick_stays : {told : Bool} {most : ℕ} {x y : Taped} {a b : Session} (f : Fid) → LooksAbout told most x y a b → IsTrue told → Quick (pack x) f a.hints.cache → Quick (pack y) f b.hints.cache
quick_stays {x = x} {y = y} {a = a} {b = b} f about told quick = subst (λ p. Quick p f b.hints.cache) (sym (looks_pack about.looks told)) (record {
  whole = quick.whole;
  links = quick.links;
  handy = record { row = quick.handy.row; last = quick.handy.last; cached = about.handy told quick.whole quick.links f quick.handy.cached };
})

-- the data pages of a directory
pub dir_pages : (p : Pack) (d : Fid) → Sound p → lives (sights p) d ≡ true → is_directory d ≡ true → pages_of_dir (read_as p) d ≡ page_of_byte (file_length p d)
dir_pages p d sound living directory = ap page_of_byte (model_lengths_are_of_bytes p d sound.whole sound.tidy (not_descriptor d directory) living)
