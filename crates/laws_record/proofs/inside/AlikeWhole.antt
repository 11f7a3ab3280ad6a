-- Sights that differ in hints alone: where one is whole, the other is.
use Rattle.std.proofs.Common.{◌/◌, ◌∙◌, ◌∷◌, ◌≡◌, ◌≤◌, Bool, List, [], ap, arith, get_or, inl, inr, length, nat_lt, refl, subst, suc, sym, true, ℕ}
use Rattle.pack_laws.specs.alto_words.specs.Fid.{disk_descriptor, serial_of, sys_dir}
use Rattle.pack_laws.specs.alto_words.specs.declared.fid.Fid.{Fid}
use Rattle.pack_laws.specs.disk_records.specs.Packs.{Pack}
use Rattle.pack_laws.specs.disk_records.specs.declared.shape.Shape.{Shape}
use Rattle.pack_laws.specs.pack_model.specs.reading.Bodies.{described}
use Rattle.pack_laws.specs.pack_model.specs.reading.Bytes.{words_of}
use Rattle.pack_laws.specs.pack_model.specs.reading.Files.{file_bytes, lives, most_pages}
use Rattle.pack_laws.specs.pack_model.specs.reading.Leaders.{Leader}
use Rattle.pack_laws.specs.pack_model.specs.reading.Model.{is_named, read_as, read_sights}
use Rattle.pack_laws.specs.pack_model.specs.reading.Namings.{IsTidy}
use Rattle.pack_laws.specs.pack_model.specs.reading.Sights.{Sight, sights}
use Rattle.pack_laws.specs.pack_model.specs.reading.Sights.Sight.{free, hidden, holds, leads, stray}
use Rattle.pack_laws.specs.pack_model.specs.reading.Slots.{IsEven, SlotsReachEnd, slots}
use Rattle.pack_laws.specs.pack_model.specs.reading.Slots.IsEven.{none, two}
use Rattle.pack_laws.specs.pack_model.specs.states.Sound.{Clean, Sound}
use Rattle.pack_laws.specs.pack_model.specs.states.Whole.{HasPages, FileWhole, IsLaid, IsSeat, Leads, PageAt, Seated, TidySights, WholeSights}
use Rattle.pack_laws.specs.pack_model.specs.states.Whole.FileWhole.{absent, present}
use Rattle.laws_record.proofs.inside.Alike.{Alike, OneAlike, described_alike, holds_alike, leads_alike, live_alike, mark_alike, one_sym, read_alike, stray_alike}
use Rattle.pack_laws.proofs.Bytes.{length-words_of}
use Rattle.laws_record.proofs.Heads.{all_read, reads_all}
use Rattle.laws_record.specs.HintLaws.{MeansSame}

-- ---- the pages of a file with their other bytes
-- the counted bytes of a sector
abbrev pub shown_bytes : Sight → List ℕ
shown_bytes hidden = []
shown_bytes free = []
shown_bytes stray = []
shown_bytes (leads f r l) = []
shown_bytes (holds f n bytes) = bytes

-- a page with the bytes that it has now
abbrev page_now : List Sight → PageAt → PageAt
page_now tt c = (c.0, shown_bytes (get_or tt c.0 hidden))

-- all of them
abbrev pages_now : List Sight → List PageAt → List PageAt
pages_now tt [] = []
pages_now tt (c ∷ cs) = page_now tt c ∷ pages_now tt cs

-- as many pages
length-pages_now : (tt : List Sight) (cs : List PageAt) → length (pages_now tt cs) ≡ length cs
length-pages_now tt [] = refl
length-pages_now tt (c ∷ cs) = ap suc (length-pages_now tt cs)

-- in the same sectors
seat_now : (tt : List Sight) (k : ℕ) (cs : List PageAt) (m i : ℕ) → IsSeat k cs m i → IsSeat k (pages_now tt cs) m i
seat_now tt k [] m i h = h
seat_now tt k (c ∷ cs) m i (inl h) = inl h
seat_now tt k (c ∷ cs) m i (inr h) = inr (seat_now tt (suc k) cs m i h)

-- what a page shows now
record NowHolds (tt : List Sight) (f : Fid) (k : ℕ) (c : PageAt) : Type 0 where
  shows : get_or tt c.0 hidden ≡ holds f k (shown_bytes (get_or tt c.0 hidden))
  size : length (shown_bytes (get_or tt c.0 hidden)) ≡ length c.1

-- it shows as many bytes
now_holds : (ss tt : List Sight) (f : Fid) (k : ℕ) (c : PageAt) → OneAlike (get_or ss c.0 hidden) (get_or tt c.0 hidden) → get_or ss c.0 hidden ≡ holds f k c.1 → NowHolds tt f k c
now_holds ss tt f k c a is =
    let h = holds_alike (get_or tt c.0 hidden) (get_or ss c.0 hidden) f k c.1 (one_sym (get_or ss c.0 hidden) (get_or tt c.0 hidden) a) is in
    let e : shown_bytes (get_or tt c.0 hidden) ≡ h.old = ap shown_bytes h.was in
    record { shows = h.was ∙ ap (holds f k) (sym e); size = ap length e ∙ sym h.size }

module _ (ss tt : List Sight) (each : (i : ℕ) → OneAlike (get_or ss i hidden) (get_or tt i hidden)) where
  -- these sectors hold the pages
  seated_now : (f : Fid) (k : ℕ) (cs : List PageAt) → Seated ss f k cs → Seated tt f k (pages_now tt cs)
  seated_now f k [] h = Prim.tt
  seated_now f k (c ∷ cs) h = ((now_holds ss tt f k c (each c.0) h.0).shows, seated_now f (suc k) cs h.1)

  -- and no others
  carries_now : (f : Fid) (cs : List PageAt) → HasPages ss f cs 0 [] → HasPages tt f (pages_now tt cs) 0 []
  carries_now f cs h = record {
    seated = seated_now f 0 cs h.seated;
    waiting = Prim.tt;
    only = λ i m bytes is.
        let was = holds_alike (get_or ss i hidden) (get_or tt i hidden) f m bytes (each i) is in
        elim (h.only i m was.old was.was) [ inl here ↦ inl (seat_now tt 0 cs m i here) | inr no_seat ↦ absurd no_seat ];
  }

  -- laid as before
  laid_now : (f : Fid) (k : ℕ) (cs : List PageAt) → Seated ss f k cs → IsLaid cs → IsLaid (pages_now tt cs)
  laid_now f k [] s h = h
  laid_now f k (c ∷ []) s h = ap (λ n. nat_lt n 512) (now_holds ss tt f k c (each c.0) s.0).size ∙ h
  laid_now f k (c ∷ d ∷ cs) s h = ((now_holds ss tt f k c (each c.0) s.0).size ∙ h.0, laid_now f (suc k) (d ∷ cs) s.1 h.1)

  -- one leader as before
  leads_now : (f : Fid) (at : ℕ) (r : Bool) (l : Leader) → Leads ss f at r l → Leads tt f at r l
  leads_now f at r l h = record {
    shows = leads_alike (get_or tt at hidden) (get_or ss at hidden) f r l (one_sym (get_or ss at hidden) (get_or tt at hidden) (each at)) h.shows;
    only = λ i q k is. h.only i q k (leads_alike (get_or ss i hidden) (get_or tt i hidden) f q k (each i) is);
  }

  -- a whole file is whole
  file_now : (f : Fid) → FileWhole ss f → FileWhole tt f
  file_now f (absent headless c) = absent (λ i r k is. headless i r k (leads_alike (get_or ss i hidden) (get_or tt i hidden) f r k (each i) is)) (carries_now f [] c)
  file_now f (present at l cs h c laid most) =
      present at l (pages_now tt cs) (leads_now f at true l h) (carries_now f cs c) (laid_now f 0 cs c.seated laid) (subst (λ n. n ≤ most_pages) (sym (length-pages_now tt cs)) most)

-- ---- slots to the end
-- as many bytes are as even
even_same : (a b : List ℕ) → IsEven a → length b ≡ length a → IsEven b
even_same [] [] e size = none
even_same [] (x ∷ b) e size = absurd (omega arith)
even_same _ [] (two e) size = absurd (omega arith)
even_same _ (x ∷ []) (two e) size = absurd (omega arith)
even_same _ (x ∷ y ∷ b) (two {bytes = a} e) size = two (even_same a b e (omega arith))

-- with the same slots in as many bytes, slots reach the end
reach_same : (a b : List ℕ) → SlotsReachEnd a → length b ≡ length a → slots (words_of b) ≡ slots (words_of a) → SlotsReachEnd b
reach_same a b h size same =
    let r = all_read (words_of a) h.items h.reads in
    let words : length (words_of b) ≡ length (words_of a) = length-words_of b ∙ ap (λ n. n / 2) size ∙ sym (length-words_of a) in
    record { even = even_same a b h.even size; items = h.items; reads = reads_all h.items (words_of b) (same ∙ r.0) (r.1 ∙ sym words) }

-- ---- the pack
-- sights that differ in hints alone are whole together
pub whole_alike : (shape : Shape) (ss tt : List Sight) → Alike ss tt → WholeSights shape ss → WholeSights shape tt
whole_alike shape ss tt a w = record {
  files = λ f. file_now ss tt a.each f (w.files f);
  used = λ i is. w.used i (stray_alike (get_or ss i hidden) (get_or tt i hidden) (a.each i) is);
  directories = λ d live dir.
      let lived : lives ss d ≡ true = sym (ap (λ v. v d) (live_alike ss tt a)) ∙ live in
      reach_same (file_bytes ss d) (file_bytes tt d) (w.directories d lived dir) (a.sizes d) (a.slots_are d lived dir);
  root = (w.root.0, leads_alike (get_or tt 1 hidden) (get_or ss 1 hidden) sys_dir true w.root.0 (one_sym (get_or ss 1 hidden) (get_or tt 1 hidden) (a.each 1)) w.root.1);
  root_named = ap (λ m. is_named m sys_dir) (read_alike ss tt a shape) ∙ w.root_named;
  descriptor_named = ap (λ m. is_named m disk_descriptor) (read_alike ss tt a shape) ∙ w.descriptor_named;
  descriptor_lives = ap (λ v. v disk_descriptor) (live_alike ss tt a) ∙ w.descriptor_lives;
  descriptor_fits = record {
    says = record {
      disks = a.words 0 (omega arith) (omega arith) ∙ w.descriptor_fits.says.disks;
      cylinders = a.words 1 (omega arith) (omega arith) ∙ w.descriptor_fits.says.cylinders;
      heads = a.words 2 (omega arith) (omega arith) ∙ w.descriptor_fits.says.heads;
      sectors = a.words 3 (omega arith) (omega arith) ∙ w.descriptor_fits.says.sectors;
      table = a.words 8 (omega arith) (omega arith) ∙ w.descriptor_fits.says.table;
    };
    size = a.sizes disk_descriptor ∙ w.descriptor_fits.size;
  };
  last = λ f live. subst (λ n. serial_of f ≤ n) (sym (ap (λ m. m.last) (read_alike ss tt a shape))) (w.last f (sym (ap (λ v. v f) (live_alike ss tt a)) ∙ live));
}

-- and tidy together
pub tidy_alike : (ss tt : List Sight) → Alike ss tt → TidySights ss → TidySights tt
tidy_alike ss tt a h = subst (λ v. IsTidy v (described tt)) (sym (live_alike ss tt a)) (subst (IsTidy (lives ss)) (sym (described_alike ss tt a)) h)

-- the relation is the same both ways
pub alike_sym : (ss tt : List Sight) → Alike ss tt → Alike tt ss
alike_sym ss tt a = record {
  size = sym a.size;
  each = λ i. one_sym (get_or ss i hidden) (get_or tt i hidden) (a.each i);
  sizes = λ f. sym (a.sizes f);
  plain = λ f d o. sym (a.plain f d o);
  slots_are = λ d live dir. sym (a.slots_are d (sym (ap (λ v. v d) (live_alike ss tt a)) ∙ live) dir);
  words = λ k l o. sym (a.words k l o);
}

-- ---- whole packs
-- one is sound where the other is
pub sound_alike : (p q : Pack) → q.shape ≡ p.shape → Alike (sights p) (sights q) → Sound p → Sound q
sound_alike p q shape a s =
    let read : read_as q ≡ read_as p = ap (λ h. read_sights h (sights q)) shape ∙ read_alike (sights p) (sights q) a p.shape in
    record {
      whole = subst (λ h. WholeSights h (sights q)) (sym shape) (whole_alike p.shape (sights p) (sights q) a s.whole);
      tidy = tidy_alike (sights p) (sights q) a s.tidy;
      named = λ f live. ap (λ m. is_named m f) read ∙ s.named f (sym (ap (λ v. v f) (live_alike (sights p) (sights q) a)) ∙ live);
    }

-- and clean
pub clean_alike : (p q : Pack) → Alike (sights p) (sights q) → Clean p → Clean q
clean_alike p q a c = record { lives = ap (λ v. v disk_descriptor) (live_alike (sights p) (sights q) a) ∙ c.lives; mark = mark_alike (sights p) (sights q) a ∙ c.mark }

-- so packs that are alike mean the same
pub means_alike : (p q : Pack) → q.shape ≡ p.shape → Alike (sights p) (sights q) → MeansSame p q
means_alike p q shape a =
    let b = alike_sym (sights p) (sights q) a in
    record {
      read = ap (λ h. read_sights h (sights q)) shape ∙ read_alike (sights p) (sights q) a p.shape;
      sound = (sound_alike p q shape a, sound_alike q p (sym shape) b);
      clean = (clean_alike p q a, clean_alike q p b);
    }
