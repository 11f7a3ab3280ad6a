-- What is read stays, where what counts stays.
use Rattle.std.proofs.Common.{◌&&◌, ◌+◌, ◌==◌, ◌∙◌, ◌∷◌, ◌≡◌, ◌⊎◌, Bool, List, None, Some, [], ap, arith, cond, eqb-true, false, get_or, inl, inr, refl, set, subst, suc, sym, true, zero, ℕ}
use mathlib.Core.Path.{fun_ext}
use Rattle.std.specs.FinMap.{retain_keys}
use Rattle.std.specs.Option.{is_some}
use Rattle.pack_laws.specs.alto_words.specs.Fid.{disk_descriptor, is_fid}
use Rattle.pack_laws.specs.alto_words.specs.declared.fid.Fid.{Fid}
use Rattle.pack_laws.specs.disk_records.specs.declared.shape.Shape.{Shape}
use Rattle.pack_laws.specs.pack_model.specs.reading.Bodies.{Files, described, is_described}
use Rattle.pack_laws.specs.pack_model.specs.reading.Bytes.{words_of}
use Rattle.pack_laws.specs.pack_model.specs.reading.Files.{file_bytes, leader, leader_at, lives, most_pages, page, page_at}
use Rattle.pack_laws.specs.pack_model.specs.reading.Model.{Model, good_one, good_sectors, last_serial, read_sights}
use Rattle.pack_laws.specs.pack_model.specs.reading.Namings.{tidied}
use Rattle.pack_laws.specs.pack_model.specs.reading.Sights.{Sight}
use Rattle.pack_laws.specs.pack_model.specs.reading.Sights.Sight.{free, hidden, holds}
use Rattle.pack_laws.proofs.Firsts.{first_same}
use Rattle.pack_laws.proofs.Joining.{Reaches, joined_frame}
use Rattle.pack_laws.proofs.Keys.{same_fid}
use Rattle.laws_record.proofs.Reading.{found_frame}

-- page n + 1 of f is read: f has a leader or is the descriptor, and all pages before are full
pub record IsRead (ss : List Sight) (f : Fid) (n : ℕ) : Type 0 where
  pub file : (leader ss f ≡ None → ⊥) ⊎ (f ≡ disk_descriptor)
  pub reached : Reaches (page ss f) n

-- What a reading looks at: the number of good sectors, all leaders, and the bytes of each file that lives and of DiskDescriptor.
pub record SameBytes (ss tt : List Sight) : Type 0 where
  pub good : good_sectors ss ≡ good_sectors tt
  pub leaders : (f : Fid) → leader ss f ≡ leader tt f
  pub bytes : (f : Fid) → (leader ss f ≡ None → ⊥) ⊎ (f ≡ disk_descriptor) → file_bytes ss f ≡ file_bytes tt f

-- and of the bytes each page that is read
pub record SameCounted (ss tt : List Sight) : Type 0 where
  pub good : good_sectors ss ≡ good_sectors tt
  pub leaders : (f : Fid) → leader ss f ≡ leader tt f
  pub pages : (f : Fid) (n : ℕ) → IsRead ss f n → page ss f n ≡ page tt f n

-- the bytes are those of the pages that are reached
pub bytes_frame : (ss tt : List Sight) (f : Fid) → ((n : ℕ) → Reaches (page ss f) n → page ss f n ≡ page tt f n) → file_bytes ss f ≡ file_bytes tt f
unfolding file_bytes
bytes_frame ss tt f e = joined_frame most_pages (page ss f) (page tt f) e

-- one sector that answers as before for the pages of a file leaves its bytes
pub bytes_same : (ss : List Sight) (i : ℕ) (s : Sight) (g : Fid) → ((n : ℕ) → page_at g n s ≡ page_at g n (get_or ss i hidden)) → file_bytes (set ss i s) g ≡ file_bytes ss g
bytes_same ss i s g same = bytes_frame (set ss i s) ss g (λ n r. first_same (page_at g n) ss i s hidden (same n))

-- two models with the same parts
pub model_same : (shape : Shape) (g h l k : ℕ) (a b : Files) → g ≡ h → l ≡ k → a ≡ b → ◌≡◌ {A = Model} (record { shape = shape; good = g; last = l; files = a }) (record { shape = shape; good = h; last = k; files = b })
model_same shape g h l k a b p q r = λ i. record { shape = shape; good = p i; last = q i; files = r i }

-- the same leaders, the same files that live
pub lives_same : (ss tt : List Sight) → ((f : Fid) → leader ss f ≡ leader tt f) → lives ss ≡ lives tt
lives_same ss tt e = fun_ext (λ f. ap is_some (e f))

-- so the model is the same
pub read_bytes : (shape : Shape) (ss tt : List Sight) → SameBytes ss tt → read_sights shape ss ≡ read_sights shape tt
unfolding read_sights
read_bytes shape ss tt s =
    model_same shape _ _ _ _ _ _ s.good
    (ap (λ b. last_serial (words_of b)) (s.bytes disk_descriptor (inr refl)))
    (ap (λ v. tidied v (described ss)) (lives_same ss tt s.leaders)
    ∙ ap (λ m. tidied (lives tt) (retain_keys m is_described)) (found_frame ss tt s.leaders (λ f l. s.bytes f (inl l))))

-- the pages that are read are the bytes
pub counted_bytes : (ss tt : List Sight) → SameCounted ss tt → SameBytes ss tt
counted_bytes ss tt s = record {
  good = s.good;
  leaders = s.leaders;
  bytes = λ f file. bytes_frame ss tt f (λ n r. s.pages f n (record { file = file; reached = r }));
}

-- ---- one sector changes
-- as many good sectors
pub good_set : (ss : List Sight) (i : ℕ) (s d : Sight) → good_one s ≡ good_one (get_or ss i d) → good_sectors (set ss i s) ≡ good_sectors ss
good_set [] i s d e = refl
good_set (x ∷ ss) zero s d e = ap (λ n. n + good_sectors ss) e
good_set (x ∷ ss) (suc i) s d e = ap (λ n. good_one x + n) (good_set ss i s d e)

-- another page than one that isn't read
other_page : (ss : List Sight) (f g : Fid) (n m : ℕ) → (IsRead ss f n → ⊥) → IsRead ss g m → (is_fid g f && m == n) ≡ false
other_page ss f g n m past r = by (is_fid g f) (m == n) refl refl
  where
    by : (a b : Bool) → is_fid g f ≡ a → (m == n) ≡ b → (a && b) ≡ false
    by false b p q = refl
    by true false p q = refl
    by true true p q =
        let e : m ≡ n = omega (arith, eqb-true m n q) in
        absurd (past (subst (λ k. IsRead ss f k) e (subst (λ h. IsRead ss h m) (same_fid g f p) r)))

-- a sector that showed nothing shows a page that isn't read
pub claim_frame : (ss : List Sight) (i : ℕ) (f : Fid) (n : ℕ) (bytes : List ℕ) → get_or ss i hidden ≡ free → (IsRead ss f n → ⊥) → SameCounted ss (set ss i (holds f n bytes))
claim_frame ss i f n bytes is past = record {
  good = sym (good_set ss i (holds f n bytes) hidden (ap good_one (sym is)));
  leaders = λ g. sym (first_same (leader_at g) ss i _ hidden (ap (leader_at g) (sym is)));
  pages = λ g m r. sym (first_same (page_at g m) ss i _ hidden
      (ap (λ b. cond b (Some bytes) None) (other_page ss f g n m past r) ∙ ap (page_at g m) (sym is)));
}

-- a page that isn't read is shown no more
pub release_frame : (ss : List Sight) (i : ℕ) (f : Fid) (n : ℕ) (bytes : List ℕ) → get_or ss i hidden ≡ holds f n bytes → (IsRead ss f n → ⊥) → SameCounted ss (set ss i free)
release_frame ss i f n bytes is past = record {
  good = sym (good_set ss i free hidden (ap good_one (sym is)));
  leaders = λ g. sym (first_same (leader_at g) ss i _ hidden (ap (leader_at g) (sym is)));
  pages = λ g m r. sym (first_same (page_at g m) ss i _ hidden
      (sym (ap (λ b. cond b (Some bytes) None) (other_page ss f g n m past r)) ∙ ap (page_at g m) (sym is)));
}

-- a sector that answers for no page before and after
pub mute_frame : (ss : List Sight) (i : ℕ) (s : Sight) → good_one s ≡ good_one (get_or ss i hidden) → ((f : Fid) → leader_at f s ≡ leader_at f (get_or ss i hidden)) → ((f : Fid) (n : ℕ) → page_at f n s ≡ page_at f n (get_or ss i hidden)) → SameCounted ss (set ss i s)
mute_frame ss i s good a b = record {
  good = sym (good_set ss i s hidden good);
  leaders = λ f. sym (first_same (leader_at f) ss i s hidden (a f));
  pages = λ f n r. sym (first_same (page_at f n) ss i s hidden (b f n));
}
