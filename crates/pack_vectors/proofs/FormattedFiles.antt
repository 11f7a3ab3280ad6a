-- The pack that formatting writes, by what its sectors show: its files.
use Rattle.std.proofs.Common.{◌≡◌, ◌⊎◌, ℕ, zero, suc, Bool, true, false, cond, List, [], ◌∷◌, Option, Some, None, refl, sym, ap, subst, ◌∙◌, arith, inl}
use Rattle.std.specs.Prelude.{replicate, get_or}
use Rattle.std.specs.Option.{is_some, option_or}
use Rattle.pack_laws.specs.alto_words.specs.declared.fid.Fid.{Fid}
use Rattle.pack_laws.specs.alto_words.specs.Fid.{is_fid, sys_dir, disk_descriptor}
use Rattle.pack_laws.specs.pack_model.specs.reading.Bytes.{bytes_of}
use Rattle.pack_laws.specs.pack_model.specs.reading.Leaders.{Leader}
use Rattle.pack_laws.specs.pack_model.specs.reading.Sights.{Sight}
use Rattle.pack_laws.specs.pack_model.specs.reading.Sights.Sight.{hidden, free, stray, leads, holds}
use Rattle.pack_laws.specs.pack_model.specs.reading.Files.{first, most_pages, leader, lives}
use Rattle.pack_laws.specs.pack_model.specs.reading.Namings.{sys_dir_name, descriptor_name}
use Rattle.pack_laws.specs.pack_model.specs.operations.Step.{new_leader}
use Rattle.pack_laws.specs.pack_model.specs.states.Whole.{Leads, Headless, HasPages, IsSeat, FileWhole}
use Rattle.pack_laws.specs.pack_model.specs.states.Whole.FileWhole.{absent, present}
use Rattle.pack_laws.specs.pack_model.specs.sessions.Descriptor.{descriptor_text}
use Rattle.pack_laws.specs.pack_model.specs.sessions.Format.{format_slots, format_table}
use Rattle.pack_laws.proofs.Keys.{is_fid-itself, same_fid}
use Rattle.pack_vectors.proofs.Shapes.{small}

-- ---- what its sectors show
abbrev pub root_leader : Leader
root_leader = new_leader sys_dir_name 1000

abbrev pub its_leader : Leader
its_leader = new_leader descriptor_name 1000

abbrev pub root_bytes : List ℕ
root_bytes = bytes_of format_slots

abbrev pub its_bytes : List ℕ
its_bytes = bytes_of (descriptor_text small 2 1 (format_table small))

abbrev pub fresh : List Sight
fresh = hidden ∷ leads sys_dir true root_leader ∷ holds sys_dir 0 root_bytes ∷ leads disk_descriptor true its_leader ∷ holds disk_descriptor 0 its_bytes ∷ replicate 43 free

-- what holds of each of them holds of every sector
free_or_hidden : (P : Sight → Type 0) → P free → P hidden → (n i : ℕ) → P (get_or (replicate n free) i hidden)
free_or_hidden P f h zero i = h
free_or_hidden P f h (suc n) zero = f
free_or_hidden P f h (suc n) (suc i) = free_or_hidden P f h n i

pub each : (P : ℕ → Sight → Type 0)
    → P 0 hidden
    → P 1 (leads sys_dir true root_leader)
    → P 2 (holds sys_dir 0 root_bytes)
    → P 3 (leads disk_descriptor true its_leader)
    → P 4 (holds disk_descriptor 0 its_bytes)
    → ((i : ℕ) → P i free)
    → ((i : ℕ) → P i hidden)
    → (i : ℕ) → P i (get_or fresh i hidden)
each P a b c d e f h zero = a
each P a b c d e f h (suc zero) = b
each P a b c d e f h (suc (suc zero)) = c
each P a b c d e f h (suc (suc (suc zero))) = d
each P a b c d e f h (suc (suc (suc (suc zero)))) = e
each P a b c d e f h (suc (suc (suc (suc (suc i))))) = free_or_hidden (P (suc (suc (suc (suc (suc i)))))) (f (suc (suc (suc (suc (suc i)))))) (h (suc (suc (suc (suc (suc i)))))) 43 i

-- the file and the page that a sector shows
abbrev fid_in : Sight → Fid
fid_in hidden = sys_dir
fid_in free = sys_dir
fid_in stray = sys_dir
fid_in (leads f readable l) = f
fid_in (holds f n bytes) = f

abbrev page_in : Sight → ℕ
page_in hidden = 0
page_in free = 0
page_in stray = 0
page_in (leads f readable l) = 0
page_in (holds f n bytes) = n

other : (f g : Fid) → is_fid f g ≡ false → g ≡ f → ⊥
other f g apart e = let t : is_fid f g ≡ true = ap (is_fid f) e ∙ is_fid-itself f in cc

-- ---- files
root_leads : Leads fresh sys_dir 1 true root_leader
root_leads = record {
  shows = refl;
  only = each (λ i s. (r : Bool) (k : Leader) → s ≡ leads sys_dir r k → i ≡ 1)
      (λ r k e. absurd cc)
      (λ r k e. refl)
      (λ r k e. absurd cc)
      (λ r k e. absurd (other sys_dir disk_descriptor refl (ap fid_in e)))
      (λ r k e. absurd cc)
      (λ i r k e. absurd cc)
      (λ i r k e. absurd cc);
}

root_carries : HasPages fresh sys_dir ((2, root_bytes) ∷ []) 0 []
root_carries = record {
  seated = (refl, tt);
  waiting = tt;
  only = each (λ i s. (n : ℕ) (bytes : List ℕ) → s ≡ holds sys_dir n bytes → IsSeat 0 ((2, root_bytes) ∷ []) n i ⊎ IsSeat 0 [] n i)
      (λ n bytes e. absurd cc)
      (λ n bytes e. absurd cc)
      (λ n bytes e. inl (inl (sym (ap page_in e), refl)))
      (λ n bytes e. absurd cc)
      (λ n bytes e. absurd (other sys_dir disk_descriptor refl (ap fid_in e)))
      (λ i n bytes e. absurd cc)
      (λ i n bytes e. absurd cc);
}

its_leads : Leads fresh disk_descriptor 3 true its_leader
its_leads = record {
  shows = refl;
  only = each (λ i s. (r : Bool) (k : Leader) → s ≡ leads disk_descriptor r k → i ≡ 3)
      (λ r k e. absurd cc)
      (λ r k e. absurd (other disk_descriptor sys_dir refl (ap fid_in e)))
      (λ r k e. absurd cc)
      (λ r k e. refl)
      (λ r k e. absurd cc)
      (λ i r k e. absurd cc)
      (λ i r k e. absurd cc);
}

its_carries : HasPages fresh disk_descriptor ((4, its_bytes) ∷ []) 0 []
its_carries = record {
  seated = (refl, tt);
  waiting = tt;
  only = each (λ i s. (n : ℕ) (bytes : List ℕ) → s ≡ holds disk_descriptor n bytes → IsSeat 0 ((4, its_bytes) ∷ []) n i ⊎ IsSeat 0 [] n i)
      (λ n bytes e. absurd cc)
      (λ n bytes e. absurd cc)
      (λ n bytes e. absurd (other disk_descriptor sys_dir refl (ap fid_in e)))
      (λ n bytes e. absurd cc)
      (λ n bytes e. inl (inl (sym (ap page_in e), refl)))
      (λ i n bytes e. absurd cc)
      (λ i n bytes e. absurd cc);
}

none_leads : (f : Fid) → is_fid f sys_dir ≡ false → is_fid f disk_descriptor ≡ false → Headless fresh f
none_leads f a b = each (λ i s. (r : Bool) (k : Leader) → s ≡ leads f r k → ⊥)
    (λ r k e. cc)
    (λ r k e. other f sys_dir a (ap fid_in e))
    (λ r k e. cc)
    (λ r k e. other f disk_descriptor b (ap fid_in e))
    (λ r k e. cc)
    (λ i r k e. cc)
    (λ i r k e. cc)

none_carries : (f : Fid) → is_fid f sys_dir ≡ false → is_fid f disk_descriptor ≡ false → HasPages fresh f [] 0 []
none_carries f a b = record {
  seated = tt;
  waiting = tt;
  only = each (λ i s. (n : ℕ) (bytes : List ℕ) → s ≡ holds f n bytes → IsSeat 0 [] n i ⊎ IsSeat 0 [] n i)
      (λ n bytes e. absurd cc)
      (λ n bytes e. absurd cc)
      (λ n bytes e. absurd (other f sys_dir a (ap fid_in e)))
      (λ n bytes e. absurd cc)
      (λ n bytes e. absurd (other f disk_descriptor b (ap fid_in e)))
      (λ i n bytes e. absurd cc)
      (λ i n bytes e. absurd cc);
}

-- a file is SysDir, DiskDescriptor, or another one
pub by_file : (f : Fid) (P : Type 0) → (f ≡ sys_dir → P) → (f ≡ disk_descriptor → P) → (is_fid f sys_dir ≡ false → is_fid f disk_descriptor ≡ false → P) → P
by_file f P root its others = elim (is_fid f sys_dir) as (λ b. is_fid f sys_dir ≡ b → P) [
  | true ↦ λ e. root (same_fid f sys_dir e)
  | false ↦ λ a. elim (is_fid f disk_descriptor) as (λ b. is_fid f disk_descriptor ≡ b → P) [
    | true ↦ λ e. its (same_fid f disk_descriptor e)
    | false ↦ λ b. others a b
  ] refl
] refl

pub whole_file : (f : Fid) → FileWhole fresh f
unfolding most_pages
whole_file f = by_file f (FileWhole fresh f)
    (λ e. subst (FileWhole fresh) (sym e) (present 1 root_leader ((2, root_bytes) ∷ []) root_leads root_carries refl (omega arith)))
    (λ e. subst (FileWhole fresh) (sym e) (present 3 its_leader ((4, its_bytes) ∷ []) its_leads its_carries refl (omega arith)))
    (λ a b. absent (none_leads f a b) (none_carries f a b))

-- ---- which files live
abbrev leader_by : Bool → Bool → Option Leader
leader_by x y = option_or (cond x (Some root_leader) None) (option_or (cond y (Some its_leader) None) None)

leader_is : (f : Fid) → leader fresh f ≡ leader_by (is_fid f sys_dir) (is_fid f disk_descriptor)
unfolding first
leader_is f = refl

pub no_leader : (f : Fid) → is_fid f sys_dir ≡ false → is_fid f disk_descriptor ≡ false → leader fresh f ≡ None
no_leader f a b = leader_is f ∙ (λ i. leader_by (a i) (b i))

pub by_living : (f : Fid) (P : Type 0) → lives fresh f ≡ true → (f ≡ sys_dir → P) → (f ≡ disk_descriptor → P) → P
by_living f P is root its = by_file f P root its (λ a b. let dead : lives fresh f ≡ false = ap is_some (no_leader f a b) in absurd cc)
