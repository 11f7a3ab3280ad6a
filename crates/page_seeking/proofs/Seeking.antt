-- Calls that seek pages, one after another.
use Rattle.std.proofs.Common.{◌≡◌, ◌⊎◌, ℕ, ◌+◌, ◌≤◌, Bool, IsTrue, List, [], length, Option, inl, inr, sym, ◌∙◌, ap, subst, arith}
use Rattle.alto_words.specs.declared.fid.Fid.{Fid}
use Rattle.disk_records.specs.declared.records.Page.{Page}
use Rattle.disk_records.specs.declared.records.Sector.{Sector}
use Rattle.disk_records.specs.declared.shape.Shape.{Shape}
use Rattle.disk_records.specs.Addresses.{pages_of}
use Rattle.disk_records.specs.Packs.{Pack, carried, sector_at}
use Rattle.disk_records.specs.Tapes.{Taped, Looks, pack}
use Rattle.disk_records.proofs.Looking.{looks_none, looks_pack, looks_twice, looks_within}
use Rattle.hint_cache.specs.Caches.{Cached}
use Rattle.label_check.specs.declared.errors.PageInfo.{PageInfo}
use Rattle.label_check.specs.Guarded.{info_of}
use Rattle.pack_model.specs.hints.Links.{LinksTrue}
use Rattle.pack_model.specs.states.Whole.{Whole}
use Rattle.disk_records.specs.declared.records.Place.{Place}
use Rattle.page_seeking.specs.declared.links.Below.{Below}
use Rattle.page_seeking.specs.declared.seek.Found.{Found}
use Rattle.page_seeking.specs.Refs.{MisledBy}
use Rattle.page_seeking.specs.Seeking.{EndsAtPage, GoesOn, IsEnd, Links, Seen, Stands, page_number}
use Rattle.page_seeking.proofs.Handing.{handy_noted}
use Rattle.page_seeking.specs.Inside.{AreNoted, Confirmed, Ends, HandyEntries, KeepsEntriesHandy, Known, Sought, StaysAt}

-- ---- caches
pub handy_here : {told : Bool} (a : Taped) (c : Cached) → KeepsEntriesHandy told a c c
handy_here a c = λ told whole links f handy. handy

pub handy_twice : {told : Bool} {n : ℕ} {a b : Taped} (c d e : Cached) → Looks told n a b → KeepsEntriesHandy told a c d → KeepsEntriesHandy told b d e → KeepsEntriesHandy told a c e
handy_twice {told} {a = a} {b} c d e looks x y = λ is whole links f handy. again is (looks_pack looks is) whole links f (x is whole links f handy)
  where
    again : IsTrue told → pack b ≡ pack a → Whole (pack a) → LinksTrue (pack a) → (f : Fid) → HandyEntries (pack a) f d.entries → HandyEntries (pack a) f e.entries
    again is same whole links f mid = subst (λ (p : Pack). HandyEntries p f e.entries) same (y is (subst Whole (sym same) whole) (subst LinksTrue (sym same) links) f (subst (λ (p : Pack). HandyEntries p f d.entries) (sym same) mid))

-- ---- calls
pub sought_here : {told : Bool} (a : Taped) (c : Cached) → Sought told 0 a a c c
sought_here a c = record { looks = looks_none 0 a; refused = omega arith; handy = handy_here a c }

pub sought_more : {told : Bool} {n m : ℕ} {a b : Taped} {c d : Cached} → n ≤ m → Sought told n a b c d → Sought told m a b c d
sought_more {m = m} more x = record { looks = looks_within m x.looks more; refused = x.refused; handy = x.handy }

pub sought_twice : {told : Bool} {n m : ℕ} {a b c : Taped} {d e f : Cached} → Sought told n a b d e → Sought told m b c e f → Sought told (n + m) a c d f
sought_twice {n = n} {m} {d = d} {e} {f} x y = record { looks = looks_twice (n + m) x.looks y.looks (omega arith); refused = let one = x.refused in let two = y.refused in omega arith; handy = handy_twice d e f x.looks x.handy y.handy }

-- with fewer sector commands
pub sought_within : {told : Bool} {n m : ℕ} {a b : Taped} {c d : Cached} → Sought told n a b c d → (IsTrue told → b.runs ≤ a.runs + m) → Sought told m a b c d
sought_within x few = record { looks = record { alone = x.looks.alone; silent = x.looks.silent; runs = few }; refused = x.refused; handy = x.handy }

-- ---- one page that was looked at
pub sought_missed : {told : Bool} {n : ℕ} {a b : Taped} (c : Cached) → Looks told n a b → Sought told n a b c c
sought_missed {a = a} c looks = record { looks = looks; refused = omega arith; handy = handy_here a c }

pub sought_noted : {told : Bool} {n : ℕ} {a b : Taped} {c d : Cached} {page : Page} {at : ℕ} {info : PageInfo} {buffer : Sector} (shape : Shape) → shape ≡ a.form → Looks told n a b → c.refused ≤ d.refused → AreNoted shape page at info c.entries d.entries
    → Seen a.form page at info buffer → (IsTrue told → Stands (pack a) page at buffer) → Sought told n a b c d
sought_noted {told} {a = a} {c = c} {d} {page} {at} {info} {buffer} shape form looks grows noted seen stands =
    record {
      looks = looks;
      refused = grows;
      handy = λ is whole links. let s = stands is in handy_noted (pack a) page at info c.entries d.entries whole links (subst (λ (f : Shape). AreNoted f page at info c.entries d.entries) form noted) s.carries (seen.tells ∙ ap (λ (x : Sector). info_of x.label) s.holds);
    }

-- a page that was found is known by its address and its label's words
pub known_of : {told : Bool} {page : Page} {a : Taped} {c d : Cached} {buffer : Sector} {f : Found} → Confirmed told page a c d buffer f → Known told (pack a) a.form page f
known_of {a = a} x =
    record {
      first = x.seen.first;
      last = x.seen.last;
      carries = λ is. (x.stands is).carries;
      tells = λ is. x.seen.tells ∙ ap (λ (s : Sector). info_of s.label) (x.stands is).holds;
      sized = λ is. ap (λ (s : Sector). length s.value) (sym (x.stands is).holds) ∙ x.seen.sized;
    }

-- and ends its file
pub ends_of : {told : Bool} {f : Fid} {n : ℕ} {a : Taped} {c d : Cached} {buffer : Sector} {found : Found} → EndsAtPage n found.info.bytes → Confirmed told (page_number f n) a c d buffer found → Ends told (pack a) a.form f n found
ends_of ends x = record { first = ends.first; known = known_of x; ends = ends.ends }

-- so it is on the machine that other calls left before
pub known_later : {told : Bool} {n : ℕ} {a b : Taped} {page : Page} {f : Found} → Looks told n a b → Known told (pack a) a.form page f → Known told (pack b) b.form page f
known_later {a = a} {b} {page} {f} looks x =
    record {
      first = x.first;
      last = let form = ap pages_of looks.alone.grown.form in let last = x.last in omega arith;
      carries = λ is. ap (λ (p : Pack). carried p f.at) (looks_pack looks is) ∙ x.carries is;
      tells = λ is. x.tells is ∙ ap (λ (p : Pack). info_of (sector_at p f.at).label) (sym (looks_pack looks is));
      sized = λ is. ap (λ (p : Pack). length (sector_at p f.at).value) (looks_pack looks is) ∙ x.sized is;
    }

pub known_before : {told : Bool} {n : ℕ} {a b : Taped} {page : Page} {f : Found} → Looks told n a b → Known told (pack b) b.form page f → Known told (pack a) a.form page f
known_before {a = a} {b} {page} {f} looks x =
    record {
      first = x.first;
      last = let form = ap pages_of looks.alone.grown.form in let last = x.last in omega arith;
      carries = λ is. ap (λ (p : Pack). carried p f.at) (sym (looks_pack looks is)) ∙ x.carries is;
      tells = λ is. x.tells is ∙ ap (λ (p : Pack). info_of (sector_at p f.at).label) (looks_pack looks is);
      sized = λ is. ap (λ (p : Pack). length (sector_at p f.at).value) (sym (looks_pack looks is)) ∙ x.sized is;
    }

-- and a page that is confirmed after some calls is so over all of them
pub confirmed_before : {told : Bool} {n : ℕ} {a b : Taped} {page : Page} {c d e : Cached} {buffer : Sector} {f : Found} → Looks told n a b → c.refused ≤ d.refused → Confirmed told page b d e buffer f → Confirmed told page a c e buffer f
confirmed_before {told} {n} {a} {b} {page} {c} {d} {e} {buffer} {f} looks grows x =
    let form = looks.alone.grown.form in
    record {
      seen = subst (λ (s : Shape). Seen s page f.at f.info buffer) form x.seen;
      stands = λ is. subst (λ (p : Pack). Stands p page f.at buffer) (looks_pack looks is) (x.stands is);
      lists = record {
        here = elim (x.lists.here) [ inl is ↦ inl is | inr rose ↦ inr (omega (arith, grows, rose)) ];
        next = λ i goes links. elim (x.lists.next i goes (subst (λ (s : Shape). Links s f.info.next i) (sym form) links)) [ inl is ↦ inl is | inr rose ↦ inr (omega (arith, grows, rose)) ];
      };
      recent = elim (x.recent) [ inl is ↦ inl is | inr rose ↦ inr (omega (arith, grows, rose)) ];
    }

-- a page that goes on doesn't end its file
pub goes_not_end : {f : Fid} {n bytes : ℕ} → GoesOn (page_number f n) bytes → EndsAtPage n bytes → ⊥
goes_not_end goes ends = let first = ends.first in let more = goes.more in elim (goes.full) [ inl zeroth ↦ omega (arith, first, zeroth) | inr full ↦ elim (ends.ends) [ inl short ↦ short full | inr top ↦ omega (arith, more, top) ] ]

-- a page that goes on, or is confirmed after some calls, is so over all of them
pub near_before : {told : Bool} {n : ℕ} {a b : Taped} {f : Fid} {c d e : Cached} {buffer : Sector} {below : Below} → Looks told n a b → c.refused ≤ d.refused → GoesOn (page_number f below.number) below.found.info.bytes ⊎ Confirmed told (page_number f below.number) b d e buffer below.found
    → GoesOn (page_number f below.number) below.found.info.bytes ⊎ Confirmed told (page_number f below.number) a c e buffer below.found
near_before looks grows (inl goes) = inl goes
near_before looks grows (inr found) = inr (confirmed_before looks grows found)

-- a page that a climb answers is confirmed over the calls before it too, which found the page that it began at
pub confirmed_reached : {told : Bool} {n : ℕ} {a b : Taped} {f : Fid} {c d e : Cached} {below last : Below} {buffer now : Sector} → Looks told n a b → c.refused ≤ d.refused → GoesOn (page_number f below.number) below.found.info.bytes ⊎ Confirmed told (page_number f below.number) a c d buffer below.found
    → EndsAtPage last.number last.found.info.bytes → StaysAt below buffer d last now e ⊎ Confirmed told (page_number f last.number) b d e now last.found → Confirmed told (page_number f last.number) a c e now last.found
confirmed_reached looks grows (inl goes) ends (inl stays) = absurd (goes_not_end goes (subst (λ (x : Below). EndsAtPage x.number x.found.info.bytes) stays.answer ends))
confirmed_reached {told} {a = a} {f = f} {c} {d} {e} {below} {last} {buffer} {now} looks grows (inr here) ends (inl stays) =
    let cached = subst (λ (x : Cached). Confirmed told (page_number f below.number) a c x buffer below.found) (sym stays.cache_is) here in
    let buffered = subst (λ (x : Sector). Confirmed told (page_number f below.number) a c e x below.found) (sym stays.buffer_is) cached in
    subst (λ (x : Below). Confirmed told (page_number f x.number) a c e now x.found) (sym stays.answer) buffered
confirmed_reached looks grows near ends (inr x) = confirmed_before looks grows x

-- a hint that misled after calls that wrote nothing misled as they began
pub misled_before : {told : Bool} {n : ℕ} {a b : Taped} {f : Fid} {place : Place} {at : ℕ} {wanted : Page} {found : Option (List ℕ)} → Looks told n a b → IsTrue told → MisledBy (pack b) [] f place at wanted found → MisledBy (pack a) [] f place at wanted found
misled_before {f = f} {place} {at} {wanted} {found} looks told x = subst (λ (p : Pack). MisledBy p [] f place at wanted found) (looks_pack looks told) x

-- and the end of a file is what it was
pub end_before : {told : Bool} {k : ℕ} {a b : Taped} {f : Fid} {number n : ℕ} → Looks told k a b → IsTrue told → IsEnd (pack b) f number n → IsEnd (pack a) f number n
end_before {f = f} {number} {n} looks told x = subst (λ (p : Pack). IsEnd p f number n) (looks_pack looks told) x
