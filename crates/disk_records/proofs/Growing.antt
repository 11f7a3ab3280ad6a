-- Calls one after another.
use Rattle.std.proofs.Common.{◌≡◌, ℕ, ◌+◌, List, [], ◌∷◌, ◌++◌, length, drop, refl, sym, ◌∙◌, ap, append_assoc, length-append, arith}
use Rattle.std.proofs.lemmas.List.{append-nil}
use Rattle.std.proofs.Math.ListN.{length-set}
use Rattle.disk_records.specs.declared.records.Sector.{Sector}
use Rattle.disk_records.specs.declared.records.Event.{Event}
use Rattle.disk_records.specs.declared.records.Event.TheVariants.{Wrote, Shown}
use Rattle.disk_records.specs.Packs.{Pack, after, after_all, after_one}
use Rattle.disk_records.specs.Events.{shown_bytes, shown_events, writes_in}
use Rattle.disk_records.specs.Tapes.{Taped, Grown, DiskAlone, KeysAlone, added, first_pack, pack}

after_all-append : (sectors : List Sector) (a b : List Event) → after_all (a ++ b) sectors ≡ after_all b (after_all a sectors)
after_all-append sectors [] b = refl
after_all-append sectors (x ∷ a) b = after_all-append (after_one x sectors) a b

pub after-append : (p : Pack) (a b : List Event) → after p (a ++ b) ≡ after (after p a) b
after-append p a b = ap (λ s. record { shape = p.shape; sectors = s }) (after_all-append p.sectors a b)

-- shown bytes change no sector
after_all-shown : (sectors : List Sector) (text : List ℕ) → after_all (shown_events text) sectors ≡ sectors
after_all-shown sectors [] = refl
after_all-shown sectors (b ∷ text) = after_all-shown sectors text

pub after-shown : (p : Pack) (text : List ℕ) → after p (shown_events text) ≡ p
after-shown p text = ap (λ s. record { shape = p.shape; sectors = s }) (after_all-shown p.sectors text)

pub shown-append : (a b : List Event) → shown_bytes (a ++ b) ≡ shown_bytes a ++ shown_bytes b
shown-append [] b = refl
shown-append (Wrote at part words ∷ a) b = shown-append a b
shown-append (Shown byte ∷ a) b = ap (λ l. byte ∷ l) (shown-append a b)

pub shown-events : (text : List ℕ) → shown_bytes (shown_events text) ≡ text
shown-events [] = refl
shown-events (b ∷ text) = ap (λ l. b ∷ l) (shown-events text)

pub writes-append : (a b : List Event) → writes_in (a ++ b) ≡ writes_in a + writes_in b
writes-append [] b = omega arith
writes-append (Wrote at part words ∷ a) b = let h = writes-append a b in omega (arith, h)
writes-append (Shown byte ∷ a) b = writes-append a b

pub writes-shown : (text : List ℕ) → writes_in (shown_events text) ≡ 0
writes-shown [] = refl
writes-shown (b ∷ text) = writes-shown text

pub drop_front : (a b : List Event) → drop (length a) (a ++ b) ≡ b
drop_front [] b = refl
drop_front (x ∷ a) b = drop_front a b

pub nothing_added : (events : List Event) → drop (length events) events ≡ []
nothing_added [] = refl
nothing_added (x ∷ events) = nothing_added events

-- the events of two calls are those of the first and then those of the second
pub added-twice : {a b c : Taped} → Grown a b → Grown b c → added a c ≡ added a b ++ added b c
added-twice {a} {b} {c} x y =
    ap (drop (length a.events)) (y.events ∙ ap (λ l. l ++ added b c) x.events ∙ append_assoc a.events (added a b) (added b c))
    ∙ drop_front a.events (added a b ++ added b c)

pub grown_twice : {a b c : Taped} → Grown a b → Grown b c → Grown a c
grown_twice {a} {b} {c} x y =
    let both : added a c ≡ added a b ++ added b c = added-twice x y in
    let many : length (added a c) ≡ length (added a b) + length (added b c) = ap length both ∙ length-append (added a b) (added b c) in
    record {
      form = y.form ∙ x.form;
      base = y.base ∙ x.base;
      events = y.events ∙ ap (λ l. l ++ added b c) x.events ∙ append_assoc a.events (added a b) (added b c) ∙ ap (λ l. a.events ++ l) (sym both);
      disk_faults = omega (arith, x.disk_faults, y.disk_faults);
      key_faults = omega (arith, x.key_faults, y.key_faults);
      show_faults = omega (arith, x.show_faults, y.show_faults);
      runs = omega (arith, x.runs, y.runs);
      writes = omega (arith, x.writes, y.writes);
      spare = omega (arith, x.spare, y.spare, many);
    }

pub alone_twice : {a b c : Taped} → DiskAlone a b → DiskAlone b c → DiskAlone a c
alone_twice {a} {b} {c} x y =
    record {
      grown = grown_twice x.grown y.grown;
      keys = y.keys ∙ x.keys;
      key_faults = y.key_faults ∙ x.key_faults;
      show_faults = y.show_faults ∙ x.show_faults;
      shown = ap shown_bytes (added-twice x.grown y.grown) ∙ shown-append (added a b) (added b c) ∙ ap (λ l. l ++ shown_bytes (added b c)) x.shown ∙ y.shown;
    }

pub keys_twice : {a b c : Taped} → KeysAlone a b → KeysAlone b c → KeysAlone a c
keys_twice x y =
    record {
      grown = grown_twice x.grown y.grown;
      events = y.events ∙ x.events;
      disk_faults = y.disk_faults ∙ x.disk_faults;
      show_faults = y.show_faults ∙ x.show_faults;
      runs = y.runs ∙ x.runs;
      writes = y.writes ∙ x.writes;
    }

pub grown_here : (a : Taped) → Grown a a
grown_here a =
    let none : added a a ≡ [] = nothing_added a.events in
    record {
      form = refl;
      base = refl;
      events = sym (ap (λ l. a.events ++ l) none ∙ append-nil a.events);
      disk_faults = omega arith;
      key_faults = omega arith;
      show_faults = omega arith;
      runs = omega arith;
      writes = omega arith;
      spare = omega arith;
    }

pub alone_here : (a : Taped) → DiskAlone a a
alone_here a = record { grown = grown_here a; keys = refl; key_faults = refl; show_faults = refl; shown = ap shown_bytes (nothing_added a.events) }

-- the pack after a call
pub pack-after : {a b : Taped} → Grown a b → pack b ≡ after (pack a) (added a b)
pack-after {a} {b} x =
    ap (λ p. after p b.events) (first_same x)
    ∙ ap (after (first_pack a)) x.events
    ∙ after-append (first_pack a) a.events (added a b)
  where
    first_same : {a b : Taped} → Grown a b → first_pack b ≡ first_pack a
    first_same {a} {b} x = ap (λ f. record { shape = f; sectors = b.base }) x.form ∙ ap (λ s. record { shape = a.form; sectors = s }) x.base

-- a call that adds no event leaves the pack
pub pack-silent : {a b : Taped} → Grown a b → added a b ≡ [] → pack b ≡ pack a
pack-silent {a} {b} grown silent = pack-after grown ∙ ap (after (pack a)) silent

pub silent_twice : {a b c : Taped} → Grown a b → Grown b c → added a b ≡ [] → added b c ≡ [] → added a c ≡ []
silent_twice {a} {b} {c} one two x y = added-twice one two ∙ ap (λ l. l ++ added b c) x ∙ y

-- events keep the number of sectors
length-after_all : (events : List Event) (sectors : List Sector) → length (after_all events sectors) ≡ length sectors
length-after_all [] sectors = refl
length-after_all (Wrote at part words ∷ events) sectors = length-after_all events (after_one (Wrote at part words) sectors) ∙ length-set sectors at _
length-after_all (Shown byte ∷ events) sectors = length-after_all events sectors

pub length-pack : (t : Taped) → length (pack t).sectors ≡ length t.base
length-pack t = length-after_all t.events t.base
