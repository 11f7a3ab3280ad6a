-- Keys taken in pieces of lines, and as lines.
use Rattle.std.specs.Prelude.{◌≡◌, ◌≢◌, ◌⊎◌, ℕ, ◌+◌, ◌<◌, ◌≤◌, List, [], ◌∷◌, ◌++◌, length, take, drop, Option, Some, None, Result, Ok, Err, OnOk, IfErr}
use Rattle.disk_records.specs.Events.{IsFirstOf, shown_events}
use Rattle.disk_records.specs.Tapes.{Taped, IsUnbroken, added}
use Rattle.session_boot.specs.declared.keys.Piece.{Piece}
use Rattle.session_boot.specs.declared.keys.Piece.TheVariants.{End, Part, Last}
use Rattle.session_boot.specs.declared.status.Fault.{Fault}
use Rattle.session_boot.specs.declared.status.Fault.TheVariants.{Display}

-- keys of one line were taken, and these stood after them
pub record TookSome (old rest part : List ℕ) : Type 0 where
  pub unbroken : IsUnbroken part
  pub split : old ≡ part ++ rest

-- what one call took of a line, at the front of the buffer; with a line's last piece the byte 10 was taken that ends it
abbrev pub TookPiece : List ℕ → List ℕ → List ℕ → Result Piece Fault → Type 0
TookPiece old new buf (Ok End) = (old ≡ []) × (new ≡ [])
TookPiece old new buf (Ok (Part count)) = TookSome old new (take count buf)
TookPiece old new buf (Ok (Last count)) = TookSome old (10 ∷ new) (take count buf)
TookPiece old new buf (Err e) = new ≡ old

-- a piece has at least one key and so many at most, the one that ends the line among them
abbrev pub FitsIn : ℕ → Piece → Type 0
FitsIn most End = Unit {0}
FitsIn most (Part count) = (0 < count) × (count ≤ most)
FitsIn most (Last count) = count < most

-- this holds where the line goes on after the piece
abbrev pub IfPart : Result Piece Fault → Type 0 → Type 0
IfPart (Ok End) holds = Unit {0}
IfPart (Ok (Part count)) holds = holds
IfPart (Ok (Last count)) holds = Unit {0}
IfPart (Err e) holds = Unit {0}

-- as much of a line as is kept: one byte more than a line may have
abbrev pub kept_of : List ℕ → List ℕ
kept_of line = take 4097 line

-- a line that ended with a byte 10, where `before` keys counted and `after` still do
pub record TookEnded (old new : List ℕ) (before after : ℕ) (line : List ℕ) : Type 0 where
  pub whole : List ℕ
  pub unbroken : IsUnbroken whole
  pub split : old ≡ whole ++ 10 ∷ new
  pub counted : length whole + 1 + after ≡ before
  pub kept : line ≡ kept_of whole

-- the keys that count are at their end: this is what was left of them
pub record TookRest (old new : List ℕ) (before after : ℕ) (whole : List ℕ) : Type 0 where
  pub unbroken : IsUnbroken whole
  pub is : take before old ≡ whole
  pub rest : new ≡ drop before old
  pub spent : after ≡ 0

pub record TookLast (old new : List ℕ) (before after : ℕ) (line : List ℕ) : Type 0 where
  pub whole : List ℕ
  pub some : whole ≢ []
  pub took : TookRest old new before after whole
  pub kept : line ≡ kept_of whole

-- a line that ended, or the last one
abbrev pub TookWhole : List ℕ → List ℕ → ℕ → ℕ → List ℕ → Type 0
TookWhole old new before after line = TookEnded old new before after line ⊎ TookLast old new before after line

-- a part of a line was taken
pub record TookPart (old new : List ℕ) (before : ℕ) : Type 0 where
  pub part : List ℕ
  pub unbroken : IsUnbroken part
  pub split : old ≡ part ++ new
  pub counted : length part ≤ before
  pub some : 0 < before

-- what was taken of a line, with so many bytes of it kept at the front of the buffer
abbrev pub TookLine : List ℕ → List ℕ → ℕ → ℕ → List ℕ → Result (Option ℕ) Fault → Type 0
TookLine old new before after buf (Ok (Some kept)) = TookWhole old new before after (take kept buf)
TookLine old new before after buf (Ok None) = TookRest old new before after []
TookLine old new before after buf (Err e) = TookPart old new before

-- bytes that are shown: all of them at Ok, a prefix where the display failed, else none
pub record ShownAll (bytes : List ℕ) (old new : Taped) (result : Result (Unit {0}) Fault) : Type 0 where
  pub some : IsFirstOf (shown_events bytes) (added old new)
  pub ok : OnOk result (added old new ≡ shown_events bytes)
  pub none : IfErr result (λ fault. fault ≢ Display → added old new ≡ [])
