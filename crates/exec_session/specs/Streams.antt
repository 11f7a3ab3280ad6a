-- The open streams of a session as they are kept, by rising number.
use Rattle.std.specs.Prelude.{ℕ, ◌+◌, ◌==◌, Bool, false, cond, nat_lt, List, [], ◌∷◌, Option, Some, None}
use Rattle.std.specs.Option.{is_some}
use Rattle.alto_words.specs.declared.fid.Fid.{Fid}
use Rattle.alto_words.specs.Fid.{is_fid}
use Rattle.disk_stream.specs.declared.state.StreamState.{StreamState}
use Rattle.page_seeking.specs.declared.refs.FileRef.{FileRef}
use Rattle.session_model.specs.Keeping.{OpenFile, Ref}

-- a file by the address that a session holds
abbrev pub kept_ref : FileRef → Ref
kept_ref f = record { fid = f.fid; leader_at = f.leader_at; place = f.from }

-- a stream with its number
abbrev pub open_file : ℕ → StreamState → OpenFile
open_file n s = record { number = n; ref = kept_ref s.file; position = s.position; base = s.base; pending = s.pending; put = s.put }

-- those in these slots, of which the first has the number n
abbrev pub numbered : ℕ → List (Option StreamState) → List OpenFile
numbered n [] = []
numbered n (None ∷ slots) = numbered (n + 1) slots
numbered n (Some s ∷ slots) = open_file n s ∷ numbered (n + 1) slots

-- ---- slots
-- a stream of this file stands there
abbrev pub has_file_in : Fid → Option StreamState → Bool
has_file_in f None = false
has_file_in f (Some s) = is_fid s.file.fid f

-- the first that isn't taken, where the first of these has the number n
abbrev pub free_from : ℕ → List (Option StreamState) → Option ℕ
free_from n [] = None
free_from n (None ∷ slots) = Some n
free_from n (Some s ∷ slots) = free_from (n + 1) slots

-- ---- one of them
abbrev pub open_file_at : ℕ → List OpenFile → Option OpenFile
open_file_at n [] = None
open_file_at n (o ∷ os) = cond (o.number == n) (Some o) (open_file_at n os)

abbrev pub is_open_at : ℕ → List OpenFile → Bool
is_open_at n os = is_some (open_file_at n os)

-- a new one, whose number none has
abbrev pub with_file : OpenFile → List OpenFile → List OpenFile
with_file o [] = o ∷ []
with_file o (x ∷ xs) = cond (nat_lt o.number x.number) (o ∷ x ∷ xs) (x ∷ with_file o xs)

abbrev pub without_file : ℕ → List OpenFile → List OpenFile
without_file n [] = []
without_file n (o ∷ os) = cond (o.number == n) os (o ∷ without_file n os)
