-- The highest page of a file among entries, taken one after another.
use Rattle.std.specs.Prelude.{ℕ, nat_lt, ◌&&◌, Bool, cond, Option, Some, None}
use Rattle.alto_words.specs.declared.fid.Fid.{Fid}
use Rattle.alto_words.specs.Fid.{is_fid}
use Rattle.disk_records.specs.declared.records.Page.{Page}
use Rattle.hint_cache.specs.declared.cache.Entry.{Entry}

-- whether this is a page of this file below this number
abbrev pub is_below : Fid → ℕ → Page → Bool
is_below fid number page = is_fid page.fid fid && nat_lt page.number number

-- the entry with the higher page: this one, or the one so far
abbrev pub higher : Option Entry → Entry → Option Entry
higher None entry = Some entry
higher (Some best) entry = cond (nat_lt best.page.number entry.page.number) (Some entry) (Some best)

-- the highest so far, after one entry more
abbrev pub highest_after : Fid → ℕ → Option Entry → Entry → Option Entry
highest_after fid number best entry = cond (is_below fid number entry.page) (higher best entry) best
