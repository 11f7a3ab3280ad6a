-- One sector more that formatting has written, and what is so at its end.
use Rattle.std.proofs.Common.{◌≡◌, ℕ, zero, suc, ◌+◌, ◌*◌, ◌<◌, ◌≤◌, List, [], ◌∷◌, ◌++◌, length, take, drop, Result, Ok, Err, refl, sym, ap, subst, ◌∙◌, arith}
use Rattle.std.proofs.lemmas.List.{length-take, take_all}
use Rattle.disk_records.specs.declared.records.Event.{Event}
use Rattle.disk_records.specs.declared.records.Sector.{Sector}
use Rattle.disk_records.specs.Addresses.{pages_of}
use Rattle.disk_records.specs.Events.{IsFirstOf}
use Rattle.disk_records.specs.Packs.{Pack, after, sector_at}
use Rattle.disk_records.specs.Tapes.{Taped, DiskAlone, added, pack}
use Rattle.disk_records.proofs.FirstOnes.{first_all, first_front, first_then}
use Rattle.disk_records.proofs.Growing.{added-twice, length-pack, pack-after}
use Rattle.pack_model.specs.sessions.Format.{format_writes, formatted, sector_writes, sectors_writes}
use Rattle.laws_format.proofs.formatted.Laws.{formatted_descriptor_fits, formatted_pack_begins_a_session, formatted_pack_has_free_sectors, formatted_pack_is_empty, formatted_pack_shows_nothing, formatting_goes_on, formatting_leaves_its_pack}
use Rattle.disk_descriptor.specs.declared.errors.FormatError.{FormatError}
use Rattle.disk_descriptor.specs.declared.errors.FormatError.TheVariants.{Memory}
use Rattle.disk_descriptor.specs.Formatting.{IsFormatted}
use Rattle.disk_descriptor.specs.Writing.{Writes}

-- ---- record writes of whole sectors
-- three each
writes_many : (at : ℕ) (sectors : List Sector) → length (sectors_writes at sectors) ≡ 3 * length sectors
writes_many at [] = refl
writes_many at (s ∷ sectors) = let e = writes_many (suc at) sectors in omega arith

-- of the first sectors, and then of the others
writes_split : (at k : ℕ) (sectors : List Sector) → sectors_writes at sectors ≡ sectors_writes at (take k sectors) ++ sectors_writes (at + k) (drop k sectors)
writes_split at zero sectors = let z : at ≡ at + 0 = omega arith in ap (λ n. sectors_writes n sectors) z
writes_split at (suc k) [] = refl
writes_split at (suc k) (s ∷ sectors) =
    let z : suc at + k ≡ at + suc k = omega arith in
    ap (λ es. sector_writes at s ++ es) (writes_split (suc at) k sectors ∙ ap (λ n. sectors_writes (suc at) (take k sectors) ++ sectors_writes n (drop k sectors)) z)

module _ {x y z : Taped} (number moment at : ℕ) (s : Sector) (first : DiskAlone x y) (next : DiskAlone y z) (low : at < pages_of x.form)
    (wrote : added x y ≡ sectors_writes 0 (take at (formatted x.form number moment).sectors)) (is : s ≡ sector_at (formatted x.form number moment) at) where
  abbrev p : Pack
  p = formatted x.form number moment

  many : length p.sectors ≡ pages_of x.form
  many = (formatted_pack_has_free_sectors x.form number moment).each_sector

  both : added x z ≡ added x y ++ added y z
  both = added-twice first.grown next.grown

  -- one sector more
  pub more_written : added y z ≡ sector_writes at s → added x z ≡ sectors_writes 0 (take (at + 1) p.sectors)
  more_written now =
      both ∙ (λ i. wrote i ++ now i) ∙ ap (λ t. sectors_writes 0 (take at p.sectors) ++ sector_writes at t) is ∙ sym (formatting_goes_on x.form number moment at low)

  -- it broke off at this sector
  pub broke_off : {T U : Type 0} (error : FormatError) (result : Result U FormatError) → result ≡ Err error → y.runs ≤ x.runs + at → Writes {T = T} Memory (sector_writes at s) 1 y z (Err error) → Writes {T = U} Memory (format_writes x.form number moment) (pages_of x.form) x z result
  broke_off {U} error result is_err ran broken =
      let rest : List Event = sectors_writes (0 + (at + 1)) (drop (at + 1) p.sectors) in
      let front : IsFirstOf (sectors_writes 0 (take at p.sectors) ++ sector_writes at s) (added x y ++ added y z) = first_then (sectors_writes 0 (take at p.sectors)) (sector_writes at s) (added x y) (added y z) wrote broken.some in
      let goes : sectors_writes 0 (take at p.sectors) ++ sector_writes at s ≡ sectors_writes 0 (take (at + 1) p.sectors) = ap (λ t. sectors_writes 0 (take at p.sectors) ++ sector_writes at t) is ∙ sym (formatting_goes_on x.form number moment at low) in
      let all : sectors_writes 0 (take (at + 1) p.sectors) ++ rest ≡ format_writes x.form number moment = sym (writes_split 0 (at + 1) p.sectors) in
      subst (Writes {T = U} Memory (format_writes x.form number moment) (pages_of x.form) x z) (sym is_err) (record {
        some = subst (λ ws. IsFirstOf ws (added x z)) all (first_front (sectors_writes 0 (take (at + 1) p.sectors)) rest (added x z) (subst (λ ws. IsFirstOf ws (added x z)) goes (subst (IsFirstOf (sectors_writes 0 (take at p.sectors) ++ sector_writes at s)) (sym both) front)));
        ok = tt;
        want = λ memory.
            let same : error ≡ Memory = cc in
            let short = broken.want (ap Err same) in
            let kept = first.grown.spare in
            let done = ap length wrote ∙ writes_many 0 (take at p.sectors) in
            let cut = length-take at p.sectors in
            let whole = writes_many 0 p.sectors in
            omega (arith, short, kept, done, cut, whole, many);
        runs = let once = broken.runs in omega arith;
      })

-- ---- the end
module _ {x y : Taped} (number moment : ℕ) (alone : DiskAlone x y) (ran : y.runs ≤ x.runs + pages_of x.form) (wrote : added x y ≡ sectors_writes 0 (take (pages_of x.form) (formatted x.form number moment).sectors)) where
  abbrev q : Pack
  q = formatted x.form number moment

  all_written : added x y ≡ format_writes x.form number moment
  all_written =
      let many = (formatted_pack_has_free_sectors x.form number moment).each_sector in
      wrote ∙ ap (sectors_writes 0) (take_all (pages_of x.form) q.sectors (omega (arith, many)))

  pub done_whole : (free : ℕ) → Writes Memory (format_writes x.form number moment) (pages_of x.form) x y (Ok free)
  done_whole free = record {
    some = subst (IsFirstOf (format_writes x.form number moment)) (sym all_written) (first_all (format_writes x.form number moment));
    ok = all_written;
    want = λ memory. absurd cc;
    runs = ran;
  }

  pub leaves_its_pack : length x.base ≡ pages_of x.form → IsFormatted x.form number moment (pack y)
  leaves_its_pack sized =
      let is : pack y ≡ q = pack-after alone.grown ∙ (λ i. after (pack x) (all_written i)) ∙ formatting_leaves_its_pack (pack x) number moment (length-pack x ∙ sized) in
      subst (IsFormatted x.form number moment) (sym is) (record {
        pack_is = refl;
        begins = formatted_pack_begins_a_session x.form number moment;
        empty = formatted_pack_is_empty x.form number moment;
        shows_nothing = formatted_pack_shows_nothing x.form number moment;
        describes = formatted_descriptor_fits x.form number moment;
        frees = formatted_pack_has_free_sectors x.form number moment;
      })
