-- The law of a put: a value write with bytes in their place makes the put of the living files.
use Rattle.std.proofs.Common.{All, List, [], ap, arith, length, min, refl, set, subst, sym, take, ℕ, ◌%◌, ◌+◌, ◌/◌, ◌<◌, ◌∙◌, ◌∷◌, ◌≡◌, ◌≤◌}
use Rattle.std.proofs.lemmas.List.{length-take}
use Rattle.pack_model.specs.alto_words.specs.declared.fid.Fid.{Fid}
use Rattle.pack_model.specs.disk_records.specs.declared.records.Event.TheVariants.{Wrote}
use Rattle.pack_model.specs.disk_records.specs.Labels.{tag}
use Rattle.pack_model.specs.disk_records.specs.Packs.{Pack, after, sector_at}
use Rattle.pack_model.specs.reading.Bytes.{bytes_of, put_at, words_of}
use Rattle.pack_model.specs.reading.Sights.{sights}
use Rattle.pack_model.specs.reading.Sights.Sight.{hidden, holds}
use Rattle.pack_model.specs.reading.Stored.{files_shown, stored_files, stored_put}
use Rattle.pack_model.specs.sessions.Moves.{Obeys}
use Rattle.pack_model.specs.sessions.Moves.Obeys.{rest, write}
use Rattle.pack_model.specs.operations.Puts.{Put, WritesValue, putting}
use Rattle.pack_laws.specs.PutLaws.{StaysWithin}
use Rattle.pack_laws.proofs.Bytes.{bytes_of-put, take-put_at}
use Rattle.pack_laws.proofs.Sighted.{ShowsPage, length-sights, shows_page, sights-get, sights-write, value_shown}
use Rattle.pack_laws.proofs.Placing.{IsPageAt, data_page_of_place, short_pages}
use Rattle.pack_laws.proofs.Paging.{page_fits, put_shown}

-- the sector with bytes in place in its value shows its page with these bytes in place
pub value_put : (p : Pack) (at n r : ℕ) (f : Fid) (new : List ℕ) (h : IsPageAt (sights p) f n at) → r + length new ≤ length h.bytes → All (λ b. b < 256) new
    → sights (after p (Wrote at 2 (words_of (put_at r new (bytes_of (sector_at p at).value))) ∷ [])) ≡ set (sights p) at (holds f n (put_at r new h.bytes))
value_put p at n r f new h fits below =
    let l : at < length p.sectors = subst (λ k. at < k) (length-sights p) h.within in
    let s = sector_at p at in
    let shows : ShowsPage p.shape at s f n h.bytes = shows_page p.shape at s f n h.bytes (sym (sights-get p at hidden l) ∙ h.shows hidden) in
    let count : ℕ = (tag s.label).bytes in
    let size : length h.bytes ≡ min count (length (bytes_of s.value)) = ap length shows.bytes_are ∙ length-take count (bytes_of s.value) in
    sights-write p at 2 (words_of (put_at r new (bytes_of s.value)))
    ∙ ap (set (sights p) at)
    (value_shown p.shape at s f n h.bytes (words_of (put_at r new (bytes_of s.value))) shows
    ∙ ap (λ b. holds f n (take count b)) (bytes_of-put r new s.value (omega arith) below)
    ∙ ap (holds f n)
    (take-put_at count r new (bytes_of s.value) (subst (λ b. r + length new ≤ length b) shows.bytes_are fits)
    ∙ ap (put_at r new) (sym shows.bytes_are)))

-- The living files after the write are those before it, with the bytes put in place.
pub value_puts : (p : Pack) (at part : ℕ) (words : List ℕ) (put : Put) → StaysWithin p put → WritesValue p at part words put → stored_files (after p (Wrote at part words ∷ [])) ≡ stored_put (stored_files p) put.fid put.offset put.bytes
value_puts p at part words put w v =
    let h = data_page_of_place (sights p) put.fid (put.offset / 512) at v.bears in
    let short = short_pages p put.fid in
    let fits = page_fits (sights p) put.fid at put.offset put.bytes h short w.some w.page w.file in
    ap (λ n. stored_files (after p (Wrote at n words ∷ []))) v.value_alone
    ∙ ap (λ x. stored_files (after p (Wrote at 2 x ∷ []))) v.value
    ∙ ap files_shown (value_put p at (put.offset / 512) (put.offset % 512) put.fid put.bytes h fits w.are_bytes)
    ∙ put_shown (sights p) put.fid at put.offset put.bytes h short w.some w.page w.file

-- so the write makes the put
pub value_write_is_the_put : (p : Pack) (at part : ℕ) (words : List ℕ) (put : Put) → StaysWithin p put → WritesValue p at part words put → Obeys putting (stored_files p) p (Wrote at part words ∷ []) (put ∷ [])
value_write_is_the_put p at part words put w v = write refl v (rest (value_puts p at part words put w v))
