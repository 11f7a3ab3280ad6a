-- The last page that a leader names, where record writes leave all files but another one as they were.
use Rattle.std.proofs.Common.{◌≡◌, ◌∙◌, ◌+◌, ◌≤◌, ℕ, Some, List, false, ap, length, subst, sym}
use Rattle.laws_call.specs.alto_words.specs.declared.fid.Fid.{Fid}
use Rattle.laws_call.specs.alto_words.specs.Fid.{is_fid}
use Rattle.laws_call.specs.disk_records.specs.Packs.{Pack, sector_at}
use Rattle.laws_call.specs.disk_records.specs.Words.{word}
use Rattle.laws_call.specs.disk_records.specs.declared.records.Sector.{Sector}
use Rattle.laws_call.specs.laws_lookup.specs.OtherLaws.{LeavesOthers}
use Rattle.laws_call.specs.pack_model.specs.hints.Handy.{last_at_word, last_number_word, leader_word}
use Rattle.laws_call.specs.pack_model.specs.operations.Committing.{page_of_byte}
use Rattle.laws_call.specs.pack_model.specs.reading.Files.{place}
use Rattle.laws_call.specs.pack_model.specs.reading.Sights.{sights}
use Rattle.page_seeking.specs.Seeking.{NamedNearEnd, file_length}

pub named_page_stays : (p q : Pack) (f g : Fid) (more : ℕ) → LeavesOthers f p q → is_fid g f ≡ false → NamedNearEnd p g more → NamedNearEnd q g more
named_page_stays p q f g more others apart named =
    let same : sector_at p named.leader_at ≡ sector_at q named.leader_at = sym (others.sectors g 0 named.leader_at apart named.leader) in
    let said : (n : ℕ) → leader_word p named.leader_at n ≡ leader_word q named.leader_at n = λ (n : ℕ). ap (λ (s : Sector). word s.value n) same in
    let number = said last_number_word in
    record {
      leader_at = named.leader_at;
      leader = others.places g 0 apart ∙ named.leader;
      first = subst (λ (n : ℕ). 1 ≤ n) number named.first;
      at = ap (place (sights q) g) (sym number) ∙ others.places g (leader_word p named.leader_at last_number_word) apart ∙ named.at ∙ ap Some (said last_at_word);
      near = subst (λ (b : List ℕ). page_of_byte (length b) ≤ leader_word q named.leader_at last_number_word + more) (sym (others.bytes g apart)) (subst (λ (n : ℕ). page_of_byte (file_length p g) ≤ n + more) number named.near);
    }
