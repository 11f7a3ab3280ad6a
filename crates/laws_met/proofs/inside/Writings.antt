-- The premises of calls on the pack with two files and a directory.
use Rattle.std.proofs.Common.{◌≡◌, ◌==◌, ◌&&◌, Bool, true, List, [], ◌∷◌, length, refl, sym, ap, arith}
use Rattle.std.proofs.lemmas.Bool.{eqb-true}
use Rattle.std.proofs.lemmas.List.Elements.{All-cons, All-nil}
use Rattle.std.specs.List.{list_all}
use Rattle.std.specs.Prelude.{All}
use Rattle.laws_steps.specs.alto_words.specs.Names.{is_stored_name}
use Rattle.laws_steps.specs.disk_records.specs.Addresses.{real_of}
use Rattle.laws_steps.specs.disk_records.specs.Labels.{in_range, is_free}
use Rattle.laws_steps.specs.disk_records.specs.Packs.{AreFormed, IsFormed}
use Rattle.laws_steps.specs.disk_records.specs.declared.records.Sector.{Sector}
use Rattle.laws_steps.specs.pack_model.specs.hints.Handy.{CachedAt}
use Rattle.laws_steps.specs.pack_model.specs.reading.Files.{file_bytes, first, joined, most_pages}
use Rattle.laws_steps.specs.pack_model.specs.reading.Leaders.{is_readable, leader_name, leader_of}
use Rattle.laws_steps.specs.pack_model.specs.reading.Model.{read_sights}
use Rattle.laws_steps.specs.pack_model.specs.reading.Sights.{sight, sights_from}
use Rattle.laws_steps.specs.laws_record.proofs.Heads.{and_left, and_right}
use Rattle.laws_steps.specs.laws_contents.proofs.pages.Laws.{formed_pages_have_256_words}
use Rattle.laws_steps.specs.laws_call.specs.Writing.{cuts, drops, grows, leaves, makes, puts, stamps, titles, widens}
use Rattle.laws_steps.specs.laws_midway.proofs.made.Laws.{handy_after_make}
use Rattle.laws_steps.specs.laws_midway.specs.MadeLaws.{ListsNewPages}
use Rattle.laws_met.specs.Peopled.{entered_d, file_b, name_b, name_z, numbered_b, peopled}
use Rattle.laws_met.specs.Writings.{MakeIsWritten, NewPagesAreListed, ValuesAreFull, WritingsAreMet, cache_b}
use Rattle.laws_met.proofs.inside.Changing.{entry_a}
use Rattle.laws_met.proofs.inside.FactsD.{entered_session}
use Rattle.laws_met.proofs.inside.LineD.{stands_d}
use Rattle.laws_met.proofs.inside.Meeting.{ordinary_a, premises_are_met}
use Rattle.laws_met.proofs.inside.Meets.{premises_are_met_in_lines}
use Rattle.laws_met.proofs.inside.Operating.{Stands, stands_numbered}

-- ---- record writes
z_is_stored : is_stored_name name_z ≡ true
unfolding is_stored_name
z_is_stored = refl

pub writings_are_met : WritingsAreMet
writings_are_met =
    let m = premises_are_met in
    record {
      puts = puts m.can_put_last m.past_the_end;
      grows = grows ordinary_a m.can_grow;
      cuts = cuts m.can_cut;
      titles = titles m.can_write_leader z_is_stored;
      stamps = stamps {b = 600} m.can_write_leader (sym (ap length m.bytes)) m.pages.1.1.0;
      leaves = leaves m.has_entry refl refl;
      drops = drops m.may_drop entry_a;
      widens = widens refl m.can_widen;
    }

pub make_is_written : MakeIsWritten
make_is_written = makes premises_are_met_in_lines.can_make

-- ---- values
abbrev formed : Sector → Bool
formed s = length s.header == 2 && length s.label == 8 && length s.value == 256

formed_is : (s : Sector) → formed s ≡ true → IsFormed s
formed_is s e =
    let front = and_left (length s.header == 2 && length s.label == 8) (length s.value == 256) e in
    record {
      header = eqb-true (length s.header) 2 (and_left (length s.header == 2) (length s.label == 8) front);
      label = eqb-true (length s.label) 8 (and_right (length s.header == 2) (length s.label == 8) front);
      value = eqb-true (length s.value) 256 (and_right (length s.header == 2 && length s.label == 8) (length s.value == 256) e);
    }

formed_all : (ss : List Sector) → list_all formed ss ≡ true → All IsFormed ss
formed_all [] e = All-nil IsFormed
formed_all (s ∷ ss) e = All-cons IsFormed s ss (formed_is s (and_left (formed s) (list_all formed ss) e)) (formed_all ss (and_right (formed s) (list_all formed ss) e))

each_formed : list_all formed peopled.sectors ≡ true
unfolding sights_from sight real_of in_range is_free leader_of leader_name is_readable is_stored_name first joined most_pages file_bytes read_sights
each_formed = refl

are_formed : AreFormed peopled
are_formed = formed_all peopled.sectors each_formed

pub values_are_full : ValuesAreFull
values_are_full = (are_formed, λ i page e. formed_pages_have_256_words peopled i page are_formed e)

-- ---- a cache
lists_b : ListsNewPages file_b 10 11 cache_b
lists_b =
    let P : CachedAt → Type 0 = λ c. c.0.fid ≡ file_b → (c.0.number ≡ 0 → c.1 ≡ 10) × (c.0.number ≡ 1 → c.1 ≡ 11) in
    All-cons P (record { fid = file_b; number = 0 }, 10) ((record { fid = file_b; number = 1 }, 11) ∷ []) (λ e. (λ z. refl, λ o. absurd (omega (arith, o))))
    (All-cons P (record { fid = file_b; number = 1 }, 11) [] (λ e. (λ z. absurd (omega (arith, z)), λ o. refl)) (All-nil P))

stands_numbered_b : Stands numbered_b
stands_numbered_b = stands_numbered entered_d 4 5 stands_d entered_session.placed (let e = entered_session.last_is in omega arith)

pub new_pages_are_listed : NewPagesAreListed
new_pages_are_listed = record {
  lists = lists_b;
  handy = handy_after_make numbered_b file_b name_b 1000 10 11 cache_b stands_numbered_b.whole stands_numbered_b.tidy premises_are_met_in_lines.can_make lists_b;
}
