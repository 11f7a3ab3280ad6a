use Rattle.std.proofs.Common.{◌∙◌, ap, arith, subst, sym, Err, inl, inr, refl}
use Rattle.disk_records.specs.Packs.{Pack, carried}
use Rattle.disk_records.specs.Tapes.{pack}
use Rattle.disk_records.proofs.Looking.{looks_pack}
use Rattle.hint_cache.specs.declared.cache.Entry.{Entry}
use Rattle.laws_lookup.specs.laws_record.proofs.Copying.{place_carried}
use Rattle.page_seeking.specs.Inside.{NamesEnd}
use Rattle.page_seeking.specs.Seeking.{file_length, page_number}
use Rattle.pack_model.specs.hints.Handy.{leader_word}
use Rattle.pack_model.specs.operations.Committing.{page_of_byte}
use Rattle.page_seeking.proofs.Easing.{finds_of}
use Rattle.page_seeking.proofs.Lasting.{few_listed, few_near_end, few_of_last, highest_is, is_last, names_end, names_last}
use Rattle.page_seeking.proofs.Erring.{if_ok_both, if_misled_map, on_ok_thrice}
use Rattle.page_seeking.proofs.Seeking.{confirmed_reached, ends_of, known_before, known_later, known_of, near_before, sought_more, sought_twice}
use Rattle.page_seeking.specs.declared.links.Below.{Below}
use Rattle.page_seeking.proofs.ends.seek_last.Goals as goal

pub returns-in_err-below-clause-sought : goal.returns-in_err-below-clause-sought
returns-in_err-below-clause-sought g c = sought_more (omega arith) (sought_twice c.locate_leader.ensures.sought c.near_end.ensures.sought)

pub returns-clause-sought : goal.returns-clause-sought
returns-clause-sought g c = sought_more (omega arith) (sought_twice (sought_twice c.locate_leader.ensures.sought c.near_end.ensures.sought) c.climb_to_end.ensures.sought)

pub returns-clause-found : goal.returns-clause-found
returns-clause-found g c =
    let leader = c.locate_leader.ensures.sought in
    let both = sought_twice leader c.near_end.ensures.sought in
    let near = near_before leader.looks leader.refused c.in_ok-below.ensures.found in
    if_ok_both c.climb_to_end.result c.climb_to_end.ensures.ends c.climb_to_end.ensures.found (λ last ends found. confirmed_reached both.looks both.refused near ends found)

pub returns-clause-quick : goal.returns-clause-quick
returns-clause-quick g c told quick last_named =
    let old = pack (g.D.Tape.tape c.args.disk.now) in
    let f = c.args.file.now.fid in
    let named = page_of_byte (file_length old f) in
    let confirmed = c.in-Ok.ensures.found in
    let leader = c.locate_leader.ensures.quick c.in-Ok.leader.at told (finds_of quick (confirmed.stands told).carries) in
    let same = looks_pack c.locate_leader.ensures.sought.looks told in
    let ends = names_last quick.whole (confirmed.stands told) last_named in
    let below = c.in_ok-below.ensures.named named told (subst (λ (p : Pack). NamesEnd p f c.locate_leader.new.buf named) (sym same) ends) in
    on_ok_thrice c.climb_to_end.result (c.climb_to_end.ensures.climbs told) c.climb_to_end.ensures.ends (returns-clause-found g c) (λ last climbed at_end found. few_of_last _ quick.whole told same leader (is_last quick.whole told (ends_of at_end found)) refl below climbed)

pub returns-clause-climbs : goal.returns-clause-climbs
returns-clause-climbs g c more told quick near =
    let old = pack (g.D.Tape.tape c.args.disk.now) in
    let f = c.args.file.now.fid in
    let named = leader_word old near.leader_at 254 in
    let confirmed = c.in-Ok.ensures.found in
    let leader = c.locate_leader.ensures.quick c.in-Ok.leader.at told (finds_of quick (confirmed.stands told).carries) in
    let same = looks_pack c.locate_leader.ensures.sought.looks told in
    let ends = names_end quick.whole (confirmed.stands told) near in
    let below = c.in_ok-below.ensures.named named told (subst (λ (p : Pack). NamesEnd p f c.locate_leader.new.buf named) (sym same) ends) in
    on_ok_thrice c.climb_to_end.result (c.climb_to_end.ensures.climbs told) c.climb_to_end.ensures.ends (returns-clause-found g c) (λ last climbed at_end found. few_near_end more _ quick.whole told same leader (is_last quick.whole told (ends_of at_end found)) near.near below c.climb_to_end.ensures.sought.looks.alone.grown.runs climbed)

pub returns-clause-near : goal.returns-clause-near
returns-clause-near g c told quick listed =
    let old = pack (g.D.Tape.tape c.args.disk.now) in
    let f = c.args.file.now.fid in
    let confirmed = c.in-Ok.ensures.found in
    let leader = c.locate_leader.ensures.quick c.in-Ok.leader.at told (finds_of quick (confirmed.stands told).carries) in
    let looks = c.locate_leader.ensures.sought.looks in
    let same = looks_pack looks told in
    let entry : Entry = record { page = page_number f (page_of_byte (file_length old f)); at = listed.at } in
    let highest = highest_is c.args.cache.now.entries f 65535 entry c.highest_below-highest.result c.highest_below-highest.ensures.some c.highest_below-highest.ensures.none listed.highest in
    let carries = place_carried old entry.page listed.at listed.placed in
    let below = c.in_ok-below.ensures.near entry told highest (omega arith) (ap (λ (p : Pack). carried p listed.at) same ∙ carries) in
    let known = known_before looks (c.in_ok-below.ensures.known told (known_later looks (known_of confirmed))) in
    let runs = below.1 in
    on_ok_thrice c.climb_to_end.result (c.climb_to_end.ensures.climbs told) c.climb_to_end.ensures.ends (returns-clause-found g c) (λ last climbed at_end found. few_listed _ quick.whole told (is_last quick.whole told (ends_of at_end found)) known below.0 (omega (arith, leader, runs)) climbed)

pub returns-in-Err-clause-hint : goal.returns-in-Err-clause-hint
returns-in-Err-clause-hint g c = if_misled_map {T = Below} (Err c.in-Err.error) c.in-Err.ensures.hint (λ place at wanted found x. inl x)

pub returns-clause-hint : goal.returns-clause-hint
returns-clause-hint g c = if_misled_map c.climb_to_end.result c.climb_to_end.ensures.link (λ place at wanted found x. inr x)
