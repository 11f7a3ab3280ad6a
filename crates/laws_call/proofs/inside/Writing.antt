-- All record writes of an operation do what it does.
use Rattle.std.proofs.Common.{List, [], subst, ℕ, ◌%◌}
use Rattle.laws_hint.specs.disk_records.specs.Packs.{sector_at}
use Rattle.laws_call.proofs.inside.Acting.{acts_of_each_operation}
use Rattle.laws_call.specs.Acting.{Acts}
use Rattle.laws_call.specs.WritingLaws.{WrittenActs}
use Rattle.laws_call.specs.Writing.{cuts, drops, entering_writes, enters, grows, leaves, makes, puts, stamps, titles, widens}
use Rattle.laws_hint.specs.laws_operation.proofs.drop.Laws.{slot_words_fit}
use Rattle.laws_hint.specs.laws_operation.proofs.enter.Laws.{enter_words_fit}
use Rattle.laws_hint.specs.laws_operation.proofs.leave.Laws.{leave_words_fit}
use Rattle.laws_hint.specs.laws_operation.proofs.put.Laws.{put_past_words_fit}
use Rattle.laws_hint.specs.laws_operation.proofs.stamp.Laws.{stamp_words_fit}
use Rattle.laws_hint.specs.laws_operation.proofs.title.Laws.{title_words_fit}
use Rattle.laws_hint.specs.laws_operation.specs.DirectoryWords.{left_in}
use Rattle.laws_hint.specs.pack_model.specs.operations.Committing.{page_of_byte}
use Rattle.laws_hint.specs.pack_model.specs.operations.PageWords.{entered_words, put_value, stamped_value, titled_value}
use Rattle.laws_hint.specs.pack_model.specs.operations.Step.Operation.{enter}

pub written_acts : WrittenActs
written_acts p o claimed released writes w t (puts {f = f} {offset = offset} {at = at} {new = new} {past = past} can past_end) =
    (acts_of_each_operation p w t).puts f offset new at (put_value (offset % 512) new past (sector_at p at).value) (put_past_words_fit p f offset new past at w can past_end)
written_acts p o claimed released writes w t (grows {f = f} {new = new} {past = past} {fresh = fresh} {b = b} {at = at} file can) = (acts_of_each_operation p w t).grows f b new past fresh at file can
written_acts p o claimed released writes w t (cuts {f = f} {n = n} {at = at} {later = later} can) = (acts_of_each_operation p w t).cuts f n at later can
written_acts p o claimed released writes w t (titles {f = f} {name = name} {at = at} can stored) =
    (acts_of_each_operation p w t).titles f name at (titled_value name (sector_at p at).value) (title_words_fit p f name at can stored)
written_acts p o claimed released writes w t (stamps {f = f} {moment = moment} {at = at} {last_at = last_at} {b = b} can size last) =
    (acts_of_each_operation p w t).stamps f moment at (stamped_value moment last_at (page_of_byte b) (b % 512) (sector_at p at).value) (stamp_words_fit p f moment at last_at (page_of_byte b) (b % 512) w can)
written_acts p o claimed released writes w t (makes {f = f} {name = name} {moment = moment} {leader_at = leader_at} {page_at = page_at} can) = (acts_of_each_operation p w t).makes f name moment leader_at page_at can
written_acts p o claimed released writes w t (drops {f = f} {d = d} {at = at} {slot_at = slot_at} {pages = pages} {own = own} {a = a} {b = b} may has) =
    (acts_of_each_operation p w t).drops f at pages d slot_at a b own may (slot_words_fit p d slot_at a b f own has)
written_acts p o claimed released writes w t (leaves {f = f} {d = d} {name = name} {own = own} {at = at} {a = a} {b = b} has same no_system) =
    (acts_of_each_operation p w t).leaves d name at a b f own (leave_words_fit p d name at a b f own has same no_system)
written_acts p o claimed released writes w t (enters {f = f} {d = d} {name = name} {r = r} {leader_at = leader_at} {at = at} {next_at = next_at} can leader) =
    let words : List ℕ = entered_words f leader_at name (left_in r name) in
    let there = enter_words_fit p d name f leader_at r at next_at can in
    subst (λ room. Acts p (enter d name f) [] [] (entering_writes p room words)) there.room ((acts_of_each_operation p w t).enters d name f there.before there.old there.behind (left_in r name) words at next_at there.may leader)
written_acts p o claimed released writes w t (widens {d = d} {past = past} {fresh = fresh} {b = b} {at = at} directory can) = (acts_of_each_operation p w t).widens d b past fresh at directory can
