use Rattle.std.proofs.Common.{◌++◌, ◌<◌, ◌≤◌, length, Some, None, refl, sym, ◌∙◌, ap, subst, arith}
use Rattle.pack_reading.specs.Kept.{page_kept}
use Rattle.pack_reading.proofs.Joins.{Joining, joining_none, joining_missing, joining_last, joining_more, joining_all, kept_here, kept_all, others_left, pages_ahead}
use Rattle.pack_reading.proofs.bytes.join_pages.Goals as goal

pub loop-number-init : goal.loop-number-init
loop-number-init c = record {
  joining = subst (Joining (page_kept c.args.pages.now c.args.fid) 65535 0) (sym c.new-bytes.ensures.items) (joining_none (page_kept c.args.pages.now c.args.fid) 65535);
  ahead = λ n from. refl;
  others = λ f apart n. refl;
}

pub returns-in_default-clause-bytes : goal.returns-in_default-clause-bytes
returns-in_default-clause-bytes c =
    joining_missing (page_kept c.args.pages.now c.args.fid) 65535 c.loop-number.number c.loop-number.bytes.items c.loop-number.invariant.joining c.loop-number-test.true
    (sym (c.loop-number.invariant.ahead c.loop-number.number (omega arith)) ∙ kept_here c.loop-number.pages c.args.fid c.loop-number.number None c.in_default.ensures.value)
    ∙ kept_all c.args.pages.now c.args.fid

pub returns-then-as_slice-clause-bytes : goal.returns-then-as_slice-clause-bytes
returns-then-as_slice-clause-bytes c =
    let less : length c.in-Some.held < 512 = omega (arith, ap length c.as_slice-in-loop-number.ensures, c.if-as_slice.true) in
    c.in_ok-extend_from_slice.ensures.items
    ∙ ap (λ l. c.loop-number.bytes.items ++ l) c.as_slice.ensures
    ∙ joining_last (page_kept c.args.pages.now c.args.fid) 65535 c.loop-number.number c.loop-number.bytes.items c.loop-number.invariant.joining c.in-Some.held c.loop-number-test.true
    (sym (c.loop-number.invariant.ahead c.loop-number.number (omega arith)) ∙ kept_here c.loop-number.pages c.args.fid c.loop-number.number (Some c.in-Some.held) c.in-Some.ensures.value) less
    ∙ kept_all c.args.pages.now c.args.fid

pub loop-number-preserved : goal.loop-number-preserved
loop-number-preserved c =
    let full : 512 ≤ length c.in-Some.held = omega (arith, ap length c.as_slice-in-loop-number.ensures, c.if-as_slice.false) in
    record {
      joining =
          subst (Joining (page_kept c.args.pages.now c.args.fid) 65535 _) (sym (c.in_ok-extend_from_slice.ensures.items ∙ ap (λ l. c.loop-number.bytes.items ++ l) c.as_slice.ensures))
          (joining_more (page_kept c.args.pages.now c.args.fid) 65535 c.loop-number.number c.loop-number.bytes.items c.loop-number.invariant.joining c.in-Some.held c.loop-number-test.true
          (sym (c.loop-number.invariant.ahead c.loop-number.number (omega arith)) ∙ kept_here c.loop-number.pages c.args.fid c.loop-number.number (Some c.in-Some.held) c.in-Some.ensures.value) full);
      ahead = λ n from. pages_ahead c.loop-number.pages (record { kept = c.remove.new.self }) _ c.in-Some.ensures.updates.2 c.args.fid n (λ e. omega (arith, e, from)) ∙ c.loop-number.invariant.ahead n (omega (arith, from));
      others = λ f apart n. others_left c.loop-number.pages (record { kept = c.remove.new.self }) _ c.in-Some.ensures.updates.2 f apart n ∙ c.loop-number.invariant.others f apart n;
    }

pub returns-clause-bytes : goal.returns-clause-bytes
returns-clause-bytes c =
    joining_all (page_kept c.args.pages.now c.args.fid) 65535 c.loop-number.number c.loop-number.bytes.items c.loop-number.invariant.joining c.loop-number-test.false
    ∙ kept_all c.args.pages.now c.args.fid

pub returns-in_err-extend_from_slice-clause-others : goal.returns-in_err-extend_from_slice-clause-others
returns-in_err-extend_from_slice-clause-others c = λ f apart n. others_left c.loop-number.pages (record { kept = c.remove.new.self }) _ c.in-Some.ensures.updates.2 f apart n ∙ c.loop-number.invariant.others f apart n

pub returns-then-as_slice-clause-others : goal.returns-then-as_slice-clause-others
returns-then-as_slice-clause-others c = λ f apart n. others_left c.loop-number.pages (record { kept = c.remove.new.self }) _ c.in-Some.ensures.updates.2 f apart n ∙ c.loop-number.invariant.others f apart n
