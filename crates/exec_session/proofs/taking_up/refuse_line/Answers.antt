use Rattle.std.proofs.Common.{◌≡◌, ◌&&◌, false, not, Some, sym, ap, ◌∙◌}
use Rattle.exec_session.specs.Meant.{kept}
use Rattle.exec_session.specs.Stops.{refused_for}
use Rattle.exec_words.specs.declared.reply.Refusal.TheVariants as refusal
use Rattle.session_model.specs.Keeping.{world_of}
use Rattle.session_model.specs.Refusals.{is_obeyed_in_need}
use Rattle.exec_session.proofs.FirstRefusals.{low_refused, need_refused, needless, none_refuse, obeyed_then, unbuilt_refused, untyped_refused}
use Rattle.exec_session.proofs.taking_up.refuse_line.Goals.{else-session-via-then-session+else-not-is_obeyed_in_need, else-session-via-else-session, then-not-is_built-via-then-not-is_built, then-not-is_built-via-else-not-is_built+then-not-is_typed}
use Rattle.exec_session.proofs.taking_up.refuse_line.Goals as goal

pub returns-then-not-is_built : goal.returns-then-not-is_built
returns-then-not-is_built c =
    let l = c.args.line.now in
    let w = world_of (kept c.args.session.now) in
    elim c.then-not-is_built.branch [
      | then-not-is_built-via-then-not-is_built v ↦ c.refused.ensures ∙ ap refused_for (sym (unbuilt_refused l w (sym c.is_built.ensures ∙ v.if-not-is_built.true)))
      | then-not-is_built-via-else-not-is_built+then-not-is_typed v ↦ c.refused.ensures ∙ ap refused_for (sym (untyped_refused l w (sym c.is_built.ensures ∙ v.if-not-is_built.false) (sym v.is_typed.ensures ∙ v.if-not-is_typed.true)))
    ]

pub returns-then-not-is_obeyed_in_need : goal.returns-then-not-is_obeyed_in_need
returns-then-not-is_obeyed_in_need c =
    c.refused-then-not-is_obeyed_in_need.ensures
    ∙ ap refused_for (sym (need_refused c.args.line.now (world_of (kept c.args.session.now)) (sym c.is_built.ensures ∙ c.if-not-is_built.false) (sym c.is_typed.ensures ∙ c.if-not-is_typed.false) c.if-session.true (sym c.is_obeyed_in_need.ensures ∙ c.if-not-is_obeyed_in_need.true)))

pub returns-then-session-level : goal.returns-then-session-level
returns-then-session-level c =
    let l = c.args.line.now in
    let s = c.args.session.now in
    let unneeded : (s.need && not (is_obeyed_in_need l)) ≡ false = elim c.else-session.branch [
      | else-session-via-then-session+else-not-is_obeyed_in_need v ↦ obeyed_then s.need (is_obeyed_in_need l) v.if-session.true (sym v.is_obeyed_in_need.ensures ∙ v.if-not-is_obeyed_in_need.false)
      | else-session-via-else-session v ↦ needless s.need (is_obeyed_in_need l) v.if-session.false
    ] in
    c.refused-then-session-level.ensures
    ∙ ap (λ n. refused_for (Some (refusal.NoService n))) c.level_of-level.ensures
    ∙ ap refused_for (sym (low_refused l (world_of (kept s)) (sym c.is_built.ensures ∙ c.if-not-is_built.false) (sym c.is_typed.ensures ∙ c.if-not-is_typed.false) unneeded (rw (← c.level_of-level.ensures) c.if-session-level.true)))

pub returns : goal.returns
returns c =
    let l = c.args.line.now in
    let s = c.args.session.now in
    let unneeded : (s.need && not (is_obeyed_in_need l)) ≡ false = elim c.else-session.branch [
      | else-session-via-then-session+else-not-is_obeyed_in_need v ↦ obeyed_then s.need (is_obeyed_in_need l) v.if-session.true (sym v.is_obeyed_in_need.ensures ∙ v.if-not-is_obeyed_in_need.false)
      | else-session-via-else-session v ↦ needless s.need (is_obeyed_in_need l) v.if-session.false
    ] in
    ap refused_for (sym (none_refuse l (world_of (kept s)) (sym c.is_built.ensures ∙ c.if-not-is_built.false) (sym c.is_typed.ensures ∙ c.if-not-is_typed.false) unneeded (rw (← c.level_of-level.ensures) c.if-session-level.false)))
