-- Each turn cuts one fragment, and after the last all are cut.
use Rattle.std.proofs.Common.{◌++◌, string_bytes, ap, ◌∙◌}
use Rattle.cut.specs.Outcomes.{lines_of, joined_of, outcome_of}
use Rattle.cut.proofs.Turns.{lines_more, joined_more, lines_all, joined_all}
use Rattle.cut.proofs.cutting.cut.Goals as goal

pub loop-number-preserved : goal.loop-number-preserved
loop-number-preserved g c =
    let t = g.C.Carrier.terms in
    let number = g.K.Check.number in
    let message = c.args.message.now in
    let n = c.loop-number.number in
    let cut = c.in_ok-data.ensures in (
      lines_more t number c.args.order message n c.loop-number-test.true _ _ _ cut.line c.loop-number.invariant.0,
      joined_more t number c.args.order message n c.loop-number-test.true _ _ _ _ c.in_ok-stream.ensures cut.value c.loop-number.invariant.1,
    )

pub returns-clause-lines : goal.returns-clause-lines
returns-clause-lines g c =
    let t = g.C.Carrier.terms in
    let number = g.K.Check.number in
    let message = c.args.message.now in
    lines_all t number c.args.order message c.loop-number.number c.loop-number-test.false _ _ c.loop-number.invariant.0
    ∙ ap (λ r. string_bytes c.args.text.now ++ lines_of t number c.args.order message r) c.in-Ok.ensures.value

pub returns-clause-value : goal.returns-clause-value
returns-clause-value g c =
    let t = g.C.Carrier.terms in
    let number = g.K.Check.number in
    let order = c.args.order in
    let message = c.args.message.now in
    let all = joined_all t number order message c.loop-number.number c.loop-number-test.false _ _ c.loop-number.invariant.1 in
    c.outcome_of.ensures
    ∙ ap (joined_of order.serial message) (c.as_deref.ensures.value ∙ all)
    ∙ ap (λ r. outcome_of t number order message r) c.in-Ok.ensures.value
