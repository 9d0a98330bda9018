-- Four lines are read, and then one form a turn.
use Rattle.std.proofs.Common.{◌≡◌, ◌+◌, None, Ok, Err, vec_items, sym, ap, ◌∙◌, arith, rules, tests, length-drop}
use Rattle.std.proofs.lemmas.Iterator.Consumers.{YieldsList-turn, YieldsList-end}
use Rattle.std.proofs.lemmas.Result.{err_from_is_err_and}
use Rattle.std.proofs.lemmas.List.{length_push}
use Rattle.std.specs.Option.{ok_or}
use Rattle.tell.specs.Faults.{wrong}
use Rattle.script.specs.Lines.{lines_of}
use Rattle.script.proofs.Bodies.{from-none, turn-place, turn-more, turn-wrong, turns-all}
use Rattle.script.proofs.Cuts.{lines-few, four-lines, numbered}
use Rattle.script.proofs.parse.read_lines.Goals as goal

pub returns-in_err-head : goal.returns-in_err-head
returns-in_err-head c =
    let opened =
    four-lines _ c.args.text.now _ _ _ _ _ _ _ _ _ _ _ _ _ _
    c.next.ensures.steps c.unwrap_or_default-one.ensures c.next-2.ensures.steps c.unwrap_or_default-two.ensures
    c.next-3.ensures.steps c.unwrap_or_default-three.ensures c.next-4.ensures.steps c.unwrap_or_default-four.ensures c.in_err-head.ensures
    c.split_inclusive-lines.ensures.rest _ c.split_inclusive-lines.ensures.closure (λ x b q k. search (rules, tests)) in
    let p = err_from_is_err_and c.from_residual.result c.from_residual.ensures.1 in
    rw (p.1, p.2) opened.plan

pub overflow_add-number : goal.overflow_add-number
overflow_add-number c =
    let opened =
    four-lines _ c.args.text.now _ _ _ _ _ _ _ _ _ _ _ _ _ _
    c.next.ensures.steps c.unwrap_or_default-one.ensures c.next-2.ensures.steps c.unwrap_or_default-two.ensures
    c.next-3.ensures.steps c.unwrap_or_default-three.ensures c.next-4.ensures.steps c.unwrap_or_default-four.ensures c.in_ok-head.ensures
    c.split_inclusive-lines.ensures.rest _ c.split_inclusive-lines.ensures.closure (λ x b q k. search (rules, tests)) in
    let lines = numbered _ c.args.text.now c.next-4.new.self _ c.into_iter-index-iterator.result opened (cc) (cc) in
    let turn = YieldsList-turn lines c.loop-index.yielded c.loop-index.index-iterator c.loop-index.yielded_by _ _ (c.in-Some.index, c.in-Some.line) c.in-Some.is c.next-in-loop-index.ensures.steps in
    let place = turn-place _ _ _ _ turn in
    omega (arith, place.0, place.1, lines-few c.args.text.now, length-drop 4 (lines_of c.args.text.now))

pub returns-in_err-form : goal.returns-in_err-form
returns-in_err-form c =
    let opened =
    four-lines _ c.args.text.now _ _ _ _ _ _ _ _ _ _ _ _ _ _
    c.next.ensures.steps c.unwrap_or_default-one.ensures c.next-2.ensures.steps c.unwrap_or_default-two.ensures
    c.next-3.ensures.steps c.unwrap_or_default-three.ensures c.next-4.ensures.steps c.unwrap_or_default-four.ensures c.in_ok-head.ensures
    c.split_inclusive-lines.ensures.rest _ c.split_inclusive-lines.ensures.closure (λ x b q k. search (rules, tests)) in
    let lines = numbered _ c.args.text.now c.next-4.new.self _ c.into_iter-index-iterator.result opened (cc) (cc) in
    let turn = YieldsList-turn lines c.loop-index.yielded c.loop-index.index-iterator c.loop-index.yielded_by _ _ (c.in-Some.index, c.in-Some.line) c.in-Some.is c.next-in-loop-index.ensures.steps in
    let p = err_from_is_err_and c.from_residual-in_err-form.result c.from_residual-in_err-form.ensures.1 in
    let error = c.in_err-form.ensures in
    let none : Err c.in_err-form.field-0.0 ≡ ok_or None c.wrong_line.result = error.value ∙ ap (λ o. ok_or o c.wrong_line.result) error.ok_part in
    let fault : c.in_err-form.field-0.0 ≡ wrong (c.in-Some.index + 5) = cc (none, c.wrong_line.ensures) in
    rw (p.1, p.2) (ap (λ e. Err e) fault
    ∙ turn-wrong _ _ _ _ _ _ _ _ turn (sym c.read_form.ensures ∙ error.ok_part) c.loop-index.invariant.1
    ∙ from-none c.in_ok-head.head _ ∙ opened.plan)

pub loop-index-preserved : goal.loop-index-preserved
loop-index-preserved c =
    let opened =
    four-lines _ c.args.text.now _ _ _ _ _ _ _ _ _ _ _ _ _ _
    c.next.ensures.steps c.unwrap_or_default-one.ensures c.next-2.ensures.steps c.unwrap_or_default-two.ensures
    c.next-3.ensures.steps c.unwrap_or_default-three.ensures c.next-4.ensures.steps c.unwrap_or_default-four.ensures c.in_ok-head.ensures
    c.split_inclusive-lines.ensures.rest _ c.split_inclusive-lines.ensures.closure (λ x b q k. search (rules, tests)) in
    let lines = numbered _ c.args.text.now c.next-4.new.self _ c.into_iter-index-iterator.result opened (cc) (cc) in
    let turn = YieldsList-turn lines c.loop-index.yielded c.loop-index.index-iterator c.loop-index.yielded_by _ _ (c.in-Some.index, c.in-Some.line) c.in-Some.is c.next-in-loop-index.ensures.steps in
    let kept = c.in_ok-keep.ensures in (
      kept.head ∙ c.loop-index.invariant.0,
      turn-more _ _ _ _ _ _ _ _ _ _ _ _ turn (length_push c.loop-index.yielded (c.in-Some.index, c.in-Some.line)) (sym c.read_form.ensures ∙ c.in_ok-form.ensures.ok_part)
          kept.sends kept.turns c.loop-index.invariant.1,
    )

pub returns : goal.returns
returns c =
    let opened =
    four-lines _ c.args.text.now _ _ _ _ _ _ _ _ _ _ _ _ _ _
    c.next.ensures.steps c.unwrap_or_default-one.ensures c.next-2.ensures.steps c.unwrap_or_default-two.ensures
    c.next-3.ensures.steps c.unwrap_or_default-three.ensures c.next-4.ensures.steps c.unwrap_or_default-four.ensures c.in_ok-head.ensures
    c.split_inclusive-lines.ensures.rest _ c.split_inclusive-lines.ensures.closure (λ x b q k. search (rules, tests)) in
    let lines = numbered _ c.args.text.now c.next-4.new.self _ c.into_iter-index-iterator.result opened (cc) (cc) in
    let end = YieldsList-end lines c.loop-index.yielded c.loop-index.index-iterator c.loop-index.yielded_by _ _ c.in-None.is c.next-in-loop-index.ensures.steps in
    ap (λ h. Ok (record { head = h; sends = vec_items c.loop-index.script.sends; turns = vec_items c.loop-index.script.turns })) c.loop-index.invariant.0
    ∙ turns-all _ _ _ _ _ _ end.1 c.loop-index.invariant.1 ∙ from-none c.in_ok-head.head _ ∙ opened.plan
