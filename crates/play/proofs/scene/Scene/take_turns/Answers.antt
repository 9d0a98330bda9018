-- Each turn leaves one turn less.
use Rattle.std.proofs.Common.{vec_items, sym, ap, ◌∙◌}
use Rattle.std.specs.declared.ops.ControlFlow.{ControlFlow}
use Rattle.std.specs.declared.ops.ControlFlow.TheVariants.{Continue, Break}
use Rattle.exchange.specs.Views.{Going}
use Rattle.play.specs.Views.{Left, pair_at, left_at}
use Rattle.play.specs.declared.stage.Stage.{Stage}
use Rattle.play.proofs.Growing.{turns-left, turns-none}
use Rattle.play.proofs.scene.Scene.take_turns.Goals as goal

pub loop-past-preserved : goal.loop-past-preserved
loop-past-preserved g c =
    let l = c.loop-past in
    let as-turn : ControlFlow (Stage g.row.C.Denot g.row.K.Denot) (Going g.row.C.Denot g.row.K.Denot) → Left = λ y. left_at g.F.Air.fates c.take_turn.new.self y in
    turns-left g.C.Carrier.terms g.K.Check.number c.args.most l._past c.args.line c.args.message.now (vec_items l.self.text) (pair_at g.F.Air.fates l.self l.transfer)
    l.transfer.sender.session (as-turn (Continue c.in-Continue.next)) c.loop-past-test.true (ap as-turn (sym c.in-Continue.is) ∙ c.in_ok-next.ensures)
    ∙ l.invariant

pub returns-in-Break : goal.returns-in-Break
returns-in-Break g c =
    let l = c.loop-past in
    let as-turn : ControlFlow (Stage g.row.C.Denot g.row.K.Denot) (Going g.row.C.Denot g.row.K.Denot) → Left = λ y. left_at g.F.Air.fates c.take_turn.new.self y in
    turns-left g.C.Carrier.terms g.K.Check.number c.args.most l._past c.args.line c.args.message.now (vec_items l.self.text) (pair_at g.F.Air.fates l.self l.transfer)
    l.transfer.sender.session (as-turn (Break c.in-Break.stage)) c.loop-past-test.true (ap as-turn (sym c.in-Break.is) ∙ c.in_ok-next.ensures)
    ∙ l.invariant

pub returns : goal.returns
returns g c =
    let l = c.loop-past in
    turns-none g.C.Carrier.terms g.K.Check.number c.args.most l._past c.args.line c.args.message.now (vec_items l.self.text) (pair_at g.F.Air.fates l.self l.transfer)
    l.transfer.sender.session c.loop-past-test.false
    ∙ l.invariant
