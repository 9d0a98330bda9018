-- Each message leaves one less.
use Rattle.std.proofs.Common.{vec_items, ◌∙◌}
use Rattle.play.specs.Views.{Telling, rest_at, stand_at, telling_at}
use Rattle.play.proofs.Growing.{send-told, sends_none, sends-all}
use Rattle.play.proofs.scene.Scene.send_all.Goals as goal

pub loop-message-preserved : goal.loop-message-preserved
loop-message-preserved g c =
    let l = c.loop-message in
    let x : Telling = telling_at g.F.Air.fates c.send.new.self c.in_ok-stage.stage in
    send-told g.C.Carrier.terms g.K.Check.number c.args.messages.now l.message-index (vec_items l.self.text) (stand_at g.F.Air.fates l.self l.stage) x
    c.loop-message-test.true c.in_ok-stage.ensures
    ∙ l.invariant

pub returns : goal.returns
returns g c =
    let t = g.C.Carrier.terms in
    let number = g.K.Check.number in
    let l = c.loop-message in
    let messages = c.args.messages.now in
    sends_none t number messages l.message-index (vec_items l.self.text) (stand_at g.F.Air.fates l.self l.stage) c.loop-message-test.false
    ∙ l.invariant
    ∙ sends-all t number messages (vec_items c.args.self.now.text) (rest_at g.F.Air.fates c.args.self.now c.args.exchange)
