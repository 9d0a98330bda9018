-- A session is told as its story tells it.
use Rattle.std.proofs.Common.{◌≡◌, [], length, vec_items, ap, ◌∙◌}
use Rattle.sender.specs.Steps.{start_of}
use Rattle.agreement.specs.Turns.{Pair}
use Rattle.receiver.specs.declared.receiver.Receiver.{Receiver}
use Rattle.play.specs.Stories.{on_started}
use Rattle.play.specs.Views.{rest_at, pair_at, telling_at, telling_of}
use Rattle.play.proofs.Growing.{started-told}
use Rattle.play.proofs.Ups.{made_so}
use Rattle.play.proofs.scene.Scene.send_message.Goals as goal

pub returns-in-Ok : goal.returns-in-Ok
returns-in-Ok g c =
    let t = g.C.Carrier.terms in
    let number = g.K.Check.number in
    let from = c.args.self.now in
    let x = c.args.exchange in
    let y = c.in-Ok.transfer in
    let m = c.args.message.now in
    let store = vec_items from.store in
    let fates = g.F.Air.fates from.air in
    let p : Pair = rest_at g.F.Air.fates from x in
    let q : Pair = pair_at g.F.Air.fates from y in
    let text = vec_items from.text in
    let same = ap (λ (z : Receiver g.row.C.Denot g.row.K.Denot). record { base = y.sender.base; route = z.route; state = z.state; store = store; fates = fates }) c.in-Ok.ensures.kept in
    made_so _ (λ stage. telling_at g.F.Air.fates c.take_turns.new.self stage ≡ telling_of text (on_started t number c.args.line m p [] (start_of t x.sender.base (length m))))
    (λ stage h. h ∙ started-told t number c.args.line m text p q y.sender.base y.sender.session (start_of t x.sender.base (length m)) c.in-Ok.ensures.value same)
    c.take_turns.result c.take_turns.ensures
