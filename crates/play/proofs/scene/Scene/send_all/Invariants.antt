-- What the loop keeps: the messages that are left tell the rest.
use Rattle.std.proofs.Common.{◌≡◌, drop, vec_items}
use Rattle.play.specs.Views.{stand_at}
use Rattle.play.proofs.Growing.{sends_left}
use Rattle.play.proofs.scene.Scene.send_all.Given as goal

abbrev pub invariant-loop-message : goal.invariant-loop-message
invariant-loop-message g l =
    let t = g.C.Carrier.terms in
    let number = g.K.Check.number in
    let from = l.initial in
    sends_left t number (drop l.message-index l.messages) (vec_items l.self.text) (stand_at g.F.Air.fates l.self l.stage)
    ≡ sends_left t number l.messages (vec_items from.self.text) (stand_at g.F.Air.fates from.self from.stage)
