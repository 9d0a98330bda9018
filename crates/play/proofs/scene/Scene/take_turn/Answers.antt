-- A turn that was taken is told as its story tells it.
use Rattle.std.proofs.Common.{◌≡◌, vec_items, ap, ◌∙◌}
use Rattle.agreement.specs.Turns.{Pair, turn_of}
use Rattle.exchange.specs.Views.{Brief, brief_with, joined_in, ups_in}
use Rattle.play.specs.Views.{left_for, left_in, left_of, pair_at}
use Rattle.play.proofs.Leaving.{brief-left}
use Rattle.play.proofs.Ups.{made_so}
use Rattle.play.proofs.scene.Scene.take_turn.Goals as goal

pub returns-in-Ok : goal.returns-in-Ok
returns-in-Ok g c =
    let t = g.C.Carrier.terms in
    let x = c.args.transfer in
    let s = x.sender.session in
    let text = vec_items c.args.self.now.text in
    let p : Pair = pair_at g.F.Air.fates c.args.self.now x in
    let r = turn_of t g.K.Check.number p s c.args.message.now in
    let store = vec_items c.turn.new.self.store in
    let fates = g.F.Air.fates c.turn.new.self.air in
    let b : Brief = brief_with (joined_in c.in-Ok.turned.next) (ups_in c.in-Ok.turned.ups) store fates in
    made_so _ (λ turn. left_in (vec_items c.tell_turn.new.text) turn store fates ≡ left_of t c.args.line text p s r)
    (λ turn h. h store fates ∙ ap (λ v. left_for (vec_items v) b) c.in-Ok.ensures.text ∙ brief-left t c.args.line text p s b r c.in-Ok.ensures.value)
    c.tell_turn.result c.tell_turn.ensures
