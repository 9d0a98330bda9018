-- What the loop keeps: the turns that are left tell the rest.
use Rattle.std.proofs.Common.{◌≡◌, ◌-◌, [], vec_items}
use Rattle.play.specs.Stories.{turns_from}
use Rattle.play.specs.Views.{pair_at, telling_of}
use Rattle.play.proofs.scene.Scene.take_turns.Given as goal

abbrev pub invariant-loop-past : goal.invariant-loop-past
invariant-loop-past g l =
    let t = g.C.Carrier.terms in
    let number = g.K.Check.number in
    let from = l.initial in
    telling_of (vec_items l.self.text) (turns_from t number (l.most - l._past) l.line l.message (pair_at g.F.Air.fates l.self l.transfer) l.transfer.sender.session [])
    ≡ telling_of (vec_items from.self.text) (turns_from t number l.most l.line l.message (pair_at g.F.Air.fates from.self from.transfer) from.transfer.sender.session [])
