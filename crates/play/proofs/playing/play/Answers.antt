-- What the messages of a drill tell is what the drill tells.
use Rattle.std.proofs.Common.{◌≡◌, List, ℕ, replicate, vec_items, ap, ◌∙◌}
use Rattle.air.specs.Fates.{scheduled}
use Rattle.exchange.specs.Views.{FreshPair, fresh_pair_of}
use Rattle.script.specs.Scripts.{Plan}
use Rattle.play.specs.Views.{Telling, asked_by, telling_at}
use Rattle.play.proofs.Whole.{whole-told, none_told}
use Rattle.play.proofs.playing.play.Goals as goal

pub returns-in_default : goal.returns-in_default
returns-in_default g c =
    let head = c.args.script.now.head in
    none_told g.C.Carrier.terms g.K.Check.number (asked_by c.args.script.now) (vec_items c.new-2.result) c.in_default.field-0
    (c.in_default.ensures.value ∙ ap (λ (s : List ℕ). fresh_pair_of 1 2 head.retries head.serial s) (c.deref-2.ensures.value ∙ c.in_ok-octets_of.ensures))
    c.new-2.ensures.items

pub returns-in-Ok-send_all : goal.returns-in-Ok-send_all
returns-in-Ok-send_all g c =
    let head = c.args.script.now.head in
    let plan : Plan = asked_by c.args.script.now in
    let x = c.in-Ok.exchange in
    let f : FreshPair = record { base = x.sender.base; route = x.receiver.route; state = x.receiver.state } in
    let store : vec_items c.in_ok-octets_of.field-0 ≡ replicate 65536 0 = c.in_ok-octets_of.ensures in
    let y : Telling = telling_at (λ air. scheduled air.fates.now) c.send_all.new.self c.in-Ok-send_all.stage in
    whole-told g.C.Carrier.terms g.K.Check.number plan f c.deref-3.result.now (vec_items c.in_ok-octets_of.field-0) (scheduled c.new.result.fates.now) (vec_items c.new-2.result) y
    (c.in-Ok.ensures.value ∙ ap (λ (s : List ℕ). fresh_pair_of 1 2 head.retries head.serial s) (c.deref-2.ensures.value ∙ store))
    c.new-2.ensures.items c.deref-3.ensures.value store (ap scheduled (c.new.ensures ∙ c.deref.ensures.value)) c.in-Ok-send_all.ensures
