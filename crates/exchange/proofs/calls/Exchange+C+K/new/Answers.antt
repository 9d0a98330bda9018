-- A fresh pair has the empty history.
use Rattle.std.proofs.Common.{◌≡◌, ◌^◌, ◌<◌, Ok, rules}
use Rattle.exchange.specs.Views.{Rested, fresh_pair_in, fresh_pair_of}
use Rattle.exchange.proofs.Claiming.{fresh-reached}
use Rattle.exchange.proofs.calls.Exchange+C+K.new.Goals as goal

pub returns-in-Ok-clause-fresh : goal.returns-in-Ok-clause-fresh
returns-in-Ok-clause-fresh g c =
    let a = c.args in
    let y : Rested g.row.C.Denot g.row.K.Denot = record { sender = c.in-Ok.sender; receiver = c.in_ok-receiver.receiver } in
    let value : fresh_pair_in (Ok y) ≡ fresh_pair_of a.own a.peer a.retries a.first a.store.now = search rules in
    let own_small : a.own < 65536 = search rules in
    let peer_small : a.peer < 65536 = search rules in
    let first_small : a.first < 2 ^ 32 = search rules in
    fresh-reached g.C.Carrier.terms g.K.Check.number a.own a.peer a.retries a.first a.store.now own_small peer_small first_small (Ok y) value
