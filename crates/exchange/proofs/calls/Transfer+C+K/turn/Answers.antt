-- A turn, or a refused one, leads every history on.
use Rattle.std.proofs.Common.{◌≡◌, Ok, Err, refl, rules}
use Rattle.sender.specs.declared.states.Refusal.{Refusal}
use Rattle.agreement.specs.Turns.{turn_of}
use Rattle.exchange.specs.declared.pair.Turned.{Turned}
use Rattle.exchange.specs.Views.{Going, pair_of, turn_in, brief_of}
use Rattle.exchange.proofs.Claiming.{lawful, turn-agrees}
use Rattle.exchange.proofs.calls.Transfer+C+K.turn.Goals as goal

pub returns-in-Ok-clause-agrees : goal.returns-in-Ok-clause-agrees
returns-in-Ok-clause-agrees g c =
    let t = g.C.Carrier.terms in
    let number = g.K.Check.number in
    let fates = g.F.Air.fates in
    let x = c.args.self in
    let y : Turned g.row.C.Denot g.row.K.Denot = record { ups = c.undergo-received.result.ups; next = c.join.result } in
    let value : turn_in (Ok y) c.undergo-received.new.store (fates c.ask.new.self)
    ≡ brief_of (turn_of t number (pair_of x c.args.store.now (fates c.args.air.now)) x.sender.session c.args.message.now) = search rules in
    turn-agrees t number (lawful t number g.met.C.Carrier.sound g.met.K.Check.small g.met.K.Check.single)
    x c.args.message.now c.args.store.now (fates c.args.air.now) (Ok y) c.undergo-received.new.store (fates c.ask.new.self) value tt tt

pub returns-in-Err-clause-agrees : goal.returns-in-Err-clause-agrees
returns-in-Err-clause-agrees g c =
    let t = g.C.Carrier.terms in
    let number = g.K.Check.number in
    let fates = g.F.Air.fates in
    let x = c.args.self in
    let y : Refusal (Going g.row.C.Denot g.row.K.Denot) = record { kept = record { sender = c.in-Err.field-0.kept; receiver = x.receiver }; fault = c.in-Err.field-0.fault } in
    let value : turn_in (Err y) c.args.store.now (fates c.args.air.now)
    ≡ brief_of (turn_of t number (pair_of x c.args.store.now (fates c.args.air.now)) x.sender.session c.args.message.now) = search rules in
    let back : y.kept ≡ x = search rules in
    turn-agrees t number (lawful t number g.met.C.Carrier.sound g.met.K.Check.small g.met.K.Check.single)
    x c.args.message.now c.args.store.now (fates c.args.air.now) (Err y) c.args.store.now (fates c.args.air.now) value back (refl, refl)
