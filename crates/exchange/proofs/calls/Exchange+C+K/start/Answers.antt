-- A start, or a refused one, leads every history on.
use Rattle.std.proofs.Common.{◌≡◌, length, Ok, Err, refl, arith, rules}
use Rattle.sender.specs.Steps.{start_of}
use Rattle.sender.specs.declared.states.Refusal.{Refusal}
use Rattle.exchange.specs.Views.{Rested, Going, start_in}
use Rattle.exchange.proofs.Claiming.{lawful, octets-lent, start-agrees}
use Rattle.exchange.proofs.calls.Exchange+C+K.start.Goals as goal

pub returns-in-Ok-clause-agrees : goal.returns-in-Ok-clause-agrees
returns-in-Ok-clause-agrees g c =
    let x = c.args.self in
    let m = c.args.message.now in
    let y : Going g.row.C.Denot g.row.K.Denot = record { sender = c.in-Ok.sender; receiver = x.receiver } in
    let value : start_in (Ok y) ≡ start_of g.C.Carrier.terms x.sender.base (length m) = search rules in
    start-agrees g.C.Carrier.terms g.K.Check.number (lawful g.C.Carrier.terms g.K.Check.number g.met.C.Carrier.sound g.met.K.Check.small g.met.K.Check.single)
    x m (octets-lent m (λ i. let h = c.type_inv.message i in omega arith)) (Ok y) value refl tt

pub returns-in-Err-clause-agrees : goal.returns-in-Err-clause-agrees
returns-in-Err-clause-agrees g c =
    let x = c.args.self in
    let m = c.args.message.now in
    let y : Refusal (Rested g.row.C.Denot g.row.K.Denot) = record { kept = record { sender = c.in-Err.field-0.kept; receiver = x.receiver }; fault = c.in-Err.field-0.fault } in
    let value : start_in (Err y) ≡ start_of g.C.Carrier.terms x.sender.base (length m) = search rules in
    let back : y.kept ≡ x = search rules in
    start-agrees g.C.Carrier.terms g.K.Check.number (lawful g.C.Carrier.terms g.K.Check.number g.met.C.Carrier.sound g.met.K.Check.small g.met.K.Check.single)
    x m (octets-lent m (λ i. let h = c.type_inv.message i in omega arith)) (Err y) value tt back
