-- What the receiver takes is the damaged copy of the packet.
use Rattle.std.proofs.Common.{◌≡◌, ℕ, List, ap, ◌∙◌}
use Rattle.receiver.specs.Calls.{Called, call_of}
use Rattle.damage.specs.Damage.{damaged}
use Rattle.exchange.proofs.hearing.Aired.receive.Goals as goal

-- A value is taken over, changed by d, and then used by f.
through : {A B : Type 0} (f : A → B) (d : A → A) (y : B) (changed taken given : A) → y ≡ f changed → changed ≡ d taken → taken ≡ given → y ≡ f (d given)
through f d y changed taken given used by from = used ∙ ap f (by ∙ ap d from)

pub returns-clause-value : goal.returns-clause-value
returns-clause-value g c =
    let r = c.args.receiver.now in
    let call : List ℕ → Called = λ xs. call_of g.C.Carrier.terms g.K.Check.number r.route r.state c.args.store.now xs c.args.response.now in
    let change : List ℕ → List ℕ = damaged g.C.Carrier.terms.block c.args.hearing in
    through call change _ _ _ c.args.self.now.packet.now c.packet.ensures.value c.damage.ensures c.copy_from_slice.ensures.after
