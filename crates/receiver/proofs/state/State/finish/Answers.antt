-- The data is in: the message is whole, or other fragments follow.
use Rattle.std.proofs.Common.{◌≡◌, ap, ◌∙◌, rules, arith}
use Rattle.receiver.specs.Fill.{after}
use Rattle.receiver.proofs.Filling.{last-in, more-in}
use Rattle.receiver.proofs.state.State.finish.Goals as goal

pub returns-then-last : goal.returns-then-last
returns-then-last g c =
    let a = c.in-Some.ensures in
    let i = c.image-image.result in
    let whole : c.missing-missing.result.0 ≡ 0 = search rules in
    c.complete.ensures
    ∙ last-in g.C.Carrier.terms g.K.Check.number c.args.self.now c.args.store.now c.args.g i.octets.now c.append.new.store i.check c.saturating_sub-octets.result c.in-Some.filled
    (search rules) c.image-image.ensures.octets c.image-image.ensures.length c.image-image.ensures.check (search rules) (search rules) a.0 a.1 a.2 (omega (arith, c.if-last.true))

pub returns : goal.returns
returns g c =
    let a = c.in-Some.ensures in
    let i = c.image-image.result in
    ap (after _ c.append.new.store) c.only-2.ensures
    ∙ more-in g.C.Carrier.terms g.K.Check.number c.args.self.now c.args.store.now c.args.g i.octets.now c.append.new.store i.check c.saturating_sub-octets.result c.in-Some.filled
    (search rules) c.image-image.ensures.octets c.image-image.ensures.length c.image-image.ensures.check (search rules) (search rules) a.0 a.1 a.2 (λ e. omega (arith, c.if-last.false, e))
