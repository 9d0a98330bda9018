-- The three parts that are read are the data and the pad.
use Rattle.std.proofs.Common.{[], refl, ap, ◌∙◌, arith}
use Rattle.fragment.specs.Streams.{four_octets}
use Rattle.packet.proofs.Sealed.{parts-covered, same_number}
use Rattle.packet.proofs.sealing.seal_of.Goals as goal

pub returns : goal.returns
returns g c =
    let f = c.args.fragment.now in
    c.finish.ensures
    ∙ c.update-3.ensures []
    ∙ c.update-2.ensures _
    ∙ c.update.ensures _
    ∙ same_number c.start-check.ensures _
    ∙ ap g.K.Check.number
    (parts-covered (four_octets c.args.serial) c.args.message.now f.offset f.octets f.pad c.min.result c.min-2.result c.saturating_sub.result c.saturating_sub-2.result c.to_be_bytes.result
    c.to_be_bytes.ensures refl c.min.ensures c.min-2.ensures c.saturating_sub.ensures c.saturating_sub-2.ensures (omega (arith, f.inside, c.requires)) (omega (arith, f.tight, f.narrow)))
