-- One record further.
use Rattle.std.proofs.Common.{ℕ, ◌+◌, true, false, set, sym, ap, ◌∙◌}
use Rattle.packet.specs.declared.values.Quality.TheVariants.{Bad}
use Rattle.packet.specs.Layout.{quality_number}
use Rattle.packet.specs.Reading.{record_place}
use Rattle.damage.proofs.Spoiling.{spoilt-more}
use Rattle.damage.proofs.marks.spoil.Goals as goal
use Rattle.damage.proofs.marks.spoil.Goals.{then-comes_bad, else-comes_bad}

pub loop-i-preserved : goal.loop-i-preserved
loop-i-preserved g c =
    let size = g.C.Carrier.terms.block in
    let xs = c.loop-i.octets in
    elim c.if-comes_bad.branch [
      | then-comes_bad w ↦
          (spoilt-more size c.args.hearing 16 c.loop-i.i true xs c.if-comes_bad.octets c.loop-i-test.true (sym w.if-comes_bad.true ∙ c.comes_bad.ensures)
          (w.octets-is ∙ w.mark.ensures ∙ ap (λ (p : ℕ). set xs (p + 2) (quality_number Bad)) (w.record_place.ensures.value ∙ ap (λ z. record_place z c.loop-i.i) c.block_size-size.ensures))
          ∙ c.loop-i.invariant)
      | else-comes_bad w ↦
          (spoilt-more size c.args.hearing 16 c.loop-i.i false xs c.if-comes_bad.octets c.loop-i-test.true (sym w.if-comes_bad.false ∙ c.comes_bad.ensures) w.octets-is
          ∙ c.loop-i.invariant)
    ]
