-- A turn writes the record of its block, where that is carried.
use Rattle.std.proofs.Common.{sym, ◌∙◌, arith}
use Rattle.packet.specs.Sealing.{image_in}
use Rattle.packet.proofs.Over.{mid-over}
use Rattle.packet.proofs.Sealed.{length-image, length-block}
use Rattle.packet.proofs.Writing.{writing-some, writing-room, writing_more, writing-skips, writing-done}
use Rattle.packet.proofs.image.Image.write_records.Goals as goal
use Rattle.packet.proofs.image.Image.write_records.Goals.{then-carries, else-carries}

pub overflow_sub-left : goal.overflow_sub-left
overflow_sub-left g c = (writing-some _ _ _ _ _ _ _ _ _ c.loop-j.invariant c.loop-j-test.true (sym c.carries.ensures ∙ c.if-carries.true)).0

pub slice_bounds-write_record-end : goal.slice_bounds-write_record-end
slice_bounds-write_record-end g c =
    let w = writing-some _ _ _ _ _ _ _ _ _ c.loop-j.invariant c.loop-j-test.true (sym c.carries.ensures ∙ c.if-carries.true) in
    (writing-room _ _ _ _ _ _ _ _ _ c.loop-j.invariant w.0).0

pub loop-j-preserved : goal.loop-j-preserved
loop-j-preserved g c =
    let i = c.args.self.now in
    let f = i.fragment.now in
    let long = length-block (image_in i) f.block f.blocks c.loop-j.j (length-image i i.lent) c.loop-j-test.true in
    elim c.if-carries.branch [
      | then-carries w ↦
          rw (w.left-is, w.place-is, w.packet-is)
          (writing_more _ _ _ _ _ _ _ _ _ c.loop-j.invariant _ c.loop-j-test.true (sym c.carries.ensures ∙ w.if-carries.true) long
          (mid-over c.loop-j.place _ c.loop-j.packet _ _ w.write_record.ensures (omega arith)))
      | else-carries w ↦
          rw (w.left-is, w.place-is, w.packet-is)
          (writing-skips _ _ _ _ _ _ _ _ _ c.loop-j.invariant c.loop-j-test.true (sym c.carries.ensures ∙ w.if-carries.false))
    ]

pub returns : goal.returns
returns g c = writing-done _ _ _ _ _ _ _ _ _ c.loop-j.invariant c.loop-j-test.false
