-- What is still to be written, written here, gives all the records.
use Rattle.packet.specs.Sealing.{image_in}
use Rattle.packet.proofs.Writing.{Writing}
use Rattle.packet.proofs.image.Image.write_records.Given as goal

abbrev pub invariant-loop-j : goal.invariant-loop-j
invariant-loop-j g l = Writing l.self.fragment.now.block (image_in l.self) l.blocks l.self.fragment.now.blocks l.j l.left l.place l.packet l.initial.packet
