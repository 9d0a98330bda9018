-- The octets below i are the block's.
use Rattle.std.proofs.Common.{◌≡◌, ℕ, ◌<◌, get_or}
use Rattle.packet.specs.Images.{block_of}
use Rattle.packet.specs.Sealing.{image_in}
use Rattle.packet.proofs.image.Image.write_block.Given as goal

abbrev pub invariant-loop-i : goal.invariant-loop-i
invariant-loop-i g l = (k : ℕ) → k < l.i → get_or l.block k 0 ≡ get_or (block_of l.self.fragment.now.block (image_in l.self) l.j) k 0
