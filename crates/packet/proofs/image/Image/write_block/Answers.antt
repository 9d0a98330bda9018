-- The block is as long as what is written.
use Rattle.std.proofs.Common.{◌≡◌, length, sym, ◌∙◌, arith}
use Rattle.std.proofs.lemmas.List.{same_lists}
use Rattle.std.proofs.lemmas.Grind.{get_or_default_zero}
use Rattle.packet.specs.Images.{block_of}
use Rattle.packet.specs.Sealing.{image_in}
use Rattle.packet.proofs.Sealed.{length-image, length-block}
use Rattle.packet.proofs.image.Image.write_block.Goals as goal

pub returns : goal.returns
returns g c =
    let i = c.args.self.now in
    let f = i.fragment.now in
    let long : length (block_of f.block (image_in i) c.args.j) ≡ f.block = length-block (image_in i) f.block f.blocks c.args.j (length-image i i.lent) c.requires.there in
    same_lists _ _ (omega arith) (λ k d h. get_or_default_zero _ k d h ∙ c.loop-i.invariant k (omega arith) ∙ sym (get_or_default_zero _ k d (omega arith)))
