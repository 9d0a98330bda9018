-- A fragment lies within its stream and fills whole blocks.
use Rattle.std.proofs.Common.{◌≡◌, ℕ, ◌+◌, ◌*◌, ◌<◌, ◌≤◌, Result, Ok, Err, Some, arith, rules}
use Rattle.std.specs.Result.{result_ok}
use Rattle.std.proofs.lemmas.Result.{IfOk-at_ok}
use Rattle.fault.specs.declared.EndFault.{EndFault}
use Rattle.fragment.proofs.Counting.{part-begins, part-spares, parts-some}
use Rattle.fragment.proofs.piece.Fragment.cut.Goals as goal

was-ok : (r : Result ℕ EndFault) (count : ℕ) → Some count ≡ result_ok r → r ≡ Ok count
was-ok (Ok n) count e = cc
was-ok (Err fault) count e = cc

pub invariant_of-result : goal.invariant_of-result
invariant_of-result g c =
    let sound = g.met.C.Carrier.sound in
    let counted = IfOk-at_ok _ (was-ok _ _ c.in_ok-count.ensures.value) c.fragment_count.ensures.least in
    let begins : c.in_ok-index.index * c.capacity_of-capacity.result < c.args.message + 4 =
    rw c.capacity_of-capacity.ensures (part-begins counted c.in_ok-index.index (omega arith)) in
    let fits = c.in_ok-blocks.ensures.least in
    let some = parts-some fits (omega arith) in
    let few = fits.least 16 (omega arith) in
    let holds : c.min-octets.result + 4 ≤ c.in_ok-blocks.blocks * c.block_size-block.result = rw c.block_size-block.ensures fits.holds in
    let spare : c.in_ok-blocks.blocks * c.block_size-block.result < c.min-octets.result + 4 + c.block_size-block.result =
    rw c.block_size-block.ensures (part-spares fits (omega arith)) in
    search rules
