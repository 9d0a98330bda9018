-- Every entry of the table, computed from the rule.
use Rattle.std.proofs.Common.{◌*◌, ◌^◌, arith}
use Rattle.std.proofs.lemmas.List.FromFn.{get_or-map-range_with_len}
use Rattle.check32.specs.Division.{bit_step, bit_steps}
use Rattle.check32.proofs.table.entry.Goals as goal

pub returns : goal.returns
unfolding bit_step bit_steps
returns c = get_or-map-range_with_len (λ n. bit_steps 8 (n * 2 ^ 24)) 0 256 c.args.top c.args.top 0 c.ranges.top.fits (omega arith)
