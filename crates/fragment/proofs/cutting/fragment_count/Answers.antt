-- The count is the least, and so within the limit.
use Rattle.std.proofs.Common.{◌≡◌, ◌+◌, ◌≤◌, ◌∙◌, arith, rules}
use Rattle.fragment.specs.Counts.{parts_of}
use Rattle.fragment.proofs.Counting.{rounded-up, parts-least}
use Rattle.fragment.proofs.cutting.fragment_count.Goals as goal

pub returns : goal.returns
returns g c =
    let s = g.met.C.Carrier.sound in
    let size = c.capacity_of-capacity.result in
    let octets = c.args.message + 4 in
    let some : 1 ≤ size = omega arith in
    let up : c.div_ceil.result ≡ parts_of size octets = c.div_ceil.ensures ∙ rounded-up _ _ some in
    let within : parts_of size octets ≤ c.fragment_limit.result = (parts-least size octets some).least _ (omega arith) in
    let count : c.min.result ≡ parts_of size octets = omega (arith, c.min.ensures, up, within) in
    record {
      value = rw count (search rules);
      least = rw (count, c.capacity_of-capacity.ensures) (parts-least _ octets (omega arith));
      empty = search rules;
      long = search rules;
    }
