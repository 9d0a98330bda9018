-- Adding an octet modulo 2^32 loses nothing.
use Rattle.std.proofs.Common.{arith}
use Rattle.check32.specs.Addition.{add_step}
use Rattle.check32.specs.OneOctet.{Faithful}

pub faithful-add : Faithful add_step
faithful-add = record {
  small = λ r x h. omega arith;
  keeps = λ r s x h k e. omega arith;
  tells = λ r x y h p q e. omega arith;
}
