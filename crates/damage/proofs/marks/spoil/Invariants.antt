-- What is left to spoil gives what spoiling all gives.
use Rattle.std.proofs.Common.{◌≡◌, ◌-◌}
use Rattle.damage.specs.Damage.{spoilt_from}
use Rattle.damage.proofs.marks.spoil.Given as goal

abbrev pub invariant-loop-i : goal.invariant-loop-i
invariant-loop-i g l =
    spoilt_from g.C.Carrier.terms.block l.hearing (16 - l.i) l.i l.octets
    ≡ spoilt_from g.C.Carrier.terms.block l.hearing 16 0 l.initial.octets
