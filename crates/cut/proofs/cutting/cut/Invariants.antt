-- What the loop keeps: lines and joined data, with those of the fragments to come.
use Rattle.std.proofs.Common.{◌≡◌, ◌++◌, string_bytes, vec_items}
use Rattle.std.specs.Option.{option_map}
use Rattle.cut.specs.Lines.{lines_from, joined_from, both}
use Rattle.cut.proofs.cutting.cut.Given as goal

abbrev pub invariant-loop-number : goal.invariant-loop-number
invariant-loop-number g l =
    (string_bytes l.text ++ lines_from g.C.Carrier.terms g.K.Check.number l.order l.message l.number
    ≡ string_bytes l.initial.text ++ lines_from g.C.Carrier.terms g.K.Check.number l.order l.message l.count)
    × (both (option_map vec_items l.stream) (joined_from g.C.Carrier.terms g.K.Check.number l.order l.message l.number)
    ≡ joined_from g.C.Carrier.terms g.K.Check.number l.order l.message l.count)
