-- What the loop keeps: the text with the lines that are left.
use Rattle.std.proofs.Common.{◌≡◌, ◌++◌, vec_items}
use Rattle.air.specs.Few.{listed}
use Rattle.play.proofs.Ups.{lines_in}
use Rattle.play.proofs.printing.push_ups.Given as goal

abbrev pub invariant-loop-up : goal.invariant-loop-up
invariant-loop-up l = vec_items l.text ++ lines_in (listed l.up-iterator) ≡ vec_items l.initial.text ++ lines_in (listed l.fn.ups)
