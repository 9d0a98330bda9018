-- What the loop keeps: what is kept so far, with the lines not yet read behind it.
use Rattle.std.proofs.Common.{◌≡◌, ◌+◌, [], length, drop, vec_items}
use Rattle.script.specs.Lines.{lines_of}
use Rattle.script.specs.Scripts.{forms_from}
use Rattle.script.proofs.Bodies.{behind}
use Rattle.script.proofs.parse.read_lines.Given as goal

abbrev pub invariant-loop-index : goal.invariant-loop-index
invariant-loop-index l =
    let head = l.initial.script.head in
    let lines = drop 4 (lines_of l.text) in
    (l.script.head ≡ head)
    × (behind head (vec_items l.script.sends) (vec_items l.script.turns) (forms_from (length l.yielded + 5) (drop (length l.yielded) lines)) ≡ behind head [] [] (forms_from 5 lines))
