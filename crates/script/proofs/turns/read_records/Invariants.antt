-- What the loop keeps: the records from here on are those of the whole list; and those so far are below the next.
use Rattle.std.proofs.Common.{◌≡◌, ◌-◌, ◌^◌, ◌<◌, ◌≤◌}
use Rattle.script.specs.Turns.{records_from}
use Rattle.script.proofs.turns.read_records.Given as goal

abbrev pub invariant-loop : goal.invariant-loop
invariant-loop l =
    (records_from (16 - l.counter) l.least l.bad l.rest ≡ records_from 16 0 0 l.text)
    × (l.bad < 2 ^ l.least) × (l.least ≤ 16)
