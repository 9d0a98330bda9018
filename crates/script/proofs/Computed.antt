-- The examples, by computation.
use Rattle.std.proofs.Common.{refl}
use Rattle.script.specs.Examples.{Accepted, Rejected}
use Rattle.script.specs.Turns.{records_from}
use Rattle.script.specs.Words.{figure_of}

pub accepted : Accepted
unfolding records_from figure_of
accepted = record { shortest = refl; one_send = refl; silent_turn = refl; full_turn = refl; two_heard = refl }

pub rejected : Rejected
unfolding records_from figure_of
rejected =
    record {
      empty = refl;
      three_lines = refl;
      no_line_feed = refl;
      retries_16 = refl;
      retries_most = refl;
      retries_over = refl;
      leading_zero = refl;
      long_message = refl;
      two_spaces = refl;
      four_heard = refl;
      not_ascending = refl;
      none_bad = refl;
      no_mask = refl;
    }
