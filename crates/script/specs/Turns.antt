-- The turns of a drill as they are written: `(turn (wait) (heard (bad 0 2) (alter 1 5 255) (reply)))`.
use Rattle.std.specs.Prelude.{ℕ, zero, suc, ◌+◌, ◌^◌, Bool, cond, List, Some, None, codes, Option, ◌==◌, nat_le}
use Rattle.air.specs.declared.fate.Alteration.{Alteration}
use Rattle.air.specs.declared.fate.Hearing.{Hearing}
use Rattle.air.specs.declared.few.UpToThree.{UpToThree}
use Rattle.air.specs.declared.few.UpToThree.TheVariants.{Empty, One, Two, Three}
use Rattle.air.specs.declared.fate.Fate.{Fate}
use Rattle.script.specs.Words.{read_on, if_there, past, after, optional, figure_to, next_figure, closed, is_end}

-- A record of at least `least`.
abbrev pub ascending : ℕ → ℕ × List ℕ → Option (ℕ × List ℕ)
ascending least p = cond (nat_le least p.0) (Some p) None

-- At most n records more, each behind a space and at least `least`: 2^i for each record i, beside the `bad` before them.
unfoldable pub records_from : ℕ → ℕ → ℕ → List ℕ → Option (ℕ × List ℕ)
records_from zero least bad text = Some (bad, text)
records_from (suc n) least bad text =
    if_there (past (codes " ") text) (bad, text)
    (λ more. read_on (read_on (figure_to 15 more) (ascending least)) (λ p. records_from n (p.0 + 1) (bad + 2 ^ p.0) p.1))

-- A list of bad records has one at least.
abbrev pub some_bad : ℕ × List ℕ → Option (ℕ × List ℕ)
some_bad p = cond (p.0 == 0) None (closed p)

abbrev pub bad_of : List ℕ → Option (ℕ × List ℕ)
bad_of text = if_there (past (codes " (bad") text) (0, text) (λ rest. read_on (records_from 16 0 0 rest) some_bad)

-- A mask alters something.
abbrev pub masked : ℕ → ℕ → ℕ × List ℕ → Option (Alteration × List ℕ)
masked numbered place mask =
    cond (mask.0 == 0) None (closed (record { «record» = numbered; place = place; mask = mask.0 }, mask.1))

abbrev pub altered : List ℕ → Option (Alteration × List ℕ)
altered text =
    read_on (figure_to 15 text) (λ numbered. read_on (next_figure 19 numbered.1) (λ place. read_on (next_figure 255 place.1) (masked numbered.0 place.0)))

abbrev pub alteration_of : List ℕ → Option (Option Alteration × List ℕ)
alteration_of text = after (codes " (alter ") altered text

abbrev pub replied : ℕ → Option Alteration → Bool × List ℕ → Option (Hearing × List ℕ)
replied bad alteration reply = closed (record { bad = bad; alteration = alteration; reply = reply.0 }, reply.1)

abbrev pub heard : List ℕ → Option (Hearing × List ℕ)
heard text =
    read_on (bad_of text) (λ bad. read_on (alteration_of bad.1) (λ alteration.
    replied bad.0 alteration.0 (optional (past (codes " (reply)") alteration.1) alteration.1)))

-- One hearing, if it is there.
abbrev pub hearing_of : List ℕ → Option (Option Hearing × List ℕ)
hearing_of text = after (codes " (heard") heard text

-- Up to three hearings.

abbrev pub third : Hearing → Hearing → Option Hearing × List ℕ → Option (UpToThree Hearing × List ℕ)
third a b (None, text) = Some (Two a b, text)
third a b (Some c, text) = Some (Three a b c, text)

abbrev pub second : Hearing → Option Hearing × List ℕ → Option (UpToThree Hearing × List ℕ)
second a (None, text) = Some (One a, text)
second a (Some b, text) = read_on (hearing_of text) (third a b)

abbrev pub first : Option Hearing × List ℕ → Option (UpToThree Hearing × List ℕ)
first (None, text) = Some (Empty, text)
first (Some a, text) = read_on (hearing_of text) (second a)

abbrev pub hearings_of : List ℕ → Option (UpToThree Hearing × List ℕ)
hearings_of text = read_on (hearing_of text) first

abbrev pub ended : Bool → UpToThree Hearing × List ℕ → Option Fate
ended wait hearings = cond (is_end hearings.1) (Some (record { wait = wait; heard = hearings.0 })) None

abbrev pub waited : Bool × List ℕ → Option Fate
waited wait = read_on (hearings_of wait.1) (ended wait.0)

abbrev pub turn_of : List ℕ → Option Fate
turn_of line = read_on (past (codes "(turn") line) (λ text. waited (optional (past (codes " (wait)") text) text))
