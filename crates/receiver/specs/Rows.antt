-- The receiver's rows: a phase meets an event.
use Rattle.std.specs.Prelude.{◌+◌, Bool, true, false, cond, not, ◌&&◌, ◌==◌}
use Rattle.packet.specs.declared.values.Header.{Header}
use Rattle.packet.specs.declared.values.Code.TheVariants.{Ack, FullRetry, OutOfStep}
use Rattle.receiver.specs.declared.state.Gathering.{Gathering}
use Rattle.receiver.specs.declared.state.Phase.{Phase}
use Rattle.receiver.specs.declared.state.Phase.TheVariants.{Idle, Collecting, Waiting, Done}
use Rattle.receiver.specs.declared.state.State.{State}
use Rattle.receiver.specs.declared.state.Event.{Event}
use Rattle.receiver.specs.declared.state.Event.TheVariants.{FullStart, Full, Selective, Expiry}
use Rattle.receiver.specs.declared.state.Act.{Act}
use Rattle.receiver.specs.declared.state.Act.TheVariants.{Rest, Answer, Fill}
use Rattle.receiver.specs.Store.{anew}

abbrev pub same : Bool → Bool → Bool
same true b = b
same false b = not b

-- Idle empties the message store; the last message stays known.
abbrev pub idle : State → State
idle s = record { phase = Idle; blocks = s.blocks; filled = 0; last = s.last }

abbrev pub blocks_anew : State → State
blocks_anew s = record { phase = s.phase; blocks = anew s.blocks; filled = s.filled; last = s.last }

abbrev pub both_anew : State → State
both_anew s = record { phase = s.phase; blocks = anew s.blocks; filled = 0; last = s.last }

-- What a row leaves, and what is left to do.
pub record Row : Type 0 where
  pub state : State
  pub act : Act

abbrev pub acknowledged : State → Row
acknowledged s = record { state = s; act = Answer Ack }

abbrev pub wanted : State → Row
wanted s = record { state = s; act = Answer FullRetry }

abbrev pub lost : State → Row
lost s = record { state = idle s; act = Answer OutOfStep }

-- The blocks of a fragment are collected.
abbrev pub filling : State → Gathering → Row
filling s g = record { state = record { phase = Collecting g; blocks = s.blocks; filled = s.filled; last = s.last }; act = Fill g }

-- What a full packet begins.
abbrev pub gathering : Bool → Header → Gathering
gathering start h = record { number = h.number; start = start; blocks = h.records; pad = h.pad }

-- A full packet without start.
abbrev pub full_row : State → Header → Phase → Row
full_row s h Idle = lost s
full_row s h (Collecting g) =
    cond (h.number == g.number && not g.start)
    (cond (h.records == g.blocks && h.pad == g.pad) (filling s (gathering false h)) (filling (blocks_anew s) (gathering false h)))
    (lost s)
full_row s h (Waiting v) =
    cond (h.number == v) (acknowledged s) (cond (h.number + 1 == v) (filling (blocks_anew s) (gathering false h)) (lost s))
full_row s h Done = cond (h.number == 0) (acknowledged s) (lost s)

-- A selective packet that fits nothing: with start the message may be up already.
abbrev pub stray : State → Header → Row
stray s h = cond h.start (wanted s) (lost s)

abbrev pub selective_row : State → Header → Phase → Row
selective_row s h Idle = stray s h
selective_row s h (Collecting g) = cond (h.number == g.number && same h.start g.start) (filling s g) (stray s h)
selective_row s h (Waiting v) = cond (h.number == v) (acknowledged s) (stray s h)
selective_row s h Done = cond (h.number == 0) (acknowledged s) (stray s h)

-- The wait runs out.
abbrev pub expiry_row : State → Phase → Row
expiry_row s Idle = record { state = s; act = Rest }
expiry_row s (Collecting g) = record { state = idle s; act = Rest }
expiry_row s (Waiting v) = record { state = idle s; act = Rest }
expiry_row s Done = record { state = s; act = Rest }

abbrev pub row_of : State → Event → Row
row_of s (FullStart h) = filling (both_anew s) (gathering true h)
row_of s (Full h) = full_row s h s.phase
row_of s (Selective h) = selective_row s h s.phase
row_of s Expiry = expiry_row s s.phase

-- The event that a packet with this header is.
abbrev pub event_of : Header → Event
event_of h = cond h.selective (Selective h) (cond h.start (FullStart h) (Full h))

abbrev pub row : State → Act → Row
row s act = record { state = s; act = act }
