-- What follows once the good blocks of a packet are in the block store.
use Rattle.std.specs.Prelude.{ℕ, ◌+◌, ◌-◌, Bool, false, cond, ◌&&◌, List, length, take, Some, None, Option, ◌==◌, nat_le}
use Rattle.fragment.specs.Carriers.{Terms}
use Rattle.fragment.specs.Streams.{Content, split_of}
use Rattle.packet.specs.declared.values.Header.{Header}
use Rattle.packet.specs.declared.values.Code.{Code}
use Rattle.packet.specs.declared.values.Code.TheVariants.{Ack, AckSelective, FullRetry, OutOfStep}
use Rattle.packet.specs.Octets.{over}
use Rattle.receiver.specs.declared.state.Gathering.{Gathering}
use Rattle.receiver.specs.declared.state.Phase.{Phase}
use Rattle.receiver.specs.declared.state.Phase.TheVariants.{Waiting, Done}
use Rattle.receiver.specs.declared.state.Last.{Last}
use Rattle.receiver.specs.declared.state.State.{State}
use Rattle.receiver.specs.declared.state.Act.{Act}
use Rattle.receiver.specs.declared.state.Act.TheVariants.{Rest, Answer, Fill}
use Rattle.receiver.specs.declared.state.Heard.{Heard}
use Rattle.receiver.specs.Store.{filled_by, missing_of, check_place, check_in, is_right}
use Rattle.receiver.specs.Rows.{idle, blocks_anew, row_of, event_of}

-- What a packet leaves: the state, the message store, and what it got.
pub record After : Type 0 where
  pub state : State
  pub store : List ℕ
  pub heard : Heard

abbrev pub after : State → List ℕ → Heard → After
after s store heard = record { state = s; store = store; heard = heard }

-- Only a response.
abbrev pub answered : State → List ℕ → Code → After
answered s store code = after s store (record { code = code; up = None })

-- The message was handed up last.
abbrev pub is_last : Option Last → ℕ → ℕ → Bool
is_last None serial check = false
is_last (Some l) serial check = l.serial == serial && l.check == check

abbrev pub moved : State → Phase → ℕ → Option Last → State
moved s phase filled last = record { phase = phase; blocks = s.blocks; filled = filled; last = last }

-- The serial at the front of the message store.
abbrev pub serial_at : Option Content → ℕ
serial_at None = 0
serial_at (Some c) = c.serial

abbrev pub serial_in : List ℕ → ℕ
serial_in store = serial_at (split_of store)

-- The message is whole: it is handed up, unless it is one fragment and was handed up last.
abbrev pub completed : State → List ℕ → ℕ → ℕ → Gathering → After
completed s store filled check g =
    cond (g.start && is_last s.last (serial_in store) check)
    (answered (moved s Done filled s.last) store Ack)
    (after (moved s Done filled (Some (record { serial = serial_in store; check = check }))) store
    (record { code = Ack; up = Some (record { serial = serial_in store; place = 4; length = filled - 4 }) }))

-- The data goes behind what the message store holds.
abbrev pub appended : State → List ℕ → ℕ → ℕ → Gathering → After
appended s store octets check g =
    cond (g.number == 0)
    (completed s (over s.filled (take octets s.blocks.octets) store) (s.filled + octets) check g)
    (answered (moved s (Waiting g.number) (s.filled + octets) s.last) (over s.filled (take octets s.blocks.octets) store) Ack)

-- The data octets of the fragment.
abbrev pub octets_of : Terms → Gathering → ℕ
octets_of t g = check_place t.block g.blocks - g.pad

-- Some blocks are missing: they are asked for, or without selective retry the whole fragment.
abbrev pub lacking : Terms → State → List ℕ → Gathering → After
lacking t s store g =
    cond t.selective (answered s store (AckSelective (missing_of g.blocks s.blocks))) (answered (idle s) store FullRetry)

-- The check is wrong: the whole fragment is wanted again, and no block of it is held.
abbrev pub spoilt : Terms → State → List ℕ → After
spoilt t s store = cond t.selective (answered (blocks_anew s) store FullRetry) (answered (idle s) store FullRetry)

abbrev pub finished : Terms → (List ℕ → ℕ) → State → List ℕ → Gathering → After
finished t number s store g =
    cond ((missing_of g.blocks s.blocks).0 == 0)
    (cond (is_right number t.block g.blocks s.blocks)
    (cond (nat_le (s.filled + octets_of t g) (length store))
    (appended s store (octets_of t g) (check_in t.block g.blocks s.blocks) g)
    (answered (idle s) store OutOfStep))
    (spoilt t s store))
    (lacking t s store g)

-- The good blocks of a packet go in.
abbrev pub filled : ℕ → Header → List ℕ → State → State
filled size h xs s = record { phase = s.phase; blocks = filled_by size h xs s.blocks; filled = s.filled; last = s.last }

-- What is left to do is done.
abbrev pub done_by : Terms → (List ℕ → ℕ) → Header → List ℕ → List ℕ → State → Act → After
done_by t number h xs store s Rest = answered s store Ack
done_by t number h xs store s (Answer code) = answered s store code
done_by t number h xs store s (Fill g) = finished t number (filled t.block h xs s) store g

-- A packet that is not refused.
abbrev pub heard_of : Terms → (List ℕ → ℕ) → State → List ℕ → Header → List ℕ → After
heard_of t number s store h xs = done_by t number h xs store (row_of s (event_of h)).state (row_of s (event_of h)).act
