-- What a drill plays, and the text that tells it.
use Rattle.std.specs.Prelude.{ℕ, zero, suc, List, [], ◌∷◌, ◌++◌, map, length, replicate, Some, None, Ok, Err, Option, Result}
use Rattle.fault.specs.declared.EndFault.{EndFault}
use Rattle.fragment.specs.Carriers.{Terms}
use Rattle.fragment.specs.Names.{terms_of}
use Rattle.check32.specs.Names.{number_by}
use Rattle.sender.specs.declared.values.Base.{Base}
use Rattle.sender.specs.declared.values.Session.{Session}
use Rattle.sender.specs.declared.values.Report.{Report}
use Rattle.sender.specs.Steps.{Stepped}
use Rattle.sender.specs.declared.values.Next.TheVariants.{On, Ended}
use Rattle.sender.specs.Steps.{start_of}
use Rattle.air.specs.declared.fate.Fate.{Fate}
use Rattle.air.specs.Fates.{scheduled}
use Rattle.agreement.specs.Turns.{Pair, Turned, turn_of}
use Rattle.agreement.specs.Histories.{Message, Event, refused, started, turned, History, World, between, within, note_of, with_base}
use Rattle.exchange.specs.Views.{FreshPair, fresh_pair_of}
use Rattle.tell.specs.declared.faults.DrillFault.TheVariants.{End}
use Rattle.tell.specs.declared.faults.Refused.{Refused}
use Rattle.script.specs.declared.values.Message as script
use Rattle.tell.specs.Printed.{up_line, report_line, refused_line}
use Rattle.script.specs.Scripts.{Plan, script_of}

-- Telling

-- What happened, with the line of the send that it belongs to.
pub record Step : Type 0 where
  pub line : ℕ
  pub event : Event

-- Messages handed up, newest first, are told in their order.
abbrev pub ups_text : List Message → List ℕ
ups_text [] = []
ups_text (m ∷ older) = ups_text older ++ up_line m.serial (length m.octets)

abbrev pub report_text : Option Report → List ℕ
report_text None = []
report_text (Some report) = report_line report

abbrev pub event_text : ℕ → Event → List ℕ
event_text line (refused fault) = refused_line (record { line = line; fault = End fault })
event_text line (started m) = []
event_text line (turned x) = ups_text x.ups ++ report_text x.report

-- The text of all that happened; steps are newest first.
abbrev pub text_of : List Step → List ℕ
text_of [] = []
text_of (s ∷ older) = text_of older ++ event_text s.line s.event

abbrev pub event_of : Step → Event
event_of s = s.event

-- The history that was told.
abbrev pub history_of : List Step → History
history_of steps = map event_of steps

-- Playing

-- Where a drill stands, and what led there, newest first.
pub record Story : Type 0 where
  pub world : World
  pub steps : List Step

abbrev pub story : World → List Step → Story
story world steps = record { world = world; steps = steps }

abbrev pub noted : ℕ → Event → List Step → List Step
noted line event steps = record { line = line; event = event } ∷ steps

module _ (t : Terms) (number : List ℕ → ℕ) where
  -- After a turn the session goes on, or has ended.
  abbrev pub on_stepped : (Pair → Session → List Step → Story) → Pair → List Step → Stepped → Story
  on_stepped on p steps (On s) = on p s steps
  on_stepped on p steps (Ended report left) = story (between p) steps

  abbrev pub on_turned : ℕ → List ℕ → (Pair → Session → List Step → Story) → Pair → Session → List Step → Result Turned EndFault → Story
  on_turned line m on p s steps (Ok x) = on_stepped on x.pair (noted line (turned (note_of t p s x)) steps) x.stepped
  on_turned line m on p s steps (Err fault) = story (within p s m) (noted line (refused fault) steps)

  -- At most so many turns of a session.
  abbrev pub turns_from : ℕ → ℕ → List ℕ → Pair → Session → List Step → Story
  turns_from zero line m p s steps = story (within p s m) steps
  turns_from (suc k) line m p s steps = on_turned line m (turns_from k line m) p s steps (turn_of t number p s m)

  -- No session has more turns: R + 1 for each fragment, at most 16 and 512.
  abbrev pub most_turns : ℕ
  most_turns = 8192

  abbrev pub on_started : ℕ → List ℕ → Pair → List Step → Result (Base × Session) EndFault → Story
  on_started line m p steps (Ok x) =
      turns_from most_turns line m (with_base x.0 p) x.1 (noted line (started (record { serial = x.1.serial; octets = m })) steps)
  on_started line m p steps (Err fault) = story (between p) (noted line (refused fault) steps)

  -- One message: its value repeated.
  abbrev pub octets_of : script.Message → List ℕ
  octets_of send = replicate send.count send.value

  abbrev pub send_from : script.Message → List Step → World → Story
  send_from send steps (between p) = on_started send.line (octets_of send) p steps (start_of t p.base (length (octets_of send)))
  send_from send steps (within p s m) = story (within p s m) steps

  -- All of them, one after another.
  abbrev pub sends_from : List script.Message → Story → Story
  sends_from [] x = x
  sends_from (send ∷ later) x = sends_from later (send_from send x.steps x.world)

  -- The pair of a drill: addresses 1 and 2, a message store of 65,536 octets, and the turns of the drill as its air.
  abbrev pub pair_with : List Fate → FreshPair → Pair
  pair_with turns f = record { base = f.base; route = f.route; state = f.state; store = replicate 65536 0; fates = scheduled turns }

  abbrev pub fresh_for : Plan → Result FreshPair EndFault
  fresh_for plan = fresh_pair_of 1 2 plan.head.retries plan.head.serial (replicate 65536 0)

  abbrev pub story_with : Plan → FreshPair → Story
  story_with plan f = sends_from plan.sends (story (between (pair_with plan.turns f)) [])

  -- What a drill tells. A pair that is refused tells nothing; no plan that was read is refused one.
  abbrev pub told_by : Plan → Result FreshPair EndFault → List ℕ
  told_by plan (Ok f) = text_of (story_with plan f).steps
  told_by plan (Err fault) = []

  abbrev pub told_of : Plan → List ℕ
  told_of plan = told_by plan (fresh_for plan)

-- What is printed for a text: its first wrong line, or what the drill tells.
abbrev pub answer_to : Result Plan Refused → List ℕ
answer_to (Ok plan) = told_of (terms_of plan.head.carrier) (number_by plan.head.check) plan
answer_to (Err wrong) = refused_line wrong

abbrev pub answer_of : List ℕ → List ℕ
answer_of input = answer_to (script_of input)
