-- Where both ends stand while a drill is played, and what is told by then, as the code has it and as its story has it.
use Rattle.std.specs.Prelude.{ℕ, List, [], ◌∷◌, ◌++◌, Ok, Err, vec_items, Result}
use Rattle.fault.specs.declared.EndFault.{EndFault}
use Rattle.fragment.specs.Carriers.{Terms}
use Rattle.sender.specs.declared.values.Session.{Session}
use Rattle.sender.specs.Steps.{Stepped}
use Rattle.sender.specs.declared.values.Next.TheVariants as stepped
use Rattle.air.specs.declared.fate.Fate.{Fate}
use Rattle.agreement.specs.Turns.{Pair, Turned}
use Rattle.agreement.specs.Histories.{refused, turned, World, between, within, note_of, report_in}
use Rattle.exchange.specs.Views.{Rested, Going, Brief, rest_of, pair_of}
use Rattle.exchange.specs.declared.pair.Up.{Up}
use Rattle.script.specs.declared.values.Script.{Script}
use Rattle.tell.specs.Printed.{up_line}
use Rattle.script.specs.Scripts.{Plan}
use Rattle.play.specs.declared.stage.Stage.{Stage}
use Rattle.play.specs.declared.stage.Stage.TheVariants.{Between, Within}
use Rattle.play.specs.declared.scene.Scene.{Scene}
use Rattle.std.specs.declared.ops.ControlFlow.{ControlFlow}
use Rattle.std.specs.declared.ops.ControlFlow.TheVariants.{Continue, Break}
use Rattle.play.specs.Stories.{Story, text_of, event_text, report_text}

-- Standing

-- Both ends between sessions, or within one, whatever its message.
pub data Stand : Type 0 where
  resting : Pair → Stand
  going : Pair → Session → Stand

abbrev pub stand_in : World → Stand
stand_in (between p) = resting p
stand_in (within p s m) = going p s

-- A stage with what is lent to it.
abbrev pub stand_of : {C K : Type 0} → Stage C K → List ℕ → (ℕ → Fate) → Stand
stand_of (Between y) store fates = resting (rest_of y store fates)
stand_of (Within y) store fates = going (pair_of y store fates) y.sender.session

-- A world in which both ends stand so: a session that is not played on has no use for its message.
abbrev pub world_with : Stand → World
world_with (resting p) = between p
world_with (going p s) = within p s []

-- Telling

-- The text so far, and where both ends stand.
pub record Telling : Type 0 where
  pub text : List ℕ
  pub stand : Stand

abbrev pub telling : {C K : Type 0} → List ℕ → Stage C K → List ℕ → (ℕ → Fate) → Telling
telling text stage store fates = record { text = text; stand = stand_of stage store fates }

-- A story told behind a text.
abbrev pub telling_of : List ℕ → Story → Telling
telling_of text x = record { text = text ++ text_of x.steps; stand = stand_in x.world }

-- Turning

-- After a turn: the session goes on, or is over for the drill.
pub data Place : Type 0 where
  on : Pair → Session → Place
  over : Stand → Place

pub record Left : Type 0 where
  pub text : List ℕ
  pub place : Place

abbrev pub left_in : {C K : Type 0} → List ℕ → ControlFlow (Stage C K) (Going C K) → List ℕ → (ℕ → Fate) → Left
left_in text (Continue y) store fates = record { text = text; place = on (pair_of y store fates) y.sender.session }
left_in text (Break stage) store fates = record { text = text; place = over (stand_of stage store fates) }

abbrev pub place_of : Pair → Stepped → Place
place_of p (stepped.On s) = on p s
place_of p (stepped.Ended report left) = over (resting p)

-- What a turn tells, and where it leads.
abbrev pub left_of : Terms → ℕ → List ℕ → Pair → Session → Result Turned EndFault → Left
left_of t line text p s (Ok x) = record { text = text ++ event_text line (turned (note_of t p s x)); place = place_of x.pair x.stepped }
left_of t line text p s (Err fault) = record { text = text ++ event_text line (refused fault); place = over (going p s) }

-- The lines of what the hearings of a turn handed up, newest first.
abbrev pub ups_lines : List Up → List ℕ
ups_lines [] = []
ups_lines (u ∷ older) = ups_lines older ++ up_line u.serial u.octets

-- What is told of a turn by all that its caller is left with.
abbrev pub left_for : List ℕ → Brief → Left
left_for text b = record { text = text ++ (ups_lines b.ups ++ report_text (report_in b.stepped)); place = place_of b.pair b.stepped }

-- In a scene

-- The same with what is lent in a scene, whose air answers these fates.
module _ {F : Type 0} (fates : F → ℕ → Fate) (z : Scene F) where
  abbrev pub rest_at : {C K : Type 0} → Rested C K → Pair
  rest_at y = rest_of y (vec_items z.store) (fates z.air)

  abbrev pub pair_at : {C K : Type 0} → Going C K → Pair
  pair_at y = pair_of y (vec_items z.store) (fates z.air)

  abbrev pub stand_at : {C K : Type 0} → Stage C K → Stand
  stand_at stage = stand_of stage (vec_items z.store) (fates z.air)

  abbrev pub telling_at : {C K : Type 0} → Stage C K → Telling
  telling_at stage = telling (vec_items z.text) stage (vec_items z.store) (fates z.air)

  abbrev pub left_at : {C K : Type 0} → ControlFlow (Stage C K) (Going C K) → Left
  left_at turn = left_in (vec_items z.text) turn (vec_items z.store) (fates z.air)

-- Asking

-- What a script asks for.
abbrev pub asked_by : Script → Plan
asked_by script = record { head = script.head; sends = vec_items script.sends; turns = vec_items script.turns }
