-- What the playing of a drill amounts to.
use Rattle.std.specs.Prelude.{◌≡◌, ℕ, List, Ok}
use Rattle.fragment.specs.Carriers.{Terms}
use Rattle.fragment.specs.Names.{terms_of}
use Rattle.check32.specs.Names.{number_by}
use Rattle.air.specs.Fates.{scheduled}
use Rattle.agreement.specs.Turns.{Pair}
use Rattle.agreement.specs.Histories.{between, Origin, Reached}
use Rattle.agreement.specs.Agreement.{AtOneOctet, Agreement}
use Rattle.exchange.specs.Views.{FreshPair}
use Rattle.script.specs.Scripts.{Plan, script_of}
use Rattle.play.specs.Stories.{text_of, history_of, story_with, fresh_for, answer_of}

-- The pair that a drill asks for.
abbrev pub origin_of : Plan → Origin
origin_of plan = record { limit = plan.head.retries; first = plan.head.serial; room = 65536; fates = scheduled plan.turns }

-- A text that is told of a history: it leads from the drill's fresh pair to the end of a session, and it agrees.
pub record Told (t : Terms) (number : List ℕ → ℕ) (plan : Plan) (text : List ℕ) : Type 0 where
  pub pair : FreshPair
  pub made : fresh_for t number plan ≡ Ok pair
  pub text_is : text ≡ text_of (story_with t number plan pair).steps
  pub at_end : (p : Pair) × ((story_with t number plan pair).world ≡ between p)
  pub reached : Reached t number (origin_of plan) (history_of (story_with t number plan pair).steps) (story_with t number plan pair).world
  pub agrees : AtOneOctet t (history_of (story_with t number plan pair).steps) → Agreement t (origin_of plan) (history_of (story_with t number plan pair).steps)

-- Every drill that is read is told so.
abbrev pub TellsHistory : List ℕ → Type 0
TellsHistory input = (plan : Plan) → script_of input ≡ Ok plan → Told (terms_of plan.head.carrier) (number_by plan.head.check) plan (answer_of input)
