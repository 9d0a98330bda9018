-- A session over what was heard after each of its packets.
use Rattle.std.specs.Prelude.{List, [], ◌∷◌, Option}
use Rattle.packet.specs.declared.values.Code.{Code}
use Rattle.sender.specs.declared.values.Base.{Base}
use Rattle.sender.specs.declared.values.Session.{Session}
use Rattle.sender.specs.Steps.{Stepped}
use Rattle.sender.specs.declared.values.Next.TheVariants.{On, Ended}
use Rattle.sender.specs.Steps.{counted, step_of}

abbrev pub onward : Stepped → (Session → Stepped) → Stepped
onward (On s) later = later s
onward (Ended report left) later = Ended report left

-- For each element the session puts out a packet and then hears a response with this code, or none in time. What comes after its end is not used.
abbrev pub run_of : Base → Session → List (Option Code) → Stepped
run_of b s [] = On s
run_of b s (heard ∷ later) = onward (step_of b (counted s) heard) (λ next. run_of b next later)
