-- A response that reaches the sender.
use Rattle.std.proofs.Common.{◌≡◌, ℕ, List, Some, Ok, Err, Option, Result, sym, ap, ◌∙◌}
use Rattle.fault.specs.declared.EndFault.{EndFault}
use Rattle.fragment.specs.Carriers.{Terms}
use Rattle.packet.specs.declared.values.Code.{Code}
use Rattle.packet.specs.Reading.{and_then}
use Rattle.sender.specs.declared.values.Base.{Base}
use Rattle.sender.specs.declared.values.Session.{Session}
use Rattle.sender.specs.Steps.{Stepped}
use Rattle.sender.specs.Steps.{step_of, admit_of, hear_of}
use Rattle.agreement.specs.Turns.{ok_of, reached_by}

code-reached : (f : Option Code → Stepped) (a : Result Code EndFault) (next : Stepped) → Ok next ≡ and_then a (λ code. Ok (f (Some code))) → next ≡ f (ok_of a)
code-reached f (Ok code) next e = cc
code-reached f (Err fault) next e = cc

-- What the sender hears is what reaches it.
pub heard-reached : (t : Terms) (b : Base) (s : Session) (xs : List ℕ) (response : Option (List ℕ)) (next : Stepped) → response ≡ Some xs → Ok next ≡ hear_of t b s xs
    → next ≡ step_of b s (reached_by t b s response)
heard-reached t b s xs response next is e =
    code-reached (step_of b s) (admit_of t b s xs) next e ∙ ap (λ (o : Option (List ℕ)). step_of b s (reached_by t b s o)) (sym is)
