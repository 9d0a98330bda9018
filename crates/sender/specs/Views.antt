-- What the moved types hold, without carrier and check.
use Rattle.std.specs.Prelude.{ℕ, List, Ok, Err, Result}
use Rattle.fault.specs.declared.EndFault.{EndFault}
use Rattle.sender.specs.declared.values.Base.{Base}
use Rattle.sender.specs.declared.values.Session.{Session}
use Rattle.sender.specs.declared.states.InSession.{InSession}
use Rattle.sender.specs.Steps.{Stepped}
use Rattle.sender.specs.declared.values.Next.{Next}
use Rattle.sender.specs.declared.values.Next.TheVariants.{On, Ended}
use Rattle.sender.specs.declared.states.Ready.{Ready}
use Rattle.sender.specs.declared.states.Refusal.{Refusal}
use Rattle.sender.specs.Steps.{Put}

-- What making gave.
abbrev pub fresh_in : {C K : Type 0} → Result (Ready C K) EndFault → Result Base EndFault
fresh_in (Ok y) = Ok y.base
fresh_in (Err fault) = Err fault

-- What a start gave.
abbrev pub start_in : {C K : Type 0} → Result (InSession C K 0) (Refusal (Ready C K)) → Result (Base × Session) EndFault
start_in (Ok y) = Ok (y.base, y.session)
start_in (Err y) = Err y.fault

-- What putting out a packet gave, with the lent buffer after it.
abbrev pub put_in : {C K : Type 0} → Result (InSession C K 1 × ℕ) (Refusal (InSession C K 0)) → List ℕ → Put
put_in (Ok y) packet = record { answer = Ok y.1; session = y.0.session; packet = packet }
put_in (Err y) packet = record { answer = Err y.fault; session = y.kept.session; packet = packet }

-- What became of a session.
abbrev pub next_in : {C K : Type 0} → Next (InSession C K 0) (Ready C K) → Stepped
next_in (On y) = On y.session
next_in (Ended report y) = Ended report tt

abbrev pub next_base : {C K : Type 0} → Next (InSession C K 0) (Ready C K) → Base
next_base (On y) = y.base
next_base (Ended report y) = y.base

-- What hearing a response gave.
abbrev pub hear_in : {C K : Type 0} → Result (Next (InSession C K 0) (Ready C K)) (Refusal (InSession C K 1)) → Result Stepped EndFault
hear_in (Ok y) = Ok (next_in y)
hear_in (Err y) = Err y.fault
