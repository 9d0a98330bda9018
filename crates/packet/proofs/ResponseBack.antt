-- Reading a response that was written.
use Rattle.std.proofs.Common.{◌≡◌, ℕ, ◌<◌, leb, List, length, take, IfOk, Ok, Result, sym, subst, arith}
use Rattle.std.proofs.lemmas.Bool.{lt-ltb, cond_both}
use Rattle.fault.specs.declared.PacketFault.{PacketFault}
use Rattle.fragment.specs.Carriers.{Terms, Sound}
use Rattle.packet.specs.declared.values.Route.{Route}
use Rattle.packet.specs.declared.values.Code.{Code}
use Rattle.packet.specs.declared.values.Code.TheVariants.{Ack, AckSelective, FullRetry, OutOfStep}
use Rattle.packet.specs.declared.values.Response.{Response}
use Rattle.packet.specs.Layout.{Written, written}
use Rattle.packet.specs.Responses.{code_flags, response_octets, responded_of, response_of}
use Rattle.packet.specs.ReadBack.{ResponseReads}
use Rattle.packet.proofs.ReadBack.{two-read}

module _ (route : Route) (source : route.source < 65536) (destination : route.destination < 65536) (number : ℕ) where
  pub response-read : (t : Terms) → Sound t → number < t.most → (code : Code) → code_flags code < 65536
      → response_of t (response_octets (record { route = route; number = number; code = code })) ≡ Ok (record { route = route; number = number; code = code })
  response-read t s h Ack f =
      rw (two-read number (omega (arith, s.few_fragments)), lt-ltb number t.most h, two-read route.source source, two-read route.destination destination)
  response-read t s h (AckSelective set) f =
      rw (two-read number (omega (arith, s.few_fragments)), lt-ltb number t.most h, two-read route.source source, two-read route.destination destination, two-read set.0 f)
  response-read t s h FullRetry f =
      rw (two-read number (omega (arith, s.few_fragments)), lt-ltb number t.most h, two-read route.source source, two-read route.destination destination)
  response-read t s h OutOfStep f =
      rw (two-read number (omega (arith, s.few_fragments)), lt-ltb number t.most h, two-read route.source source, two-read route.destination destination)

pub response-reads : (response : Response) → response.route.source < 65536 → response.route.destination < 65536 → code_flags response.code < 65536
    → (answer : Result ℕ PacketFault) (buffer after : List ℕ) → written answer after ≡ responded_of response buffer → ResponseReads response answer after
response-reads response source destination flags answer buffer after e t s h =
    let Reads : Written PacketFault → Type 0 = λ w. IfOk w.answer (λ n. response_of t (take n w.buffer) ≡ Ok response) in
    subst Reads (sym e)
    (cond_both (leb 10 (length buffer)) _ _ Reads
    (λ _. response-read response.route source destination response.number t s h response.code flags)
    (λ _. tt))
