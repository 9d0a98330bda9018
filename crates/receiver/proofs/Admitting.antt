-- Which packets are admitted.
use Rattle.std.proofs.Common.{◌≡◌, ℕ, ◌≤◌, List, None, Ok, Err, Result, sym, ap, ◌∙◌, ap₂, arith}
use Rattle.std.proofs.lemmas.Bool.{eq-eqb, le-leb}
use Rattle.std.proofs.lemmas.Bool.Decides.{nat_tests}
use Rattle.fault.specs.declared.EndFault.{EndFault}
use Rattle.fragment.specs.Carriers.{Terms}
use Rattle.packet.specs.declared.values.Header.{Header}
use Rattle.packet.specs.declared.values.Route.{Route}
use Rattle.packet.specs.Reading.{read_of, and_then, first_of}
use Rattle.packet.specs.Routes.{route_tests}
use Rattle.packet.specs.Views.{Seen, seen_of}
use Rattle.receiver.specs.declared.state.Phase.{Phase}
use Rattle.receiver.specs.Calls.{unfit_of, admit_of, admitted_of}

-- A packet that was read is its header, the block size and the octets.
pub seen-is : {E : Type 0} (t : Terms) (xs : List ℕ) (r : Result Header E) (p : Seen) → Ok p ≡ and_then r (λ h. Ok (record { header = h; size = t.block; octets = xs }))
    → (r ≡ Ok p.header) × (p.size ≡ t.block) × (p.octets ≡ xs)
seen-is t xs (Ok h) p e = let q : p ≡ record { header = h; size = t.block; octets = xs } = cc in (ap (λ (s : Seen). Ok s.header) (sym q), ap (λ (s : Seen). s.size) q, ap (λ (s : Seen). s.octets) q)
seen-is t xs (Err fault) p e = cc

pub unseen-is : {E : Type 0} (t : Terms) (xs : List ℕ) (r : Result Header E) (fault : E) → ◌≡◌ {A = Result Seen E} (Err fault) (and_then r (λ h. Ok (record { header = h; size = t.block; octets = xs })))
    → r ≡ Err fault
unseen-is t xs (Ok h) fault e = cc
unseen-is t xs (Err other) fault e = let q : other ≡ fault = cc in ap Err q

-- What is admitted was read.
pub admitted-read : (t : Terms) (route : Route) (phase : Phase) (xs : List ℕ) (room : ℕ) (h : Header) → admit_of t route phase xs room ≡ Ok h → (10 ≤ room) × (read_of t xs ≡ Ok h)
admitted-read t route phase xs room h e = grind (arith, nat_tests)

routed-both : (own came : Route) → ◌≡◌ {A = Result (Unit {0}) EndFault} (Ok tt) (first_of (route_tests own came) tt) → (came.source ≡ own.destination) × (came.destination ≡ own.source)
routed-both own came e = grind (arith, nat_tests)

-- A packet that passes each test is admitted.
pub admitted : (t : Terms) (route : Route) (phase : Phase) (xs : List ℕ) (room : ℕ) (p : Seen) → 10 ≤ room → Ok p ≡ seen_of t xs
    → ◌≡◌ {A = Result (Unit {0}) EndFault} (Ok tt) (first_of (route_tests route p.header.route) tt) → None ≡ unfit_of p.size phase p.octets p.header
    → Ok p ≡ admitted_of t route phase xs room
admitted t route phase xs room p enough seen routed fits =
    let s = seen-is t xs (read_of t xs) p seen in
    let fit : unfit_of t.block phase xs p.header ≡ None = ap₂ (λ (n : ℕ) (o : List ℕ). unfit_of n phase o p.header) (sym s.1) (sym s.2) ∙ sym fits in
    let same : p ≡ record { header = p.header; size = t.block; octets = xs } = cc in
    let ways = routed-both route p.header.route routed in
    rw (le-leb 10 room enough, s.0, eq-eqb p.header.route.source route.destination ways.0, eq-eqb p.header.route.destination route.source ways.1, fit) (ap Ok same)
