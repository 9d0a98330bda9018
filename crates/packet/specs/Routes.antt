-- Who may speak to an end.
use Rattle.std.specs.Prelude.{Bool, List, [], ◌∷◌, ◌==◌}
use Rattle.fault.specs.declared.EndFault.{EndFault}
use Rattle.fault.specs.declared.EndFault.TheVariants.{Address}
use Rattle.packet.specs.declared.values.Route.{Route}

-- What came by a route is from the peer of an end, and for that end, whose own route is this.
abbrev pub route_tests : Route → Route → List (Bool × EndFault)
route_tests own came = ((came.source == own.destination), Address 1) ∷ (((came.destination == own.source), Address 3) ∷ [])
