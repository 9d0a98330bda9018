-- The number, layer and octet place of each fault of a drill's text.
use Rattle.std.specs.Prelude.{ℕ, List, codes}
use Rattle.fault.specs.Faults.{end_number, end_layer, end_place, layer_name}
use Rattle.tell.specs.declared.faults.DrillLayer.{DrillLayer}
use Rattle.tell.specs.declared.faults.DrillLayer.TheVariants.{Below, Drill}
use Rattle.tell.specs.declared.faults.DrillFault.{DrillFault}
use Rattle.tell.specs.declared.faults.DrillFault.TheVariants.{End, Line}
use Rattle.tell.specs.declared.faults.Refused.{Refused}

-- The word for a layer.
abbrev pub drill_layer_name : DrillLayer → List ℕ
drill_layer_name (Below layer) = layer_name layer
drill_layer_name Drill = codes "drill"

abbrev pub drill_number : DrillFault → ℕ
drill_number (End inner) = end_number inner
drill_number Line = 9

-- A fault of an end keeps its layer and its place.
abbrev pub drill_layer : DrillFault → DrillLayer
drill_layer (End inner) = Below (end_layer inner)
drill_layer Line = Drill

abbrev pub drill_place : DrillFault → ℕ
drill_place (End inner) = end_place inner
drill_place Line = 0

-- A line that is not in the form that is due.
abbrev pub wrong : ℕ → Refused
wrong line = record { line = line; fault = Line }
