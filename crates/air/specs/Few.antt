-- A few things in a row, as a list.
use Rattle.std.specs.Prelude.{List, [], ◌∷◌}
use Rattle.air.specs.declared.few.UpToThree.{UpToThree}
use Rattle.air.specs.declared.few.UpToThree.TheVariants.{Empty, One, Two, Three}

-- In order.
abbrev pub listed : {T : Type 0} → UpToThree T → List T
listed Empty = []
listed (One a) = a ∷ []
listed (Two a b) = a ∷ (b ∷ [])
listed (Three a b c) = a ∷ (b ∷ (c ∷ []))
