-- Endless lists of fates, and what the layers make of them.
use Rattle.std.specs.Prelude.{ℕ, suc, ◌+◌, true, false, cond, ◌&&◌, List, None, nat_le, slice_index_or}
use Rattle.air.specs.declared.few.UpToThree.{UpToThree}
use Rattle.air.specs.declared.few.UpToThree.TheVariants.{Empty, One, Two, Three}
use Rattle.air.specs.declared.fate.Hearing.{Hearing}
use Rattle.air.specs.declared.fate.Fate.{Fate}

-- An endless list without its first.
abbrev pub tail : {X : Type 0} → (ℕ → X) → ℕ → X
tail f n = f (suc n)

-- A turn that goes through: one hearing, none bad or altered, response heard; and no wait.
abbrev pub clear : Fate
clear = record { wait = false; heard = One (record { bad = 0; alteration = None; reply = true }) }

abbrev pub silent : Fate
silent = record { wait = false; heard = Empty }

-- A list, and then no hearing and no wait.
abbrev pub scheduled : List Fate → ℕ → Fate
scheduled fates n = slice_index_or fates n silent

-- Each hearing twice in a row, the first three kept.
abbrev pub twice : UpToThree Hearing → UpToThree Hearing
twice Empty = Empty
twice (One a) = Two a a
twice (Two a b) = Three a a b
twice (Three a b c) = Three a a b

abbrev pub repeated : (ℕ → Fate) → ℕ → Fate
repeated f n = record { wait = (f n).wait; heard = twice (f n).heard }

-- No hearing in the turns a to b, counted from 1: the n-th fate from here is that of turn past + n + 1.
abbrev pub faded : ℕ → ℕ → ℕ → (ℕ → Fate) → ℕ → Fate
faded a b past f n = record { wait = (f n).wait; heard = cond (nat_le a (past + suc n) && nat_le (past + suc n) b) Empty (f n).heard }
