-- The lines of a text.
use Rattle.std.specs.Prelude.{ℕ, cond, List, [], ◌∷◌, ◌==◌}

-- An octet before the first of some lines.
abbrev pub onto : ℕ → List (List ℕ) → List (List ℕ)
onto x [] = (x ∷ []) ∷ []
onto x (line ∷ lines) = (x ∷ line) ∷ lines

-- The lines, each with the line feed that ends it. What stands behind the last line feed is a line without one.
abbrev pub lines_of : List ℕ → List (List ℕ)
lines_of [] = []
lines_of (x ∷ text) = cond (x == 10) ((x ∷ []) ∷ lines_of text) (onto x (lines_of text))
