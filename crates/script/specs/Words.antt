-- Words and figures at the front of a text. A reader gives what it has read and the text behind it, or none.
use Rattle.std.specs.Prelude.{◌≡◌, ℕ, ◌+◌, ◌-◌, ◌*◌, Bool, true, false, cond, ◌&&◌, List, [], ◌∷◌, ◌++◌, drop, Some, None, Ok, Err, Result, codes, Option, ◌==◌, nat_le, slice_index}
use Rattle.std.specs.Borrow.{Bor}
use Rattle.std.specs.Str.{bytes_eq, IsUtf8}

-- A reading as the code has it.
abbrev pub seen : {X : Type 0} → Option (X × Bor (List ℕ)) → Option (X × List ℕ)
seen None = None
seen (Some p) = Some (p.0, p.1.now)

-- Reads on from what was read, if something was.
abbrev pub read_on : {X Y : Type 0} → Option X → (X → Option Y) → Option Y
read_on None next = None
read_on (Some x) next = next x

-- Reads on where a word is there, and else has read x.
abbrev pub if_there : {X : Type 0} → Option (List ℕ) → X → (List ℕ → Option X) → Option X
if_there None x next = Some x
if_there (Some rest) x next = next rest

-- What was read, where it might not be there.
abbrev pub found : {X : Type 0} → X × List ℕ → Option (Option X × List ℕ)
found p = Some (Some p.0, p.1)

-- The text behind a word.
abbrev pub past : List ℕ → List ℕ → Option (List ℕ)
past [] text = Some text
past (c ∷ word) [] = None
past (c ∷ word) (x ∷ text) = cond (x == c) (past word text) None

-- What is read behind a word, if the word is there.
abbrev pub after : {X : Type 0} → List ℕ → (List ℕ → Option (X × List ℕ)) → List ℕ → Option (Option X × List ℕ)
after word gives text = if_there (past word text) (None, text) (λ rest. read_on (gives rest) found)

-- Whether a word is there, and the text behind it.
abbrev pub optional : Option (List ℕ) → List ℕ → Bool × List ℕ
optional (Some rest) text = (true, rest)
optional None text = (false, text)

abbrev pub is_digit : ℕ → Bool
is_digit x = nat_le 48 x && nat_le x 57

-- A figure of which the digits read so far make `value`. None is above 4294967295.
abbrev pub figure_from : ℕ → List ℕ → Option (ℕ × List ℕ)
figure_from value [] = Some (value, [])
figure_from value (x ∷ text) =
    cond (is_digit x)
    (cond (nat_le (10 * value + (x - 48)) 4294967295) (figure_from (10 * value + (x - 48)) text) None)
    (Some (value, x ∷ text))

-- A figure in decimal digits: 0 stands alone, and none begins with it.
unfoldable pub figure_of : List ℕ → Option (ℕ × List ℕ)
figure_of text =
    cond (slice_index text 0 == 48) (Some (0, drop 1 text))
    (cond (is_digit (slice_index text 0)) (figure_from (slice_index text 0 - 48) (drop 1 text)) None)

-- A value of at most `most`.
abbrev pub up_to : ℕ → ℕ × List ℕ → Option (ℕ × List ℕ)
up_to most p = cond (nat_le p.0 most) (Some p) None

-- A figure of at most `most`.
abbrev pub figure_to : ℕ → List ℕ → Option (ℕ × List ℕ)
figure_to most text = read_on (figure_of text) (up_to most)

-- A figure of at most `most` behind a space.
abbrev pub next_figure : ℕ → List ℕ → Option (ℕ × List ℕ)
next_figure most text = read_on (past (codes " ") text) (figure_to most)

-- What was read, with its form closed behind it.
abbrev pub closed : {X : Type 0} → X × List ℕ → Option (X × List ℕ)
closed p = read_on (past (codes ")") p.1) (λ rest. Some (p.0, rest))

-- The last form of a line is closed, and the line ends.
abbrev pub is_end : List ℕ → Bool
is_end text = bytes_eq text (codes ")" ++ (10 ∷ []))

-- A line that is this word, a name and the line's end is read as the name is; and no other line is read.
pub record ReadsNamed {T E : Type 0} (gives : List ℕ → Result T E → Type 0) (word line : List ℕ) (answer : Option T) : Type 0 where
  pub read : (named : T) → answer ≡ Some named → (name : List ℕ) × (line ≡ word ++ (name ++ (codes ")" ++ (10 ∷ [])))) × gives name (Ok named)
  pub none : answer ≡ None → (name : List ℕ) → IsUtf8 name → line ≡ word ++ (name ++ (codes ")" ++ (10 ∷ []))) → (error : E) × gives name (Err error)
