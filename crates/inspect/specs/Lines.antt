-- The lines of the input, and the answer to each.
use Rattle.std.specs.Prelude.{ℕ, ◌+◌, cond, List, [], ◌∷◌, ◌++◌, Some, None, Ok, Err, codes, Option, Result, ◌==◌, slice_index}
use Rattle.std.specs.List.{onto_first}
use Rattle.fault.specs.Faults.{packet_text}
use Rattle.fault.specs.declared.PacketFault.{PacketFault}
use Rattle.fragment.specs.Carriers.{Terms}
use Rattle.hex_digits.specs.Digits.{octets_of}
use Rattle.packet.specs.Layout.{kind_number}
use Rattle.packet.specs.Responses.{response_of}
use Rattle.packet.specs.Views.{Seen, seen_of}
use Rattle.packet.specs.declared.values.Kind.TheVariants as kind
use Rattle.packet.specs.declared.values.Response.{Response}
use Rattle.inspect.specs.Words.{item, packet_words, response_words}

-- Line, number, layer and place of a refusal.
abbrev pub refusal_words : ℕ → PacketFault → List ℕ
refusal_words line fault = codes "(refused" ++ (item line ++ (codes " " ++ (packet_text fault ++ (codes ")" ++ (10 ∷ [])))))

abbrev pub packet_answer : ℕ → Result Seen PacketFault → List ℕ
packet_answer line (Ok p) = packet_words p
packet_answer line (Err fault) = refusal_words line fault

abbrev pub response_answer : ℕ → Result Response PacketFault → List ℕ
response_answer line (Ok r) = response_words r
response_answer line (Err fault) = refusal_words line fault

-- Octets that begin as a response are read as one, all others as a packet.
abbrev pub octets_answer : Terms → ℕ → List ℕ → List ℕ
octets_answer t line octets =
    cond (slice_index octets 0 == kind_number kind.Response) (response_answer line (response_of t octets)) (packet_answer line (seen_of t octets))

abbrev pub digits_answer : Terms → ℕ → Option (List ℕ) → List ℕ
digits_answer t line (Some octets) = octets_answer t line octets
digits_answer t line None = codes "(unreadable" ++ (item line ++ (codes ")" ++ (10 ∷ [])))

abbrev pub line_answer : Terms → ℕ → List ℕ → List ℕ
line_answer t line digits = digits_answer t line (octets_of digits)

-- The lines of a text: each ends at a line feed, and the last may end with the text.
abbrev pub lines_of : List ℕ → List (List ℕ)
lines_of [] = []
lines_of (x ∷ xs) = cond (x == 10) ([] ∷ lines_of xs) (onto_first x (lines_of xs))

-- The answers to some lines, the first of which has this number.
abbrev pub answers_from : Terms → ℕ → List (List ℕ) → List ℕ
answers_from t line [] = []
answers_from t line (digits ∷ lines) = line_answer t line digits ++ answers_from t (line + 1) lines
