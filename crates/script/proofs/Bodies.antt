-- The forms of a drill, one line more at a time.
use Rattle.std.proofs.Common.{◌≡◌, ℕ, suc, ◌+◌, ◌<◌, List, [], ◌∷◌, ◌++◌, length, get_or, drop, Some, None, Ok, Err, Result, sym, refl, ap, ◌∙◌, append_assoc, append-nil, add-one, arith, drop-cons, drop_of_length-le}
use Rattle.std.proofs.lemmas.List.FromFn.{length-enumerate_from, get_or-enumerate_from}
use Rattle.std.specs.List.{enumerate_from}
use Rattle.std.specs.Option.{ok_or}
use Rattle.air.specs.declared.fate.Fate.{Fate}
use Rattle.packet.specs.Reading.{and_then}
use Rattle.tell.specs.declared.faults.Refused.{Refused}
use Rattle.script.specs.declared.forms.Form.{Form}
use Rattle.script.specs.declared.values.Head.{Head}
use Rattle.script.specs.declared.values.Message.{Message}
use Rattle.tell.specs.Faults.{wrong}
use Rattle.script.specs.Scripts.{Plan, plan_of, form_of, forms_from, send_in, turn_in, sends_in, turns_in}

-- Forms behind what was kept before them.
abbrev pub behind : Head → List Message → List Fate → Result (List Form) Refused → Result Plan Refused
behind head sends turns (Ok forms) = Ok (record { head = head; sends = sends ++ sends_in forms; turns = turns ++ turns_in forms })
behind head sends turns (Err refused) = Err refused

moved : (head : Head) (sends : List Message) (turns : List Fate) (f : Form) (r : Result (List Form) Refused)
    → behind head (sends ++ send_in f) (turns ++ turn_in f) r ≡ behind head sends turns (and_then r (λ forms. Ok (f ∷ forms)))
moved head sends turns f (Ok forms) =
    simp append_assoc refl
moved head sends turns f (Err refused) = refl

-- One form goes from the lines to come to what is kept.
pub form-more : (head : Head) (number : ℕ) (sends more-sends : List Message) (turns more-turns : List Fate) (f : Form) (line : List ℕ) (lines : List (List ℕ))
    → Some f ≡ form_of number line → more-sends ≡ sends ++ send_in f → more-turns ≡ turns ++ turn_in f
    → behind head more-sends more-turns (forms_from (number + 1) lines) ≡ behind head sends turns (forms_from number (line ∷ lines))
form-more head number sends more-sends turns more-turns f line lines e s t =
    ap (λ l. behind head l more-turns (forms_from (number + 1) lines)) s
    ∙ ap (λ l. behind head (sends ++ send_in f) l (forms_from (number + 1) lines)) t
    ∙ moved head sends turns f (forms_from (number + 1) lines)
    ∙ ap (λ o. behind head sends turns (and_then (ok_or o (wrong number)) (λ g. and_then (forms_from (number + 1) lines) (λ forms. Ok (g ∷ forms))))) e

-- A line is wrong.
pub form-wrong : (head : Head) (number : ℕ) (sends : List Message) (turns : List Fate) (line : List ℕ) (lines : List (List ℕ))
    → None ≡ form_of number line → Err (wrong number) ≡ behind head sends turns (forms_from number (line ∷ lines))
form-wrong head number sends turns line lines e =
    ap (λ o. behind head sends turns (and_then (ok_or o (wrong number)) (λ g. and_then (forms_from (number + 1) lines) (λ forms. Ok (g ∷ forms))))) e

-- No line is to come.
pub forms-all : (head : Head) (number : ℕ) (sends : List Message) (turns : List Fate)
    → Ok (record { head = head; sends = sends; turns = turns }) ≡ behind head sends turns (forms_from number [])
forms-all head number sends turns = simp append-nil refl

-- Nothing was kept before the first.
pub from-none : (head : Head) (r : Result (List Form) Refused) → behind head [] [] r ≡ and_then r (λ forms. Ok (plan_of head forms))
from-none head (Ok forms) = refl
from-none head (Err refused) = refl

-- The lines by their places: this line is the n-th, and its number is five more.

abbrev IsTurn : List (List ℕ) → ℕ → ℕ → List ℕ → Type 0
IsTurn ls n index line = (n < length (enumerate_from 0 ls)) × ((index, line) ≡ get_or (enumerate_from 0 ls) n (index, line))

pub turn-place : (ls : List (List ℕ)) (n index : ℕ) (line : List ℕ) → IsTurn ls n index line → (index ≡ n) × (n < length ls) × (drop n ls ≡ line ∷ drop (n + 1) ls)
turn-place ls n index line h =
    let within : n < length ls = omega (arith, h.0, length-enumerate_from 0 ls) in
    let e = h.1 ∙ get_or-enumerate_from 0 ls n (index, line) within in
    let first : index ≡ 0 + n = ap (λ p. p.0) e in
    (omega arith, within, rw add-one (drop-cons ls n line within ∙ ap (λ l. l ∷ drop (suc n) ls) (sym (ap (λ p. p.1) e))))

pub turn-more : (head : Head) (ls : List (List ℕ)) (n m index : ℕ) (sends more-sends : List Message) (turns more-turns : List Fate) (f : Form) (line : List ℕ) (whole : Result Plan Refused)
    → IsTurn ls n index line → m ≡ n + 1 → form_of (index + 5) line ≡ Some f → more-sends ≡ sends ++ send_in f → more-turns ≡ turns ++ turn_in f
    → behind head sends turns (forms_from (n + 5) (drop n ls)) ≡ whole → behind head more-sends more-turns (forms_from (m + 5) (drop m ls)) ≡ whole
turn-more head ls n m index sends more-sends turns more-turns f line whole turn next e s t before =
    let place = turn-place ls n index line turn in
    let number : index + 5 ≡ n + 5 = omega arith in
    let more : m + 5 ≡ (n + 5) + 1 = omega arith in
    ap (λ k. behind head more-sends more-turns (forms_from k (drop m ls))) more
    ∙ ap (λ k. behind head more-sends more-turns (forms_from ((n + 5) + 1) (drop k ls))) next
    ∙ form-more head (n + 5) sends more-sends turns more-turns f line (drop (n + 1) ls) (sym e ∙ ap (λ k. form_of k line) number) s t
    ∙ ap (λ l. behind head sends turns (forms_from (n + 5) l)) (sym place.2) ∙ before

pub turn-wrong : (head : Head) (ls : List (List ℕ)) (n index : ℕ) (sends : List Message) (turns : List Fate) (line : List ℕ) (whole : Result Plan Refused)
    → IsTurn ls n index line → form_of (index + 5) line ≡ None → behind head sends turns (forms_from (n + 5) (drop n ls)) ≡ whole → Err (wrong (index + 5)) ≡ whole
turn-wrong head ls n index sends turns line whole turn e before =
    let place = turn-place ls n index line turn in
    let number : index + 5 ≡ n + 5 = omega arith in
    ap (λ k. Err (wrong k)) number ∙ form-wrong head (n + 5) sends turns line (drop (n + 1) ls) (sym e ∙ ap (λ k. form_of k line) number)
    ∙ ap (λ l. behind head sends turns (forms_from (n + 5) l)) (sym place.2) ∙ before

pub turns-all : (head : Head) (ls : List (List ℕ)) (n : ℕ) (sends : List Message) (turns : List Fate) (whole : Result Plan Refused)
    → n ≡ length (enumerate_from 0 ls) → behind head sends turns (forms_from (n + 5) (drop n ls)) ≡ whole
    → Ok (record { head = head; sends = sends; turns = turns }) ≡ whole
turns-all head ls n sends turns whole end before =
    forms-all head (n + 5) sends turns
    ∙ ap (λ l. behind head sends turns (forms_from (n + 5) l)) (sym (drop_of_length-le ls (omega (arith, end, length-enumerate_from 0 ls)))) ∙ before
