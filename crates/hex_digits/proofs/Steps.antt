-- One octet more, written or read.
use Rattle.std.proofs.Common.{◌≡◌, ℕ, ◌+◌, ◌*◌, ◌/◌, ◌%◌, ◌<◌, ◌≤◌, List, [], ◌∷◌, ◌++◌, length, get_or, set, take, drop, Some, None, Option, Ok, Err, Result, zero, suc, sym, ◌∙◌, refl, ap, append_assoc, arith}
use Rattle.std.proofs.lemmas.List.{take_more, take_more_set, length-set}
use Rattle.std.specs.Option.{option_map}
use Rattle.std.specs.Result.{IsOk, MatchResult}
use Rattle.std.specs.Str.{IsAscii}
use Rattle.std.proofs.lemmas.Bool.Decides.{nat_tests}
use Rattle.hex_digits.specs.Digits.{digit_of, value_of, hex_of, before, octets_of}

-- An octet goes from the front of those to come to the end of those before.
moved : (front : List ℕ) (octet : ℕ) (more : Option (List ℕ))
    → option_map (λ rest. (front ++ (octet ∷ [])) ++ rest) more ≡ option_map (λ rest. front ++ rest) (before (Some octet) more)
moved front octet None = refl
moved front octet (Some rest) = ap (λ x. Some x) (append_assoc front (octet ∷ []) rest)

not_none : {value : ℕ} → Some value ≡ None → ⊥
not_none e = let z : ◌≡◌ {A = ℕ} 0 1 = cc in omega arith

-- Two digits less to read; past the end of the digits stands none.
pub octets-more : (front digits : List ℕ) (high low : ℕ) → Some high ≡ value_of (get_or digits 0 0) → Some low ≡ value_of (get_or digits 1 0)
    → option_map (λ rest. (front ++ ((16 * high + low) ∷ [])) ++ rest) (octets_of (drop 2 digits)) ≡ option_map (λ rest. front ++ rest) (octets_of digits)
octets-more front [] high low p q = absurd (not_none p)
octets-more front (a ∷ []) high low p q = absurd (not_none q)
octets-more front (a ∷ (b ∷ digits)) high low p q = rw (← p, ← q) (moved front (16 * high + low) (octets_of digits))

-- The digits of two lists joined.
hex-append : (front more : List ℕ) → hex_of (front ++ more) ≡ hex_of front ++ hex_of more
hex-append [] more = refl
hex-append (octet ∷ front) more =
    ap (λ digits. digit_of (octet / 16) ∷ (digit_of (octet % 16) ∷ digits)) (hex-append front more)

-- Digits are ASCII.
digit-small : (octet : ℕ) → octet < 256 → (digit_of (octet / 16) < 128) × (digit_of (octet % 16) < 128)
digit-small octet h = (grind (arith, nat_tests), grind (arith, nat_tests))

pub hex-ascii : (octets : List ℕ) → ((k : ℕ) → get_or octets k 0 < 256) → IsAscii (hex_of octets)
hex-ascii [] h i = omega arith
hex-ascii (octet ∷ octets) h zero = (digit-small octet (h 0)).0
hex-ascii (octet ∷ octets) h (suc zero) = (digit-small octet (h 0)).1
hex-ascii (octet ∷ octets) h (suc (suc i)) = hex-ascii octets (λ k. h (suc k)) i

-- What is text is read as text.
pub text-read : {X E : Type 0} (U : Type 0) (P : X → Type 0) (Q : E → Type 0) → (r : Result X E) → U → MatchResult r P (λ e. ¬ U × Q e) → IsOk r
text-read U P Q (Ok x) u told = refl
text-read U P Q (Err e) u told = absurd (told.0 u)

-- The digits of one octet more, put behind those that stand in front of a buffer.
pub digits-next : (buffer group : List ℕ) (i high low : ℕ) → length buffer ≡ 256 → length group ≤ 128 → i < length group
    → high ≡ digit_of (get_or group i 0 / 16) → low ≡ digit_of (get_or group i 0 % 16) → take (2 * i) buffer ≡ hex_of (take i group)
    → take (2 * (i + 1)) (set (set buffer (2 * i) high) (2 * i + 1) low) ≡ hex_of (take (i + 1) group)
digits-next buffer group i high low room few h eh el before =
    let one = take_more_set buffer (2 * i) high (omega arith) in
    let there : 2 * i + 1 < length (set buffer (2 * i) high) = rw (length-set buffer (2 * i) high) (omega arith) in
    let two = take_more_set (set buffer (2 * i) high) (2 * i + 1) low there in
    let count : 2 * (i + 1) ≡ (2 * i + 1) + 1 = omega arith in
    let digits : hex_of (get_or group i 0 ∷ []) ≡ high ∷ (low ∷ []) = rw (eh, el) refl in
    rw (count, two, one, before, take_more group i 0 h)
    (append_assoc (hex_of (take i group)) (high ∷ []) (low ∷ [])
    ∙ (ap (λ (l : List ℕ). hex_of (take i group) ++ l) (sym digits) ∙ sym (hex-append (take i group) (get_or group i 0 ∷ []))))

-- The digits of one group more, behind those that are written.
pub group-next : (written text front back rest all : List ℕ) → text ≡ hex_of front → front ++ back ≡ rest → written ++ hex_of rest ≡ all
    → (written ++ text) ++ hex_of back ≡ all
group-next written text front back rest all told cut before =
    append_assoc written text (hex_of back)
    ∙ (ap (λ digits. written ++ (digits ++ hex_of back)) told
    ∙ (ap (λ digits. written ++ digits) (sym (hex-append front back)) ∙ (ap (λ octets. written ++ hex_of octets) cut ∙ before)))
