-- Octets written into a buffer, one piece behind another.
use Rattle.std.proofs.Common.{◌≡◌, ℕ, ◌+◌, ◌≤◌, List, [], ◌++◌, length, take, drop, sym, refl, ap, ◌∙◌, ap₂, arith}
use Rattle.std.proofs.lemmas.List.{append_assoc, length-append, length-take-le, length-drop, take_all, take_at, take-append-drop, drop_at, drop-drop}
use Rattle.std.proofs.lemmas.Slice.{put_mid-paste}
use borrow.Rule.Slice.PartMut.{put_mid}
use Rattle.packet.specs.Octets.{over}

pub length_over : (place : ℕ) (xs b : List ℕ) → place + length xs ≤ length b → length (over place xs b) ≡ length b
length_over place xs b h =
    length-append (take place b) (xs ++ drop (place + length xs) b)
    ∙ (let t = length-take-le place b (omega arith) in
    let a = length-append xs (drop (place + length xs) b) in
    let d = length-drop (place + length xs) b in
    omega arith)

-- What is written second stands behind what is written first.
pub over-over : (place : ℕ) (xs ys b : List ℕ) → place + length xs ≤ length b → over (place + length xs) ys (over place xs b) ≡ over place (xs ++ ys) b
over-over place xs ys b h =
    let front : length (take place b ++ xs) ≡ place + length xs =
    length-append (take place b) xs ∙ ap (λ n. n + length xs) (length-take-le place b (omega arith)) in
    let e : over place xs b ≡ (take place b ++ xs) ++ drop (place + length xs) b =
    sym (append_assoc (take place b) xs (drop (place + length xs) b)) in
    let t : take (place + length xs) (over place xs b) ≡ take place b ++ xs =
    ap (take (place + length xs)) e ∙ take_at (take place b ++ xs) (drop (place + length xs) b) (place + length xs) front in
    let d : drop (place + length xs + length ys) (over place xs b) ≡ drop (place + length (xs ++ ys)) b =
    sym (drop-drop (length ys) (place + length xs) (over place xs b))
    ∙ ap (drop (length ys)) (ap (drop (place + length xs)) e ∙ drop_at (take place b ++ xs) (drop (place + length xs) b) (place + length xs) front)
    ∙ drop-drop (length ys) (place + length xs) b
    ∙ ap (λ n. drop n b) (let a = length-append xs ys in omega arith) in
    ap₂ (λ (f g : List ℕ). f ++ (ys ++ g)) t d
    ∙ append_assoc (take place b) xs (ys ++ drop (place + length (xs ++ ys)) b)
    ∙ ap (λ l. take place b ++ l) (sym (append_assoc xs ys (drop (place + length (xs ++ ys)) b)))

-- A part of the buffer is written whole.
pub mid-over : (place k : ℕ) (b ys zs : List ℕ) → ys ≡ zs → length zs ≡ k → put_mid place k b ys ≡ over place zs b
mid-over place k b ys zs e h =
    put_mid-paste place k b ys zs (length zs) e h refl
    ∙ ap (λ l. take place b ++ l ++ drop (place + length zs) b) (take_all (length zs) zs (omega arith))
    ∙ append_assoc (take place b) zs (drop (place + length zs) b)

-- Nothing written leaves the buffer as it is.
pub over-nil : (place : ℕ) (b : List ℕ) → over place [] b ≡ b
over-nil place b = ap (λ n. take place b ++ drop n b) (let e : place + 0 ≡ place = omega arith in e) ∙ take-append-drop place b
