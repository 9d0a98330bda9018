-- The lines of what was handed up, as the code tells them and as the story does.
use Rattle.std.proofs.Common.{◌≡◌, ℕ, List, [], ◌∷◌, ◌++◌, map, length, IfOk, Ok, Err, Result, refl, ap}
use Rattle.agreement.specs.Turns.{Handed}
use Rattle.agreement.specs.Histories.{message_of}
use Rattle.exchange.specs.Views.{ups_of}
use Rattle.exchange.specs.declared.pair.Up.{Up}
use Rattle.tell.specs.Printed.{up_line}
use Rattle.play.specs.Stories.{ups_text}
use Rattle.play.specs.Views.{ups_lines}

-- What holds where a call was made holds of what follows from it.
pub made_so : {X Y : Type 0} (P Q : X → Type 0) → ((x : X) → P x → Q x) → (r : Result X Y) → IfOk r P → IfOk r Q
made_so P Q f (Ok x) p = f x p
made_so P Q f (Err y) p = tt

-- The lines of messages in their order.
abbrev pub lines_in : List Up → List ℕ
lines_in [] = []
lines_in (u ∷ later) = up_line u.serial u.octets ++ lines_in later

-- The code is left with the serial and the length of each message.
pub ups-told : (ups : List Handed) → ups_lines (ups_of ups) ≡ ups_text (map message_of ups)
ups-told [] = refl
ups-told (h ∷ older) = ap (λ l. l ++ up_line h.up.serial (length h.octets)) (ups-told older)
