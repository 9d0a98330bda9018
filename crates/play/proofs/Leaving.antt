-- What a turn leaves to its caller is told as its story tells it.
use Rattle.std.proofs.Common.{◌≡◌, ℕ, List, ◌++◌, Ok, Err, Result, ap, ◌∙◌, arith}
use Rattle.fault.specs.declared.EndFault.{EndFault}
use Rattle.fragment.specs.Carriers.{Terms}
use Rattle.sender.specs.declared.values.Session.{Session}
use Rattle.agreement.specs.Turns.{Pair, Turned}
use Rattle.agreement.specs.Histories.{report_in}
use Rattle.exchange.specs.Views.{Brief, brief_of, ups_of}
use Rattle.play.specs.Stories.{report_text}
use Rattle.play.specs.Views.{left_for, left_of, place_of}
use Rattle.play.proofs.Ups.{ups-told}

pub brief-left : (t : Terms) (line : ℕ) (text : List ℕ) (p : Pair) (s : Session) (b : Brief) (r : Result Turned EndFault)
    → Ok b ≡ brief_of r → left_for text b ≡ left_of t line text p s r
brief-left t line text p s b (Ok x) e =
    let same : b ≡ record { pair = x.pair; stepped = x.stepped; ups = ups_of x.ups } = cc in
    ap (λ (y : Brief). left_for text y) same
    ∙ ap (λ l. record { text = text ++ (l ++ report_text (report_in x.stepped)); place = place_of x.pair x.stepped }) (ups-told x.ups)
brief-left t line text p s b (Err fault) e = let z : ◌≡◌ {A = ℕ} 0 1 = cc in absurd (omega arith)
