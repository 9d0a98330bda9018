-- A text that is not too long is read by its lines.
use Rattle.std.proofs.Common.{◌≡◌, leb, length, IfSome, Some, Err, Result, sym, subst, ap, ◌∙◌}
use Rattle.std.proofs.lemmas.Bool.{cond-true, cond-false, le-leb, lt-leb}
use Rattle.tell.specs.declared.faults.Refused.{Refused}
use Rattle.tell.specs.Faults.{wrong}
use Rattle.script.specs.Lines.{lines_of}
use Rattle.script.specs.Scripts.{Plan, answered, plan_in, script_of}
use Rattle.script.proofs.Law.{told}
use Rattle.script.proofs.parse.parse.Goals as goal

pub returns-then-input-gt-LONGEST : goal.returns-then-input-gt-LONGEST
returns-then-input-gt-LONGEST c =
    let text = c.args.input.now in
    let value : Err c.wrong_line.result ≡ script_of text =
    ap (λ e. Err e) c.wrong_line.ensures
    ∙ sym (cond-false (leb (length text) 65536) (plan_in (lines_of text)) (Err (wrong 0)) (lt-leb (length text) 65536 c.if-input-gt-LONGEST.true)) in
    let t = told text (Some (Err c.wrong_line.result)) value in record { value = t.value; law = t.law; examples = t.examples }

pub returns : goal.returns
returns c =
    let text = c.args.input.now in
    let short : plan_in (lines_of text) ≡ script_of text =
    sym (cond-true (leb (length text) 65536) (plan_in (lines_of text)) (Err (wrong 0)) (le-leb (length text) 65536 c.if-input-gt-LONGEST.false)) in
    let value : IfSome (answered c.read_lines.result) (λ a. a ≡ script_of text) =
    subst (λ (p : Result Plan Refused). IfSome (answered c.read_lines.result) (λ a. a ≡ p)) short c.read_lines.ensures in
    let t = told text (answered c.read_lines.result) value in record { value = t.value; law = t.law; examples = t.examples }
