-- Just what can be written is read.
use Rattle.std.proofs.Common.{◌≡◌, ℕ, List, Result, Option, IfSome, None, Some, sym, subst}
use Rattle.tell.specs.declared.faults.Refused.{Refused}
use Rattle.script.specs.Examples.{Accepted, Rejected}
use Rattle.script.specs.Scripts.{Plan, script_of}
use Rattle.script.specs.Written.{ReadsBack}
use Rattle.script.proofs.Computed.{accepted, rejected}
use Rattle.script.proofs.DrillBack.{written_back, retries-refused}
use Rattle.script.proofs.DrillOnly.{only-written}

pub reads_as : (text : List ℕ) (answer : Result Plan Refused) → answer ≡ script_of text → ReadsBack text answer
reads_as text answer e =
    subst (λ (a : Result Plan Refused). ReadsBack text a) (sym e)
    (record { back = written_back text; only = only-written text; retries = retries-refused text })

-- An answer that is what the text asks for has the law; and the examples are as they are computed.
pub record Told (text : List ℕ) (answer : Option (Result Plan Refused)) : Type 0 where
  pub value : IfSome answer (λ a. a ≡ script_of text)
  pub law : IfSome answer (ReadsBack text)
  pub examples : Accepted × Rejected

pub told : (text : List ℕ) (answer : Option (Result Plan Refused)) → IfSome answer (λ a. a ≡ script_of text) → Told text answer
told text None e = record { value = e; law = tt; examples = (accepted, rejected) }
told text (Some a) e = record { value = e; law = reads_as text a e; examples = (accepted, rejected) }
