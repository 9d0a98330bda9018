-- How a session ended, in words.
use Rattle.std.specs.Prelude.{List, ℕ, ◌++◌, codes, decimal}
use Rattle.sender.specs.declared.values.Outcome.{Outcome}
use Rattle.sender.specs.declared.values.Outcome.TheVariants.{Delivered, NotDelivered, Unknown}
use Rattle.sender.specs.declared.values.Report.{Report}

abbrev pub outcome_word : Outcome → List ℕ
outcome_word Delivered = codes "delivered"
outcome_word NotDelivered = codes "not-delivered"
outcome_word Unknown = codes "unknown"

-- The serial, the outcome, and the packets put out.
abbrev pub report_words : Report → List ℕ
report_words report =
    codes "(report " ++ (decimal report.serial ++ (codes " " ++ (outcome_word report.outcome ++ (codes " " ++ (decimal report.packets ++ codes ")")))))
