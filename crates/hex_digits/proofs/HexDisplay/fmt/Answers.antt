-- Each turn writes the digits of one group.
use Rattle.std.proofs.Common.{◌++◌, ◌∙◌, sym, rules}
use Rattle.std.proofs.Output.{has_written_append}
use Rattle.std.proofs.lemmas.Result.{MatchResult-at_ok}
use Rattle.std.proofs.lemmas.Str.{IsUtf8-from_ascii}
use Rattle.std.specs.Slice.Iter.{chunks_rest}
use Rattle.hex_digits.proofs.Steps.{group-next, text-read}
use Rattle.hex_digits.proofs.HexDisplay.fmt.Goals as goal

pub unwrap-requires : goal.unwrap-requires
unwrap-requires g c =
    text-read _ _ _ _ (IsUtf8-from_ascii _ (rw c.put_digits.ensures.digits c.put_digits.ensures.ascii)) c.from_utf8.ensures.cases

pub loop-group-preserved : goal.loop-group-preserved
loop-group-preserved g c =
    let steps = c.in-Some.ensures.steps in
    let text = (MatchResult-at_ok _ _ _ c.unwrap.ensures c.from_utf8.ensures.cases).0 in (
      search rules,
      tt,
      steps.0 ∙ c.loop-group.invariant.2,
      λ plain.
          let before = c.loop-group.invariant.3 plain in (
            before.0 ++ c.unwrap.result.now,
            has_written_append _ _ _ _ _ _ before.1 (search rules),
            group-next _ _ _ (chunks_rest c.next.new.self) _ _ (text ∙ c.put_digits.ensures.digits) (sym steps.1.0) before.2,
          ),
    )
