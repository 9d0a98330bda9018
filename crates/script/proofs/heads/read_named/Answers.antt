-- The name stands between the word and the line's end.
use Rattle.std.proofs.Common.{None, Some}
use Rattle.std.proofs.lemmas.Bool.Decides.{Decides-eqb}
use Rattle.std.proofs.lemmas.Slice.Eq.{strip_prefix_is, strip_suffix_is}
use Rattle.script.proofs.Names.{closing, no-word, no-text, named-as, text-refused, text-read}
use Rattle.script.proofs.heads.read_named.Goals as goal

pub returns-in_err-strip_prefix : goal.returns-in_err-strip_prefix
returns-in_err-strip_prefix g c =
    rw c.from_residual.ensures
    (no-word g.T.FromStr.from_str_gives _ _ (strip_prefix_is Decides-eqb c.args.line.now c.args.word.now None c.in_err-strip_prefix.ensures.cases))

pub returns-in_err-ok : goal.returns-in_err-ok
returns-in_err-ok g c =
    let rest = c.in_ok-strip_prefix.field-0 in
    let p = strip_prefix_is Decides-eqb c.args.line.now c.args.word.now (Some rest) c.in_ok-strip_prefix.ensures.cases in
    let q = strip_suffix_is Decides-eqb rest.now closing (Some c.in_ok-name.name) c.in_ok-name.ensures.cases in
    rw c.from_residual-in_err-ok.ensures
    (no-text g.T.FromStr.from_str_gives _ _ rest.now c.in_ok-name.name.now p q (text-refused _ _ _ c.from_utf8.result c.in_err-ok.ensures.value c.from_utf8.ensures.cases))

pub returns : goal.returns
returns g c =
    let rest = c.in_ok-strip_prefix.field-0 in
    let p = strip_prefix_is Decides-eqb c.args.line.now c.args.word.now (Some rest) c.in_ok-strip_prefix.ensures.cases in
    let q = strip_suffix_is Decides-eqb rest.now closing (Some c.in_ok-name.name) c.in_ok-name.ensures.cases in
    let text = text-read c.in_ok-name.name.now _ _ c.in_ok-ok.field-0 c.from_utf8.result c.in_ok-ok.ensures.value c.from_utf8.ensures.cases in
    rw c.ok-2.ensures.value
    (named-as g.T.FromStr.from_str_gives _ _ rest.now c.in_ok-name.name.now c.parse.result p q (rw text at c.parse.ensures.value))
