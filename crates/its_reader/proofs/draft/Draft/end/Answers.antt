use Rattle.std.proofs.Common.{sym, ap, ◌∙◌, Some}
use Rattle.text_core.specs.Reading.{first_of}
use Rattle.its_text.specs.Grammar.{programs}
use Rattle.its_reader.specs.Faults.{fault_of, maybe_fault}
use Rattle.its_reader.proofs.EndLaws.{closes_open, closes_refused, closes_whole}
use Rattle.its_reader.proofs.draft.Draft.end.Goals as goal

pub returns-then-not-is_between : goal.returns-then-not-is_between
returns-then-not-is_between c =
    closes_open c.args.stand.state c.in_ok-judged.judged.state c.args.stand.last (maybe_fault c.args.stand.best)
    (maybe_fault c.in_ok-judged.judged.best) c.args.self _ c.args.len c.in_ok-judged.ensures c.error.result
    (sym c.is_between.ensures ∙ c.if-not-is_between.true)
    (c.error.ensures ∙ ap Some
    (c.first_of.ensures ∙ ap (first_of programs (maybe_fault c.in_ok-judged.judged.best)) c.at.ensures))

pub returns-in-Some : goal.returns-in-Some
returns-in-Some c =
    closes_refused c.args.stand.state c.in_ok-judged.judged.state c.args.stand.last (maybe_fault c.args.stand.best)
    (maybe_fault c.in_ok-judged.judged.best) c.args.self _ c.args.len c.in_ok-judged.ensures
    (fault_of c.in-Some.fault) c.error-in-Some.result
    (sym c.is_between.ensures ∙ c.if-not-is_between.false) (ap maybe_fault c.in-Some.is) c.error-in-Some.ensures

pub returns-in-None : goal.returns-in-None
returns-in-None c =
    closes_whole c.args.stand.state c.in_ok-judged.judged.state c.args.stand.last (maybe_fault c.args.stand.best)
    (maybe_fault c.in_ok-judged.judged.best) c.args.self _ c.args.len c.in_ok-judged.ensures c.finish.result
    (sym c.is_between.ensures ∙ c.if-not-is_between.false) (ap maybe_fault c.in-None.is) c.finish.ensures
