use Rattle.std.proofs.Common.{ap, sym, ◌∙◌}
use Rattle.its_model.specs.model.Bounds.{Bound}
use Rattle.text_grammar.specs.text_core.Reading.{Answer, Refused}
use Rattle.text_grammar.specs.Marks.{refusal_of}
use Rattle.cert_lexer.specs.declared.kind.ProofKind.{ProofKind}
use Rattle.cert_lexer.specs.Bounds.{answer_of, answer_with, deep_part, pieces_in, refusal_with, stops_in}
use Rattle.cert_lexer.specs.Packed.{inners_in}
use Rattle.cert_lexer.proofs.bound_reading.read_bound.Goals as goal

pub returns-in-Parsed : goal.returns-in-Parsed
returns-in-Parsed c =
    ap (λ (a : Answer Bound ProofKind). answer_with a (deep_part (stops_in (pieces_in (inners_in c.args.pieces)))))
    (sym (ap answer_of c.in-Parsed.is) ∙ c.in_ok-read.ensures)

pub returns-in_ok-deep-in-Refused : goal.returns-in_ok-deep-in-Refused
returns-in_ok-deep-in-Refused c =
    ap Refused (c.first_with_deep.ensures ∙ ap (refusal_with (refusal_of c.in-Refused.fault)) c.in_ok-deep-in-Refused.ensures)
    ∙ ap (λ (a : Answer Bound ProofKind). answer_with a (deep_part (stops_in (pieces_in (inners_in c.args.pieces)))))
    (sym (ap answer_of c.in-Refused.is) ∙ c.in_ok-read.ensures)
