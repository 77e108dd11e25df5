use Rattle.std.proofs.Common.{ap, sym, ◌∙◌}
use Rattle.expr_reader.specs.Views.{grammar_state_of}
use Rattle.while_text.specs.declared.piece.Sort.{Sort}
use Rattle.while_text.specs.Drafts.{state_after}
use Rattle.while_text.proofs.Pops.{closed_either}
use Rattle.while_text.proofs.grammar_state.read_token.Goals as goal

pub returns-in_ok-close_bracket-in-Close : goal.returns-in_ok-close_bracket-in-Close
returns-in_ok-close_bracket-in-Close c =
    let f = grammar_state_of c.args.expression.now in
    closed_either f (grammar_state_of c.close_bracket.new.self) c.in_ok-close_bracket-in-Close.ensures.closes
    c.in_ok-close_bracket-in-Close.ensures.stays
    ∙ ap (λ (x : Sort). state_after c.args.variable x f) (sym c.in-Close.is)
