-- What the code's state says of the expression holds of the written state that it represents.
use Rattle.std.proofs.Common.{◌≡◌, suc, ◌+◌, List, [], refl, ap, subst, length, arith, Some}
use Rattle.model.specs.Programs.{Name}
use Rattle.expr_text.specs.Pieces.{Piece}
use Rattle.expr_text.specs.GrammarStates.{GrammarState, beginning}
use Rattle.expr_text.specs.Steps.{step}
use Rattle.expr_text.specs.StateNames.{token_count}
use Rattle.expr_text.proofs.StepLaws.{step_adds, Adds}
use Rattle.expr_reader.specs.declared.expression.Expression.{Expression}
use Rattle.expr_reader.specs.Views.{grammar_state_of}
use Rattle.expr_reader.specs.StateSteps.{StepsTo, with_piece}
use Rattle.expr_reader.specs.Standing.{RepresentsExpression, IsFresh, Leads}
use Rattle.expr_reader.proofs.Simulation.{simulated}

-- before any piece, the state represents the beginning, whatever variables are known
pub fresh_stands : (names : List Name) (e : Expression) → IsFresh e → RepresentsExpression names beginning names e
fresh_stands names e fresh = record { names_are = refl; state_is_represented = fresh.state_is_represented; tokens_are = fresh.tokens_are }

-- a piece that is accepted increases the count of pieces by one
pub token_added : (f g : GrammarState) (p : Piece) → step f p ≡ Some g → token_count g ≡ suc (token_count f)
token_added f g p to = ap length (subst (λ o. Adds (λ p. p) [] f p o) to (step_adds (λ p. p) f p []))

-- a piece that changes the state as it changes terms leads to a state that represents the written one after it
pub moves_lead : (old new : List Name) (e d : Expression) (p : Piece) → StepsTo old (grammar_state_of e) p (grammar_state_of d) → new ≡ with_piece old p → d.tokens ≡ e.tokens + 1 → Leads old e p new d
moves_lead old new e d p moves names tokens = record {
  each = λ before f g stands to modest.
      let holds = simulated before f g p old new (grammar_state_of e) (grammar_state_of d) stands.names_are stands.state_is_represented to modest moves names in
      let counted = token_added f g p to in
      let was = stands.tokens_are in
      record { names_are = holds.names_are; state_is_represented = holds.state_is_represented; tokens_are = omega arith };
}
