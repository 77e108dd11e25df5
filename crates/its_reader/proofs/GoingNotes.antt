-- The code finds exactly the faults of a piece of an expression.
use Rattle.std.specs.Prelude.{◌≡◌, ℕ, Bool, true, false, not, ◌&&◌, nat_le, nat_lt, if◌then◌else◌, [], ◌++◌, length}
use Rattle.std.specs.Prelude.{Option, Some}
use Rattle.std.specs.Prelude.{None, refl}
use Rattle.std.proofs.Common.{sym, ap, ◌∙◌}
use Rattle.model.specs.Programs.{Name}
use Rattle.model.specs.Limits.{variable_limit, token_limit, coefficient_limit}
use Rattle.text_core.specs.Names.{is_among}
use Rattle.its_text.specs.expr_text.Pieces as inner
use Rattle.its_text.specs.expr_text.Terms.{number_of}
use Rattle.its_text.specs.expr_text.GrammarStates as expression
use Rattle.its_text.specs.expr_text.StateNames.{names_with_state, token_count, goes_on_with}
use Rattle.its_text.specs.expr_text.TermGrammarStates.{goes_on_from}
use Rattle.expr_reader.specs.Variables.{names_in}
use Rattle.expr_reader.specs.Views.{grammar_state_of}
use Rattle.expr_reader.specs.Standing.{RepresentsExpression}
use Rattle.expr_reader.specs.declared.expression.Expression.{Expression}
use Rattle.expr_reader.proofs.Endings.{goes_on_is}
use Rattle.its_text.specs.Pieces.{Piece, In}
use Rattle.its_text.specs.Kinds.{NumberTooLarge, Limit, TooManyVariables, TooManyTokens}
use Rattle.its_text.specs.StateFaults.{fault_if, OpenExpression, is_large, is_truth, passes_variables}
use Rattle.its_text.specs.StateFaults.{expression_faults, token_faults, ends_expression}
use Rattle.its_reader.specs.Tests.{inner_next}
use Rattle.its_reader.specs.FaultTests.{is_large_row, passes, piece_faults, step_faults, IsDigital}
use Rattle.its_reader.specs.declared.draft.RuleDraft.{RuleDraft}

large_is : (p : inner.Piece) → IsDigital (Some (In p)) → is_large p ≡ is_large_row p
large_is (inner.Digits ds) d = ap (λ v. v && nat_lt coefficient_limit (number_of ds)) (sym d)
large_is _ d = refl

module _ (at : ℕ) (g : OpenExpression) (r : RuleDraft) (e : Expression) (truth : Bool) (behind : Option Piece)
    (k : RepresentsExpression g.names g.grammar_state (names_in r.variables) e) where
  passes_is : (p : inner.Piece) → ((name : Name) → p ≡ inner.Word name → truth ≡ is_truth g name behind)
      → passes_variables g p behind ≡ passes truth r p
  passes_is (inner.Word name) h =
      ap (λ v. not v && not (is_among name (names_with_state g.names g.grammar_state))
      && nat_le variable_limit (length (names_with_state g.names g.grammar_state))) (sym (h name refl))
      ∙ ap (λ ns. not truth && not (is_among name ns) && nat_le variable_limit (length ns)) (sym k.names_are)
  passes_is _ h = refl

  inner_is : (p : inner.Piece) → IsDigital (Some (In p))
      → ((name : Name) → p ≡ inner.Word name → truth ≡ is_truth g name behind)
      → expression_faults at g p behind ≡ piece_faults r e.tokens truth at p
  inner_is p d h =
      ap (λ v. fault_if v NumberTooLarge at ++ fault_if (passes_variables g p behind) (Limit TooManyVariables) at
      ++ fault_if (nat_le token_limit (token_count g.grammar_state)) (Limit TooManyTokens) at) (large_is p d)
      ∙ (ap (λ v. fault_if (is_large_row p) NumberTooLarge at ++ fault_if v (Limit TooManyVariables) at
      ++ fault_if (nat_le token_limit (token_count g.grammar_state)) (Limit TooManyTokens) at) (passes_is p h)
      ∙ ap (λ n. fault_if (is_large_row p) NumberTooLarge at ++ fault_if (passes truth r p) (Limit TooManyVariables) at
      ++ fault_if (nat_le token_limit n) (Limit TooManyTokens) at) (sym k.tokens_are))

  -- the faults of a piece that continues an expression are those that the code finds
  pub going_is : (next : Option Piece) → IsDigital next
      → ((p : inner.Piece) (name : Name) → next ≡ Some (In p) → p ≡ inner.Word name → truth ≡ is_truth g name behind)
      → token_faults at (Some g) next behind ≡ step_faults r e truth at (inner_next next)
  going_is None d h = refl
  going_is (Some (In p)) d h =
      ap (λ v. if v then expression_faults at g p behind else [])
      (sym (goes_on_is g.names g.grammar_state (names_in r.variables) e p k))
      ∙ ap (λ xs. if goes_on_from (grammar_state_of e).outer (grammar_state_of e).operand p then xs else [])
      (inner_is p d (λ name. h p name refl))
  going_is (Some _) d h = refl

-- an expression that has ended shows no fault
pub ended_going : (at : ℕ) (behind : Option Piece) (e : expression.GrammarState) (g : OpenExpression)
    (next : Option Piece) → g.grammar_state ≡ e → ends_expression e next ≡ true
    → token_faults at (Some g) next behind ≡ []
ended_going at behind e g None same ends = refl
ended_going at behind e g (Some (In p)) same ends = ap
    (λ e. if goes_on_with e p then expression_faults at g p behind else []) same ∙ go (goes_on_with e p) ends
  where
    go : (v : Bool) → not v ≡ true → (if v then expression_faults at g p behind else []) ≡ []
    go true h = cc
    go false h = refl
ended_going at behind e g (Some _) same ends = refl
