-- The code finds exactly the faults of a right term at the next token.
use Rattle.std.specs.Prelude.{◌≡◌, ℕ, suc, false, ◌&&◌, ◌==◌, nat_le, List, [], ◌∷◌}
use Rattle.std.specs.Prelude.{◌++◌, length, Option, Some, None, refl}
use Rattle.std.proofs.Common.{sym, ap, ◌∙◌, append-nil, arith}
use Rattle.std.proofs.lemmas.Bool.Decides.{nat_tests}
use Rattle.model.specs.Limits.{place_limit}
use Rattle.poly_terms.specs.Views.{term_of}
use Rattle.its_text.specs.expr_text.Pieces as inner
use Rattle.its_text.specs.expr_text.Trees.{Sum, Number, Named, Bracketed}
use Rattle.its_text.specs.expr_text.GrammarStates as expression
use Rattle.its_text.specs.expr_text.GrammarStates.{Level, Operand, Wanted, BaseRead, CaretRead, ExponentRead}
use Rattle.its_text.specs.expr_text.Steps as expression_steps
use Rattle.its_text.specs.expr_text.StateNames.{token_count}
use Rattle.its_text.specs.Pieces.{Piece, In}
use Rattle.its_text.specs.Kinds.{ManyTargets, Limit, LongName, TooManyArguments}
use Rattle.its_text.specs.Numbering.{arrow_names}
use Rattle.its_text.specs.GrammarStates as grammar_states
use Rattle.its_text.specs.GrammarStates.{GrammarState, ArrowRead, Aimed}
use Rattle.its_text.specs.StateNames.{names_with}
use Rattle.its_text.specs.StateFaults.{Tokens, fault_if, long_name, is_open, begins}
use Rattle.its_text.specs.StateFaults.{targets_again, targets_many, passes_arguments, token_faults}
use Rattle.its_text.specs.StateFaults.{next_faults}
use Rattle.its_reader.specs.Places.{RightPartEnded, IsArguing}
use Rattle.its_reader.specs.FaultTests.{names_one, names_many, begins_full, right_faults, IsDigital}
use Rattle.its_reader.specs.declared.parser_state.Wrap.{Wrap}
use Rattle.its_reader.specs.declared.parser_state.TargetState.{TargetState}
use Rattle.its_reader.specs.declared.parser_state.TargetState.TheVariants as rights
use Rattle.its_reader.specs.declared.draft.Draft.{Draft}
use Rattle.its_reader.proofs.RightLaws.{length-terms, updates_count}
use Rattle.its_reader.proofs.RightPromises.{first_stands}
use Rattle.its_reader.proofs.GoingNotes.{going_is, ended_going}

-- one more than any number isn't 0
pub not_none : (n : ℕ) → (suc n == 0) ≡ false
not_none n = grind (arith, nat_tests)

-- an expression that can end has at least one token
pub finished_begun : (e : expression.GrammarState) (s : Sum) → expression_steps.finish e ≡ Some s
    → (token_count e == 0) ≡ false
finished_begun e s h = go e.outer e.level e.operand h
  where
    go : (outer : List Level) (level : Level) (o : Operand) → expression_steps.finish_from outer level o ≡ Some s
        → (token_count (record { outer = outer; level = level; operand = o }) == 0) ≡ false
    go [] level (BaseRead (Number digits)) h = not_none _
    go [] level (BaseRead (Named name)) h = not_none _
    go [] level (BaseRead (Bracketed t)) h = not_none _
    go [] level (ExponentRead b digits) h = not_none _
    go [] level Wanted h = cc
    go [] level (CaretRead b) h = cc
    go (l ∷ outer) level o h = cc

module _ (ts : Tokens) (at : ℕ) (next behind : Option Piece) (d : Draft) (f : GrammarState) where
  many_is : (l : ArrowRead) (next : Option Piece) → targets_many (grammar_states.Arrowed l) next behind
      ≡ (names_many next && is_open behind)
  many_is l None = refl
  many_is l (Some (In (inner.Word name))) = refl
  many_is l (Some (In _)) = refl
  many_is l (Some _) = refl

  many_within : (l : ArrowRead) (next : Option Piece) → targets_many (grammar_states.ComOpened l) next behind
      ≡ (names_many next && is_open behind)
  many_within l None = refl
  many_within l (Some (In (inner.Word name))) = refl
  many_within l (Some (In _)) = refl
  many_within l (Some _) = refl

  again_is : (l : ArrowRead) (next : Option Piece) → targets_again (grammar_states.ComOpened l) next behind
      ≡ (names_one next && is_open behind)
  again_is l None = refl
  again_is l (Some (In (inner.Word name))) = refl
  again_is l (Some (In _)) = refl
  again_is l (Some _) = refl

  -- the code finds whether an argument too many begins
  arguing_full : (w : Wrap) (a : Aimed) (arguments : List Sum) (e : expression.GrammarState)
      → IsArguing ts w a arguments e d → passes_arguments (grammar_states.Arguing a arguments e) next
      ≡ begins_full d.rule next
  arguing_full w a arguments e k =
      ap (λ n. (n == 0) && nat_le place_limit (length arguments) && begins next) (sym k.expression.tokens_are)
      ∙ ap (λ n. (d.rule.expression.tokens == 0) && nat_le place_limit n && begins next) (sym count)
    where
      count : length d.rule.updates.items ≡ length arguments
      count = sym (length-terms term_of d.rule.updates.items)
          ∙ (ap length k.aimed.updates_are ∙ updates_count (arrow_names a.led.left a.led.cost) arguments)

  -- the faults that the grammar's state shows in a right term at the next token are those that the code finds
  pub right_next : (state : TargetState) → RightPartEnded ts next state d f → IsDigital next
      → next_faults at f next behind ≡ right_faults state d.rule at next behind
  right_next rights.Arrowed k digital = rw k.1.0
      (simp append-nil (ap (λ v. fault_if v ManyTargets at ++ fault_if (long_name next) (Limit LongName) at)
      (many_is k.0 next)))
  right_next rights.ComNamed k digital = rw k.1.0 (simp append-nil)
  right_next rights.ComOpened k digital = rw (k.1.0, again_is k.0 next, many_within k.0 next) (simp append-nil)
  right_next (rights.TargetNamed w) k digital = rw k.1.0 (simp append-nil)
  right_next (rights.RightOpened w) k digital = rw k.1.0 (ap (λ xs. fault_if (long_name next) (Limit LongName) at ++ xs)
      (going_is at (record { names = names_with k.0.led []; grammar_state = expression.beginning; leads_atom = false })
      d.rule d.rule.expression false behind (first_stands ts w k.0 d k.1.1) next digital (λ p name e h. refl)))
  right_next (rights.Arguing w) k digital = rw (k.1.1.1.0, arguing_full w k.0 k.1.0 k.1.1.0 k.1.1.1.1.0)
      (ap (λ xs. xs ++ fault_if (long_name next) (Limit LongName) at
      ++ token_faults at (Some
      (record { names = names_with k.0.led k.1.0; grammar_state = k.1.1.0; leads_atom = false })) next behind)
      (append-nil (fault_if (begins_full d.rule next) (Limit TooManyArguments) at))
      ∙ ap (λ xs. fault_if (begins_full d.rule next) (Limit TooManyArguments) at
      ++ fault_if (long_name next) (Limit LongName) at ++ xs)
      (going_is at (record { names = names_with k.0.led k.1.0; grammar_state = k.1.1.0; leads_atom = false }) d.rule
      d.rule.expression false behind k.1.1.1.1.0.expression next digital (λ p name e h. refl)))
  right_next (rights.Argued w) k digital = rw (
    k.1.1.1.1.0,
    finished_begun k.1.1.0 k.1.1.1.0 k.1.1.1.1.1.finish_is,
    ended_going at behind k.1.1.0
        (record { names = names_with k.0.led k.1.0; grammar_state = k.1.1.0; leads_atom = false }) next refl
        k.1.1.1.1.1.ends,
  ) (simp append-nil)
  right_next rights.TargetClosed k digital = rw k.1.1.0 (simp append-nil)
