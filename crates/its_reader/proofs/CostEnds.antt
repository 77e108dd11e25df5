-- A cost ends before the next piece exactly if the written one does, and the fault at its last byte is found.
use Rattle.std.specs.Prelude.{◌≡◌, ℕ, Bool, true, false, ◌&&◌, List, Option, Some, None, refl}
use Rattle.std.proofs.Common.{sym, ap, subst, ◌∙◌}
use Rattle.model.specs.Programs.{Name}
use Rattle.its_text.specs.expr_text.Pieces as inner
use Rattle.its_text.specs.expr_text.Trees.{Sum}
use Rattle.its_text.specs.expr_text.GrammarStates as expression
use Rattle.its_text.specs.expr_text.Steps as expression_steps
use Rattle.its_text.specs.expr_text.GuardGrammarStates.{no_atoms}
use Rattle.expr_reader.specs.Variables.{names_in}
use Rattle.expr_reader.specs.GuardRepresentation.{IsWanting}
use Rattle.its_text.specs.Pieces.{Piece}
use Rattle.its_text.specs.Written.{LeftTerm}
use Rattle.its_text.specs.Numbering.{left_names}
use Rattle.its_text.specs.GrammarStates as grammar_states
use Rattle.its_text.specs.GrammarStates.{Ruling}
use Rattle.its_text.specs.StateFaults.{Tokens, ends_expression, last_faults}
use Rattle.its_reader.specs.Tests.{inner_next}
use Rattle.its_reader.specs.Faults.{maybe_kind}
use Rattle.its_reader.specs.FaultTests.{is_costing}
use Rattle.its_reader.specs.Places.{CostPartEnded, PartEndedAt, IsCosting, IsCosted}
use Rattle.its_reader.specs.TokenSteps.{EndsPart}
use Rattle.its_reader.specs.PartEnds.{ends_in, AfterCost, CostEndsPartBy, CostEndsPart}
use Rattle.its_reader.specs.declared.fault.Kind.{Kind}
use Rattle.its_reader.specs.declared.parser_state.CostState.{CostState}
use Rattle.its_reader.specs.declared.parser_state.CostState.TheVariants as costs
use Rattle.its_reader.specs.declared.parser_state.ParserState.{ParserState}
use Rattle.its_reader.specs.declared.parser_state.ParserState.TheVariants as places
use Rattle.its_reader.specs.declared.draft.RuleDraft.{RuleDraft}
use Rattle.its_reader.specs.declared.draft.Draft.{Draft}
use Rattle.its_reader.proofs.ExpressionEnds.{ends_by, ended_names, made_is, ended_found, going_silent}

module _ (ts : Tokens) (next : Option Piece) (r : Ruling) (t : LeftTerm) (e : expression.GrammarState) (old : Draft)
    (k : IsCosting ts r t e old) where
  -- the draft after a cost that has ended represents that cost
  cost_over : (rule : RuleDraft) (refusal : Option Kind) (c : Sum) → expression_steps.finish e ≡ Some c
      → ends_expression e next ≡ true → AfterCost old.rule refusal rule
      → IsCosted ts next r t e c (record old { rule = rule })
  cost_over rule refusal c finish ends h = record {
    finish_is = finish;
    ends = ends;
    left = record {
      led = record {
        sections = k.led.sections;
        rules_are = k.led.rules_are;
        source_is = h.source ∙ k.led.source_is;
        left_is = h.left ∙ k.led.left_is;
        cost_is = h.cost ∙ ap Some
            (made_is (left_names t) e (names_in old.rule.variables) old.rule.expression k.expression c finish h.made
            h.ends);
      };
      symbols = k.symbols;
      names_are = ap names_in h.variables ∙ ended_names (left_names t) e (names_in old.rule.variables)
          old.rule.expression k.expression c finish;
      updates = ap (λ v. v.items) h.updates ∙ k.updates;
      expression = h.clears.each (left_names t) (names_in old.rule.variables) e c k.expression finish;
      guard = subst (λ g. (before : List Name) → IsWanting before no_atoms before g) (sym h.guard) k.guard;
    };
  }

  -- a cost ends or continues in the code as in the written text
  cost_part_ended : (rule : RuleDraft) (now : ParserState) (refusal : Option Kind)
      → CostEndsPartBy (ends_in old.rule.expression (inner_next next)) costs.Costing old.rule now refusal rule
      → PartEndedAt ts next now (record old { rule = rule }) (grammar_states.Costing r t e)
      × ((at : ℕ) → maybe_kind refusal at ≡ last_faults at (grammar_states.Costing r t e) next)
  cost_part_ended rule now refusal h = go (ends_in old.rule.expression (inner_next next)) refl h
    where
      go : (v : Bool) → ends_in old.rule.expression (inner_next next) ≡ v
          → CostEndsPartBy v costs.Costing old.rule now refusal rule
          → PartEndedAt ts next now (record old { rule = rule }) (grammar_states.Costing r t e)
          × ((at : ℕ) → maybe_kind refusal at ≡ last_faults at (grammar_states.Costing r t e) next)
      go true v h =
          let s = ends_by (left_names t) e (names_in old.rule.variables) old.rule.expression k.expression next true v in (
            subst (λ p. PartEndedAt ts next p (record old { rule = rule }) (grammar_states.Costing r t e)) (sym h.0)
                (r, (t, (e, (s.0, (refl, cost_over rule refusal s.0 s.1.0 s.1.1 h.1))))),
            λ at. h.1.found_is at ∙ ended_found (left_names t) e (names_in old.rule.variables) old.rule.expression
                k.expression s.0 s.1.0 at next h.1.made h.1.ends s.1.1,
          )
      go false v h =
          let stops = ends_by (left_names t) e (names_in old.rule.variables) old.rule.expression k.expression next false
          v in (
            subst (λ p. PartEndedAt ts next p (record old { rule = rule }) (grammar_states.Costing r t e)) (sym h.0)
                (subst (λ q. CostPartEnded ts next costs.Costing (record old { rule = q })
                (grammar_states.Costing r t e)) (sym h.1.1) (r, (t, (e, (refl, (k, stops)))))),
            λ at. ap (λ o. maybe_kind o at) h.1.0 ∙ going_silent at (left_names t) e next stops,
          )

-- a part that ends within the braces of a cost ends exactly if the written one does, and the fault at its last byte is
-- found
pub cost_ends_part : (state : CostState) (old : Draft) (rule : RuleDraft) (next : Option Piece) (now : ParserState)
    (refusal : Option Kind) → CostEndsPart state old.rule next now refusal rule
    → EndsPart (places.InCost state) old next now (maybe_kind refusal) (record old { rule = rule })
cost_ends_part costs.Costing old rule next now refusal h = record {
  part_ended = λ ts f k. subst (λ f. PartEndedAt ts next now (record old { rule = rule }) f) (sym k.1.1.1.0)
      (cost_part_ended ts next k.0 k.1.0 k.1.1.0 old k.1.1.1.1 rule now refusal h.by).0;
  found_is = λ ts at f k. (cost_part_ended ts next k.0 k.1.0 k.1.1.0 old k.1.1.1.1 rule now refusal h.by).1 at
      ∙ sym (ap (λ f. last_faults at f next) k.1.1.1.0);
}
cost_ends_part costs.Costed old rule next now refusal h =
    record { part_ended = λ ts f k. absurd k; found_is = λ ts at f k. absurd k }

-- if the cost ends before the next piece, the contract is that of a cost that has ended
pub cost_is_over : {state : CostState} {old new : RuleDraft} {n : Option inner.Piece} {next : Option Piece} {refusal :
    Option Kind} → is_costing state && ends_in old.expression n ≡ true → n ≡ inner_next next → AfterCost old refusal new
    → CostEndsPart state old next (places.InCost costs.Costed) refusal new
cost_is_over {state} {old} {new} {n} {next} {refusal} e same a = record {
  by = subst (λ v. CostEndsPartBy v state old (places.InCost costs.Costed) refusal new)
      (sym (ap (λ n. is_costing state && ends_in old.expression n) (sym same) ∙ e)) (refl, a);
}

-- if no cost ends before the next piece, nothing changes
pub cost_is_on : {state : CostState} {old : RuleDraft} {n : Option inner.Piece} {next : Option Piece}
    → is_costing state && ends_in old.expression n ≡ false → n ≡ inner_next next
    → CostEndsPart state old next (places.InCost state) None old
cost_is_on {state} {old} {n} {next} e same = record {
  by = subst (λ v. CostEndsPartBy v state old (places.InCost state) None old)
      (sym (ap (λ n. is_costing state && ends_in old.expression n) (sym same) ∙ e)) (refl, (refl, refl));
}
