-- The state after each piece within the braces of a cost.
use Rattle.std.specs.Prelude.{◌≡◌, true, not, if◌then◌else◌, List, Option, Some, None, refl}
use Rattle.std.proofs.Common.{sym, ap, subst, ◌∙◌}
use Rattle.model.specs.Programs.{Name}
use Rattle.its_text.specs.expr_text.Pieces as inner
use Rattle.its_text.specs.expr_text.GrammarStates as expression
use Rattle.its_text.specs.expr_text.Steps as expression_steps
use Rattle.its_text.specs.expr_text.StateNames.{is_state, goes_on_with}
use Rattle.its_text.specs.expr_text.GuardGrammarStates.{no_atoms}
use Rattle.expr_reader.specs.Standing.{IsModest}
use Rattle.expr_reader.specs.GuardRepresentation.{IsWanting}
use Rattle.its_text.specs.Pieces.{Piece, In, CostClose}
use Rattle.its_text.specs.Written.{LeftTerm}
use Rattle.its_text.specs.Numbering.{left_names}
use Rattle.its_text.specs.GrammarStates as grammar_states
use Rattle.its_text.specs.GrammarStates.{GrammarState, Ruling}
use Rattle.its_text.specs.StateNames.{symbols_of_arrow}
use Rattle.its_text.specs.StateFaults.{Tokens, ends_expression}
use Rattle.its_text.specs.Steps.{step, cost_step}
use Rattle.its_reader.specs.Tests as tests
use Rattle.its_reader.specs.Standing.{KnowsSymbols, without_cost}
use Rattle.its_reader.specs.Places.{CostPartEnded, LeadsTo, IsCosting, IsCosted}
use Rattle.its_reader.specs.StateSteps.{GoTogether, IsModestPiece, GoesOn, Takes, TakesPiece, CostLeads}
use Rattle.its_reader.specs.declared.draft.Draft.{Draft}
use Rattle.its_reader.specs.declared.parser_state.CostState.{CostState}
use Rattle.its_reader.specs.declared.parser_state.CostState.TheVariants as costs
use Rattle.its_reader.specs.declared.parser_state.TargetState.TheVariants as rights
use Rattle.its_reader.specs.declared.parser_state.ParserState.{ParserState}
use Rattle.its_reader.specs.declared.parser_state.ParserState.TheVariants as places
use Rattle.its_reader.proofs.LeftLaws.{leads_together}
use Rattle.its_reader.proofs.ArrowLaws.{arrow_kept}
use Rattle.its_reader.proofs.RightPromises.{takes_written}

-- the state within the braces while a cost is read
abbrev reading : ParserState
reading = places.InCost costs.Costing

module _ (r : Ruling) (t : LeftTerm) (e : expression.GrammarState) (p : inner.Piece) (old new : Draft)
    (result : Option ParserState) where
  -- a piece continues a cost, and the rest of the draft is unchanged
  cost_goes_on : (ts : Tokens) (more : expression.GrammarState) → IsCosting ts r t e old
      → expression_steps.step e p ≡ Some more → IsModest p → GoesOn old p new → IsCosting ts r t more new
  cost_goes_on ts more k led modest g = record {
    led = arrow_kept ts (without_cost r t) old new k.led g.sections g.rules g.stays.source g.stays.left g.stays.cost;
    symbols = subst (KnowsSymbols (symbols_of_arrow r t)) (sym g.symbols) k.symbols;
    updates = ap (λ v. v.items) g.stays.updates ∙ k.updates;
    guard = subst (λ g. (before : List Name) → IsWanting before no_atoms before g) (sym g.stays.guard) k.guard;
    expression = g.leads.each (left_names t) e more k.expression led modest;
  }

  -- the state after a piece of an expression within a cost
  inner_leads : (ts : Tokens) (next : Option Piece) → IsCosting ts r t e old → IsModest p
      → Takes (goes_on_with e p) reading old p result new → LeadsTo ts next (cost_step r t (expression_steps.step e p))
      result new
  inner_leads ts next k modest h = go (expression_steps.step e p) refl h
    where
      go : (o : Option expression.GrammarState) → expression_steps.step e p ≡ o
          → Takes (is_state o) reading old p result new → LeadsTo ts next (cost_step r t o) result new
      go (Some more) led h = rw h.0 (r, (t, (more, (refl, cost_goes_on ts more k led modest h.1))))
      go None led h = rw h.0 tt

  -- both accept the piece, or both reject it
  inner_together : Takes (goes_on_with e p) reading old p result new
      → GoTogether (cost_step r t (expression_steps.step e p)) result
  inner_together h = go (expression_steps.step e p) h
    where
      go : (o : Option expression.GrammarState) → Takes (is_state o) reading old p result new
          → GoTogether (cost_step r t o) result
      go (Some more) h = rw h.0 tt
      go None h = rw h.0 tt

-- in a cost that continues, the code steps as the written state does
pub costing_promise : (p : Piece) (old new : Draft) (result : Option ParserState) → TakesPiece reading old p result new
    → CostLeads costs.Costing old p result new
costing_promise p old new result h = record {
  together = λ ts f k. rw k.1.1.1.0 (together ts p h k.0 k.1.0 k.1.1.0 k.1.1.1.1.0 k.1.1.1.1.1);
  each = λ ts next f k modest. rw k.1.1.1.0 (each ts next p h modest k.0 k.1.0 k.1.1.0 k.1.1.1.1.0 k.1.1.1.1.1);
}
  where
    together : (ts : Tokens) (p : Piece) → TakesPiece reading old p result new
        → (r : Ruling) (t : LeftTerm) (e : expression.GrammarState) → IsCosting ts r t e old
        → (ends_expression e (Some p) ≡ true → expression_steps.finish e ≡ None)
        → GoTogether (step (grammar_states.Costing r t e) p) result
    together ts (In q) h r t e k stops = inner_together r t e q old new result
        (takes_written reading (left_names t) e q old new result k.expression h)
    together ts CostClose h r t e k stops = rw (stops refl, h.0) tt
    together ts _ h r t e k stops = rw h.0 tt

    each : (ts : Tokens) (next : Option Piece) (p : Piece) → TakesPiece reading old p result new → IsModestPiece p
        → (r : Ruling) (t : LeftTerm) (e : expression.GrammarState) → IsCosting ts r t e old
        → (ends_expression e (Some p) ≡ true → expression_steps.finish e ≡ None)
        → LeadsTo ts next (step (grammar_states.Costing r t e) p) result new
    each ts next (In q) h modest r t e k stops = inner_leads r t e q old new result ts next k modest
        (takes_written reading (left_names t) e q old new result k.expression h)
    each ts next CostClose h modest r t e k stops = rw (stops refl, h.0) tt
    each ts next _ h modest r t e k stops = rw h.0 tt

-- after a cost that has ended only `}>` can follow
costed_leads : (ts : Tokens) (next : Option Piece) (p : Piece) (f : GrammarState) (d : Draft)
    → CostPartEnded ts (Some p) costs.Costed d f
    → LeadsTo ts next (step f p) (if tests.is_cost_close p then Some (places.InRight rights.Arrowed) else None) d
costed_leads ts next p f d k = rw k.1.1.1.1.0 (go p known.ends)
  where
    known : IsCosted ts (Some p) k.0 k.1.0 k.1.1.0 k.1.1.1.0 d
    known = k.1.1.1.1.1

    stopped : (o : Option expression.GrammarState) → not (is_state o) ≡ true
        → LeadsTo ts next (cost_step k.0 k.1.0 o) None d
    stopped (Some more) n = cc
    stopped None n = tt

    go : (p : Piece) → ends_expression k.1.1.0 (Some p) ≡ true
        → LeadsTo ts next (step (grammar_states.Costing k.0 k.1.0 k.1.1.0) p)
        (if tests.is_cost_close p then Some (places.InRight rights.Arrowed) else None) d
    go (In q) ends = stopped (expression_steps.step k.1.1.0 q) ends
    go CostClose ends = rw known.finish_is
        (record { ruling = k.0; left = k.1.0; cost = Some k.1.1.1.0 }, (refl, known.left))
    go _ ends = tt

-- in the code, only `}>` can follow such a cost
pub costed_promise : (p : Piece) (old : Draft) (result : Option ParserState)
    → result ≡ (if tests.is_cost_close p then Some (places.InRight rights.Arrowed) else None)
    → CostLeads costs.Costed old p result old
costed_promise p old result h = record {
  together = λ ts f k. leads_together ts None (step f p) result old (rw h (costed_leads ts None p f old k));
  each = λ ts next f k modest. rw h (costed_leads ts next p f old k);
}

-- a state within the braces of a cost that is equal to a known one satisfies the known state's contract
pub in_cost_state : (state known : CostState) (old new : Draft) (p : Piece) (result : Option ParserState)
    → state ≡ known → CostLeads known old p result new → CostLeads state old p result new
in_cost_state state known old new p result e h = subst (λ (q : CostState). CostLeads q old p result new) (sym e) h
