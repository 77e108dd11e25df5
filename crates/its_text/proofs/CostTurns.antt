-- Each step after a left term or within a cost keeps the limits: what was read is within them after the step exactly if
-- it was before and the state is quiet (it shows no fault at the next token).
use Rattle.std.proofs.Common.{◌≡◌, ◌≤◌, false, ◌↔◌, List, length, Option, Some, None, refl, ap, sym, subst, arith}
use Rattle.std.proofs.lemmas.List.{length-reverse}
use Rattle.expr_text.specs.model.Limits.{variable_limit}
use Rattle.expr_text.specs.Pieces as inner
use Rattle.expr_text.specs.Trees.{Sum}
use Rattle.expr_text.specs.GrammarStates as expression
use Rattle.expr_text.specs.Steps as expression_steps
use Rattle.expr_text.specs.StateNames.{goes_on_with}
use Rattle.expr_text.proofs.StateSteps.{token_ended, names_ended}
use Rattle.its_text.specs.Pieces.{Piece, In, Arrow, CostOpen, CostClose}
use Rattle.its_text.specs.Written.{LeftTerm}
use Rattle.its_text.specs.Numbering.{left_names}
use Rattle.its_text.specs.GrammarStates.{Ruling, SourceClosed, Costing}
use Rattle.its_text.specs.Steps.{behind_left, cost_step, cost_ended}
use Rattle.its_text.specs.StateNames.{symbols_of_arrow}
use Rattle.its_text.specs.StateFaults.{other_arity}
use Rattle.its_text.proofs.RoomLaws.{contrary, passes_not, arity_same}
use Rattle.its_text.proofs.KeptStates.{first, AreLeft, IsSourceOpen, IsSourceKept, IsCostingKept, IsArrowKept}
use Rattle.its_text.proofs.KeptStates.{IsArgumentExpanded, IsCostQuiet}
use Rattle.its_text.proofs.SectionTurns.{Turns}
use Rattle.its_text.proofs.ExpressionRoom.{goes_on, room_for_token, room_for_piece}

-- the left term has as many arguments as its symbol has places
places_kept : (r : Ruling) (t : LeftTerm) → IsSourceKept r t
    ↔ (IsSourceOpen r t × (other_arity (symbols_of_arrow r t) t.name (length t.arguments) ≡ false))
places_kept r t =
    let same = arity_same (symbols_of_arrow r t) t.name (length t.arguments) in
    (λ h. (h.0, same.1 h.1), λ h. (h.0, same.0 h.1))

-- the variables of a left term are fewer than may be in a rule
few_left : (t : LeftTerm) → AreLeft t.arguments → length (left_names t) ≤ variable_limit
few_left t left = let few = left.1 in let same = length-reverse t.arguments in omega (arith, few, same)

-- `->` keeps the limits exactly if the state is quiet
pub arrow_turns : (r : Ruling) (t : LeftTerm) (ps : List Piece)
    → Turns (SourceClosed r t) Arrow ps (Some (behind_left r t None))
arrow_turns r t ps =
    let places = places_kept r t in (
      λ h. places.0 h.source,
      λ h. record { source = places.1 h; cost = tt; variables = few_left t h.0.1 },
    )

-- `-{` keeps the limits exactly if the state is quiet
pub cost_turns : (r : Ruling) (t : LeftTerm) (ps : List Piece)
    → Turns (SourceClosed r t) CostOpen ps (Some (Costing r t expression.beginning))
cost_turns r t ps =
    let places = places_kept r t in (
      λ h. places.0 h.source,
      λ h. record { source = places.1 h; tokens = omega arith; variables = few_left t h.0.1 },
    )

-- A step that continues a cost keeps the limits exactly if the state is quiet.
cost_goes_on : (r : Ruling) (t : LeftTerm) (e f : expression.GrammarState) (p : inner.Piece) (behind : Option Piece)
    → expression_steps.step e p ≡ Some f
    → IsCostingKept r t f ↔ (IsCostingKept r t e × IsCostQuiet r t e (Some (In p)) behind)
cost_goes_on r t e f p behind same =
    let tokens = room_for_token e f p same in
    let variables = room_for_piece (left_names t) e f p behind same in
    let on = goes_on e f p same in (
      λ h.
          let y = tokens.0 h.tokens in
          let z = variables.0 h.variables in (
            record { source = h.source; tokens = y.0; variables = z.0 },
            record {
              cost = λ ends. contrary (goes_on_with e p) on (passes_not (goes_on_with e p) ends);
              going = λ k. (z.1, y.1);
            },
          ),
      λ h.
          let g = h.1.going on in
          record {
            source = h.0.source;
            tokens = tokens.1 (h.0.tokens, g.1);
            variables = variables.1 (h.0.variables, g.0);
          },
    )

-- The state after the end of a cost is within the limits exactly if the one before is and the cost can be expanded.
cost_ends : (r : Ruling) (t : LeftTerm) (e : expression.GrammarState) (c : Sum) → expression_steps.finish e ≡ Some c
    → IsArrowKept (record { ruling = r; left = t; cost = Some c })
    ↔ (IsCostingKept r t e × IsArgumentExpanded (left_names t) (Some c))
cost_ends r t e c same =
    let tokens = token_ended e c same in
    let named = ap length (names_ended (left_names t) e c same) in (
      λ h. (
        record {
          source = h.source;
          tokens = (let few = h.cost.tokens in omega (arith, few, tokens));
          variables = (let few = h.variables in omega (arith, few, named));
        },
        h.cost.expanded,
      ),
      λ h. record {
        source = h.0.source;
        cost = record { tokens = (let few = h.0.tokens in omega (arith, few, tokens)); expanded = h.1 };
        variables = (let few = h.0.variables in omega (arith, few, named));
      },
    )

-- within a cost each step keeps the limits exactly if the state is quiet
pub costing_turns : (r : Ruling) (t : LeftTerm) (e : expression.GrammarState) (p : inner.Piece) (ps : List Piece)
    → Turns (Costing r t e) (In p) ps (cost_step r t (expression_steps.step e p))
costing_turns r t e p ps = go (expression_steps.step e p) refl
  where
    go : (o : Option expression.GrammarState) → expression_steps.step e p ≡ o
        → Turns (Costing r t e) (In p) ps (cost_step r t o)
    go None same = tt
    go (Some f) same = cost_goes_on r t e f p (first ps) same

-- `}>` after a cost keeps the limits exactly if the state is quiet
pub cost_closed_turns : (r : Ruling) (t : LeftTerm) (e : expression.GrammarState) (ps : List Piece)
    → Turns (Costing r t e) CostClose ps (cost_ended r t (expression_steps.finish e))
cost_closed_turns r t e ps = go (expression_steps.finish e) refl
  where
    go : (o : Option Sum) → expression_steps.finish e ≡ o → Turns (Costing r t e) CostClose ps (cost_ended r t o)
    go None same = tt
    go (Some c) same =
        let ends = cost_ends r t e c same in (
          λ h.
              let k = ends.0 h in
              (k.0, record { cost = λ _. subst (IsArgumentExpanded (left_names t)) (sym same) k.1; going = tt }),
          λ h. ends.1 (h.0, subst (IsArgumentExpanded (left_names t)) same (h.1.cost refl)),
        )
