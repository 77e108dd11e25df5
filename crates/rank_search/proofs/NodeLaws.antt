-- The function that a node is read off ranks the rule, and has least weight.
use Rattle.std.proofs.Common.{arith, ap, ◌∙◌, List, Some}
use Rattle.simplex_core.specs.linear_forms.Forms.{at}
use Rattle.simplex_core.specs.linear_forms.QuestionLaws.{parameters_of}
use Rattle.simplex_core.specs.linear_forms.RuleQuestions.{has_symbol}
use Rattle.cert_types.proofs.rule_forms.RankFits.{function-fits}
use Rattle.cert_types.specs.cert_rules.Composed.{rank_form}
use Rattle.cert_types.specs.cert_rules.Nodes.{SymbolForm}
use Rattle.rank_search.specs.RankLaws.{function_of_node, RankedNodesRank}
use Rattle.rank_search.proofs.ShownParts.{part-of}
use Rattle.rank_search.proofs.RankExact.{node-ranks, node-least}

-- the function that a node is read off ranks the rule, and has least weight if all rules have points
pub nodes-rank : RankedNodesRank
nodes-rank = record {
  parts = λ b pivots node n s h l.
      ap (λ (fs : List SymbolForm). rank_form fs (Some s)) n.forms
      ∙ part-of (function_of_node b pivots node n) (has_symbol b) 0 b.symbols s h (omega arith) (omega (arith, l));
  fits = λ b pivots node n. function-fits b (parameters_of (at n.numbers));
  ranks = λ p set strict shut pivots node valid rules n. node-ranks p set strict shut valid rules pivots node n;
  least = λ p set strict shut pivots node valid rules n points. node-least p set strict shut valid rules pivots node n
      points;
}
