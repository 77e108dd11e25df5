-- Reading a function, multipliers and points off the numbers of a solution or of a dual, in order.
use Rattle.std.specs.Prelude.{◌≡◌, ◌*◌, ◌++◌, ℕ, zero, suc, ◌+◌, not, Bool, if◌then◌else◌}
use Rattle.std.specs.Prelude.{List, [], ◌∷◌, length, map, filter, ℤ, pos, Option, Some, None, slice_get}
use Rattle.std.specs.List.{range_with_len}
use Rattle.simplex_core.specs.linear_forms.Forms.{at}
use Rattle.simplex_core.specs.linear_forms.Combinations.{zero_form}
use Rattle.simplex_core.specs.linear_forms.Questions.{Group}
use Rattle.simplex_core.specs.linear_forms.QuestionLaws.{after, parameters_of, multipliers_by_group}
use Rattle.poly_terms.specs.model.Programs.{Program, arity_of}
use Rattle.poly_terms.specs.Views.{form_of}
use Rattle.guard_prep.specs.declared.rule_rows.RuleRows.{RuleRows}
use Rattle.cert_types.specs.cert_rules.Gaps.{SymbolPlace, is_shut}
use Rattle.cert_types.specs.cert_rules.Nodes.{SymbolForm}
use Rattle.cert_types.specs.declared.answer.GuardFeasibility.{GuardFeasibility}
use Rattle.cert_types.specs.declared.gap.Gap.{Gap}
use Rattle.cert_types.specs.declared.rank.RankNode.{RankNode}
use Rattle.cert_types.specs.AnswerViews.{gap_of}
use Rattle.cert_types.specs.Views.{rank_of}
use Rattle.rule_questions.specs.RuleAnswers.{answer_for, point_in}
use Rattle.rank_search.specs.RankAnswers.{points_of}

-- how many of n places from a on aren't shut
abbrev pub open_count : (ℕ → Bool) → ℕ → ℕ → ℕ
open_count shut a n = length (filter (λ i. not (shut i)) (range_with_len a n))

-- the coefficients of n places from a on: the next parameter, numbered from k on, for each that isn't shut, and 0 for
-- the others
abbrev pub read_coefs : (ℕ → Bool) → (ℕ → ℤ) → ℕ → ℕ → ℕ → List ℤ
read_coefs shut v k a zero = []
read_coefs shut v k a (suc n) =
    if shut a then pos 0 ∷ read_coefs shut v k (a + 1) n else v k ∷ read_coefs shut v (k + 1) (a + 1) n

-- the form of the function at a symbol, from parameter k on, given which places are shut: the coefficients of its
-- places, and then its constant
abbrev pub form_by : (ℕ → ℕ → Bool) → Program → (ℕ → ℤ) → ℕ → ℕ → SymbolForm
form_by closed p v k s = record {
  symbol = s;
  form = record {
    coefs = read_coefs (closed s) v k 1 (arity_of p s);
    constant = v (k + open_count (closed s) 1 (arity_of p s));
  };
}

-- the same form, given the list of the shut places
abbrev pub read_form : Program → List SymbolPlace → (ℕ → ℤ) → ℕ → ℕ → SymbolForm
read_form p shut v k s = form_by (is_shut shut) p v k s

-- the forms at symbols, one after the other
abbrev pub read_forms : Program → List SymbolPlace → (ℕ → ℤ) → ℕ → List ℕ → List SymbolForm
read_forms p shut v k [] = []
read_forms p shut v k (s ∷ ss) =
    read_form p shut v k s ∷ read_forms p shut v (k + open_count (is_shut shut s) 1 (arity_of p s) + 1) ss

-- the unknowns and rows of a rule, as a group without goals
abbrev pub shape_of : Option RuleRows → Group
shape_of None = record { unknowns = 0; rows = []; goals = []; fixed = zero_form }
shape_of (Some m) = record { unknowns = m.unknowns; rows = map form_of m.rows.items; goals = []; fixed = zero_form }

-- the group without goals of the rule with a number; rules are numbered from 1
abbrev pub shape_at : List RuleRows → ℕ → Group
shape_at prepared_rules zero = shape_of None
shape_at prepared_rules (suc t) = shape_of (slice_get prepared_rules t)

-- the groups of a rank question, without goals: the rules of the set, and the strict rule for the floor
abbrev pub shapes : List RuleRows → List ℕ → ℕ → List Group
shapes prepared_rules set strict = map (shape_at prepared_rules) set ++ (shape_at prepared_rules strict ∷ [])

-- a rank question: the rules of a set, the one that has to decrease, and the shut places
pub record RankQuestion : Type 0 where
  pub set : List ℕ
  pub strict : ℕ
  pub shut : List SymbolPlace

-- the node is read off the numbers of a solution with this many parameters, over a denominator
pub record IsNodeRead (p : Program) (prepared_rules : List RuleRows) (q : RankQuestion) (symbols : List ℕ)
    (parameters : ℕ)
    (numbers : List ℤ) (den : ℕ) (node : RankNode) : Type 0 where
  pub numbered : (rank_of node).rule ≡ q.strict
  pub same_set : (rank_of node).set ≡ q.set
  pub over : (rank_of node).den ≡ den
  pub forms : (rank_of node).forms ≡ read_forms p q.shut (parameters_of (at numbers)) 0 symbols
  pub multipliers : (rank_of node).moves ++ ((rank_of node).floor ∷ [])
      ≡ multipliers_by_group (after (2 * parameters) (at numbers)) (shapes prepared_rules q.set q.strict)
  pub unused : node.uses.items ≡ []

-- the gap is read off the numbers of a dual, with the points of the rules of the set
pub record IsGapRead (prepared_rules : List RuleRows) (q : RankQuestion) (empties : List GuardFeasibility)
    (numbers : List ℤ)
    (gap : Gap) : Type 0 where
  pub numbered : (gap_of gap).rule ≡ q.strict
  pub same_set : (gap_of gap).set ≡ q.set
  pub same_shut : (gap_of gap).shut ≡ q.shut
  pub points : (gap_of gap).moves ++ ((gap_of gap).floor ∷ [])
      ≡ points_of (at numbers) (shapes prepared_rules q.set q.strict)
  pub kept : map (λ z. Some z) (gap_of gap).kept ≡ map (λ t. point_in (answer_for empties t)) q.set
