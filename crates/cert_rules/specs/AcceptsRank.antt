-- When a ranking node is accepted.
use Rattle.std.specs.Prelude.{◌≡◌, ◌≢◌, ℕ, suc, ◌≤◌, ◌==◌, true, cond, List, [], ◌∷◌, length, map, All, ℤ, pos}
use Rattle.run_counting.specs.model.Programs.{Program, arity_of}
use Rattle.run_counting.specs.model.Bounds.{Bound}
use Rattle.rule_forms.specs.linear_forms.Forms.{Form, at}
use Rattle.rule_forms.specs.linear_forms.Certificates.{Implies}
use Rattle.cert_rules.specs.Nodes.{SymbolForm, RankNode}
use Rattle.run_counting.specs.model.Entries.{is_in, IsEntry}
use Rattle.cert_rules.specs.Numbers.{IsAscending}
use Rattle.run_counting.specs.model.Paths.{source_of, target_of}
use Rattle.cert_rules.specs.Graph.{symbols_of}
use Rattle.rule_forms.specs.linear_forms.Combinations.{less}
use Rattle.rule_forms.specs.linear_forms.RuleQuestions.{constant_form}
use Rattle.rule_forms.specs.linear_forms.Losses.{loss}
use Rattle.cert_rules.specs.Known.{IsKnown, Table}
use Rattle.cert_rules.specs.Composed.{rank_form, time_of}
use Rattle.cert_rules.specs.Limits.{IsInLimit, IsFormInLimit, IsSmallComposed}
use Rattle.cert_rules.specs.AcceptsPlain.{IsRule, AreMultipliers}
use Rattle.cert_rules.specs.Setting.{Setting}

-- the form has one coefficient a place of its symbol, and its numbers are within the limit
pub record HasFormShape (p : Program) (f : SymbolForm) : Type 0 where
  pub long : length f.form.coefs ≡ arity_of p f.symbol
  pub limit : IsFormInLimit f.form

-- the multipliers of rule t: those at its position in the set
abbrev pub moves_of : List ℕ → List (List ℕ) → ℕ → List ℕ
moves_of [] moves t = []
moves_of (u ∷ set) [] t = []
moves_of (u ∷ set) (m ∷ moves) t = cond (u == t) m (moves_of set moves t)

-- the shape of a ranking node, checked before anything else: the set is ascending, has only numbers of rules and
-- contains the rule; there is one form for each source and target symbol of the set, in symbol order; the denominator
-- is at least 1; there are multipliers for each rule of the set and for the floor; and all numbers are within the
-- limit
pub record HasRankShape (s : Setting) (node : RankNode) : Type 0 where
  pub ascending : IsAscending node.set
  pub rules : (t : ℕ) → is_in t node.set ≡ true → IsRule s.program t
  pub inside : is_in node.rule node.set ≡ true
  pub symbols : map (λ f. f.symbol) node.forms ≡ symbols_of s.program node.set
  pub forms : All (HasFormShape s.program) node.forms
  pub den : 1 ≤ node.den
  pub den_limit : IsInLimit node.den
  pub one_each : length node.moves ≡ length node.set
  pub moves : (t : ℕ) → is_in t node.set ≡ true → AreMultipliers s t (moves_of node.set node.moves t)
  pub floor : AreMultipliers s node.rule node.floor

-- the ranking function at the source of a rule, and at its target
abbrev pub at_source : Program → RankNode → ℕ → Form
at_source p node t = rank_form node.forms (source_of p t)

abbrev pub at_target : Program → RankNode → ℕ → Form
at_target p node t = rank_form node.forms (target_of p t)

-- the least loss by a rule: the denominator for the strict rule, and 0 for the others
abbrev pub least_loss : RankNode → ℕ → ℤ
least_loss node t = cond (t == node.rule) (pos node.den) (pos 0)

-- the rows of the rule imply that the function loses at least this much: its value before the rule less that after it
abbrev pub Loses : Setting → RankNode → ℕ → Type 0
Loses s node t = Implies (s.rows t) (moves_of node.set node.moves t)
    (loss (at_source s.program node t) (at_target s.program node t) (s.new_values t) (least_loss node t))

-- the rows of the strict rule imply that the function is at least the denominator before it
abbrev pub HasFloor : Setting → RankNode → Type 0
HasFloor s node = Implies (s.rows node.rule) node.floor
    (less (at_source s.program node node.rule) (constant_form (pos node.den)))

-- the time that the node composes
abbrev pub rank_time : Setting → RankNode → Table → Bound
rank_time s node table = time_of s.program node table.time table.size

-- a ranking function: it doesn't rise by a rule of the set, by the strict rule it falls by at least 1 and is at least
-- 1 before; each entry has a time, and a size at each place that the function reads after it; and the composed bound
-- is small
pub record AcceptsRank (s : Setting) (table : Table) (node : RankNode) : Type 0 where
  pub shape : HasRankShape s node
  pub moves : (t : ℕ) → is_in t node.set ≡ true → Loses s node t
  pub floor : HasFloor s node
  pub times : (e : ℕ) → IsEntry s.program node.set e → IsKnown (table.time e)
  pub sizes : (e : ℕ) → IsEntry s.program node.set e → (j : ℕ) → at (at_target s.program node e).coefs j ≢ pos 0
      → IsKnown (table.size e (suc j))
  pub small : IsSmallComposed s.rewrite (rank_time s node table)
