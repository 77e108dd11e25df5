-- Tests of ranking nodes, and of known times, sizes and composed bounds.
use Rattle.std.specs.Prelude.{ℕ, ◌==◌, ◌&&◌, not, nat_le, Bool, true, false, List, [], ◌∷◌, length, map, is_some, pos}
use Rattle.std.specs.List.{list_all}
use Rattle.run_counting.specs.model.Programs.{Program, arity_of}
use Rattle.run_counting.specs.model.Bounds.{Bound}
use Rattle.run_counting.specs.model.Entries.{is_in, entries}
use Rattle.bound_expr.specs.Measure.{is_large}
use Rattle.rule_forms.specs.linear_forms.Combinations.{less}
use Rattle.rule_forms.specs.linear_forms.RuleQuestions.{constant_form}
use Rattle.rule_forms.specs.linear_forms.Losses.{loss}
use Rattle.cert_rules.specs.Nodes.{ResultVariable, SymbolForm, RankNode}
use Rattle.cert_rules.specs.Graph.{symbols_of}
use Rattle.cert_rules.specs.Known.{Table}
use Rattle.cert_rules.specs.Setting.{Setting}
use Rattle.cert_rules.specs.AcceptsRank.{moves_of, at_source, at_target, least_loss, rank_time}
use Rattle.cert_rules.specs.Reasons.{Shape, Move, Floor, MissingTime, MissingSize, Large, for_each}
use Rattle.cert_rules.specs.Checks.{large_nodes, needed_after_each}
use Rattle.cert_rules.specs.Tests.{Test, test}
use Rattle.cert_rules.specs.NumberTests.{is_in_limit, is_form_in_limit, are_multipliers, is_ascending, implies}
use Rattle.cert_rules.specs.PlainTests.{is_rule}

-- the test that a rule has a time, and the test that a place after a rule has a size
abbrev pub test_time : Table → ℕ → Test
test_time table t = test (MissingTime t) (is_some (table.time t))

abbrev pub test_size : Table → ResultVariable → Test
test_size table result_variable = test (MissingSize result_variable.rule result_variable.place) (is_some (table.size result_variable.rule result_variable.place))

-- the composed bound isn't large, neither before nor after it is rewritten
abbrev pub is_small : (Bound → Bound) → Bound → Bool
is_small rewrite b = not (is_large b) && not (is_large (rewrite b))

abbrev pub test_small : Setting → Bound → Test
test_small s b = test (Large (large_nodes s.rewrite b)) (is_small s.rewrite b)

-- two lists have the same numbers in the same order
abbrev pub are_same : List ℕ → List ℕ → Bool
are_same [] [] = true
are_same [] (y ∷ ys) = false
are_same (x ∷ xs) [] = false
are_same (x ∷ xs) (y ∷ ys) = (x == y) && are_same xs ys

-- the form has one coefficient a place of its symbol, and its numbers are within the limit
abbrev pub has_form_shape : Program → SymbolForm → Bool
has_form_shape p f = (length f.form.coefs == arity_of p f.symbol) && is_form_in_limit f.form

-- the set is ascending, has only numbers of rules and holds the rule
abbrev pub has_set_shape : Program → RankNode → Bool
has_set_shape p node = is_ascending node.set && list_all (is_rule p) node.set && is_in node.rule node.set

-- there is one form for each source and target symbol of the set, in symbol order, over a denominator of at least 1
abbrev pub has_function_shape : Program → RankNode → Bool
has_function_shape p node =
    are_same (map (λ f. f.symbol) node.forms) (symbols_of p node.set)
    && list_all (has_form_shape p) node.forms
    && nat_le 1 node.den
    && is_in_limit node.den

-- there are multipliers for each rule of the set, and for the floor
abbrev pub has_certificate_shape : Setting → RankNode → Bool
has_certificate_shape s node =
    (length node.moves == length node.set)
    && list_all (λ t. are_multipliers s t (moves_of node.set node.moves t)) node.set
    && are_multipliers s node.rule node.floor

-- the function loses at least the least loss by the rule
abbrev pub loses : Setting → RankNode → ℕ → Bool
loses s node t =
    implies (s.rows t) (moves_of node.set node.moves t)
    (loss (at_source s.program node t) (at_target s.program node t) (s.new_values t) (least_loss node t))

-- the function is at least the denominator before the strict rule
abbrev pub has_floor : Setting → RankNode → Bool
has_floor s node =
    implies (s.rows node.rule) node.floor (less (at_source s.program node node.rule) (constant_form (pos node.den)))

-- the tests of a ranking node: the shape; the loss by each rule of the set; the floor; a time for each entry; a size
-- for each place that is read after an entry; and that the composed bound is small
abbrev pub rank_tests : Setting → Table → RankNode → List Test
rank_tests s table node =
    test Shape (has_set_shape s.program node && has_function_shape s.program node && has_certificate_shape s node) ∷
    for_each (λ t. test (Move t) (loses s node t)) node.set
    (test Floor (has_floor s node) ∷
    for_each (test_time table) (entries s.program node.set)
    (for_each (test_size table) (needed_after_each s node (entries s.program node.set))
    (test_small s (rank_time s node table) ∷ [])))
