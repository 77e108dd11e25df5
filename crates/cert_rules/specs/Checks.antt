-- The checks of each kind of node, in the order in which they are made.
use Rattle.std.specs.Prelude.{◌≡◌, ℕ, suc, ◌&&◌, ◌||◌, not, Bool, true, List, [], ◌∷◌, ◌++◌, length, map, filter}
use Rattle.std.specs.Prelude.{if◌then◌else◌, ℤ}
use Rattle.std.specs.List.{range_with_len}
use Rattle.run_counting.specs.model.Bounds.{Bound}
use Rattle.run_counting.specs.model.Facts.{Fact}
use Rattle.run_counting.specs.model.Paths.{pre}
use Rattle.rule_forms.specs.int_laws.NormalForm.{is_zero}
use Rattle.bound_expr.specs.Measure.{is_large, capped_node_count}
use Rattle.rule_forms.specs.linear_forms.Forms.{at}
use Rattle.rule_forms.specs.linear_forms.Certificates.{Implies, minus_one}
use Rattle.cert_rules.specs.Nodes.{ResultVariable, SideBound, Member, RankNode, Proof, Cite, Start, Empty, Unreached, Never, Rank}
use Rattle.cert_rules.specs.Nodes.{Spread, Cycle, Weaken, CostBound, CostBy, EmptyCost, NeverCost, SideBoundCost, CostNode}
use Rattle.cert_rules.specs.Known.{IsKnown, known, is_zero_bound, Table, table_of}
use Rattle.cert_rules.specs.Limits.{IsSmallComposed}
use Rattle.run_counting.specs.model.Entries.{entries}
use Rattle.cert_rules.specs.ComposedSizes.{poly_at, reads, is_member, rules_of, flows, multiplies, adds}
use Rattle.cert_rules.specs.AcceptsPlain.{IsRule, AcceptsCite, HasEmptyShape, IsUnreached, may_run, IsOneTime}
use Rattle.cert_rules.specs.AcceptsPlain.{IsZeroTime, HasWeakenShape, IsWeaker}
use Rattle.cert_rules.specs.AcceptsRank.{HasRankShape, Loses, HasFloor, at_target, rank_time}
use Rattle.cert_rules.specs.AcceptsSizes.{HasMemberShape, AcceptsUp, AcceptsLow, HasCycleShape, IsStraightSideBound, left_of}
use Rattle.cert_rules.specs.AcceptsSizes.{spread_size, cycle_size}
use Rattle.cert_rules.specs.AcceptsCosts.{HasCostShape, AcceptsCostSideBound, side_bound_cost}
use Rattle.cert_rules.specs.Acceptance.{facts_of, joined_facts}
use Rattle.cert_rules.specs.Setting.{Setting}
use Rattle.cert_rules.specs.Reasons.{Reason, Shape, NotEmpty, Reached, NotZero, Move, Floor, SideBoundUp, SideBoundLow}
use Rattle.cert_rules.specs.Reasons.{MissingTime, MissingSize, Nonlinear, Large, NotWeaker, Check, check, for_each}
use Rattle.cert_rules.specs.Reasons.{IsFirstAmong}

-- the number of nodes that is reported of a large composed bound: that before rewriting if it is large then, else that
-- after
abbrev pub large_nodes : (Bound → Bound) → Bound → ℕ
large_nodes rewrite b = if is_large b then capped_node_count b else capped_node_count (rewrite b)

-- the check that the composed bound is small
abbrev pub check_small : Setting → Bound → Check
check_small s b = check (Large (large_nodes s.rewrite b)) (IsSmallComposed s.rewrite b)

-- the check that a rule has a time, and the check that a place after a rule has a size
abbrev pub check_time : Table → ℕ → Check
check_time table t = check (MissingTime t) (IsKnown (table.time t))

abbrev pub check_size : Table → ResultVariable → Check
check_size table result_variable = check (MissingSize result_variable.rule result_variable.place) (IsKnown (table.size result_variable.rule result_variable.place))

-- result variables: these places, numbered from 0, after the rule, numbered from 1
abbrev pub result_variables_after : ℕ → List ℕ → List ResultVariable
result_variables_after e js = map (λ j. record { rule = e; place = suc j }) js

-- the places after rule e at which the coefficients aren't 0, ascending
abbrev pub read_after : List ℤ → ℕ → List ResultVariable
read_after coefs e = result_variables_after e (filter (λ j. not (is_zero (at coefs j))) (range_with_len 0 (length coefs)))

-- the sizes that a ranking function needs after rule e: those of the places that it reads
abbrev pub needed_after : Setting → RankNode → ℕ → List ResultVariable
needed_after s node e = read_after (at_target s.program node e).coefs e

-- the sizes needed after each of these rules
abbrev pub needed_after_each : Setting → RankNode → List ℕ → List ResultVariable
needed_after_each s node [] = []
needed_after_each s node (e ∷ es) = needed_after s node e ++ needed_after_each s node es

-- the checks of a ranking node after that of its floor: each entry has a time, and a size at each place that the function
-- reads after it; and the composed bound is small
abbrev pub behind_floor : Setting → Table → RankNode → List Check
behind_floor s table node =
    for_each (check_time table) (entries s.program node.set)
    (for_each (check_size table) (needed_after_each s node (entries s.program node.set))
    (check_small s (rank_time s node table) ∷ []))

-- the checks of a ranking node
abbrev pub rank_checks : Setting → Table → RankNode → List Check
rank_checks s table node =
    check Shape (HasRankShape s node) ∷
    for_each (λ t. check (Move t) (Loses s node t)) node.set
    (check Floor (HasFloor s node) ∷ behind_floor s table node)

-- the check that the upper side bound of a member is accepted, and the check that the lower one is
abbrev pub check_up : Setting → Member → Check
check_up s m = check (SideBoundUp m.result_variable.rule m.result_variable.place) (AcceptsUp s m)

abbrev pub check_low : Setting → Member → Check
check_low s m = check (SideBoundLow m.result_variable.rule m.result_variable.place) (AcceptsLow s m)

-- the sizes that a side bound needs after rule e: those of the places that it reads and that aren't members, ascending
abbrev pub needed_by : Setting → List Member → Member → SideBound → ℕ → List ResultVariable
needed_by s members m side_bound e =
    result_variables_after e
    (filter (λ j. reads (poly_at s m.result_variable) side_bound j && not (is_member members e j))
    (range_with_len 0 (left_of s.program m.result_variable.rule)))

-- the sizes that a member needs after these rules: for each rule those of the upper side bound before those of the
-- lower one
abbrev pub needed_from : Setting → List Member → Member → List ℕ → List ResultVariable
needed_from s members m [] = []
needed_from s members m (e ∷ es) =
    needed_by s members m m.local.up e ++ (needed_by s members m m.local.low e ++ needed_from s members m es)

-- the sizes that these members need after the rules that can come before each
abbrev pub needed_into : Setting → List Member → List Member → List ResultVariable
needed_into s members [] = []
needed_into s members (m ∷ ms) = needed_from s members m (pre s.program m.result_variable.rule) ++ needed_into s members ms

-- the checks of a spread
abbrev pub spread_checks : Setting → Table → Member → List Check
spread_checks s table m =
    check Shape (HasMemberShape s m) ∷
    check_up s m ∷
    check_low s m ∷
    for_each (check_size table) (needed_into s [] (m ∷ []))
    (check_small s (spread_size s table m) ∷ [])

-- the check that a side bound of a member reads no member after rule e, if it is polynomial
abbrev pub check_straight : Setting → List Member → Member → SideBound → ℕ → Check
check_straight s members m side_bound e = check (Nonlinear m.result_variable.rule m.result_variable.place) (IsStraightSideBound s members m e side_bound)

-- the checks of both side bounds of a member, after these rules
abbrev pub straight_from : Setting → List Member → Member → List ℕ → List Check → List Check
straight_from s members m [] rest = rest
straight_from s members m (e ∷ es) rest =
    check_straight s members m m.local.up e ∷
    check_straight s members m m.local.low e ∷ straight_from s members m es rest

-- the checks of all side bounds of these members, after the rules that can come before each
abbrev pub straight_into : Setting → List Member → List Member → List Check → List Check
straight_into s members [] rest = rest
straight_into s members (m ∷ ms) rest =
    straight_from s members m (pre s.program m.result_variable.rule) (straight_into s members ms rest)

-- the rules whose times a loop needs: those that multiply or add, ascending
abbrev pub needed_times : Setting → Table → List Member → List ℕ
needed_times s table members =
    filter (λ t. multiplies (flows s members table.size) t || adds s (flows s members table.size) t)
    (rules_of s members)

-- the checks of a loop
abbrev pub cycle_checks : Setting → Table → List Member → List Check
cycle_checks s table members =
    check Shape (HasCycleShape s members) ∷
    for_each (check_up s) members
    (for_each (check_low s) members
    (for_each (check_size table) (needed_into s members members)
    (straight_into s members members
    (for_each (check_time table) (needed_times s table members)
    (check_small s (cycle_size s table members) ∷ [])))))

-- the sizes that the side bound of a cost needs after these rules, places ascending after each
abbrev pub needed_at_cost : Setting → ℕ → SideBound → List ℕ → List ResultVariable
needed_at_cost s t side_bound [] = []
needed_at_cost s t side_bound (e ∷ es) =
    result_variables_after e (filter (reads (s.cost_poly t) side_bound) (range_with_len 0 (left_of s.program t)))
    ++ needed_at_cost s t side_bound es

-- the checks of how a cost is shown
abbrev pub cost_checks_by : Setting → Table → ℕ → CostBy → List Check
cost_checks_by s table t (EmptyCost multipliers) =
    check NotEmpty (Implies (s.cost_rows t) multipliers minus_one) ∷ []
cost_checks_by s table t NeverCost =
    check_time table t ∷ check NotZero (is_zero_bound (known (table.time t)) ≡ true) ∷ []
cost_checks_by s table t (SideBoundCost side_bound) =
    check (SideBoundUp t 0) (AcceptsCostSideBound s t side_bound) ∷
    check_time table t ∷
    for_each (check_size table) (needed_at_cost s t side_bound (pre s.program t))
    (check_small s (side_bound_cost s table t side_bound) ∷ [])

-- the checks of a node on a cost
abbrev pub cost_checks : Setting → Table → CostNode → List Check
cost_checks s table node = check Shape (HasCostShape s node) ∷ cost_checks_by s table node.rule node.by

-- the checks of an empty rule
abbrev pub empty_checks : Setting → ℕ → List ℕ → List Check
empty_checks s t multipliers =
    check Shape (HasEmptyShape s t multipliers) ∷ check NotEmpty (Implies (s.rows t) multipliers minus_one) ∷ []

-- the checks of a rule that never runs, and those of a weaker bound, by the facts of the premise
abbrev pub never_checks : List Fact → List Check
never_checks facts = check Shape (IsOneTime facts) ∷ check NotZero (IsZeroTime facts) ∷ []

abbrev pub weaken_checks : Setting → List Fact → Bound → List Check
weaken_checks s facts b =
    check Shape (HasWeakenShape s.program b) ∷ check NotWeaker (IsWeaker s facts b) ∷ []

-- the checks of an unreached rule
abbrev pub unreached_checks : Setting → (ℕ → Bool) → ℕ → List Check
unreached_checks s is_allowed t =
    check Shape (IsRule s.program t) ∷ check Reached (IsUnreached s.program is_allowed t) ∷ []

-- the checks of a node after lemmas with these facts, where all of its premises are accepted
abbrev pub checks_of : Setting → List (List Fact) → Proof → List Check
checks_of s past (Cite n) = check Shape (AcceptsCite past n) ∷ []
checks_of s past Start = []
checks_of s past (Empty t multipliers) = empty_checks s t multipliers
checks_of s past (Unreached t uses) = unreached_checks s (may_run (joined_facts s past uses)) t
checks_of s past (Never child) = never_checks (facts_of s past child)
checks_of s past (Rank node uses) = rank_checks s (table_of (joined_facts s past uses)) node
checks_of s past (Spread m uses) = spread_checks s (table_of (joined_facts s past uses)) m
checks_of s past (Cycle members uses) = cycle_checks s (table_of (joined_facts s past uses)) members
checks_of s past (Weaken child b) = weaken_checks s (facts_of s past child) b
checks_of s past (CostBound node uses) = cost_checks s (table_of (joined_facts s past uses)) node

-- the first reason why a node isn't accepted, where all of its premises are
abbrev pub IsFirstReason : Setting → List (List Fact) → Proof → Reason → Type 0
IsFirstReason s past proof r = IsFirstAmong (checks_of s past proof) r
