-- Tests of spreads and loops.
use Rattle.std.specs.Prelude.{ℕ, ◌==◌, ◌&&◌, ◌||◌, not, nat_lt, nat_le, Bool, true, false, List, [], ◌∷◌, length}
use Rattle.std.specs.Prelude.{Option, Some, None}
use Rattle.std.specs.List.{list_all}
use Rattle.run_counting.specs.model.Programs.{Program, Rule, rule_at, arity_of}
use Rattle.run_counting.specs.model.Paths.{pre}
use Rattle.run_counting.specs.model.Polynomials.{Polynomial}
use Rattle.cert_rules.specs.Nodes.{ResultVariable, SideBound, Linear, Poly, Member}
use Rattle.cert_rules.specs.Known.{Table}
use Rattle.cert_rules.specs.Setting.{Setting}
use Rattle.cert_rules.specs.ComposedSizes.{poly_at, is_member}
use Rattle.cert_rules.specs.AcceptsSizes.{left_of, Side, Up, Low, side_bound_goal, new_value, spread_size}
use Rattle.cert_rules.specs.AcceptsSizes.{cycle_size}
use Rattle.cert_rules.specs.Reasons.{Shape, SideBoundUp, SideBoundLow, Nonlinear, for_each}
use Rattle.cert_rules.specs.Checks.{needed_into, needed_times}
use Rattle.cert_rules.specs.Tests.{Test, test}
use Rattle.cert_rules.specs.NumberTests.{is_in_limit, is_form_in_limit, are_multipliers, implies}
use Rattle.cert_rules.specs.RankTests.{test_time, test_size, test_small}

-- the rule exists, and its target has this place
abbrev pub is_place_after : Program → Option Rule → ℕ → Bool
is_place_after p None place = false
is_place_after p (Some r) place = nat_le 1 place && nat_le place (arity_of p r.target)

-- whether a side bound has a denominator of at least 1, one coefficient for each left place and a multiplier for each
-- row, all within the limit
abbrev pub has_side_bound_shape : Setting → ℕ → ℕ → SideBound → Bool
has_side_bound_shape s t left (Linear den form multipliers) =
    nat_le 1 den && is_in_limit den && (length form.coefs == left) && is_form_in_limit form
    && are_multipliers s t multipliers
has_side_bound_shape s t left Poly = true

-- whether a member is at a place after a rule, and its side bounds have their shapes
abbrev pub has_member_shape : Setting → Member → Bool
has_member_shape s m =
    is_place_after s.program (rule_at s.program m.result_variable.rule) m.result_variable.place
    && has_side_bound_shape s m.result_variable.rule (left_of s.program m.result_variable.rule) m.local.up
    && has_side_bound_shape s m.result_variable.rule (left_of s.program m.result_variable.rule) m.local.low

-- there is a polynomial, and it is over left variables alone
abbrev pub is_over_left : ℕ → Option Polynomial → Bool
is_over_left left None = false
is_over_left left (Some q) = list_all (λ m. list_all (λ v. nat_lt v left) m.vars) q

-- whether the rows imply a side bound, or the update is its own polynomial over left variables alone
abbrev pub accepts_side_bound : Setting → ResultVariable → Side → SideBound → Bool
accepts_side_bound s result_variable side (Linear den form multipliers) =
    implies (s.rows result_variable.rule) multipliers (side_bound_goal side den form (new_value s result_variable))
accepts_side_bound s result_variable side Poly = is_over_left (left_of s.program result_variable.rule) (poly_at s result_variable)

-- the test that the upper side bound of a member is accepted, and the test that the lower one is
abbrev pub test_up : Setting → Member → Test
test_up s m = test (SideBoundUp m.result_variable.rule m.result_variable.place) (accepts_side_bound s m.result_variable Up m.local.up)

abbrev pub test_low : Setting → Member → Test
test_low s m = test (SideBoundLow m.result_variable.rule m.result_variable.place) (accepts_side_bound s m.result_variable Low m.local.low)

-- the tests of a spread: the shape; the upper side bound; the lower side bound; a size for each place that a side bound
-- reads, after each rule that can come before; and that the composed bound is small
abbrev pub spread_tests : Setting → Table → Member → List Test
spread_tests s table m =
    test Shape (has_member_shape s m) ∷
    test_up s m ∷
    test_low s m ∷
    for_each (test_size table) (needed_into s [] (m ∷ []))
    (test_small s (spread_size s table m) ∷ [])

-- whether one result variable comes before another: by rule, then by place
abbrev pub is_before : ResultVariable → ResultVariable → Bool
is_before a b = nat_lt a.rule b.rule || ((a.rule == b.rule) && nat_lt a.place b.place)

-- the members ascend
abbrev pub are_ascending : List Member → Bool
are_ascending [] = true
are_ascending (m ∷ []) = true
are_ascending (m ∷ n ∷ rest) = is_before m.result_variable n.result_variable && are_ascending (n ∷ rest)

-- there are members, they ascend, and each has its shape
abbrev pub has_cycle_shape : Setting → List Member → Bool
has_cycle_shape s members =
    nat_le 1 (length members) && are_ascending members && list_all (has_member_shape s) members

-- after rule e no variable of a polynomial is a member
abbrev pub avoids : List Member → ℕ → Option Polynomial → Bool
avoids members e None = true
avoids members e (Some q) = list_all (λ m. list_all (λ j. not (is_member members e j)) m.vars) q

-- whether a polynomial side bound reads no member after rule e
abbrev pub is_straight : Setting → List Member → Member → ℕ → SideBound → Bool
is_straight s members m e (Linear den form multipliers) = true
is_straight s members m e Poly = avoids members e (poly_at s m.result_variable)

abbrev pub test_straight : Setting → List Member → Member → SideBound → ℕ → Test
test_straight s members m side_bound e = test (Nonlinear m.result_variable.rule m.result_variable.place) (is_straight s members m e side_bound)

-- the tests that neither side bound of a member reads one, after these rules
abbrev pub straight_after : Setting → List Member → Member → List ℕ → List Test → List Test
straight_after s members m [] rest = rest
straight_after s members m (e ∷ es) rest =
    test_straight s members m m.local.up e ∷
    test_straight s members m m.local.low e ∷ straight_after s members m es rest

-- the tests that no side bound of these members reads one, after the rules that can come before each
abbrev pub all_straight : Setting → List Member → List Member → List Test → List Test
all_straight s members [] rest = rest
all_straight s members (m ∷ ms) rest =
    straight_after s members m (pre s.program m.result_variable.rule) (all_straight s members ms rest)

-- the tests of a loop: the shape; all upper side bounds; all lower ones; the sizes; that no polynomial side bound reads
-- a member; the times; and that the composed bound is small
abbrev pub cycle_tests : Setting → Table → List Member → List Test
cycle_tests s table members =
    test Shape (has_cycle_shape s members) ∷
    for_each (test_up s) members
    (for_each (test_low s) members
    (for_each (test_size table) (needed_into s members members)
    (all_straight s members members
    (for_each (test_time table) (needed_times s table members)
    (test_small s (cycle_size s table members) ∷ [])))))
