-- The worked values of texts hold.
use Rattle.std.specs.Prelude.{refl}
use Rattle.its_text.specs.Worked.{FirstFaults, Programs, WorkedValues}

first_faults : FirstFaults
first_faults = record {
  many_targets = refl;
  left_repeated = refl;
  left_not_variable = refl;
  arity_differs = refl;
  high_degree = refl;
  disjunction = refl;
  start_unknown = refl;
  large_literal = refl;
  literal_before_bracket = refl;
  ended_argument = refl;
  open_argument = refl;
  com_without_bracket = refl;
  com_1_twice = refl;
  com_2_inside = refl;
  com_01 = refl;
  left_sum = refl;
  left_bracket = refl;
  two_names = refl;
  left_call = refl;
  bracket_in_atom = refl;
  lower_powers = refl;
  least_of_two = refl;
  right_first = refl;
  left_first = refl;
  strict = refl;
  two_costs = refl;
  no_cost = refl;
  compared_cost = refl;
  open_cost = refl;
  bars_in_cost = refl;
  high_cost = refl;
  large_cost = refl;
  ended_cost = refl;
  going_cost = refl;
  literal_in_cost = refl;
  two_arrows = refl;
  two_targets_at_cost = refl;
  arity_at_cost = refl;
  brace = refl;
  cost_behind_arrow = refl;
  cost_unopened = refl;
  brace_alone = refl;
  closing_alone = refl;
  truth_and_bracket = refl;
  no_brackets = refl;
  unequal = refl;
  bracket_open = refl;
  not_ascii = refl;
  ascii_in_comment = refl;
  repeated_section = refl;
  missing_section = refl;
  goal_alone = refl;
  bars_in_a_list = refl;
  open_comment = refl;
  behind_comment = refl;
  word_behind_comment = refl;
}

programs : Programs
programs = record {
  marked = refl;
  bare = refl;
  behind_mark = refl;
  in_squares = refl;
  empty_guards = refl;
  truth_as_a_name = refl;
  free_variables = refl;
  costing = refl;
  costing_more = refl;
  free_in_cost = refl;
  names_in_cost = refl;
  grouping = refl;
  any_order = refl;
  largest_literal = refl;
}

pub worked_values : WorkedValues
worked_values = record { faults = first_faults; programs = programs }
