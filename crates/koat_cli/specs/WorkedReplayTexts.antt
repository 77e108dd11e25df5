-- Worked values of texts of replays, and of which tallies are within bounds.
use Rattle.std.specs.Prelude.{◌≡◌, ℕ, ◌-◌, ◌^◌, [], ◌∷◌, ◌++◌, None, Some, codes}
use Rattle.model.specs.Bounds.{Constant, Input, SumOf, ProductOf, PowerOf, Part, NoParts}
use Rattle.its_model.specs.Steps.{OtherRule, AtomFails, PastRange}
use Rattle.outcome.specs.Reports.{Timed, Untimed, TimeLarge, Costed, Uncosted, Sized, Unsized, SizeLarge}
use Rattle.outcome.specs.Reports.{Report}
use Rattle.run_replay.specs.Replays.{Sums}
use Rattle.run_replay.specs.declared.kind.RunKind.TheVariants.{Syntax, NumberTooLarge, BadReference}
use Rattle.run_replay.specs.declared.kind.RunKind.TheVariants.{ArityDiffers, Limit}
use Rattle.koat_cli.specs.ReplayTexts.{value_text, bound_value, time_value, cost_value, size_value, spent_line}
use Rattle.koat_cli.specs.ReplayTexts.{text_of_replay}
use Rattle.koat_cli.specs.RunTexts.{run_limit, run_refusal_text, bad_step_text}
use Rattle.koat_cli.specs.WithinBounds.{IsWithinBounds}

-- the report of a loop that counts the only input down
abbrev pub counting : Report
counting = record {
  times = Timed (Constant 1) ∷ Timed (Input 0) ∷ [];
  costs = None ∷ None ∷ [];
  total = Some (SumOf (Part (Input 0) (Part (Constant 1) NoParts)));
  sizes = (Sized (Input 0) ∷ []) ∷ (Sized (Input 0) ∷ []) ∷ [];
}

-- a report that gives no bound for its second rule
abbrev pub partial_report : Report
partial_report = record {
  times = Timed (Constant 1) ∷ Untimed (TimeLarge 9) ∷ [];
  costs = None ∷ None ∷ [];
  total = None;
  sizes = (Sized (Input 0) ∷ []) ∷ (Unsized (SizeLarge 9) ∷ []) ∷ [];
}

-- the report of the same loop where a round costs what the input is
abbrev pub costly_report : Report
costly_report = record {
  times = Timed (Constant 1) ∷ Timed (Input 0) ∷ [];
  costs = None ∷ Some (Costed (ProductOf (Part (Input 0) (Part (Input 0) NoParts)))) ∷ [];
  total = Some (SumOf (Part (ProductOf (Part (Input 0) (Part (Input 0) NoParts))) (Part (Constant 1) NoParts)));
  sizes = (Sized (Input 0) ∷ []) ∷ (Sized (Input 0) ∷ []) ∷ [];
}

-- a report that gives no bound on this cost
abbrev pub partial_cost_report : Report
partial_cost_report = record costly_report { costs = None ∷ Some (Uncosted (SizeLarge 9)) ∷ []; total = None }

-- the report of the loop in which a round costs nothing
abbrev pub costless_report : Report
costless_report = record costly_report { costs = None ∷ Some (Costed (Constant 0)) ∷ []; total = Some (Constant 1) }

-- the tally of one step by the first rule and three by the second one, from 3
abbrev pub four_steps : Sums
four_steps = record {
  steps = 4;
  counts = 1 ∷ 3 ∷ [];
  greatest = (3 ∷ []) ∷ (2 ∷ []) ∷ [];
  costs = 1 ∷ 3 ∷ [];
  spent = 4;
}

-- the tally of the same steps, where a step by the second rule costs what the input is
abbrev pub paid_steps : Sums
paid_steps = record four_steps { costs = 1 ∷ 6 ∷ []; spent = 7 }

-- each number is beside the value of its bound at the inputs, a missing bound is unknown, and values are capped at
-- 2^127, for a time, for a cost and for a size; a rule without a cost has no line of a cost, whatever its steps cost;
-- what was spent is capped, too; the first bad step is stated by its number, and each kind of refusal by its word; a
-- run's text may have this many bytes
pub record ReplaysAreTexts : Type 0 where
  pub whole : text_of_replay (3 ∷ []) four_steps counting
      ≡ codes "steps 4\ntime 1: 1 of 1\ntime 2: 3 of 3\ntotal: 4 of 4\nsize 1.1: 3 of 3\nsize 2.1: 2 of 3\n"
  pub other_input : text_of_replay (9 ∷ []) four_steps counting
      ≡ codes "steps 4\ntime 1: 1 of 1\ntime 2: 3 of 9\ntotal: 4 of 10\nsize 1.1: 3 of 9\nsize 2.1: 2 of 9\n"
  pub unknown : text_of_replay (3 ∷ []) four_steps partial_report
      ≡ codes "steps 4\ntime 1: 1 of 1\ntime 2: 3 of unknown\ntotal: 4 of unknown\n"
      ++ codes "size 1.1: 3 of 3\nsize 2.1: 2 of unknown\n"
  pub paid : text_of_replay (3 ∷ []) paid_steps costly_report
      ≡ codes "steps 4\ntime 1: 1 of 1\ntime 2: 3 of 3\ncost 2: 6 of 9\ntotal: 7 of 10\n"
      ++ codes "size 1.1: 3 of 3\nsize 2.1: 2 of 3\n"
  pub unknown_cost : text_of_replay (3 ∷ []) paid_steps partial_cost_report
      ≡ codes "steps 4\ntime 1: 1 of 1\ntime 2: 3 of 3\ncost 2: 6 of unknown\ntotal: 7 of unknown\n"
      ++ codes "size 1.1: 3 of 3\nsize 2.1: 2 of 3\n"
  pub much_spent :
      text_of_replay (3 ∷ []) (record paid_steps { costs = 1 ∷ 2 ^ 127 ∷ []; spent = 2 ^ 127 }) partial_cost_report
      ≡ codes "steps 4\ntime 1: 1 of 1\ntime 2: 3 of 3\ncost 2: 2^127 or more of unknown\n"
      ++ codes "total: 2^127 or more of unknown\nsize 1.1: 3 of 3\nsize 2.1: 2 of 3\n"
  pub no_cost : spent_line (3 ∷ []) 1 5 None ≡ []
  pub below_the_cap : value_text (2 ^ 127 - 1) ≡ codes "170141183460469231731687303715884105727"
  pub at_the_cap : value_text (2 ^ 127) ≡ codes "2^127 or more"
  pub power : bound_value (126 ∷ []) (Some (PowerOf 2 (Input 0))) ≡ codes "85070591730234615865843651857942052864"
  pub large_power : bound_value (200 ∷ []) (Some (PowerOf 2 (Input 0))) ≡ codes "2^127 or more"
  pub large_time : time_value (200 ∷ []) (Timed (PowerOf 2 (Input 0))) ≡ codes "2^127 or more"
  pub large_cost : cost_value (200 ∷ []) (Costed (PowerOf 2 (Input 0))) ≡ codes "2^127 or more"
  pub large_size : size_value (200 ∷ []) (Sized (PowerOf 2 (Input 0))) ≡ codes "2^127 or more"
  pub wrong_rule : bad_step_text (record { number = 1; fault = OtherRule }) ≡ codes "not a run at step 1: wrong rule\n"
  pub atom : bad_step_text (record { number = 5; fault = AtomFails 1 }) ≡ codes "not a run at step 5: atom 1\n"
  pub second_atom : bad_step_text (record { number = 1; fault = AtomFails 2 }) ≡ codes "not a run at step 1: atom 2\n"
  pub range : bad_step_text (record { number = 2; fault = PastRange })
      ≡ codes "not a run at step 2: value passes 128 bits\n"
  pub refusal : run_refusal_text (record { kind = BadReference; at = 24 }) ≡ codes "run refused at 24: BadReference\n"
  pub syntax : run_refusal_text (record { kind = Syntax; at = 0 }) ≡ codes "run refused at 0: Syntax\n"
  pub large_number : run_refusal_text (record { kind = NumberTooLarge; at = 17 })
      ≡ codes "run refused at 17: NumberTooLarge\n"
  pub other_arity : run_refusal_text (record { kind = ArityDiffers; at = 9 }) ≡ codes "run refused at 9: ArityDiffers\n"
  pub limit : run_refusal_text (record { kind = Limit; at = 11 }) ≡ codes "run refused at 11: Limit\n"
  pub most_bytes : run_limit ≡ 67108864

-- a tally of four steps by two rules, the second of which occurs this often and leads to this absolute value
abbrev pub tally_with : ℕ → ℕ → Sums
tally_with count greatest = record {
  steps = 4;
  counts = 1 ∷ count ∷ [];
  greatest = (3 ∷ []) ∷ (greatest ∷ []) ∷ [];
  costs = 1 ∷ count ∷ [];
  spent = 4;
}

-- each number is at most the value of the bound beside it: of a count, of what the steps by a rule or all steps cost
-- together, and of a greatest value one more is too many, and if a bound is missing nothing is too many; more steps
-- than the total says are allowed, if they cost no more; no entry is left out on either side
pub record TalliesAreBounded : Type 0 where
  pub whole : IsWithinBounds (3 ∷ []) four_steps counting
  pub count : ¬ (IsWithinBounds (3 ∷ []) (tally_with 4 2) counting)
  pub greatest : IsWithinBounds (3 ∷ []) (tally_with 3 3) counting
  pub greater : ¬ (IsWithinBounds (3 ∷ []) (tally_with 3 4) counting)
  pub total : ¬ (IsWithinBounds (2 ∷ [])
      (record {
        steps = 4;
        counts = 1 ∷ 2 ∷ [];
        greatest = (2 ∷ []) ∷ (2 ∷ []) ∷ [];
        costs = 1 ∷ 2 ∷ [];
        spent = 4;
      }) counting)
  pub paid : IsWithinBounds (3 ∷ []) paid_steps costly_report
  pub most_paid : IsWithinBounds (3 ∷ []) (record paid_steps { costs = 1 ∷ 9 ∷ []; spent = 10 }) costly_report
  pub overpaid : ¬ (IsWithinBounds (3 ∷ []) (record paid_steps { costs = 1 ∷ 10 ∷ []; spent = 10 }) costly_report)
  pub total_overpaid : ¬ (IsWithinBounds (3 ∷ []) (record paid_steps { spent = 11 }) costly_report)
  pub paid_for_nothing : ¬ (IsWithinBounds (3 ∷ []) (record paid_steps { costs = 1 ∷ 1 ∷ []; spent = 1 }) costless_report)
  pub nothing_paid : IsWithinBounds (3 ∷ []) (record paid_steps { costs = 1 ∷ 0 ∷ []; spent = 1 }) costless_report
  pub cost_unknown : IsWithinBounds (3 ∷ []) (record paid_steps { costs = 1 ∷ 99 ∷ []; spent = 99 }) partial_cost_report
  pub unknown : IsWithinBounds (3 ∷ []) (tally_with 9 9) partial_report
  pub first : ¬ (IsWithinBounds (2 ∷ []) (tally_with 9 9) partial_report)
  pub no_times : ¬ (IsWithinBounds (3 ∷ []) four_steps (record counting { times = [] }))
  pub no_costs : ¬ (IsWithinBounds (3 ∷ []) paid_steps (record costly_report { costs = [] }))
  pub no_spent : ¬ (IsWithinBounds (3 ∷ []) (record paid_steps { costs = [] }) costly_report)
  pub no_places : ¬ (IsWithinBounds (3 ∷ []) four_steps (record counting { sizes = [] ∷ [] ∷ [] }))
  pub no_counts : ¬ (IsWithinBounds (3 ∷ []) (record four_steps { counts = [] }) counting)
  pub no_greatest : ¬ (IsWithinBounds (3 ∷ []) (record four_steps { greatest = [] }) counting)
