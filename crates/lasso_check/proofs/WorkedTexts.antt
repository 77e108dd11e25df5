-- Proofs of the worked values of lasso texts.
use Rattle.std.proofs.Common.{◌≡◌, ◌≢◌, ◌≤◌, ℕ, Bool, Some, None, refl, ap, arith}
use Rattle.std.proofs.lemmas.Bool.{le-leb, lt-leb, ne_eqb}
use Rattle.std.specs.Prelude.{if◌then◌else◌}
use Rattle.std.specs.Fmt.{digits}
use Rattle.text_grammar.specs.text_core.Choices.{when}
use Rattle.run_replay.specs.declared.kind.RunKind.TheVariants.{Limit}
use Rattle.run_replay.specs.Texts.{is_full}
use Rattle.run_replay.specs.Worked.{small_program}
use Rattle.lasso_check.specs.Texts.{State, steps_in, lasso_bytes}
use Rattle.lasso_check.specs.Worked.{LassosAreWorkedOut}

-- after 1,000,000 steps there is no room for one more
limit_at_step : (s : State) → 1000000 ≤ steps_in s.lasso → (lasso_bytes small_program).fault_of_byte s 115 ≡ Some Limit
limit_at_step s l = ap (λ (b : Bool). when b Limit) (le-leb 1000000 (steps_in s.lasso) l)

-- after fewer steps there is room
no_limit_before : (s : State) → steps_in s.lasso ≤ 999999 → (lasso_bytes small_program).fault_of_byte s 115 ≡ None
no_limit_before s l = ap (λ (b : Bool). when b Limit) (lt-leb 1000000 (steps_in s.lasso) (omega (arith, l)))

-- no byte but the first one of a line of a step has this fault
no_other_limit : (s : State) (b : ℕ) → b ≢ 115 → (lasso_bytes small_program).fault_of_byte s b ≡ None
no_other_limit s b d = ap (λ (c : Bool). if c then when (is_full (steps_in s.lasso)) Limit else None) (ne_eqb b 115 d)

pub lassos_worked : LassosAreWorkedOut
unfolding digits
lassos_worked = record {
  worked = refl;
  empty = refl;
  start_too_few = refl;
  run_file = refl;
  limit = limit_at_step;
  within = no_limit_before;
  other_byte = no_other_limit;
  both_parts = refl;
  short = record { start = tt; stem = tt; turn = (omega arith, tt, tt) };
  long_rule = λ h. let l = h.turn.0 in omega (arith, l);
  long_stem = λ h. let l = h.stem.0 in omega (arith, l);
  spelled = refl;
}
