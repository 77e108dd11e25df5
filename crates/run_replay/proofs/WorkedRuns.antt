-- Proofs of the worked values of run texts.
use Rattle.std.proofs.Common.{◌≡◌, ◌≢◌, ◌≤◌, ℕ, ◌-◌, ◌^◌, Bool, true, false, ◌||◌, length, Some, None, refl, ap, arith}
use Rattle.std.proofs.lemmas.Bool.{le-leb, lt-leb, ne_eqb}
use Rattle.std.specs.Prelude.{if◌then◌else◌, ◌==◌, nat_lt, min}
use Rattle.std.specs.Fmt.{digits}
use Rattle.its_model.specs.model.Programs.{Program}
use Rattle.text_grammar.specs.text_core.Choices.{when}
use Rattle.run_replay.specs.declared.kind.RunKind.TheVariants.{Limit}
use Rattle.run_replay.specs.Texts.{State, is_no_rule, run_bytes, is_full}
use Rattle.run_replay.specs.Worked.{RunsAreWorkedOut, small_program}

-- an `s` after 1,000,000 steps is refused
limit_at_step : (s : State) → 1000000 ≤ length s.run.steps → (run_bytes small_program).fault_of_byte s 115 ≡ Some Limit
limit_at_step s l = ap (λ (b : Bool). when b Limit) (le-leb 1000000 (length s.run.steps) l)

-- an `s` after fewer than 1,000,000 steps isn't refused
no_limit_before : (s : State) → length s.run.steps ≤ 999999 → (run_bytes small_program).fault_of_byte s 115 ≡ None
no_limit_before s l = ap (λ (b : Bool). when b Limit) (lt-leb 1000000 (length s.run.steps) (omega (arith, l)))

-- no byte other than `s` is refused by the limit
no_other_limit : (s : State) (b : ℕ) → b ≢ 115 → (run_bytes small_program).fault_of_byte s b ≡ None
no_other_limit s b d = ap (λ (c : Bool). if c then when (is_full (length s.run.steps)) Limit else None) (ne_eqb b 115 d)

-- of 2^32 rules, rule 2^32-1 can be named, and rule 2^32 can't
rule_in_range : (p : Program) → length p.rules ≡ 2 ^ 32 → is_no_rule p (2 ^ 32 - 1) ≡ false
rule_in_range p e = ap (λ (n : ℕ). (2 ^ 32 - 1 == 0) || nat_lt (min n (2 ^ 32 - 1)) (2 ^ 32 - 1)) e

rule_out_of_range : (p : Program) → length p.rules ≡ 2 ^ 32 → is_no_rule p (2 ^ 32) ≡ true
rule_out_of_range p e = ap (λ (n : ℕ). (2 ^ 32 == 0) || nat_lt (min n (2 ^ 32 - 1)) (2 ^ 32)) e

pub runs_worked : RunsAreWorkedOut
unfolding digits
runs_worked = record {
  worked = refl;
  empty = refl;
  start_too_few = refl;
  kinds = refl;
  held = rule_in_range;
  not_held = rule_out_of_range;
  full = refl;
  room = refl;
  limit = limit_at_step;
  within = no_limit_before;
  other_byte = no_other_limit;
  no_places = refl;
  blank_alone = refl;
  surplus_start = refl;
  short = record { start = (omega arith, tt); steps = (omega arith, (omega arith, tt), tt) };
  long_start = λ h. let l = h.start.1.0 in omega (arith, l);
  long_rule = λ h. let l = h.steps.2.0 in omega (arith, l);
  long_value = λ h. let l = h.steps.1.1.0 in omega (arith, l);
  spelled = refl;
}
