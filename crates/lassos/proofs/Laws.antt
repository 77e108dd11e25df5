-- The laws of lassos.
use Rattle.std.proofs.Common.{ℕ, suc, List, ℤ, sym, subst, arith}
use Rattle.model.specs.Programs.{Program}
use Rattle.model.specs.Runs.{Config, Step, IsRun, sizes_of_start}
use Rattle.model.specs.Bounds.{val}
use Rattle.lassos.specs.Lassos.{GoesRound, GoesOnFor, LeadsTo, moved_config}
use Rattle.lassos.specs.Laws.{LassosAreEndless, EndlessRulesHaveNoTime, CostlyTurnsHaveNoTotal, MovedTurnsLead}
use Rattle.lassos.proofs.Turning.{path_of, repeated, no_total, spent_all-append}
use Rattle.lassos.proofs.Moving.{turn_on, moved-zero}

-- a turn that leads back leads from the configuration to itself after each number of turns
round_leads : (p : Program) (start : List ℤ) (stem turn : List Step) (at : Config) → GoesRound p start stem turn at
    → (n : ℕ) → LeadsTo p at turn at
round_leads p start stem turn at lasso n = path_of p start stem at turn at lasso.begins lasso.whole

-- the stem of a turn that moves on leads to the configuration before the first move
moved_begins : (p : Program) (start : List ℤ) (stem turn : List Step) (at : Config) (ds : List ℤ)
    → GoesOnFor p start stem turn at ds → IsRun p start stem (moved_config at ds 0)
moved_begins p start stem turn at ds lasso =
    subst (λ (v : List ℤ). IsRun p start stem (record { at = at.at; values = v })) (sym (moved-zero at.values ds)) lasso.begins

pub moved_turns_lead : MovedTurnsLead
moved_turns_lead = record { each = λ p start stem turn at ds lasso. turn_on p at ds turn lasso.turn_moves }

pub lassos_are_endless : LassosAreEndless
lassos_are_endless = record {
  round = λ p start stem turn at lasso.
      repeated p start stem turn (λ n. at) lasso.begins (round_leads p start stem turn at lasso);
  on = λ p start stem turn at ds lasso.
      repeated p start stem turn (moved_config at ds) (moved_begins p start stem turn at ds lasso)
      (turn_on p at ds turn lasso.turn_moves);
}

pub endless_rules_have_no_time : EndlessRulesHaveNoTime
endless_rules_have_no_time = record {
  each = λ p start t endless bound holds.
      let run = endless.each (suc (val bound (sizes_of_start start))) in
      omega (arith, run.3, holds.each start run.0 run.1 run.2);
}

pub costly_turns_have_no_total : CostlyTurnsHaveNoTotal
costly_turns_have_no_total = record {
  round = λ p start stem turn at lasso costs.
      no_total p start stem turn (λ n. at) lasso.begins (round_leads p start stem turn at lasso)
      (λ n. omega (arith, costs, spent_all-append p start turn stem at lasso.begins));
  on = λ p start stem turn at ds lasso costs.
      no_total p start stem turn (moved_config at ds) (moved_begins p start stem turn at ds lasso)
      (turn_on p at ds turn lasso.turn_moves) costs;
}
