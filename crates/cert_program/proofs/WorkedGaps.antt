-- The worked rules of small programs as forms, sets of them, and gaps over them, by computation.
use Rattle.std.proofs.Common.{[], ◌∷◌, refl, arith}
use Rattle.std.specs.Prelude.{pos}
use Rattle.guard_prep.specs.Tightening.{divisor_of}
use Rattle.guard_prep.specs.its_model.Valid.{IsValid}
use Rattle.cert_rules.specs.GapChecks.{GapHolds}
use Rattle.cert_rules.specs.WorkedGaps.{scaled, one, nowhere}
use Rattle.cert_rules.proofs.GapsInLine.{tested-holds, first-fault}
use Rattle.cert_rules.proofs.OnlyFaults.{only-fault}
use Rattle.cert_program.specs.RankedSets.{forms_at}
use Rattle.cert_program.specs.Worked.{three_rules}
use Rattle.cert_program.specs.WorkedGaps.{looping, gap_alone, RankedSetsAreAsWorkedOut, GapsOfProgramsAreJudged}
use Rattle.cert_program.proofs.RankedSets.{gap-excludes_all}

pub sets_worked_out : RankedSetsAreAsWorkedOut
unfolding divisor_of
sets_worked_out = record {
  forms = refl;
  forms_of_none = refl;
  entered = refl;
  not_entered = refl;
  shut = refl;
  not_shut = refl;
}

-- the program with names is valid
valid_looping : IsValid looping
valid_looping = record {
  symbols = (record { name = (refl, refl); arity = omega arith }, tt);
  distinct = (refl, tt);
  few_rules = omega arith;
  rules = (
    record {
      source = omega arith;
      target = omega arith;
      left = refl;
      places = refl;
      named = refl;
      names = ((refl, refl), tt);
      distinct = (refl, tt);
      few_variables = omega arith;
      few_atoms = omega arith;
      updates = (record { variables = omega arith; expands = refl }, tt);
      guard = tt;
      cost = tt;
    },
    tt,
  );
  start = omega arith;
  start_is_source = refl;
  start_places = refl;
  start_names = ((refl, refl), tt);
  start_distinct = (refl, tt);
}

-- the gap of the program with names holds
looping_gap : GapHolds looping (forms_at looping) (gap_alone 1 one nowhere one)
unfolding divisor_of
looping_gap = tested-holds _ _ _ refl

pub gaps_of_programs : GapsOfProgramsAreJudged
unfolding divisor_of
gaps_of_programs = record {
  staying = tested-holds _ _ _ refl;
  squaring = tested-holds _ _ _ refl;
  without_square = first-fault three_rules (forms_at three_rules) (gap_alone 2 one nowhere one) _ refl;
  halving =
      only-fault three_rules (forms_at three_rules)
      (gap_alone 1 (scaled (pos 2 ∷ []) 1) nowhere (scaled (pos 2 ∷ []) 1)) _ refl;
  valid = valid_looping;
  looping_holds = looping_gap;
  looping_unranked = gap-excludes_all looping valid_looping (gap_alone 1 one nowhere one) looping_gap;
}
