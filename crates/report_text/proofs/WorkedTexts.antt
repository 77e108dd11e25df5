-- The texts of small reports are as was worked out.
use Rattle.std.proofs.Common.{refl, arith}
use Rattle.std.specs.Fmt.{digits}
use Rattle.report_text.specs.Reports.{text_of_report}
use Rattle.report_text.specs.WorkedTexts.{TextsDistinguish, CostTexts, TextsDontDistinguish, TextsAreWorkedOut}

-- texts of these reports differ
determined : TextsDistinguish
unfolding text_of_report digits
determined = record {
  program = record {
    symbols = (record { name = (refl, refl); arity = omega arith }, (record { name = (refl, refl); arity = omega arith }, tt));
    distinct = (refl, (refl, tt));
    few_rules = omega arith;
    rules = (
      record {
        source = omega arith;
        target = omega arith;
        left = refl;
        places = refl;
        named = refl;
        names = ((refl, refl), tt);
        distinct = (refl, tt);
        few_variables = omega arith;
        few_atoms = omega arith;
        updates = (record { variables = omega arith; expands = refl }, tt);
        guard = tt;
        cost = tt;
      },
      tt,
    );
    start = omega arith;
    start_is_source = refl;
    start_places = refl;
    start_names = ((refl, refl), tt);
    start_distinct = (refl, tt);
  };
  variable = record {
    times = (record { tidy = tt; listed = omega arith; fits = record { bases = tt; nodes = omega arith } }, tt);
    costs = (tt, tt);
    total = record { tidy = tt; listed = omega arith; fits = record { bases = tt; nodes = omega arith } };
    sizes = ((record { tidy = tt; listed = omega arith; fits = record { bases = tt; nodes = omega arith } }, tt), tt);
  };
  missing = record { times = (omega arith, tt); costs = (tt, tt); total = tt; sizes = ((omega arith, tt), tt) };
  of_variable = refl;
  of_missing = refl;
}

-- the lines of costs, and texts that distinguish reports
cost_texts : CostTexts
unfolding text_of_report digits
cost_texts = record {
  program = record {
    symbols = (record { name = (refl, refl); arity = omega arith }, (record { name = (refl, refl); arity = omega arith }, tt));
    distinct = (refl, (refl, tt));
    few_rules = omega arith;
    rules = (
      record {
        source = omega arith;
        target = omega arith;
        left = refl;
        places = refl;
        named = refl;
        names = ((refl, refl), tt);
        distinct = (refl, tt);
        few_variables = omega arith;
        few_atoms = omega arith;
        updates = (record { variables = omega arith; expands = refl }, tt);
        guard = tt;
        cost = record { variables = omega arith; expands = refl };
      },
      tt,
    );
    start = omega arith;
    start_is_source = refl;
    start_places = refl;
    start_names = ((refl, refl), tt);
    start_distinct = (refl, tt);
  };
  costed = refl;
  uncosted = refl;
  untimed = refl;
  nothing_known = refl;
  variable_total = refl;
  printable = record {
    times = (record { tidy = omega arith; listed = tt; fits = record { bases = tt; nodes = omega arith } }, tt);
    costs = (record { tidy = tt; listed = omega arith; fits = record { bases = tt; nodes = omega arith } }, tt);
    total = record { tidy = tt; listed = omega arith; fits = record { bases = tt; nodes = omega arith } };
    sizes = ((record { tidy = tt; listed = omega arith; fits = record { bases = tt; nodes = omega arith } }, tt), tt);
  };
  printable_reason = record {
    times = (record { tidy = omega arith; listed = tt; fits = record { bases = tt; nodes = omega arith } }, tt);
    costs = (omega arith, tt);
    total = tt;
    sizes = ((record { tidy = tt; listed = omega arith; fits = record { bases = tt; nodes = omega arith } }, tt), tt);
  };
  stated = record { times = refl; costs = refl; total = (λ e. refl, λ e. refl); sizes = refl };
  stated_total = record { times = refl; costs = refl; total = (λ e. refl, λ e. refl); sizes = refl };
  without_cost = λ h. (let no = h.costs in cc);
  no_lines = refl;
  left_out = λ h. (let no = h.costs in cc);
}

-- reports that texts don't distinguish
not_distinguished : TextsDontDistinguish
unfolding text_of_report digits
not_distinguished = record {
  no_places = refl;
  left_out = λ h. (let no = h.sizes in cc);
  given = record { times = refl; costs = refl; total = (λ e. refl, λ e. refl); sizes = refl };
  no_line = refl;
  move_too_many = λ h. (let no = h.moves_shown in omega (arith, no));
  no_symbol = refl;
  unnamed = λ h. (let no = h.shut.0.symbol in omega (arith, no));
}

-- all worked values of texts
pub texts_are_worked_out : TextsAreWorkedOut
texts_are_worked_out = record { determined = determined; costs = cost_texts; not_distinguished = not_distinguished }
