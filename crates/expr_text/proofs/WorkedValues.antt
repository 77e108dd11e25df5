-- The worked values hold.
use Rattle.std.specs.Prelude.{refl}
use Rattle.expr_text.specs.Worked.{Expressions, Guards, WorkedValues}

expressions : Expressions
expressions = record {
  name = refl;
  number = refl;
  left = refl;
  product = refl;
  brackets = refl;
  power = refl;
  twice = refl;
  factor = refl;
  nothing = refl;
  plus_first = refl;
  plus_last = refl;
  two_names = refl;
  unclosed = refl;
  unopened = refl;
  empty = refl;
  name_above = refl;
  two_powers = refl;
  relation = refl;
}

guards : Guards
guards = record {
  two_atoms = refl;
  truths = refl;
  named = refl;
  added = refl;
  nothing = refl;
  name = refl;
  other_letters = refl;
  in_brackets = refl;
  two_relations = refl;
  left_alone = refl;
  joined = refl;
}

pub worked_values : WorkedValues
worked_values = record { expressions = expressions; guards = guards }
