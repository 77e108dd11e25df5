-- The worked values hold.
use Rattle.std.proofs.Common.{◌≡◌, true, false, [], ◌∷◌, Some, refl, arith}
use Rattle.std.specs.Prelude.{codes}
use Rattle.its_text.specs.expr_text.model.Programs.{Name}
use Rattle.its_text.specs.expr_text.text_core.Names.{IsName, AreDistinct}
use Rattle.its_text.specs.Numbering.{is_com}
use Rattle.its_writer.specs.Spellable.{IsSpellable}
use Rattle.its_writer.specs.Worked.{with_second, WorkedTexts, WorkedSpelling, WorkedPrograms, WorkedValues}

texts : WorkedTexts
texts = record {
  least = refl;
  one = refl;
  operations = refl;
  read_back = refl;
  free_variables = refl;
  free_read = refl;
  no_variables = refl;
  no_variables_read = refl;
  sign = refl;
  read_as_opposite = refl;
  raised = refl;
}

spelling : WorkedSpelling
spelling = record {
  next = (omega arith, (omega arith, omega arith));
  known = refl;
  skipped = λ h. let k = h.0 in omega (arith, k);
  negative_literal = λ h. h;
  text_order = (omega arith, (omega arith, (omega arith, (omega arith, (tt, (omega arith, (omega arith, (omega arith, (tt, tt)))))))));
  guard_first = λ h. let k = h.1.0 in omega (arith, k);
  update_first = λ h. let k = h.0 in omega (arith, k);
  in_order = (omega arith, omega arith, (omega arith, omega arith, tt));
  symbols = refl;
  out_of_order = λ h. let k = h.0 in omega (arith, k);
  first = refl;
  nowhere = refl;
}

-- the sample is spellable with any name of its second symbol that isn't `f`, and isn't `Com_` and digits
second_spelled : (name : Name) → IsName name → AreDistinct (codes "f" ∷ name ∷ []) → is_com name ≡ false → IsSpellable (with_second name)
second_spelled name is differs plain = record {
  names = ((refl, refl), (is, tt));
  distinct = differs;
  order = (omega arith, omega arith, (omega arith, omega arith, tt));
  known = refl;
  rules = (
    record {
      names = ((refl, refl), ((refl, refl), tt));
      distinct = (refl, (refl, tt));
      named = refl;
      source_arity = refl;
      target_arity = refl;
      target = plain;
      terms = (
        (tt, omega arith),
        (omega arith, (((omega arith, tt), omega arith), (omega arith, (((omega arith, omega arith), omega arith), (omega arith, (omega arith, tt)))))),
      );
      known = refl;
    },
    (
      record {
        names = ((refl, refl), ((refl, refl), tt));
        distinct = (refl, (refl, tt));
        named = refl;
        source_arity = refl;
        target_arity = refl;
        target = refl;
        terms = (tt, tt);
        known = refl;
      },
      tt,
    ),
  );
  start = omega arith;
  start_names = refl;
}

programs : WorkedPrograms
programs = record {
  sample_spelled = second_spelled (codes "g") (refl, refl) (refl, (refl, tt)) refl;
  negative_not = λ h. h.rules.1.0.terms.0;
  com_alone = second_spelled (codes "Com_") (refl, refl) (refl, (refl, tt)) refl;
  com_target = λ h. let e : true ≡ false = h.rules.0.target in cc;
  same_name = λ h. let e : true ≡ false = h.distinct.0 in cc;
  other_names = λ h. let e : Some (codes "X" ∷ []) ≡ Some (codes "Y" ∷ codes "Z" ∷ []) = h.start_names in cc;
  unused = λ h. let k : 1 ≡ 2 = h.rules.0.known in omega (arith, k);
}

pub worked_values : WorkedValues
worked_values = record { texts = texts; spelling = spelling; programs = programs }
