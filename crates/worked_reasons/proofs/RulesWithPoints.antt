-- Rules whose rows have a point, which aren't empty.
use Rattle.std.proofs.Common.{◌≡◌, ℕ, List, [], Some, sym, ◌∙◌, subst, arith, All}
use Rattle.std.specs.Prelude.{pos, ◌≤ℤ◌}
use Rattle.std.proofs.lemmas.Int.{ints}
use Rattle.std.proofs.lemmas.List.Elements.{All-nil}
use Rattle.model.specs.Programs.{Program, Rule, rule_at}
use Rattle.model.proofs.Cases.{some_same}
use Rattle.its_model.specs.linear_forms.Forms.{Form, at, form_value}
use Rattle.guard_prep.specs.Prepared.{prepared}
use Rattle.cert_types.specs.rule_forms.Laws.{HasPoint}
use Rattle.cert_types.specs.cert_rules.WorkedGaps.{one}
use Rattle.rank_search.proofs.rule_questions.Exact.{answers-exact}
use Rattle.time_bounds.specs.ProgramRules.{IsEmptyRule}
use Rattle.time_bounds.proofs.RuleStatusLaws.{shown_says}

-- without rows there is the point 1
pub one_point : (rows : List Form) → rows ≡ [] → HasPoint rows
one_point rows e = record {
  z = at one.parts;
  d = pos one.den;
  point = record {
    denominator = omega (arith, ints);
    meets = record {
      each = subst (λ (fs : List Form). All (λ (f : Form). pos 0 ≤ℤ form_value f (at one.parts) (pos one.den)) fs) (sym e)
          (All-nil (λ (f : Form). pos 0 ≤ℤ form_value f (at one.parts) (pos one.den)));
    };
  };
}

-- no multipliers certify that a rule with a point is infeasible
pub not_empty : (p : Program) (pivots t : ℕ) (r : Rule) → rule_at p t ≡ Some r → HasPoint (prepared r).rows
    → IsEmptyRule p pivots t → ⊥
not_empty p pivots t r numbered point (multipliers, (q, there, (a, same, is))) =
    ((answers-exact.empty (prepared q) t pivots a is).0 (shown_says a multipliers same)).0
    (subst (λ (x : Rule). HasPoint (prepared x).rows) (some_same r q (sym numbered ∙ there)) point)
