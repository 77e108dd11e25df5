-- The goal form of a coefficient that a rule doesn't concern.
use Rattle.std.proofs.Common.{◌≡◌, refl, Bool, true, false, ◌||◌, nat_eq, if◌then◌else◌}
use Rattle.std.proofs.lemmas.Bool.{true≢false}
use Rattle.simplex_core.specs.linear_forms.Combinations.{form_sum, zero_form}
use Rattle.simplex_core.specs.linear_forms.RuleQuestions.{RuleForms, Coefficient, opposite, before_rule, after_rule}
use Rattle.simplex_core.specs.linear_forms.RuleQuestions.{at_source}
use Rattle.simplex_core.specs.linear_forms.RuleQuestions.{at_target}
use Rattle.rank_search.specs.declared.goals.Part.{Part}
use Rattle.rank_search.specs.declared.goals.Part.TheVariants.{Move, Fall, Floor}
use Rattle.rank_search.specs.Goals.{goal_form}

-- a coefficient of neither the source nor the target has no share in the decrease by the rule
unmoved : (r : RuleForms) (c : Coefficient) → (nat_eq c.symbol r.source || nat_eq c.symbol r.target) ≡ false
    → zero_form ≡ form_sum (at_source r c) (opposite (at_target r c))
unmoved r c e = go (nat_eq c.symbol r.source) (nat_eq c.symbol r.target) e
  where
    go : (s t : Bool) → (s || t) ≡ false
        → zero_form ≡ form_sum (if s then before_rule c.place else zero_form)
        (opposite (if t then after_rule r c.place else zero_form))
    go false false e = refl
    go true t e = absurd (true≢false e)
    go false true e = absurd (true≢false e)

-- the form of a coefficient neither of the source nor of the target is 0
pub unconcerned : (part : Part) (r : RuleForms) (c : Coefficient) →
    (nat_eq c.symbol r.source || nat_eq c.symbol r.target) ≡ false
    → zero_form ≡ goal_form part r c
unconcerned Move r c e = unmoved r c e
unconcerned Fall r c e = unmoved r c e
unconcerned Floor r c e = go (nat_eq c.symbol r.source) (nat_eq c.symbol r.target) e
  where
    go : (s t : Bool) → (s || t) ≡ false → zero_form ≡ (if s then before_rule c.place else zero_form)
    go false t e = refl
    go true t e = absurd (true≢false e)
