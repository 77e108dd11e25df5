-- What reasons of missing sizes say of small programs.
use Rattle.std.proofs.Common.{◌≡◌, ℕ, zero, suc, ◌<◌, ◌≤◌, Bool, true, false, List, [], ◌∷◌, Some, None, refl, ◌∙◌}
use Rattle.std.proofs.Common.{ap, subst, arith}
use Rattle.std.specs.Prelude.{pos, negsuc, ◌==◌, Option, filter}
use Rattle.std.specs.List.{list_any}
use Rattle.std.proofs.lemmas.Int.{ints}
use Rattle.model.specs.Entries.{is_in}
use Rattle.model.specs.Paths.{comes_before}
use Rattle.model.specs.Polynomials.{Polynomial}
use Rattle.model.proofs.Cases.{none_some}
use Rattle.model.proofs.Membership.{filter-in, no_is_not_yes}
use Rattle.its_model.specs.linear_forms.Forms.{at}
use Rattle.guard_prep.specs.Prepared.{prepared}
use Rattle.outcome.specs.Holding.{numbered_entry, place_entry}
use Rattle.outcome.specs.Reports.{NoTime, Untimed, NoSize, SizeUnbounded, Unsized, Uncosted}
use Rattle.cert_types.specs.rule_forms.Bounds.{IsUnboundedRay}
use Rattle.cert_types.specs.rule_forms.Worked.{plane_form, free_value}
use Rattle.cert_types.proofs.rule_forms.Worked.{worked}
use Rattle.cert_types.specs.declared.answer.Question.TheVariants as asked
use Rattle.cert_types.specs.cert_rules.AcceptsSizes.{Side, Up, Low, IsStraightSideBound}
use Rattle.cert_types.specs.cert_rules.ComposedSizes.{poly_at, reads}
use Rattle.cert_types.specs.cert_rules.Nodes.{ResultVariable, Member, SideBound, Linear, Poly}
use Rattle.cert_types.specs.cert_rules.WorkedGaps.{guessed}
use Rattle.cert_types.specs.cert_program.Setting.{setting_of}
use Rattle.cert_types.specs.cert_program.Worked.{three_rules}
use Rattle.cert_types.specs.cert_program.WorkedGaps.{looping}
use Rattle.local_size.specs.Places.{value_on, is_polynomial_at}
use Rattle.bound_fixpoint.specs.Keys.{Bounds, key}
use Rattle.bound_fixpoint.proofs.Cases.{either}
use Rattle.time_bounds.specs.SaidBounds.{bounds_said}
use Rattle.time_bounds.specs.CostWhys.{HasNoCost}
use Rattle.time_bounds.specs.SizeWhys.{PassesEveryForm, PlaceHitsLimitSo, RestsOnSize, MultipliesAt, GrowsUntimed, HasNoSize}
use Rattle.time_bounds.specs.TimeWhys.{HasNoTime}
use Rattle.time_bounds.specs.WorkedReports.{along_free, from_one}
use Rattle.time_bounds.specs.WorkedSizeWhys.{guessing_alone, limit_hit_from, SmallPlacesAreWorkedOut, alone_with}
use Rattle.time_bounds.specs.WorkedSizeWhys.{MissingSizesAreWorkedOut}
use Rattle.time_bounds.proofs.FreeValue.{free_point, free_none, of_rule, bounded}
use Rattle.time_bounds.proofs.LargeNodes.{large_many}
use Rattle.time_bounds.proofs.PassedForms.{unbounded_passes}

-- the place that squares has the polynomial of its own
square : (b : Bounds) → (h : HasNoSize three_rules 10 b 2 1 (SizeUnbounded Up along_free from_one)) → ⊥
square b h = no_is_not_yes true (of_rule (λ r. is_polynomial_at (prepared r) 1 ≡ false) _ h.rule h.numbered h.not_polynomial) refl

square_low : (b : Bounds) → (h : HasNoSize three_rules 10 b 2 1 (SizeUnbounded Low along_free from_one)) → ⊥
square_low b h =
    no_is_not_yes true (of_rule (λ r. is_polynomial_at (prepared r) 1 ≡ false) _ h.rule h.numbered h.not_polynomial) refl

-- the limit hits of the questions of other places and rules
other_place : PlaceHitsLimitSo guessed 10 1 1 (limit_hit_from (asked.Local 2 1)) → ⊥
other_place h =
    either h.hits_limit (λ own. let e = own.question in (let none : ⊥ = cc in none))
    (λ empty. let e = empty.hits_limit.hits_limit.0 in (let none : ⊥ = cc in none))

other_rule : PlaceHitsLimitSo guessed 10 1 1 (limit_hit_from (asked.Empty 2)) → ⊥
other_rule h =
    either h.hits_limit (λ own. let e = own.question in (let none : ⊥ = cc in none))
    (λ empty. let e = empty.hits_limit.hits_limit.0 in (let none : ⊥ = cc in none))

-- rule 2 is in no filtered list of the rules of the program with one rule
no_second : (test : ℕ → Bool) → is_in 2 (filter test (0 ∷ 1 ∷ [])) ≡ true → ⊥
no_second test m = no_is_not_yes false refl (filter-in test (0 ∷ 1 ∷ []) 2 m).0

from_nowhere : (b : Bounds) → RestsOnSize looping 10 b 1 1 (key 2 1) → ⊥
from_nowhere b h = no_second (λ e. comes_before looping e h.member.result_variable.rule) h.takes.before

for_itself : (b : Bounds) → RestsOnSize guessed 10 b 2 1 (key 2 1) → ⊥
for_itself b h = no_is_not_yes _ h.outside h.component.inside

-- a side bound of a place without a polynomial isn't nonlinear
side_bound_straight : (members : List Member) (m : Member) (e : ℕ) (poly : Option Polynomial) → poly_at (setting_of looping) m.result_variable ≡ poly
    → poly ≡ None → (a : SideBound) → IsStraightSideBound (setting_of looping) members m e a
side_bound_straight members m e poly is none (Linear den form multipliers) = tt
side_bound_straight members m e poly is none Poly = λ j r. absurd (no_is_not_yes false refl (subst (λ (q : Option Polynomial). reads q Poly j ≡ true) (is ∙ none) r))

straight_at : (b : Bounds) (k : ResultVariable) → poly_at (setting_of looping) k ≡ None → MultipliesAt looping 10 b 1 1 k → ⊥
straight_at b k none h =
    let is : poly_at (setting_of looping) h.member.result_variable ≡ None = ap (poly_at (setting_of looping)) h.same ∙ none in
    h.nonlinear record {
      up = λ e m. side_bound_straight h.members h.member e None is refl h.member.local.up;
      low = λ e m. side_bound_straight h.members h.member e None is refl h.member.local.low;
    }

grown_nowhere : (b : Bounds) → GrowsUntimed looping 10 b 1 1 2 → ⊥
grown_nowhere b h = no_second (λ t. list_any (λ m. m.result_variable.rule == t) h.members) h.uses

places : SmallPlacesAreWorkedOut
places = record {
  square = λ b side. sides b side;
  other_place = λ b h. other_place h;
  other_rule = λ b h. other_rule h;
  from_nowhere = from_nowhere;
  for_itself = for_itself;
  not_polynomial = λ b h. straight_at b (key 1 1) refl h;
  nonlinear_nowhere = λ b h. straight_at b (key 2 1) refl h;
  grown_nowhere = grown_nowhere;
  small = λ p pivots b t i n few h. few_nodes n _ few h.nodes (large_many (setting_of p).rewrite h.size h.large);
}
  where
    few_nodes : (n k : ℕ) → n ≤ 200 → n ≡ k → 200 < k → ⊥
    few_nodes n k few e l = omega (arith, few, e, l)

    sides : (b : Bounds) (side : Side) → HasNoSize three_rules 10 b 2 1 (SizeUnbounded side along_free from_one) → ⊥
    sides b Up h = square b h
    sides b Low h = square_low b h

-- the free value of the rule alone exceeds every form
alone_unbounded : (b : Bounds) → HasNoSize guessing_alone 10 b 1 1 (SizeUnbounded Up along_free from_one)
alone_unbounded b = record {
  rule = _;
  numbered = refl;
  not_polynomial = refl;
  ray_length = refl;
  point_length = refl;
  from = free_point;
  along = worked.rays.unbounded;
  passes = unbounded_passes [] 1 free_value from_one along_free free_point worked.rays.unbounded;
  none = free_none;
}

whole_times : (t : ℕ) (why : NoTime)
    → numbered_entry (alone_with (SizeUnbounded Up along_free from_one)).times t ≡ Some (Untimed why)
    → HasNoTime guessing_alone 10 (bounds_said guessing_alone (alone_with (SizeUnbounded Up along_free from_one))) t why
whole_times zero why e = absurd (none_some (Untimed why) e)
whole_times (suc zero) why e = absurd (let none : ⊥ = cc in none)
whole_times (suc (suc k)) why e = absurd (none_some (Untimed why) e)

whole_sizes : (t i : ℕ) (why : NoSize)
    → place_entry (numbered_entry (alone_with (SizeUnbounded Up along_free from_one)).sizes t) i ≡ Some (Unsized why)
    → HasNoSize guessing_alone 10 (bounds_said guessing_alone (alone_with (SizeUnbounded Up along_free from_one))) t i why
whole_sizes zero i why e = absurd (none_some (Unsized why) e)
whole_sizes (suc zero) zero why e = absurd (none_some (Unsized why) e)
whole_sizes (suc zero) (suc zero) why e =
    let same : SizeUnbounded Up along_free from_one ≡ why = cc in
    subst (λ (w : NoSize). HasNoSize guessing_alone 10
    (bounds_said guessing_alone (alone_with (SizeUnbounded Up along_free from_one))) 1 1 w) same
    (alone_unbounded (bounds_said guessing_alone (alone_with (SizeUnbounded Up along_free from_one))))
whole_sizes (suc zero) (suc (suc j)) why e = absurd (none_some (Unsized why) e)
whole_sizes (suc (suc k)) i why e = absurd (none_some (Unsized why) e)

whole_costs : (t : ℕ) (why : NoSize)
    → numbered_entry (alone_with (SizeUnbounded Up along_free from_one)).costs t ≡ Some (Some (Uncosted why))
    → HasNoCost guessing_alone 10 (bounds_said guessing_alone (alone_with (SizeUnbounded Up along_free from_one))) t why
whole_costs zero why e = absurd (none_some (Some (Uncosted why)) e)
whole_costs (suc zero) why e = absurd (let none : ⊥ = cc in none)
whole_costs (suc (suc k)) why e = absurd (none_some (Some (Uncosted why)) e)

-- the free value doesn't rise on the low side
not_down : PassesEveryForm guessing_alone 1 1 Low along_free from_one → ⊥
not_down h =
    down (of_rule (λ r. IsUnboundedRay (prepared r).rows (prepared r).left (value_on Low (prepared r) 1) (at along_free)) _
    h.rule h.numbered h.along)
  where
    down : IsUnboundedRay [] 1 (plane_form (pos 0) (negsuc 0) (pos 0)) (at along_free) → ⊥
    down l = let rises = l.rises in omega (arith, ints, rises)

pub missing_sizes : MissingSizesAreWorkedOut
missing_sizes = record {
  places = places;
  whole = record { times = whole_times; costs = whole_costs; sizes = whole_sizes };
  wrong_side = λ h. not_down (h.sizes 1 1 (SizeUnbounded Low along_free from_one) refl);
  wrong_place = λ h. bounded along_free from_one (h.sizes 2 1 (SizeUnbounded Up along_free from_one) refl);
}
