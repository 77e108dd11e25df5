-- Why places have no size in the program that squares.
use Rattle.std.proofs.Common.{◌≡◌, ℕ, zero, suc, true, List, [], ◌∷◌, Some, refl, sym, ◌∙◌}
use Rattle.std.proofs.Common.{subst, arith, All}
use Rattle.model.specs.Bounds.{Bound}
use Rattle.model.proofs.Cases.{some_none, none_some}
use Rattle.model.proofs.Membership.{no_is_not_yes}
use Rattle.cert_types.specs.declared.answer.Question.TheVariants as asked
use Rattle.cert_types.specs.cert_rules.Checks.{large_nodes}
use Rattle.cert_types.specs.cert_rules.Nodes.{Member}
use Rattle.cert_types.specs.cert_rules.Reasons as reasons
use Rattle.cert_types.specs.cert_rules.WorkedReasons.{tower}
use Rattle.guard_prep.specs.Tightening.{divisor_of}
use Rattle.cert_types.specs.cert_program.bound_table.InForce.{rewritten}
use Rattle.cert_types.specs.cert_program.bound_table.Rewriting.{simplified, passes_until_same, at_node, parts_passed}
use Rattle.cert_types.proofs.cert_rules.TestedNodes.{first-cycle, first-spread}
use Rattle.cert_types.specs.cert_program.Setting.{setting_of}
use Rattle.outcome.specs.Holding.{numbered_entry, place_entry}
use Rattle.outcome.specs.Reports.{NoTime, TimeHitLimit, Untimed, NoSize, SizeMissing, SizeNonlinear, Unsized, Uncosted}
use Rattle.bound_fixpoint.specs.Keys.{Bounds, key, over}
use Rattle.bound_fixpoint.specs.Loops.{do_loop}
use Rattle.time_bounds.specs.CostWhys.{HasNoCost}
use Rattle.time_bounds.specs.SaidBounds.{bounds_said}
use Rattle.time_bounds.specs.SizeWhys.{RestsOnSize, MultipliesAt, SizeIsLarge, composed_size, HasNoSize}
use Rattle.time_bounds.specs.TimeWhys.{HasNoTime}
use Rattle.worked_reasons.specs.Programs.{limit_hit_at, squares, square_after, squares_report}
use Rattle.worked_reasons.specs.Programs.{nonlinear_report}
use Rattle.worked_reasons.specs.Squares.{squares_said, towering_said, SquaresAreWorkedOut}
use Rattle.worked_reasons.proofs.SquareComponents.{components}
use Rattle.worked_reasons.proofs.SquareTimes.{first_time, second_time}

-- the first place squares itself
bends : MultipliesAt squares 0 squares_said 1 1 (key 1 1)
unfolding divisor_of rewritten simplified passes_until_same at_node parts_passed
bends = record {
  members = square_after 1 ∷ [];
  component = components.first;
  member = square_after 1;
  among = (zero, omega arith, refl);
  same = refl;
  loop = refl;
  nonlinear = λ h. no_is_not_yes true (h.up 1 refl 0 refl) refl;
  first = (reasons.Nonlinear 1 1, refl, first-cycle (setting_of squares) (over squares_said) (square_after 1 ∷ []) (reasons.Nonlinear 1 1) refl);
}

-- the second place isn't in a loop
no_loop : (b : Bounds) → MultipliesAt squares 0 b 2 1 (key 2 1) → ⊥
no_loop b h =
    no_is_not_yes (do_loop (setting_of squares) (square_after 2 ∷ [])) refl
    (subst (λ (ms : List Member). do_loop (setting_of squares) ms ≡ true) (components.no_other_second h.members h.component)
    h.loop)

-- the size of the second place depends on that of the first one
rests : RestsOnSize squares 0 squares_said 2 1 (key 1 1)
unfolding divisor_of rewritten simplified passes_until_same at_node parts_passed
rests = record {
  members = square_after 2 ∷ [];
  component = components.second;
  member = square_after 2;
  among = (zero, omega arith, refl);
  takes = record { place = omega arith; before = refl; reads = refl };
  outside = refl;
  missing = refl;
  first = (reasons.MissingSize 1 1, refl, first-spread (setting_of squares) (over squares_said) (square_after 2) (reasons.MissingSize 1 1) refl);
}

-- a size of 201 levels becomes 823 nodes
large : SizeIsLarge squares 0 towering_said 2 1 823
unfolding divisor_of rewritten simplified passes_until_same at_node parts_passed
large = record {
  members = square_after 2 ∷ [];
  component = components.second;
  size = composed_size (do_loop (setting_of squares) (square_after 2 ∷ [])) (setting_of squares) (over towering_said)
      (square_after 2 ∷ []);
  composed = refl;
  large = λ h. no_is_not_yes true h.before refl;
  nodes = refl;
  first = (reasons.Large 823, refl, first-spread (setting_of squares) (over towering_said) (square_after 2) (reasons.Large 823) refl);
}

not_so_large : SizeIsLarge squares 0 towering_said 2 1 822 → ⊥
not_so_large h = other (h.nodes ∙ nodes_of h.members h.size h.composed (components.no_other_second h.members h.component))
  where
    other : ◌≡◌ {A = ℕ} 822 823 → ⊥
    other e = omega (arith, e)

    nodes_of : (ms : List Member) (size : Bound)
        → size ≡ composed_size (do_loop (setting_of squares) ms) (setting_of squares) (over towering_said) ms
        → ms ≡ square_after 2 ∷ [] → large_nodes (setting_of squares).rewrite size ≡ 823
    nodes_of ms size e same =
        subst (λ (b : Bound). large_nodes (setting_of squares).rewrite b ≡ 823) (sym e)
        (subst
        (λ (ns : List Member). large_nodes (setting_of squares).rewrite
        (composed_size (do_loop (setting_of squares) ns) (setting_of squares) (over towering_said) ns) ≡ 823) (sym same) refl)

-- the reasons of the whole report are true
whole_times : (t : ℕ) (why : NoTime) → numbered_entry squares_report.times t ≡ Some (Untimed why)
    → HasNoTime squares 0 squares_said t why
whole_times zero why e = absurd (none_some (Untimed why) e)
whole_times (suc zero) why e =
    let same : TimeHitLimit (limit_hit_at 0 (asked.Rank 1)) ≡ why = cc in
    subst (λ (w : NoTime). HasNoTime squares 0 squares_said 1 w) same first_time
whole_times (suc (suc zero)) why e =
    let same : TimeHitLimit (limit_hit_at 0 (asked.Rank 2)) ≡ why = cc in
    subst (λ (w : NoTime). HasNoTime squares 0 squares_said 2 w) same second_time
whole_times (suc (suc (suc t))) why e = absurd (none_some (Untimed why) e)

whole_costs : (t : ℕ) (why : NoSize) → numbered_entry squares_report.costs t ≡ Some (Some (Uncosted why))
    → HasNoCost squares 0 squares_said t why
whole_costs zero why e = absurd (none_some (Some (Uncosted why)) e)
whole_costs (suc zero) why e = absurd (let none : ⊥ = cc in none)
whole_costs (suc (suc zero)) why e = absurd (let none : ⊥ = cc in none)
whole_costs (suc (suc (suc t))) why e = absurd (none_some (Some (Uncosted why)) e)

whole_sizes : (t i : ℕ) (why : NoSize) → place_entry (numbered_entry squares_report.sizes t) i ≡ Some (Unsized why)
    → HasNoSize squares 0 squares_said t i why
whole_sizes zero i why e = absurd (none_some (Unsized why) e)
whole_sizes (suc zero) zero why e = absurd (none_some (Unsized why) e)
whole_sizes (suc zero) (suc zero) why e =
    let same : SizeNonlinear (key 1 1) ≡ why = cc in subst (λ (w : NoSize). HasNoSize squares 0 squares_said 1 1 w) same bends
whole_sizes (suc zero) (suc (suc i)) why e = absurd (none_some (Unsized why) e)
whole_sizes (suc (suc zero)) zero why e = absurd (none_some (Unsized why) e)
whole_sizes (suc (suc zero)) (suc zero) why e =
    let same : SizeMissing (key 1 1) ≡ why = cc in subst (λ (w : NoSize). HasNoSize squares 0 squares_said 2 1 w) same rests
whole_sizes (suc (suc zero)) (suc (suc i)) why e = absurd (none_some (Unsized why) e)
whole_sizes (suc (suc (suc t))) i why e = absurd (none_some (Unsized why) e)

pub squares_worked : SquaresAreWorkedOut
squares_worked = record {
  components = components;
  nonlinear = bends;
  not_in_a_loop = no_loop squares_said;
  missing = rests;
  not_missing = λ h. some_none (tower 200) h.missing;
  large = large;
  not_so_large = not_so_large;
  whole = record { times = whole_times; costs = whole_costs; sizes = whole_sizes };
  not_whole = λ h. no_loop (bounds_said squares nonlinear_report) (h.sizes 2 1 (SizeNonlinear (key 2 1)) refl);
}
