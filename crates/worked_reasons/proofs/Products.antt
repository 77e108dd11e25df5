-- Why places have no size in the program that multiplies its arguments.
use Rattle.std.proofs.Common.{◌≡◌, ℕ, zero, true, List, [], ◌∷◌, refl, subst, arith, All}
use Rattle.model.proofs.Membership.{no_is_not_yes}
use Rattle.cert_types.specs.cert_rules.Checks.{cycle_checks}
use Rattle.cert_types.specs.cert_rules.Nodes.{Member}
use Rattle.cert_types.specs.cert_rules.Reasons as reasons
use Rattle.cert_types.specs.cert_rules.Reasons.{IsFirstAmong}
use Rattle.guard_prep.specs.Tightening.{divisor_of}
use Rattle.cert_types.specs.cert_program.bound_table.InForce.{rewritten}
use Rattle.cert_types.specs.cert_program.bound_table.Rewriting.{simplified, passes_until_same, at_node, parts_passed}
use Rattle.cert_types.proofs.cert_rules.CheckLists.{first_is_one}
use Rattle.cert_types.proofs.cert_rules.TestedNodes.{first-cycle}
use Rattle.cert_types.specs.cert_program.Setting.{setting_of}
use Rattle.local_size.specs.LocalAnswers.{both_polynomial}
use Rattle.bound_fixpoint.specs.Keys.{key, has_key, over}
use Rattle.outcome.specs.Reports.{SizeNonlinear}
use Rattle.time_bounds.specs.SizeWhys.{LacksFirst, MultipliesAt}
use Rattle.worked_reasons.specs.Products.{products_said, ProductsAreWorkedOut}
use Rattle.worked_reasons.specs.Programs.{products, both_products}
use Rattle.worked_reasons.proofs.ProductComponents.{component, no_other}

-- the members
abbrev member_at : ℕ → Member
member_at i = record { result_variable = key 1 i; local = both_polynomial }

-- the first check of both places that fails is that the first place reads no member by a polynomial
first_fails : IsFirstAmong (cycle_checks (setting_of products) (over products_said) both_products) (reasons.Nonlinear 1 1)
unfolding divisor_of rewritten simplified passes_until_same at_node parts_passed
first_fails = first-cycle (setting_of products) (over products_said) both_products (reasons.Nonlinear 1 1) refl

-- the first place is reported for both places
bends : (i : ℕ) → has_key (key 1 1 ∷ key 1 2 ∷ []) 1 i ≡ true → MultipliesAt products 0 products_said 1 i (key 1 1)
bends i inside = record {
  members = both_products;
  component = component i inside;
  member = member_at 1;
  among = (zero, omega arith, refl);
  same = refl;
  loop = refl;
  nonlinear = λ h. no_is_not_yes true (h.up 1 refl 0 refl) refl;
  first = (reasons.Nonlinear 1 1, refl, first_fails);
}

-- the second place isn't reported
not_second : (i : ℕ) → MultipliesAt products 0 products_said 1 i (key 1 2) → ⊥
not_second i h =
    other
    (subst (λ (ms : List Member). LacksFirst (setting_of products) products_said ms (SizeNonlinear (key 1 2)))
    (no_other i h.members h.component) h.first)
  where
    other : LacksFirst (setting_of products) products_said both_products (SizeNonlinear (key 1 2)) → ⊥
    other (r, is, fails) =
        let same = first_is_one (cycle_checks (setting_of products) (over products_said) both_products) (reasons.Nonlinear 1 1) r
        first_fails fails in
        (let none : ⊥ = cc in none)

pub products_worked : ProductsAreWorkedOut
products_worked = record {
  first_component = component 1 refl;
  second_component = component 2 refl;
  no_other = no_other;
  first = bends 1 refl;
  second_by_first = bends 2 refl;
  not_by_second = not_second 1;
  not_by_itself = not_second 2;
}
