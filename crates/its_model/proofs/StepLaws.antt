-- The first fault of a use of a rule, and steps.
use Rattle.std.proofs.Common.{◌≡◌, ℕ, zero, suc, ◌≤◌, ◌&&◌, List, [], ◌∷◌, ◌++◌, length, map, Bool, true, false, refl}
use Rattle.std.proofs.Common.{ap, sym, ◌∙◌, subst, arith, nat_eq, if◌then◌else◌}
use Rattle.std.specs.Prelude.{ℤ, ◌<ℤ◌, Option, Some, None, slice_get}
use Rattle.std.specs.List.{AllByRecursion}
use Rattle.std.specs.declared.cmp.Ordering.{Ordering}
use Rattle.std.specs.declared.cmp.Ordering.TheVariants.{Less, Equal, Greater}
use Rattle.std.specs.Ordering.{int_eq, int_cmp, is_eq, MatchOrdering}
use Rattle.std.proofs.lemmas.Cmp.{int_ranked}
use Rattle.std.proofs.lemmas.Int.{ints}
use Rattle.std.proofs.lemmas.Bool.Decides.{nat_tests}
use Rattle.poly_terms.specs.model.Terms.{Term, value}
use Rattle.poly_terms.specs.model.Programs.{Relation, AtLeast, MoreThan, AtMost, LessThan, EqualTo, Related, AtomHolds}
use Rattle.poly_terms.specs.model.Programs.{Atom}
use Rattle.poly_terms.specs.model.Programs.{Always, Compare, Symbol, Rule, Program, rule_at, arity_in}
use Rattle.poly_terms.specs.model.Runs.{Config, Step, Leads, IsStep}
use Rattle.poly_terms.specs.Checked.{values_fit, value_within}
use Rattle.its_model.specs.Steps.{StepFault, OtherRule, AtomFails, PastRange, first_of, is_related, atom_fault}
use Rattle.its_model.specs.Steps.{guard_fault, updates_fault, rule_fault, found_fault, step_fault, AtomFits, RuleFits}
use Rattle.its_model.specs.Steps.{maximum_arity, StepsHaveNoFault}
use Rattle.its_model.proofs.ListLaws.{all-to, all-from}

-- If a value is returned, it is the expression's, and no intermediate value exceeds 128 bits.
pub within-some : (u : Term) (env : List ℤ) (z : ℤ) → Some z ≡ value_within u env → (values_fit u env ≡ true) × (z ≡ value u env)
within-some u env z e = go (values_fit u env) refl e
  where
    go : (b : Bool) → values_fit u env ≡ b → Some z ≡ (if b then Some (value u env) else None) → (values_fit u env ≡ true) × (z ≡ value u env)
    go true f g = (f, cc)
    go false f g = cc

-- If no value is returned, some value exceeds 128 bits.
pub within-none : (u : Term) (env : List ℤ) → None ≡ value_within u env → values_fit u env ≡ false
within-none u env e = go (values_fit u env) refl e
  where
    go : (b : Bool) → values_fit u env ≡ b → None ≡ (if b then Some (value u env) else None) → values_fit u env ≡ false
    go true f g = cc
    go false f g = f

-- If the first of two has no fault, neither has; the second is then reported.
first-none : (f g : Option StepFault) → first_of f g ≡ None → (f ≡ None) × (g ≡ None)
first-none None g h = (refl, h)
first-none (Some f) g h = cc

-- Two integers compare as equal exactly if they are equal.
equal-holds : (x y : ℤ) → int_eq x y ≡ true → x ≡ y
equal-holds x y h = go (int_cmp x y) (int_ranked x y (int_cmp x y) refl) h
  where
    go : (o : Ordering) → MatchOrdering o (x <ℤ y) (x ≡ y) (y <ℤ x) → is_eq o ≡ true → x ≡ y
    go Less m g = cc
    go Equal m g = m
    go Greater m g = cc

equal-answers : (x y : ℤ) → x ≡ y → int_eq x y ≡ true
equal-answers x y e = go (int_cmp x y) (int_ranked x y (int_cmp x y) refl)
  where
    go : (o : Ordering) → MatchOrdering o (x <ℤ y) (x ≡ y) (y <ℤ x) → is_eq o ≡ true
    go Less m = absurd (omega (arith, ints, m, e))
    go Equal m = refl
    go Greater m = absurd (omega (arith, ints, m, e))

-- If the test of a relation says that it holds, it does.
related-holds : (r : Relation) (x y : ℤ) → is_related r x y ≡ true → Related r x y
related-holds AtLeast x y h = grind (arith, ints)
related-holds MoreThan x y h = grind (arith, ints)
related-holds AtMost x y h = grind (arith, ints)
related-holds LessThan x y h = grind (arith, ints)
related-holds EqualTo x y h = equal-holds x y h

-- If a relation holds, its test says so.
related-answers : (r : Relation) (x y : ℤ) → Related r x y → is_related r x y ≡ true
related-answers AtLeast x y h = grind (arith, ints)
related-answers MoreThan x y h = grind (arith, ints)
related-answers AtMost x y h = grind (arith, ints)
related-answers LessThan x y h = grind (arith, ints)
related-answers EqualTo x y h = equal-answers x y h

-- An atom without a fault holds, and no value of it exceeds 128 bits.
atom-holds : (env : List ℤ) (n : ℕ) (a : Atom) → atom_fault env n a ≡ None → AtomHolds env a × AtomFits env a
atom-holds env n Always h = (tt, tt)
atom-holds env n (Compare d r e) h = go (values_fit d env) (values_fit e env) (is_related r (value d env) (value e env)) refl refl refl h
  where
    go : (a b c : Bool) → values_fit d env ≡ a → values_fit e env ≡ b → is_related r (value d env) (value e env) ≡ c
        → (if a && b then (if c then None else Some (AtomFails n)) else Some PastRange) ≡ None
        → Related r (value d env) (value e env) × ((values_fit d env ≡ true) × (values_fit e env ≡ true))
    go true true true f g k i = (related-holds r (value d env) (value e env) k, (f, g))
    go true true false f g k i = cc
    go true false c f g k i = cc
    go false b c f g k i = cc

atom-no_fault : (env : List ℤ) (n : ℕ) (a : Atom) → AtomHolds env a → AtomFits env a → atom_fault env n a ≡ None
atom-no_fault env n Always h f = refl
atom-no_fault env n (Compare d r e) h f =
    ap (λ (b : Bool). if b && values_fit e env then (if is_related r (value d env) (value e env) then None else Some (AtomFails n)) else Some PastRange) f.0
    ∙ (ap (λ (b : Bool). if b then (if is_related r (value d env) (value e env) then None else Some (AtomFails n)) else Some PastRange) f.1
    ∙ ap (λ (b : Bool). if b then None else Some (AtomFails n)) (related-answers r (value d env) (value e env) h))

-- If no atom has a fault, all of them hold.
guard-holds : (env : List ℤ) (n : ℕ) (atoms : List Atom) → guard_fault env n atoms ≡ None → AllByRecursion (AtomHolds env) atoms × AllByRecursion (AtomFits env) atoms
guard-holds env n [] h = (tt, tt)
guard-holds env n (a ∷ atoms) h =
    let two = first-none (atom_fault env n a) (guard_fault env (suc n) atoms) h in
    let one = atom-holds env n a two.0 in
    let rest = guard-holds env (suc n) atoms two.1 in
    ((one.0, rest.0), (one.1, rest.1))

guard-no_fault : (env : List ℤ) (n : ℕ) (atoms : List Atom) → AllByRecursion (AtomHolds env) atoms → AllByRecursion (AtomFits env) atoms → guard_fault env n atoms ≡ None
guard-no_fault env n [] h f = refl
guard-no_fault env n (a ∷ atoms) h f =
    ap (λ (g : Option StepFault). first_of g (guard_fault env (suc n) atoms)) (atom-no_fault env n a h.0 f.0) ∙ guard-no_fault env (suc n) atoms h.1 f.1

-- Updates have no fault exactly if their values are within 128 bits.
updates-fit : (env : List ℤ) (us : List Term) → updates_fault env us ≡ None → AllByRecursion (λ u. values_fit u env ≡ true) us
updates-fit env [] h = tt
updates-fit env (u ∷ us) h = go (values_fit u env) refl h (updates-fit env us)
  where
    go : (b : Bool) → values_fit u env ≡ b → (if b then updates_fault env us else Some PastRange) ≡ None
        → (updates_fault env us ≡ None → AllByRecursion (λ u. values_fit u env ≡ true) us) → AllByRecursion (λ u. values_fit u env ≡ true) (u ∷ us)
    go true f g ih = (f, ih g)
    go false f g ih = cc

updates-no_fault : (env : List ℤ) (us : List Term) → AllByRecursion (λ u. values_fit u env ≡ true) us → updates_fault env us ≡ None
updates-no_fault env [] f = refl
updates-no_fault env (u ∷ us) f = ap (λ (b : Bool). if b then updates_fault env us else Some PastRange) f.0 ∙ updates-no_fault env us f.1

-- The conditions that a rule without a fault meets.
record Sound (r : Rule) (c : Config) (free : List ℤ) : Type 0 where
  source : c.at ≡ r.source
  free_ones : length free ≡ r.free
  guard : guard_fault (c.values ++ free) 1 r.guard ≡ None
  updates : updates_fault (c.values ++ free) r.updates ≡ None

rule-sound : (r : Rule) (c : Config) (free : List ℤ) → rule_fault r c free ≡ None → Sound r c free
rule-sound r c free h = go (nat_eq c.at r.source) (nat_eq (length free) r.free) refl refl h
  where
    same : (x y : ℕ) → nat_eq x y ≡ true → x ≡ y
    same x y e = grind (arith, nat_tests)

    go : (a b : Bool) → nat_eq c.at r.source ≡ a → nat_eq (length free) r.free ≡ b
        → (if a && b then first_of (guard_fault (c.values ++ free) 1 r.guard) (updates_fault (c.values ++ free) r.updates) else Some OtherRule) ≡ None
        → Sound r c free
    go true true f g k =
        let two = first-none (guard_fault (c.values ++ free) 1 r.guard) (updates_fault (c.values ++ free) r.updates) k in
        record { source = same _ _ f; free_ones = same _ _ g; guard = two.0; updates = two.1 }
    go true false f g k = cc
    go false b f g k = cc

-- The fault of a step is that of the rule with its number.
found : (p : Program) (c : Config) (s : Step) (r : Rule) → rule_at p s.rule ≡ Some r → step_fault p c s ≡ rule_fault r c s.free
found p c s r e = ap (λ (o : Option Rule). found_fault o c s.free) e

-- A use of a rule has no fault exactly if it is a step within 128 bits.
pub steps-have-no-fault : StepsHaveNoFault
steps-have-no-fault = record { step = step; fits = fits; no_fault = no_fault }
  where
    step : (p : Program) (c : Config) (s : Step) (r : Rule) → rule_at p s.rule ≡ Some r → length c.values ≡ r.left → step_fault p c s ≡ None
        → IsStep p c s (record { at = r.target; values = map (λ u. value u (c.values ++ s.free)) r.updates })
    step p c s r e l h =
        let sound = rule-sound r c s.free (sym (found p c s r e) ∙ h) in record {
          rule = r;
          numbered = e;
          leads = record {
            source = sound.source;
            left = l;
            free_ones = sound.free_ones;
            guard = all-to (AtomHolds (c.values ++ s.free)) r.guard (guard-holds (c.values ++ s.free) 1 r.guard sound.guard).0;
            target = refl;
            values = refl;
          };
        }

    fits : (p : Program) (c : Config) (s : Step) (r : Rule) → rule_at p s.rule ≡ Some r → step_fault p c s ≡ None → RuleFits r (c.values ++ s.free)
    fits p c s r e h =
        let sound = rule-sound r c s.free (sym (found p c s r e) ∙ h) in record {
          guard = (guard-holds (c.values ++ s.free) 1 r.guard sound.guard).1;
          updates = updates-fit (c.values ++ s.free) r.updates sound.updates;
        }

    no_fault : (p : Program) (c d : Config) (s : Step) (r : Rule) → rule_at p s.rule ≡ Some r → IsStep p c s d → RuleFits r (c.values ++ s.free) → step_fault p c s ≡ None
    no_fault p c d s r e i f =
        let l : Leads r c s.free d = subst (λ (q : Rule). Leads q c s.free d) (let g : Some i.rule ≡ Some r = sym i.numbered ∙ e in cc) i.leads in
        found p c s r e
        ∙ (ap (λ (b : Bool). if b && nat_eq (length s.free) r.free then first_of (guard_fault (c.values ++ s.free) 1 r.guard) (updates_fault (c.values ++ s.free) r.updates) else Some OtherRule) (yes _ _ l.source)
        ∙ (ap (λ (b : Bool). if b then first_of (guard_fault (c.values ++ s.free) 1 r.guard) (updates_fault (c.values ++ s.free) r.updates) else Some OtherRule) (yes _ _ l.free_ones)
        ∙ (ap (λ (g : Option StepFault). first_of g (updates_fault (c.values ++ s.free) r.updates))
        (guard-no_fault (c.values ++ s.free) 1 r.guard (all-from (AtomHolds (c.values ++ s.free)) r.guard l.guard) f.guard)
        ∙ updates-no_fault (c.values ++ s.free) r.updates f.updates)))
      where
        yes : (x y : ℕ) → x ≡ y → nat_eq x y ≡ true
        yes x y g = grind (arith, nat_tests)

-- A use without a fault reaches the configuration with the new values.
pub step-taken : (p : Program) (c d : Config) (s : Step) (r : Rule) → rule_at p s.rule ≡ Some r → (c.at ≡ r.source → length c.values ≡ r.left)
    → rule_fault r c s.free ≡ None → d.at ≡ r.target → d.values ≡ map (λ u. value u (c.values ++ s.free)) r.updates → IsStep p c s d
step-taken p c d s r e l h a v =
    subst (IsStep p c s) (λ i. record { at = sym a i; values = sym v i })
    (steps-have-no-fault.step p c s r e (l (rule-sound r c s.free h).source) (found p c s r e ∙ h))

-- No symbol has more places than the maximum.
pub arity-at-most : (symbols : List Symbol) (s : ℕ) → arity_in (slice_get symbols s) ≤ maximum_arity symbols
arity-at-most [] s = omega arith
arity-at-most (x ∷ symbols) zero = omega arith
arity-at-most (x ∷ symbols) (suc s) = omega (arith, arity-at-most symbols s)
