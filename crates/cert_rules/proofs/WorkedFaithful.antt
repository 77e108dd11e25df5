-- The setting of the program that counts down is true of it.
use Rattle.std.proofs.Common.{◌≡◌, ℕ, zero, suc, ◌*◌, ◌≤◌, Bool, true, false, List, [], ◌∷◌, ◌++◌, length, Some, None}
use Rattle.std.proofs.Common.{refl, sym, ap, ◌∙◌, subst, arith}
use Rattle.std.specs.Prelude.{ℤ, pos, negsuc, ◌≤ℤ◌}
use Rattle.std.proofs.lemmas.Int.{ints}
use Rattle.std.proofs.lemmas.Bool.{and_parts}
use Rattle.std.proofs.lemmas.List.{get_or_append_left}
use Rattle.std.proofs.lemmas.List.Elements.{All-nil, All-cons, All-head}
use Rattle.run_counting.specs.model.Terms.{Term, Literal, Variable}
use Rattle.run_counting.specs.model.Programs.{Rule, rule_at, arity_of, AtLeast, Atom, Compare, AtomHolds}
use Rattle.run_counting.specs.model.Runs.{Config, Leads}
use Rattle.run_counting.specs.model.Bounds.{Bound, Constant, Input, SumOf, ProductOf, MaximumOf, PowerOf, Parts}
use Rattle.run_counting.specs.model.Bounds.{NoParts, Part, val}
use Rattle.run_counting.specs.model.Bounds.{val_sum, val_product, val_maximum, IsBased}
use Rattle.run_counting.specs.model.Polynomials.{Polynomial}
use Rattle.rule_forms.specs.linear_forms.Forms.{Form, at, form_value}
use Rattle.cert_rules.specs.Combined.{form_at}
use Rattle.cert_rules.specs.Setting.{StepPoint, IsFaithful}
use Rattle.cert_rules.specs.WorkedSettings.{form, is_nothing, are_nothing, has_nothing, folded, zero_below, enter}
use Rattle.cert_rules.specs.WorkedSettings.{count_down, counting}

-- a bound that is 0 by its structure has the value 0
mutual
  nothing_val : (b : Bound) (m : List ℕ) → is_nothing b ≡ true → val b m ≡ 0
  nothing_val (Constant zero) m h = refl
  nothing_val (Constant (suc n)) m h = absurd (no h)
    where
      no : false ≡ true → ⊥
      no e = cc
  nothing_val (Input i) m h = absurd (no h)
    where
      no : false ≡ true → ⊥
      no e = cc
  nothing_val (SumOf bs) m h = nothing_sum bs m h
  nothing_val (ProductOf bs) m h = nothing_product bs m h
  nothing_val (MaximumOf bs) m h = nothing_maximum bs m h
  nothing_val (PowerOf c e) m h = absurd (no h)
    where
      no : false ≡ true → ⊥
      no e = cc

  nothing_sum : (bs : Parts) (m : List ℕ) → are_nothing bs ≡ true → val_sum bs m ≡ 0
  nothing_sum NoParts m h = refl
  nothing_sum (Part b bs) m h = let parts =
      and_parts (is_nothing b) (are_nothing bs) h in omega (arith, nothing_val b m parts.0, nothing_sum bs m parts.1)

  nothing_maximum : (bs : Parts) (m : List ℕ) → are_nothing bs ≡ true → val_maximum bs m ≡ 0
  nothing_maximum NoParts m h = refl
  nothing_maximum (Part b bs) m h = let parts =
      and_parts (is_nothing b) (are_nothing bs) h in omega
      (arith, nothing_val b m parts.0, nothing_maximum bs m parts.1)

  nothing_product : (bs : Parts) (m : List ℕ) → has_nothing bs ≡ true → val_product bs m ≡ 0
  nothing_product NoParts m h = absurd (no h)
    where
      no : false ≡ true → ⊥
      no e = cc
  nothing_product (Part b bs) m h = go (is_nothing b) refl (λ e. nothing_val b m e) (λ e. nothing_product bs m e)
    where
      go : (v : Bool) → is_nothing b ≡ v → (is_nothing b ≡ true → val b m ≡ 0)
          → (has_nothing bs ≡ true → val_product bs m ≡ 0) → val b m * val_product bs m ≡ 0
      go true e one rest = ap (λ (n : ℕ). n * val_product bs m) (one e) ∙ omega arith
      go false e one rest = ap (λ (n : ℕ). val b m * n) (rest (rw e at h)) ∙ omega arith

-- folding keeps values
pub folded_val : (b : Bound) (m : List ℕ) → val (folded b) m ≡ val b m
folded_val b m = go (is_nothing b) refl
  where
    go : (v : Bool) → is_nothing b ≡ v → val (folded b) m ≡ val b m
    go true e = rw e (sym (nothing_val b m e))
    go false e = rw e refl

-- folding keeps bases of at least 1
pub folded-based : (b : Bound) → IsBased b → IsBased (folded b)
folded-based b h = go (is_nothing b) refl
  where
    go : (v : Bool) → is_nothing b ≡ v → IsBased (folded b)
    go true e = rw e tt
    go false e = rw e h

-- a bound that is below another by `zero_below` is the constant 0, so it is never greater
pub zero_first : (a b : Bound) → zero_below a b ≡ true → (m : List ℕ) → val a m ≤ val b m
zero_first (Constant zero) b h m = omega arith
zero_first (Constant (suc n)) b h m = absurd (no h)
  where
    no : false ≡ true → ⊥
    no e = cc
zero_first a b h m = absurd (no h)
  where
    no : false ≡ true → ⊥
    no e = cc

-- the first value of an environment is that of the configuration
pub first_in_env : (xs free : List ℤ) → length xs ≡ 1 → at (xs ++ free) 0 ≡ at xs 0
first_in_env xs free h = get_or_append_left xs free (pos 0) 0 (omega (arith, h))

-- a step by the first rule is a point of its rows
enters_at : (c : Config) (free : List ℤ) (d : Config) → Leads enter c free d → StepPoint counting 1 c free d
enters_at c free d h = record {
  z = λ j. at c.values j;
  point = record {
    denominator = omega (arith, ints);
    meets =
        record { each = All-nil (λ (r : Form). pos 0 ≤ℤ form_value r (λ j. at c.values j) (pos 1)) };
  };
  left = λ j l. refl;
  new_values = λ i. by i;
  nonlinear = λ i q e. absurd (none_some q e);
}
  where
    none_some : (q : Polynomial) → None ≡ Some q → ⊥
    none_some q e = cc

    by : (i : ℕ) → form_value (form_at (counting.new_values 1) i) (λ j. at c.values j) (pos 1) ≡ at d.values i
    by zero = omega (arith, ints, ap (λ (xs : List ℤ). at xs 0) h.values, first_in_env c.values free h.left)
    by (suc i) = sym (ap (λ (xs : List ℤ). at xs (suc i)) h.values)

-- a step by the second rule is a point of its rows
counts_at : (c : Config) (free : List ℤ) (d : Config) → Leads count_down c free d → StepPoint counting 2 c free d
counts_at c free d h = record {
  z = λ j. at c.values j;
  point = record { denominator = omega (arith, ints); meets = record { each = All-cons P row [] above (All-nil P) } };
  left = λ j l. refl;
  new_values = λ i. by i;
  nonlinear = λ i q e. absurd (none_some q e);
}
  where
    P : Form → Type 0
    P r = pos 0 ≤ℤ form_value r (λ j. at c.values j) (pos 1)

    row : Form
    row = form (pos 1 ∷ []) (negsuc 0)

    atom : Atom
    atom = Compare (Variable 0) AtLeast (Literal (pos 1))

    guard : pos 1 ≤ℤ at (c.values ++ free) 0
    guard = All-head (AtomHolds (c.values ++ free)) atom [] h.guard

    above : pos 0 ≤ℤ form_value row (λ j. at c.values j) (pos 1)
    above = omega (arith, ints, guard, first_in_env c.values free h.left)

    none_some : (q : Polynomial) → None ≡ Some q → ⊥
    none_some q e = cc

    by : (i : ℕ) → form_value (form_at (counting.new_values 2) i) (λ j. at c.values j) (pos 1) ≡ at d.values i
    by zero = omega (arith, ints, ap (λ (xs : List ℤ). at xs 0) h.values, first_in_env c.values free h.left)
    by (suc i) = sym (ap (λ (xs : List ℤ). at xs (suc i)) h.values)

-- the setting is true of the program
pub counting_is_faithful : IsFaithful counting
counting_is_faithful = record {
  places = λ t r e. one_place t r e;
  steps = λ c step d h. by_rule step.rule h.rule c step.free d h.numbered h.leads;
  costs = λ c step d h. absurd (no_cost_at step.rule h.rule h.cost h.numbered h.written);
  values = λ b based m. folded_val b m;
  bases = λ b based. folded-based b based;
  order = λ a b h k below m. zero_first a b below m;
}
  where
    one_place : (t : ℕ) (r : Rule) → rule_at counting.program t ≡ Some r → r.left ≡ arity_of counting.program r.source
    one_place zero r e = absurd (none_some e)
      where
        none_some : None ≡ Some r → ⊥
        none_some x = cc
    one_place (suc zero) r e = subst (λ (q : Rule). q.left ≡ arity_of counting.program q.source) same refl
      where
        same : enter ≡ r
        same = cc
    one_place (suc (suc zero)) r e = subst (λ (q : Rule). q.left ≡ arity_of counting.program q.source) same refl
      where
        same : count_down ≡ r
        same = cc
    one_place (suc (suc (suc t))) r e = absurd (none_some e)
      where
        none_some : None ≡ Some r → ⊥
        none_some x = cc

    no_cost_at : (t : ℕ) (r : Rule) (cost : Term) → rule_at counting.program t ≡ Some r → r.cost ≡ Some cost → ⊥
    no_cost_at zero r cost e f = none_some e
      where
        none_some : None ≡ Some r → ⊥
        none_some x = cc
    no_cost_at (suc zero) r cost e f = none_some (ap (λ (q : Rule). q.cost) same ∙ f)
      where
        same : enter ≡ r
        same = cc

        none_some : None ≡ Some cost → ⊥
        none_some x = cc
    no_cost_at (suc (suc zero)) r cost e f = none_some (ap (λ (q : Rule). q.cost) same ∙ f)
      where
        same : count_down ≡ r
        same = cc

        none_some : None ≡ Some cost → ⊥
        none_some x = cc
    no_cost_at (suc (suc (suc t))) r cost e f = none_some e
      where
        none_some : None ≡ Some r → ⊥
        none_some x = cc

    by_rule : (t : ℕ) (r : Rule) (c : Config) (free : List ℤ) (d : Config) → rule_at counting.program t ≡ Some r
        → Leads r c free d → StepPoint counting t c free d
    by_rule zero r c free d e h = absurd (none_some e)
      where
        none_some : None ≡ Some r → ⊥
        none_some x = cc
    by_rule (suc zero) r c free d e h = enters_at c free d (subst (λ (q : Rule). Leads q c free d) same h)
      where
        same : r ≡ enter
        same = cc
    by_rule (suc (suc zero)) r c free d e h = counts_at c free d (subst (λ (q : Rule). Leads q c free d) same h)
      where
        same : r ≡ count_down
        same = cc
    by_rule (suc (suc (suc t))) r c free d e h = absurd (none_some e)
      where
        none_some : None ≡ Some r → ⊥
        none_some x = cc
