-- The derivations before the first round: those of dead rules.
use Rattle.std.specs.Prelude.{◌≡◌, ◌↔◌, ℕ, ◌&&◌, not, nat_lt, Bool, true, false, cond, List, [], ◌∷◌, ◌++◌, filter, map}
use Rattle.std.specs.Prelude.{Option, Some, None}
use Rattle.rule_questions.specs.model.Programs.{Program, arity_of}
use Rattle.rule_questions.specs.model.Bounds.{Constant}
use Rattle.rule_questions.specs.model.Paths.{target_of}
use Rattle.rule_questions.specs.cert_rules.Nodes.{ResultVariable}
use Rattle.rule_questions.specs.cert_rules.AcceptsPlain.{IsRule, IsUnreached}
use Rattle.bound_fixpoint.specs.Keys.{time_key, rule_numbers}
use Rattle.bound_fixpoint.specs.Derivations.{EmptyBy, UnreachedBy, NeverBy, Derivation, keys_after}
use Rattle.bound_fixpoint.specs.Searches.{Searches, NoPoint}
use Rattle.bound_fixpoint.specs.Components.{IsEmpty}

-- the derivation of the time 0 of an infeasible rule; that of a rule that no rules other than these reach; and that of
-- the sizes 0 after a rule whose time is 0
abbrev pub empty_derivation : ℕ → List ℕ → Derivation
empty_derivation t multipliers = record {
  keys = time_key t ∷ [];
  node = EmptyBy t multipliers;
  premises = [];
  bound = Constant 0;
}

abbrev pub unreached_derivation : List ResultVariable → ℕ → Derivation
unreached_derivation dead t = record {
  keys = time_key t ∷ [];
  node = UnreachedBy t;
  premises = dead;
  bound = Constant 0;
}

abbrev pub never_derivation : Program → ℕ → Derivation
never_derivation p t = record {
  keys = keys_after p t;
  node = NeverBy t;
  premises = time_key t ∷ [];
  bound = Constant 0;
}

-- a derivation for each of these infeasible rules, in order
abbrev pub AreEmptyDerivations : Searches → List ℕ → List Derivation → Type 0
AreEmptyDerivations q [] fs = fs ≡ []
AreEmptyDerivations q (t ∷ ts) fs = (multipliers : List ℕ) × q.Empties t (NoPoint multipliers)
    × ((rest : List Derivation) × (fs ≡ empty_derivation t multipliers ∷ rest) × AreEmptyDerivations q ts rest)

-- whether a symbol, where there is one, has a place
abbrev pub has_places : Program → Option ℕ → Bool
has_places p None = false
has_places p (Some a) = nat_lt 0 (arity_of p a)

-- whether a rule is feasible and unreached; and whether it never runs
abbrev pub is_cut : (ℕ → Bool) → (ℕ → Bool) → ℕ → Bool
is_cut is_empty is_unreached t = not (is_empty t) && is_unreached t

abbrev pub is_dead : (ℕ → Bool) → (ℕ → Bool) → ℕ → Bool
is_dead is_empty is_unreached t = cond (is_empty t) true (is_unreached t)

-- the rules that never run and lead to a symbol with places
abbrev pub zeroed : Program → (ℕ → Bool) → (ℕ → Bool) → List ℕ
zeroed p is_empty is_unreached =
    filter (λ t. has_places p (target_of p t)) (filter (is_dead is_empty is_unreached) (rule_numbers p))

-- the derivations before the first round, given those of the infeasible rules: then the times of the other rules that
-- are unreached, with all infeasible ones as premises, and then the sizes of both; each in the order of rules
abbrev pub first_derivations : Program → (ℕ → Bool) → (ℕ → Bool) → List Derivation → List Derivation
first_derivations p is_empty is_unreached empties = empties
    ++ (map (unreached_derivation (map time_key (filter is_empty (rule_numbers p))))
    (filter (is_cut is_empty is_unreached) (rule_numbers p))
    ++ map (never_derivation p) (zeroed p is_empty is_unreached))

-- the derivations before the first round: a rule is infeasible if its rows have no point, and unreached if no path of
-- feasible rules leads to its source
pub record AreFirst (q : Searches) (p : Program) (fs : List Derivation) : Type 0 where
  pub is_empty : ℕ → Bool
  pub empty : (t : ℕ) → IsRule p t → (is_empty t ≡ true) ↔ IsEmpty q t
  pub is_unreached : ℕ → Bool
  pub unreached : (t : ℕ) → IsRule p t → is_empty t ≡ false
      → (is_unreached t ≡ true) ↔ IsUnreached p (λ e. not (is_empty e)) t
  pub empties : List Derivation
  pub are_empties : AreEmptyDerivations q (filter is_empty (rule_numbers p)) empties
  pub in_order : fs ≡ first_derivations p is_empty is_unreached empties
