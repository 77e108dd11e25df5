-- Each bound that an analysis derives, and each on a cost, has fewer than 2^127 nodes: it is a constant, an input, or was
-- found to be small.
use Rattle.std.proofs.Common.{◌≡◌, ◌⊎◌, inl, inr, ℕ, zero, suc, ◌^◌, ◌<◌, ◌≤◌, ◌||◌, Bool, true, false, cond, List, [], ◌∷◌}
use Rattle.std.proofs.Common.{◌++◌, Some, None, refl, sym, subst, arith}
use Rattle.std.specs.Prelude.{nat_lt}
use Rattle.std.specs.List.{AllByRecursion}
use Rattle.std.proofs.lemmas.Bool.{ltb-false}
use Rattle.model.specs.Bounds.{Bound, Constant, Input}
use Rattle.model.specs.Programs.{Program, arity_of}
use Rattle.model.proofs.Cases.{some_same as same_bound, missing_some as no_bound}
use Rattle.its_model.specs.Valid.{IsValid}
use Rattle.bound_expr.specs.Limits.{node_limit, depth_limit}
use Rattle.bound_expr.specs.Measure.{node_count, depth_of, is_large}
use Rattle.outcome.specs.cert_program.Setting.{setting_of}
use Rattle.outcome.specs.cert_rules.AcceptsCosts.{stated_cost}
use Rattle.outcome.specs.cert_rules.Known.{Table}
use Rattle.outcome.specs.cert_rules.Nodes.{ResultVariable, CostBy, EmptyCost, NeverCost, SideBoundCost}
use Rattle.bound_fixpoint.specs.Keys.{Bounds, has_key, start_bounds}
use Rattle.bound_fixpoint.specs.Derivations.{Node, EmptyBy, UnreachedBy, NeverBy, RankBy, SpreadBy, CycleBy, Derivation}
use Rattle.bound_fixpoint.specs.Derivations.{bound_found, bounds_of}
use Rattle.bound_fixpoint.specs.Justification.{composed_bound, AcceptsOver, AreJustifiedAfter}
use Rattle.bound_fixpoint.specs.Rounds.{IsMade}
use Rattle.bound_fixpoint.proofs.DerivationLists.{first_of-cases}
use Rattle.bound_fixpoint.proofs.SizesAreJustified.{all_justified}
use Rattle.cost_bounds.specs.CostOutcomes.{BoundedBy, IsCostOf}
use Rattle.cost_bounds.proofs.CostNodes.{Certifies, certified}
use Rattle.time_bounds.specs.ProgramSearches.{searches_of_program}
use Rattle.time_bounds.proofs.OneProgram.{program_searches_one}
use Rattle.time_bounds.proofs.RightSizings.{program_searches_right}

-- a bound has fewer than 2^127 nodes; and so has each that is known
abbrev pub HasFew : Bound → Type 0
HasFew b = node_count b < 2 ^ 127

pub record HaveFew (b : Bounds) : Type 0 where
  pub each : (t i : ℕ) (x : Bound) → b t i ≡ Some x → HasFew x

-- a bound that isn't large has few nodes
small_few : (b : Bound) → is_large b ≡ false → HasFew b
small_few b small = go (nat_lt node_limit (node_count b)) refl small
  where
    go : (v : Bool) → nat_lt node_limit (node_count b) ≡ v → (v || nat_lt depth_limit (depth_of b)) ≡ false → HasFew b
    go true e k = absurd (let never : ⊥ = cc in never)
    go false e k = let low : node_count b ≤ 4096 = ltb-false node_limit (node_count b) e in omega (arith, low)

module _ (p : Program) where
  -- the bound that an accepted node composes has few nodes
  composed_few : (b : Bounds) (node : Node) (premises : List ResultVariable)
      → AcceptsOver (setting_of p) b node premises → HasFew (composed_bound (setting_of p) b node)
  composed_few b (EmptyBy t m) premises ok = omega arith
  composed_few b (UnreachedBy t) premises ok = omega arith
  composed_few b (NeverBy t) premises ok = omega arith
  composed_few b (RankBy node) premises ok = small_few (composed_bound (setting_of p) b (RankBy node)) ok.small.after
  composed_few b (SpreadBy m) premises ok = small_few (composed_bound (setting_of p) b (SpreadBy m)) ok.small.after
  composed_few b (CycleBy ms) premises ok = small_few (composed_bound (setting_of p) b (CycleBy ms)) ok.small.after

  -- each derivation that is justified has a bound with few nodes
  each_few : (earlier fs : List Derivation) → AreJustifiedAfter (setting_of p) earlier fs
      → AllByRecursion (λ f. HasFew f.bound) fs
  each_few earlier [] h = tt
  each_few earlier (f ∷ fs) h = (
    subst HasFew (sym h.0.stands.bound) (composed_few (bounds_of p h.0.before) f.node f.premises h.0.stands.accepted),
    each_few (earlier ++ f ∷ []) fs h.1,
  )

  -- the first bound of a key is one of them
  found_few : (fs : List Derivation) → AllByRecursion (λ f. HasFew f.bound) fs → (t i : ℕ) (x : Bound)
      → bound_found fs t i ≡ Some x → HasFew x
  found_few [] h t i x e = absurd (no_bound None x refl e)
  found_few (f ∷ fs) h t i x e = go (has_key f.keys t i) (λ k. found_few fs h.1 t i x k) e
    where
      go : (v : Bool) → (bound_found fs t i ≡ Some x → HasFew x) → cond v (Some f.bound) (bound_found fs t i) ≡ Some x
          → HasFew x
      go true later k = subst HasFew (same_bound f.bound x k) h.0
      go false later k = later k

  -- the bounds known initially have one node
  start_few : (t i : ℕ) (x : Bound) → start_bounds p t i ≡ Some x → HasFew x
  start_few zero zero x e = subst HasFew (same_bound (Constant 1) x e) (omega arith)
  start_few zero (suc j) x e = go (nat_lt j (arity_of p p.start)) e
    where
      go : (v : Bool) → cond v (Some (Input j)) None ≡ Some x → HasFew x
      go true k = subst HasFew (same_bound (Input j) x k) (omega arith)
      go false k = absurd (no_bound None x refl k)
  start_few (suc t) i x e = absurd (no_bound None x refl e)

  known_few : (fs : List Derivation) → AllByRecursion (λ f. HasFew f.bound) fs → HaveFew (bounds_of p fs)
  known_few fs all = record {
    each = λ t i x e. go t i x (first_of-cases (start_bounds p t i) (bound_found fs t i) x e);
  }
    where
      go : (t i : ℕ) (x : Bound)
          → (start_bounds p t i ≡ Some x) ⊎ ((start_bounds p t i ≡ None) × (bound_found fs t i ≡ Some x)) → HasFew x
      go t i x (inl e) = start_few t i x e
      go t i x (inr e) = found_few fs all t i x e.1

-- all bounds known with the derivations of a valid program have few nodes
pub derivations_few : (p : Program) (pivots : ℕ) (fs : List Derivation) → IsValid p
    → IsMade (searches_of_program p pivots) (setting_of p) fs → HaveFew (bounds_of p fs)
derivations_few p pivots fs valid made =
    known_few p fs
    (each_few p [] fs
    (all_justified (searches_of_program p pivots) (setting_of p) (program_searches_right.each p pivots valid)
    (program_searches_one.each p pivots) fs made).each)

-- so has a bound on a cost
pub cost_few : (p : Program) (pivots : ℕ) (tab : Table) (t : ℕ) (by : CostBy) → IsCostOf p pivots tab t (BoundedBy by)
    → HasFew (stated_cost (setting_of p) tab t by)
cost_few p pivots tab t by is = go by (certified p pivots tab t (by, is))
  where
    go : (y : CostBy) → Certifies p pivots tab t is.costs y → HasFew (stated_cost (setting_of p) tab t y)
    go (EmptyCost multipliers) h = omega arith
    go NeverCost h = omega arith
    go (SideBoundCost side_bound) h =
        small_few (stated_cost (setting_of p) tab t (SideBoundCost side_bound)) h.small.after
