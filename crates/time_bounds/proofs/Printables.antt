-- The bounds derived for a program are tidy, over the start arguments alone.
use Rattle.std.proofs.Common.{◌≡◌, ◌⊎◌, inl, inr, ℕ, zero, suc, ◌<◌, ◌≤◌, Bool, true, false, List, [], ◌∷◌, ◌++◌}
use Rattle.std.proofs.Common.{length, Option, Some, None, refl, sym, ◌∙◌, ap, subst, append_assoc, arith, All}
use Rattle.std.specs.Prelude.{nat_lt}
use Rattle.std.proofs.lemmas.List.{append-nil}
use Rattle.model.specs.Programs.{Program, arity_of}
use Rattle.model.specs.Bounds.{Bound, Constant, Input, SumOf, Parts, NoParts}
use Rattle.its_model.specs.Valid.{IsValid}
use Rattle.bound_expr.specs.Numbers.{IsTidyNumber, HasTidyNumbers, HaveTidyNumbers}
use Rattle.bound_expr.specs.Numbers.{IsInputBelow, ReadsBelow, AllReadBelow}
use Rattle.bound_expr.proofs.Nodes.{IsTidy-numbers}
use Rattle.bound_table.specs.InForce.{rewritten}
use Rattle.bound_table.proofs.TableInForce.{rewritten-tidy, rewritten-reads}
use Rattle.cert_types.specs.cert_rules.AcceptsCosts.{HasCostNumbers, side_bound_cost, stated_cost}
use Rattle.cert_types.specs.cert_rules.Nodes.{ResultVariable, Member, RankNode, CostBy, EmptyCost, NeverCost, SideBoundCost}
use Rattle.cert_types.specs.cert_rules.AcceptsRank.{HasRankShape, rank_time}
use Rattle.cert_types.specs.cert_rules.AcceptsSizes.{HasMemberShape, spread_size, cycle_size}
use Rattle.cert_types.specs.cert_program.Setting.{setting_of}
use Rattle.cert_types.proofs.cert_rules.ComposedNumbers.{rank_time-each}
use Rattle.cert_types.proofs.cert_rules.SizeNumbers.{spread-each, cycle-each, cost-each}
use Rattle.cert_types.proofs.cert_program.Tidying.{settings-tidying}
use Rattle.bound_fixpoint.specs.Keys.{Bounds, has_key, over, size_by}
use Rattle.bound_fixpoint.specs.Derivations.{Node, EmptyBy, UnreachedBy, NeverBy, RankBy, SpreadBy, CycleBy, Derivation, bound_found, bounds_of}
use Rattle.bound_fixpoint.specs.Rounds.{IsMade}
use Rattle.bound_fixpoint.specs.Justification.{composed_bound, AcceptsOver, AreJustifiedAfter}
use Rattle.bound_fixpoint.proofs.DerivationLists.{first_of-cases, bounds_of-append, bounds_of-kept}
use Rattle.cost_bounds.specs.CostOutcomes.{BoundedBy, IsCostOf}
use Rattle.cost_bounds.proofs.CostNodes.{certified, cost-numbers}
use Rattle.time_bounds.specs.ProgramSearches.{searches_of_program}
use Rattle.time_bounds.specs.Totals.{known_parts, total_of}
use Rattle.time_bounds.specs.PrintableLaws.{IsPrintableBound, ArePrintableBounds, ArePrintable, FoundBoundsArePrintable}
use Rattle.bound_fixpoint.proofs.SizesAreJustified.{all_justified}
use Rattle.time_bounds.proofs.OneProgram.{program_searches_one}
use Rattle.time_bounds.proofs.RightSizings.{program_searches_right}
use Rattle.time_bounds.proofs.TotalSteps.{first_known, total_is}
use Rattle.model.proofs.Cases.{some_same as same_bound, missing_some as no_bound}

-- a bound with tidy numbers over the first n inputs is printable once it is rewritten
rewritten_printable : (n : ℕ) (b : Bound) → HasTidyNumbers b → ReadsBelow n b → IsPrintableBound n (rewritten b)
rewritten_printable n b has reads = (rewritten-tidy b has, (rewritten-reads b).each n reads)

module _ (p : Program) (valid : IsValid p) (n : ℕ) where
  -- the bound that a node composes over printable bounds is printable
  module _ (b : Bounds) (good : ArePrintableBounds n b) where
    sized : (t i : ℕ) (x : Bound) → size_by b t i ≡ Some x → IsPrintableBound n x
    sized t zero x e = absurd (no_bound None x refl e)
    sized t (suc i) x e = good.each t (suc i) x e

    ranked_printable : (node : RankNode) → HasRankShape (setting_of p) node → IsPrintableBound n (rewritten (rank_time (setting_of p) node (over b)))
    ranked_printable node shape =
        rewritten_printable n (rank_time (setting_of p) node (over b))
        (rank_time-each IsTidyNumber (λ c low. low) (λ bs. tt) (λ bs. tt) (setting_of p) node (over b) shape
        (λ t x e. IsTidy-numbers x (good.each t 0 x e).0) (λ t i x e. IsTidy-numbers x (sized t i x e).0))
        (rank_time-each (IsInputBelow n) (λ c low. tt) (λ bs. tt) (λ bs. tt) (setting_of p) node (over b) shape
        (λ t x e. (good.each t 0 x e).1) (λ t i x e. (sized t i x e).1))

    spread_printable : (m : Member) → HasMemberShape (setting_of p) m
        → IsPrintableBound n (rewritten (spread_size (setting_of p) (over b) m))
    spread_printable m shape =
        rewritten_printable n (spread_size (setting_of p) (over b) m)
        (spread-each IsTidyNumber (λ c low. low) (λ bs. tt) (λ bs. tt) (λ bs. tt) (λ c e low. low) (setting_of p)
        (settings-tidying.each p valid).updates (over b).time (over b).size (λ t x e. IsTidy-numbers x (good.each t 0 x e).0)
        (λ t i x e. IsTidy-numbers x (sized t i x e).0) m shape)
        (spread-each (IsInputBelow n) (λ c low. tt) (λ bs. tt) (λ bs. tt) (λ bs. tt) (λ c e low. tt) (setting_of p)
        (settings-tidying.each p valid).updates (over b).time (over b).size (λ t x e. (good.each t 0 x e).1)
        (λ t i x e. (sized t i x e).1) m shape)

    cycle_printable : (ms : List Member) → All (HasMemberShape (setting_of p)) ms
        → IsPrintableBound n (rewritten (cycle_size (setting_of p) (over b) ms))
    cycle_printable ms shapes =
        rewritten_printable n (cycle_size (setting_of p) (over b) ms)
        (cycle-each IsTidyNumber (λ c low. low) (λ bs. tt) (λ bs. tt) (λ bs. tt) (λ c e low. low) (setting_of p)
        (settings-tidying.each p valid).updates (over b).time (over b).size (λ t x e. IsTidy-numbers x (good.each t 0 x e).0)
        (λ t i x e. IsTidy-numbers x (sized t i x e).0) ms shapes)
        (cycle-each (IsInputBelow n) (λ c low. tt) (λ bs. tt) (λ bs. tt) (λ bs. tt) (λ c e low. tt) (setting_of p)
        (settings-tidying.each p valid).updates (over b).time (over b).size (λ t x e. (good.each t 0 x e).1)
        (λ t i x e. (sized t i x e).1) ms shapes)

    cost_printable : (t : ℕ) (by : CostBy) → HasCostNumbers (setting_of p) t by
        → IsPrintableBound n (stated_cost (setting_of p) (over b) t by)
    cost_printable t (EmptyCost multipliers) shape = (omega arith, tt)
    cost_printable t NeverCost shape = (omega arith, tt)
    cost_printable t (SideBoundCost side_bound) shape =
        rewritten_printable n (side_bound_cost (setting_of p) (over b) t side_bound)
        (cost-each IsTidyNumber (λ c low. low) (λ bs. tt) (λ bs. tt) (λ bs. tt) (λ c e low. low) (setting_of p)
        (settings-tidying.each p valid).updates (over b).time (over b).size (λ u x e. IsTidy-numbers x (good.each u 0 x e).0)
        (λ u i x e. IsTidy-numbers x (sized u i x e).0) t side_bound ((settings-tidying.each p valid).costs t) shape)
        (cost-each (IsInputBelow n) (λ c low. tt) (λ bs. tt) (λ bs. tt) (λ bs. tt) (λ c e low. tt) (setting_of p)
        (settings-tidying.each p valid).updates (over b).time (over b).size (λ u x e. (good.each u 0 x e).1)
        (λ u i x e. (sized u i x e).1) t side_bound ((settings-tidying.each p valid).costs t) shape)

    composed_printable : (node : Node) (premises : List ResultVariable) → AcceptsOver (setting_of p) b node premises
        → IsPrintableBound n (composed_bound (setting_of p) b node)
    composed_printable (EmptyBy t m) premises ok = (omega arith, tt)
    composed_printable (UnreachedBy t) premises ok = (omega arith, tt)
    composed_printable (NeverBy t) premises ok = (omega arith, tt)
    composed_printable (RankBy node) premises ok = ranked_printable node ok.shape
    composed_printable (SpreadBy m) premises ok = spread_printable m ok.shape
    composed_printable (CycleBy ms) premises ok = cycle_printable ms ok.shape.each

  -- one more derivation, whose bound is printable
  one_printable : (fs : List Derivation) (f : Derivation) → ArePrintableBounds n (bounds_of p fs) → IsPrintableBound n f.bound
      → ArePrintableBounds n (bounds_of p (fs ++ f ∷ []))
  one_printable fs f good own = record {
    each = λ t i x e. go t i x (first_of-cases (bounds_of p fs t i) (bound_found (f ∷ []) t i) x (sym (bounds_of-append p fs (f ∷ []) t i) ∙ e));
  }
    where
      here : (t i : ℕ) (x : Bound) (v : Bool) → has_key f.keys t i ≡ v → bound_found (f ∷ []) t i ≡ Some x → IsPrintableBound n x
      here t i x true m e =
          let found : Some f.bound ≡ Some x = rw m at e in subst (IsPrintableBound n) (same_bound f.bound x found) own
      here t i x false m e = let found : None ≡ Some x = rw m at e in absurd (no_bound None x refl found)

      go : (t i : ℕ) (x : Bound) → (bounds_of p fs t i ≡ Some x) ⊎ ((bounds_of p fs t i ≡ None) × (bound_found (f ∷ []) t i ≡ Some x))
          → IsPrintableBound n x
      go t i x (inl e) = good.each t i x e
      go t i x (inr e) = here t i x (has_key f.keys t i) refl e.1

  -- if all bounds are printable, those with derivations that are justified after them are, too
  true_are_printable : (earlier fs : List Derivation) → ArePrintableBounds n (bounds_of p earlier) → AreJustifiedAfter (setting_of p) earlier fs
      → ArePrintableBounds n (bounds_of p (earlier ++ fs))
  true_are_printable earlier [] good h =
      subst (λ (xs : List Derivation). ArePrintableBounds n (bounds_of p xs)) (sym (append-nil earlier)) good
  true_are_printable earlier (f ∷ fs) good h =
      subst (λ (xs : List Derivation). ArePrintableBounds n (bounds_of p xs)) (append_assoc earlier (f ∷ []) fs)
      (true_are_printable (earlier ++ f ∷ []) fs (one_printable earlier f good own) h.1)
    where
      before : ArePrintableBounds n (bounds_of p h.0.before)
      before = record {
        each = λ t i x e. good.each t i x
            (ap (λ (xs : List Derivation). bounds_of p xs t i) (sym h.0.begins.same) ∙ bounds_of-kept p h.0.before h.0.begins.between t i x e);
      }

      own : IsPrintableBound n f.bound
      own =
          subst (IsPrintableBound n) (sym h.0.stands.bound)
          (composed_printable (bounds_of p h.0.before) before f.node f.premises h.0.stands.accepted)

  -- the bounds known initially are printable
  first_printable : arity_of p p.start ≤ n → ArePrintableBounds n (bounds_of p [])
  first_printable few = record { each = first }
    where
      inside : (j : ℕ) (x : Bound) (v : Bool) → nat_lt j (arity_of p p.start) ≡ v → bounds_of p [] 0 (suc j) ≡ Some x → IsPrintableBound n x
      inside j x true m e =
          let found : Some (Input j) ≡ Some x = rw m at e in
          subst (IsPrintableBound n) (same_bound (Input j) x found) (tt, (let low : j < n = grind (arith, m, few) in low))
      inside j x false m e = let found : None ≡ Some x = rw m at e in absurd (no_bound None x refl found)

      first : (t i : ℕ) (x : Bound) → bounds_of p [] t i ≡ Some x → IsPrintableBound n x
      first zero zero x e = subst (IsPrintableBound n) (same_bound (Constant 1) x e) (omega arith, tt)
      first zero (suc j) x e = inside j x (nat_lt j (arity_of p p.start)) refl e
      first (suc t) i x e = absurd (no_bound None x refl e)

-- all bounds known with the derivations of a valid program are printable
pub derivations_printable : (p : Program) (pivots : ℕ) (fs : List Derivation) → IsValid p
    → IsMade (searches_of_program p pivots) (setting_of p) fs → ArePrintableBounds (length p.start_names) (bounds_of p fs)
derivations_printable p pivots fs valid made =
    true_are_printable p valid (length p.start_names) [] fs
    (first_printable p valid (length p.start_names) (omega (arith, valid.start_places)))
    (all_justified (searches_of_program p pivots) (setting_of p) (program_searches_right.each p pivots valid) (program_searches_one.each p pivots) fs
    made).each

-- a bound on a cost over these is printable
pub costs_printable : (p : Program) (pivots : ℕ) (fs : List Derivation) (t : ℕ) (by : CostBy) → IsValid p
    → IsMade (searches_of_program p pivots) (setting_of p) fs → IsCostOf p pivots (over (bounds_of p fs)) t (BoundedBy by)
    → IsPrintableBound (length p.start_names) (stated_cost (setting_of p) (over (bounds_of p fs)) t by)
costs_printable p pivots fs t by valid made is =
    cost_printable p valid (length p.start_names) (bounds_of p fs) (derivations_printable p pivots fs valid made) t by
    (cost-numbers p pivots (over (bounds_of p fs)) t valid is.costs by (certified p pivots (over (bounds_of p fs)) t (by, is)))

-- the parts of a total are printable
parts_printable : (n : ℕ) (os : List (Option Bound)) (ps : Parts) → known_parts os ≡ Some ps → ArePrintable n os
    → HaveTidyNumbers ps × AllReadBelow n ps
parts_printable n [] ps e h =
    let none : NoParts ≡ ps = cc in
    subst (λ (qs : Parts). HaveTidyNumbers qs × AllReadBelow n qs) none (tt, tt)
parts_printable n (None ∷ os) ps e h = absurd (no_parts ps e)
  where
    no_parts : (qs : Parts) → None ≡ Some qs → ⊥
    no_parts qs x = cc
parts_printable n (Some b ∷ os) ps e h =
    let first = first_known (Some b) (known_parts os) ps e in
    let rest = parts_printable n os first.1 first.3 h.1 in
    let here : IsPrintableBound n first.0 = subst (IsPrintableBound n) (same_bound b first.0 first.2) h.0 in
    subst (λ (qs : Parts). HaveTidyNumbers qs × AllReadBelow n qs) (sym first.4)
    ((IsTidy-numbers first.0 here.0, rest.0), (here.1, rest.1))

-- the total of printable times
pub total_printable : (n : ℕ) (times : List (Option Bound)) (b : Bound) → ArePrintable n times → total_of times ≡ Some b
    → IsPrintableBound n b
total_printable n times b h e =
    let total = total_is times b e in
    let parts = parts_printable n times total.0 total.1 h in
    subst (IsPrintableBound n) (sym total.2) (rewritten_printable n (SumOf total.0) (tt, parts.0) (tt, parts.1))

-- the bounds derived for a valid program, those on costs, and their total are tidy, over the start arguments alone
pub found_printable : FoundBoundsArePrintable
found_printable = record { derivations = derivations_printable; costs = costs_printable; totals = total_printable }
