-- The flows into a member are over the polynomial of its place, and over the members after the rule before.
use Rattle.std.proofs.Common.{◌≡◌, ℕ, List, [], ◌∷◌, Option, refl, sym, ap, ◌∙◌, ◌++◌, ◌+◌, ◌<◌, length, get_or, drop}
use Rattle.std.proofs.lemmas.List.{drop_more, append_assoc}
use Rattle.model.specs.Bounds.{Bound}
use Rattle.model.specs.Polynomials.{Polynomial}
use Rattle.cert_types.specs.cert_rules.Nodes.{Member, SideBound}
use Rattle.cert_types.specs.cert_rules.Composed.{sizes_after}
use Rattle.cert_types.specs.cert_rules.Setting.{Setting}
use Rattle.cert_types.specs.cert_rules.ComposedSizes.{Flow, is_member, slope_of, offset_of, poly_at, flows_from}
use Rattle.size_nodes.specs.Flows.{flow_over, flows_over}

-- the flows into a member from these rules
pub flows-over : (s : Setting) (members : List Member) (size : ℕ → ℕ → Option Bound) (m : Member) (es : List ℕ)
    → flows_over (poly_at s m.result_variable) members size m es ≡ flows_from s members size m es
flows-over s members size m [] = refl
flows-over s members size m (e ∷ es) =
    ap (λ (fs : List Flow). flow_over (poly_at s m.result_variable) members size m m.local.up e
    ∷ flow_over (poly_at s m.result_variable) members size m m.local.low e ∷ fs) (flows-over s members size m es)

module _ (q : Option Polynomial) (size : ℕ → ℕ → Option Bound) (m : Member) where
  -- the flow from a rule is the same if the same places after it are members
  same-flow : (xs ys : List Member) (side_bound : SideBound) (e : ℕ) → is_member xs e ≡ is_member ys e
      → flow_over q xs size m side_bound e ≡ flow_over q ys size m side_bound e
  same-flow xs ys side_bound e h = λ i. record {
    rule = m.result_variable.rule;
    slope = slope_of side_bound (h i);
    offset = offset_of q side_bound (h i) (sizes_after size e);
  }

  -- the flows by both side bounds from a rule are the same if the same places after it are members
  pub same-flows : (xs ys : List Member) (e : ℕ) → is_member xs e ≡ is_member ys e
      → flows_over q xs size m (e ∷ []) ≡ flows_over q ys size m (e ∷ [])
  same-flows xs ys e h = λ i. same-flow xs ys m.local.up e h i ∷ same-flow xs ys m.local.low e h i ∷ []

  -- the flows from one more rule
  pub flows-more : (members : List Member) (es : List ℕ) (k : ℕ) (done more whole : List Flow) → k < length es
      → done ++ flows_over q members size m (drop k es) ≡ whole
      → more ≡ done ++ flows_over q members size m (get_or es k 0 ∷ [])
      → more ++ flows_over q members size m (drop (k + 1) es) ≡ whole
  flows-more members es k done more whole low kept em =
      let rest = flows_over q members size m (drop (k + 1) es) in
      ap (λ (fs : List Flow). fs ++ rest) em
      ∙ (append_assoc done (flows_over q members size m (get_or es k 0 ∷ [])) rest
      ∙ (ap (λ (us : List ℕ). done ++ flows_over q members size m us) (sym (drop_more es k 0 low)) ∙ kept))
