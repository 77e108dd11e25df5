use Rattle.std.proofs.Common.{◌≡◌, ℕ, sym, ap, ◌∙◌}
use Rattle.model.specs.Bounds.{Bound}
use Rattle.model.specs.Facts.{Cost}
use Rattle.cert_types.specs.Views.{fact_of}
use Rattle.time_bounds.proofs.costing.bound_of_cost.Goals as goal

-- the fact of a cost is about the rule that is given
same_cost : (u t : ℕ) (b x : Bound) → Cost u b ≡ Cost t x → Cost u b ≡ Cost t b
same_cost u t b x e = ap (λ (n : ℕ). Cost n b) (inner e)
  where
    inner : Cost u b ≡ Cost t x → u ≡ t
    inner k = cc

pub returns : goal.returns
returns c =
    ap fact_of c.in-Cost.is ∙ same_cost _ c.args.rule _ c.requires.0 (ap fact_of (sym c.in-Cost.is) ∙ c.requires.1)
