-- Untimed rules that stay in one component have the same set.
use Rattle.std.proofs.Common.{◌≡◌, inl, inr, ℕ, List, Option, Bool, true, sym, ◌∙◌, ap, subst}
use Rattle.model.specs.Programs.{Program}
use Rattle.model.specs.Paths.{HasEdge, HasPath, IsInSet, target_of}
use Rattle.its_graph.specs.Components.{IsMutual}
use Rattle.its_graph.specs.Graphs.{ArePartsOf, HaveSameSets, StaysIn}
use Rattle.its_graph.proofs.Routes.{join, mutual-turned, mutual-join}
use Rattle.its_graph.proofs.SharedLeaders.{number_in}

module _ (p : Program) (is_untimed : ℕ → Bool) where
  -- Two symbols in one component with a third are in one component.
  one-component : (a b m : ℕ) → IsMutual (HasEdge p is_untimed) a m → IsMutual (HasEdge p is_untimed) b m
      → HasPath p is_untimed a b
  one-component a b m k l =
      (mutual-join (HasEdge p is_untimed) a m b k (mutual-turned (HasEdge p is_untimed) b m l)).onward

  -- A rule in the set of an untimed rule is in the set of any other one of its component.
  same-set : (t u m : ℕ) → is_untimed t ≡ true → StaysIn p is_untimed t m → StaysIn p is_untimed u m
      → (e : ℕ) → IsInSet p is_untimed t e → IsInSet p is_untimed u e
  same-set t u m open_t s r e (inl same) =
      inr (record {
        untimed = ap is_untimed same ∙ open_t;
        from = s.target;
        leads = ap (target_of p) same ∙ s.leads;
        to = r.source;
        leaves = r.leaves;
        path = one-component s.target r.source m s.target_there r.source_there;
      })
  same-set t u m open_t s r e (inr b) =
      let to : b.to ≡ s.source = number_in b.to s.source (sym b.leaves ∙ s.leaves) in
      inr (record {
        untimed = b.untimed;
        from = b.from;
        leads = b.leads;
        to = r.source;
        leaves = r.leaves;
        path = join (HasEdge p is_untimed) b.from s.source r.source
            (subst (λ (x : ℕ). HasPath p is_untimed b.from x) to b.path)
            (one-component s.source r.source m s.source_there r.source_there);
      })

  -- Untimed rules of one part have the same set.
  pub same-sets : (parts : List (Option ℕ)) → ArePartsOf p is_untimed parts → HaveSameSets p is_untimed parts
  same-sets parts h t u m open_t open_u et eu = same-set t u m open_t ((h t m).0 et) ((h u m).0 eu)
