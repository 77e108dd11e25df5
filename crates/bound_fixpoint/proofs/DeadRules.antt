-- A rule that is dead for a set of infeasible rules is dead for every larger set.
use Rattle.std.proofs.Common.{◌≡◌, inl, inr, ℕ, Bool, not, true, false, refl, ap}
use Rattle.rule_questions.specs.model.Programs.{Program}
use Rattle.rule_questions.specs.model.Paths.{Here, Onward, HasPath}
use Rattle.rule_questions.proofs.model.Membership.{no_is_not_yes}
use Rattle.rule_questions.specs.cert_rules.AcceptsPlain.{IsRule}
use Rattle.bound_fixpoint.specs.Components.{IsDead}

module _ (p : Program) (f g : ℕ → Bool) (there : (t : ℕ) → IsRule p t → f t ≡ true → g t ≡ true) where
  -- a path that avoids the rules of g avoids those of f
  pub path_on : (x y : ℕ) → HasPath p (λ e. not (g e)) x y → HasPath p (λ e. not (f e)) x y
  path_on x y (Here e) = Here e
  path_on x y (Onward {b = z} r edge) = Onward (path_on x z r) (record {
    number = edge.number;
    rule = edge.rule;
    numbered = edge.numbered;
    allowed = allowed (f edge.number) refl;
    source = edge.source;
    target = edge.target;
  })
    where
      allowed : (v : Bool) → f edge.number ≡ v → not (f edge.number) ≡ true
      allowed false e = ap not e
      allowed true e =
          let also = there edge.number (record { rule = edge.rule; numbered = edge.numbered }) e in
          absurd (no_is_not_yes (not (g edge.number)) (ap not also) edge.allowed)

  -- a rule that is dead for the rules of f is dead for those of g
  pub dead_by : (t : ℕ) → IsRule p t → IsDead p f t → IsDead p g t
  dead_by t rule (inl e) = inl (there t rule e)
  dead_by t rule (inr u) = inr (λ r numbered way. u r numbered (path_on p.start r.source way))
