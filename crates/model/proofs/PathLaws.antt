-- Laws of paths.
use Rattle.std.proofs.Common.{ℕ, subst}
use Rattle.model.specs.Paths.{Path, Here, Onward}

-- two paths, the second from the end of the first, form a path
pub Path-then : (Edge : ℕ → ℕ → Type 0) (a b c : ℕ) → Path Edge a b → Path Edge b c → Path Edge a c
Path-then Edge a b c p (Here e) = subst (λ (x : ℕ). Path Edge a x) e p
Path-then Edge a b c p (Onward {b = x} q edge) = Onward (Path-then Edge a b x p q) edge
