-- Laws of paths.
use Rattle.std.proofs.Common.{ℕ, ◌<◌, refl, sym, subst}
use Rattle.model.specs.Paths.{Path, Here, Onward}
use Rattle.its_graph.specs.Components.{IsMutual}
pub use Rattle.model.proofs.PathLaws.{Path-then as join}

-- An edge is a path.
pub one_edge : (Edge : ℕ → ℕ → Type 0) (a b : ℕ) → Edge a b → Path Edge a b
one_edge Edge a b e = Onward (Here refl) e

-- An edge followed by a path is a path.
pub edge_then : (Edge : ℕ → ℕ → Type 0) (a b c : ℕ) → Edge a b → Path Edge b c → Path Edge a c
edge_then Edge a b c e p = join Edge a b c (one_edge Edge a b e) p

-- A path along some edges is one along others, if each of the first is one of the others.
pub path-map : (Edge Other : ℕ → ℕ → Type 0) → ((a b : ℕ) → Edge a b → Other a b) → (a b : ℕ) → Path Edge a b → Path Other a b
path-map Edge Other f a b (Here e) = Here e
path-map Edge Other f a b (Onward {b = x} p edge) = Onward (path-map Edge Other f a x p) (f x b edge)

-- A path along edges is a reversed path along the reversed edges.
pub turned : (Edge Other : ℕ → ℕ → Type 0) → ((a b : ℕ) → Edge a b → Other b a) → (a b : ℕ) → Path Edge a b → Path Other b a
turned Edge Other f a b (Here e) = Here (sym e)
turned Edge Other f a b (Onward {b = x} p edge) = edge_then Other b x a (f x b edge) (turned Edge Other f a x p)

-- A path from a node below n leads to a node below n.
pub path-within : (Edge : ℕ → ℕ → Type 0) (n : ℕ) → ((a b : ℕ) → Edge a b → b < n) → (a b : ℕ) → a < n → Path Edge a b → b < n
path-within Edge n h a b low (Here e) = subst (λ (x : ℕ). x < n) e low
path-within Edge n h a b low (Onward {b = x} p edge) = h x b edge

-- A node is in its own component.
pub mutual-self : (Edge : ℕ → ℕ → Type 0) (a : ℕ) → IsMutual Edge a a
mutual-self Edge a = record { onward = Here refl; back = Here refl }

-- Being in one component is symmetric.
pub mutual-turned : (Edge : ℕ → ℕ → Type 0) (a b : ℕ) → IsMutual Edge a b → IsMutual Edge b a
mutual-turned Edge a b m = record { onward = m.back; back = m.onward }

-- Being in one component is transitive.
pub mutual-join : (Edge : ℕ → ℕ → Type 0) (a b c : ℕ) → IsMutual Edge a b → IsMutual Edge b c → IsMutual Edge a c
mutual-join Edge a b c m k = record { onward = join Edge a b c m.onward k.onward; back = join Edge c b a k.back m.back }
