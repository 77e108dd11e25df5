-- The components of a program's candidates.
use Rattle.std.proofs.Common.{inl, inr, ℕ, List, [], ◌∷◌, map, All}
use Rattle.std.proofs.lemmas.List.Elements.{All-cons, All-nil}
use Rattle.model.specs.Programs.{Program}
use Rattle.cert_types.specs.cert_rules.AcceptsPlain.{IsRule}
use Rattle.bound_fixpoint.specs.Keys.{IsPlace}
use Rattle.bound_fixpoint.specs.Components.{IsCovered, AreComponentsOf}
use Rattle.time_bounds.specs.declared.candidates.Candidate.{Candidate}
use Rattle.time_bounds.specs.ProgramSearches.{searches_of_program}
use Rattle.time_bounds.specs.Candidates.{result_variables_in, AreCandidatesOf}
use Rattle.time_bounds.specs.Attempts.{ArePlacesOf}
use Rattle.time_bounds.proofs.CandidateLaws.{of_all}
use Rattle.time_bounds.proofs.RightComponents.{components_of}

-- the components of candidates are the answer of the searches
pub are_components : (p : Program) (pivots : ℕ) (cs : List Candidate) → AreCandidatesOf p pivots cs
    → (searches_of_program p pivots).AreComponents (map result_variables_in cs)
are_components p pivots cs h = (h.is_live, h.live, (h.local, h.locals, h.components))

-- the components of candidates are those of the places of live rules
pub live_components : (p : Program) (pivots : ℕ) (cs : List Candidate) → AreCandidatesOf p pivots cs
    → AreComponentsOf (searches_of_program p pivots) p (map result_variables_in cs)
live_components p pivots cs h = components_of p pivots h.is_live h.live h.local (map result_variables_in cs) h.components

-- the places of candidates are places after rules
pub within_all : (p : Program) (pivots : ℕ) (cs : List Candidate) → AreCandidatesOf p pivots cs → All (ArePlacesOf p) cs
within_all p pivots cs h = go cs (λ t i l. let x = ((live_components p pivots cs h).live t i).0 l in (x.0, x.2))
  where
    go : (ds : List Candidate) → ((t i : ℕ) → IsCovered (map result_variables_in ds) t i → IsRule p t × IsPlace p t i) → All (ArePlacesOf p) ds
    go [] f = All-nil (ArePlacesOf p)
    go (d ∷ ds) f =
        All-cons (ArePlacesOf p) d ds
        (record { each = of_all (λ m. IsRule p m.rule × IsPlace p m.rule m.place) (result_variables_in d) (λ t i e. f t i (inl e)) })
        (go ds (λ t i l. f t i (inr l)))
