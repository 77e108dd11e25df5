-- The bounds that lemmas give for a form at the copies of a rule.
use Rattle.std.specs.Prelude.{ℕ, zero, suc, Bool, true, false, ◌&&◌, if◌then◌else◌, List, [], ◌∷◌, Option, Some, None}
use Rattle.model.specs.Polynomials.{Polynomial}
use Rattle.signed_bounds.specs.Bounds.{Signed, Constant}
use Rattle.signed_bounds.specs.Safe.{expands_to_squares}
use Rattle.signed_bounds.specs.Within.{within}
use Rattle.potential_nodes.specs.Lookup.{is_there, numbered}
use Rattle.potential_nodes.specs.Facts.{SignedFact, peak_bound, is_never}
use Rattle.potential_nodes.specs.PlainPeaks.{size_in, first_of_two}

-- The bound on a form at the steps of copy t that the cited lemma gives: the peak of the form, or the size of the place
-- after the copy, whose absolute value is at least the form's. A copy that never occurs needs no lemma; its number is
-- then 0.
abbrev pub head_bound : List SignedFact → Polynomial → ℕ → ℕ → ℕ → Option Signed
head_bound facts form place t zero = if is_never facts t then Some (Constant 0) else None
head_bound facts form place t (suc n) =
    first_of_two (peak_bound facts t form (suc n)) (size_in t place (numbered facts (suc n)))

-- whether there is a bound, and it is at most another one
abbrev pub is_head_within : Signed → Option Signed → Bool
is_head_within bound None = false
is_head_within bound (Some b) = within expands_to_squares 1 b bound

-- whether the lemmas with these numbers, one for each of these rules, bound a form there by at most this bound
abbrev pub are_heads_within : List SignedFact → Polynomial → ℕ → Signed → List ℕ → List ℕ → Bool
are_heads_within facts form place bound [] [] = true
are_heads_within facts form place bound [] (n ∷ ns) = false
are_heads_within facts form place bound (t ∷ ts) [] = false
are_heads_within facts form place bound (t ∷ ts) (n ∷ ns) =
    is_head_within bound (head_bound facts form place t n) && are_heads_within facts form place bound ts ns

-- whether the lemmas with these numbers, one for each of these rules, bound the form there by any bound
abbrev pub are_heads_there : List SignedFact → Polynomial → ℕ → List ℕ → List ℕ → Bool
are_heads_there facts form place [] [] = true
are_heads_there facts form place [] (n ∷ ns) = false
are_heads_there facts form place (t ∷ ts) [] = false
are_heads_there facts form place (t ∷ ts) (n ∷ ns) =
    is_there (head_bound facts form place t n) && are_heads_there facts form place ts ns
