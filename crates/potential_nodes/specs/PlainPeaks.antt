-- Peaks without a potential: a form that a certificate bounds by a number, and a form that sizes of places bound.
use Rattle.std.specs.Prelude.{ℕ, suc, Bool, false, ◌&&◌, ◌==◌, if◌then◌else◌, List, [], ◌∷◌, ◌++◌, map}
use Rattle.std.specs.Prelude.{pos}
use Rattle.std.specs.Prelude.{Option, Some, None, nat_abs}
use Rattle.potentials.specs.model.Terms.{Literal, Subtraction}
use Rattle.potentials.specs.model.Programs.{Rule, rule_at}
use Rattle.potentials.specs.model.Polynomials.{Monomial, Polynomial}
use Rattle.potentials.specs.model.Paths.{pre}
use Rattle.potentials.specs.model.Spending.{or_zero}
use Rattle.signed_bounds.specs.Bounds.{Signed, Constant, SumOf, ProductOf, SignedParts, NoParts, Part}
use Rattle.signed_bounds.specs.Within.{within}
use Rattle.potential_nodes.specs.Lookup.{is_there, numbered}
use Rattle.potential_nodes.specs.PolynomialTerms.{form_term, reads_below}
use Rattle.potential_nodes.specs.Certificates.{Summand, shows}
use Rattle.potential_nodes.specs.Ground.{Ground}
use Rattle.potential_nodes.specs.Facts.{SignedFact, SizeFact}
use Rattle.potential_nodes.specs.Checks.{Check, check, BadShape, BadFloor, LowBound}
use Rattle.potential_nodes.specs.Combinations.{both_parts}

-- a form of a rule that is at most a number at each of the rule's steps, with the certificate
pub record RowNode : Type 0 where
  pub rule : ℕ
  pub form : Polynomial
  pub number : ℕ
  pub certificate : List Summand

-- the checks of such a node: the form reads the rule's variables alone, the certificate shows that the number minus the
-- form is at least 0, and the bound is high enough
abbrev pub row_checks : Ground → RowNode → Signed → List Check
row_checks g n b =
    check BadShape (reads_below (g.variables n.rule) n.form)
    ∷ check (BadFloor n.rule) (shows g.is_safe (g.rows n.rule) n.certificate
    (Subtraction (Literal (pos n.number)) (form_term n.form)))
    ∷ check LowBound (within g.is_safe 1 (Constant n.number) b) ∷ []

-- a form of a rule, with the numbers of the facts that state sizes of its places
pub record SizedNode : Type 0 where
  pub rule : ℕ
  pub form : Polynomial
  pub cited : List ℕ

-- the number of places of a rule's source
abbrev pub left_in : Option Rule → ℕ
left_in None = 0
left_in (Some r) = r.left

-- the size of a place after a rule that a fact states, if it does; the first of two sizes that are there; and the size
-- that the first of the cited facts states which states one
abbrev pub size_in : ℕ → ℕ → Option SignedFact → Option Signed
size_in e place (Some (SizeFact e' place' b)) = if (e == e') && (place == place') then Some b else None
size_in e place _ = None

abbrev pub first_of_two : Option Signed → Option Signed → Option Signed
first_of_two None second = second
first_of_two (Some b) second = Some b

abbrev pub size_by : List SignedFact → List ℕ → ℕ → ℕ → Option Signed
size_by facts [] e place = None
size_by facts (n ∷ cited) e place = first_of_two (size_in e place (numbered facts n)) (size_by facts cited e place)

-- the absolute value of a coefficient times a size
abbrev pub scaled_size : ℕ → Option Signed → Option Signed
scaled_size n None = None
scaled_size n (Some b) = Some (ProductOf (both_parts (Constant n) b))

-- a bound on a monomial after rule e: the positive part of a constant, or the absolute coefficient times the size of
-- its place; none for a monomial with more factors
abbrev pub monomial_size : (ℕ → Option Signed) → Monomial → List ℕ → Option Signed
monomial_size size m [] = Some (Constant (or_zero m.coef))
monomial_size size m (i ∷ []) = scaled_size (nat_abs m.coef) (size i)
monomial_size size m (i ∷ j ∷ vars) = None

-- the bounds on all monomials, if each has one
abbrev pub joined_part : Option Signed → Option SignedParts → Option SignedParts
joined_part (Some b) (Some parts) = Some (Part b parts)
joined_part _ _ = None

abbrev pub polynomial_size : (ℕ → Option Signed) → Polynomial → Option SignedParts
polynomial_size size [] = Some NoParts
polynomial_size size (m ∷ ms) = joined_part (monomial_size size m m.vars) (polynomial_size size ms)

-- the size of a variable's place after rule e; places are numbered from 1
abbrev pub place_size : List SignedFact → SizedNode → ℕ → ℕ → Option Signed
place_size facts n e i = size_by facts n.cited e (suc i)

-- the bound on the form after rule e, if each place that it reads has a size
abbrev pub form_size : List SignedFact → SizedNode → ℕ → Option SignedParts
form_size facts n e = polynomial_size (place_size facts n e) n.form

-- the checks for rule e: a size is stated for each place after it, and the stated bound is then high enough
abbrev pub size_shape : List SignedFact → SizedNode → ℕ → Check
size_shape facts n e = check BadShape (is_there (form_size facts n e))

abbrev pub is_within_parts : Ground → Option SignedParts → Signed → Bool
is_within_parts g None b = false
is_within_parts g (Some parts) b = within g.is_safe 1 (SumOf parts) b

abbrev pub size_check : Ground → List SignedFact → SizedNode → Signed → ℕ → Check
size_check g facts n b e = check LowBound (is_within_parts g (form_size facts n e) b)

-- the checks of such a node: the form reads the places of the rule's source alone; then those for each rule that can
-- come before, the virtual entry among them
abbrev pub sized_checks : Ground → List SignedFact → SizedNode → Signed → List Check
sized_checks g facts n b =
    check BadShape (reads_below (left_in (rule_at g.program n.rule)) n.form)
    ∷ (map (size_shape facts n) (pre g.program n.rule) ++ map (size_check g facts n b) (pre g.program n.rule))
