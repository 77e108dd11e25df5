-- The table of the bounds known initially, list by list.
use Rattle.std.specs.Prelude.{◌≡◌, ℕ, List, ◌∷◌, map, replicate, Option, Some, None}
use Rattle.std.specs.List.{range_with_len}
use Rattle.model.specs.Bounds.{Bound, Constant, Input}
use Rattle.model.specs.Programs.{Program, Rule, arity_of}
use Rattle.outcome.specs.declared.entry.Stored.{Stored}
use Rattle.size_bounds.specs.Tables.{bound_stored, lemma_stored}

-- the sizes after the virtual entry
abbrev pub start_row : ℕ → List (Option Bound)
start_row arity = map (λ i. Some (Input i)) (range_with_len 0 arity)

-- nothing is known of the places after these rules
abbrev pub empty_rows : Program → List Rule → List (List (Option Stored))
empty_rows p rules = map (λ r. replicate (arity_of p r.target) None) rules

-- a list is one of stored sizes of start arguments, which the virtual entry states
pub record IsStartRow (arity : ℕ) (sizes : List (Option Stored)) : Type 0 where
  pub bounds : map bound_stored sizes ≡ start_row arity
  pub numbers : map lemma_stored sizes ≡ replicate arity 0

-- times of which only the virtual entry's is known, where there are this many rules
pub record AreStartTimes (rules : ℕ) (times : List (Option Stored)) : Type 0 where
  pub first : Option Stored
  pub is : times ≡ first ∷ replicate rules None
  pub bound : bound_stored first ≡ Some (Constant 1)
  pub number : lemma_stored first ≡ 0

-- sizes of which only those after the virtual entry are known, where these are the rules that follow
pub record AreFirstRows (p : Program) (rules : List Rule) (rows : List (List (Option Stored))) : Type 0 where
  pub first : List (Option Stored)
  pub is : rows ≡ first ∷ empty_rows p rules
  pub row : IsStartRow (arity_of p p.start) first

-- the initial sizes of all rules of a program
abbrev pub AreStartSizes : Program → List (List (Option Stored)) → Type 0
AreStartSizes p rows = AreFirstRows p p.rules rows
