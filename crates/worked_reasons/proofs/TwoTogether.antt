-- Two nodes, each of which leads to the other: they are one component.
use Rattle.std.proofs.Common.{◌≡◌, inr, ℕ, zero, suc, ◌<◌, List, [], ◌∷◌, ◌++◌, refl, sym, subst, arith, Contains}
use Rattle.std.specs.List.Sorted.{IsStrictlyIncreasing}
use Rattle.model.specs.Paths.{Path, Here, Onward}
use Rattle.its_graph.specs.Components.{IsMutual, IsListed, IsNext, IsListing}
use Rattle.bound_fixpoint.proofs.Cases.{either}
use Rattle.bound_fixpoint.proofs.ListMembers.{contains-cases, contains-none}
use Rattle.worked_reasons.proofs.TwoPlaces.{only_one}

-- edges lead from one of two nodes, and from each to the other
pub record LeadBoth (E : ℕ → ℕ → Type 0) : Type 0 where
  pub within : (a b : ℕ) → E a b → a < 2
  pub onward : E 0 1
  pub back : E 1 0

abbrev pub pair_listed : List (List ℕ)
pair_listed = (0 ∷ 1 ∷ []) ∷ []

-- the two nodes are in the list, and no others
is_of_two : (b : ℕ) → Contains (0 ∷ 1 ∷ []) b → b < 2
is_of_two b h =
    either (contains-cases b 0 (1 ∷ []) h) (λ e. subst (λ (n : ℕ). n < 2) e (omega arith))
    (λ rest. subst (λ (n : ℕ). n < 2) (only_one 1 b rest) (omega arith))

there : (b : ℕ) → b < 2 → Contains (0 ∷ 1 ∷ []) b
there zero low = (zero, omega arith, refl)
there (suc zero) low = (suc zero, omega arith, refl)
there (suc (suc b)) low = absurd (let none : suc (suc b) < 2 = low in omega (arith, none))

all_listed : (a : ℕ) → a < 2 → IsListed pair_listed a
all_listed a low = record { component = 0 ∷ 1 ∷ []; listed = (zero, omega arith, refl); member = there a low }

-- the list ascends
rises : IsStrictlyIncreasing (0 ∷ 1 ∷ [])
rises zero low = omega arith
rises (suc k) low = absurd (omega (arith, low))

module _ (E : ℕ → ℕ → Type 0) (lead : LeadBoth E) where
  -- both nodes are in the component of the first
  with_first : (b : ℕ) → b < 2 → IsMutual E 0 b
  with_first zero low = record { onward = Here refl; back = Here refl }
  with_first (suc zero) low = record { onward = Onward (Here refl) lead.onward; back = Onward (Here refl) lead.back }
  with_first (suc (suc b)) low = absurd (let none : suc (suc b) < 2 = low in omega (arith, none))

  -- a path to one of the two nodes begins at one of them
  begins_within : (a b : ℕ) → Path E a b → b < 2 → a < 2
  begins_within a b (Here same) low = subst (λ (n : ℕ). n < 2) (sym same) low
  begins_within a b (Onward {b = z} way edge) low = begins_within a z way (lead.within z b edge)

  first_listed : IsNext E 2 [] (0 ∷ 1 ∷ [])
  first_listed = record {
    least = 0;
    ready = record {
      node = omega arith;
      unlisted = λ h. contains-none h.component h.listed;
      sources = λ b way. inr (with_first b (begins_within b 0 way (omega arith)));
    };
    first = λ a ready. omega arith;
    members = λ b. ((λ h. with_first b (is_of_two b h)), λ h. there b (begins_within b 0 h.back (omega arith)));
    ascending = rises;
  }

  each_next : (before after : List (List ℕ)) (c : List ℕ) → pair_listed ≡ before ++ c ∷ after → IsNext E 2 before c
  each_next [] after c e = let same : (0 ∷ 1 ∷ []) ≡ c = cc in subst (λ (l : List ℕ). IsNext E 2 [] l) same first_listed
  each_next (x ∷ []) after c e = absurd (let none : ⊥ = cc in none)
  each_next (x ∷ y ∷ before) after c e = absurd (let none : ⊥ = cc in none)

  pub pair_is_listed : IsListing E 2 pair_listed
  pair_is_listed = record { each = each_next; all = all_listed }
