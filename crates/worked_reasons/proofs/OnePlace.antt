-- One node is a component by itself.
use Rattle.std.proofs.Common.{◌≡◌, inr, ℕ, zero, suc, ◌<◌, List, [], ◌∷◌, ◌++◌, refl, sym, ◌∙◌, subst, arith}
use Rattle.model.specs.Paths.{Path, Here, Onward}
use Rattle.its_graph.specs.Components.{IsMutual, IsListed, IsNext, IsListing}
use Rattle.bound_fixpoint.proofs.ListMembers.{contains-none}
use Rattle.worked_reasons.proofs.TwoPlaces.{only_one, is_one}

abbrev pub one_listed : List (List ℕ)
one_listed = (0 ∷ []) ∷ []

all_listed : (a : ℕ) → a < 1 → IsListed one_listed a
all_listed zero low = record { component = 0 ∷ []; listed = (zero, omega arith, refl); member = (zero, omega arith, refl) }
all_listed (suc a) low = absurd (let none : suc a < 1 = low in omega (arith, none))

module _ (E : ℕ → ℕ → Type 0) (within : (a b : ℕ) → E a b → a ≡ 0) where
  -- a path to the node begins at the node
  leads_back : (a b : ℕ) → Path E a b → b ≡ 0 → a ≡ 0
  leads_back a b (Here same) e = same ∙ e
  leads_back a b (Onward {b = z} way edge) e = leads_back a z way (within z b edge)

  mutual_itself : (a b : ℕ) → a ≡ b → IsMutual E a b
  mutual_itself a b e = record { onward = Here e; back = Here (sym e) }

  first_listed : IsNext E 1 [] (0 ∷ [])
  first_listed = record {
    least = 0;
    ready = record {
      node = omega arith;
      unlisted = λ h. contains-none h.component h.listed;
      sources = λ b way. inr (mutual_itself 0 b (sym (leads_back b 0 way refl)));
    };
    first = λ a ready. omega arith;
    members = λ b. ((λ h. mutual_itself 0 b (only_one 0 b h)), λ h. is_one 0 b (sym (leads_back b 0 h.back refl)));
    ascending = λ k low. absurd (omega (arith, low));
  }

  each_next : (before after : List (List ℕ)) (c : List ℕ) → one_listed ≡ before ++ c ∷ after → IsNext E 1 before c
  each_next [] after c e = let same : (0 ∷ []) ≡ c = cc in subst (λ (l : List ℕ). IsNext E 1 [] l) same first_listed
  each_next (x ∷ []) after c e = absurd (let none : ⊥ = cc in none)
  each_next (x ∷ y ∷ before) after c e = absurd (let none : ⊥ = cc in none)

  pub one_is_listed : IsListing E 1 one_listed
  one_is_listed = record { each = each_next; all = all_listed }
