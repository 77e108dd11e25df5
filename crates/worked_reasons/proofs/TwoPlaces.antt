-- Two nodes without an edge from the second to the first: each is a component, in their order.
use Rattle.std.proofs.Common.{◌≡◌, ◌⊎◌, inl, inr, ℕ, zero, suc, ◌<◌, ◌≤◌, List, [], ◌∷◌, ◌++◌, refl, sym, ◌∙◌, subst}
use Rattle.std.proofs.Common.{arith, Contains}
use Rattle.model.specs.Paths.{Path, Here, Onward}
use Rattle.its_graph.specs.Components.{IsMutual, IsListed, MayComeNext, IsNext, IsListing}
use Rattle.bound_fixpoint.proofs.Cases.{either}
use Rattle.bound_fixpoint.proofs.ListMembers.{contains-cases, contains-none}

-- edges lead only from one of two nodes, into the first one from itself alone, and from the second one to itself alone
pub record LeadOnward (E : ℕ → ℕ → Type 0) : Type 0 where
  pub within : (a b : ℕ) → E a b → a < 2
  pub back : (a : ℕ) → E a 0 → a ≡ 0
  pub stays : (b : ℕ) → E 1 b → b ≡ 1

-- a list of one node has that node alone
pub only_one : (a b : ℕ) → Contains (a ∷ []) b → a ≡ b
only_one a b h = either (contains-cases b a [] h) (λ e. e) (λ none. absurd (contains-none b none))

pub is_one : (a b : ℕ) → a ≡ b → Contains (a ∷ []) b
is_one a b e = (zero, omega arith, e)

abbrev pub both_listed : List (List ℕ)
both_listed = (0 ∷ []) ∷ (1 ∷ []) ∷ []

first_is_listed : IsListed ((0 ∷ []) ∷ []) 0
first_is_listed = record { component = 0 ∷ []; listed = (zero, omega arith, refl); member = (zero, omega arith, refl) }

-- the first component has the first node alone
listed_then : (a : ℕ) → IsListed ((0 ∷ []) ∷ []) a → 0 ≡ a
listed_then a h = either (contains-cases h.component (0 ∷ []) [] h.listed)
    (λ e. only_one 0 a (subst (λ (c : List ℕ). Contains c a) (sym e) h.member))
    (λ none. absurd (contains-none h.component none))

all_listed : (a : ℕ) → a < 2 → IsListed both_listed a
all_listed zero low = record { component = 0 ∷ []; listed = (zero, omega arith, refl); member = (zero, omega arith, refl) }
all_listed (suc zero) low = record {
  component = 1 ∷ [];
  listed = (suc zero, omega arith, refl);
  member = (zero, omega arith, refl);
}
all_listed (suc (suc a)) low = absurd (let none : suc (suc a) < 2 = low in omega (arith, none))

module _ (E : ℕ → ℕ → Type 0) (lead : LeadOnward E) where
  -- a path to the first node begins there
  leads_back : (a b : ℕ) → Path E a b → b ≡ 0 → a ≡ 0
  leads_back a b (Here same) e = same ∙ e
  leads_back a b (Onward {b = z} way edge) e = leads_back a z way (lead.back z (subst (λ (n : ℕ). E z n) e edge))

  -- a path from the second node ends there
  leads_nowhere : (a b : ℕ) → Path E a b → a ≡ 1 → b ≡ 1
  leads_nowhere a b (Here same) e = sym same ∙ e
  leads_nowhere a b (Onward {b = z} way edge) e =
      lead.stays b (subst (λ (n : ℕ). E n b) (leads_nowhere a z way e) edge)

  -- a path is empty, or begins at one of the nodes
  begins_within : (a b : ℕ) → Path E a b → (a ≡ b) ⊎ (a < 2)
  begins_within a b (Here same) = inl same
  begins_within a b (Onward {b = z} way edge) =
      inr (either (begins_within a z way) (λ e. subst (λ (n : ℕ). n < 2) (sym e) (lead.within z b edge)) (λ low. low))

  -- a node is in its own component
  mutual_itself : (a b : ℕ) → a ≡ b → IsMutual E a b
  mutual_itself a b e = record { onward = Here e; back = Here (sym e) }

  -- the first node comes first
  first_listed : IsNext E 2 [] (0 ∷ [])
  first_listed = record {
    least = 0;
    ready = record {
      node = omega arith;
      unlisted = λ h. contains-none h.component h.listed;
      sources = λ b way. inr (mutual_itself 0 b (sym (leads_back b 0 way refl)));
    };
    first = λ a ready. omega arith;
    members = λ b. ((λ h. mutual_itself 0 b (only_one 0 b h)), λ h. is_one 0 b (sym (leads_back b 0 h.back refl)));
    ascending = λ k low. absurd (omega (arith, low));
  }

  second_sources : (b : ℕ) → Path E b 1 → IsListed ((0 ∷ []) ∷ []) b ⊎ IsMutual E 1 b
  second_sources zero way = inl first_is_listed
  second_sources (suc zero) way = inr (mutual_itself 1 1 refl)
  second_sources (suc (suc b)) way = absurd (either (begins_within (suc (suc b)) 1 way) same low)
    where
      same : suc (suc b) ≡ 1 → ⊥
      same e = omega (arith, e)

      low : suc (suc b) < 2 → ⊥
      low l = omega (arith, l)

  later : (a : ℕ) → MayComeNext E 2 ((0 ∷ []) ∷ []) a → 1 ≤ a
  later zero ready = absurd (ready.unlisted first_is_listed)
  later (suc a) ready = omega arith

  -- the second node comes second
  second_listed : IsNext E 2 ((0 ∷ []) ∷ []) (1 ∷ [])
  second_listed = record {
    least = 1;
    ready = record {
      node = omega arith;
      unlisted = λ h. let e : ◌≡◌ {A = ℕ} 0 1 = listed_then 1 h in omega (arith, e);
      sources = second_sources;
    };
    first = later;
    members = λ b. ((λ h. mutual_itself 1 b (only_one 1 b h)), λ h. is_one 1 b (sym (leads_nowhere 1 b h.onward refl)));
    ascending = λ k low. absurd (omega (arith, low));
  }

  each_next : (before after : List (List ℕ)) (c : List ℕ) → both_listed ≡ before ++ c ∷ after → IsNext E 2 before c
  each_next [] after c e = let same : (0 ∷ []) ≡ c = cc in subst (λ (l : List ℕ). IsNext E 2 [] l) same first_listed
  each_next (x ∷ []) after c e =
      let first : (0 ∷ []) ≡ x = cc in
      let second : (1 ∷ []) ≡ c = cc in
      subst (λ (l : List ℕ). IsNext E 2 (x ∷ []) l) second
      (subst (λ (l : List ℕ). IsNext E 2 (l ∷ []) (1 ∷ [])) first second_listed)
  each_next (x ∷ y ∷ []) after c e = absurd (let none : ⊥ = cc in none)
  each_next (x ∷ y ∷ z ∷ before) after c e = absurd (let none : ⊥ = cc in none)

  -- both components are listed
  pub two_listed : IsListing E 2 both_listed
  two_listed = record { each = each_next; all = all_listed }
