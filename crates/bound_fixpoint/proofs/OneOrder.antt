-- Two lists in a strict order with the same members are equal.
use Rattle.std.proofs.Common.{◌≡◌, inl, inr, ℕ, ◌<◌, List, [], ◌∷◌, ◌++◌, refl, sym, ◌∙◌, ap, subst, arith}
use Rattle.std.specs.List.{Contains}
use Rattle.rule_questions.specs.model.Programs.{Program}
use Rattle.rule_questions.proofs.model.Membership.{contains-is_in, is_in-contained}
use Rattle.rule_questions.specs.cert_rules.Gaps.{SymbolPlace}
use Rattle.bound_fixpoint.specs.Keys.{Bounds}
use Rattle.rule_questions.specs.cert_rules.Numbers.{IsAscending}
use Rattle.bound_fixpoint.specs.Sets.{IsSetOfRule, PlaceIsBefore, ArePlacesInOrder, AreShutOf}
use Rattle.bound_fixpoint.proofs.Cases.{either}
use Rattle.bound_fixpoint.proofs.ListMembers.{contains-cases, contains-none, contains-first, contains-later}

-- each element comes before the next in the order
abbrev pub IsChain : {A : Type 0} → (A → A → Type 0) → List A → Type 0
IsChain R [] = Unit {0}
IsChain R (x ∷ []) = Unit {0}
IsChain R (x ∷ y ∷ rest) = R x y × IsChain R (y ∷ rest)

-- two chains are a chain when appended, if all elements of the first come before all of the second
pub chain-append : {A : Type 0} (R : A → A → Type 0) (xs ys : List A) → IsChain R xs → IsChain R ys
    → ((x y : A) → Contains xs x → Contains ys y → R x y) → IsChain R (xs ++ ys)
chain-append R [] ys a b h = b
chain-append R (x ∷ []) [] a b h = tt
chain-append R (x ∷ []) (y ∷ ys) a b h = (h x y (contains-first x []) (contains-first y ys), b)
chain-append R (x ∷ z ∷ xs) ys a b h =
    (a.0, chain-append R (z ∷ xs) ys a.1 b (λ u v c d. h u v (contains-later u x (z ∷ xs) c) d))

module _ {A : Type 0} (R : A → A → Type 0) (irreflexive : (x : A) → ¬ (R x x))
    (transitive : (x y z : A) → R x y → R y z → R x z) where
  chain_tail : (x : A) (xs : List A) → IsChain R (x ∷ xs) → IsChain R xs
  chain_tail x [] h = tt
  chain_tail x (y ∷ xs) h = h.1

  -- the first element comes before all others
  first_before : (x : A) (xs : List A) → IsChain R (x ∷ xs) → (z : A) → Contains xs z → R x z
  first_before x [] h z c = absurd (contains-none z c)
  first_before x (y ∷ xs) h z c =
      either (contains-cases z y xs c) (λ e. subst (λ (w : A). R x w) e h.0)
      (λ m. transitive x y z h.0 (first_before y xs h.1 z m))

  -- a member of the rest of one list is one of the rest of the other, if their first elements are equal
  in_tail : (x y : A) (xs ys : List A) → x ≡ y → IsChain R (x ∷ xs) →
      ((z : A) → Contains (x ∷ xs) z → Contains (y ∷ ys) z)
      → (z : A) → Contains xs z → Contains ys z
  in_tail x y xs ys e chain h z c =
      either (contains-cases z y ys (h z (contains-later z x xs c)))
      (λ same. absurd (irreflexive x (subst (λ (w : A). R x w) (sym (e ∙ same)) (first_before x xs chain z c))))
      (λ m. m)

  -- two lists in a strict order with the same members are equal
  pub ordered_one : (xs ys : List A) → IsChain R xs → IsChain R ys → ((z : A) → Contains xs z → Contains ys z)
      → ((z : A) → Contains ys z → Contains xs z) → xs ≡ ys
  ordered_one [] [] a b f g = refl
  ordered_one [] (y ∷ ys) a b f g = absurd (contains-none y (g y (contains-first y ys)))
  ordered_one (x ∷ xs) [] a b f g = absurd (contains-none x (f x (contains-first x xs)))
  ordered_one (x ∷ xs) (y ∷ ys) a b f g =
      let same = either (contains-cases x y ys (f x (contains-first x xs))) (λ e. sym e)
      (λ m. either (contains-cases y x xs (g y (contains-first y ys))) (λ e. e)
      (λ n. absurd (irreflexive x (transitive x y x (first_before x xs a y n) (first_before y ys b x m))))) in
      let rest = ordered_one xs ys (chain_tail x xs a) (chain_tail y ys b) (in_tail x y xs ys same a f)
      (in_tail y x ys xs (sym same) b g) in
      ap (λ (w : A). w ∷ xs) same ∙ ap (λ (ws : List A). y ∷ ws) rest

ascending_chain : (xs : List ℕ) → IsAscending xs → IsChain (λ x y. x < y) xs
ascending_chain [] h = tt
ascending_chain (x ∷ []) h = tt
ascending_chain (x ∷ y ∷ xs) h = (h.0, ascending_chain (y ∷ xs) h.1)

order_chain : (xs : List SymbolPlace) → ArePlacesInOrder xs → IsChain PlaceIsBefore xs
order_chain [] h = tt
order_chain (x ∷ []) h = tt
order_chain (x ∷ y ∷ xs) h = (h.0, order_chain (y ∷ xs) h.1)

-- the list of the set of a rule is unique
pub sets_one : (p : Program) (bs : Bounds) (t : ℕ) (xs ys : List ℕ) → IsSetOfRule p bs t xs → IsSetOfRule p bs t ys
    → xs ≡ ys
sets_one p bs t xs ys a b =
    ordered_one (λ x y. x < y) (λ x h. omega (arith, h)) (λ x y z h k. omega (arith, h, k)) xs ys
    (ascending_chain xs a.ascending)
    (ascending_chain ys b.ascending)
    (λ z c. contains-is_in ys z ((b.members z).1 ((a.members z).0 (is_in-contained xs z c))))
    (λ z c. contains-is_in xs z ((a.members z).1 ((b.members z).0 (is_in-contained ys z c))))

no_place_before_itself : (s : SymbolPlace) → PlaceIsBefore s s → ⊥
no_place_before_itself s (inl h) = omega (arith, h)
no_place_before_itself s (inr h) = let low = h.1 in omega (arith, low)

before_in_turn : (s q r : SymbolPlace) → PlaceIsBefore s q → PlaceIsBefore q r → PlaceIsBefore s r
before_in_turn s q r (inl h) (inl k) = inl (omega (arith, h, k))
before_in_turn s q r (inl h) (inr k) = let e = k.0 in inl (omega (arith, h, e))
before_in_turn s q r (inr h) (inl k) = let e = h.0 in inl (omega (arith, k, e))
before_in_turn s q r (inr h) (inr k) = let a = h.1 in let b = k.1 in inr (h.0 ∙ k.0, omega (arith, a, b))

-- the list of shut places of a set is unique
pub shut_one : (p : Program) (bs : Bounds) (set : List ℕ) (xs ys : List SymbolPlace) → AreShutOf p bs set xs
    → AreShutOf p bs set ys → xs ≡ ys
shut_one p bs set xs ys a b =
    ordered_one PlaceIsBefore no_place_before_itself before_in_turn xs ys (order_chain xs a.order)
    (order_chain ys b.order)
    (λ z c. (b.places z).1 ((a.places z).0 c)) (λ z c. (a.places z).1 ((b.places z).0 c))
