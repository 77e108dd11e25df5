-- Pairs of a list and the values of their keys.
use Rattle.std.proofs.Common.{◌≡◌, ◌≢◌, ◌↔◌, ◌⊎◌, inl, inr, ℕ, zero, suc, ◌<◌, List, [], ◌∷◌, length, map, Contains}
use Rattle.std.proofs.Common.{Vec, get_or, refl, sym, ◌∙◌, ap, subst, arith}
use Rattle.std.specs.List.{All}
use Rattle.std.specs.declared.alloc.Global.{Global}
use Rattle.std.proofs.lemmas.List.Elements.{All-head, All-tail}
use Rattle.its_graph.specs.Groups.{values_of, values_in, Joins, IsPair, swap}
use Rattle.std.proofs.lemmas.List.{get_or_default}
use Rattle.its_graph.specs.Orders.{needs_among, Needs}
use Rattle.its_graph.specs.Numbers.{HasInside}
use Rattle.its_graph.proofs.Elements.{Contains-cons_cases, Contains-first, Contains-later, Decided, decided}

-- A pair of nodes.
abbrev pub Pair : Type 0
Pair = ℕ × ℕ

-- Pairs with equal parts are equal.
pub same_pair : (e : Pair) (a b : ℕ) → e.0 ≡ a → e.1 ≡ b → e ≡ (a, b)
same_pair e a b p q = ap (λ (x : ℕ). let r : Pair = (x, e.1) in r) p ∙ ap (λ (x : ℕ). let r : Pair = (a, x) in r) q

-- A pair of a list is its first or one of the others.
pub pair-cases : (e : Pair) (es : List Pair) (x : Pair) → Contains (e ∷ es) x → (e ≡ x) ⊎ Contains es x
pair-cases e es x (zero, low, same) = inl same
pair-cases e es x (suc k, low, same) = inr (k, omega arith, same)

-- A pair of the others is one of the list.
pub pair-later : (e : Pair) (es : List Pair) (x : Pair) → Contains es x → Contains (e ∷ es) x
pair-later e es x (k, low, same) = (suc k, omega arith, same)

-- The second part of a pair is a value of the first.
pub value-listed : (pairs : List Pair) (a b : ℕ) → Contains pairs (a, b) → Contains (values_of pairs a) b
value-listed [] a b (k, low, e) = absurd (omega arith)
value-listed (e ∷ pairs) a b h = go (decided e.0 a) (pair-cases e pairs (a, b) h) (λ later. value-listed pairs a b later)
  where
    go : Decided e.0 a → (e ≡ (a, b)) ⊎ Contains pairs (a, b) → (Contains pairs (a, b) → Contains (values_of pairs a) b) → Contains (values_of (e ∷ pairs) a) b
    go (inl (test, same)) (inl is) ih = rw test (subst (λ (x : ℕ). Contains (e.1 ∷ values_of pairs a) x) (ap (λ (p : Pair). p.1) is) (Contains-first e.1 (values_of pairs a)))
    go (inl (test, same)) (inr later) ih = rw test (Contains-later e.1 (values_of pairs a) b (ih later))
    go (inr (test, other)) (inl is) ih = absurd (other (ap (λ (p : Pair). p.0) is))
    go (inr (test, other)) (inr later) ih = rw test (ih later)

-- Each value in the table comes from a pair.
pub value-from : (pairs : List Pair) (a b : ℕ) → Contains (values_of pairs a) b → Contains pairs (a, b)
value-from [] a b (k, low, e) = absurd (omega arith)
value-from (e ∷ pairs) a b h = go (decided e.0 a) (λ later. value-from pairs a b later)
  where
    go : Decided e.0 a → (Contains (values_of pairs a) b → Contains pairs (a, b)) → Contains (e ∷ pairs) (a, b)
    go (inr (test, other)) ih = pair-later e pairs (a, b) (ih (rw test at h))
    go (inl (test, same)) ih = first (Contains-cons_cases e.1 (values_of pairs a) b (rw test at h))
      where
        first : (b ≡ e.1) ⊎ Contains (values_of pairs a) b → Contains (e ∷ pairs) (a, b)
        first (inl is) = (zero, omega arith, same_pair e a b same (sym is))
        first (inr later) = pair-later e pairs (a, b) (ih later)

-- A table of the values of pairs has the edges of the pairs.
pub joins-pairs : (lists : List (Vec ℕ Global)) (pairs : List Pair) → ((a : ℕ) → values_in lists a ≡ values_of pairs a) → (a b : ℕ) → Joins lists a b ↔ IsPair pairs a b
joins-pairs lists pairs same a b =
    (λ h. value-from pairs a b (subst (λ (xs : List ℕ). Contains xs b) (same a) h), λ h. subst (λ (xs : List ℕ). Contains xs b) (sym (same a)) (value-listed pairs a b h))

-- A pair of the list gives the reversed pair in the mapped list.
pub swap-listed : (pairs : List Pair) (a b : ℕ) → Contains pairs (a, b) → Contains (map swap pairs) (b, a)
swap-listed [] a b (k, low, e) = absurd (omega arith)
swap-listed (e ∷ pairs) a b h = go (pair-cases e pairs (a, b) h) (λ later. swap-listed pairs a b later)
  where
    go : (e ≡ (a, b)) ⊎ Contains pairs (a, b) → (Contains pairs (a, b) → Contains (map swap pairs) (b, a)) → Contains (map swap (e ∷ pairs)) (b, a)
    go (inl is) ih = (zero, omega arith, ap swap is)
    go (inr later) ih = pair-later (swap e) (map swap pairs) (b, a) (ih later)

-- A reversed pair in the mapped list comes from a pair of the list.
pub swap-from : (pairs : List Pair) (a b : ℕ) → Contains (map swap pairs) (b, a) → Contains pairs (a, b)
swap-from [] a b (k, low, e) = absurd (omega arith)
swap-from (e ∷ pairs) a b h = go (pair-cases (swap e) (map swap pairs) (b, a) h) (λ later. swap-from pairs a b later)
  where
    go : (swap e ≡ (b, a)) ⊎ Contains (map swap pairs) (b, a) → (Contains (map swap pairs) (b, a) → Contains pairs (a, b)) → Contains (e ∷ pairs) (a, b)
    go (inl is) ih = (zero, omega arith, ap swap is)
    go (inr later) ih = pair-later e pairs (a, b) (ih later)

-- The ends of all edges are below n.
abbrev pub AreWithin : ℕ → List Pair → Type 0
AreWithin n edges = All (λ (e : Pair). (e.0 < n) × (e.1 < n)) edges

-- The ends of an edge of such a list are below n.
pub pair-within : (n : ℕ) (edges : List Pair) (a b : ℕ) → AreWithin n edges → IsPair edges a b → (a < n) × (b < n)
pair-within n edges a b h (k, low, e) = subst (λ (x : Pair). (x.0 < n) × (x.1 < n)) e (h k (a, b) low)

-- A need comes from an edge.
pub need-from : (leaders : List ℕ) (edges : List Pair) (c d : ℕ) → AreWithin (length leaders) edges → Contains (needs_among leaders edges) (c, d) → Needs (IsPair edges) leaders c d
need-from leaders [] c d within (k, low, e) = absurd (omega arith)
need-from leaders (e ∷ edges) c d within h = go (decided (get_or leaders e.0 0) (get_or leaders e.1 0)) (λ later. need-from leaders edges c d (All-tail (λ (x : Pair). (x.0 < length leaders) × (x.1 < length leaders)) e edges within) later)
  where
    P : Pair → Type 0
    P x = (x.0 < length leaders) × (x.1 < length leaders)

    more : Needs (IsPair edges) leaders c d → Needs (IsPair (e ∷ edges)) leaders c d
    more n = record { from = n.from; to = n.to; edge = pair-later e edges (n.from, n.to) n.edge; from_within = n.from_within; to_within = n.to_within; need = n.need; leader = n.leader; other = n.other }

    go : Decided (get_or leaders e.0 0) (get_or leaders e.1 0) → (Contains (needs_among leaders edges) (c, d) → Needs (IsPair edges) leaders c d) → Needs (IsPair (e ∷ edges)) leaders c d
    go (inl (test, same)) ih = more (ih (rw test at h))
    go (inr (test, other)) ih = first (pair-cases (get_or leaders e.1 0, get_or leaders e.0 0) (needs_among leaders edges) (c, d) (rw test at h))
      where
        first : ◌≡◌ {A = Pair} (get_or leaders e.1 0, get_or leaders e.0 0) (c, d) ⊎ Contains (needs_among leaders edges) (c, d) → Needs (IsPair (e ∷ edges)) leaders c d
        first (inr later) = more (ih later)
        first (inl is) = record {
          from = e.0;
          to = e.1;
          edge = (zero, omega arith, refl);
          from_within = (All-head (λ (x : Pair). (x.0 < length leaders) × (x.1 < length leaders)) e edges within).0;
          to_within = (All-head (λ (x : Pair). (x.0 < length leaders) × (x.1 < length leaders)) e edges within).1;
          need = ap (λ (p : Pair). p.1) is;
          leader = ap (λ (p : Pair). p.0) is;
          other = λ k. other (ap (λ (p : Pair). p.1) is ∙ (k ∙ sym (ap (λ (p : Pair). p.0) is)));
        }

-- The need of an edge is listed.
pub need-listed : (leaders : List ℕ) (edges : List Pair) (a b : ℕ) → IsPair edges a b → get_or leaders a 0 ≢ get_or leaders b 0 → Contains (needs_among leaders edges) (get_or leaders b 0, get_or leaders a 0)
need-listed leaders [] a b (k, low, e) ne = absurd (omega arith)
need-listed leaders (e ∷ edges) a b h ne = go (decided (get_or leaders e.0 0) (get_or leaders e.1 0)) (pair-cases e edges (a, b) h) (λ later. need-listed leaders edges a b later ne)
  where
    go : Decided (get_or leaders e.0 0) (get_or leaders e.1 0) → (e ≡ (a, b)) ⊎ Contains edges (a, b) → (Contains edges (a, b) → Contains (needs_among leaders edges) (get_or leaders b 0, get_or leaders a 0)) → Contains (needs_among leaders (e ∷ edges)) (get_or leaders b 0, get_or leaders a 0)
    go (inl (test, same)) (inl is) ih = absurd (ne (ap (λ (p : Pair). get_or leaders p.0 0) (sym is) ∙ (same ∙ ap (λ (p : Pair). get_or leaders p.1 0) is)))
    go (inl (test, same)) (inr later) ih = rw test (ih later)
    go (inr (test, other)) (inl is) ih = rw test (zero, omega arith, same_pair (get_or leaders e.1 0, get_or leaders e.0 0) (get_or leaders b 0) (get_or leaders a 0) (ap (λ (p : Pair). get_or leaders p.1 0) is) (ap (λ (p : Pair). get_or leaders p.0 0) is))
    go (inr (test, other)) (inr later) ih = rw test (pair-later (get_or leaders e.1 0, get_or leaders e.0 0) (needs_among leaders edges) (get_or leaders b 0, get_or leaders a 0) (ih later))

-- The pair that represents none.
abbrev pub no_pair : Pair
no_pair = (0, 0)

-- If no position has a link with two ends of one number, there is no such link.
pub none-inside : (numbers : List ℕ) (links : List Pair) → ((k : ℕ) → k < length links → get_or numbers (get_or links k no_pair).0 0 ≢ get_or numbers (get_or links k no_pair).1 0) → ¬ (HasInside numbers links)
none-inside numbers links h inside = go inside.link
  where
    go : Contains links (inside.from, inside.to) → ⊥
    go (k, low, e) =
        let at : get_or links k no_pair ≡ (inside.from, inside.to) = get_or_default links k no_pair (inside.from, inside.to) low ∙ e in
        h k low (ap (λ (p : Pair). get_or numbers p.0 0) at ∙ (inside.same ∙ sym (ap (λ (p : Pair). get_or numbers p.1 0) at)))
