-- The effect of painting nodes: no found node is lost, each node of the list gets the new colour, and each node that
-- gets it is found.
use Rattle.std.proofs.Common.{◌≡◌, ◌≢◌, ℕ, ◌+◌, ◌<◌, ◌≤◌, List, [], ◌∷◌, ◌++◌, length, All, Contains, refl, sym, ◌∙◌}
use Rattle.std.proofs.Common.{ap, subst, inl, inr, ◌⊎◌, arith, get_or, set, get_or-set_other, get_or-set_same}
use Rattle.std.proofs.Common.{length-append, ◌==◌, cond}
use Rattle.std.specs.List.{count_by}
use Rattle.std.proofs.lemmas.List.{length-set, get_or_append_left}
use Rattle.std.proofs.lemmas.List.Sums.{sum_by-set}
use Rattle.std.proofs.lemmas.List.Elements.{All-head, All-tail, Contains-append_left, Contains-append_right}
use Rattle.std.proofs.lemmas.List.Elements.{Contains-append_cases}
use Rattle.its_graph.specs.Floods.{Painting, painted, all_painted}
use Rattle.its_graph.proofs.Elements.{Contains-cons_cases, Contains-first, Contains-later, only_element, none_in_empty}
use Rattle.its_graph.proofs.Elements.{Decided, decided}

-- The colour of a node.
abbrev pub color_of : Painting → ℕ → ℕ
color_of m x = get_or m.colors x 0

-- The number of nodes with a colour.
abbrev pub left : ℕ → List ℕ → ℕ
left old colors = count_by (λ c. c == old) colors

-- 1 for a node of the colour, else 0.
abbrev one_of : ℕ → ℕ → ℕ
one_of old c = cond (c == old) 1 0

-- If a node of the old colour gets another one, one less has the old colour.
fewer_left : (old new : ℕ) (colors : List ℕ) (b : ℕ) → b < length colors → get_or colors b 0 ≡ old → new ≢ old → left old (set colors b new) + 1 ≡ left old colors
fewer_left old new colors b low h ne =
    let moved = sum_by-set (one_of old) colors b new 0 low in
    let one : one_of old (get_or colors b 0) ≡ 1 = is_one (decided (get_or colors b 0) old) in
    let none : one_of old new ≡ 0 = is_none (decided new old) in
    omega (arith, moved, one, none)
  where
    is_one : Decided (get_or colors b 0) old → one_of old (get_or colors b 0) ≡ 1
    is_one (inl (test, same)) = rw test refl
    is_one (inr (test, other)) = absurd (other h)

    is_none : Decided new old → one_of old new ≡ 0
    is_none (inl (test, same)) = absurd (ne same)
    is_none (inr (test, other)) = rw test refl

-- The effect of painting nodes.
pub record Paints (old new : ℕ) (bs : List ℕ) (m n : Painting) : Type 0 where
  pub size : length n.colors ≡ length m.colors
  pub front : (k : ℕ) → k < length m.found → get_or n.found k 0 ≡ get_or m.found k 0
  pub longer : length m.found ≤ length n.found
  pub kept : (x : ℕ) → Contains m.found x → Contains n.found x
  pub others : (x : ℕ) → (color_of n x ≡ color_of m x) ⊎ Contains n.found x
  pub each : (b : ℕ) → Contains bs b → color_of m b ≡ old → Contains n.found b
  pub only : (x : ℕ) → Contains n.found x → Contains m.found x ⊎ (Contains bs x × (x < length m.colors) × (color_of m x ≡ old))
  pub colored : (x : ℕ) → color_of m x ≡ new → color_of n x ≡ new
  pub newly : (x : ℕ) → Contains n.found x → Contains m.found x ⊎ (color_of n x ≡ new)
  pub work : left old n.colors + length n.found ≡ left old m.colors + length m.found

-- Painting nothing changes nothing.
paints_none : (old new : ℕ) (m : Painting) → Paints old new [] m m
paints_none old new m = record { size = refl; front = λ k l. refl; longer = omega arith; kept = λ x h. h; others = λ x. inl refl; each = λ b h e. absurd (none_in_empty b h); only = λ x h. inl h; colored = λ x h. h; newly = λ x h. inl h; work = refl }

-- A node of another colour keeps it.
painted-other : (old new b : ℕ) (m : Painting) → color_of m b ≢ old → painted old new b m ≡ m
painted-other old new b m ne = go (decided (color_of m b) old)
  where
    go : Decided (color_of m b) old → painted old new b m ≡ m
    go (inl (test, same)) = absurd (ne same)
    go (inr (test, other)) = rw test refl

-- A node of the old colour is painted.
painted-old : (old new b : ℕ) (m : Painting) → color_of m b ≡ old → painted old new b m ≡ record { colors = set m.colors b new; found = m.found ++ b ∷ [] }
painted-old old new b m e = go (decided (color_of m b) old)
  where
    go : Decided (color_of m b) old → painted old new b m ≡ record { colors = set m.colors b new; found = m.found ++ b ∷ [] }
    go (inl (test, same)) = rw test refl
    go (inr (test, other)) = absurd (other e)

-- The effect of painting a node of the old colour.
paints_old : (old new b : ℕ) (m : Painting) → new ≢ old → b < length m.colors → color_of m b ≡ old → Paints old new (b ∷ []) m (record { colors = set m.colors b new; found = m.found ++ b ∷ [] })
paints_old old new b m ne low h = record {
  size = length-set m.colors b new;
  front = λ k l. get_or_append_left m.found (b ∷ []) 0 k l;
  longer = omega (arith, length-append m.found (b ∷ []));
  kept = λ x hx. Contains-append_left m.found (b ∷ []) x hx;
  others = λ x. others x (decided x b);
  each = λ x hx e. subst (λ (y : ℕ). Contains (m.found ++ b ∷ []) y) (sym (only_element b x hx)) at_end;
  only = λ x hx. only x (Contains-append_cases m.found (b ∷ []) x hx);
  colored = λ x hx. colored x hx (decided x b);
  newly = λ x hx. newly x (Contains-append_cases m.found (b ∷ []) x hx);
  work = omega (arith, fewer_left old new m.colors b low h ne, length-append m.found (b ∷ []));
}
  where
    at_end : Contains (m.found ++ b ∷ []) b
    at_end = Contains-append_right m.found (b ∷ []) b (Contains-first b [])

    others : (x : ℕ) → Decided x b → (get_or (set m.colors b new) x 0 ≡ color_of m x) ⊎ Contains (m.found ++ b ∷ []) x
    others x (inl (test, same)) = inr (subst (λ (y : ℕ). Contains (m.found ++ b ∷ []) y) (sym same) at_end)
    others x (inr (test, other)) = inl (get_or-set_other m.colors b x new 0 other)

    only : (x : ℕ) → Contains m.found x ⊎ Contains (b ∷ []) x → Contains m.found x ⊎ (Contains (b ∷ []) x × (x < length m.colors) × (color_of m x ≡ old))
    only x (inl hx) = inl hx
    only x (inr hx) = let e = only_element b x hx in inr (hx, omega arith, ap (color_of m) e ∙ h)

    colored : (x : ℕ) → color_of m x ≡ new → Decided x b → get_or (set m.colors b new) x 0 ≡ new
    colored x hx (inl (test, same)) = ap (λ (y : ℕ). get_or (set m.colors b new) y 0) same ∙ get_or-set_same m.colors b new 0 low
    colored x hx (inr (test, other)) = get_or-set_other m.colors b x new 0 other ∙ hx

    newly : (x : ℕ) → Contains m.found x ⊎ Contains (b ∷ []) x → Contains m.found x ⊎ (get_or (set m.colors b new) x 0 ≡ new)
    newly x (inl hx) = inl hx
    newly x (inr hx) = inr (ap (λ (y : ℕ). get_or (set m.colors b new) y 0) (only_element b x hx) ∙ get_or-set_same m.colors b new 0 low)

-- The effect of painting one node.
pub paints_one : (old new b : ℕ) (m : Painting) → new ≢ old → b < length m.colors → Paints old new (b ∷ []) m (painted old new b m)
paints_one old new b m ne low = go (decided (color_of m b) old)
  where
    go : Decided (color_of m b) old → Paints old new (b ∷ []) m (painted old new b m)
    go (inl (test, h)) = subst (λ (n : Painting). Paints old new (b ∷ []) m n) (sym (painted-old old new b m h)) (paints_old old new b m ne low h)
    go (inr (test, h)) = subst (λ (n : Painting). Paints old new (b ∷ []) m n) (sym (painted-other old new b m h)) (record { size = refl; front = λ k l. refl; longer = omega arith; kept = λ x hx. hx; others = λ x. inl refl; each = λ x hx e. absurd (h (ap (color_of m) (sym (only_element b x hx)) ∙ e)); only = λ x hx. inl hx; colored = λ x hx. hx; newly = λ x hx. inl hx; work = refl })

-- Painting one node and then others paints all of them.
paints_then : (old new b : ℕ) (bs : List ℕ) (m n o : Painting) → new ≢ old → Paints old new (b ∷ []) m n → Paints old new bs n o → Paints old new (b ∷ bs) m o
paints_then old new b bs m n o ne p q = record {
  size = q.size ∙ p.size;
  front = λ k l. q.front k (omega (arith, p.longer)) ∙ p.front k l;
  longer = omega (arith, p.longer, q.longer);
  kept = λ x h. q.kept x (p.kept x h);
  others = λ x. others x (q.others x) (p.others x);
  each = λ x h e. each x e (Contains-cons_cases b bs x h) (p.others x);
  only = λ x h. only x (q.only x h) (p.others x);
  colored = λ x h. q.colored x (p.colored x h);
  newly = λ x h. newly x (q.newly x h);
  work = q.work ∙ p.work;
}
  where
    others : (x : ℕ) → (color_of o x ≡ color_of n x) ⊎ Contains o.found x → (color_of n x ≡ color_of m x) ⊎ Contains n.found x → (color_of o x ≡ color_of m x) ⊎ Contains o.found x
    others x (inr h) k = inr h
    others x (inl e) (inl f) = inl (e ∙ f)
    others x (inl e) (inr h) = inr (q.kept x h)

    each : (x : ℕ) → color_of m x ≡ old → (x ≡ b) ⊎ Contains bs x → (color_of n x ≡ color_of m x) ⊎ Contains n.found x → Contains o.found x
    each x e k (inr h) = q.kept x h
    each x e (inl same) (inl f) = q.kept x (p.each x (subst (λ (y : ℕ). Contains (b ∷ []) y) (sym same) (Contains-first b [])) e)
    each x e (inr later) (inl f) = q.each x later (f ∙ e)

    only : (x : ℕ) → Contains n.found x ⊎ (Contains bs x × (x < length n.colors) × (color_of n x ≡ old)) → (color_of n x ≡ color_of m x) ⊎ Contains n.found x
        → Contains m.found x ⊎ (Contains (b ∷ bs) x × (x < length m.colors) × (color_of m x ≡ old))
    only x (inl h) k = first (p.only x h)
      where
        first : Contains m.found x ⊎ (Contains (b ∷ []) x × (x < length m.colors) × (color_of m x ≡ old)) → Contains m.found x ⊎ (Contains (b ∷ bs) x × (x < length m.colors) × (color_of m x ≡ old))
        first (inl hx) = inl hx
        first (inr (hx, low, e)) = inr (subst (λ (y : ℕ). Contains (b ∷ bs) y) (sym (only_element b x hx)) (Contains-first b bs), low, e)
    only x (inr (h, low, e)) (inl f) = inr (Contains-later b bs x h, omega (arith, p.size), sym f ∙ e)
    only x (inr (h, low, e)) (inr k) = first (p.only x k)
      where
        first : Contains m.found x ⊎ (Contains (b ∷ []) x × (x < length m.colors) × (color_of m x ≡ old)) → Contains m.found x ⊎ (Contains (b ∷ bs) x × (x < length m.colors) × (color_of m x ≡ old))
        first (inl hx) = inl hx
        first (inr (hx, below, at)) = inr (Contains-later b bs x h, below, at)

    newly : (x : ℕ) → Contains n.found x ⊎ (color_of o x ≡ new) → Contains m.found x ⊎ (color_of o x ≡ new)
    newly x (inr e) = inr e
    newly x (inl h) = first (p.newly x h)
      where
        first : Contains m.found x ⊎ (color_of n x ≡ new) → Contains m.found x ⊎ (color_of o x ≡ new)
        first (inl hx) = inl hx
        first (inr e) = inr (q.colored x e)

-- The effect of painting all nodes of a list.
pub paints_all : (old new : ℕ) (bs : List ℕ) (m : Painting) → new ≢ old → All (λ b. b < length m.colors) bs → Paints old new bs m (all_painted old new bs m)
paints_all old new [] m ne h = paints_none old new m
paints_all old new (b ∷ bs) m ne h =
    let P : ℕ → Type 0 = λ (x : ℕ). x < length m.colors in
    let one = paints_one old new b m ne (All-head P b bs h) in
    let rest : All (λ (x : ℕ). x < length (painted old new b m).colors) bs = subst (λ (k : ℕ). All (λ (x : ℕ). x < k) bs) (sym one.size) (All-tail P b bs h) in
    paints_then old new b bs m (painted old new b m) (all_painted old new (b ∷ bs) m) ne one (paints_all old new bs (painted old new b m) ne rest)
