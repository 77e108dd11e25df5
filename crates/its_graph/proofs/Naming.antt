-- Names of nodes, and the first node of each name.
use Rattle.std.proofs.Common.{◌≡◌, ◌≢◌, ℕ, zero, suc, ◌+◌, ◌<◌, ◌≤◌, List, [], ◌∷◌, ◌++◌, length, All, Contains, Option}
use Rattle.std.proofs.Common.{Some, None, refl, sym, ◌∙◌, ap, subst, inl, inr, ◌⊎◌, arith, get_or, set}
use Rattle.std.proofs.Common.{get_or-set_other, get_or-set_same, length-append}
use Rattle.std.proofs.lemmas.Bool.{cases_lt}
use Rattle.std.proofs.lemmas.List.{length-set, get_or_append_left, get_or_push}
use Rattle.std.proofs.lemmas.List.Elements.{All-head, All-tail, All-from_get_or}
use Rattle.its_graph.specs.Naming.{named, first_in, first_with}
use Rattle.its_graph.specs.Classes.{TakesAll, AreClassNames, AreFirst, AreLeaders}
use Rattle.its_graph.specs.Components.{IsMutual}
use Rattle.its_graph.proofs.Elements.{Contains-cons_cases, none_in_empty, Decided, decided}
use Rattle.its_graph.proofs.Routes.{path-within, mutual-turned, mutual-join}

-- Naming keeps the number of names.
pub named-size : (name : ℕ) (bs names : List ℕ) → length (named name bs names) ≡ length names
named-size name [] names = refl
named-size name (b ∷ bs) names = named-size name bs (set names b name) ∙ length-set names b name

-- A node that has the name keeps it.
named-kept : (name : ℕ) (bs names : List ℕ) (x : ℕ) → All (λ b. b < length names) bs → get_or names x 0 ≡ name → get_or (named name bs names) x 0 ≡ name
named-kept name [] names x h e = e
named-kept name (b ∷ bs) names x h e =
    let P : ℕ → Type 0 = λ (y : ℕ). y < length names in
    named-kept name bs (set names b name) x (subst (λ (k : ℕ). All (λ (y : ℕ). y < k) bs) (sym (length-set names b name)) (All-tail P b bs h)) (go (decided x b))
  where
    go : Decided x b → get_or (set names b name) x 0 ≡ name
    go (inl (test, same)) = ap (λ (y : ℕ). get_or (set names b name) y 0) same ∙ get_or-set_same names b name 0 (All-head (λ (y : ℕ). y < length names) b bs h)
    go (inr (test, other)) = get_or-set_other names b x name 0 other ∙ e

-- Each node of the list has the name.
pub named-each : (name : ℕ) (bs names : List ℕ) (x : ℕ) → All (λ b. b < length names) bs → Contains bs x → get_or (named name bs names) x 0 ≡ name
named-each name [] names x h k = absurd (none_in_empty x k)
named-each name (b ∷ bs) names x h k = go (Contains-cons_cases b bs x k) (λ rest later. named-each name bs (set names b name) x rest later)
  where
    rest : All (λ (y : ℕ). y < length (set names b name)) bs
    rest = subst (λ (j : ℕ). All (λ (y : ℕ). y < j) bs) (sym (length-set names b name)) (All-tail (λ (y : ℕ). y < length names) b bs h)

    go : (x ≡ b) ⊎ Contains bs x → (All (λ (y : ℕ). y < length (set names b name)) bs → Contains bs x → get_or (named name bs (set names b name)) x 0 ≡ name) → get_or (named name bs (set names b name)) x 0 ≡ name
    go (inl same) onward = named-kept name bs (set names b name) x rest (ap (λ (y : ℕ). get_or (set names b name) y 0) same ∙ get_or-set_same names b name 0 (All-head (λ (y : ℕ). y < length names) b bs h))
    go (inr later) onward = onward rest later

-- A node outside of the list keeps its name.
pub named-others : (name : ℕ) (bs names : List ℕ) (x : ℕ) → (get_or (named name bs names) x 0 ≡ get_or names x 0) ⊎ Contains bs x
named-others name [] names x = inl refl
named-others name (b ∷ bs) names x = go (decided x b) (named-others name bs (set names b name) x)
  where
    go : Decided x b → (get_or (named name bs (set names b name)) x 0 ≡ get_or (set names b name) x 0) ⊎ Contains bs x → (get_or (named name bs (set names b name)) x 0 ≡ get_or names x 0) ⊎ Contains (b ∷ bs) x
    go t (inr (k, low, e)) = inr (suc k, omega arith, e)
    go (inl (test, same)) (inl e) = inr (zero, omega arith, sym same)
    go (inr (test, other)) (inl e) = inl (e ∙ get_or-set_other names b x name 0 other)

-- The first nodes of the names of the first i nodes.
pub record AreFirstSoFar (names : List ℕ) (first : List (Option ℕ)) (leaders : List ℕ) (i : ℕ) : Type 0 where
  pub size : length leaders ≡ i
  pub table : length first ≡ length names
  pub some : (r l : ℕ) → get_or first r None ≡ Some l → (l < i) × (get_or names l 0 ≡ r) × ((a : ℕ) → a < l → get_or names a 0 ≢ r)
  pub none : (r : ℕ) → get_or first r None ≡ None → (a : ℕ) → a < i → get_or names a 0 ≢ r
  pub leads : (a : ℕ) → a < i → (get_or leaders a 0 ≤ a) × (get_or names (get_or leaders a 0) 0 ≡ get_or names a 0) × ((b : ℕ) → b < get_or leaders a 0 → get_or names b 0 ≢ get_or names a 0)

-- At first there is none.
pub first-begins : (names : List ℕ) (first : List (Option ℕ)) → length first ≡ length names → ((r : ℕ) → get_or first r None ≡ None) → AreFirstSoFar names first [] 0
first-begins names first size h = record {
  size = refl;
  table = size;
  some = λ r l e. absurd (none_some r l (h r) e);
  none = λ r e a low. absurd (omega (arith, low));
  leads = λ a low. absurd (omega (arith, low));
}
  where
    none_some : (r l : ℕ) → get_or first r None ≡ None → get_or first r None ≡ Some l → ⊥
    none_some r l e f = cc

-- With one more node, the table and the leaders stay right.
pub first-goes_on : (names : List ℕ) (first after : List (Option ℕ)) (leaders : List ℕ) (i name leader : ℕ) → i < length names → name < length first → name ≡ get_or names i 0
    → AreFirstSoFar names first leaders i → ◌≡◌ {A = List (Option ℕ) × ℕ} (after, leader) (first_with name i first) → AreFirstSoFar names after (leaders ++ leader ∷ []) (i + 1)
first-goes_on names first after leaders i name leader low in_table at f e = go (get_or first name None) refl
  where
    -- The table and the leader after a node are these, if the leader is right.
    with_leader : (next : List (Option ℕ)) (l : ℕ) → ◌≡◌ {A = List (Option ℕ) × ℕ} (after, leader) (next, l)
        → length next ≡ length names
        → ((r k : ℕ) → get_or next r None ≡ Some k → (k < i + 1) × (get_or names k 0 ≡ r) × ((a : ℕ) → a < k → get_or names a 0 ≢ r))
        → ((r : ℕ) → get_or next r None ≡ None → (a : ℕ) → a < i + 1 → get_or names a 0 ≢ r)
        → (l ≤ i) × (get_or names l 0 ≡ get_or names i 0) × ((b : ℕ) → b < l → get_or names b 0 ≢ get_or names i 0)
        → AreFirstSoFar names after (leaders ++ leader ∷ []) (i + 1)
    with_leader next l same size some none now = subst (λ (x : List (Option ℕ) × ℕ). AreFirstSoFar names x.0 (leaders ++ x.1 ∷ []) (i + 1)) (sym same) (record {
      size = omega (arith, length-append leaders (l ∷ []), f.size);
      table = size;
      some = some;
      none = none;
      leads = λ a within. leads a within (cases_lt a i);
    })
      where
        leads : (a : ℕ) → a < i + 1 → (a < i) ⊎ (i ≤ a) → (get_or (leaders ++ l ∷ []) a 0 ≤ a) × (get_or names (get_or (leaders ++ l ∷ []) a 0) 0 ≡ get_or names a 0) × ((b : ℕ) → b < get_or (leaders ++ l ∷ []) a 0 → get_or names b 0 ≢ get_or names a 0)
        leads a within (inl before) = rw (get_or_append_left leaders (l ∷ []) 0 a (omega (arith, f.size))) (f.leads a before)
        leads a within (inr here) =
            let is : a ≡ i = omega arith in
            let new : get_or (leaders ++ l ∷ []) a 0 ≡ l = ap (λ (k : ℕ). get_or (leaders ++ l ∷ []) k 0) (is ∙ sym f.size) ∙ get_or_push leaders l 0 (length leaders) refl in
            rw new (rw is now)

    go : (v : Option ℕ) → get_or first name None ≡ v → AreFirstSoFar names after (leaders ++ leader ∷ []) (i + 1)
    go (Some l) h =
        let was = f.some name l h in
        with_leader first l (e ∙ ap (λ (x : Option ℕ). first_in x name i first) h) f.table
        (λ r k k_first. let old = f.some r k k_first in (omega (arith, old.0), old.1, old.2))
        (λ r r_none a within. not_here r r_none a within (cases_lt a i))
        (omega (arith, was.0), was.1 ∙ at, λ b below clash. was.2 b below (clash ∙ sym at))
      where
        not_here : (r : ℕ) → get_or first r None ≡ None → (a : ℕ) → a < i + 1 → (a < i) ⊎ (i ≤ a) → get_or names a 0 ≢ r
        not_here r r_none a within (inl before) clash = f.none r r_none a before clash
        not_here r r_none a within (inr here) clash = absurd (different (sym r_none ∙ (ap (λ (x : ℕ). get_or first x None) (sym clash ∙ (ap (λ (k : ℕ). get_or names k 0) (omega arith) ∙ sym at)) ∙ h)))
          where
            different : None ≡ Some l → ⊥
            different x = cc
    go None h =
        with_leader (set first name (Some i)) i (e ∙ ap (λ (x : Option ℕ). first_in x name i first) h) (length-set first name (Some i) ∙ f.table)
        (λ r k k_first. some r k k_first (decided r name))
        (λ r r_none a within. none r r_none a within (decided r name) (cases_lt a i))
        (omega arith, refl, λ b below clash. f.none name h b below (clash ∙ sym at))
      where
        some : (r k : ℕ) → get_or (set first name (Some i)) r None ≡ Some k → Decided r name → (k < i + 1) × (get_or names k 0 ≡ r) × ((a : ℕ) → a < k → get_or names a 0 ≢ r)
        some r k k_first (inl (test, same)) =
            let is : i ≡ k = some_same (sym (ap (λ (x : ℕ). get_or (set first name (Some i)) x None) same ∙ get_or-set_same first name (Some i) None in_table) ∙ k_first) in
            rw (sym is) (omega arith, sym at ∙ sym same, λ a below clash. f.none name h a below (clash ∙ same))
          where
            some_same : Some i ≡ Some k → i ≡ k
            some_same x = cc
        some r k k_first (inr (test, other)) =
            let old = f.some r k (sym (get_or-set_other first name r (Some i) None other) ∙ k_first) in
            (omega (arith, old.0), old.1, old.2)

        none : (r : ℕ) → get_or (set first name (Some i)) r None ≡ None → (a : ℕ) → a < i + 1 → Decided r name → (a < i) ⊎ (i ≤ a) → get_or names a 0 ≢ r
        none r r_none a within (inl (test, same)) k clash = absurd (different (sym (ap (λ (x : ℕ). get_or (set first name (Some i)) x None) same ∙ get_or-set_same first name (Some i) None in_table) ∙ r_none))
          where
            different : Some i ≡ None → ⊥
            different x = cc
        none r r_none a within (inr (test, other)) (inl before) clash = f.none r (sym (get_or-set_other first name r (Some i) None other) ∙ r_none) a before clash
        none r r_none a within (inr (test, other)) (inr here) clash = other (sym clash ∙ (ap (λ (k : ℕ). get_or names k 0) (omega arith) ∙ sym at))

-- After all nodes, the leaders are the first nodes of the names.
pub first-ends : (names : List ℕ) (first : List (Option ℕ)) (leaders : List ℕ) (i : ℕ) → i ≡ length names → AreFirstSoFar names first leaders i → AreFirst names leaders
first-ends names first leaders i all f = record {
  size = f.size ∙ all;
  within = λ a low. let l = f.leads a (omega arith) in omega (arith, l.0);
  alike = λ a low. (f.leads a (omega arith)).1;
  least = λ a b low_a low_b same. least a b low_a same (cases_lt b (get_or leaders a 0));
}
  where
    least : (a b : ℕ) → a < length names → get_or names b 0 ≡ get_or names a 0 → (b < get_or leaders a 0) ⊎ (get_or leaders a 0 ≤ b) → get_or leaders a 0 ≤ b
    least a b low same (inl below) = absurd ((f.leads a (omega arith)).2 b below same)
    least a b low same (inr fine) = fine

-- The first node of each name is the least node of the component.
pub leaders-are : (Edge : ℕ → ℕ → Type 0) (n : ℕ) (names leaders : List ℕ) → AreClassNames Edge n names → AreFirst names leaders → AreLeaders Edge n leaders
leaders-are Edge n names leaders m f = record {
  size = f.size ∙ m.size;
  within = λ a low. omega (arith, f.within a (omega (arith, m.size)), m.size);
  own = λ a low. own a low;
  same = λ a b low_a low_b k. same a b low_a low_b (m.same a b low_a k);
  least = λ a b low_a low_b k. f.least a b (omega (arith, m.size)) (omega (arith, m.size)) (m.same a b low_a k);
}
  where
    own : (a : ℕ) → a < n → IsMutual Edge a (get_or leaders a 0)
    own a low =
        let l = get_or leaders a 0 in
        let in_names : l < n = omega (arith, f.within a (omega (arith, m.size)), m.size) in
        let to_name : IsMutual Edge l (get_or names a 0) = subst (λ (x : ℕ). IsMutual Edge l x) (f.alike a (omega (arith, m.size))) (m.own l in_names) in
        mutual-join Edge a (get_or names a 0) l (m.own a low) (mutual-turned Edge l (get_or names a 0) to_name)

    same : (a b : ℕ) → a < n → b < n → get_or names b 0 ≡ get_or names a 0 → get_or leaders a 0 ≡ get_or leaders b 0
    same a b low_a low_b e =
        let in_a : a < length names = omega (arith, m.size) in
        let in_b : b < length names = omega (arith, m.size) in
        let one = f.least a (get_or leaders b 0) in_a (f.within b in_b) (f.alike b in_b ∙ e) in
        let two = f.least b (get_or leaders a 0) in_b (f.within a in_a) (f.alike a in_a ∙ sym e) in
        omega (arith, one, two)

-- If the components of all nodes are known, their names are those of all nodes.
pub names-are : (Edge : ℕ → ℕ → Type 0) (n : ℕ) (colors names roots : List ℕ) → length names ≡ n → ((a : ℕ) → a < n → Contains roots a) → TakesAll Edge colors names roots → AreClassNames Edge n names
names-are Edge n colors names roots size all t = record {
  size = size;
  same = λ a b low m. (t.classes.whole a b (t.known a (all a low)) m).1;
  own = λ a low. t.classes.named a (t.known a (all a low));
}

-- A name is one of the nodes.
pub names-within : (Edge : ℕ → ℕ → Type 0) (n : ℕ) (names : List ℕ) → ((a b : ℕ) → Edge a b → b < n) → AreClassNames Edge n names → All (λ name. name < length names) names
names-within Edge n names within m =
    subst (λ (k : ℕ). All (λ name. name < k) names) (sym m.size)
    (All-from_get_or (λ (name : ℕ). name < n) names 0 (λ a low. path-within Edge n within a (get_or names a 0) (omega (arith, m.size)) (m.own a (omega (arith, m.size))).onward))
