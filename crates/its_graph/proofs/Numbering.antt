-- Numbers of components, and how they decide whether there is a cycle.
use Rattle.std.proofs.Common.{◌≡◌, ◌↔◌, ◌⊎◌, inl, inr, ℕ, zero, suc, ◌+◌, ◌<◌, ◌≤◌, List, [], ◌∷◌, ◌++◌, length, map}
use Rattle.std.proofs.Common.{take, drop, Contains, Vec, get_or, Some, None, refl, sym, ◌∙◌, ap, subst, arith}
use Rattle.std.specs.Prelude.{slice_get}
use Rattle.std.specs.List.{All}
use Rattle.std.specs.declared.alloc.Global.{Global}
use Rattle.std.proofs.lemmas.Bool.{cases_lt}
use Rattle.std.proofs.lemmas.List.{take-append-drop, drop_more, length-take, get_or-take, get_or_default, length-map}
use Rattle.std.proofs.lemmas.List.Elements.{All-from_get_or, Contains-get_or, All-map}
use Rattle.model.specs.Programs as plain
use Rattle.model.specs.Programs.{rule_at}
use Rattle.model.specs.Paths.{HasEdge, any_rule, HasCycle}
use Rattle.its_model.specs.declared.program.Program.{Program}
use Rattle.its_model.specs.declared.program.Rule.{Rule}
use Rattle.its_model.specs.Views.{program_of, rule_of}
use Rattle.its_graph.specs.Groups.{values_in, items_of, IsPair}
use Rattle.its_graph.specs.Components.{IsMutual, IsListed, IsNext, IsListing}
use Rattle.its_graph.specs.Links.{ends_of, link_of, LeadBelow}
use Rattle.its_graph.specs.Naming.{named}
use Rattle.its_graph.specs.Numbers.{AreApart, AreNumbers, HasInside}
use Rattle.its_graph.proofs.Naming.{named-each, named-others}
use Rattle.its_graph.proofs.PairLists.{Pair, same_pair, pair-later, pair-within}
use Rattle.its_graph.proofs.Routes.{path-map, path-within, mutual-turned, mutual-join, one_edge}
use Rattle.its_graph.proofs.Membership.{lists-at as component-at}

-- The nodes of one more component get its number.
pub number-more : (components : List (Vec ℕ Global)) (numbers : List ℕ) (i : ℕ) → AreApart (length numbers) components
    → ((k b : ℕ) → k < i → Contains (values_in components k) b → get_or numbers b 0 ≡ k)
    → (k b : ℕ) → k < i + 1 → Contains (values_in components k) b → get_or (named i (values_in components i) numbers) b 0 ≡ k
number-more components numbers i a h k b low among = go (cases_lt k i)
  where
    within : All (λ (x : ℕ). x < length numbers) (values_in components i)
    within = All-from_get_or (λ (x : ℕ). x < length numbers) (values_in components i) 0 (λ j inside. a.within i (get_or (values_in components i) j 0) (Contains-get_or (values_in components i) j 0 inside))

    go : (k < i) ⊎ (i ≤ k) → get_or (named i (values_in components i) numbers) b 0 ≡ k
    go (inr here) =
        let same : k ≡ i = omega arith in
        named-each i (values_in components i) numbers b within (subst (λ (j : ℕ). Contains (values_in components j) b) same among) ∙ sym same
    go (inl before) = kept (named-others i (values_in components i) numbers b)
      where
        kept : (get_or (named i (values_in components i) numbers) b 0 ≡ get_or numbers b 0) ⊎ Contains (values_in components i) b → get_or (named i (values_in components i) numbers) b 0 ≡ k
        kept (inl e) = e ∙ h k b before among
        kept (inr inside) = absurd (omega (arith, a.apart k i b among inside))

-- The nodes of a component are below n.
pub component-within : (n : ℕ) (components : List (Vec ℕ Global)) (i : ℕ) → AreApart n components → All (λ b. b < n) (values_in components i)
component-within n components i a = All-from_get_or (λ (x : ℕ). x < n) (values_in components i) 0 (λ j inside. a.within i (get_or (values_in components i) j 0) (Contains-get_or (values_in components i) j 0 inside))

-- Only a component of the list has a node.
pub values-past : (lists : List (Vec ℕ Global)) (k b : ℕ) → Contains (values_in lists k) b → k < length lists
values-past [] k b (j, low, e) = absurd (omega arith)
values-past (v ∷ lists) zero b h = omega arith
values-past (v ∷ lists) (suc k) b h = omega (arith, values-past lists k b h)

module _ (Edge : ℕ → ℕ → Type 0) (n : ℕ) (lists : List (Vec ℕ Global)) (edges_within : (a b : ℕ) → Edge a b → b < n) (l : IsListing Edge n (map items_of lists)) where
  -- Each component comes next after those before it.
  next-at : (k : ℕ) → k < length lists → IsNext Edge n (take k (map items_of lists)) (values_in lists k)
  next-at k low =
      let cs = map items_of lists in
      let in_cs : k < length cs = omega (arith, length-map lists items_of) in
      let whole : cs ≡ take k cs ++ get_or cs k [] ∷ drop (k + 1) cs = sym (take-append-drop k cs) ∙ ap (λ (xs : List (List ℕ)). take k cs ++ xs) (drop_more cs k [] in_cs) in
      subst (λ (c : List ℕ). IsNext Edge n (take k cs) c) (component-at lists k low) (l.each (take k cs) (drop (k + 1) cs) (get_or cs k []) whole)

  -- Two nodes of a component are mutual.
  pub same-component : (k a b : ℕ) → Contains (values_in lists k) a → Contains (values_in lists k) b → IsMutual Edge a b
  same-component k a b ha hb =
      let next = next-at k (values-past lists k a ha) in
      mutual-join Edge a next.least b (mutual-turned Edge next.least a ((next.members a).0 ha)) ((next.members b).0 hb)

  -- A node that is mutual with one of a component is in it.
  pub mutual-inside : (k a b : ℕ) → Contains (values_in lists k) a → IsMutual Edge a b → Contains (values_in lists k) b
  mutual-inside k a b ha m = let next = next-at k (values-past lists k a ha) in (next.members b).1 (mutual-join Edge next.least a b ((next.members a).0 ha) m)

  -- Of two components in the list, the later one has no node of the earlier one.
  none-before : (j k b : ℕ) → j < k → Contains (values_in lists j) b → Contains (values_in lists k) b → ⊥
  none-before j k b low hj hk =
      let next = next-at k (values-past lists k b hk) in
      let cs = map items_of lists in
      let in_j : Contains (values_in lists j) next.least = mutual-inside j b next.least hj (mutual-turned Edge next.least b ((next.members b).0 hk)) in
      let in_lists : j < length lists = values-past lists j b hj in
      next.ready.unlisted (record {
        component = values_in lists j;
        listed = (j, omega (arith, length-take k cs, length-map lists items_of, values-past lists k b hk), get_or-take k cs j (values_in lists j) low ∙ (get_or_default cs j (values_in lists j) [] (omega (arith, length-map lists items_of)) ∙ component-at lists j in_lists));
        member = in_j;
      })

  -- No two components have a node in common.
  pub apart : AreApart n lists
  apart = record { within = within; apart = one }
    where
      within : (k b : ℕ) → Contains (values_in lists k) b → b < n
      within k b h = let next = next-at k (values-past lists k b h) in path-within Edge n edges_within next.least b next.ready.node ((next.members b).0 h).onward

      one : (j k b : ℕ) → Contains (values_in lists j) b → Contains (values_in lists k) b → j ≡ k
      one j k b hj hk = go (cases_lt j k) (cases_lt k j)
        where
          go : (j < k) ⊎ (k ≤ j) → (k < j) ⊎ (j ≤ k) → j ≡ k
          go (inl low) h = absurd (none-before j k b low hj hk)
          go (inr low) (inl high) = absurd (none-before k j b high hk hj)
          go (inr low) (inr high) = omega arith

  -- Each node is in a component of some number.
  pub numbered-node : (a : ℕ) → a < n → (k : ℕ) × Contains (values_in lists k) a
  numbered-node a low = go (l.all a low)
    where
      go : IsListed (map items_of lists) a → (k : ℕ) × Contains (values_in lists k) a
      go h = position h.listed
        where
          position : Contains (map items_of lists) h.component → (k : ℕ) × Contains (values_in lists k) a
          position (k, inside, e) =
              let in_lists : k < length lists = omega (arith, length-map lists items_of) in
              (k, subst (λ (c : List ℕ). Contains c a) (sym (sym (component-at lists k in_lists) ∙ (get_or_default (map items_of lists) k [] h.component inside ∙ e))) h.member)

  -- Nodes have the same number exactly if they are mutual.
  pub same-number : (numbers : List ℕ) → AreNumbers lists numbers → (a b : ℕ) → a < n → b < n → (get_or numbers a 0 ≡ get_or numbers b 0) ↔ IsMutual Edge a b
  same-number numbers h a b la lb = (λ e. back e, λ m. same m)
    where
      ka : (k : ℕ) × Contains (values_in lists k) a
      ka = numbered-node a la

      kb : (k : ℕ) × Contains (values_in lists k) b
      kb = numbered-node b lb

      back : get_or numbers a 0 ≡ get_or numbers b 0 → IsMutual Edge a b
      back e =
          let is : ka.0 ≡ kb.0 = sym (h ka.0 a ka.1) ∙ (e ∙ h kb.0 b kb.1) in
          same-component kb.0 a b (subst (λ (k : ℕ). Contains (values_in lists k) a) is ka.1) kb.1

      same : IsMutual Edge a b → get_or numbers a 0 ≡ get_or numbers b 0
      same m = h ka.0 a ka.1 ∙ sym (h ka.0 b (mutual-inside ka.0 a b ka.1 m))

-- An edge of a program is one of its links.
pub edge-pair : (p : plain.Program) (a b : ℕ) → HasEdge p any_rule a b ↔ IsPair (map ends_of p.rules) a b
edge-pair p a b = (λ h. onward h.number h.rule h.numbered h.source h.target, λ h. back h)
  where
    onward : (t : ℕ) (r : plain.Rule) → rule_at p t ≡ Some r → r.source ≡ a → r.target ≡ b → IsPair (map ends_of p.rules) a b
    onward zero r e source target = absurd (none_some e)
      where
        none_some : None ≡ Some r → ⊥
        none_some x = cc
    onward (suc t) r e source target = listed p.rules t e
      where
        listed : (rules : List plain.Rule) (t : ℕ) → slice_get rules t ≡ Some r → Contains (map ends_of rules) (a, b)
        listed [] t e = absurd (none_some e)
          where
            none_some : None ≡ Some r → ⊥
            none_some x = cc
        listed (q ∷ rules) zero e =
            let same : q ≡ r = cc in
            (zero, omega arith, same_pair (ends_of q) a b (ap (λ (s : plain.Rule). s.source) same ∙ source) (ap (λ (s : plain.Rule). s.target) same ∙ target))
        listed (q ∷ rules) (suc t) e = pair-later (ends_of q) (map ends_of rules) (a, b) (listed rules t e)

    back : IsPair (map ends_of p.rules) a b → HasEdge p any_rule a b
    back (k, low, e) = found p.rules k (omega (arith, length-map p.rules ends_of)) e
      where
        found : (rules : List plain.Rule) (k : ℕ) → k < length rules → get_or (map ends_of rules) k (a, b) ≡ (a, b) → HasEdge (record p { rules = rules }) any_rule a b
        found [] k low e = absurd (omega arith)
        found (q ∷ rules) zero low e = record { number = 1; rule = q; numbered = refl; allowed = refl; source = ap (λ (x : Pair). x.0) e; target = ap (λ (x : Pair). x.1) e }
        found (q ∷ rules) (suc k) low e = later (found rules k (omega arith) e)
          where
            later : HasEdge (record p { rules = rules }) any_rule a b → HasEdge (record p { rules = q ∷ rules }) any_rule a b
            later h = go h.number h.numbered
              where
                go : (t : ℕ) → rule_at (record p { rules = rules }) t ≡ Some h.rule → HasEdge (record p { rules = q ∷ rules }) any_rule a b
                go zero x = absurd (none_some x)
                  where
                    none_some : None ≡ Some h.rule → ⊥
                    none_some y = cc
                go (suc t) x = record { number = suc (suc t); rule = h.rule; numbered = x; allowed = refl; source = h.source; target = h.target }

-- The links of the code's rules are those of the rules as plain data.
pub links-ends : (rules : List Rule) → map link_of rules ≡ map ends_of (map rule_of rules)
links-ends [] = refl
links-ends (r ∷ rules) = ap (λ (xs : List Pair). link_of r ∷ xs) (links-ends rules)

-- The edges of a program of the code are its links.
pub edge-link : (p : Program) (a b : ℕ) → HasEdge (program_of p) any_rule a b ↔ IsPair (map link_of p.rules.items) a b
edge-link p a b = subst (λ (es : List Pair). HasEdge (program_of p) any_rule a b ↔ IsPair es a b) (sym (links-ends p.rules.items)) (edge-pair (program_of p) a b)

-- The ends of links of rules whose symbols are below n are below n.
pub links-within : (n : ℕ) (rules : List Rule) → LeadBelow n rules → All (λ (e : Pair). (e.0 < n) × (e.1 < n)) (map link_of rules)
links-within n rules h = All-map (λ (e : Pair). (e.0 < n) × (e.1 < n)) link_of rules h

-- A program has a cycle exactly if some link leads to a node of the same component.
pub cycle-inside : (p : Program) (n : ℕ) (lists : List (Vec ℕ Global)) (numbers : List ℕ) → LeadBelow n p.rules.items
    → IsListing (IsPair (map link_of p.rules.items)) n (map items_of lists) → AreNumbers lists numbers
    → HasInside numbers (map link_of p.rules.items) ↔ HasCycle (program_of p)
cycle-inside p n lists numbers below l h = (λ inside. cycle inside, λ c. inside c)
  where
    links : List Pair
    links = map link_of p.rules.items

    within : (a b : ℕ) → IsPair (map link_of p.rules.items) a b → (a < n) × (b < n)
    within a b e = pair-within n (map link_of p.rules.items) a b (links-within n p.rules.items below) e

    cycle : HasInside numbers (map link_of p.rules.items) → HasCycle (program_of p)
    cycle i =
        let both = within i.from i.to i.link in
        let m = (same-number (IsPair (map link_of p.rules.items)) n lists (λ a b e. (within a b e).1) l numbers h i.from i.to both.0 both.1).0 i.same in
        record {
          from = i.from;
          to = i.to;
          edge = (edge-link p i.from i.to).1 i.link;
          back = path-map (IsPair (map link_of p.rules.items)) (HasEdge (program_of p) any_rule) (λ a b. (edge-link p a b).1) i.to i.from m.back;
        }

    inside : HasCycle (program_of p) → HasInside numbers (map link_of p.rules.items)
    inside c =
        let link = (edge-link p c.from c.to).0 c.edge in
        let both = within c.from c.to link in
        let back = path-map (HasEdge (program_of p) any_rule) (IsPair (map link_of p.rules.items)) (λ a b. (edge-link p a b).0) c.to c.from c.back in
        record {
          from = c.from;
          to = c.to;
          link = link;
          same = (same-number (IsPair (map link_of p.rules.items)) n lists (λ a b e. (within a b e).1) l numbers h c.from c.to both.0 both.1).1 (record { onward = one_edge (IsPair (map link_of p.rules.items)) c.from c.to link; back = back });
        }
