-- The component of an unknown node: the nodes that lead to it, among those to which it leads.
use Rattle.std.proofs.Common.{◌≡◌, ℕ, ◌<◌, List, [], length, Contains, refl, sym, ◌∙◌, subst, inl, inr, ◌⊎◌, arith}
use Rattle.std.proofs.Common.{get_or, Vec}
use Rattle.std.specs.declared.alloc.Global.{Global}
use Rattle.model.specs.Paths.{Path, Here, Onward}
use Rattle.its_graph.specs.declared.flood.TheConstants.{UNKNOWN, CANDIDATE, KNOWN}
use Rattle.its_graph.specs.Groups.{Joins}
use Rattle.its_graph.specs.Floods.{EdgeTo, Fills}
use Rattle.its_graph.specs.Components.{IsMutual}
use Rattle.its_graph.specs.Classes.{AreTables, AreClasses, Takes}
use Rattle.its_graph.proofs.Elements.{none_in_empty}
use Rattle.its_graph.proofs.PaintedNodes.{Paints}
use Rattle.its_graph.proofs.Routes.{edge_then, path-map, turned, mutual-turned, mutual-join}

-- The floods of one component: before and after both, and after the candidates that aren't in it are unknown again.
pub record AreFloods (n : ℕ) (next previous : List (Vec ℕ Global)) (before first second third names : List ℕ) (root : ℕ) (candidates class again : List ℕ) : Type 0 where
  pub tables : AreTables n next previous
  pub root_unknown : get_or before root 0 ≡ UNKNOWN
  pub classes : AreClasses (Joins next) before names
  pub leading : Fills (Joins previous) before first root UNKNOWN CANDIDATE candidates
  pub among : Fills (Joins next) first second root CANDIDATE KNOWN class
  pub rest : Paints CANDIDATE UNKNOWN candidates (record { colors = second; found = [] }) (record { colors = third; found = again })

module _ (n : ℕ) (next previous : List (Vec ℕ Global)) (before first second third names : List ℕ) (root : ℕ) (candidates class again : List ℕ)
    (f : AreFloods n next previous before first second third names root candidates class again) where
  -- The edges of the graph.
  abbrev Edge : ℕ → ℕ → Type 0
  Edge = Joins next

  -- The three colours differ.
  unknown-known : (x : ℕ) → x ≡ UNKNOWN → x ≡ KNOWN → ⊥
  unknown-known x e k = omega arith

  unknown-candidate : (x : ℕ) → x ≡ UNKNOWN → x ≡ CANDIDATE → ⊥
  unknown-candidate x e k = omega arith

  known-candidate : (x : ℕ) → x ≡ KNOWN → x ≡ CANDIDATE → ⊥
  known-candidate x e k = omega arith

  -- The nodes of the root's component are unknown before.
  mutual-unknown : (b : ℕ) → IsMutual Edge root b → get_or before b 0 ≡ UNKNOWN
  mutual-unknown b m = go (f.classes.decided b)
    where
      go : (get_or before b 0 ≡ UNKNOWN) ⊎ (get_or before b 0 ≡ KNOWN) → get_or before b 0 ≡ UNKNOWN
      go (inl e) = e
      go (inr e) = absurd (unknown-known (get_or before root 0) f.root_unknown (f.classes.whole b root e (mutual-turned Edge root b m)).0)

  -- A node that leads to the root and is reached from it is reached against the edges through unknown nodes.
  back_path : (x : ℕ) → Path (Joins previous) root x → Path Edge root x → Path (EdgeTo (Joins previous) before UNKNOWN) root x
  back_path x (Here e) onward = Here e
  back_path x (Onward {b = y} p edge) onward =
      let step : Edge x y = (f.tables.opposite x y).1 edge in
      let to_root : Path Edge y root = turned (Joins previous) Edge (λ a b. (f.tables.opposite b a).1) root y p in
      Onward (back_path y p (Onward onward step)) (edge, mutual-unknown x (record { onward = onward; back = edge_then Edge x y root step to_root }))

  -- The component of the root is among the candidates.
  mutual-candidate : (b : ℕ) → IsMutual Edge root b → Contains candidates b
  mutual-candidate b m = (f.leading.reached b).1 (back_path b (turned Edge (Joins previous) (λ x y. (f.tables.opposite x y).0) b root m.back) m.onward)

  -- A candidate leads to the root.
  candidate-leads : (b : ℕ) → Contains candidates b → Path Edge b root
  candidate-leads b h =
      turned (Joins previous) Edge (λ x y. (f.tables.opposite y x).1) root b
      (path-map (EdgeTo (Joins previous) before UNKNOWN) (Joins previous) (λ x y e. e.0) root b ((f.leading.reached b).0 h))

  -- A node of the root's component is reached from the root through candidates.
  onward_path : (x : ℕ) → Path Edge root x → Path Edge x root → Path (EdgeTo Edge first CANDIDATE) root x
  onward_path x (Here e) back = Here e
  onward_path x (Onward {b = y} p edge) back =
      Onward (onward_path y p (edge_then Edge y x root edge back)) (edge, f.leading.are x (mutual-candidate x (record { onward = Onward p edge; back = back })))

  -- The root's component is among the nodes found second.
  pub mutual-class : (b : ℕ) → IsMutual Edge root b → Contains class b
  mutual-class b m = (f.among.reached b).1 (onward_path b m.onward m.back)

  -- A node of the candidates' colour is a candidate.
  colored-candidate : (b : ℕ) → get_or first b 0 ≡ CANDIDATE → Contains candidates b
  colored-candidate b e = go (f.leading.others b) (f.classes.decided b)
    where
      go : (get_or first b 0 ≡ get_or before b 0) ⊎ Contains candidates b → (get_or before b 0 ≡ UNKNOWN) ⊎ (get_or before b 0 ≡ KNOWN) → Contains candidates b
      go (inr h) k = h
      go (inl same) (inl k) = absurd (unknown-candidate (get_or first b 0) (same ∙ k) e)
      go (inl same) (inr k) = absurd (known-candidate (get_or first b 0) (same ∙ k) e)

  -- A node found second is a candidate.
  class-candidate : (b : ℕ) → Contains class b → Contains candidates b
  class-candidate b h = colored-candidate b (f.among.were b h).1

  -- A node found second is mutual with the root.
  pub class-mutual : (b : ℕ) → Contains class b → IsMutual Edge root b
  class-mutual b h = record {
    onward = path-map (EdgeTo Edge first CANDIDATE) Edge (λ x y e. e.0) root b ((f.among.reached b).0 h);
    back = candidate-leads b (class-candidate b h);
  }

  -- A node found second was unknown.
  class-unknown : (b : ℕ) → Contains class b → get_or before b 0 ≡ UNKNOWN
  class-unknown b h = (f.leading.were b (class-candidate b h)).1

  -- Only candidates become unknown again.
  again-candidate : (b : ℕ) → Contains again b → get_or second b 0 ≡ CANDIDATE
  again-candidate b h = go (f.rest.only b h)
    where
      go : Contains [] b ⊎ (Contains candidates b × (b < length second) × (get_or second b 0 ≡ CANDIDATE)) → get_or second b 0 ≡ CANDIDATE
      go (inl none) = absurd (none_in_empty b none)
      go (inr (k, low, e)) = e

  -- Nodes that become unknown again are unknown in the third list.
  again-unknown : (b : ℕ) → Contains again b → get_or third b 0 ≡ UNKNOWN
  again-unknown b h = go (f.rest.newly b h)
    where
      go : Contains [] b ⊎ (get_or third b 0 ≡ UNKNOWN) → get_or third b 0 ≡ UNKNOWN
      go (inl none) = absurd (none_in_empty b none)
      go (inr e) = e

  -- The component is known at the end.
  class-known : (b : ℕ) → Contains class b → get_or third b 0 ≡ KNOWN
  class-known b h = go (f.rest.others b)
    where
      go : (get_or third b 0 ≡ get_or second b 0) ⊎ Contains again b → get_or third b 0 ≡ KNOWN
      go (inl same) = same ∙ f.among.are b h
      go (inr k) = absurd (known-candidate (get_or second b 0) (f.among.are b h) (again-candidate b k))

  -- All other nodes are as they were.
  at_end : (b : ℕ) → Contains class b ⊎ (get_or third b 0 ≡ get_or before b 0)
  at_end b = go (f.among.others b) (f.leading.others b) (f.rest.others b)
    where
      go : (get_or second b 0 ≡ get_or first b 0) ⊎ Contains class b → (get_or first b 0 ≡ get_or before b 0) ⊎ Contains candidates b → (get_or third b 0 ≡ get_or second b 0) ⊎ Contains again b
          → Contains class b ⊎ (get_or third b 0 ≡ get_or before b 0)
      go (inr h) k l = inl h
      go (inl e) (inr h) l = inr (again-unknown b (f.rest.each b h (e ∙ f.leading.are b h)) ∙ sym (f.leading.were b h).1)
      go (inl e) (inl e') (inl e'') = inr (e'' ∙ (e ∙ e'))
      go (inl e) (inl e') (inr h) = decided (f.classes.decided b)
        where
          candidate_before : get_or before b 0 ≡ CANDIDATE
          candidate_before = sym (e ∙ e') ∙ again-candidate b h

          decided : (get_or before b 0 ≡ UNKNOWN) ⊎ (get_or before b 0 ≡ KNOWN) → Contains class b ⊎ (get_or third b 0 ≡ get_or before b 0)
          decided (inl k) = absurd (unknown-candidate (get_or before b 0) k candidate_before)
          decided (inr k) = absurd (known-candidate (get_or before b 0) k candidate_before)

  -- With the root's name for the component, and the names before for all others, the component has been taken.
  pub takes : (after : List ℕ) → ((b : ℕ) → Contains class b → get_or after b 0 ≡ root) → ((b : ℕ) → (get_or after b 0 ≡ get_or names b 0) ⊎ Contains class b) → Takes Edge before third after root
  takes after of_class of_others = record {
    classes = record { decided = λ a. decided a (at_end a) (f.classes.decided a); whole = λ a b k m. whole a b k m (at_end a); named = λ a k. own a k (at_end a) };
    root_known = class-known root (mutual-class root (record { onward = Here refl; back = Here refl }));
    kept = λ a k. kept a k (at_end a);
  }
    where
      decided : (a : ℕ) → Contains class a ⊎ (get_or third a 0 ≡ get_or before a 0) → (get_or before a 0 ≡ UNKNOWN) ⊎ (get_or before a 0 ≡ KNOWN) → (get_or third a 0 ≡ UNKNOWN) ⊎ (get_or third a 0 ≡ KNOWN)
      decided a (inl h) k = inr (class-known a h)
      decided a (inr e) (inl k) = inl (e ∙ k)
      decided a (inr e) (inr k) = inr (e ∙ k)

      kept : (a : ℕ) → get_or before a 0 ≡ KNOWN → Contains class a ⊎ (get_or third a 0 ≡ get_or before a 0) → get_or third a 0 ≡ KNOWN
      kept a k (inl h) = class-known a h
      kept a k (inr e) = e ∙ k

      -- A node that was known keeps its name.
      same_name : (a : ℕ) → get_or before a 0 ≡ KNOWN → (get_or after a 0 ≡ get_or names a 0) ⊎ Contains class a → get_or after a 0 ≡ get_or names a 0
      same_name a k (inl e) = e
      same_name a k (inr h) = absurd (unknown-known (get_or before a 0) (class-unknown a h) k)

      whole : (a b : ℕ) → get_or third a 0 ≡ KNOWN → IsMutual Edge a b → Contains class a ⊎ (get_or third a 0 ≡ get_or before a 0) → (get_or third b 0 ≡ KNOWN) × (get_or after b 0 ≡ get_or after a 0)
      whole a b k m (inl h) =
          let in_class = mutual-class b (mutual-join Edge root a b (class-mutual a h) m) in
          (class-known b in_class, of_class b in_class ∙ sym (of_class a h))
      whole a b k m (inr e) =
          let was : get_or before a 0 ≡ KNOWN = sym e ∙ k in
          let other = f.classes.whole a b was m in
          (kept b other.0 (at_end b), same_name b other.0 (of_others b) ∙ (other.1 ∙ sym (same_name a was (of_others a))))

      own : (a : ℕ) → get_or third a 0 ≡ KNOWN → Contains class a ⊎ (get_or third a 0 ≡ get_or before a 0) → IsMutual Edge a (get_or after a 0)
      own a k (inl h) = subst (λ (x : ℕ). IsMutual Edge a x) (sym (of_class a h)) (mutual-turned Edge root a (class-mutual a h))
      own a k (inr e) =
          let was : get_or before a 0 ≡ KNOWN = sym e ∙ k in
          subst (λ (x : ℕ). IsMutual Edge a x) (sym (same_name a was (of_others a))) (f.classes.named a was)
