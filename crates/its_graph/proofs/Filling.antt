-- The state of a flood: the nodes found are reached, and every node reached from a visited node was found.
use Rattle.std.proofs.Common.{◌≡◌, ◌≢◌, ℕ, ◌+◌, ◌<◌, ◌≤◌, List, [], ◌∷◌, length, All, Contains, refl, sym, ◌∙◌, ap}
use Rattle.std.proofs.Common.{subst, inl, inr, ◌⊎◌, arith, get_or, Vec}
use Rattle.std.specs.declared.alloc.Global.{Global}
use Rattle.std.proofs.lemmas.List.Elements.{Contains-get_or, All-get_or, All-from_get_or}
use Rattle.std.proofs.lemmas.Bool.{cases_lt}
use Rattle.std.proofs.lemmas.List.{get_or_default}
use Rattle.model.specs.Paths.{Path, Here, Onward}
use Rattle.std.proofs.lemmas.Option.{slice_get_read}
use Rattle.its_graph.specs.Groups.{values_in, items_in, Joins}
use Rattle.its_graph.specs.Floods.{Painting, painted, EdgeTo, Fills}
use Rattle.its_graph.proofs.Elements.{Contains-first, only_element, none_in_empty}
use Rattle.its_graph.proofs.PaintedNodes.{Paints, color_of, paints_one}

-- The state of a flood that has visited the first i nodes found.
pub record IsFilling (Edge : ℕ → ℕ → Type 0) (before : List ℕ) (start old new : ℕ) (m : Painting) (i : ℕ) : Type 0 where
  pub size : length m.colors ≡ length before
  pub from : (x : ℕ) → Contains m.found x → Path (EdgeTo Edge before old) start x × (x < length before) × (get_or before x 0 ≡ old)
  pub are : (x : ℕ) → Contains m.found x → color_of m x ≡ new
  pub others : (x : ℕ) → (color_of m x ≡ get_or before x 0) ⊎ Contains m.found x
  pub begun : Contains m.found start
  pub done : (k : ℕ) → k < i → (b : ℕ) → Edge (get_or m.found k 0) b → get_or before b 0 ≡ old → Contains m.found b
  pub passed : i ≤ length m.found

-- At first only the start was found.
pub filling_begins : (Edge : ℕ → ℕ → Type 0) (before : List ℕ) (start old new : ℕ) (m : Painting) → new ≢ old → start < length before → get_or before start 0 ≡ old
    → m ≡ painted old new start (record { colors = before; found = [] }) → IsFilling Edge before start old new m 0
filling_begins Edge before start old new m ne low color e =
    let p : Paints old new (start ∷ []) (record { colors = before; found = [] }) m = subst (λ (n : Painting). Paints old new (start ∷ []) (record { colors = before; found = [] }) n) (sym e) (paints_one old new start (record { colors = before; found = [] }) ne low) in
    record {
      size = p.size;
      from = λ x h. from x (p.only x h);
      are = λ x h. are x (p.newly x h);
      others = p.others;
      begun = p.each start (Contains-first start []) color;
      done = λ k l. absurd (omega (arith, l));
      passed = omega arith;
    }
  where
    from : (x : ℕ) → Contains [] x ⊎ (Contains (start ∷ []) x × (x < length before) × (get_or before x 0 ≡ old)) → Path (EdgeTo Edge before old) start x × (x < length before) × (get_or before x 0 ≡ old)
    from x (inl h) = absurd (none_in_empty x h)
    from x (inr (h, below, at)) = (Here (sym (only_element start x h)), below, at)

    are : (x : ℕ) → Contains [] x ⊎ (color_of m x ≡ new) → color_of m x ≡ new
    are x (inl h) = absurd (none_in_empty x h)
    are x (inr h) = h

-- Visiting one more node keeps the state of the flood.
pub filling_goes_on : (lists : List (Vec ℕ Global)) (before : List ℕ) (start old new : ℕ) (m n : Painting) (i node : ℕ) → new ≢ old → i < length m.found → node ≡ get_or m.found i 0
    → IsFilling (Joins lists) before start old new m i → Paints old new (values_in lists node) m n → IsFilling (Joins lists) before start old new n (i + 1)
filling_goes_on lists before start old new m n i node ne low at f p = record {
  size = p.size ∙ f.size;
  from = λ x h. from x (p.only x h);
  are = λ x h. are x (p.newly x h);
  others = λ x. others x (p.others x) (f.others x);
  begun = p.kept start f.begun;
  done = λ k l b edge e. done k l b edge e (cases_lt k i);
  passed = omega (arith, p.longer);
}
  where
    is_found : Contains m.found node
    is_found = subst (λ (y : ℕ). Contains m.found y) (sym at) (Contains-get_or m.found i 0 low)

    -- A node that has the old colour now had it before.
    was_old : (x : ℕ) → color_of m x ≡ old → (color_of m x ≡ get_or before x 0) ⊎ Contains m.found x → get_or before x 0 ≡ old
    was_old x e (inl same) = sym same ∙ e
    was_old x e (inr h) = absurd (ne (sym (f.are x h) ∙ e))

    from : (x : ℕ) → Contains m.found x ⊎ (Contains (values_in lists node) x × (x < length m.colors) × (color_of m x ≡ old)) → Path (EdgeTo (Joins lists) before old) start x × (x < length before) × (get_or before x 0 ≡ old)
    from x (inl h) = f.from x h
    from x (inr (h, below, e)) =
        let old_before = was_old x e (f.others x) in
        (Onward (f.from node is_found).0 (h, old_before), omega (arith, f.size), old_before)

    are : (x : ℕ) → Contains m.found x ⊎ (color_of n x ≡ new) → color_of n x ≡ new
    are x (inl h) = p.colored x (f.are x h)
    are x (inr h) = h

    others : (x : ℕ) → (color_of n x ≡ color_of m x) ⊎ Contains n.found x → (color_of m x ≡ get_or before x 0) ⊎ Contains m.found x → (color_of n x ≡ get_or before x 0) ⊎ Contains n.found x
    others x (inr h) k = inr h
    others x (inl e) (inl e') = inl (e ∙ e')
    others x (inl e) (inr h) = inr (p.kept x h)

    here : (b : ℕ) → Contains (values_in lists node) b → get_or before b 0 ≡ old → (color_of m b ≡ get_or before b 0) ⊎ Contains m.found b → Contains n.found b
    here b h e (inl same) = p.each b h (same ∙ e)
    here b h e (inr was) = p.kept b was

    done : (k : ℕ) → k < i + 1 → (b : ℕ) → Joins lists (get_or n.found k 0) b → get_or before b 0 ≡ old → (k < i) ⊎ (i ≤ k) → Contains n.found b
    done k within b edge e (inl l) = p.kept b (f.done k l b (subst (λ (y : ℕ). Joins lists y b) (p.front k (omega (arith, f.passed))) edge) e)
    done k within b edge e (inr l) = here b (subst (λ (y : ℕ). Joins lists y b) (ap (λ (j : ℕ). get_or n.found j 0) same ∙ (p.front i low ∙ sym at)) edge) e (f.others b)
      where
        same : k ≡ i
        same = omega arith

-- A flood that has visited all nodes found has found all reached nodes.
pub filling_ends : (Edge : ℕ → ℕ → Type 0) (before : List ℕ) (start old new : ℕ) (m : Painting) (i : ℕ) → length m.found ≤ i → IsFilling Edge before start old new m i → Fills Edge before m.colors start old new m.found
filling_ends Edge before start old new m i all f = record {
  size = f.size;
  reached = λ b. (λ h. (f.from b h).0, λ path. found b path);
  were = λ b h. let at = f.from b h in (at.1, at.2);
  are = f.are;
  others = f.others;
}
  where
    found : (b : ℕ) → Path (EdgeTo Edge before old) start b → Contains m.found b
    found b (Here e) = subst (λ (y : ℕ). Contains m.found y) e f.begun
    found b (Onward {b = x} path (edge, color)) = step (found x path)
      where
        step : Contains m.found x → Contains m.found b
        step (k, low, e) = f.done k (omega arith) b (subst (λ (y : ℕ). Edge y b) (sym (get_or_default m.found k 0 x low ∙ e)) edge) color

-- The values at a key are the items of the list at it.
pub values-at : (lists : List (Vec ℕ Global)) (a : ℕ) (v : Vec ℕ Global) → a < length lists → v ≡ get_or lists a v → values_in lists a ≡ v.items
values-at lists a v low e = ap items_in (slice_get_read lists (length lists) a v refl low e)

-- The nodes found are nodes of the graph.
pub found-within : {Edge : ℕ → ℕ → Type 0} {before after : List ℕ} {start old new : ℕ} {found : List ℕ} → Fills Edge before after start old new found → All (λ b. b < length before) found
found-within {before = before} {found = found} f = All-from_get_or (λ (b : ℕ). b < length before) found 0 (λ i low. (f.were (get_or found i 0) (Contains-get_or found i 0 low)).0)

-- An edge of a table leads to a node of the graph.
pub joins-within : (lists : List (Vec ℕ Global)) (n : ℕ) → ((a : ℕ) → All (λ b. b < n) (values_in lists a)) → (a b : ℕ) → Joins lists a b → b < n
joins-within lists n h a b (k, low, e) = subst (λ (x : ℕ). x < n) e (All-get_or (λ (x : ℕ). x < n) (values_in lists a) k b low (h a))
