-- At the end all leaders are listed: a leader that isn't would wait for another, and so on, and all of these would
-- differ.
use Rattle.std.proofs.Common.{◌≡◌, ◌≢◌, ◌⊎◌, inl, inr, ℕ, zero, suc, ◌<◌, ◌≤◌, List, [], ◌∷◌, length, Bool, true, false}
use Rattle.std.proofs.Common.{eqb, Contains, Vec, get_or, refl, sym, ◌∙◌, ap, subst, arith}
use Rattle.std.specs.List.{All, IsDistinct, list_any}
use Rattle.std.specs.declared.alloc.Global.{Global}
use Rattle.std.proofs.lemmas.List.{get_or_default}
use Rattle.std.proofs.lemmas.List.Elements.{recursion_from_All, All-from_get_or, Contains-get_or}
use Rattle.std.proofs.lemmas.Map.Keys.{IsDistinct-cons}
use Rattle.std.proofs.lemmas.Map.Steps.{length-le_from_distinct_below}
use Rattle.model.specs.Paths.{Path, Here, Onward}
use Rattle.its_graph.specs.declared.order.Sorting.{Sorting}
use Rattle.its_graph.specs.Groups.{Joins}
use Rattle.its_graph.specs.Orders.{IsLeader, AreLeadersInOrder, AreOrderable, IsMarked, Waits, IsSorting}
use Rattle.its_graph.proofs.Elements.{Contains-cons_cases, Contains-first, Contains-later, none_in_empty, Decided, decided}

-- An element that a test finds is in the list.
found-element : (q : ℕ) (xs : List ℕ) → list_any (eqb q) xs ≡ true → Contains xs q
found-element q [] h = absurd (different h)
  where
    different : false ≡ true → ⊥
    different x = cc
found-element q (x ∷ xs) h = go (decided q x) (λ rest. found-element q xs rest)
  where
    go : Decided q x → (list_any (eqb q) xs ≡ true → Contains xs q) → Contains (x ∷ xs) q
    go (inl (test, same)) onward = subst (λ (y : ℕ). Contains (x ∷ xs) y) (sym same) (Contains-first x xs)
    go (inr (test, other)) onward = Contains-later x xs q (onward (rw test at h))

-- Distinct numbers stay distinct after a number that is none of them is put first.
distinct-more : (e : ℕ) (xs : List ℕ) → ((x : ℕ) → Contains xs x → e ≢ x) → IsDistinct eqb xs → IsDistinct eqb (e ∷ xs)
distinct-more e xs h d =
    IsDistinct-cons eqb e xs (recursion_from_All (λ (y : ℕ). eqb e y ≡ false) xs (All-from_get_or (λ (y : ℕ). eqb e y ≡ false) xs 0 (λ i low. differs (get_or xs i 0) (h (get_or xs i 0) (Contains-get_or xs i 0 low)) (decided e (get_or xs i 0))))) d
  where
    differs : (y : ℕ) → e ≢ y → Decided e y → eqb e y ≡ false
    differs y ne (inl (test, same)) = absurd (ne same)
    differs y ne (inr (test, other)) = test

-- Numbers that differ at all positions are distinct.
pub distinct-list : (xs : List ℕ) → ((j k : ℕ) → j < k → k < length xs → get_or xs j 0 ≢ get_or xs k 0) → IsDistinct eqb xs
unfolding IsDistinct
distinct-list [] h = tt
distinct-list (x ∷ xs) h =
    distinct-more x xs (λ y among. differs y among) (distinct-list xs (λ j k l low. h (suc j) (suc k) (omega arith) (omega arith)))
  where
    differs : (y : ℕ) → Contains xs y → x ≢ y
    differs y (k, low, e) same = h 0 (suc k) (omega arith) (omega arith) (same ∙ sym (get_or_default xs k 0 y low ∙ e))

-- Of distinct numbers below n there are at most n.
pub distinct-few : (xs : List ℕ) (n : ℕ) → ((j k : ℕ) → j < k → k < length xs → get_or xs j 0 ≢ get_or xs k 0) → All (λ x. x < n) xs → length xs ≤ n
distinct-few xs n h within = length-le_from_distinct_below xs n (distinct-list xs h) (λ q found. below q (found-element q xs found))
  where
    below : (q : ℕ) → Contains xs q → q < n
    below q (k, low, e) = subst (λ (x : ℕ). x < n) e (within k q low)

module _ (needs : List (Vec ℕ Global)) (leaders : List ℕ) (s : Sorting) (o : AreOrderable leaders needs) (f : IsSorting needs leaders [] s) (none_ready : s.ready.keys ≡ []) where
  -- Leaders that aren't listed, each waiting for the one before it in the list, so that the first is needed by all.
  record Chain (k : ℕ) : Type 0 where
    first : ℕ
    others : List ℕ
    size : length others ≡ k
    leads : IsLeader leaders first
    unmarked : ¬ (IsMarked s.is_listed.items first)
    distinct : IsDistinct eqb (first ∷ others)
    within : (x : ℕ) → Contains (first ∷ others) x → x < length leaders
    reached : (x : ℕ) → Contains (first ∷ others) x → Path (Joins needs) x first

  -- An unlisted leader waits for another one.
  waits_for : (c : ℕ) → IsLeader leaders c → ¬ (IsMarked s.is_listed.items c) → Waits s.waiting.items s.is_listed.items c
  waits_for c leads unmarked = go (f.placed c leads unmarked)
    where
      go : Contains s.ready.keys c ⊎ (Contains [] c ⊎ Waits s.waiting.items s.is_listed.items c) → Waits s.waiting.items s.is_listed.items c
      go (inl h) = absurd (none_in_empty c (subst (λ (xs : List ℕ). Contains xs c) none_ready h))
      go (inr (inl h)) = absurd (none_in_empty c h)
      go (inr (inr w)) = w

  -- A chain of waiting leaders can be made longer by one.
  chain-more : (k : ℕ) → Chain k → Chain (suc k)
  chain-more k c = record {
    first = w.need;
    others = c.first ∷ c.others;
    size = ap suc c.size;
    leads = (o.leading c.first w.need need).1;
    unmarked = w.unlisted;
    distinct = distinct-more w.need (c.first ∷ c.others) differs c.distinct;
    within = λ x h. within x (Contains-cons_cases w.need (c.first ∷ c.others) x h);
    reached = λ x h. reached x (Contains-cons_cases w.need (c.first ∷ c.others) x h);
  }
    where
      w : Waits s.waiting.items s.is_listed.items c.first
      w = waits_for c.first c.leads c.unmarked

      need : Joins needs c.first w.need
      need = f.waits w.need c.first w.among

      differs : (x : ℕ) → Contains (c.first ∷ c.others) x → w.need ≢ x
      differs x h e = o.acyclic c.first w.need need (subst (λ (y : ℕ). Path (Joins needs) y c.first) (sym e) (c.reached x h))

      within : (x : ℕ) → (x ≡ w.need) ⊎ Contains (c.first ∷ c.others) x → x < length leaders
      within x (inl e) = subst (λ (y : ℕ). y < length leaders) (sym e) (o.leading c.first w.need need).1.0
      within x (inr h) = c.within x h

      reached : (x : ℕ) → (x ≡ w.need) ⊎ Contains (c.first ∷ c.others) x → Path (Joins needs) x w.need
      reached x (inl e) = Here e
      reached x (inr h) = Onward (c.reached x h) need

  -- From an unlisted leader, there is a chain of waiting leaders of any length.
  chain : (c : ℕ) → IsLeader leaders c → ¬ (IsMarked s.is_listed.items c) → (k : ℕ) → Chain k
  unfolding IsDistinct
  chain c leads unmarked zero = record {
    first = c;
    others = [];
    size = refl;
    leads = leads;
    unmarked = unmarked;
    distinct = distinct-more c [] (λ x h. absurd (none_in_empty x h)) tt;
    within = λ x h. only x (Contains-cons_cases c [] x h);
    reached = λ x h. here x (Contains-cons_cases c [] x h);
  }
    where
      only : (x : ℕ) → (x ≡ c) ⊎ Contains [] x → x < length leaders
      only x (inl e) = subst (λ (y : ℕ). y < length leaders) (sym e) leads.0
      only x (inr h) = absurd (none_in_empty x h)

      here : (x : ℕ) → (x ≡ c) ⊎ Contains [] x → Path (Joins needs) x c
      here x (inl e) = Here e
      here x (inr h) = absurd (none_in_empty x h)
  chain c leads unmarked (suc k) = chain-more k (chain c leads unmarked k)

  -- There is no unlisted leader.
  none-open : (c : ℕ) → IsLeader leaders c → ¬ (IsMarked s.is_listed.items c) → ⊥
  none-open c leads unmarked =
      let long : Chain (length leaders) = chain c leads unmarked (length leaders) in
      let few = length-le_from_distinct_below (long.first ∷ long.others) (length leaders) long.distinct (λ q h. long.within q (found-element q (long.first ∷ long.others) h)) in
      omega (arith, few, long.size)

  -- All leaders are listed.
  pub all_listed : AreLeadersInOrder (Joins needs) leaders s.order.items
  all_listed = record { each = f.each; all = λ c leads. all c leads (get_or s.is_listed.items c false) refl }
    where
      all : (c : ℕ) → IsLeader leaders c → (v : Bool) → get_or s.is_listed.items c false ≡ v → Contains s.order.items c
      all c leads true e = (f.marked c).0 e
      all c leads false e = absurd (none-open c leads (λ h. different (sym h ∙ e)))
        where
          different : true ≡ false → ⊥
          different x = cc
