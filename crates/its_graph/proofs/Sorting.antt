-- Sorting leaders: the effects of settling one and of listing one; at the end all are listed.
use Rattle.std.proofs.Common.{◌≡◌, ◌≢◌, ◌↔◌, ◌⊎◌, inl, inr, ℕ, ◌+◌, ◌<◌, ◌≤◌, List, [], ◌∷◌, ◌++◌, length, take, drop}
use Rattle.std.proofs.Common.{Bool, true, false, not, if◌then◌else◌, ◌==◌, Contains, Vec, get_or, set, replicate}
use Rattle.std.proofs.Common.{get_or-set_other, get_or-set_same, refl, sym, ◌∙◌, ap, subst, arith, length-append, cond}
use Rattle.std.specs.List.{All, count_by}
use Rattle.std.specs.declared.alloc.Global.{Global}
use Rattle.std.proofs.lemmas.Bool.{cases_lt}
use Rattle.std.proofs.lemmas.List.{length-set, length-replicate, get_or-replicate, take_all, take-append-le}
use Rattle.std.proofs.lemmas.List.{take-append-drop, take-take, get_or_append_left, get_or_push, get_or_default}
use Rattle.std.proofs.lemmas.List.{get_or_past}
use Rattle.std.proofs.lemmas.List.Sums.{sum_by-set}
use Rattle.std.proofs.lemmas.List.Elements.{Contains-get_or, Contains-append_left, Contains-push, Contains-push_cases}
use Rattle.std.proofs.lemmas.List.Elements.{All-from_get_or}
use Rattle.model.specs.Paths.{Here}
use Rattle.its_graph.specs.declared.order.Sorting.{Sorting}
use Rattle.its_graph.specs.Groups.{values_in, Joins}
use Rattle.its_graph.specs.Orders.{IsLeader, IsNextLeader, EachIsNext, AreOrderable, IsFresh, IsMarked, Waits}
use Rattle.its_graph.specs.Orders.{IsSorting, IsPopped, WaitsOrReady, Settles}
use Rattle.its_graph.proofs.Elements.{Contains-cons_cases, Contains-first, Contains-later, none_in_empty, Decided, decided}

-- A member of the first elements of a list is a member of the list.
Contains-take : (k : ℕ) (xs : List ℕ) (x : ℕ) → Contains (take k xs) x → Contains xs x
Contains-take k xs x h = subst (λ (ys : List ℕ). Contains ys x) (take-append-drop k xs) (Contains-append_left (take k xs) (drop k xs) x h)

-- A member of the first j elements is one of the first k, if k is at least j.
pub Contains-take_take : (xs : List ℕ) (j k x : ℕ) → j ≤ k → Contains (take j xs) x → Contains (take k xs) x
Contains-take_take xs j k x low h = Contains-take j (take k xs) x (subst (λ (ys : List ℕ). Contains ys x) (sym (take-take j k xs low)) h)

-- A list in which each leader comes next has, with each leader, all that it needs.
closed : (Need : ℕ → ℕ → Type 0) (leaders order : List ℕ) → EachIsNext Need leaders order → (c d : ℕ) → Contains order c → Need c d → Contains order d
closed Need leaders order each c d (k, low, e) need =
    Contains-take k order d ((each k low).needs d (subst (λ (x : ℕ). Need x d) (sym (get_or_default order k 0 c low ∙ e)) need))

-- A list in which each comes next stays so when the next leader is appended.
each-push : (Need : ℕ → ℕ → Type 0) (leaders order : List ℕ) (c : ℕ) → EachIsNext Need leaders order → IsNextLeader Need leaders order c → EachIsNext Need leaders (order ++ c ∷ [])
each-push Need leaders order c each next k low = go (cases_lt k (length order))
  where
    go : (k < length order) ⊎ (length order ≤ k) → IsNextLeader Need leaders (take k (order ++ c ∷ [])) (get_or (order ++ c ∷ []) k 0)
    go (inl before) =
        subst (λ (xs : List ℕ). IsNextLeader Need leaders xs (get_or (order ++ c ∷ []) k 0)) (sym (take-append-le k order (c ∷ []) (omega arith)))
        (subst (λ (x : ℕ). IsNextLeader Need leaders (take k order) x) (sym (get_or_append_left order (c ∷ []) 0 k before)) (each k before))
    go (inr here) =
        let same : k ≡ length order = omega (arith, length-append order (c ∷ [])) in
        subst (λ (xs : List ℕ). IsNextLeader Need leaders xs (get_or (order ++ c ∷ []) k 0)) (sym (take-append-le k order (c ∷ []) (omega arith) ∙ take_all k order (omega arith)))
        (subst (λ (x : ℕ). IsNextLeader Need leaders order x) (sym (get_or_push order c 0 k (sym same))) next)

-- A mark that is true after one was set was true before or is that one.
marked-cases : (marks : List Bool) (l c : ℕ) → IsMarked (set marks l true) c → IsMarked marks c ⊎ (c ≡ l)
marked-cases marks l c h = go (decided c l)
  where
    go : Decided c l → IsMarked marks c ⊎ (c ≡ l)
    go (inl (test, same)) = inr same
    go (inr (test, other)) = inl (sym (get_or-set_other marks l c true false other) ∙ h)

marked-kept : (marks : List Bool) (l c : ℕ) → l < length marks → IsMarked marks c → IsMarked (set marks l true) c
marked-kept marks l c low h = go (decided c l)
  where
    go : Decided c l → IsMarked (set marks l true) c
    go (inl (test, same)) = ap (λ (x : ℕ). get_or (set marks l true) x false) same ∙ get_or-set_same marks l true false low
    go (inr (test, other)) = get_or-set_other marks l c true false other ∙ h

marked-here : (marks : List Bool) (l : ℕ) → l < length marks → IsMarked (set marks l true) l
marked-here marks l low = get_or-set_same marks l true false low

-- 1 for a mark that isn't set, else 0.
abbrev unmarked_one : Bool → ℕ
unmarked_one v = cond (not v) 1 0

-- Setting a mark that wasn't set leaves one less to be set.
pub fewer-unmarked : (marks : List Bool) (l : ℕ) → l < length marks → ¬ (IsMarked marks l) → count_by not (set marks l true) + 1 ≡ count_by not marks
fewer-unmarked marks l low h = go (get_or marks l false) refl
  where
    go : (v : Bool) → get_or marks l false ≡ v → count_by not (set marks l true) + 1 ≡ count_by not marks
    go true e = absurd (h e)
    go false e =
        let moved = sum_by-set unmarked_one marks l true false low in
        let one : unmarked_one (get_or marks l false) ≡ 1 = rw e refl in
        omega (arith, moved, one)

-- A choice by a test of two numbers, if they are equal, and if they differ.
if-same : {A : Type 0} (a b : ℕ) (x y : A) → a ≡ b → (if a == b then x else y) ≡ x
if-same a b x y e = go (decided a b)
  where
    go : Decided a b → (if a == b then x else y) ≡ x
    go (inl (test, same)) = rw test refl
    go (inr (test, other)) = absurd (other e)

if-other : {A : Type 0} (a b : ℕ) (x y : A) → a ≢ b → (if a == b then x else y) ≡ y
if-other a b x y ne = go (decided a b)
  where
    go : Decided a b → (if a == b then x else y) ≡ y
    go (inl (test, same)) = absurd (ne same)
    go (inr (test, other)) = rw test refl

module _ (needs : List (Vec ℕ Global)) (leaders : List ℕ) where
  -- The needs of a leader.
  abbrev Need : ℕ → ℕ → Type 0
  Need = Joins needs

  -- After a leader has settled, the state of sorting holds for the other ones.
  pub settled : (l : ℕ) (rest : List ℕ) (s t : Sorting) → IsSorting needs leaders (l ∷ rest) s → Settles needs l s t → IsSorting needs leaders rest t
  settled l rest s t f m = record {
    passed_size = ap length m.passed ∙ (length-set s.passed.items l m.position ∙ f.passed_size);
    waiting_size = m.waiting_size ∙ f.waiting_size;
    listed_size = ap length m.marks ∙ f.listed_size;
    passed = λ c k low. passed c k (subst (λ (xs : List ℕ). k < get_or xs c 0) m.passed low) (decided c l);
    ready = λ c h. ready c m.placed h;
    waits = λ d c h. waits d c m.placed h;
    placed = λ c leads unmarked. placed c (f.placed c leads (λ h. unmarked (to_t c h)));
    open_ones = λ c h. let old = f.open_ones c (Contains-later l rest c h) in (old.0, λ k. old.1 (to_s c k));
    marked = λ c. (λ h. subst (λ (xs : List ℕ). Contains xs c) (sym m.order) ((f.marked c).0 (to_s c h)), λ h. to_t c ((f.marked c).1 (subst (λ (xs : List ℕ). Contains xs c) m.order h)));
    each = subst (λ (xs : List ℕ). EachIsNext Need leaders xs) (sym m.order) f.each;
  }
    where
      row : List ℕ
      row = values_in needs l

      to_s : (c : ℕ) → IsMarked t.is_listed.items c → IsMarked s.is_listed.items c
      to_s c h = subst (λ (xs : List Bool). IsMarked xs c) m.marks h

      to_t : (c : ℕ) → IsMarked s.is_listed.items c → IsMarked t.is_listed.items c
      to_t c h = subst (λ (xs : List Bool). IsMarked xs c) (sym m.marks) h

      -- The needs of the leader up to the position are listed.
      behind : (k : ℕ) → k < m.position → IsMarked s.is_listed.items (get_or (values_in needs l) k 0)
      behind k low = go (cases_lt k (get_or s.passed.items l 0))
        where
          go : (k < get_or s.passed.items l 0) ⊎ (get_or s.passed.items l 0 ≤ k) → IsMarked s.is_listed.items (get_or (values_in needs l) k 0)
          go (inl before) = f.passed l k before
          go (inr after) = m.skips.between k after low

      passed : (c k : ℕ) → k < get_or (set s.passed.items l m.position) c 0 → Decided c l → IsMarked t.is_listed.items (get_or (values_in needs c) k 0)
      passed c k low (inl (test, same)) =
          to_t (get_or (values_in needs c) k 0) (subst (λ (x : ℕ). IsMarked s.is_listed.items (get_or (values_in needs x) k 0)) (sym same) (behind k (at_position (cases_lt l (length s.passed.items)))))
        where
          low_l : k < get_or (set s.passed.items l m.position) l 0
          low_l = subst (λ (x : ℕ). k < get_or (set s.passed.items l m.position) x 0) same low

          at_position : (l < length s.passed.items) ⊎ (length s.passed.items ≤ l) → k < m.position
          at_position (inl within) = subst (λ (x : ℕ). k < x) (get_or-set_same s.passed.items l m.position 0 within) low_l
          at_position (inr past) = absurd (omega (arith, low_l, get_or_past (set s.passed.items l m.position) l 0 (omega (arith, length-set s.passed.items l m.position))))
      passed c k low (inr (test, other)) =
          to_t (get_or (values_in needs c) k 0) (f.passed c k (subst (λ (x : ℕ). k < x) (get_or-set_other s.passed.items l c m.position 0 other) low))

      -- The leader that settles is a leader that isn't listed.
      this : IsLeader leaders l × (¬ (IsMarked s.is_listed.items l))
      this = f.open_ones l (Contains-first l rest)

      old_ready : (c : ℕ) → Contains s.ready.keys c → IsLeader leaders c × (¬ (IsMarked t.is_listed.items c)) × ((d : ℕ) → Need c d → IsMarked t.is_listed.items d)
      old_ready c h = let old = f.ready c h in (old.0, (λ k. old.1 (to_s c k)), λ d need. to_t d (old.2 d need))

      -- All needs of the leader are listed if the position is the end.
      all_behind : length (values_in needs l) ≤ m.position → (d : ℕ) → Need l d → IsMarked t.is_listed.items d
      all_behind end d (k, low, e) = to_t d (subst (λ (x : ℕ). IsMarked s.is_listed.items x) (get_or_default (values_in needs l) k 0 d low ∙ e) (behind k (omega arith)))

      ready : (c : ℕ) → WaitsOrReady (values_in needs l) m.position l s t → Contains t.ready.keys c → IsLeader leaders c × (¬ (IsMarked t.is_listed.items c)) × ((d : ℕ) → Need c d → IsMarked t.is_listed.items d)
      ready c (inl (low, keys, values)) h = old_ready c (subst (λ (xs : List ℕ). Contains xs c) keys h)
      ready c (inr (end, same, keys)) h = go ((keys c).0 h)
        where
          go : Contains s.ready.keys c ⊎ (c ≡ l) → IsLeader leaders c × (¬ (IsMarked t.is_listed.items c)) × ((d : ℕ) → Need c d → IsMarked t.is_listed.items d)
          go (inl old) = old_ready c old
          go (inr e) = subst (λ (x : ℕ). IsLeader leaders x × (¬ (IsMarked t.is_listed.items x)) × ((d : ℕ) → Need x d → IsMarked t.is_listed.items d)) (sym e) (this.0, (λ k. this.1 (to_s l k)), all_behind end)

      waits : (d c : ℕ) → WaitsOrReady (values_in needs l) m.position l s t → Contains (values_in t.waiting.items d) c → Need c d
      waits d c (inr (end, same, keys)) h = f.waits d c (subst (λ (xs : List (Vec ℕ Global)). Contains (values_in xs d) c) same h)
      waits d c (inl (low, keys, values)) h = go (decided (get_or (values_in needs l) m.position 0) d)
        where
          at : Contains (if get_or (values_in needs l) m.position 0 == d then values_in s.waiting.items d ++ l ∷ [] else values_in s.waiting.items d) c
          at = subst (λ (xs : List ℕ). Contains xs c) (values d) h

          go : Decided (get_or (values_in needs l) m.position 0) d → Need c d
          go (inr (test, other)) = f.waits d c (subst (λ (xs : List ℕ). Contains xs c) (if-other (get_or (values_in needs l) m.position 0) d (values_in s.waiting.items d ++ l ∷ []) (values_in s.waiting.items d) other) at)
          go (inl (test, same)) = last (Contains-push_cases (values_in s.waiting.items d) l c (subst (λ (xs : List ℕ). Contains xs c) (if-same (get_or (values_in needs l) m.position 0) d (values_in s.waiting.items d ++ l ∷ []) (values_in s.waiting.items d) same) at))
            where
              last : Contains (values_in s.waiting.items d) c ⊎ (l ≡ c) → Need c d
              last (inl old) = f.waits d c old
              last (inr e) = subst (λ (x : ℕ). Need x d) e (subst (λ (x : ℕ). Need l x) same (Contains-get_or (values_in needs l) m.position 0 low))

      -- A leader that waited still does.
      still : (c : ℕ) → WaitsOrReady (values_in needs l) m.position l s t → Waits s.waiting.items s.is_listed.items c → Waits t.waiting.items t.is_listed.items c
      still c (inr (end, same, keys)) w = record { need = w.need; among = subst (λ (xs : List (Vec ℕ Global)). Contains (values_in xs w.need) c) (sym same) w.among; unlisted = λ h. w.unlisted (to_s w.need h) }
      still c (inl (low, keys, values)) w = record { need = w.need; among = subst (λ (xs : List ℕ). Contains xs c) (sym (values w.need)) (go (decided (get_or (values_in needs l) m.position 0) w.need)); unlisted = λ h. w.unlisted (to_s w.need h) }
        where
          go : Decided (get_or (values_in needs l) m.position 0) w.need → Contains (if get_or (values_in needs l) m.position 0 == w.need then values_in s.waiting.items w.need ++ l ∷ [] else values_in s.waiting.items w.need) c
          go (inl (test, same)) = rw test (Contains-append_left (values_in s.waiting.items w.need) (l ∷ []) c w.among)
          go (inr (test, other)) = rw test w.among

      -- The leader itself waits or is ready.
      itself : WaitsOrReady (values_in needs l) m.position l s t → Contains t.ready.keys l ⊎ Waits t.waiting.items t.is_listed.items l
      itself (inr (end, same, keys)) = inl ((keys l).1 (inr refl))
      itself (inl (low, keys, values)) = inr (record {
        need = get_or (values_in needs l) m.position 0;
        among = subst (λ (xs : List ℕ). Contains xs l) (sym (values (get_or (values_in needs l) m.position 0) ∙ if-same (get_or (values_in needs l) m.position 0) (get_or (values_in needs l) m.position 0) _ _ refl)) (Contains-push (values_in s.waiting.items (get_or (values_in needs l) m.position 0)) l);
        unlisted = λ h. m.skips.stops low (to_s (get_or (values_in needs l) m.position 0) h);
      })

      -- A leader that was ready still is.
      still_ready : (c : ℕ) → WaitsOrReady (values_in needs l) m.position l s t → Contains s.ready.keys c → Contains t.ready.keys c
      still_ready c (inl (low, keys, values)) h = subst (λ (xs : List ℕ). Contains xs c) (sym keys) h
      still_ready c (inr (end, same, keys)) h = (keys c).1 (inl h)

      placed : (c : ℕ) → Contains s.ready.keys c ⊎ (Contains (l ∷ rest) c ⊎ Waits s.waiting.items s.is_listed.items c) → Contains t.ready.keys c ⊎ (Contains rest c ⊎ Waits t.waiting.items t.is_listed.items c)
      placed c (inl h) = inl (still_ready c m.placed h)
      placed c (inr (inr w)) = inr (inr (still c m.placed w))
      placed c (inr (inl h)) = go (Contains-cons_cases l rest c h) (itself m.placed)
        where
          go : (c ≡ l) ⊎ Contains rest c → Contains t.ready.keys l ⊎ Waits t.waiting.items t.is_listed.items l → Contains t.ready.keys c ⊎ (Contains rest c ⊎ Waits t.waiting.items t.is_listed.items c)
          go (inr later) k = inr (inl later)
          go (inl e) (inl k) = inl (subst (λ (x : ℕ). Contains t.ready.keys x) (sym e) k)
          go (inl e) (inr w) = inr (inr (subst (λ (x : ℕ). Waits t.waiting.items t.is_listed.items x) (sym e) w))

  -- The leader that was taken is the next one.
  popped-next : (l : ℕ) (s : Sorting) → IsPopped needs leaders l s → IsNextLeader Need leaders s.order.items l
  popped-next l s p = record {
    leads = own.0;
    unlisted = λ h. own.1 ((f.marked l).1 h);
    needs = λ d need. (f.marked d).0 (own.2 d need);
    least = λ q leads unlisted all. least q all (f.placed q leads (λ h. unlisted ((f.marked q).0 h)));
  }
    where
      f : IsSorting needs leaders [] (record s { ready = p.before })
      f = p.sorting

      own : IsLeader leaders l × (¬ (IsMarked s.is_listed.items l)) × ((d : ℕ) → Need l d → IsMarked s.is_listed.items d)
      own = f.ready l (subst (λ (xs : List ℕ). Contains xs l) (sym p.taken) (Contains-first l s.ready.keys))

      least : (q : ℕ) → ((d : ℕ) → Need q d → Contains s.order.items d) → Contains p.before.keys q ⊎ (Contains [] q ⊎ Waits s.waiting.items s.is_listed.items q) → l ≤ q
      least q all (inl h) = go (Contains-cons_cases l s.ready.keys q (subst (λ (xs : List ℕ). Contains xs q) p.taken h))
        where
          go : (q ≡ l) ⊎ Contains s.ready.keys q → l ≤ q
          go (inl e) = omega (arith, e)
          go (inr later) = omega (arith, p.least q later)
      least q all (inr (inl none)) = absurd (none_in_empty q none)
      least q all (inr (inr w)) = absurd (w.unlisted ((f.marked w.need).1 (all w.need (f.waits w.need q w.among))))

  -- After a leader is listed, those that waited for it have to settle.
  pub listed : AreOrderable leaders needs → (l : ℕ) (s t : Sorting) (taken : List ℕ) → IsPopped needs leaders l s
      → t.passed.items ≡ s.passed.items → t.is_listed.items ≡ set s.is_listed.items l true → t.ready.keys ≡ s.ready.keys → t.order.items ≡ s.order.items ++ l ∷ []
      → length t.waiting.items ≡ length s.waiting.items → ((a : ℕ) → values_in t.waiting.items a ≡ (if l == a then [] else values_in s.waiting.items a)) → taken ≡ values_in s.waiting.items l
      → IsSorting needs leaders taken t
  listed o l s t taken p passed_same marks keys order size values took = record {
    passed_size = ap length passed_same ∙ f.passed_size;
    waiting_size = size ∙ f.waiting_size;
    listed_size = ap length marks ∙ (length-set s.is_listed.items l true ∙ f.listed_size);
    passed = λ c k low. to_t _ (f.passed c k (subst (λ (xs : List ℕ). k < get_or xs c 0) passed_same low));
    ready = λ c h. ready c (subst (λ (xs : List ℕ). Contains xs c) keys h);
    waits = λ d c h. f.waits d c (was_waiting d c h);
    placed = λ c leads unmarked. placed c (f.placed c leads (λ h. unmarked (to_t c h))) unmarked;
    open_ones = λ c h. open_one c (subst (λ (xs : List ℕ). Contains xs c) took h);
    marked = λ c. (λ h. subst (λ (xs : List ℕ). Contains xs c) (sym order) (to_order c (from_t c h)), λ h. marked c (Contains-push_cases s.order.items l c (subst (λ (xs : List ℕ). Contains xs c) order h)));
    each = subst (λ (xs : List ℕ). EachIsNext Need leaders xs) (sym order) (each-push Need leaders s.order.items l f.each (popped-next l s p));
  }
    where
      f : IsSorting needs leaders [] (record s { ready = p.before })
      f = p.sorting

      own : IsLeader leaders l × (¬ (IsMarked s.is_listed.items l)) × ((d : ℕ) → Need l d → IsMarked s.is_listed.items d)
      own = f.ready l (subst (λ (xs : List ℕ). Contains xs l) (sym p.taken) (Contains-first l s.ready.keys))

      within : l < length s.is_listed.items
      within = omega (arith, own.0.0, f.listed_size)

      to_t : (c : ℕ) → IsMarked s.is_listed.items c → IsMarked t.is_listed.items c
      to_t c h = subst (λ (xs : List Bool). IsMarked xs c) (sym marks) (marked-kept s.is_listed.items l c within h)

      from_t : (c : ℕ) → IsMarked t.is_listed.items c → IsMarked s.is_listed.items c ⊎ (c ≡ l)
      from_t c h = marked-cases s.is_listed.items l c (subst (λ (xs : List Bool). IsMarked xs c) marks h)

      ready : (c : ℕ) → Contains s.ready.keys c → IsLeader leaders c × (¬ (IsMarked t.is_listed.items c)) × ((d : ℕ) → Need c d → IsMarked t.is_listed.items d)
      ready c h =
          let old = f.ready c (subst (λ (xs : List ℕ). Contains xs c) (sym p.taken) (Contains-later l s.ready.keys c h)) in
          (old.0, (λ k. unmarked old.1 (from_t c k)), λ d need. to_t d (old.2 d need))
        where
          unmarked : ¬ (IsMarked s.is_listed.items c) → IsMarked s.is_listed.items c ⊎ (c ≡ l) → ⊥
          unmarked none (inl k) = none k
          unmarked none (inr e) = omega (arith, p.least c h, e)

      was_waiting : (d c : ℕ) → Contains (values_in t.waiting.items d) c → Contains (values_in s.waiting.items d) c
      was_waiting d c h = go (decided l d)
        where
          at : Contains (if l == d then [] else values_in s.waiting.items d) c
          at = subst (λ (xs : List ℕ). Contains xs c) (values d) h

          go : Decided l d → Contains (values_in s.waiting.items d) c
          go (inl (test, same)) = absurd (none_in_empty c (subst (λ (xs : List ℕ). Contains xs c) (if-same l d [] (values_in s.waiting.items d) same) at))
          go (inr (test, other)) = subst (λ (xs : List ℕ). Contains xs c) (if-other l d [] (values_in s.waiting.items d) other) at

      placed : (c : ℕ) → Contains p.before.keys c ⊎ (Contains [] c ⊎ Waits s.waiting.items s.is_listed.items c) → ¬ (IsMarked t.is_listed.items c) → Contains t.ready.keys c ⊎ (Contains taken c ⊎ Waits t.waiting.items t.is_listed.items c)
      placed c (inl h) unmarked = go (Contains-cons_cases l s.ready.keys c (subst (λ (xs : List ℕ). Contains xs c) p.taken h))
        where
          go : (c ≡ l) ⊎ Contains s.ready.keys c → Contains t.ready.keys c ⊎ (Contains taken c ⊎ Waits t.waiting.items t.is_listed.items c)
          go (inl e) = absurd (unmarked (subst (λ (xs : List Bool). IsMarked xs c) (sym marks) (subst (λ (x : ℕ). IsMarked (set s.is_listed.items l true) x) (sym e) (marked-here s.is_listed.items l within))))
          go (inr later) = inl (subst (λ (xs : List ℕ). Contains xs c) (sym keys) later)
      placed c (inr (inl none)) unmarked = absurd (none_in_empty c none)
      placed c (inr (inr w)) unmarked = go (decided l w.need)
        where
          go : Decided l w.need → Contains t.ready.keys c ⊎ (Contains taken c ⊎ Waits t.waiting.items t.is_listed.items c)
          go (inl (test, same)) = inr (inl (subst (λ (xs : List ℕ). Contains xs c) (sym took) (subst (λ (x : ℕ). Contains (values_in s.waiting.items x) c) (sym same) w.among)))
          go (inr (test, other)) = inr (inr (record {
            need = w.need;
            among = subst (λ (xs : List ℕ). Contains xs c) (sym (values w.need ∙ if-other l w.need [] (values_in s.waiting.items w.need) other)) w.among;
            unlisted = λ h. clash (from_t w.need h);
          }))
            where
              clash : IsMarked s.is_listed.items w.need ⊎ (w.need ≡ l) → ⊥
              clash (inl k) = w.unlisted k
              clash (inr e) = other (sym e)

      open_one : (c : ℕ) → Contains (values_in s.waiting.items l) c → IsLeader leaders c × (¬ (IsMarked t.is_listed.items c))
      open_one c h = ((o.leading c l need).0, λ k. clash (from_t c k))
        where
          need : Need c l
          need = f.waits l c h

          clash : IsMarked s.is_listed.items c ⊎ (c ≡ l) → ⊥
          clash (inl k) = own.1 ((f.marked l).1 (closed Need leaders s.order.items f.each c l ((f.marked c).0 k) need))
          clash (inr e) = o.acyclic c l need (Here (sym e))

      to_order : (c : ℕ) → IsMarked s.is_listed.items c ⊎ (c ≡ l) → Contains (s.order.items ++ l ∷ []) c
      to_order c (inl k) = Contains-append_left s.order.items (l ∷ []) c ((f.marked c).0 k)
      to_order c (inr e) = subst (λ (x : ℕ). Contains (s.order.items ++ l ∷ []) x) (sym e) (Contains-push s.order.items l)

      marked : (c : ℕ) → Contains s.order.items c ⊎ (l ≡ c) → IsMarked t.is_listed.items c
      marked c (inl h) = to_t c ((f.marked c).1 h)
      marked c (inr e) = subst (λ (x : ℕ). IsMarked t.is_listed.items x) e (subst (λ (xs : List Bool). IsMarked xs l) (sym marks) (marked-here s.is_listed.items l within))

  -- The leader that was taken isn't marked, and is a node.
  pub popped-open : (l : ℕ) (s : Sorting) → IsPopped needs leaders l s → (l < length s.is_listed.items) × (¬ (IsMarked s.is_listed.items l)) × (l < length s.waiting.items)
  popped-open l s p =
      let f = p.sorting in
      let own = f.ready l (subst (λ (xs : List ℕ). Contains xs l) (sym p.taken) (Contains-first l s.ready.keys)) in
      (omega (arith, own.0.0, f.listed_size), own.1, omega (arith, own.0.0, f.waiting_size))

  -- The needs of a leader are nodes.
  pub needs-within : AreOrderable leaders needs → (l : ℕ) → All (λ d. d < length needs) (values_in needs l)
  needs-within o l = All-from_get_or (λ (d : ℕ). d < length needs) (values_in needs l) 0 (λ i low. omega (arith, o.size, (o.leading l (get_or (values_in needs l) i 0) (Contains-get_or (values_in needs l) i 0 low)).1.0))

  -- No mark of a fresh list is set.
  not_marked : (n c : ℕ) → ¬ (IsMarked (replicate n false) c)
  not_marked n c h = go (cases_lt c n)
    where
      clash : get_or (replicate n false) c false ≡ false → ⊥
      clash e = different (sym h ∙ e)
        where
          different : true ≡ false → ⊥
          different x = cc

      go : (c < n) ⊎ (n ≤ c) → ⊥
      go (inl low) = clash (get_or-replicate n c false false low)
      go (inr high) = clash (get_or_past (replicate n false) c false (omega (arith, length-replicate n false)))

  -- At first all leaders have to settle.
  pub begins : (own : List ℕ) (s : Sorting) → IsFresh (length leaders) s → ((c : ℕ) → Contains own c ↔ IsLeader leaders c) → IsSorting needs leaders own s
  begins own s f all = record {
    passed_size = ap length f.passed ∙ length-replicate (length leaders) 0;
    waiting_size = f.waiting_size;
    listed_size = ap length f.marks ∙ length-replicate (length leaders) false;
    passed = λ c k low. absurd (none c k (subst (λ (xs : List ℕ). k < get_or xs c 0) f.passed low) (cases_lt c (length leaders)));
    ready = λ c h. absurd (none_in_empty c (subst (λ (xs : List ℕ). Contains xs c) f.ready h));
    waits = λ d c h. absurd (none_in_empty c (subst (λ (xs : List ℕ). Contains xs c) (f.waiting d) h));
    placed = λ c leads unmarked. inr (inl ((all c).1 leads));
    open_ones = λ c h. ((all c).0 h, unmarked c);
    marked = λ c. (λ h. absurd (unmarked c h), λ h. absurd (none_in_empty c (subst (λ (xs : List ℕ). Contains xs c) f.order h)));
    each = subst (λ (xs : List ℕ). EachIsNext Need leaders xs) (sym f.order) (λ k low. absurd (omega (arith, low)));
  }
    where
      zeros_end : (c : ℕ) → length leaders ≤ c → length (replicate {A = ℕ} (length leaders) 0) ≤ c
      zeros_end c past = let long : ◌≡◌ {A = ℕ} (length (replicate {A = ℕ} (length leaders) 0)) (length leaders) = length-replicate (length leaders) 0 in omega (arith, long)

      none : (c k : ℕ) → k < get_or (replicate (length leaders) 0) c 0 → (c < length leaders) ⊎ (length leaders ≤ c) → ⊥
      none c k low (inl within) = let zero_there : ◌≡◌ {A = ℕ} (get_or (replicate (length leaders) 0) c 0) 0 = get_or-replicate (length leaders) c 0 0 within in omega (arith, low, zero_there)
      none c k low (inr past) = let zero_past : ◌≡◌ {A = ℕ} (get_or (replicate (length leaders) 0) c 0) 0 = get_or_past (replicate (length leaders) 0) c 0 (zeros_end c past) in omega (arith, low, zero_past)

      unmarked : (c : ℕ) → ¬ (IsMarked s.is_listed.items c)
      unmarked c h = not_marked (length leaders) c (subst (λ (xs : List Bool). IsMarked xs c) f.marks h)
