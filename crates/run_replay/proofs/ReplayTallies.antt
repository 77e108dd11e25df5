-- The tally along a run, step by step.
use Rattle.std.proofs.Common.{◌≡◌, ◌≢◌, ◌⊎◌, inl, inr, true, false, ◌==◌, ℕ, zero, suc, ◌+◌, ◌≤◌, ◌<◌, max, List, []}
use Rattle.std.proofs.Common.{◌∷◌, ◌++◌, length, map, set, get_or, ℤ, pos, nat_abs, Some, refl, sym, ◌∙◌, ap}
use Rattle.std.proofs.Common.{subst, arith, replicate, min}
use Rattle.std.specs.Prelude.{slice_index_or}
use Rattle.std.specs.List.{range_with_len}
use Rattle.std.proofs.lemmas.Bool.Decides.{eqb_tells}
use Rattle.std.proofs.lemmas.Grind.{get_or-set_at}
use Rattle.std.proofs.lemmas.List.{same_lists, length-set, length-map, get_or-set_other}
use Rattle.std.proofs.lemmas.List.FromFn.{length-map-range_with_len, get_or-map-range_with_len, map-range_with_len_more}
use Rattle.its_model.specs.declared.program.Program as code
use Rattle.its_model.specs.declared.program.Rule as code_rule
use Rattle.its_model.specs.model.Programs.{Program, rule_at}
use Rattle.its_model.specs.model.Runs.{Config, Step, IsRun, count, last_rule, place_value}
use Rattle.its_model.specs.model.Spending.{values_after, step_cost, spent, spent_all}
use Rattle.its_model.specs.poly_terms.Views.{term_of}
use Rattle.its_model.specs.Views.{rule_of, program_of}
use Rattle.its_model.proofs.ListLaws.{mapped-get}
use Rattle.its_model.proofs.poly_terms.model.RunLaws.{one_if_same-same, one_if_same-other}
use Rattle.its_model.proofs.poly_terms.model.CostLaws.{stands_at, spent_more, spent_same}
use Rattle.bound_expr.specs.Limits.{cap}
use Rattle.bound_expr.specs.Capped.{capped}
use Rattle.run_replay.specs.Replays.{size_after, greatest_size, rule_numbers, places_reached, place_numbers}
use Rattle.run_replay.specs.Replays.{greatest_sizes, Sums, tally_along, IsSizeAfter}
use Rattle.run_replay.specs.ReplayAnswers.{Notes}

-- setting one element of a list over the numbers from 1 on gives the list of the function that differs at this number
-- only
pub set_listed : {X : Type 0} (f g : ℕ → X) (n k t : ℕ) (x : X) → k < n → t ≡ suc k → x ≡ g t
    → ((u : ℕ) → u ≢ t → f u ≡ g u) → set (map f (range_with_len 1 n)) k x ≡ map g (range_with_len 1 n)
set_listed {X} f g n k t x low e same other =
    same_lists _ _
    (length-set (map f (range_with_len 1 n)) k x ∙ (length-map-range_with_len f 1 n ∙ sym (length-map-range_with_len g 1 n)))
    (λ j d h. at j d (omega (arith, h, length-set (map f (range_with_len 1 n)) k x, length-map-range_with_len f 1 n)))
  where
    here : (j : ℕ) (d : X) → j < n → get_or (map g (range_with_len 1 n)) j d ≡ g (suc j)
    here j d h = get_or-map-range_with_len g 1 n j (suc j) d h (omega arith)

    at : (j : ℕ) (d : X) → j < n → get_or (set (map f (range_with_len 1 n)) k x) j d ≡ get_or (map g (range_with_len 1 n)) j d
    at j d h = go (eqb_tells j k)
      where
        go : ((j == k) ≡ true) × (j ≡ k) ⊎ ((j == k) ≡ false) × (j ≢ k)
            → get_or (set (map f (range_with_len 1 n)) k x) j d ≡ get_or (map g (range_with_len 1 n)) j d
        go (inl (test, eq)) =
            get_or-set_at (map f (range_with_len 1 n)) k j x d eq (omega (arith, low, length-map-range_with_len f 1 n))
            ∙ (same ∙ (ap g (omega (arith, e, eq)) ∙ sym (here j d h)))
        go (inr (test, ne)) =
            get_or-set_other (map f (range_with_len 1 n)) k j x d ne
            ∙ (get_or-map-range_with_len f 1 n j (suc j) d h (omega arith)
            ∙ (other (suc j) (λ q. ne (omega (arith, q, e))) ∙ sym (here j d h)))

-- a rule occurs at most as often as there are steps
pub count_at_most : (t : ℕ) (steps : List Step) → 0 < t → count t steps ≤ length steps
count_at_most t [] h = omega (arith, one_if_same-other 0 t (λ e. omega (arith, e, h)))
count_at_most t (s ∷ earlier) h = go (eqb_tells s.rule t) (count_at_most t earlier h)
  where
    go : ((s.rule == t) ≡ true) × (s.rule ≡ t) ⊎ ((s.rule == t) ≡ false) × (s.rule ≢ t) → count t earlier ≤ length earlier
        → count t (s ∷ earlier) ≤ suc (length earlier)
    go (inl (test, same)) before = omega (arith, one_if_same-same s.rule t same, before)
    go (inr (test, other)) before = omega (arith, one_if_same-other s.rule t other, before)

-- one more step by another rule isn't counted
pub count_same : (t : ℕ) (s : Step) (earlier : List Step) → s.rule ≢ t → count t earlier ≡ count t (s ∷ earlier)
count_same t s earlier ne = omega (arith, one_if_same-other s.rule t ne)

-- one more step by the rule makes the greatest absolute value the maximum of it and the value after the step
greatest_more : (p : Program) (start : List ℤ) (t i : ℕ) (s : Step) (earlier : List Step) → s.rule ≡ t
    → greatest_size p start t i (s ∷ earlier)
    ≡ max (greatest_size p start t i earlier) (size_after p start i (s ∷ earlier))
greatest_more p start t i s earlier e = go (eqb_tells s.rule t)
  where
    go : ((s.rule == t) ≡ true) × (s.rule ≡ t) ⊎ ((s.rule == t) ≡ false) × (s.rule ≢ t)
        → greatest_size p start t i (s ∷ earlier)
        ≡ max (greatest_size p start t i earlier) (size_after p start i (s ∷ earlier))
    go (inl (test, same)) = rw test refl
    go (inr (test, other)) = absurd (other e)

-- one more step by another rule doesn't change the greatest absolute value
greatest_same : (p : Program) (start : List ℤ) (t i : ℕ) (s : Step) (earlier : List Step) → s.rule ≢ t
    → greatest_size p start t i (s ∷ earlier) ≡ greatest_size p start t i earlier
greatest_same p start t i s earlier ne = go (eqb_tells s.rule t)
  where
    go : ((s.rule == t) ≡ true) × (s.rule ≡ t) ⊎ ((s.rule == t) ≡ false) × (s.rule ≢ t)
        → greatest_size p start t i (s ∷ earlier) ≡ greatest_size p start t i earlier
    go (inl (test, same)) = absurd (ne same)
    go (inr (test, other)) = rw test (omega arith)

-- functions that agree on all numbers give the same list
same_map : {X : Type 0} (f g : ℕ → X) (xs : List ℕ) → ((x : ℕ) → f x ≡ g x) → map f xs ≡ map g xs
same_map f g [] h = refl
same_map {X} f g (x ∷ xs) h = ap (λ (y : X). y ∷ map f xs) (h x) ∙ ap (λ (ys : List X). g x ∷ ys) (same_map f g xs h)

-- the row of the step's rule, raised to the values after the step, has the greatest values along all steps
row_more : (p : Program) (start : List ℤ) (s : Step) (earlier : List Step) (row : List ℕ)
    → length row ≡ places_reached (rule_at p s.rule)
    → ((j : ℕ) → j < places_reached (rule_at p s.rule) → get_or row j 0
    ≡ max (get_or (greatest_sizes p start earlier s.rule) j 0)
    (nat_abs (get_or (values_after p start (s ∷ earlier)) j (pos 0))))
    → row ≡ greatest_sizes p start (s ∷ earlier) s.rule
row_more p start s earlier row len raised =
    let n = places_reached (rule_at p s.rule) in
    let g : ℕ → ℕ = λ i. greatest_size p start s.rule i (s ∷ earlier) in
    let f : ℕ → ℕ = λ i. greatest_size p start s.rule i earlier in
    same_lists row (map g (range_with_len 1 n)) (len ∙ sym (length-map-range_with_len g 1 n))
    (λ j d h. let l : j < n = omega (arith, h, len) in
    at_zero row j d (omega (arith, h)) ∙ (raised j l
    ∙ (ap (λ (x : ℕ). max x (nat_abs (get_or (values_after p start (s ∷ earlier)) j (pos 0))))
    (get_or-map-range_with_len f 1 n j (suc j) 0 l (omega arith))
    ∙ (sym (greatest_more p start s.rule (suc j) s earlier refl)
    ∙ sym (get_or-map-range_with_len g 1 n j (suc j) d l (omega arith))))))
  where
    at_zero : (xs : List ℕ) (j d : ℕ) → j < length xs → get_or xs j d ≡ get_or xs j 0
    at_zero [] j d h = absurd (omega (arith, h))
    at_zero (x ∷ xs) zero d h = refl
    at_zero (x ∷ xs) (suc j) d h = at_zero xs j d (omega (arith, h))

-- tallies with the same parts are the same
same_sums : (a b : Sums) → a.steps ≡ b.steps → a.counts ≡ b.counts → a.greatest ≡ b.greatest → a.costs ≡ b.costs
    → a.spent ≡ b.spent → a ≡ b
same_sums a b e f g h k = λ i. record { steps = e i; counts = f i; greatest = g i; costs = h i; spent = k i }

-- adding a number to a capped sum and capping again is capping the whole sum
pub capped_more : (a b : ℕ) → capped (capped a + b) ≡ capped (b + a)
capped_more a b = capped_at a b cap
  where
    capped_at : (a b limit : ℕ) → min (min a limit + b) limit ≡ min (b + a) limit
    capped_at a b limit = omega arith

-- the tally along one more step is the tally with this step added
pub tally_more : (p : Program) (start : List ℤ) (s : Step) (earlier : List Step) (k : ℕ) (values : List ℤ) (cost : ℕ)
    (old new : Sums) → old ≡ tally_along p start earlier → Notes k values cost old new → s.rule ≡ suc k
    → k < length p.rules → cost ≡ step_cost p start s earlier → values ≡ values_after p start (s ∷ earlier)
    → length values ≡ places_reached (rule_at p s.rule) → new ≡ tally_along p start (s ∷ earlier)
tally_more p start s earlier k values cost old new is notes e low charged stands places =
    let n = length p.rules in
    let t : Notes k values cost (tally_along p start earlier) new = subst (λ (o : Sums). Notes k values cost o new) is notes in
    let counts : ℕ → ℕ = λ u. count u earlier in
    let counted : get_or (map counts (rule_numbers p)) k 0 + 1 ≡ count s.rule (s ∷ earlier) =
    omega (arith, get_or-map-range_with_len counts 1 n k s.rule 0 low (omega (arith, e)), one_if_same-same s.rule s.rule refl) in
    let row_at : get_or (map (greatest_sizes p start earlier) (rule_numbers p)) k [] ≡ greatest_sizes p start earlier s.rule =
    get_or-map-range_with_len (greatest_sizes p start earlier) 1 n k s.rule [] low (omega (arith, e)) in
    let row : t.row ≡ greatest_sizes p start (s ∷ earlier) s.rule =
    row_more p start s earlier t.row (t.places ∙ places) (λ j h. t.raised j (omega (arith, h, places))
    ∙ (ap (λ (xs : List ℕ). max (get_or xs j 0) (nat_abs (get_or values j (pos 0)))) row_at
    ∙ ap (λ (v : List ℤ). max (get_or (greatest_sizes p start earlier s.rule) j 0) (nat_abs (get_or v j (pos 0)))) stands)) in
    let costs : ℕ → ℕ = λ u. capped (spent p u start earlier) in
    let charge : capped (get_or (map costs (rule_numbers p)) k 0 + cost) ≡ capped (spent p s.rule start (s ∷ earlier)) =
    ap (λ (x : ℕ). capped (x + cost)) (get_or-map-range_with_len costs 1 n k s.rule 0 low (omega (arith, e)))
    ∙ (capped_more (spent p s.rule start earlier) cost
    ∙ ap capped (omega (arith, spent_more p s.rule start s earlier refl, charged))) in
    same_sums new (tally_along p start (s ∷ earlier)) (t.steps ∙ omega arith)
    (t.counts ∙ set_listed counts (λ u. count u (s ∷ earlier)) n k s.rule _ low e counted
    (λ u ne. count_same u s earlier (λ q. ne (sym q))))
    (t.greatest ∙ set_listed (greatest_sizes p start earlier) (greatest_sizes p start (s ∷ earlier)) n k s.rule t.row low e row
    (λ u ne. same_map (λ i. greatest_size p start u i earlier) (λ i. greatest_size p start u i (s ∷ earlier))
    (place_numbers p u) (λ i. sym (greatest_same p start u i s earlier (λ q. ne (sym q))))))
    (t.costs ∙ set_listed costs (λ u. capped (spent p u start (s ∷ earlier))) n k s.rule _ low e charge
    (λ u ne. ap capped (sym (spent_same p u start s earlier (λ q. ne (sym q))))))
    (t.spent ∙ (capped_more (spent_all p start earlier) cost
    ∙ ap capped (ap (λ (x : ℕ). x + spent_all p start earlier) charged)))

-- the absolute value at a place after a run is that at its last configuration
size_there : (p : Program) (start : List ℤ) (i : ℕ) (steps : List Step) (c : Config) → IsRun p start steps c
    → size_after p start i steps ≡ nat_abs (place_value c i)
size_there p start i steps c run = at i
  where
    at : (i : ℕ) → size_after p start i steps ≡ nat_abs (place_value c i)
    at zero = refl
    at (suc j) = ap (λ (v : List ℤ). nat_abs (slice_index_or v j (pos 0))) (sym (stands_at p start steps c run))

-- a value to which a prefix leads is also one of the run with one more step
size_behind : (p : Program) (start : List ℤ) (s : Step) (steps : List Step) (t i n : ℕ)
    → IsSizeAfter p start steps t i n → IsSizeAfter p start (s ∷ steps) t i n
size_behind p start s steps t i n h = record {
  later = s ∷ h.later;
  earlier = h.earlier;
  order = ap (λ (ss : List Step). s ∷ ss) h.order;
  end = h.end;
  run = h.run;
  last = h.last;
  size = h.size;
}

-- no prefix that ends with the rule leads to an absolute value greater than the greatest one
pub greatest_is_most : (p : Program) (start : List ℤ) (steps : List Step) (t i : ℕ) → 0 < t
    → (m : ℕ) → IsSizeAfter p start steps t i m → m ≤ greatest_size p start t i steps
greatest_is_most p start [] t i h m w = go w.later w.earlier w.order w.last
  where
    go : (later earlier : List Step) → [] ≡ later ++ earlier → last_rule earlier ≡ t → m ≤ 0
    go [] [] e last = absurd (omega (arith, last, h))
    go [] (x ∷ earlier) e last = absurd (no e)
      where
        no : [] ≡ x ∷ earlier → ⊥
        no k = cc
    go (x ∷ later) earlier e last = absurd (no e)
      where
        no : [] ≡ x ∷ (later ++ earlier) → ⊥
        no k = cc
greatest_is_most p start (s ∷ earlier) t i h m w =
    go w.later w.earlier w.order w.run w.last w.size (greatest_is_most p start earlier t i h m)
  where
    go : (after before : List Step) → s ∷ earlier ≡ after ++ before → IsRun p start before w.end → last_rule before ≡ t
        → nat_abs (place_value w.end i) ≡ m
        → (IsSizeAfter p start earlier t i m → m ≤ greatest_size p start t i earlier)
        → m ≤ greatest_size p start t i (s ∷ earlier)
    go [] before e run last size ih =
        let run' : IsRun p start (s ∷ earlier) w.end = subst (λ (ss : List Step). IsRun p start ss w.end) (sym e) run in
        let same : s.rule ≡ t = ap last_rule e ∙ last in
        omega (arith, greatest_more p start t i s earlier same, size_there p start i (s ∷ earlier) w.end run', size)
    go (x ∷ after) before e run last size ih =
        let rest : earlier ≡ after ++ before = cc in
        let le = ih (record { later = after; earlier = before; order = rest; end = w.end; run = run; last = last; size = size }) in
        go' (eqb_tells s.rule t) le
      where
        go' : ((s.rule == t) ≡ true) × (s.rule ≡ t) ⊎ ((s.rule == t) ≡ false) × (s.rule ≢ t)
            → m ≤ greatest_size p start t i earlier → m ≤ greatest_size p start t i (s ∷ earlier)
        go' (inl (test, same)) le = omega (arith, greatest_more p start t i s earlier same, le)
        go' (inr (test, other)) le = omega (arith, greatest_same p start t i s earlier other, le)

-- some prefix that ends with the rule leads to the greatest absolute value, or the rule doesn't occur and it is 0
pub greatest_is_reached : (p : Program) (start : List ℤ) (steps : List Step) (t i : ℕ) → 0 < t → (c : Config)
    → IsRun p start steps c
    → IsSizeAfter p start steps t i (greatest_size p start t i steps)
    ⊎ ((count t steps ≡ 0) × (greatest_size p start t i steps ≡ 0))
greatest_is_reached p start [] t i h c run = inr (one_if_same-other 0 t (λ e. omega (arith, e, h)), refl)
greatest_is_reached p start (s ∷ earlier) t i h c (b, run, step) =
    go (eqb_tells s.rule t) (greatest_is_reached p start earlier t i h b run)
  where
    here : s.rule ≡ t → IsSizeAfter p start (s ∷ earlier) t i (size_after p start i (s ∷ earlier))
    here same = record {
      later = [];
      earlier = s ∷ earlier;
      order = refl;
      end = c;
      run = (b, run, step);
      last = same;
      size = sym (size_there p start i (s ∷ earlier) c (b, run, step));
    }

    greater : (x y : ℕ) → ((max x y ≡ y) × (x ≤ y)) ⊎ ((max x y ≡ x) × (y < x))
    greater x y = go'' (at_most x y)
      where
        at_most : (x y : ℕ) → (x ≤ y) ⊎ (y < x)
        at_most zero y = inl (omega arith)
        at_most (suc x) zero = inr (omega arith)
        at_most (suc x) (suc y) = elim (at_most x y) [ inl l ↦ inl (omega arith) | inr l ↦ inr (omega arith) ]

        go'' : (x ≤ y) ⊎ (y < x) → ((max x y ≡ y) × (x ≤ y)) ⊎ ((max x y ≡ x) × (y < x))
        go'' (inl l) = inl (omega (arith, l), l)
        go'' (inr l) = inr (omega (arith, l), l)

    go : ((s.rule == t) ≡ true) × (s.rule ≡ t) ⊎ ((s.rule == t) ≡ false) × (s.rule ≢ t)
        → IsSizeAfter p start earlier t i (greatest_size p start t i earlier)
        ⊎ ((count t earlier ≡ 0) × (greatest_size p start t i earlier ≡ 0))
        → IsSizeAfter p start (s ∷ earlier) t i (greatest_size p start t i (s ∷ earlier))
        ⊎ ((count t (s ∷ earlier) ≡ 0) × (greatest_size p start t i (s ∷ earlier) ≡ 0))
    go (inl (test, same)) before =
        either (greater (greatest_size p start t i earlier) (size_after p start i (s ∷ earlier))) before
      where
        either : ((max (greatest_size p start t i earlier) (size_after p start i (s ∷ earlier))
            ≡ size_after p start i (s ∷ earlier))
            × (greatest_size p start t i earlier ≤ size_after p start i (s ∷ earlier)))
            ⊎ ((max (greatest_size p start t i earlier) (size_after p start i (s ∷ earlier))
            ≡ greatest_size p start t i earlier)
            × (size_after p start i (s ∷ earlier) < greatest_size p start t i earlier))
            → IsSizeAfter p start earlier t i (greatest_size p start t i earlier)
            ⊎ ((count t earlier ≡ 0) × (greatest_size p start t i earlier ≡ 0))
            → IsSizeAfter p start (s ∷ earlier) t i (greatest_size p start t i (s ∷ earlier))
            ⊎ ((count t (s ∷ earlier) ≡ 0) × (greatest_size p start t i (s ∷ earlier) ≡ 0))
        either (inl (e, l)) before =
            inl (subst (IsSizeAfter p start (s ∷ earlier) t i) (sym (greatest_more p start t i s earlier same ∙ e)) (here same))
        either (inr (e, l)) (inl w) =
            inl (subst (IsSizeAfter p start (s ∷ earlier) t i) (sym (greatest_more p start t i s earlier same ∙ e))
            (size_behind p start s earlier t i _ w))
        either (inr (e, l)) (inr (none, zero_there)) = absurd (omega (arith, l, zero_there))
    go (inr (test, other)) (inl w) =
        inl (subst (IsSizeAfter p start (s ∷ earlier) t i) (sym (greatest_same p start t i s earlier other))
        (size_behind p start s earlier t i _ w))
    go (inr (test, other)) (inr (none, zero_there)) =
        inr (sym (count_same t s earlier other) ∙ none, greatest_same p start t i s earlier other ∙ zero_there)

-- a list of zeros is the list of the function 0
zeros_listed : (a m : ℕ) → replicate {A = ℕ} m 0 ≡ map (λ (i : ℕ). 0) (range_with_len a m)
zeros_listed a zero = refl
zeros_listed a (suc m) = ap (λ (xs : List ℕ). let z : ℕ = 0 in z ∷ xs) (zeros_listed (a + 1) m)

-- without steps no rule occurs
zeros_counted : (a m : ℕ) → 0 < a → replicate {A = ℕ} m 0 ≡ map (λ t. count t []) (range_with_len a m)
zeros_counted a zero h = refl
zeros_counted a (suc m) h =
    ap (λ (n : ℕ). n ∷ replicate {A = ℕ} m 0) (sym (one_if_same-other 0 a (λ e. omega (arith, e, h))))
    ∙ ap (λ (xs : List ℕ). count a [] ∷ xs) (zeros_counted (a + 1) m (omega arith))

-- the rows of the first rules, extended by one more
pub rows_more : (p : code.Program) (k m : ℕ) (r : code_rule.Rule) (rows : List (List ℕ)) → k < length p.rules.items
    → r ≡ get_or p.rules.items k r → m ≡ length r.updates.items
    → rows ≡ map (greatest_sizes (program_of p) [] []) (range_with_len 1 k)
    → rows ++ replicate {A = ℕ} m 0 ∷ [] ≡ map (greatest_sizes (program_of p) [] []) (range_with_len 1 (k + 1))
rows_more p k m r rows low e is h =
    let f : ℕ → List ℕ = greatest_sizes (program_of p) [] [] in
    let at : rule_at (program_of p) (suc k) ≡ Some (rule_of r) = mapped-get rule_of p.rules.items k r low e in
    let n : places_reached (rule_at (program_of p) (suc k)) ≡ m =
    ap places_reached at ∙ (length-map r.updates.items term_of ∙ sym is) in
    let row : replicate {A = ℕ} m 0 ≡ f (suc k) =
    zeros_listed 1 m ∙ ap (λ (j : ℕ). map (λ (i : ℕ). 0) (range_with_len 1 j)) (sym n) in
    ap (λ (xs : List (List ℕ)). xs ++ replicate {A = ℕ} m 0 ∷ []) h
    ∙ (ap (λ (x : List ℕ). map f (range_with_len 1 k) ++ x ∷ []) row ∙ sym (map-range_with_len_more f 1 k (suc k) (omega arith)))

-- without steps no rule costs anything
zeros_spent : (a m : ℕ) → replicate {A = ℕ} m 0 ≡ map (λ (t : ℕ). capped 0) (range_with_len a m)
zeros_spent a m = zeros_listed a m

-- zeros for every rule and place are the tally without steps
pub start_tally : (p : Program) (start : List ℤ) (n m k : ℕ) (counts costs : List ℕ) (rows : List (List ℕ))
    → n ≡ length p.rules → counts ≡ replicate {A = ℕ} n 0 → m ≡ length p.rules → costs ≡ replicate {A = ℕ} m 0
    → k ≡ length p.rules → rows ≡ map (greatest_sizes p [] []) (range_with_len 1 k)
    → record { steps = 0; counts = counts; greatest = rows; costs = costs; spent = 0 } ≡ tally_along p start []
start_tally p start n m k counts costs rows all zeros all_costs free whole h =
    same_sums (record { steps = 0; counts = counts; greatest = rows; costs = costs; spent = 0 }) (tally_along p start []) refl
    (zeros ∙ (ap (λ (m : ℕ). replicate {A = ℕ} m 0) all ∙ zeros_counted 1 (length p.rules) (omega arith)))
    (h ∙ ap (λ (m : ℕ). map (greatest_sizes p [] []) (range_with_len 1 m)) whole)
    (free ∙ (ap (λ (m : ℕ). replicate {A = ℕ} m 0) all_costs ∙ zeros_spent 1 (length p.rules)))
    refl
