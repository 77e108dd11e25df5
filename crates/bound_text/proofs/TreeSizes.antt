-- The tree so far grows with each piece.
use Rattle.std.proofs.Common.{◌≡◌, ℕ, suc, ◌+◌, ◌≤◌, max, Bool, true, false, cond, refl, ap, ◌∙◌, arith}
use Rattle.text_core.specs.model.Bounds.{Bound, Constant, Input, SumOf, ProductOf, MaximumOf, PowerOf, Parts, NoParts}
use Rattle.text_core.specs.model.Bounds.{Part}
use Rattle.bound_expr.specs.Measure.{node_count, node_count_of_all, depth_of, maximum_depth}
use Rattle.bound_text.specs.Shapes.{is_sum, is_empty, with_part}
use Rattle.bound_text.specs.Pieces.{Piece}
use Rattle.bound_text.specs.ParserStates.{Arguments, Exponent, Factor, Outer, ParserState, node_of_any, sum_node, product_node}
use Rattle.bound_text.specs.ParserStates.{in_factor, nodes_of, inner_levels, levels_of, levels_round, levels_above, term_of}
use Rattle.bound_text.specs.ParserStates.{bound_of_parts, can_end}
use Rattle.bound_text.specs.Steps.{with_copies}
use Rattle.bound_text.proofs.PartLaws.{node_count-with_part, depth-with_part, product_node-with_part}
use Rattle.bound_text.proofs.JoiningLaws.{as_one-with_part}
use Rattle.bound_text.proofs.RunLaws.{node_count-with_copies, depth-with_copies, product_two}
use Rattle.bound_text.proofs.StepCases.{Leads, of_variable, of_number, of_maximum, of_sum, of_run, of_power}
use Rattle.bound_text.proofs.StepCases.{of_power_of, of_exponent, of_times, of_base, of_caret, of_blank, of_comma}
use Rattle.bound_text.proofs.StepCases.{of_close, of_plus, of_term, of_argument}

-- from one state to the next the tree so far doesn't shrink, and the surroundings of the second state were there before
-- or are counted in it
pub record Grows (f g : ParserState) : Type 0 where
  pub nodes : nodes_of f ≤ nodes_of g
  pub levels : levels_of f ≤ levels_of g
  pub round : levels_round g.outer ≤ max (levels_of f) (inner_levels g)

-- parts with one more count as some
any-more : (bs : Parts) (b : Bound) → node_of_any (with_part bs b) ≡ 1
any-more NoParts b = refl
any-more (Part c cs) b = refl

-- whether there are parts counts as one at most
any-small : (bs : Parts) → node_of_any bs ≤ 1
any-small NoParts = omega arith
any-small (Part b bs) = omega arith

-- factors with a sum in brackets as one more count as a product
product_node-sum : (bs : Parts) (b : Bound) → is_sum b ≡ true → product_node (with_part bs b) ≡ 1
product_node-sum NoParts b h = rw h refl
product_node-sum (Part c NoParts) b h = refl
product_node-sum (Part c (Part d ds)) b h = refl

-- factors that are not empty count as a product at most once
product_some : (fs : Parts) → is_empty fs ≡ false → product_node fs ≤ node_of_any fs
product_some NoParts h = cc
product_some (Part b NoParts) h = go (is_sum b)
  where
    go : (v : Bool) → cond v 1 0 ≤ 1
    go true = omega arith
    go false = omega arith
product_some (Part b (Part c cs)) h = omega arith

-- the nodes of a term are those of its factors, and one if it is a product
term_nodes : (fs : Parts) → can_end fs ≡ true → node_count (term_of fs) ≡ product_node fs + node_count_of_all fs
term_nodes NoParts h = cc
term_nodes (Part (Constant c) NoParts) h = refl
term_nodes (Part (Input i) NoParts) h = refl
term_nodes (Part (SumOf bs) NoParts) h = cc
term_nodes (Part (ProductOf bs) NoParts) h = omega arith
term_nodes (Part (MaximumOf bs) NoParts) h = omega arith
term_nodes (Part (PowerOf c e) NoParts) h = omega arith
term_nodes (Part b (Part c cs)) h = refl

-- the levels of a term are those of its factors, and one if it is a product
term_depth : (fs : Parts) → can_end fs ≡ true → depth_of (term_of fs) ≡ product_node fs + maximum_depth fs
term_depth NoParts h = cc
term_depth (Part (Constant c) NoParts) h = refl
term_depth (Part (Input i) NoParts) h = refl
term_depth (Part (SumOf bs) NoParts) h = cc
term_depth (Part (ProductOf bs) NoParts) h = omega arith
term_depth (Part (MaximumOf bs) NoParts) h = omega arith
term_depth (Part (PowerOf c e) NoParts) h = omega arith
term_depth (Part b (Part c cs)) h = refl

-- the nodes of a bound are those of its terms and factors, and one for each of sum and product
pub bound_nodes : (ts fs : Parts) → can_end fs ≡ true → node_count (bound_of_parts ts fs) ≡ node_of_any ts + node_count_of_all ts + product_node fs + node_count_of_all fs
bound_nodes NoParts fs h = omega (arith, term_nodes fs h)
bound_nodes (Part c cs) fs h =
    ap node_count (as_one-with_part c cs (term_of fs))
    ∙ omega (arith, node_count-with_part (Part c cs) (term_of fs), term_nodes fs h)

-- the levels of a bound are those of its terms and factors, and one for each of sum and product
pub bound_depth : (ts fs : Parts) → can_end fs ≡ true → depth_of (bound_of_parts ts fs) ≡ node_of_any ts + max (maximum_depth ts) (product_node fs + maximum_depth fs)
bound_depth NoParts fs h = omega (arith, term_depth fs h)
bound_depth (Part c cs) fs h =
    ap depth_of (as_one-with_part c cs (term_of fs))
    ∙ omega (arith, depth-with_part (Part c cs) (term_of fs), term_depth fs h)

-- a bound that is a sum has terms before its last term
sum_terms : (ts fs : Parts) → can_end fs ≡ true → is_sum (bound_of_parts ts fs) ≡ true → node_of_any ts ≡ 1
sum_terms (Part c cs) fs h s = refl
sum_terms NoParts NoParts h s = cc
sum_terms NoParts (Part (Constant c) NoParts) h s = cc
sum_terms NoParts (Part (Input i) NoParts) h s = cc
sum_terms NoParts (Part (SumOf bs) NoParts) h s = cc
sum_terms NoParts (Part (ProductOf bs) NoParts) h s = cc
sum_terms NoParts (Part (MaximumOf bs) NoParts) h s = cc
sum_terms NoParts (Part (PowerOf c e) NoParts) h s = cc
sum_terms NoParts (Part b (Part c cs)) h s = cc

-- terms with one more count as a sum, unless its bracket counts it
sum_more : (o : Outer) (ts : Parts) (t : Bound) → sum_node o (with_part ts t) ≡ cond (in_factor o) 0 1
sum_more o ts t = ap (λ (n : ℕ). cond (in_factor o) 0 n) (any-more ts t)

-- a sum counts as one node at most
sum_small : (o : Outer) (ts : Parts) → sum_node o ts ≤ cond (in_factor o) 0 1
sum_small o ts = go (in_factor o)
  where
    go : (v : Bool) → cond v 0 (node_of_any ts) ≤ cond v 0 1
    go true = omega arith
    go false = any-small ts

-- the maximum of two numbers is at most any upper bound of both
max_le : (a b c : ℕ) → a ≤ c → b ≤ c → max a b ≤ c
max_le a b c h k = omega arith

-- a number that is at most the first of two is at most their maximum
le_left : (a b c : ℕ) → a ≤ b → a ≤ max b c
le_left a b c h = omega arith

-- a number that is at most the second of two is at most their maximum
le_right : (a b c : ℕ) → a ≤ c → a ≤ max b c
le_right a b c h = omega arith

-- the levels in a bracket are those of its item, as a factor of the product around it
close_levels : (LR A S P PB TA FA FB B K T N F I : ℕ) → PB ≡ P → FB ≡ max FA I → I ≡ 1 + max B (K + max T (N + F))
    → max (max LR (max (A + S + TA) (max (A + S + P + FA) (A + S + P + 1 + B)))) (max (A + S + P + 1 + K + T) (A + S + P + 1 + K + N + max F 0)) ≤ max LR (max (A + S + TA) (A + S + PB + max FB 0))
close_levels LR A S P PB TA FA FB B K T N F I p f i =
    max_le _ _ _
    (max_le LR _ _ (le_left LR LR _ (omega arith)) (max_le (A + S + TA) _ _ (le_right _ LR _ (le_left (A + S + TA) (A + S + TA) _ (omega arith)))
    (max_le (A + S + P + FA) (A + S + P + 1 + B) _ (le_right _ LR _ (le_right _ (A + S + TA) _ (factor FA (omega (arith, f))))) (le_right _ LR _ (le_right _ (A + S + TA) _ (item (1 + B) (omega (arith, i))))))))
    (max_le (A + S + P + 1 + K + T) (A + S + P + 1 + K + N + max F 0) _ (le_right _ LR _ (le_right _ (A + S + TA) _ (deep (1 + K + T) (omega (arith, i))))) (le_right _ LR _ (le_right _ (A + S + TA) _ (deeper (1 + K + N + F) (omega (arith, i))))))
  where
    factor : (x : ℕ) → x ≤ FB → A + S + P + x ≤ A + S + PB + max FB 0
    factor x h = omega (arith, p)

    item : (x : ℕ) → x ≤ I → A + S + P + 1 + B ≤ A + S + PB + max FB 0
    item x h = omega (arith, p, f, i)

    deep : (x : ℕ) → x ≤ I → A + S + P + 1 + K + T ≤ A + S + PB + max FB 0
    deep x h = omega (arith, p, f, i)

    deeper : (x : ℕ) → x ≤ I → A + S + P + 1 + K + N + max F 0 ≤ A + S + PB + max FB 0
    deeper x h = omega (arith, p, f, i)

-- the levels of a finished argument are counted in those of the maximum's arguments
argument_levels : (LR A S P TA FA B BB K T N F : ℕ) → BB ≡ max B (K + max T (N + F))
    → max (max LR (max (A + S + TA) (max (A + S + P + FA) (A + S + P + 1 + B)))) (max (A + S + P + 1 + K + T) (A + S + P + 1 + K + N + max F 0))
    ≤ max (max LR (max (A + S + TA) (max (A + S + P + FA) (A + S + P + 1 + BB)))) (max (A + S + P + 1 + 0 + 0) (A + S + P + 1 + 0 + 0 + max 0 0))
argument_levels LR A S P TA FA B BB K T N F b =
    le_left _ (max LR (max (A + S + TA) (max (A + S + P + FA) (A + S + P + 1 + BB)))) _
    (max_le _ _ _
    (max_le LR _ _ (le_left LR LR _ (omega arith)) (max_le (A + S + TA) _ _ (le_right _ LR _ (le_left (A + S + TA) (A + S + TA) _ (omega arith)))
    (max_le (A + S + P + FA) (A + S + P + 1 + B) _ (le_right _ LR _ (le_right _ (A + S + TA) _ (le_left (A + S + P + FA) (A + S + P + FA) _ (omega arith)))) (le_right _ LR _ (le_right _ (A + S + TA) _ (le_right _ (A + S + P + FA) _ (omega (arith, b))))))))
    (max_le (A + S + P + 1 + K + T) (A + S + P + 1 + K + N + max F 0) _ (le_right _ LR _ (le_right _ (A + S + TA) _ (le_right _ (A + S + P + FA) _ (omega (arith, b))))) (le_right _ LR _ (le_right _ (A + S + TA) _ (le_right _ (A + S + P + FA) _ (omega (arith, b)))))))

-- if x + B is at most u, and x + d at most v, then x plus the maximum of B and d is at most the maximum of u and v
either : (x B BB u v d : ℕ) → BB ≡ max B d → x + B ≤ u → x + d ≤ v → x + BB ≤ max u v
either x B BB u v d e h k = omega arith

-- the surroundings of the next argument were there before, or are counted in the tree
argument_round : (LR A S P TA FA B BB K T N F G : ℕ) → BB ≡ max B (K + max T (N + F))
    → max LR (max (A + S + TA) (max (A + S + P + FA) (A + S + P + 1 + BB)))
    ≤ max (max (max LR (max (A + S + TA) (max (A + S + P + FA) (A + S + P + 1 + B)))) (max (A + S + P + 1 + K + T) (A + S + P + 1 + K + N + max F 0))) G
argument_round LR A S P TA FA B BB K T N F G b = le_left _ (max U V) G
    (max_le LR _ _ (le_left _ U V (le_left LR LR _ (omega arith)))
    (max_le (A + S + TA) _ _ (le_left _ U V (le_right _ LR _ (le_left (A + S + TA) (A + S + TA) _ (omega arith))))
    (max_le (A + S + P + FA) (A + S + P + 1 + BB) _ (le_left _ U V (le_right _ LR _ (le_right _ (A + S + TA) _ (le_left (A + S + P + FA) (A + S + P + FA) _ (omega arith))))) both)))
  where
    U : ℕ
    U = max LR (max (A + S + TA) (max (A + S + P + FA) (A + S + P + 1 + B)))

    V : ℕ
    V = max (A + S + P + 1 + K + T) (A + S + P + 1 + K + N + max F 0)

    inner : A + S + P + 1 + (K + max T (N + F)) ≤ V
    inner = omega arith

    old : A + S + P + 1 + B ≤ U
    old = le_right _ LR _ (le_right _ (A + S + TA) _ (le_right _ (A + S + P + FA) _ (omega arith)))

    both : A + S + P + 1 + BB ≤ max U V
    both = either (A + S + P + 1) B BB U V (K + max T (N + F)) b old inner

-- with each accepted piece the tree so far doesn't shrink
pub grows : (f g : ParserState) (piece : Piece) → Leads f piece g → Grows f g
grows f g piece (of_variable o ts fs i) =
    let n = node_count-with_part fs (Input i) in let d = depth-with_part fs (Input i) in let p = product_node-with_part fs (Input i) refl in
    record { nodes = omega (arith, n, p); levels = omega (arith, d, p); round = omega arith }
grows f g piece (of_number o ts fs c) =
    let n = node_count-with_part fs (Constant c) in let d = depth-with_part fs (Constant c) in let p = product_node-with_part fs (Constant c) refl in
    record { nodes = omega (arith, n, p); levels = omega (arith, d, p); round = omega arith }
grows f g piece (of_maximum o ts fs) = record { nodes = omega arith; levels = omega arith; round = omega arith }
grows f g piece (of_sum o ts NoParts) = record { nodes = omega arith; levels = omega arith; round = omega arith }
grows f g piece (of_sum o ts (Part b bs)) = record { nodes = omega arith; levels = omega arith; round = omega arith }
grows f g piece (of_run o ts fs i n) =
    let k = node_count-with_copies (suc (suc n)) i fs in let d = depth-with_copies (suc n) i fs in let p = product_two (with_copies n i fs) (Input i) (Input i) in let a = any-small fs in
    record { nodes = omega (arith, k, p, a); levels = omega (arith, d, p, a); round = omega arith }
grows f g piece (of_power o ts fs c m) =
    let n = node_count-with_part fs (PowerOf c (Constant m)) in let d = depth-with_part fs (PowerOf c (Constant m)) in let p = product_node-with_part fs (PowerOf c (Constant m)) refl in
    record { nodes = omega (arith, n, p); levels = omega (arith, d, p); round = omega arith }
grows f g piece (of_power_of o ts fs c i) =
    let n = node_count-with_part fs (PowerOf c (Input i)) in let d = depth-with_part fs (PowerOf c (Input i)) in let p = product_node-with_part fs (PowerOf c (Input i)) refl in
    record { nodes = omega (arith, n, p); levels = omega (arith, d, p); round = omega arith }
grows f g piece (of_exponent o ts fs c) = record { nodes = omega arith; levels = omega arith; round = omega arith }
grows f g piece (of_times o ts fs h) = let p = product_some fs h in record { nodes = omega (arith, p); levels = omega (arith, p); round = omega arith }
grows f g piece (of_base o ts fs c) =
    let n = node_count-with_part fs (Constant c) in let d = depth-with_part fs (Constant c) in let p = product_node-with_part fs (Constant c) refl in
    record { nodes = omega (arith, n, p); levels = omega (arith, d, p); round = omega arith }
grows f g piece (of_caret o ts fs i) =
    let n = node_count-with_part fs (Input i) in let d = depth-with_part fs (Input i) in let p = product_node-with_part fs (Input i) refl in
    record { nodes = omega (arith, n, p); levels = omega (arith, d, p); round = omega arith }
grows f g piece (of_blank o ts fs h) = let s = sum_small o ts in record { nodes = omega (arith, s); levels = omega (arith, s); round = omega arith }
grows f g piece (of_comma o ts fs h) = record { nodes = omega arith; levels = omega arith; round = omega arith }
grows f g piece (of_close (Arguments bs) o ts' fs' ts fs h closes) =
    let b = bound_of_parts ts fs in
    let n = node_count-with_part fs' (MaximumOf (with_part bs b)) in let d = depth-with_part fs' (MaximumOf (with_part bs b)) in let p = product_node-with_part fs' (MaximumOf (with_part bs b)) refl in
    let n' = node_count-with_part bs b in let d' = depth-with_part bs b in
    record {
      nodes = omega (arith, n, p, n', bound_nodes ts fs h);
      levels =
          close_levels (levels_round o) (levels_above o) (sum_node o ts') (node_of_any fs') _ (maximum_depth ts') (maximum_depth fs') _ (maximum_depth bs) (node_of_any ts) (maximum_depth ts) (product_node fs) (maximum_depth fs)
          (1 + max (maximum_depth bs) (depth_of b)) p (d ∙ ap (λ (v : ℕ). max (maximum_depth fs') (1 + v)) d') (ap (λ (v : ℕ). 1 + max (maximum_depth bs) v) (bound_depth ts fs h));
      round = le_left _ (levels_of f) (inner_levels g) (le_left _ (levels_round f.outer) (inner_levels f) (le_left (levels_round o) (levels_round o) _ (omega arith)));
    }
grows f g piece (of_close (Exponent c) o ts' fs' ts fs h closes) =
    let b = bound_of_parts ts fs in
    let n = node_count-with_part fs' (PowerOf c b) in let d = depth-with_part fs' (PowerOf c b) in let p = product_node-with_part fs' (PowerOf c b) refl in
    record {
      nodes = omega (arith, n, p, bound_nodes ts fs h);
      levels =
          close_levels (levels_round o) (levels_above o) (sum_node o ts') (node_of_any fs') _ (maximum_depth ts') (maximum_depth fs') _ 0 (node_of_any ts) (maximum_depth ts) (product_node fs) (maximum_depth fs)
          (1 + depth_of b) p d (let e = bound_depth ts fs h in omega arith);
      round = le_left _ (levels_of f) (inner_levels g) (le_left _ (levels_round f.outer) (inner_levels f) (le_left (levels_round o) (levels_round o) _ (omega arith)));
    }
grows f g piece (of_close Factor o ts' fs' ts fs h closes) =
    let b = bound_of_parts ts fs in
    let n = node_count-with_part fs' b in let d = depth-with_part fs' b in let p = product_node-sum fs' b closes in let s = sum_terms ts fs h closes in
    record {
      nodes = omega (arith, n, p, s, bound_nodes ts fs h);
      levels =
          close_levels (levels_round o) (levels_above o) (sum_node o ts') 1 _ (maximum_depth ts') (maximum_depth fs') _ 0 0 (maximum_depth ts) (product_node fs) (maximum_depth fs)
          (depth_of b) p d (let e = bound_depth ts fs h in omega (arith, s));
      round = le_left _ (levels_of f) (inner_levels g) (le_left _ (levels_round f.outer) (inner_levels f) (le_left (levels_round o) (levels_round o) _ (omega arith)));
    }
grows f g piece (of_plus o ts fs) = record { nodes = omega arith; levels = omega arith; round = omega arith }
grows f g piece (of_term o ts fs h) =
    let t = term_of fs in
    let n = node_count-with_part ts t in let d = depth-with_part ts t in let s = sum_more o ts t in
    record { nodes = omega (arith, n, s, term_nodes fs h); levels = omega (arith, d, s, term_depth fs h); round = omega arith }
grows f g piece (of_argument o bs ts' fs' ts fs h) =
    let b = bound_of_parts ts fs in
    let n = node_count-with_part bs b in let d = depth-with_part bs b in
    let e : maximum_depth (with_part bs b) ≡ max (maximum_depth bs) (node_of_any ts + max (maximum_depth ts) (product_node fs + maximum_depth fs)) = d ∙ ap (max (maximum_depth bs)) (bound_depth ts fs h) in
    record {
      nodes = omega (arith, n, bound_nodes ts fs h);
      levels =
          argument_levels (levels_round o) (levels_above o) (sum_node o ts') (node_of_any fs') (maximum_depth ts') (maximum_depth fs') (maximum_depth bs) _ (node_of_any ts) (maximum_depth ts) (product_node fs) (maximum_depth fs) e;
      round =
          argument_round (levels_round o) (levels_above o) (sum_node o ts') (node_of_any fs') (maximum_depth ts') (maximum_depth fs') (maximum_depth bs) _ (node_of_any ts) (maximum_depth ts) (product_node fs) (maximum_depth fs)
          (inner_levels g) e;
    }
