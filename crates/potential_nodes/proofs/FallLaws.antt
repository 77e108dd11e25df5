-- An accepted node that pays for charges is sound.
use Rattle.std.proofs.Common.{◌≡◌, ◌≢◌, ◌⊎◌, inl, inr, ℕ, ◌+◌, ◌<◌, ◌≤◌, ◌==◌, Bool, true, false, List, [], ◌∷◌, ◌++◌, Option, Some, None}
use Rattle.std.proofs.Common.{refl, sym, ap, subst, arith, map}
use Rattle.std.specs.Prelude.{ℤ, pos, negsuc, ◌*ℤ◌, ◌≤ℤ◌, nat_lt, if◌then◌else◌}
use Rattle.std.specs.List.{AllByRecursion}
use Rattle.std.proofs.lemmas.Bool.{ltb-true}
use Rattle.std.proofs.lemmas.Bool.Decides.{eqb_tells}
use Rattle.std.proofs.lemmas.Bool.Decides.{nat_tests}
use Rattle.potentials.specs.model.Programs.{rule_at}
use Rattle.potentials.specs.model.Polynomials.{Polynomial, polynomial_value}
use Rattle.potentials.specs.model.Paths.{source_in}
use Rattle.potentials.specs.model.Spending.{or_zero}
use Rattle.potentials.specs.model.Runs.{Config, Step}
use Rattle.potentials.specs.Sums.{charges}
use Rattle.potentials.specs.Potentials.{taken, payments, IsTaken, IsPayment}
use Rattle.potentials.specs.Nodes.{IsAtLeastQuotient, first_level, AlwaysPays}
use Rattle.potentials.proofs.NodeLaws.{falls, parts}
use Rattle.signed_bounds.specs.Bounds.{Signed, positive_part, signed_val, signed_sum}
use Rattle.signed_bounds.specs.Safe.{IsSafe}
use Rattle.signed_bounds.specs.Within.{within, WithinHolds}
use Rattle.potential_nodes.specs.Lookup.{lookup, is_there, is_below_all, ascends}
use Rattle.potential_nodes.specs.PolynomialTerms.{reads_below}
use Rattle.potential_nodes.specs.Ground.{Ground, IsTrueGround}
use Rattle.potential_nodes.specs.Facts.{SignedFact, SumFact, HoldsSigned, AllSignedHold, is_never}
use Rattle.potential_nodes.specs.Checks.{Check, check, AllHold, BadShape, LowBound}
use Rattle.potential_nodes.specs.Tables.{SymbolFunction, Move, PotentialTable, function_at, form_in, potential_of, has_function}
use Rattle.potential_nodes.specs.Tables.{table_shape, missing_checks, move_check, start_bound, start_bound_in}
use Rattle.potential_nodes.specs.Falls.{Payment, FallNode, payer, payment_at, amount_in, amount_at, goal_of, payment_charge}
use Rattle.potential_nodes.specs.Falls.{charges_of, payment_shape, sum_shape, gain_check, floor_check, amount_check}
use Rattle.potential_nodes.specs.Falls.{gain_parts, fall_bound, fall_checks}
use Rattle.potential_nodes.specs.Laws.{FallsAreSound}
use Rattle.potential_nodes.proofs.LookupLaws.{both-hold, is_there-some, lookup-all, all-map, all-append, all-weaker, all-both}
use Rattle.potential_nodes.proofs.CheckLaws.{all-hold}
use Rattle.potential_nodes.proofs.FactLaws.{never-steps}
use Rattle.potential_nodes.proofs.TableLaws.{TableHolds, table-holds, floor-holds, form-holds, source-has, moves-hold}
use Rattle.potential_nodes.proofs.GainLaws.{HasGainBound, gains-bounded, potential-gains}

-- the positive part in a signed bound is that of the model
pub part-is : (z : ℤ) → positive_part z ≡ or_zero z
part-is (pos n) = refl
part-is (negsuc n) = refl

-- the bound of the start has the value of the level there
pub start-is : (g : Ground) (tab : PotentialTable) (start : List ℤ)
    → signed_val (start_bound g tab) start ≡ first_level g.program (potential_of tab) start
start-is g tab start = go (function_at tab g.program.start)
  where
    go : (o : Option SymbolFunction)
        → signed_val (start_bound_in o) start ≡ (if is_there o then or_zero (polynomial_value (form_in o) start) else 0)
    go None = refl
    go (Some f) = part-is (polynomial_value f.form start)

-- den is at least 1
pub den-over_0 : (g : Ground) (tab : PotentialTable) (amounts : ℕ → Polynomial) (never : ℕ → Bool)
    → TableHolds g tab amounts never → 1 ≤ tab.den
den-over_0 g tab amounts never table = let one = table.den in grind (arith, nat_tests)

-- the conditions that the checks of such a node ensure
record FallHolds (g : Ground) (facts : List SignedFact) (n : FallNode) (b : Signed) : Type 0 where
  pub table : TableHolds g n.potential (amount_at n) (is_never facts)
  pub ascending : ascends (map payer n.payments) ≡ true
  pub shapes : AllByRecursion (λ y. (payment_shape g n.potential y).holds ≡ true) n.payments
  pub cited : AllByRecursion (λ m. (sum_shape facts m).holds ≡ true) n.potential.moves
  pub floors : AllByRecursion (λ y. (floor_check g n.potential y).holds ≡ true) n.payments
  pub amounts : AllByRecursion (λ y. (amount_check g y).holds ≡ true) n.payments
  pub gains : AllByRecursion (λ m. (gain_check g m).holds ≡ true) n.potential.moves
  pub bound : within g.is_safe n.potential.den (fall_bound g facts n.potential) b ≡ true

-- if all checks hold, the conditions hold
fall-holds : (g : Ground) (facts : List SignedFact) (n : FallNode) (b : Signed) → AllHold (fall_checks g facts n b)
    → FallHolds g facts n b
fall-holds g facts n b all =
    let Holds : Check → Type 0 = λ (c : Check). c.holds ≡ true in
    let tab = n.potential in
    let last = check LowBound (within g.is_safe tab.den (fall_bound g facts tab) b) ∷ [] in
    let gains = map (gain_check g) tab.moves in
    let amounts = map (amount_check g) n.payments in
    let floors = map (floor_check g tab) n.payments in
    let moves = map (move_check g tab (amount_at n)) tab.moves in
    let missing = missing_checks g tab (is_never facts) in
    let shape = check BadShape (ascends (map payer n.payments)) ∷ (map (payment_shape g tab) n.payments ++ map (sum_shape facts) tab.moves) in
    let one = all-append Holds (table_shape g tab ++ shape) (missing ++ (moves ++ (floors ++ (amounts ++ (gains ++ last))))) all in
    let two = all-append Holds (table_shape g tab) shape one.0 in
    let three = all-append Holds (map (payment_shape g tab) n.payments) (map (sum_shape facts) tab.moves) two.1.1 in
    let four = all-append Holds missing (moves ++ (floors ++ (amounts ++ (gains ++ last)))) one.1 in
    let five = all-append Holds moves (floors ++ (amounts ++ (gains ++ last))) four.1 in
    let six = all-append Holds floors (amounts ++ (gains ++ last)) five.1 in
    let seven = all-append Holds amounts (gains ++ last) six.1 in
    let eight = all-append Holds gains last seven.1 in
    record {
      table = table-holds g tab (amount_at n) (is_never facts) two.0 four.0 five.0;
      ascending = two.1.0;
      shapes = all-map (payment_shape g tab) Holds n.payments three.0;
      cited = all-map (sum_shape facts) Holds tab.moves three.1;
      floors = all-map (floor_check g tab) Holds n.payments six.0;
      amounts = all-map (amount_check g) Holds n.payments seven.0;
      gains = all-map (gain_check g) Holds tab.moves eight.0;
      bound = eight.1.0;
    }

-- if a rule is less than all rules of a list, its charge there is 0
none-charged : (ys : List Payment) (n t : ℕ) (env : List ℤ) → t ≤ n → is_below_all n (map payer ys) ≡ true
    → charges (map payment_charge ys) t env ≡ 0
none-charged [] n t env low h = refl
none-charged (y ∷ ys) n t env low h = go (eqb_tells y.rule t) (none-charged ys n t env low both.1)
  where
    both : (nat_lt n y.rule ≡ true) × (is_below_all n (map payer ys) ≡ true)
    both = both-hold (nat_lt n y.rule) (is_below_all n (map payer ys)) h

    above : n < y.rule
    above = ltb-true n y.rule both.0

    go : ((y.rule == t) ≡ true) × (y.rule ≡ t) ⊎ ((y.rule == t) ≡ false) × (y.rule ≢ t)
        → charges (map payment_charge ys) t env ≡ 0 → charges (map payment_charge (y ∷ ys)) t env ≡ 0
    go (inl (test, same)) ih = absurd (omega (arith, above, low, same))
    go (inr (test, other)) ih = rw test (omega (arith, ih))

-- if the rules of payments ascend, the charge of each is its one amount
pub charges-are : (ys : List Payment) → ascends (map payer ys) ≡ true → (t : ℕ) (env : List ℤ)
    → charges (map payment_charge ys) t env ≡ or_zero (polynomial_value (amount_in (lookup payer t ys)) env)
charges-are [] h t env = refl
charges-are (y ∷ ys) h t env = go (eqb_tells y.rule t) (charges-are ys both.1 t env)
  where
    both : (is_below_all y.rule (map payer ys) ≡ true) × (ascends (map payer ys) ≡ true)
    both = both-hold (is_below_all y.rule (map payer ys)) (ascends (map payer ys)) h

    go : ((y.rule == t) ≡ true) × (y.rule ≡ t) ⊎ ((y.rule == t) ≡ false) × (y.rule ≢ t)
        → charges (map payment_charge ys) t env ≡ or_zero (polynomial_value (amount_in (lookup payer t ys)) env)
        → charges (map payment_charge (y ∷ ys)) t env
        ≡ or_zero (polynomial_value (amount_in (lookup payer t (y ∷ ys))) env)
    go (inl (test, same)) ih =
        let none = none-charged ys y.rule t env (omega (arith, same)) both.0 in
        rw test (omega (arith, none))
    go (inr (test, other)) ih = rw test (omega (arith, ih))

-- the amount that a step takes is that of the payment, 0 if there is no payment
pub taken-is : (n : FallNode) (t : ℕ) (env : List ℤ) → taken (goal_of n) t env ≡ polynomial_value (amount_at n t) env
taken-is n t env = go (payment_at n t)
  where
    go : (o : Option Payment)
        → (if is_there o then polynomial_value (amount_in o) env else pos 0) ≡ polynomial_value (amount_in o) env
    go None = refl
    go (Some y) = refl

-- the amount of a rule reads the rule's variables alone
pub payment-reads : (g : Ground) (tab : PotentialTable) (y : Payment) → (payment_shape g tab y).holds ≡ true
    → (has_function tab (source_in (rule_at g.program y.rule)) ≡ true) × (reads_below (g.variables y.rule) y.amount ≡ true)
payment-reads g tab y h =
    both-hold (has_function tab (source_in (rule_at g.program y.rule))) (reads_below (g.variables y.rule) y.amount) h

pub amounts-read : (g : Ground) (n : FallNode)
    → AllByRecursion (λ y. (payment_shape g n.potential y).holds ≡ true) n.payments
    → (t : ℕ) → reads_below (g.variables t) (amount_at n t) ≡ true
amounts-read g n shapes t = go (payment_at n t) refl
  where
    go : (o : Option Payment) → payment_at n t ≡ o → reads_below (g.variables t) (amount_in o) ≡ true
    go None e = refl
    go (Some y) e =
        let found = lookup-all payer (λ (y : Payment). (payment_shape g n.potential y).holds ≡ true) t n.payments y e shapes in
        subst (λ (k : ℕ). reads_below (g.variables k) y.amount ≡ true) found.1 (payment-reads g n.potential y found.0).1

module _ (g : Ground) (facts : List SignedFact) (n : FallNode) (b : Signed) (ground : IsTrueGround g)
    (safe : IsSafe g.is_safe) (hold : AllSignedHold g.program facts) (checked : FallHolds g facts n b) where
  -- each paid step is a payment
  payment-holds : (start : List ℤ) (c : Config) (s : Step) (d : Config) → IsTaken g.program start c s d
      → is_there (payment_at n s.rule) ≡ true
      → IsPayment (potential_of n.potential) n.potential.den (goal_of n) c s d
  payment-holds start c s d step paid =
      let tab = n.potential in
      let env = c.values ++ s.free in
      let here = is_there-some (payment_at n s.rule) paid in
      let y = here.0 in
      let shape = lookup-all payer (λ (y : Payment). (payment_shape g tab y).holds ≡ true) s.rule n.payments y here.1 checked.shapes in
      let floor = lookup-all payer (λ (y : Payment). (floor_check g tab y).holds ≡ true) s.rule n.payments y here.1 checked.floors in
      let amount = lookup-all payer (λ (y : Payment). (amount_check g y).holds ≡ true) s.rule n.payments y here.1 checked.amounts in
      let parts = payment-reads g tab y shape.0 in
      let same = sym shape.1 in
      let is = ap (λ (o : Option Payment). polynomial_value (amount_in o) env) here.1 in
      let bears = floor-holds g tab (amount_at n) (is_never facts) ground safe checked.table start c s d step y.rule same y.amount parts.1 y.floor floor.0 in
      let positive = form-holds g tab (amount_at n) (is_never facts) ground safe checked.table start c s d step y.rule same y.amount parts.1 y.positive amount.0 in
      record {
        source = source-has g tab (amount_at n) (is_never facts) ground safe checked.table start c s d step y.rule same parts.0;
        floor = subst (λ (z : ℤ). (pos tab.den *ℤ z) ≤ℤ polynomial_value (form_in (function_at tab c.at)) c.values) (sym is) bears;
        amount = λ keeps has. subst (λ (z : ℤ). pos 0 ≤ℤ z) (sym is) positive;
      }

  -- the potential of an accepted node pays
  fall-pays : AlwaysPays g.program (potential_of n.potential) n.potential.den (goal_of n)
  fall-pays start = record {
    moves = moves-hold g n.potential (amount_at n) (is_never facts) ground safe checked.table
        (λ t h start c s d step same. never-steps g.program t facts hold h start c s d step same)
        (goal_of n) (taken-is n) (amounts-read g n checked.shapes) start;
    each = λ c s d step paid. payment-holds start c s d step paid;
  }

  -- the sum of each gain has a bound
  gain-bounds : AllByRecursion (λ m. HasGainBound g facts m) n.potential.moves
  gain-bounds = all-weaker (λ (m : Move). ((sum_shape facts m).holds ≡ true) × ((gain_check g m).holds ≡ true)) (λ (m : Move). HasGainBound g facts m)
      (λ m both. record { cites = both.0; free = both.1 }) n.potential.moves
      (all-both (λ (m : Move). (sum_shape facts m).holds ≡ true) (λ (m : Move). (gain_check g m).holds ≡ true) n.potential.moves checked.cited checked.gains)

  -- the stated bound is at least the quotient
  fall-bound : WithinHolds → IsAtLeastQuotient n.potential.den
      (λ start. first_level g.program (potential_of n.potential) start + signed_sum (gain_parts facts n.potential.moves) start) (signed_val b)
  fall-bound within_holds = record {
    each = λ start k low.
        within_holds.each g.is_safe safe n.potential.den (fall_bound g facts n.potential) b
        (den-over_0 g n.potential (amount_at n) (is_never facts) checked.table) checked.bound start k
        (let first = start-is g n.potential start in omega (arith, low, first));
  }

  -- the sum of the charges is at most the stated bound
  fall-sum : WithinHolds → HoldsSigned g.program (SumFact (charges_of n) b)
  fall-sum within_holds =
      let gained = potential-gains g.program n.potential (signed_sum (gain_parts facts n.potential.moves)) (gains-bounded g facts safe hold n.potential.moves gain-bounds) in
      let sum = falls g.program (potential_of n.potential) n.potential.den (goal_of n) (signed_sum (gain_parts facts n.potential.moves)) (signed_val b) fall-pays gained (fall-bound within_holds) in
      parts g.program (charges (charges_of n)) (payments (goal_of n)) (signed_val b)
      (λ t env.
      let is = charges-are n.payments checked.ascending t env in
      let taken = ap or_zero (taken-is n t env) in
      omega (arith, is, taken)) sum

pub falls-sound : WithinHolds → FallsAreSound
falls-sound within_holds g facts n b ground safe hold accepted =
    let checked = fall-holds g facts n b (all-hold (fall_checks g facts n b) accepted) in
    (fall-pays g facts n b ground safe hold checked, fall-sum g facts n b ground safe hold checked within_holds)
