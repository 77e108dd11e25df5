-- An accepted node of two phases is sound.
use Rattle.std.proofs.Common.{◌≡◌, ℕ, ◌*◌, ◌≤◌, ◌==◌, Bool, true, false, List, [], ◌∷◌, ◌++◌, Option, Some, None}
use Rattle.std.proofs.Common.{refl, sym, ◌∙◌, ap, subst, arith, map}
use Rattle.std.specs.Prelude.{ℤ, pos, neg_ℤ, ◌+ℤ◌, ◌-ℤ◌, ◌*ℤ◌, ◌≤ℤ◌, if◌then◌else◌}
use Rattle.std.specs.List.{AllByRecursion}
use Rattle.std.proofs.lemmas.Int.{ints}
use Rattle.std.proofs.lemmas.Bool.{true≢false}
use Rattle.potentials.specs.model.Polynomials.{Polynomial, polynomial_value}
use Rattle.potentials.specs.model.Spending.{or_zero}
use Rattle.potentials.specs.model.Runs.{Config, Step}
use Rattle.potentials.specs.Sums.{charges}
use Rattle.potentials.specs.Potentials.{Keeps, Resets, taken, IsTaken, IsKept, MovesBy, Moves}
use Rattle.potentials.specs.Nodes.{IsAtLeastQuotient}
use Rattle.potentials.specs.Phases.{counts, FallsInPhases, IsHighBefore, GoesInPhases, IsAtLeastRoot}
use Rattle.potentials.specs.Phases.{phases_bound, under_root}
use Rattle.potentials.proofs.NodeLaws.{parts}
use Rattle.potentials.proofs.PhaseLaws.{phases_hold}
use Rattle.signed_bounds.specs.Bounds.{Signed, positive_part, whole_root, signed_val}
use Rattle.signed_bounds.specs.Safe.{IsSafe}
use Rattle.signed_bounds.specs.Within.{within, WithinHolds}
use Rattle.signed_bounds.proofs.Roots.{root_at_most, whole_root-next}
use Rattle.potential_nodes.specs.Lookup.{lookup, is_there, ascends}
use Rattle.potential_nodes.specs.PolynomialTerms.{reads_below}
use Rattle.potential_nodes.specs.Ground.{Ground, IsTrueGround}
use Rattle.potential_nodes.specs.Facts.{SignedFact, SumFact, HoldsSigned, AllSignedHold, same_variables, is_never}
use Rattle.potential_nodes.specs.Checks.{Check, check, AllHold, LowBound}
use Rattle.potential_nodes.specs.Tables.{SymbolFunction, Move, PotentialTable, symbol_of, rule_of, function_at, move_at, form_in}
use Rattle.potential_nodes.specs.Tables.{gain_in, kind_in, potential_of, form_at, source_form, table_shape, missing_checks, move_check}
use Rattle.potential_nodes.specs.Falls.{Payment, payer, payment_at, amount_in, amount_at, goal_of}
use Rattle.potential_nodes.specs.Falls.{charges_of, payment_shape, floor_check}
use Rattle.potential_nodes.specs.PhaseNodes.{PhaseMove, CountedRule, PhasesNode, unit_payment, first_move, first_table, phases_fall}
use Rattle.potential_nodes.specs.PhaseNodes.{is_counted, second_move, second_table, phases_of, shows_move, phase_check, less_number}
use Rattle.potential_nodes.specs.PhaseNodes.{phases_root, phases_signed, phases_shape, phases_checks}
use Rattle.potential_nodes.proofs.LookupLaws.{both-hold, is_there-some, lookup-all, all-map, all-append, all-weaker}
use Rattle.potential_nodes.proofs.FactLaws.{never-steps, same_variables-is}
use Rattle.potential_nodes.proofs.TermLaws.{reads-append}
use Rattle.potential_nodes.proofs.StepLaws.{source-is, function-reads}
use Rattle.potential_nodes.proofs.TableLaws.{TableHolds, table-holds, floor-holds, source-has, moves-hold}
use Rattle.potential_nodes.proofs.FallLaws.{part-is, den-over_0, charges-are, taken-is, payment-reads, amounts-read}

-- a property of each element's image is one of all images
all-map_back : {A B : Type 0} (f : A → B) (P : B → Type 0) (xs : List A) → AllByRecursion (λ x. P (f x)) xs
    → AllByRecursion P (map f xs)
all-map_back f P [] all = tt
all-map_back f P (x ∷ xs) (first, others) = (first, all-map_back f P xs others)

-- two lists of functions with the same symbols have functions at the same symbols
same-symbols : (fs hs : List SymbolFunction) → map symbol_of fs ≡ map symbol_of hs → (s : ℕ)
    → is_there (lookup symbol_of s fs) ≡ is_there (lookup symbol_of s hs)
same-symbols [] [] e s = refl
same-symbols [] (h ∷ hs) e s = absurd (apart e)
  where
    apart : [] ≡ h.symbol ∷ map symbol_of hs → ⊥
    apart e = cc
same-symbols (f ∷ fs) [] e s = absurd (apart e)
  where
    apart : f.symbol ∷ map symbol_of fs ≡ [] → ⊥
    apart e = cc
same-symbols (f ∷ fs) (h ∷ hs) e s = go (f.symbol == s) refl (same-symbols fs hs (rest e) s)
  where
    first : f.symbol ∷ map symbol_of fs ≡ h.symbol ∷ map symbol_of hs → f.symbol ≡ h.symbol
    first e = cc

    rest : f.symbol ∷ map symbol_of fs ≡ h.symbol ∷ map symbol_of hs → map symbol_of fs ≡ map symbol_of hs
    rest e = cc

    go : (v : Bool) → (f.symbol == s) ≡ v
        → is_there (lookup symbol_of s fs) ≡ is_there (lookup symbol_of s hs)
        → is_there (lookup symbol_of s (f ∷ fs)) ≡ is_there (lookup symbol_of s (h ∷ hs))
    go true test ih = let other = ap (λ (n : ℕ). n == s) (sym (first e)) ∙ test in rw (test, other) refl
    go false test ih = let other = ap (λ (n : ℕ). n == s) (sym (first e)) ∙ test in rw (test, other) ih

-- the moves of a rule in both tables are made of one move
found-move : (f : PhaseMove → Move) → ((m : PhaseMove) → rule_of (f m) ≡ m.rule) → (P : Move → Type 0)
    → ((m : PhaseMove) → P (f m)) → (moves : List PhaseMove) (t : ℕ) (m : Move)
    → lookup rule_of t (map f moves) ≡ Some m → P m
found-move f same P holds moves t m found =
    (lookup-all rule_of P t (map f moves) m found (all-map_back f P moves (every moves))).0
  where
    every : (xs : List PhaseMove) → AllByRecursion (λ x. P (f x)) xs
    every [] = tt
    every (x ∷ xs) = (holds x, every xs)

-- the conditions that the checks of such a node ensure
record PhasesAreHeld (g : Ground) (facts : List SignedFact) (n : PhasesNode) (b : Signed) : Type 0 where
  pub first : TableHolds g (first_table n) (amount_at (phases_fall n)) (is_never facts)
  pub second : TableHolds g (second_table g n) (amount_at (phases_fall n)) (is_never facts)
  pub symbols : same_variables (map symbol_of n.firsts) (map symbol_of n.seconds) ≡ true
  pub ascending : ascends (map payer (map unit_payment n.counted)) ≡ true
  pub shapes : AllByRecursion (λ y. (payment_shape g (first_table n) y).holds ≡ true) (map unit_payment n.counted)
  pub floors : AllByRecursion (λ y. (floor_check g (second_table g n) y).holds ≡ true) (map unit_payment n.counted)
  pub bound : within g.is_safe n.den (phases_signed g n) b ≡ true

-- if all checks hold, the conditions hold
phases-are-held : (g : Ground) (facts : List SignedFact) (n : PhasesNode) (b : Signed) → AllHold (phases_checks g facts n b)
    → PhasesAreHeld g facts n b
phases-are-held g facts n b all =
    let Holds : Check → Type 0 = λ (c : Check). c.holds ≡ true in
    let amounts = amount_at (phases_fall n) in
    let last = check LowBound (within g.is_safe n.den (phases_signed g n) b) ∷ [] in
    let floors = map (floor_check g (second_table g n)) (map unit_payment n.counted) in
    let moves = map (phase_check g n) n.moves in
    let missing = missing_checks g (first_table n) (is_never facts) in
    let missing' = missing_checks g (second_table g n) (is_never facts) in
    let one = all-append Holds (table_shape g (first_table n) ++ (table_shape g (second_table g n) ++ phases_shape g n)) (missing ++ (missing' ++ (moves ++ (floors ++ last)))) all in
    let two = all-append Holds (table_shape g (first_table n)) (table_shape g (second_table g n) ++ phases_shape g n) one.0 in
    let three = all-append Holds (table_shape g (second_table g n)) (phases_shape g n) two.1 in
    let four = all-append Holds missing (missing' ++ (moves ++ (floors ++ last))) one.1 in
    let five = all-append Holds missing' (moves ++ (floors ++ last)) four.1 in
    let six = all-append Holds moves (floors ++ last) five.1 in
    let seven = all-append Holds floors last six.1 in
    let both = all-map (phase_check g n) Holds n.moves six.0 in
    let firsts = all-map_back first_move (λ (m : Move). (move_check g (first_table n) amounts m).holds ≡ true) n.moves
    (all-weaker (λ (m : PhaseMove). (phase_check g n m).holds ≡ true) (λ (m : PhaseMove). (move_check g (first_table n) amounts (first_move m)).holds ≡ true)
    (λ m h. (both-hold (shows_move g n (first_table n) (first_move m)) (shows_move g n (second_table g n) (second_move g n m)) h).0) n.moves both) in
    let seconds = all-map_back (second_move g n) (λ (m : Move). (move_check g (second_table g n) amounts m).holds ≡ true) n.moves
    (all-weaker (λ (m : PhaseMove). (phase_check g n m).holds ≡ true) (λ (m : PhaseMove). (move_check g (second_table g n) amounts (second_move g n m)).holds ≡ true)
    (λ m h. (both-hold (shows_move g n (first_table n) (first_move m)) (shows_move g n (second_table g n) (second_move g n m)) h).1) n.moves both) in
    record {
      first = table-holds g (first_table n) amounts (is_never facts) two.0 four.0 (all-map_back (move_check g (first_table n) amounts) Holds (map first_move n.moves) firsts);
      second = table-holds g (second_table g n) amounts (is_never facts) three.0 five.0 (all-map_back (move_check g (second_table g n) amounts) Holds (map (second_move g n) n.moves) seconds);
      symbols = three.1.0;
      ascending = three.1.1.0;
      shapes = all-map (payment_shape g (first_table n)) Holds (map unit_payment n.counted) three.1.1.1;
      floors = all-map (floor_check g (second_table g n)) Holds (map unit_payment n.counted) seven.0;
      bound = seven.1.0;
    }

-- the amount of a counted rule is 1, and that of another rule 0
amount-counted : (n : PhasesNode) (t : ℕ) (env : List ℤ)
    → taken (goal_of (phases_fall n)) t env ≡ (if is_counted n t then pos 1 else pos 0)
amount-counted n t env = go (payment_at (phases_fall n) t) refl
  where
    one : (counted : List CountedRule) (y : Payment) → lookup payer t (map unit_payment counted) ≡ Some y
        → polynomial_value y.amount env ≡ pos 1
    one counted y e = (lookup-all payer (λ (y : Payment). polynomial_value y.amount env ≡ pos 1) t (map unit_payment counted) y e
        (all-map_back unit_payment (λ (y : Payment). polynomial_value y.amount env ≡ pos 1) counted (every counted))).0
      where
        every : (xs : List CountedRule) → AllByRecursion (λ x. polynomial_value (unit_payment x).amount env ≡ pos 1) xs
        every [] = tt
        every (x ∷ xs) = (refl, every xs)

    go : (o : Option Payment) → payment_at (phases_fall n) t ≡ o
        → (if is_there o then polynomial_value (amount_in o) env else pos 0) ≡ (if is_there o then pos 1 else pos 0)
    go None e = refl
    go (Some y) e = one n.counted y e

module _ (g : Ground) (facts : List SignedFact) (n : PhasesNode) (b : Signed) (ground : IsTrueGround g)
    (safe : IsSafe g.is_safe) (hold : AllSignedHold g.program facts) (checked : PhasesAreHeld g facts n b) where
  -- the moves of both tables hold
  table-moves : (tab : PotentialTable) → TableHolds g tab (amount_at (phases_fall n)) (is_never facts) → (start : List ℤ)
      → Moves g.program start (potential_of tab) tab.den (goal_of (phases_fall n))
  table-moves tab table start =
      moves-hold g tab (amount_at (phases_fall n)) (is_never facts) ground safe table
      (λ t h start c s d step same. never-steps g.program t facts hold h start c s d step same)
      (goal_of (phases_fall n)) (taken-is (phases_fall n)) (amounts-read g (phases_fall n) checked.shapes) start

  -- each move of a table keeps the function
  kept-step : (tab : PotentialTable) → ((m : Move) (t : ℕ) → move_at tab t ≡ Some m → m.keeps ≡ true) → (c : Config)
      (s : Step) (d : Config) → MovesBy (kind_in (move_at tab s.rule)) (potential_of tab) tab.den (goal_of (phases_fall n)) c s d
      → (m : Move) × (move_at tab s.rule ≡ Some m) × IsKept (potential_of tab) tab.den (goal_of (phases_fall n)) c s d
  kept-step tab keeps c s d move = go (move_at tab s.rule) refl move
    where
      by_kind : (m : Move) → move_at tab s.rule ≡ Some m → (v : Bool) → m.keeps ≡ v
          → MovesBy (if v then Keeps else Resets) (potential_of tab) tab.den (goal_of (phases_fall n)) c s d
          → IsKept (potential_of tab) tab.den (goal_of (phases_fall n)) c s d
      by_kind m e true k move = move
      by_kind m e false k move = absurd (true≢false (sym (keeps m s.rule e) ∙ k))

      go : (o : Option Move) → move_at tab s.rule ≡ o
          → MovesBy (kind_in o) (potential_of tab) tab.den (goal_of (phases_fall n)) c s d
          → (m : Move) × (move_at tab s.rule ≡ Some m) × IsKept (potential_of tab) tab.den (goal_of (phases_fall n)) c s d
      go None e move = absurd move
      go (Some m) e move = (m, e, by_kind m e m.keeps refl move)

  -- the gain of a rule in the first table is 0
  first-gain : (m : Move) (t : ℕ) → move_at (first_table n) t ≡ Some m → m.gain ≡ []
  first-gain m t e = found-move first_move (λ x. refl) (λ (m : Move). m.gain ≡ []) (λ x. refl) n.moves t m e

  -- the gain of a rule in the second table is the first function of its source, if the rule is counted
  second-gain : (m : Move) (t : ℕ) → move_at (second_table g n) t ≡ Some m
      → m.gain ≡ (if is_counted n t then source_form g (first_table n) t else [])
  second-gain m t e =
      let gain = found-move (second_move g n) (λ x. refl)
      (λ (m : Move). m.gain ≡ (if is_counted n m.rule then source_form g (first_table n) m.rule else [])) (λ x. refl) n.moves t m e in
      let rule = (lookup-all rule_of (λ (m : Move). m.rule ≡ m.rule) t (map (second_move g n) n.moves) m e (every (map (second_move g n) n.moves))).1 in
      gain ∙ ap (λ (k : ℕ). if is_counted n k then source_form g (first_table n) k else []) rule
    where
      every : (xs : List Move) → AllByRecursion (λ m. m.rule ≡ m.rule) xs
      every [] = tt
      every (x ∷ xs) = (refl, every xs)

  -- the first function of a rule's source, over the rule's variables, has the value before the step
  source-first : (start : List ℤ) (c : Config) (s : Step) (d : Config) → IsTaken g.program start c s d
      → polynomial_value (source_form g (first_table n) s.rule) (c.values ++ s.free)
      ≡ polynomial_value (form_in (function_at (first_table n) c.at)) c.values
  source-first start c s d step =
      let known = ground.each start c s d step in
      let reads = function-reads g.places (first_table n) checked.first.functions c.at in
      ap (λ (o : Option ℕ). polynomial_value (form_at (first_table n) o) (c.values ++ s.free)) (source-is g.program c s d step.step)
      ∙ reads-append c.values s.free (form_in (function_at (first_table n) c.at))
      (subst (λ (k : ℕ). reads_below k (form_in (function_at (first_table n) c.at)) ≡ true) (sym known.places) reads)

  -- a symbol has a first function exactly if it has a second one
  both-there : (s : ℕ) → is_there (function_at (first_table n) s) ≡ is_there (function_at (second_table g n) s)
  both-there s = same-symbols n.firsts n.seconds (same_variables-is (map symbol_of n.firsts) (map symbol_of n.seconds) checked.symbols) s

  -- each step goes in phases
  falls-in-phases : (start : List ℤ) (c : Config) (s : Step) (d : Config) → IsTaken g.program start c s d
      → is_there (function_at (first_table n) d.at) ≡ true → FallsInPhases (phases_of g n) n.den c s d
  falls-in-phases start c s d step has =
      let env = c.values ++ s.free in
      let one = kept-step (first_table n) (λ m t e. found-move first_move (λ x. refl) (λ (m : Move). m.keeps ≡ true) (λ x. refl) n.moves t m e) c s d
      ((table-moves (first_table n) checked.first start).each c s d step has) in
      let two = kept-step (second_table g n) (λ m t e. found-move (second_move g n) (λ x. refl) (λ (m : Move). m.keeps ≡ true) (λ x. refl) n.moves t m e) c s d
      ((table-moves (second_table g n) checked.second start).each c s d step (sym (both-there d.at) ∙ has)) in
      let gain = ap (λ (o : Option Move). polynomial_value (gain_in o) env) one.1 ∙ ap (λ (q : Polynomial). polynomial_value q env) (first-gain one.0 s.rule one.1) in
      let gain' = ap (λ (o : Option Move). polynomial_value (gain_in o) env) two.1 ∙ ap (λ (q : Polynomial). polynomial_value q env) (second-gain two.0 s.rule two.1) in
      let source = source-first start c s d step in
      go (is_counted n s.rule) refl one.2.source one.2.falls two.2.falls gain gain' source (amount-counted n s.rule env)
    where
      once : (x y h a : ℤ) → (x +ℤ pos n.den *ℤ a) ≤ℤ (y +ℤ h) → a ≡ pos 1 → (z : ℤ) → h ≡ z → (x +ℤ pos n.den) ≤ℤ (y +ℤ z)
      once x y h a k e z i =
          let times : pos n.den *ℤ a ≡ pos n.den *ℤ pos 1 = ap (λ (v : ℤ). pos n.den *ℤ v) e in
          omega (arith, ints, k, i, times)

      never : (x y h a : ℤ) → (x +ℤ pos n.den *ℤ a) ≤ℤ (y +ℤ h) → a ≡ pos 0 → (z : ℤ) → h ≡ z → (x +ℤ pos 0) ≤ℤ (y +ℤ z)
      never x y h a k e z i =
          let times : pos n.den *ℤ a ≡ pos n.den *ℤ pos 0 = ap (λ (v : ℤ). pos n.den *ℤ v) e in
          omega (arith, ints, k, i, times)

      plain : (x y : ℤ) → x ≤ℤ (y +ℤ pos 0) → x ≤ℤ y
      plain x y h = omega (arith, ints, h)

      go : (v : Bool) → is_counted n s.rule ≡ v → is_there (function_at (first_table n) c.at) ≡ true
          → (polynomial_value (form_in (function_at (first_table n) d.at)) d.values +ℤ pos n.den *ℤ taken (goal_of (phases_fall n)) s.rule (c.values ++ s.free))
          ≤ℤ (polynomial_value (form_in (function_at (first_table n) c.at)) c.values +ℤ polynomial_value (gain_in (move_at (first_table n) s.rule)) (c.values ++ s.free))
          → (polynomial_value (form_in (function_at (second_table g n) d.at)) d.values +ℤ pos n.den *ℤ taken (goal_of (phases_fall n)) s.rule (c.values ++ s.free))
          ≤ℤ (polynomial_value (form_in (function_at (second_table g n) c.at)) c.values +ℤ polynomial_value (gain_in (move_at (second_table g n) s.rule)) (c.values ++ s.free))
          → polynomial_value (gain_in (move_at (first_table n) s.rule)) (c.values ++ s.free) ≡ pos 0
          → polynomial_value (gain_in (move_at (second_table g n) s.rule)) (c.values ++ s.free)
          ≡ polynomial_value (if is_counted n s.rule then source_form g (first_table n) s.rule else []) (c.values ++ s.free)
          → polynomial_value (source_form g (first_table n) s.rule) (c.values ++ s.free)
          ≡ polynomial_value (form_in (function_at (first_table n) c.at)) c.values
          → taken (goal_of (phases_fall n)) s.rule (c.values ++ s.free) ≡ (if is_counted n s.rule then pos 1 else pos 0)
          → FallsInPhases (phases_of g n) n.den c s d
      go true e has' falls falls' gain gain' source amount =
          let is = subst (λ (v : Bool). taken (goal_of (phases_fall n)) s.rule (c.values ++ s.free) ≡ (if v then pos 1 else pos 0)) e amount in
          let gained = subst (λ (v : Bool). polynomial_value (gain_in (move_at (second_table g n) s.rule)) (c.values ++ s.free)
          ≡ polynomial_value (if v then source_form g (first_table n) s.rule else []) (c.values ++ s.free)) e gain' in
          record {
            source = has';
            first = rw e (plain _ _ (once _ _ _ _ falls is (pos 0) gain));
            second = rw e (once _ _ _ _ falls' is _ (gained ∙ source));
          }
      go false e has' falls falls' gain gain' source amount =
          let is = subst (λ (v : Bool). taken (goal_of (phases_fall n)) s.rule (c.values ++ s.free) ≡ (if v then pos 1 else pos 0)) e amount in
          let gained = subst (λ (v : Bool). polynomial_value (gain_in (move_at (second_table g n) s.rule)) (c.values ++ s.free)
          ≡ polynomial_value (if v then source_form g (first_table n) s.rule else []) (c.values ++ s.free)) e gain' in
          record {
            source = has';
            first = rw e (plain _ _ (never _ _ _ _ falls is (pos 0) gain));
            second = rw e (never _ _ _ _ falls' is (pos 0) gained);
          }

  -- before a counted step the second function is at least den
  high-before : (start : List ℤ) (c : Config) (s : Step) (d : Config) → IsTaken g.program start c s d
      → is_counted n s.rule ≡ true → IsHighBefore (phases_of g n) n.den c
  high-before start c s d step counted =
      let here = is_there-some (payment_at (phases_fall n) s.rule) counted in
      let y = here.0 in
      let shape = lookup-all payer (λ (y : Payment). (payment_shape g (first_table n) y).holds ≡ true) s.rule (map unit_payment n.counted) y here.1 checked.shapes in
      let floor = lookup-all payer (λ (y : Payment). (floor_check g (second_table g n) y).holds ≡ true) s.rule (map unit_payment n.counted) y here.1 checked.floors in
      let parts = payment-reads g (first_table n) y shape.0 in
      let same = sym shape.1 in
      let bears = floor-holds g (second_table g n) (amount_at (phases_fall n)) (is_never facts) ground safe checked.second start c s d step y.rule same y.amount parts.1 y.floor floor.0 in
      let paid = sym (taken-is (phases_fall n) s.rule (c.values ++ s.free)) ∙ amount-counted n s.rule (c.values ++ s.free) in
      let one = subst (λ (v : Bool). polynomial_value (amount_at (phases_fall n) s.rule) (c.values ++ s.free) ≡ (if v then pos 1 else pos 0)) counted paid in
      let amount = ap (λ (o : Option Payment). polynomial_value (amount_in o) (c.values ++ s.free)) (sym here.1) ∙ one in
      record {
        source = source-has g (first_table n) (amount_at (phases_fall n)) (is_never facts) ground safe checked.first start c s d step y.rule same parts.0;
        floor = unit _ _ bears amount;
      }
    where
      unit : (a y : ℤ) → (pos n.den *ℤ a) ≤ℤ y → a ≡ pos 1 → pos n.den ≤ℤ y
      unit a y h e =
          let times : pos n.den *ℤ a ≡ pos n.den *ℤ pos 1 = ap (λ (v : ℤ). pos n.den *ℤ v) e in
          omega (arith, ints, h, times)

  goes-in-phases : (start : List ℤ) → GoesInPhases g.program start (phases_of g n) n.den
  goes-in-phases start = record { moves = falls-in-phases start; floors = high-before start }

  -- the value under the root in the bound is that in the law
  under-is : (start : List ℤ)
      → 2 * (n.den * or_zero (polynomial_value (form_in (function_at (second_table g n) g.program.start)) start -ℤ pos n.den))
      ≡ (2 * n.den) * (positive_part (polynomial_value (less_number (form_in (function_at (second_table g n) g.program.start)) n.den) start) * 1)
  under-is start =
      let x = polynomial_value (form_in (function_at (second_table g n) g.program.start)) start in
      let same = ap or_zero (less n.den x) ∙ sym (part-is (neg_ℤ (pos n.den) *ℤ pos 1 +ℤ x)) in
      times (or_zero (x -ℤ pos n.den)) (positive_part (neg_ℤ (pos n.den) *ℤ pos 1 +ℤ x)) same
    where
      less : (k : ℕ) (x : ℤ) → x -ℤ pos k ≡ neg_ℤ (pos k) *ℤ pos 1 +ℤ x
      less k x = omega (arith, ints)

      times : (u v : ℕ) → u ≡ v → 2 * (n.den * u) ≡ (2 * n.den) * (v * 1)
      times u v e = let more = ap (λ (k : ℕ). n.den * k) e in omega (arith, more)

  root-enough : (start : List ℤ)
      → IsAtLeastRoot (under_root g.program (phases_of g n) n.den start) (signed_val (phases_root g n) start)
  root-enough start = record {
    each = λ e low.
        let under = (2 * n.den) * (positive_part (polynomial_value (less_number (form_in (function_at (second_table g n) g.program.start)) n.den) start) * 1) in
        let is = under-is start in
        root_at_most e (whole_root under) under (omega (arith, low, is)) (whole_root-next under);
  }

  -- the stated bound is at least the quotient
  phases-bound : WithinHolds
      → IsAtLeastQuotient n.den (phases_bound g.program (phases_of g n) n.den (signed_val (phases_root g n))) (signed_val b)
  phases-bound within_holds = record {
    each = λ start k low.
        let part = part-is (polynomial_value (form_in (function_at (first_table n) g.program.start)) start) in
        within_holds.each g.is_safe safe n.den (phases_signed g n) b
        (den-over_0 g (first_table n) (amount_at (phases_fall n)) (is_never facts) checked.first) checked.bound start k
        (omega (arith, low, part));
  }

  -- the charges of the counted rules are at most the weight of counted steps
  charges-counted : (t : ℕ) (env : List ℤ) → charges (charges_of (phases_fall n)) t env ≤ counts (phases_of g n) t env
  charges-counted t env =
      let is = charges-are (map unit_payment n.counted) checked.ascending t env in
      let amount = ap or_zero (sym (taken-is (phases_fall n) t env) ∙ amount-counted n t env) in
      let one = unit (is_counted n t) in
      omega (arith, is, amount, one)
    where
      unit : (v : Bool) → or_zero (if v then pos 1 else pos 0) ≡ (if v then 1 else 0)
      unit true = refl
      unit false = refl

  phases-sum : WithinHolds → HoldsSigned g.program (SumFact (charges_of (phases_fall n)) b)
  phases-sum within_holds =
      parts g.program (charges (charges_of (phases_fall n))) (counts (phases_of g n)) (signed_val b) charges-counted
      (phases_hold g.program (phases_of g n) n.den (signed_val (phases_root g n)) (signed_val b) goes-in-phases root-enough (phases-bound within_holds))

-- the facts of an accepted node of two phases hold
pub phases-sound : WithinHolds → (g : Ground) (facts : List SignedFact) (n : PhasesNode) (b : Signed) → IsTrueGround g
    → IsSafe g.is_safe → AllSignedHold g.program facts → AllHold (phases_checks g facts n b)
    → HoldsSigned g.program (SumFact (charges_of (phases_fall n)) b)
phases-sound within_holds g facts n b ground safe hold all =
    phases-sum g facts n b ground safe hold (phases-are-held g facts n b all) within_holds
