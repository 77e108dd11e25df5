-- The moves of an accepted table hold at each step.
use Rattle.std.proofs.Common.{◌≡◌, ℕ, zero, suc, ◌+◌, Bool, true, false, List, [], ◌∷◌, ◌++◌, Option, Some, None, map}
use Rattle.std.proofs.Common.{refl, sym, ◌∙◌, ap, subst, arith}
use Rattle.std.specs.Prelude.{ℤ, pos, ◌+ℤ◌, ◌-ℤ◌, ◌*ℤ◌, ◌≤ℤ◌, ◌&&◌, ◌||◌, not, if◌then◌else◌, slice_get, nat_le}
use Rattle.std.specs.List.{AllByRecursion}
use Rattle.std.proofs.lemmas.Int.{ints}
use Rattle.std.proofs.lemmas.Bool.{true≢false}
use Rattle.potentials.specs.model.Terms.{value}
use Rattle.potentials.specs.model.Programs.{Rule, rule_at}
use Rattle.potentials.specs.model.Polynomials.{Polynomial, polynomial_value}
use Rattle.potentials.specs.model.Paths.{source_in, target_in}
use Rattle.potentials.specs.model.Runs.{Config, Step}
use Rattle.potentials.specs.Potentials.{Keeps, Resets, Goal, taken, IsTaken, IsKept, MovesBy, Moves}
use Rattle.potentials.proofs.model.Cases.{none_some, some_same}
use Rattle.signed_bounds.specs.Safe.{IsSafe}
use Rattle.potential_nodes.specs.Lookup.{is_there}
use Rattle.potential_nodes.specs.PolynomialTerms.{form_term, reads_below}
use Rattle.potential_nodes.specs.Certificates.{shows, RowsHoldAt}
use Rattle.potential_nodes.specs.Ground.{Ground, IsGroundOf, IsTrueGround}
use Rattle.potential_nodes.specs.Checks.{Check, AllHold}
use Rattle.potential_nodes.specs.Tables.{Move, PotentialTable, rule_of, function_at, move_at, form_in}
use Rattle.potential_nodes.specs.Tables.{gain_in, kind_in, potential_of, has_function, source_form, behind}
use Rattle.potential_nodes.specs.Tables.{times_den, kept_goal, reset_goal, floor_goal, function_shape, move_shape}
use Rattle.potential_nodes.specs.Tables.{table_shape, has_move, missing_from, missing_checks, move_check}
use Rattle.potential_nodes.proofs.LookupLaws.{both-hold, lookup-all, all-map, all-append, all-weaker}
use Rattle.potential_nodes.proofs.CertificateLaws.{shown-holds}
use Rattle.potential_nodes.proofs.StepLaws.{source-is, gain-reads, variables-value, source-value, target-value}

-- the conditions that the checks of a table ensure
pub record TableHolds (g : Ground) (tab : PotentialTable) (amounts : ℕ → Polynomial) (never : ℕ → Bool) : Type 0 where
  pub den : nat_le 1 tab.den ≡ true
  pub functions : AllByRecursion (λ f. reads_below (g.places f.symbol) f.form ≡ true) tab.functions
  pub shapes : AllByRecursion (λ m. (move_shape g tab m).holds ≡ true) tab.moves
  pub missing : AllHold (missing_checks g tab never)
  pub moves : AllByRecursion (λ m. (move_check g tab amounts m).holds ≡ true) tab.moves

-- if all checks hold, the conditions hold
pub table-holds : (g : Ground) (tab : PotentialTable) (amounts : ℕ → Polynomial) (never : ℕ → Bool)
    → AllHold (table_shape g tab) → AllHold (missing_checks g tab never)
    → AllHold (map (move_check g tab amounts) tab.moves) → TableHolds g tab amounts never
table-holds g tab amounts never shape missing moves =
    let both = all-append (λ (c : Check). c.holds ≡ true) (map (function_shape g) tab.functions) (map (move_shape g tab) tab.moves) shape.1.1.1 in
    record {
      den = shape.0;
      functions = all-map (function_shape g) (λ (c : Check). c.holds ≡ true) tab.functions both.0;
      shapes = all-map (move_shape g tab) (λ (c : Check). c.holds ≡ true) tab.moves both.1;
      missing = missing;
      moves = all-map (move_check g tab amounts) (λ (c : Check). c.holds ≡ true) tab.moves moves;
    }

-- a rule of a list has a move or never occurs
missing-at : (tab : PotentialTable) (never : ℕ → Bool) (t : ℕ) (rules : List Rule) (i : ℕ) (r : Rule) (n : ℕ)
    → n ≡ t + i → slice_get rules i ≡ Some r → AllHold (missing_from tab never t rules) → has_move tab never n r ≡ true
missing-at tab never t [] i r n e found all = absurd (none_some r found)
missing-at tab never t (q ∷ rules) zero r n e found (first, others) =
    subst (λ (k : ℕ). has_move tab never k r ≡ true) (sym (plain e))
    (subst (λ (x : Rule). has_move tab never t x ≡ true) (some_same q r found) first)
  where
    plain : n ≡ t + 0 → n ≡ t
    plain e = omega (arith, e)
missing-at tab never t (q ∷ rules) (suc i) r n e found (first, others) =
    missing-at tab never (suc t) rules i r n (omega (arith, e)) found others

pub has-move : (g : Ground) (tab : PotentialTable) (never : ℕ → Bool) → AllHold (missing_checks g tab never) → (t : ℕ)
    (r : Rule) → rule_at g.program t ≡ Some r → has_move tab never t r ≡ true
has-move g tab never all zero r found = absurd (none_some r found)
has-move g tab never all (suc i) r found =
    missing-at tab never 1 g.program.rules i r (suc i) (omega arith) found all

-- inequalities between the values from those of the certified goals
kept-inequality : (before gain behind paid f h f' a : ℤ) → before ≡ f → gain ≡ h → behind ≡ f' → paid ≡ a
    → pos 0 ≤ℤ ((before +ℤ gain) -ℤ (behind +ℤ paid)) → (f' +ℤ a) ≤ℤ (f +ℤ h)
kept-inequality before gain behind paid f h f' a e1 e2 e3 e4 k = omega (arith, ints, e1, e2, e3, e4, k)

difference-inequality : (x y a b : ℤ) → x ≡ a → y ≡ b → pos 0 ≤ℤ (x -ℤ y) → b ≤ℤ a
difference-inequality x y a b e1 e2 k = omega (arith, ints, e1, e2, k)

module _ (g : Ground) (tab : PotentialTable) (amounts : ℕ → Polynomial) (never : ℕ → Bool)
    (ground : IsTrueGround g) (safe : IsSafe g.is_safe) (table : TableHolds g tab amounts never)
    (start : List ℤ) (c : Config) (s : Step) (d : Config) (step : IsTaken g.program start c s d) where
  at_step : IsGroundOf g c s d
  at_step = ground.each start c s d step

  -- the gain of the rule reads its variables
  gains-read : AllByRecursion (λ m. reads_below (g.variables m.rule) m.gain ≡ true) tab.moves
  gains-read = all-weaker (λ (m : Move). (move_shape g tab m).holds ≡ true)
      (λ (m : Move). reads_below (g.variables m.rule) m.gain ≡ true)
      (λ m h.
      let both = both-hold (has_function tab (target_in (rule_at g.program m.rule))) ((not m.keeps || has_function tab (source_in (rule_at g.program m.rule))) && reads_below (g.variables m.rule) m.gain) h in
      (both-hold (not m.keeps || has_function tab (source_in (rule_at g.program m.rule))) (reads_below (g.variables m.rule) m.gain) both.1).1)
      tab.moves table.shapes

  -- den times a form as an expression has the value of den times the form
  den-value : (q : Polynomial) → reads_below (g.variables s.rule) q ≡ true
      → value (times_den tab q) ((c.values ++ s.free) ++ at_step.more) ≡ pos tab.den *ℤ polynomial_value q (c.values ++ s.free)
  den-value q h = ap (λ (z : ℤ). pos tab.den *ℤ z) (variables-value g tab c s d step.step at_step q h)

  -- if the certificate shows it, the function before the step is at least den times a form
  pub floor-holds : (t : ℕ) → s.rule ≡ t → (q : Polynomial) → reads_below (g.variables t) q ≡ true
      → (certificate : _) → shows g.is_safe (g.rows t) certificate (floor_goal g tab t q) ≡ true
      → (pos tab.den *ℤ polynomial_value q (c.values ++ s.free)) ≤ℤ polynomial_value (form_in (function_at tab c.at)) c.values
  floor-holds t same q reads certificate h =
      let z = (c.values ++ s.free) ++ at_step.more in
      let rows = subst (λ (n : ℕ). RowsHoldAt (g.rows n) z) same at_step.rows in
      let shown = shown-holds g.is_safe safe (g.rows t) certificate (floor_goal g tab t q) h z rows in
      let before = ap (λ (n : ℕ). value (form_term (source_form g tab n)) z) (sym same)
      ∙ source-value g tab c s d step.step at_step table.functions in
      let paid = den-value q (subst (λ (n : ℕ). reads_below (g.variables n) q ≡ true) (sym same) reads) in
      difference-inequality _ _ _ _ before paid shown

  -- if the certificate shows it, a form is at least 0 at the step
  pub form-holds : (t : ℕ) → s.rule ≡ t → (q : Polynomial) → reads_below (g.variables t) q ≡ true
      → (certificate : _) → shows g.is_safe (g.rows t) certificate (form_term q) ≡ true
      → pos 0 ≤ℤ polynomial_value q (c.values ++ s.free)
  form-holds t same q reads certificate h =
      let z = (c.values ++ s.free) ++ at_step.more in
      let rows = subst (λ (n : ℕ). RowsHoldAt (g.rows n) z) same at_step.rows in
      let shown = shown-holds g.is_safe safe (g.rows t) certificate (form_term q) h z rows in
      let e = variables-value g tab c s d step.step at_step q
      (subst (λ (n : ℕ). reads_below (g.variables n) q ≡ true) (sym same) reads) in
      subst (λ (x : ℤ). pos 0 ≤ℤ x) e shown

  -- if a rule leaves a symbol with a function, so does each step by it
  pub source-has : (t : ℕ) → s.rule ≡ t → has_function tab (source_in (rule_at g.program t)) ≡ true
      → is_there (function_at tab c.at) ≡ true
  source-has t same h =
      let here = subst (λ (n : ℕ). has_function tab (source_in (rule_at g.program n)) ≡ true) (sym same) h in
      subst (λ (o : Option ℕ). has_function tab o ≡ true) (source-is g.program c s d step.step) here

  module _ (goal : Goal) (amount-is : (t : ℕ) (env : List ℤ) → taken goal t env ≡ polynomial_value (amounts t) env)
      (amounts-read : (t : ℕ) → reads_below (g.variables t) (amounts t) ≡ true) where
    -- a step by a move that keeps the function keeps it
    kept-move : (m : Move) → move_at tab s.rule ≡ Some m → m.keeps ≡ true
        → IsKept (potential_of tab) tab.den goal c s d
    kept-move m found keeps =
        let z = (c.values ++ s.free) ++ at_step.more in
        let env = c.values ++ s.free in
        let moves = lookup-all rule_of (λ (m : Move). (move_check g tab amounts m).holds ≡ true) s.rule tab.moves m found table.moves in
        let shapes = lookup-all rule_of (λ (m : Move). (move_shape g tab m).holds ≡ true) s.rule tab.moves m found table.shapes in
        let same = sym moves.1 in
        let check = subst (λ (v : Bool). shows g.is_safe (g.rows m.rule) m.certificate (if v then kept_goal g tab m (amounts m.rule) else reset_goal g tab m) ≡ true) keeps moves.0 in
        let rows = subst (λ (n : ℕ). RowsHoldAt (g.rows n) z) same at_step.rows in
        let shown = shown-holds g.is_safe safe (g.rows m.rule) m.certificate (kept_goal g tab m (amounts m.rule)) check z rows in
        let before = ap (λ (n : ℕ). value (form_term (source_form g tab n)) z) moves.1
        ∙ source-value g tab c s d step.step at_step table.functions in
        let gained = ap (λ (o : Option Move). polynomial_value (gain_in o) env) found in
        let reads = gain-reads g.variables tab gains-read s.rule in
        let gain = variables-value g tab c s d step.step at_step m.gain
        (subst (λ (o : Option Move). reads_below (g.variables s.rule) (gain_in o) ≡ true) found reads) in
        let behind_is = ap (λ (n : ℕ). value (behind g tab n) z) moves.1 ∙ target-value g tab c s d step.step at_step in
        let paid = ap (λ (n : ℕ). value (times_den tab (amounts n)) z) moves.1
        ∙ (den-value (amounts s.rule) (amounts-read s.rule)
        ∙ ap (λ (x : ℤ). pos tab.den *ℤ x) (sym (amount-is s.rule env))) in
        let parts = both-hold (has_function tab (target_in (rule_at g.program m.rule))) ((not m.keeps || has_function tab (source_in (rule_at g.program m.rule))) && reads_below (g.variables m.rule) m.gain) shapes.0 in
        let leaves = (both-hold (not m.keeps || has_function tab (source_in (rule_at g.program m.rule))) (reads_below (g.variables m.rule) m.gain) parts.1).0 in
        let leaves_one = subst (λ (v : Bool). (not v || has_function tab (source_in (rule_at g.program m.rule))) ≡ true) keeps leaves in
        record {
          source = source-has m.rule same leaves_one;
          falls = kept-inequality _ _ _ _ _ _ _ _ before (gain ∙ sym gained) behind_is paid shown;
        }

    -- a step by a move that resets the function resets it to at most the gain
    reset-move : (m : Move) → move_at tab s.rule ≡ Some m → m.keeps ≡ false
        → polynomial_value (form_in (function_at tab d.at)) d.values
        ≤ℤ polynomial_value (gain_in (move_at tab s.rule)) (c.values ++ s.free)
    reset-move m found resets =
        let z = (c.values ++ s.free) ++ at_step.more in
        let env = c.values ++ s.free in
        let moves = lookup-all rule_of (λ (m : Move). (move_check g tab amounts m).holds ≡ true) s.rule tab.moves m found table.moves in
        let same = sym moves.1 in
        let check = subst (λ (v : Bool). shows g.is_safe (g.rows m.rule) m.certificate (if v then kept_goal g tab m (amounts m.rule) else reset_goal g tab m) ≡ true) resets moves.0 in
        let rows = subst (λ (n : ℕ). RowsHoldAt (g.rows n) z) same at_step.rows in
        let shown = shown-holds g.is_safe safe (g.rows m.rule) m.certificate (reset_goal g tab m) check z rows in
        let gained = ap (λ (o : Option Move). polynomial_value (gain_in o) env) found in
        let reads = gain-reads g.variables tab gains-read s.rule in
        let gain = variables-value g tab c s d step.step at_step m.gain
        (subst (λ (o : Option Move). reads_below (g.variables s.rule) (gain_in o) ≡ true) found reads) in
        let behind_is = ap (λ (n : ℕ). value (behind g tab n) z) moves.1 ∙ target-value g tab c s d step.step at_step in
        difference-inequality _ _ _ _ (gain ∙ sym gained) behind_is shown

    -- a rule without a move to a symbol with a function never occurs
    no-move : move_at tab s.rule ≡ None → is_there (function_at tab d.at) ≡ true → never s.rule ≡ true
    no-move none has =
        let move = has-move g tab never table.missing s.rule step.step.rule step.step.numbered in
        let there = subst (λ (n : ℕ). is_there (function_at tab n) ≡ true) step.step.leads.target has in
        last (is_there (function_at tab step.step.rule.target)) (is_there (move_at tab s.rule)) (never s.rule) there (ap is_there none) move
      where
        last : (a b v : Bool) → a ≡ true → b ≡ false → (not a || (b || v)) ≡ true → v ≡ true
        last true false v h k all = all
        last true true v h k all = absurd (true≢false k)
        last false b v h k all = absurd (true≢false (sym h))

    -- the effect of a step is that of its rule's move
    move-holds : (never s.rule ≡ true → ⊥) → is_there (function_at tab d.at) ≡ true
        → MovesBy (kind_in (move_at tab s.rule)) (potential_of tab) tab.den goal c s d
    move-holds occurs has = go (move_at tab s.rule) refl
      where
        by_kind : (m : Move) → move_at tab s.rule ≡ Some m → (v : Bool) → m.keeps ≡ v
            → MovesBy (if v then Keeps else Resets) (potential_of tab) tab.den goal c s d
        by_kind m found true e = kept-move m found e
        by_kind m found false e = reset-move m found e

        go : (o : Option Move) → move_at tab s.rule ≡ o → MovesBy (kind_in o) (potential_of tab) tab.den goal c s d
        go None e = absurd (occurs (no-move e has))
        go (Some m) e = by_kind m e m.keeps refl

-- the moves of an accepted table hold
pub moves-hold : (g : Ground) (tab : PotentialTable) (amounts : ℕ → Polynomial) (never : ℕ → Bool) → IsTrueGround g
    → IsSafe g.is_safe → TableHolds g tab amounts never
    → ((t : ℕ) → never t ≡ true → (start : List ℤ) (c : Config) (s : Step) (d : Config)
    → IsTaken g.program start c s d → s.rule ≡ t → ⊥)
    → (goal : Goal) → ((t : ℕ) (env : List ℤ) → taken goal t env ≡ polynomial_value (amounts t) env)
    → ((t : ℕ) → reads_below (g.variables t) (amounts t) ≡ true)
    → (start : List ℤ) → Moves g.program start (potential_of tab) tab.den goal
moves-hold g tab amounts never ground safe table nowhere goal amount-is amounts-read start = record {
  each = λ c s d step has.
      move-holds g tab amounts never ground safe table start c s d step goal amount-is amounts-read
      (λ e. nowhere s.rule e start c s d step refl) has;
}
