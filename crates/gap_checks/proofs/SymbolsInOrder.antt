-- Symbols in the order of their touches: the symbols that were found balanced, and the first one that isn't.
use Rattle.std.proofs.Common.{◌≡◌, ◌⊎◌, inl, inr, ℕ, ◌<◌, ◌≤◌, ◌==◌, true, List, length, get_or}
use Rattle.std.proofs.Common.{Option, Some, None, refl, sym, ap, ◌∙◌, subst, arith}
use Rattle.std.specs.List.{AllByRecursion}
use Rattle.std.proofs.lemmas.Bool.{cases_lt, eqb-true}
use Rattle.farkas_cert.specs.model.Programs.{Program, Rule}
use Rattle.farkas_cert.proofs.model.Membership.{same_number}
use Rattle.its_model.specs.Valid.{IsValid}
use Rattle.its_model.proofs.ValidLaws.{rule-valid}
use Rattle.cert_types.specs.cert_program.RankedSets.{forms_in, forms_at}
use Rattle.cert_types.specs.cert_rules.AcceptsPlain.{IsRule}
use Rattle.cert_types.specs.cert_rules.GapChecks.{balanced_at}
use Rattle.cert_types.specs.cert_rules.Gaps.{Gap}
use Rattle.cert_types.specs.cert_rules.Graph.{touches}
use Rattle.gap_checks.specs.declared.touching.Group.{Group}
use Rattle.gap_checks.specs.declared.touching.Way.{Way}
use Rattle.gap_checks.specs.declared.touching.Way.TheVariants.{Leaves, Arrives}
use Rattle.gap_checks.specs.declared.touching.Touch.{Touch}
use Rattle.gap_checks.specs.GapBalances.{IsFirstOfSymbol}
use Rattle.gap_checks.specs.GapTests.{IsBalanced, IsFirstFailing, IsFirstUnbalanced, coefficient_at, places_at}
use Rattle.gap_checks.specs.Touches.{AreRules, AreTouches, IsGroup, rule_in}
use Rattle.gap_checks.proofs.Balances.{blocks-hold, blocks-fail}
use Rattle.gap_checks.proofs.GapFaults.{in-list}
use Rattle.gap_checks.proofs.TouchLists.{symbol_by, touch-real, is_of, touched-any, any-at, at-any}

-- the source and the target of a rule of a valid program are symbols of the program
symbol-known : (p : Program) → IsValid p → (t : ℕ) (is : IsRule p t) (way : Way)
    → symbol_by way (forms_at p t) < length p.symbols
symbol-known p valid t is Leaves =
    subst (λ (o : Option Rule). (forms_in o).source < length p.symbols) (sym is.numbered)
    (rule-valid p t is.rule valid is.numbered).source
symbol-known p valid t is Arrives =
    subst (λ (o : Option Rule). (forms_in o).target < length p.symbols) (sym is.numbered)
    (rule-valid p t is.rule valid is.numbered).target

-- the touches before a position are all touches of their symbols, and each of these symbols is balanced
pub record AreDoneBefore (p : Program) (g : Gap) (ts : List Touch) (start : ℕ) : Type 0 where
  pub first : start < length ts → IsFirstOfSymbol ts start
  pub each : (k : ℕ) (d : Touch) → k < start
      → AllByRecursion (IsBalanced p g) (places_at p g (get_or ts k d).symbol)

module _ (p : Program) (g : Gap) (ts : List Touch) where
  -- before the first touch there is no symbol
  pub done-none : AreDoneBefore p g ts 0
  done-none = record { first = λ l j d e m. absurd (omega (arith, m)); each = λ k d m. absurd (omega (arith, m)) }

  -- after one more balanced symbol
  pub done-more : (group : Group) → IsGroup ts group
      → AllByRecursion (IsBalanced p g) (places_at p g group.symbol)
      → AreDoneBefore p g ts group.start → AreDoneBefore p g ts group.end
  done-more group is all done = record {
    first = λ l j d e m. first l j d e m (cases_lt j group.start);
    each = λ k d m. each k d m (cases_lt k group.start);
  }
    where
      first : group.end < length ts → (j : ℕ) (d e : Touch) → j < group.end → (j < group.start) ⊎ (group.start ≤ j)
          → (get_or ts j d).symbol < (get_or ts group.end e).symbol
      first l j d e m (inl b) = omega (arith, is.before j d (omega arith) b, is.behind group.end e (omega arith) l)
      first l j d e m (inr b) = omega (arith, is.within j d b m, is.behind group.end e (omega arith) l)

      each : (k : ℕ) (d : Touch) → k < group.end → (k < group.start) ⊎ (group.start ≤ k)
          → AllByRecursion (IsBalanced p g) (places_at p g (get_or ts k d).symbol)
      each k d m (inl b) = done.each k d b
      each k d m (inr b) =
          subst (λ (s : ℕ). AllByRecursion (IsBalanced p g) (places_at p g s)) (sym (is.within k d b m)) all

  module _ (rules : AreRules p g.set) (h : AreTouches (forms_at p) g.set ts) (d : Touch) where
    -- a symbol that the set touches has a touch
    touch-of : (s : ℕ) → touches p g.set s ≡ true → (k : ℕ) × (k < length ts) × (s ≡ (get_or ts k d).symbol)
    touch-of s t =
        let found = any-at (is_of s) d ts (touched-any p g.set rules s ts h ∙ t) in
        (found.0, found.1, eqb-true s (get_or ts found.0 d).symbol found.2)

    -- after the last touch all symbols are balanced
    pub done-all : (start : ℕ) → length ts ≤ start → AreDoneBefore p g ts start → IsFirstUnbalanced p g None
    done-all start l done =
        blocks-hold (touches p g.set) (IsBalanced p g) (balanced_at p g) (places_at p g) refl (λ s ss. refl) 0
        (length p.symbols)
        (λ s a b t.
        let at = touch-of s t in
        subst (λ (r : ℕ). AllByRecursion (IsBalanced p g) (places_at p g r)) (sym at.2)
        (done.each at.0 d (omega (arith, l, at.1))))

    -- the first unbalanced place of the next symbol is the first one of all
    pub done-fails : IsValid p → (group : Group) (place : ℕ) → IsGroup ts group → AreDoneBefore p g ts group.start
        → IsFirstFailing (IsBalanced p g) (places_at p g group.symbol) (coefficient_at group.symbol place)
        → IsFirstUnbalanced p g (Some (group.symbol, place))
    done-fails valid group place is done fails =
        blocks-fail (touches p g.set) (IsBalanced p g) (balanced_at p g) (places_at p g) refl (λ s ss. refl) 0
        (length p.symbols) group.symbol (coefficient_at group.symbol place) (omega arith) (omega (arith, known))
        (λ s a b t. before s b (touch-of s t)) touched fails
      where
        here : Touch
        here = get_or ts group.start d

        inside : group.start < length ts
        inside = omega (arith, is.some, is.bound)

        same : here.symbol ≡ group.symbol
        same = is.within group.start d (omega arith) is.some

        known : group.symbol < length p.symbols
        known =
            let real = touch-real (forms_at p) g.set ts h group.start d inside in
            omega (
              arith,
              same,
              real.1,
              symbol-known p valid (rule_in g.set here.position)
                  (rules (rule_in g.set here.position) (in-list g.set here.position 0 real.0)) here.way,
            )

        touched : touches p g.set group.symbol ≡ true
        touched =
            sym (touched-any p g.set rules group.symbol ts h)
            ∙ at-any (is_of group.symbol) d ts group.start inside
            (ap (λ (s : ℕ). group.symbol == s) same ∙ same_number group.symbol)

        before : (s : ℕ) → s < group.symbol → ((k : ℕ) × (k < length ts) × (s ≡ (get_or ts k d).symbol))
            → AllByRecursion (IsBalanced p g) (places_at p g s)
        before s b at = go (cases_lt at.0 group.start)
          where
            go : (at.0 < group.start) ⊎ (group.start ≤ at.0) → AllByRecursion (IsBalanced p g) (places_at p g s)
            go (inl l) =
                subst (λ (r : ℕ). AllByRecursion (IsBalanced p g) (places_at p g r)) (sym at.2) (done.each at.0 d l)
            go (inr l) =
                absurd (omega (arith, b, at.2, same, h.ordered group.start at.0 d l at.1))
