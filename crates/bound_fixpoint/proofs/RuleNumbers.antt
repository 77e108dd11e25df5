-- Rules are among the numbers of rules, and places after them among those of their targets.
use Rattle.std.proofs.Common.{◌≡◌, ℕ, zero, suc, ◌-◌, ◌<◌, ◌≤◌, true, false, length, Option, Some, None}
use Rattle.std.proofs.Common.{refl, sym, ◌∙◌, subst, arith}
use Rattle.std.specs.List.{range_with_len, Contains}
use Rattle.std.proofs.lemmas.List.FromFn.{length-range_with_len, get_or-range_with_len}
use Rattle.rule_questions.specs.model.Programs.{Program, Rule, rule_at, arity_of}
use Rattle.rule_questions.specs.model.Entries.{is_in}
use Rattle.rule_questions.specs.model.Paths.{target_of}
use Rattle.rule_questions.proofs.model.Membership.{is_in-contained, contains-is_in, no_is_not_yes, slice_get-below}
use Rattle.rule_questions.specs.cert_rules.AcceptsPlain.{IsRule, places_at}
use Rattle.bound_fixpoint.specs.Keys.{rule_numbers, IsPlace}
use Rattle.rule_questions.proofs.model.Cases.{slice_get-there as at_some}

-- a number from 1 up to a count is among those
pub in_range : (n i : ℕ) → 1 ≤ i → i ≤ n → is_in i (range_with_len 1 n) ≡ true
in_range n i least last = is_in-contained (range_with_len 1 n) i (
  i - 1,
  omega (arith, length-range_with_len 1 n, least, last),
  get_or-range_with_len 1 n (i - 1) i (omega (arith, least, last)) ∙ omega (arith, least),
)

-- a rule is one of the numbers of rules
pub rule_in : (p : Program) (t : ℕ) (r : Rule) → rule_at p t ≡ Some r → is_in t (rule_numbers p) ≡ true
rule_in p zero r e = absurd (none e)
  where
    none : None ≡ Some r → ⊥
    none x = cc
rule_in p (suc k) r e = let low = slice_get-below p.rules k r e in in_range (length p.rules) (suc k) (omega arith)
    (omega (arith, low))

-- a place is one of those of its symbol
pub place_in : (p : Program) (t i : ℕ) → IsPlace p t i → is_in i (places_at p (target_of p t)) ≡ true
place_in p t i place =
    subst (λ (o : Option ℕ). is_in i (places_at p o) ≡ true) (sym place.target)
    (in_range (arity_of p place.symbol) i place.least place.last)

-- a number in the list of places is a place
pub in_places : (p : Program) (t i : ℕ) → is_in i (places_at p (target_of p t)) ≡ true → IsPlace p t i
in_places p t i m = go (target_of p t) refl
  where
    go : (o : Option ℕ) → target_of p t ≡ o → IsPlace p t i
    go None e = absurd (no_is_not_yes false refl (rw e at m))
    go (Some a) e = by (contains-is_in (range_with_len 1 (arity_of p a)) i (rw e at m))
      where
        by : Contains (range_with_len 1 (arity_of p a)) i → IsPlace p t i
        by (k, low, same) =
            let below : k < arity_of p a = omega (arith, low, length-range_with_len 1 (arity_of p a)) in
            let number = get_or-range_with_len 1 (arity_of p a) k i below in
            record {
              symbol = a;
              target = e;
              least = omega (arith, same, number);
              last = omega
                  (arith, same, number, below);
            }

-- a number that is among those of rules is that of a rule
pub in_rules : (p : Program) (t : ℕ) → is_in t (rule_numbers p) ≡ true → IsRule p t
in_rules p t h = go t (contains-is_in (rule_numbers p) t h)
  where
    go : (u : ℕ) → Contains (rule_numbers p) u → IsRule p u
    go u (k, low, e) =
        let below : k < length p.rules = omega (arith, low, length-range_with_len 1 (length p.rules)) in
        let number : suc k ≡ u = omega (arith, e, get_or-range_with_len 1 (length p.rules) k u below) in
        let there = at_some p.rules k below in
        subst (λ (n : ℕ). IsRule p n) number (record { rule = there.0; numbered = there.1 })

-- there is a rule at each number up to their count
pub rule_numbered : (p : Program) (k : ℕ) → k < length p.rules → IsRule p (suc k)
rule_numbered p k h = let there = at_some p.rules k h in record { rule = there.0; numbered = there.1 }
