-- Bounds on the gains of moves.
use Rattle.std.proofs.Common.{◌≡◌, ℕ, ◌≤◌, ◌==◌, Bool, true, false, List, [], ◌∷◌, Option, Some, None}
use Rattle.std.proofs.Common.{refl, sym, ◌∙◌, ap, subst, arith, map, filter}
use Rattle.std.specs.Prelude.{ℤ, pos, ◌≤ℤ◌, ◌||◌, neg_ℤ}
use Rattle.std.specs.List.{AllByRecursion}
use Rattle.std.proofs.lemmas.Int.{ints}
use Rattle.potentials.specs.model.Terms.{Negation}
use Rattle.potentials.specs.model.Programs.{Program}
use Rattle.potentials.specs.model.Polynomials.{Polynomial, polynomial_value}
use Rattle.potentials.specs.model.Spending.{or_zero}
use Rattle.potentials.specs.Sums.{Charge, charge_at, charges, HoldsSum}
use Rattle.potentials.specs.Potentials.{gain_by, gains, kept_gains}
use Rattle.potentials.proofs.PositiveParts.{or_zero-le}
use Rattle.potentials.proofs.SumLaws.{zero-sum}
use Rattle.potentials.proofs.NodeLaws.{parts, added_sums}
use Rattle.signed_bounds.specs.Bounds.{Signed, signed_val, signed_sum}
use Rattle.signed_bounds.specs.Safe.{IsSafe}
use Rattle.potential_nodes.specs.Lookup.{lookup, is_there}
use Rattle.potential_nodes.specs.PolynomialTerms.{form_term}
use Rattle.potential_nodes.specs.Ground.{Ground}
use Rattle.potential_nodes.specs.Facts.{SignedFact, AllSignedHold, sum_bound}
use Rattle.potential_nodes.specs.Tables.{Move, PotentialTable, rule_of, gain_in, kind_in, potential_of, move_charge}
use Rattle.potential_nodes.specs.Falls.{sum_cited, sum_cited_by, cites_sum_by, with_bound, gain_parts}
use Rattle.potential_nodes.specs.Peaks.{keeps_function}
use Rattle.potential_nodes.proofs.LookupLaws.{is_there-some}
use Rattle.potential_nodes.proofs.TermLaws.{form-value}
use Rattle.potential_nodes.proofs.FactLaws.{sum_bound-holds}

-- a gain that the test accepts as never over 0 is never over 0
pub free-gain : (g : Ground) → IsSafe g.is_safe → (q : Polynomial) → g.is_safe (Negation (form_term q)) ≡ true
    → (env : List ℤ) → polynomial_value q env ≤ℤ pos 0
free-gain g safe q h env = low _ _ (form-value q env) (safe.each (Negation (form_term q)) h env)
  where
    low : (x y : ℤ) → x ≡ y → pos 0 ≤ℤ neg_ℤ x → y ≤ℤ pos 0
    low x y e k = omega (arith, ints, e, k)

-- a charge of a form that is never over 0 is 0
free-charge : (c : Charge) → ((env : List ℤ) → polynomial_value c.form env ≤ℤ pos 0) → (t : ℕ) (env : List ℤ)
    → charge_at c t env ≡ 0
free-charge c h t env = go (c.rule == t) refl
  where
    go : (v : Bool) → (c.rule == t) ≡ v → charge_at c t env ≡ 0
    go true e = let low = or_zero-le (polynomial_value c.form env) 0 (h env) in rw e (omega (arith, low))
    go false e = rw e refl

-- the sum of a move's gain has a bound: the cited lemma states one, or the gain is never over 0
pub record HasGainBound (g : Ground) (facts : List SignedFact) (m : Move) : Type 0 where
  pub cites : cites_sum_by facts m m.cited ≡ true
  pub free : (is_there m.cited || g.is_safe (Negation (form_term m.gain))) ≡ true

module _ (g : Ground) (facts : List SignedFact) (safe : IsSafe g.is_safe) (hold : AllSignedHold g.program facts) where
  -- the sum of all gains of moves with bounds is at most the sum of their bounds
  pub gains-bounded : (moves : List Move) → AllByRecursion (λ m. HasGainBound g facts m) moves
      → HoldsSum g.program (charges (map move_charge moves)) (signed_sum (gain_parts facts moves))
  gains-bounded [] all = zero-sum g.program (charges []) (λ t env. refl)
  gains-bounded (m ∷ moves) (first, others) = go m.cited refl (gains-bounded moves others)
    where
      sum_of : HoldsSum g.program (charges (map move_charge moves)) (signed_sum (gain_parts facts moves)) → (o : Option Signed)
          → sum_cited facts m ≡ o → HoldsSum g.program (charges (map move_charge (m ∷ moves))) (signed_sum (with_bound o (gain_parts facts moves)))
          → HoldsSum g.program (charges (map move_charge (m ∷ moves))) (signed_sum (gain_parts facts (m ∷ moves)))
      sum_of ih o e sum =
          subst (λ (x : Option Signed). HoldsSum g.program (charges (map move_charge (m ∷ moves))) (signed_sum (with_bound x (gain_parts facts moves)))) (sym e) sum

      cited_sum : (n : ℕ) → m.cited ≡ Some n → (b : Signed) → sum_bound facts (move_charge m ∷ []) n ≡ Some b
          → HoldsSum g.program (charges (map move_charge moves)) (signed_sum (gain_parts facts moves))
          → HoldsSum g.program (charges (map move_charge (m ∷ moves))) (signed_sum (gain_parts facts (m ∷ moves)))
      cited_sum n e b bound ih =
          let one = sum_bound-holds g.program facts hold (move_charge m ∷ []) n b bound in
          let alone = parts g.program (charge_at (move_charge m)) (charges (move_charge m ∷ [])) (signed_val b) (λ t env. omega arith) one in
          sum_of ih (Some b) (ap (sum_cited_by facts m) e ∙ bound)
          (added_sums g.program (charge_at (move_charge m)) (charges (map move_charge moves)) (signed_val b) (signed_sum (gain_parts facts moves)) alone ih)

      go : (o : Option ℕ) → m.cited ≡ o
          → HoldsSum g.program (charges (map move_charge moves)) (signed_sum (gain_parts facts moves))
          → HoldsSum g.program (charges (map move_charge (m ∷ moves))) (signed_sum (gain_parts facts (m ∷ moves)))
      go (Some n) e ih =
          let there = subst (λ (o : Option ℕ). cites_sum_by facts m o ≡ true) e first.cites in
          let found = is_there-some (sum_bound facts (move_charge m ∷ []) n) there in
          cited_sum n e found.0 found.1 ih
      go None e ih =
          let test = subst (λ (o : Option ℕ). (is_there o || g.is_safe (Negation (form_term m.gain))) ≡ true) e first.free in
          let nothing = free-charge (move_charge m) (free-gain g safe m.gain test) in
          sum_of ih None (ap (sum_cited_by facts m) e)
          (parts g.program (charges (map move_charge (m ∷ moves))) (charges (map move_charge moves)) (signed_sum (gain_parts facts moves))
          (λ t env. let zero = nothing t env in omega (arith, zero)) ih)

-- the gain of a move is among the charges of all moves
gain-listed : (moves : List Move) (t : ℕ) (env : List ℤ)
    → or_zero (polynomial_value (gain_in (lookup rule_of t moves)) env) ≤ charges (map move_charge moves) t env
gain-listed [] t env = omega arith
gain-listed (m ∷ moves) t env = go (m.rule == t) refl (gain-listed moves t env)
  where
    go : (v : Bool) → (m.rule == t) ≡ v
        → or_zero (polynomial_value (gain_in (lookup rule_of t moves)) env) ≤ charges (map move_charge moves) t env
        → or_zero (polynomial_value (gain_in (lookup rule_of t (m ∷ moves))) env) ≤ charges (map move_charge (m ∷ moves)) t env
    go true e ih = rw e (omega arith)
    go false e ih = rw e (omega (arith, ih))

-- the gain of a move that keeps the function is among the charges of the moves that do
kept-listed : (moves : List Move) (t : ℕ) (env : List ℤ)
    → gain_by (kind_in (lookup rule_of t moves)) (polynomial_value (gain_in (lookup rule_of t moves)) env)
    ≤ charges (map move_charge (filter keeps_function moves)) t env
kept-listed [] t env = omega arith
kept-listed (m ∷ moves) t env = go (m.rule == t) refl (m.keeps) refl (kept-listed moves t env)
  where
    go : (v : Bool) → (m.rule == t) ≡ v → (k : Bool) → m.keeps ≡ k
        → gain_by (kind_in (lookup rule_of t moves)) (polynomial_value (gain_in (lookup rule_of t moves)) env)
        ≤ charges (map move_charge (filter keeps_function moves)) t env
        → gain_by (kind_in (lookup rule_of t (m ∷ moves))) (polynomial_value (gain_in (lookup rule_of t (m ∷ moves))) env)
        ≤ charges (map move_charge (filter keeps_function (m ∷ moves))) t env
    go true e true k ih = rw e (rw k (rw e (omega arith)))
    go true e false k ih = rw e (rw k (omega arith))
    go false e true k ih = rw e (rw k (rw e (omega (arith, ih))))
    go false e false k ih = rw e (rw k (omega (arith, ih)))

-- a bound on the charges of the moves is one on the gains of the potential
pub potential-gains : (p : Program) (tab : PotentialTable) (b : List ℤ → ℕ) → HoldsSum p (charges (map move_charge tab.moves)) b
    → HoldsSum p (gains (potential_of tab)) b
potential-gains p tab b sum = parts p (gains (potential_of tab)) (charges (map move_charge tab.moves)) b (gain-listed tab.moves) sum

pub potential-kept_gains : (p : Program) (tab : PotentialTable) (b : List ℤ → ℕ)
    → HoldsSum p (charges (map move_charge (filter keeps_function tab.moves))) b → HoldsSum p (kept_gains (potential_of tab)) b
potential-kept_gains p tab b sum =
    parts p (kept_gains (potential_of tab)) (charges (map move_charge (filter keeps_function tab.moves))) b (kept-listed tab.moves) sum
