-- A program has one answer for a number of pivots.
use Rattle.std.proofs.Common.{◌≡◌, ◌≢◌, ℕ, zero, suc, ◌<◌, ◌≤◌, ap, arith, refl, sym, ◌∙◌, subst, ◌⊎◌, inl, inr, Bool}
use Rattle.std.proofs.Common.{true, false, Option, Some, None, List, [], ◌∷◌}
use Rattle.std.specs.Prelude.{ℤ, pos, ◌*ℤ◌, ◌<ℤ◌, if◌then◌else◌, Ok, Err, Result}
use Rattle.std.proofs.lemmas.Int.{ints}
use Rattle.std.proofs.lemmas.Bool.{cases_lt}
use Rattle.std.proofs.lemmas.List.{ext_get_or}
use Rattle.frac128.specs.declared.frac.Frac.{Frac}
use Rattle.frac128.specs.Fraction.{IsFraction}
use Rattle.frac128.proofs.Uniqueness.{same_parts}
use Rattle.int_laws.proofs.OrderLaws.{mul-cancel_ℤ}
use Rattle.int_laws.specs.Polynomial.{variable, ◌⊗◌}
use Rattle.int_laws.proofs.Identities.{identity}
use Rattle.simplex_core.specs.declared.problem.Solved.{Solved}
use Rattle.simplex_core.specs.declared.problem.Solved.TheVariants.{Optimal, Infeasible}
use Rattle.simplex_core.specs.declared.problem.SolveError.{SolveError}
use Rattle.simplex_core.specs.declared.problem.SolveError.TheVariants.{Range, Budget, Wide, Memory}
use Rattle.linear_forms.specs.LinearProgram.{LinearProgram}
use Rattle.simplex_core.specs.Tableau.{Tableau, unknowns, cost_row}
use Rattle.simplex_core.specs.Bland.{dual_of, is_infeasible, entering, step_in, next, next_of, tableau_at}
use Rattle.simplex_core.specs.Problem.{table_size, widest}
use Rattle.simplex_core.specs.Outcome.{ComesAfter, IsInRange, IsBasicValue, HoldsPoint, EndsOptimally, EndsInfeasibly}
use Rattle.simplex_core.specs.Outcome.{ExceedsNumberRange, ExceedsPivotLimit, IsEnd, IsStop, IsAnswer}
use Rattle.simplex_core.specs.Agreement.{AreSameFractions, IsMemory, IsSameAnswer}
use Rattle.simplex_core.proofs.Invariant.{IsTableauOf, same_or_other}
use Rattle.simplex_core.proofs.SequenceLaws.{tableau_at-is_tableau}

-- the sequence isn't followed beyond this tableau: it is out of range, or nothing follows it, or the allowed number of
-- pivots has been made
pub record Stops (p : LinearProgram) (allowed k : ℕ) (t : Tableau) : Type 0 where
  pub within : k ≤ allowed
  pub reached : ComesAfter p k t
  pub last : IsInRange p t → (next p t ≡ None) ⊎ (k ≡ allowed)

-- if a later tableau exists, something follows this one
next-there : (p : LinearProgram) (k m : ℕ) (t u : Tableau) → k < m → tableau_at p k ≡ Some t → tableau_at p m ≡ Some u → next p t ≢ None
next-there p k zero t u l here there none = absurd (omega arith)
next-there p k (suc m) t u l here there none = go (cases_lt k m) (tableau_at p m) refl there (λ v i e. next-there p k m t v i here e none)
  where
    go : (k < m) ⊎ (m ≤ k) → (o : Option Tableau) → tableau_at p m ≡ o → next_of p o ≡ Some u → ((v : Tableau) → k < m → tableau_at p m ≡ Some v → ⊥) → ⊥
    go c None e h ih = cc
    go (inl i) (Some v) e h ih = ih v i e
    go (inr i) (Some v) e h ih =
        let same : k ≡ m = omega arith in
        let here' : tableau_at p m ≡ Some t = ap (λ (n : ℕ). tableau_at p n) (sym same) ∙ here in
        let one : v ≡ t = cc in
        let after : next p t ≡ Some u = subst (λ (w : Tableau). next p w ≡ Some u) one h in
        cc

-- the sequence doesn't stop after two different numbers of pivots
stops-once : (p : LinearProgram) (allowed k m : ℕ) (t u : Tableau) → Stops p allowed k t → Stops p allowed m u → ¬ (k < m)
stops-once p allowed k m t u s r l = go (s.last (r.reached.before k t l s.reached.is))
  where
    go : (next p t ≡ None) ⊎ (k ≡ allowed) → ⊥
    go (inl e) = next-there p k m t u l s.reached.is r.reached.is e
    go (inr e) = let w = r.within in omega arith

-- if the sequence stops after two numbers of pivots, these are equal, and so are the tableaux
pub stops-same : (p : LinearProgram) (allowed k m : ℕ) (t u : Tableau) → Stops p allowed k t → Stops p allowed m u → (k ≡ m) × (t ≡ u)
stops-same p allowed k m t u s r = (same, tableaux)
  where
    same : k ≡ m
    same = let a = stops-once p allowed k m t u s r in let b = stops-once p allowed m k u t r s in omega (arith, a, b)

    tableaux : t ≡ u
    tableaux = let e = ap (λ (n : ℕ). tableau_at p n) (sym same) ∙ s.reached.is in let f = r.reached.is in cc

-- at an end as infeasible nothing follows
pub infeasible-last : (p : LinearProgram) (t : Tableau) → is_infeasible p t ≡ true → next p t ≡ None
infeasible-last p t e = ap (λ (b : Bool). if b then None else step_in p t (entering p t)) e

-- if no column may enter, nothing follows
pub optimal-last : (p : LinearProgram) (t : Tableau) → is_infeasible p t ≡ false → entering p t ≡ None → next p t ≡ None
optimal-last p t e f = ap (λ (b : Bool). if b then None else step_in p t (entering p t)) e ∙ ap (λ (o : Option ℕ). step_in p t o) f

-- an end as optimal stops
pub optimal-stops : (p : LinearProgram) (allowed k : ℕ) (at : List Frac) (basis : List ℕ) (e : EndsOptimally p allowed at basis k) → Stops p allowed k e.last
optimal-stops p allowed k at basis e = record { within = e.within; reached = e.reached; last = λ _. inl (optimal-last p e.last e.feasible e.done) }

-- an end as infeasible stops
pub infeasible-stops : (p : LinearProgram) (allowed k : ℕ) (dual : List Frac) (e : EndsInfeasibly p allowed dual k) → Stops p allowed k e.last
infeasible-stops p allowed k dual e = record { within = e.within; reached = e.reached; last = λ _. inl (infeasible-last p e.last e.infeasible) }

-- a number out of range stops the sequence
pub range-stops : (p : LinearProgram) (allowed k : ℕ) (e : ExceedsNumberRange p allowed k) → Stops p allowed k e.last
range-stops p allowed k e = record { within = e.within; reached = e.reached; last = λ i. absurd (e.out i) }

-- the limit on pivots stops the sequence
pub budget-stops : (p : LinearProgram) (allowed : ℕ) (e : ExceedsPivotLimit p allowed) → Stops p allowed allowed e.last
budget-stops p allowed e = record { within = omega arith; reached = e.reached; last = λ _. inr refl }

-- fractions with the same value are equal
pub value-same : (f g : Frac) (n d : ℤ) → pos 0 <ℤ d → IsFraction f n d → IsFraction g n d → (f.num ≡ g.num) × (f.den ≡ g.den)
value-same f g n d positive a b =
    same_parts f.num f.den g.num g.den f.positive g.positive f.lowest g.lowest
    (mul-cancel_ℤ d (f.num *ℤ g.den) (g.num *ℤ f.den) positive
    (identity (d ∷ f.num ∷ g.den ∷ []) (variable 0 ⊗ (variable 1 ⊗ variable 2)) ((variable 1 ⊗ variable 0) ⊗ variable 2) refl
    ∙ (ap (λ (z : ℤ). z *ℤ g.den) a
    ∙ (identity (n ∷ f.den ∷ g.den ∷ []) ((variable 0 ⊗ variable 1) ⊗ variable 2) ((variable 0 ⊗ variable 2) ⊗ variable 1) refl
    ∙ (ap (λ (z : ℤ). z *ℤ f.den) (sym b) ∙ identity (g.num ∷ d ∷ f.den ∷ []) ((variable 0 ⊗ variable 1) ⊗ variable 2) (variable 1 ⊗ (variable 0 ⊗ variable 2)) refl)))))

-- lists that hold the same point are equal
pub points-same : (n : ℕ) (fs gs : List Frac) (x : ℕ → ℤ) (d : ℤ) → pos 0 <ℤ d → HoldsPoint n fs x d → HoldsPoint n gs x d → AreSameFractions fs gs
points-same n fs gs x d positive a b = record {
  lengths = a.length_is ∙ sym b.length_is;
  each = λ k f g e h. value-same f g (x k) d positive (a.each k f e) (b.each k g h);
}

-- two different rows aren't solved for the same unknown
basis-apart : (p : LinearProgram) (t : Tableau) (i k j : ℕ) → IsTableauOf p t → i < p.rows → k < p.rows → t.basis i ≡ j → t.basis k ≡ j → i ≡ k
basis-apart p t i k j h l m e f = go (same_or_other i k)
  where
    go : (i ≡ k) ⊎ (i ≢ k) → i ≡ k
    go (inl s) = s
    go (inr d) =
        let own = h.own i l in
        let other = h.other i k (omega arith) m d in
        let same : t.entry i (t.basis i) ≡ t.entry i (t.basis k) = ap (λ (c : ℕ). t.entry i c) (e ∙ sym f) in
        let scale : pos 0 <ℤ t.scale i = h.positive i (omega arith) in
        absurd (clash _ _ _ own other same scale)
      where
        clash : (a b s : ℤ) → a ≡ s → b ≡ pos 0 → a ≡ b → pos 0 <ℤ s → ⊥
        clash a b s e f g l = omega (arith, ints)

-- the basic solution has only one number in a column
basic-same : (p : LinearProgram) (t : Tableau) (j : ℕ) (f g : Frac) → IsTableauOf p t → IsBasicValue p t j f → IsBasicValue p t j g → (f.num ≡ g.num) × (f.den ≡ g.den)
basic-same p t j f g h (inl a) (inl b) =
    let same = basis-apart p t a.0 b.0 j h a.1 b.1 a.2 b.2 in
    value-same f g (t.entry b.0 (unknowns p)) (t.scale b.0) (h.positive b.0 (let l = b.1 in omega arith))
    (subst (λ (i : ℕ). IsFraction f (t.entry i (unknowns p)) (t.scale i)) same a.3) b.3
basic-same p t j f g h (inl a) (inr b) = absurd (b.1 a.0 a.1 a.2)
basic-same p t j f g h (inr a) (inl b) = absurd (a.1 b.0 b.1 b.2)
basic-same p t j f g h (inr a) (inr b) =
    same_parts f.num f.den g.num g.den f.positive g.positive f.lowest g.lowest (ap (λ (z : ℤ). z *ℤ g.den) a.0 ∙ (nothing g.den f.den ∙ ap (λ (z : ℤ). z *ℤ f.den) (sym b.0)))
  where
    nothing : (a b : ℤ) → pos 0 *ℤ a ≡ pos 0 *ℤ b
    nothing a b = omega (arith, ints)

-- two ends as optimal are equal
pub optimal-same : (p : LinearProgram) (allowed k m : ℕ) (at at' : List Frac) (basis basis' : List ℕ)
    → EndsOptimally p allowed at basis k → EndsOptimally p allowed at' basis' m → AreSameFractions at at' × (basis ≡ basis') × (k ≡ m)
optimal-same p allowed k m at at' basis basis' a b =
    let same = stops-same p allowed k m a.last b.last (optimal-stops p allowed k at basis a) (optimal-stops p allowed m at' basis' b) in (
      record {
        lengths = a.holds.length_is ∙ sym b.holds.length_is;
        each = λ j f g e h. basic-same p b.last j f g (tableau_at-is_tableau p m b.last b.reached.is)
            (subst (λ (t : Tableau). IsBasicValue p t j f) same.1 (a.basic j f e)) (b.basic j g h);
      },
      ext_get_or 0 basis basis' (a.rows ∙ sym b.rows) (λ i l. let m : i < p.rows = omega (arith, l, a.rows) in a.basis_is i m ∙ (ap (λ (t : Tableau). t.basis i) same.1 ∙ sym (b.basis_is i m))),
      same.0,
    )

-- two ends as infeasible are equal
pub infeasible-same : (p : LinearProgram) (allowed k m : ℕ) (dual dual' : List Frac)
    → EndsInfeasibly p allowed dual k → EndsInfeasibly p allowed dual' m → AreSameFractions dual dual' × (k ≡ m)
infeasible-same p allowed k m dual dual' a b =
    let same = stops-same p allowed k m a.last b.last (infeasible-stops p allowed k dual a) (infeasible-stops p allowed m dual' b) in
    let scale = (tableau_at-is_tableau p m b.last b.reached.is).positive (cost_row p 0) (omega arith) in (
      points-same p.rows dual dual' (dual_of p b.last) (b.last.scale (cost_row p 0)) scale
          (subst (λ (t : Tableau). HoldsPoint p.rows dual (dual_of p t) (t.scale (cost_row p 0))) same.1 a.read) b.read,
      same.0,
    )

-- an end as optimal excludes an end as infeasible
pub ends-apart : (p : LinearProgram) (allowed k m : ℕ) (at : List Frac) (basis : List ℕ) (dual : List Frac)
    → EndsOptimally p allowed at basis k → EndsInfeasibly p allowed dual m → ⊥
ends-apart p allowed k m at basis dual a b =
    let same = stops-same p allowed k m a.last b.last (optimal-stops p allowed k at basis a) (infeasible-stops p allowed m dual b) in
    let e : is_infeasible p b.last ≡ false = subst (λ (t : Tableau). is_infeasible p t ≡ false) same.1 a.feasible in
    let f = b.infeasible in
    cc

-- a sequence that ends in range doesn't exceed the number range
pub range-apart : (p : LinearProgram) (allowed k m : ℕ) (t : Tableau) → IsInRange p t → Stops p allowed k t → ExceedsNumberRange p allowed m → ⊥
range-apart p allowed k m t range s r =
    let same = stops-same p allowed k m t r.last s (range-stops p allowed m r) in
    r.out (subst (λ (u : Tableau). IsInRange p u) same.1 range)

-- a sequence that ends doesn't exceed the limit on pivots
pub budget-apart : (p : LinearProgram) (allowed k : ℕ) (t : Tableau) → next p t ≡ None → Stops p allowed k t → ExceedsPivotLimit p allowed → ⊥
budget-apart p allowed k t none s r =
    let same = stops-same p allowed k allowed t r.last s (budget-stops p allowed r) in
    let e : next p r.last ≡ None = subst (λ (u : Tableau). next p u ≡ None) same.1 none in
    let f = r.goes_on in
    cc

-- a program that ends hits no limit, unless memory runs out
pub end-apart : (p : LinearProgram) (allowed : ℕ) (s : Solved) (e : SolveError) → (table_size p ≤ widest) × IsEnd p allowed s → IsStop p allowed e → IsMemory e
end-apart p allowed (Optimal at basis k) (Range m) (w, a) (v, b) = range-apart p allowed k m a.last a.in_range (optimal-stops p allowed k at.items basis.items a) b
end-apart p allowed (Optimal at basis k) (Budget m) (w, a) (v, b) =
    budget-apart p allowed k a.last (optimal-last p a.last a.feasible a.done) (optimal-stops p allowed k at.items basis.items a) b.1
end-apart p allowed (Infeasible dual k) (Range m) (w, a) (v, b) = range-apart p allowed k m a.last a.in_range (infeasible-stops p allowed k dual.items a) b
end-apart p allowed (Infeasible dual k) (Budget m) (w, a) (v, b) =
    budget-apart p allowed k a.last (infeasible-last p a.last a.infeasible) (infeasible-stops p allowed k dual.items a) b.1
end-apart p allowed s (Wide n) (w, a) (v, b) = clash _ _ w v
  where
    clash : (a b : ℕ) → a ≤ b → b < a → ⊥
    clash a b l m = omega arith
end-apart p allowed s Memory a b = tt

-- two limits that are hit are the same, unless memory runs out
pub stops-agree : (p : LinearProgram) (allowed : ℕ) (e e' : SolveError) → IsStop p allowed e → IsStop p allowed e' → (e ≡ e') ⊎ (IsMemory e ⊎ IsMemory e')
stops-agree p allowed Memory e' a b = inr (inl tt)
stops-agree p allowed e Memory a b = inr (inr tt)
stops-agree p allowed (Range k) (Range m) (v, a) (w, b) = inl (ap Range (stops-same p allowed k m a.last b.last (range-stops p allowed k a) (range-stops p allowed m b)).0)
stops-agree p allowed (Range k) (Budget m) (v, a) (w, b) = absurd (range-apart p allowed allowed k b.1.last b.1.in_range (budget-stops p allowed b.1) a)
stops-agree p allowed (Budget k) (Range m) (v, a) (w, b) = absurd (range-apart p allowed allowed m a.1.last a.1.in_range (budget-stops p allowed a.1) b)
stops-agree p allowed (Budget k) (Budget m) (v, a) (w, b) = inl (ap Budget (a.0 ∙ sym b.0))
stops-agree p allowed (Wide k) (Wide m) a b = inl (ap Wide (a.1 ∙ sym b.1))
stops-agree p allowed (Wide k) (Range m) a b = absurd (let l = a.0 in let m = b.0 in omega arith)
stops-agree p allowed (Wide k) (Budget m) a b = absurd (let l = a.0 in let m = b.0 in omega arith)
stops-agree p allowed (Range k) (Wide m) a b = absurd (let l = a.0 in let m = b.0 in omega arith)
stops-agree p allowed (Budget k) (Wide m) a b = absurd (let l = a.0 in let m = b.0 in omega arith)

-- two answers are the same, unless memory runs out
pub answers-same : (p : LinearProgram) (allowed : ℕ) (a b : Result Solved SolveError) → IsAnswer p allowed a → IsAnswer p allowed b → IsSameAnswer a b
answers-same p allowed (Ok (Optimal at basis k)) (Ok (Optimal at' basis' k')) a b = optimal-same p allowed k k' at.items at'.items basis.items basis'.items a.1 b.1
answers-same p allowed (Ok (Optimal at basis k)) (Ok (Infeasible dual k')) a b = ends-apart p allowed k k' at.items basis.items dual.items a.1 b.1
answers-same p allowed (Ok (Infeasible dual k)) (Ok (Optimal at basis k')) a b = ends-apart p allowed k' k at.items basis.items dual.items b.1 a.1
answers-same p allowed (Ok (Infeasible dual k)) (Ok (Infeasible dual' k')) a b = infeasible-same p allowed k k' dual.items dual'.items a.1 b.1
answers-same p allowed (Ok s) (Err e) a b = end-apart p allowed s e a b
answers-same p allowed (Err e) (Ok s) a b = end-apart p allowed s e b a
answers-same p allowed (Err e) (Err e') a b = stops-agree p allowed e e' a b
