-- Right facts in ascending order: each symbol has few of them.
use Rattle.std.proofs.Common.{◌≡◌, ℕ, zero, suc, ◌+◌, ◌*◌, ◌-◌, ◌<◌, ◌≤◌, min, refl, arith, List, [], ◌∷◌, length}
use Rattle.std.proofs.Common.{Bool, true, false, if◌then◌else◌}
use Rattle.std.specs.Prelude.{ℤ, pos, negsuc, nat_abs, ◌+ℤ◌, ◌≤ℤ◌, nat_eq, slice_get}
use Rattle.std.proofs.lemmas.Int.{ints}
use Rattle.std.proofs.lemmas.Bool.{eqb-true}
use Rattle.poly_terms.specs.model.Programs.{Program, arity_of}
use Rattle.location_facts.specs.declared.fact.LocFact.{LocFact}
use Rattle.location_facts.specs.declared.fact.FactProof.{FactProof}
use Rattle.location_facts.specs.Candidates.{IsCandidate, order_number}
use Rattle.location_facts.specs.Faults.{number_in, IsFactAt, IsRight, AreRight}
use Rattle.location_facts.specs.Implied.{Ascend}
use Rattle.location_facts.specs.Rows.{facts_at}

-- the least number for a position, if the first has at least k
abbrev pub least_from : ℕ → List LocFact → ℕ → ℕ
least_from k kept zero = k
least_from k kept (suc i) = suc (number_in (slice_get kept i))

ascends-from : (p : Program) (kept : List LocFact) (proofs : List (List FactProof)) (k : ℕ)
    → length proofs ≡ length kept
    → ((i : ℕ) (f : LocFact) (ps : List FactProof) → i < length kept → IsFactAt kept proofs i f ps
    → IsRight p (least_from k kept i) f ps)
    → Ascend p k kept
ascends-from p [] proofs k e h = tt
ascends-from p (f ∷ kept) [] k e h = absurd (omega (arith, e))
ascends-from p (f ∷ kept) (ps ∷ proofs) k e h =
    let first = h 0 f ps (omega arith) (record { fact = refl; listed = refl }) in (
      first.candidate,
      first.behind,
      ascends-from p kept proofs (suc (order_number f)) (omega (arith, e)) (λ i g qs l stands. rest i g qs l stands),
    )
  where
    rest : (i : ℕ) (g : LocFact) (qs : List FactProof) → i < length kept → IsFactAt kept proofs i g qs
        → IsRight p (least_from (suc (order_number f)) kept i) g qs
    rest zero g qs l stands = h 1 g qs (omega (arith, l)) (record { fact = stands.fact; listed = stands.listed })
    rest (suc i) g qs l stands =
        h (suc (suc i)) g qs (omega (arith, l)) (record { fact = stands.fact; listed = stands.listed })

-- the facts of a symbol have 243 consecutive numbers
number-low : (f : LocFact) (s : ℕ) → f.symbol ≡ s → s * 243 ≤ order_number f
number-low f s e = go f.symbol s f.plus f.minus (nat_abs (f.least +ℤ pos 1)) e
  where
    go : (a s i j n : ℕ) → a ≡ s → s * 243 ≤ ((a * 9 + i) * 9 + j) * 3 + n
    go a s i j n e = omega (arith, e)

number-high : (p : Program) (f : LocFact) (s : ℕ) → IsCandidate p f → f.symbol ≡ s → order_number f < s * 243 + 243
number-high p f s c e =
    go f.symbol s f.plus f.minus (nat_abs (f.least +ℤ pos 1)) (arity_of p f.symbol) e c.plus c.minus
    (small f.least c.low c.high)
  where
    small : (k : ℤ) → negsuc 0 ≤ℤ k → k ≤ℤ pos 1 → nat_abs (k +ℤ pos 1) ≤ 2
    small (pos zero) l h = omega arith
    small (pos (suc zero)) l h = omega arith
    small (pos (suc (suc n))) l h = absurd (omega (arith, ints, h))
    small (negsuc zero) l h = omega arith
    small (negsuc (suc n)) l h = absurd (omega (arith, ints, l))

    go : (a s i j n m : ℕ) → a ≡ s → i ≤ min m 8 → j ≤ min m 8 → n ≤ 2
        → ((a * 9 + i) * 9 + j) * 3 + n < s * 243 + 243
    go a s i j n m e l h k = omega (arith, e, l, h, k)

-- so a symbol has at most 243 facts, and fewer if the first has a greater number
pub few-from : (p : Program) (s k : ℕ) (kept : List LocFact) → Ascend p k kept
    → (length (facts_at s kept) ≤ 243) × (length (facts_at s kept) ≤ s * 243 + 243 - k)
few-from p s k [] h = (omega arith, omega arith)
few-from p s k (f ∷ kept) (c, l, rest) =
    go (nat_eq f.symbol s) refl (length (facts_at s kept)) refl (few-from p s (suc (order_number f)) kept rest)
  where
    go : (v : Bool) → nat_eq f.symbol s ≡ v → (n : ℕ) → length (facts_at s kept) ≡ n
        → (length (facts_at s kept) ≤ 243) × (length (facts_at s kept) ≤ s * 243 + 243 - suc (order_number f))
        → (length (if v then f ∷ facts_at s kept else facts_at s kept) ≤ 243)
        × (length (if v then f ∷ facts_at s kept else facts_at s kept) ≤ s * 243 + 243 - k)
    go false test n e (a, b) = (a, later (length (facts_at s kept)) (order_number f) (s * 243 + 243) k l b)
      where
        later : (n r m k : ℕ) → k ≤ r → n ≤ m - suc r → n ≤ m - k
        later n r m k l b = omega (arith, l, b)
    go true test n e (a, b) =
        both (length (facts_at s kept)) (order_number f) (s * 243) k (number-low f s (eqb-true f.symbol s test))
        (number-high p f s c (eqb-true f.symbol s test)) l b
      where
        both : (n r m k : ℕ) → m ≤ r → r < m + 243 → k ≤ r → n ≤ m + 243 - suc r
            → (suc n ≤ 243) × (suc n ≤ m + 243 - k)
        both n r m k low high l b = (omega (arith, low, high, b), omega (arith, low, high, l, b))

-- each symbol has at most 243 right facts
pub few-facts : (p : Program) (kept : List LocFact) (proofs : List (List FactProof)) → length proofs ≡ length kept
    → AreRight p kept proofs (length kept) → (s : ℕ) → length (facts_at s kept) ≤ 243
few-facts p kept proofs e h s =
    (few-from p s 0 kept (ascends-from p kept proofs 0 e (λ i f ps l stands. right i f ps l stands))).0
  where
    right : (i : ℕ) (f : LocFact) (ps : List FactProof) → i < length kept → IsFactAt kept proofs i f ps
        → IsRight p (least_from 0 kept i) f ps
    right zero f ps l stands = h zero f ps l stands
    right (suc i) f ps l stands = h (suc i) f ps l stands
