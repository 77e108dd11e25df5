-- Lemmas that are cited, and their stored facts.
use Rattle.std.proofs.Common.{◌≡◌, ◌≢◌, ℕ, zero, suc, ◌-◌, ◌<◌, true, nat_lt, List, [], ◌∷◌, length, map, get_or, refl, sym, ap}
use Rattle.std.proofs.Common.{subst, arith}
use Rattle.std.specs.List.{AllByRecursion}
use Rattle.std.proofs.lemmas.Bool.{ltb-true}
use Rattle.std.proofs.lemmas.List.{length-map}
use Rattle.model.specs.Programs.{Program}
use Rattle.cert_types.specs.cert_rules.Acceptance.{facts_of_lemma}
use Rattle.cert_types.specs.cert_rules.Nodes.{Proof, Cite}
use Rattle.cert_types.specs.cert_rules.Setting.{Setting}
use Rattle.cert_context.specs.declared.stated_facts.StatedFacts.{StatedFacts}
use Rattle.cert_context.specs.declared.stated_facts.PremiseFacts.TheVariants as by
use Rattle.check_file.specs.Judging.{IsKeptOf, IsNodeOf}
use Rattle.cert_context.specs.Statements.{stated_at}

-- the facts of a lemma are those at its position
cited-facts : (kept : StatedFacts) (is : List ℕ) (m i : ℕ) → m < length is → i ≡ get_or is m i
    → stated_at kept i ≡ facts_of_lemma (map (stated_at kept) is) (suc m)
cited-facts kept [] m i l e = absurd (omega (arith, l))
cited-facts kept (j ∷ is) zero i l e = ap (stated_at kept) e
cited-facts kept (j ∷ is) (suc m) i l e = cited-facts kept is m i (omega (arith, l)) e

-- the position of a lemma's facts is one of the stored facts
placed-at : (n : ℕ) (is : List ℕ) (m i : ℕ) → AllByRecursion (λ k. k < n) is → m < length is → i ≡ get_or is m i → i < n
placed-at n [] m i h l e = absurd (omega (arith, l))
placed-at n (j ∷ is) zero i h l e = omega (arith, h.0, e)
placed-at n (j ∷ is) (suc m) i h l e = placed-at n is m i h.1 (omega (arith, l)) e

-- a citation of an earlier lemma is accepted, and states the facts stored for it
pub cited-node : (p : Program) (s : Setting) (lemmas : List Proof) (kept : StatedFacts) → IsKeptOf p s lemmas kept
    → (n position : ℕ) (xs : List ℕ) → xs ≡ kept.lemmas.items → n ≢ 0 → true ≡ nat_lt (n - 1) (length xs)
    → position ≡ get_or xs (n - 1) position → (t : Setting) → IsNodeOf t kept (Cite n) (by.StatedFacts position)
cited-node p s lemmas kept h zero position xs e none l f t = absurd (none refl)
cited-node p s lemmas kept h (suc m) position xs e none l f t = record {
  passed = (record { least = omega arith; earlier = omega (arith, low, length-map kept.lemmas.items (stated_at kept)) }, tt);
  facts = cited-facts kept kept.lemmas.items m position low found;
  placed = placed-at (length kept.stated.items) kept.lemmas.items m position h.placed low found;
}
  where
    less : suc m - 1 ≡ m
    less = omega arith

    low : m < length kept.lemmas.items
    low = subst (λ (ys : List ℕ). m < length ys) e (subst (λ (i : ℕ). i < length xs) less (ltb-true (suc m - 1) (length xs) (sym l)))

    found : position ≡ get_or kept.lemmas.items m position
    found = subst (λ (ys : List ℕ). position ≡ get_or ys m position) e (subst (λ (i : ℕ). position ≡ get_or xs i position) less f)
