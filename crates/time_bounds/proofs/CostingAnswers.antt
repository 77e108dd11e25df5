-- What the entries of costs add, for each answer of the code.
use Rattle.std.proofs.Common.{◌≡◌, ℕ, List, [], ◌∷◌, ◌++◌, length, map, Some, ap, sym, ◌∙◌, subst, arith}
use Rattle.std.proofs.lemmas.List.{length-append, length-map, map-append}
use Rattle.model.specs.Bounds.{Bound}
use Rattle.model.specs.Facts.{Cost}
use Rattle.model.specs.Programs.{Program}
use Rattle.bound_expr.specs.Views.{bound_of}
use Rattle.cert_types.specs.Views.{fact_of, proof_of}
use Rattle.cert_types.specs.cert_rules.Known as plain
use Rattle.cert_types.specs.cert_rules.Nodes as nodes
use Rattle.cert_types.specs.declared.fact.Fact.{Fact}
use Rattle.cert_types.specs.declared.proof.Proof.{Proof}
use Rattle.outcome.specs.declared.entry.CostEntry.TheVariants as costs
use Rattle.outcome.specs.declared.entry.Stored.{Stored}
use Rattle.bound_fixpoint.specs.Keys.{over}
use Rattle.size_bounds.specs.Tables.{bounds_in, number_at, table_of}
use Rattle.size_bounds.specs.declared.table.Table.{Table}
use Rattle.cost_bounds.specs.CostAnswers.{IsCostAnswer}
use Rattle.cost_bounds.specs.declared.answer.CostAnswer.{CostAnswer}
use Rattle.cost_bounds.specs.declared.answer.CostAnswer.TheVariants as answers
use Rattle.time_bounds.specs.CostEntries.{AddsCost}
use Rattle.time_bounds.proofs.TablesOver.{table_over}

module _ (p : Program) (pivots : ℕ) (tab : Table) (t : ℕ) where
  -- an answer over the table is one over the table of its bounds by key
  pub over_keys : (a : CostAnswer) → IsCostAnswer p pivots (table_of tab) (number_at tab) t a
      → IsCostAnswer p pivots (over (bounds_in tab)) (number_at tab) t a
  over_keys a h = subst (λ (x : plain.Table). IsCostAnswer p pivots x (number_at tab) t a) (table_over tab) h

  -- a bound that is found is stored with the number of its lemma, which was pushed
  pub found_added : (node : Proof) (fact : Fact) → IsCostAnswer p pivots (table_of tab) (number_at tab) t (answers.Found node fact)
      → (s : Stored) → fact_of fact ≡ Cost t (bound_of s.bound) → (old new : List Proof) → new ≡ old ++ node ∷ []
      → s.lemma ≡ length new
      → AddsCost p pivots (bounds_in tab) (number_at tab) t (Some (costs.Known s)) (map proof_of old) (map proof_of new)
  found_added node fact h s stored old new pushed numbered =
      let k = over_keys (answers.Found node fact) h in (
        k.0,
        k.1,
        inner (sym stored ∙ k.3),
        ap (λ (xs : List Proof). map proof_of xs) pushed
            ∙ (map-append proof_of old (node ∷ [])
            ∙ ap (λ (x : nodes.Proof). map proof_of old ++ x ∷ []) k.2),
        omega (
          arith,
          numbered,
          ap (λ (xs : List Proof). length xs) pushed,
          length-append old (node ∷ []),
          length-map old proof_of,
        ),
      )
    where
      inner : {b c : Bound} → Cost t b ≡ Cost t c → b ≡ c
      inner e = cc
