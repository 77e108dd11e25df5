use Rattle.std.proofs.Common.{◌≡◌, ◌==◌, ℕ, ◌∙◌, ap, sym, List, ◌∷◌, not, map, filter, true, false}
use Rattle.std.proofs.lemmas.Result.{IfOk-weaker}
use Rattle.model.specs.Entries.{is_in}
use Rattle.cert_types.specs.cert_rules.Nodes as nodes
use Rattle.cert_types.specs.declared.proof.Proof.{Proof}
use Rattle.cert_types.specs.Views.{proof_of, uses_of}
use Rattle.bound_fixpoint.specs.Needs.{once, uses_from}
use Rattle.size_bounds.specs.Lemmas.{uses_of_proofs}
use Rattle.size_bounds.proofs.UseLists.{cites_seen}
use Rattle.size_bounds.proofs.uses.uses_of_lemmas.Goals as goal

abbrev others_of : List ℕ → List ℕ
others_of ns = once (filter (λ n. not (n == 0)) ns)

started : (ns others : List ℕ) (us : List Proof) → is_in 0 ns ≡ true → others ≡ others_of ns
    → map proof_of us ≡ nodes.Start ∷ map (λ n. nodes.Cite n) others → uses_of_proofs us ≡ uses_from ns
started ns others us e o k =
    rw e (ap uses_of (k ∙ ap (λ (ms : List ℕ). nodes.Start ∷ map (λ n. nodes.Cite n) ms) o)
    ∙ ap (λ (ps : nodes.Proofs). nodes.AndProof nodes.Start ps) (cites_seen (others_of ns)))

plain : (ns others : List ℕ) (us : List Proof) → is_in 0 ns ≡ false → others ≡ others_of ns
    → map proof_of us ≡ map (λ n. nodes.Cite n) others → uses_of_proofs us ≡ uses_from ns
plain ns others us e o k =
    rw e (ap uses_of (k ∙ ap (λ (ms : List ℕ). map (λ n. nodes.Cite n) ms) o) ∙ cites_seen (others_of ns))

pub returns-then-has : goal.returns-then-has
returns-then-has c =
    IfOk-weaker c.with_start.result
    (λ us. map proof_of us.items ≡ nodes.Start ∷ map (λ n. nodes.Cite n) c.deref.result.now)
    (λ us. uses_of_proofs us.items ≡ uses_from c.args.lemmas.now)
    (λ us k. started c.args.lemmas.now c.deref.result.now us.items (sym c.has.ensures ∙ c.if-has.true) (c.deref.ensures.value ∙ c.in_ok-others.ensures) k)
    c.with_start.ensures

pub returns : goal.returns
returns c =
    IfOk-weaker c.without_start.result
    (λ us. map proof_of us.items ≡ map (λ n. nodes.Cite n) c.deref-else-has.result.now)
    (λ us. uses_of_proofs us.items ≡ uses_from c.args.lemmas.now)
    (λ us k. plain c.args.lemmas.now c.deref-else-has.result.now us.items (sym c.has.ensures ∙ c.if-has.false) (c.deref-else-has.ensures.value ∙ c.in_ok-others.ensures) k)
    c.without_start.ensures
