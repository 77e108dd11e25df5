-- The lemmas that a node cites, as plain data.
use Rattle.std.specs.Prelude.{ℕ, ◌==◌, cond, List, [], ◌∷◌, ◌++◌, map}
use Rattle.model.specs.Entries.{is_in}
use Rattle.cert_types.specs.cert_rules.Nodes.{Proofs}
use Rattle.cert_types.specs.declared.proof.Proof.{Proof}
use Rattle.cert_types.specs.Views.{proof_of, uses_of}

-- the premises of a node, as plain data
abbrev pub uses_of_proofs : List Proof → Proofs
uses_of_proofs uses = uses_of (map proof_of uses)

-- a list with a number appended, if this isn't 0 and isn't in the list
abbrev pub with_other : ℕ → List ℕ → List ℕ
with_other n ns = cond (n == 0) ns (cond (is_in n ns) ns (ns ++ n ∷ []))
