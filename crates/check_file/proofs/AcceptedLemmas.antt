-- Accepted lemmas with one more, and that the bounds of an accepted lemma's facts have bases of at least 1.
use Rattle.std.proofs.Common.{◌≡◌, List, [], ◌∷◌, ◌++◌, All, map, refl, sym, ap, ◌∙◌, subst}
use Rattle.std.specs.List.{AllByRecursion}
use Rattle.std.proofs.lemmas.List.Elements.{recursion_from_All}
use Rattle.model.specs.Facts.{Fact}
use Rattle.model.specs.Programs.{Program}
use Rattle.its_model.specs.Valid.{IsValid}
use Rattle.cert_types.specs.cert_rules.Nodes.{Proof}
use Rattle.cert_types.specs.cert_rules.Numbering.{nodes_of}
use Rattle.cert_types.specs.cert_rules.Setting.{Setting}
use Rattle.cert_types.specs.cert_rules.Acceptance.{facts_of, Accepts, AcceptsFrom, facts_from, AcceptsLemmas, facts_of_lemmas}
use Rattle.cert_types.specs.cert_program.Setting.{setting_of}
use Rattle.cert_types.proofs.cert_rules.CheckLists.{append-each}
use Rattle.cert_types.proofs.cert_rules.Numbering.{nodes-accepted}
use Rattle.cert_types.proofs.cert_rules.Soundness.{accepted_bounds_are_based}
use Rattle.cert_types.proofs.cert_program.Faithful.{settings-faithful}
use Rattle.check_file.specs.Children.{nodes_in}
use Rattle.check_file.specs.Refusing.{ArePassed}
use Rattle.cert_context.specs.Statements.{AreBased}

module _ (s : Setting) where
  -- if lemmas are accepted, and one more after them, all are accepted
  from-push : (past : List (List Fact)) (ps : List Proof) (p : Proof) → AcceptsFrom s past ps
      → Accepts s (facts_from s past ps) p → AcceptsFrom s past (ps ++ p ∷ [])
  from-push past [] p h k = (k, tt)
  from-push past (q ∷ ps) p h k = (h.0, from-push (past ++ facts_of s past q ∷ []) ps p h.1 k)

  facts-push : (past : List (List Fact)) (ps : List Proof) (p : Proof)
      → facts_from s past (ps ++ p ∷ []) ≡ facts_from s past ps ++ facts_of s (facts_from s past ps) p ∷ []
  facts-push past [] p = refl
  facts-push past (q ∷ ps) p = facts-push (past ++ facts_of s past q ∷ []) ps p

  -- a list of accepted lemmas with one more that is accepted after them is accepted
  pub accepts-push : (ps : List Proof) (p : Proof) → AcceptsLemmas s ps → Accepts s (facts_of_lemmas s ps) p
      → AcceptsLemmas s (ps ++ p ∷ [])
  unfolding AcceptsLemmas facts_of_lemmas
  accepts-push ps p h k = from-push [] ps p h k

  -- the facts of accepted lemmas with one more are those of the lemmas and then those of that one
  pub result_is-push : (ps : List Proof) (p : Proof)
      → facts_of_lemmas s (ps ++ p ∷ []) ≡ facts_of_lemmas s ps ++ facts_of s (facts_of_lemmas s ps) p ∷ []
  unfolding facts_of_lemmas
  result_is-push ps p = facts-push [] ps p

-- a property of all elements is one of the last
last-of : {A : Type 0} (P : A → Type 0) (xs : List A) (x : A) → AllByRecursion P (xs ++ x ∷ []) → P x
last-of P xs x h = (append-each P xs (x ∷ []) h).1.0

module _ (p : Program) (valid : IsValid p) (lemmas : List Proof) (past : List (List Fact))
    (accepted : AcceptsLemmas (setting_of p) lemmas) (result_is : past ≡ facts_of_lemmas (setting_of p) lemmas) where
  -- the bounds of an accepted lemma's facts have bases of at least 1
  pub based-lemma : (q : Proof) → Accepts (setting_of p) past q → AreBased (facts_of (setting_of p) past q)
  based-lemma q h =
      last-of AreBased past (facts_of (setting_of p) past q)
      (recursion_from_All AreBased (past ++ facts_of (setting_of p) past q ∷ [])
      (subst (All AreBased) whole
      (accepted_bounds_are_based.each (setting_of p) (settings-faithful.each p valid) (lemmas ++ q ∷ [])
      (accepts-push (setting_of p) lemmas q accepted (subst (λ (fs : List (List Fact)). Accepts (setting_of p) fs q) result_is h)))))
    where
      whole : facts_of_lemmas (setting_of p) (lemmas ++ q ∷ []) ≡ past ++ facts_of (setting_of p) past q ∷ []
      whole =
          result_is-push (setting_of p) lemmas q
          ∙ ap (λ (fs : List (List Fact)). fs ++ facts_of (setting_of p) fs q ∷ []) (sym result_is)

  -- the bounds of the facts of several accepted parts have bases of at least 1
  pub based-all : (qs : List Proof) → ArePassed (setting_of p) past (nodes_in qs)
      → AllByRecursion AreBased (map (facts_of (setting_of p) past) qs)
  based-all [] h = tt
  based-all (q ∷ qs) h =
      let k = append-each _ (nodes_of q) (nodes_in qs) h in
      (based-lemma q (nodes-accepted (setting_of p) past q k.0), based-all qs k.1)
