-- Storing the facts of accepted lemmas, with one more lemma.
use Rattle.std.proofs.Common.{◌≡◌, ℕ, zero, suc, ◌+◌, ◌<◌, ◌≤◌, List, [], ◌∷◌, ◌++◌, length, map, refl, sym, ap, ◌∙◌, subst}
use Rattle.std.proofs.Common.{arith, Vec, get_or, take}
use Rattle.std.specs.declared.alloc.Global.{Global}
use Rattle.std.specs.List.{AllByRecursion}
use Rattle.std.proofs.lemmas.List.{map-append, length-append, get_or_default}
use Rattle.model.specs.Facts as plain
use Rattle.model.specs.Programs.{Program}
use Rattle.cert_types.specs.AnswerViews.{reason_of}
use Rattle.cert_types.specs.Views.{facts_of as facts_in_order}
use Rattle.cert_types.specs.declared.answer.Reason as result_is
use Rattle.cert_types.specs.declared.fact.Fact.{Fact}
use Rattle.cert_types.specs.cert_rules.Nodes.{Proof}
use Rattle.cert_types.specs.cert_rules.Numbering.{nodes_of}
use Rattle.cert_types.specs.cert_rules.Acceptance.{facts_of, Accepts, AcceptsNode, AcceptsLemmas, facts_of_lemmas}
use Rattle.cert_types.specs.cert_rules.AcceptsPlain.{start_facts}
use Rattle.cert_types.specs.cert_program.Setting.{setting_of}
use Rattle.cert_types.specs.cert_rules.Refusals.{FailsFirst, IsRefusedAt}
use Rattle.cert_types.specs.cert_rules.Checks.{IsFirstReason}
use Rattle.cert_types.specs.cert_rules.Setting.{Setting}
use Rattle.cert_types.proofs.cert_rules.CheckLists.{each-append}
use Rattle.cert_types.proofs.cert_rules.Numbering.{nodes-accepted}
use Rattle.check_file.specs.declared.judging.Judged.{Judged}
use Rattle.cert_context.specs.declared.stated_facts.StatedFacts.{StatedFacts}
use Rattle.check_file.specs.declared.refusal.TreeFault.{TreeFault}
use Rattle.check_file.specs.declared.refusal.TreeFault.TheVariants as tree
use Rattle.check_file.specs.Faults.{in_lemma}
use Rattle.check_file.specs.Files.{RefusesLemmas}
use Rattle.check_file.specs.Judging.{IsKeptOf, IsKeptMore, IsWhole}
use Rattle.check_file.specs.Refusing.{RefusesAmong}
use Rattle.cert_context.specs.Statements.{facts_from, stated_at, past_of}
use Rattle.cert_context.specs.Statements.{all_facts}
use Rattle.check_file.proofs.AcceptedLemmas.{accepts-push, result_is-push}
use Rattle.cert_context.proofs.Cuts.{done-more}
use Rattle.cert_context.proofs.JoinedFacts.{facts-push}

-- the facts at positions before the end are unchanged, whatever is pushed
pub kept-before : (xs ys : List (Vec Fact Global)) (n : ℕ) → n < length xs → facts_from (xs ++ ys) n ≡ facts_from xs n
kept-before [] ys n l = absurd (omega (arith, l))
kept-before (x ∷ xs) ys zero l = refl
kept-before (x ∷ xs) ys (suc n) l = kept-before xs ys n (omega (arith, l))

-- the pushed facts are at the last position
pub kept-last : (xs : List (Vec Fact Global)) (x : Vec Fact Global)
    → facts_from (xs ++ x ∷ []) (length xs) ≡ facts_in_order x.items
kept-last [] x = refl
kept-last (y ∷ xs) x = kept-last xs x

-- positions within a list are positions within a longer one
within-more : (m n : ℕ) → m ≤ n → (is : List ℕ) → AllByRecursion (λ i. i < m) is → AllByRecursion (λ i. i < n) is
within-more m n l [] h = tt
within-more m n l (i ∷ is) h = (omega (arith, h.0, l), within-more m n l is h.1)

-- the facts at positions that keep their facts are the same
same-stated : (old new : StatedFacts) → ((n : ℕ) → n < length old.stated.items → stated_at new n ≡ stated_at old n)
    → (is : List ℕ) → AllByRecursion (λ i. i < length old.stated.items) is
    → map (stated_at new) is ≡ map (stated_at old) is
same-stated old new same [] h = refl
same-stated old new same (i ∷ is) h =
    ap (λ (fs : List plain.Fact). fs ∷ map (stated_at new) is) (same i h.0)
    ∙ ap (λ (fss : List (List plain.Fact)). stated_at old i ∷ fss) (same-stated old new same is h.1)

module _ (p : Program) (s : Setting) (lemmas : List Proof) (old : StatedFacts) (h : IsKeptOf p s lemmas old) (q : Proof) where
  -- after one more accepted lemma, the stored facts are those of one more lemma
  pub kept-more : (new : StatedFacts) (judged : Judged) → IsWhole s old q 0 judged → IsKeptMore old judged.stated new
      → IsKeptOf p s (lemmas ++ q ∷ []) new
  kept-more new judged k m = record {
    some = omega (arith, h.some, m.grows);
    start = m.stated 0 h.some ∙ h.start;
    placed = subst (AllByRecursion (λ n. n < length new.stated.items)) (sym m.lemmas)
        (each-append (λ n. n < length new.stated.items) old.lemmas.items (m.position ∷ [])
        (within-more (length old.stated.items) (length new.stated.items) m.grows old.lemmas.items h.placed)
        (m.within, tt));
    few = omega (arith, h.few, m.few, ap length m.lemmas, length-append old.lemmas.items (m.position ∷ []));
    count = omega (
      arith,
      h.count,
      ap length m.lemmas,
      length-append old.lemmas.items (m.position ∷ []),
      length-append lemmas (q ∷ []),
    );
    accepted = accepts-push s lemmas q h.accepted
        (subst (λ (fs : List (List plain.Fact)). Accepts s fs q) h.facts (nodes-accepted s (past_of old) q k.passed));
    facts = ap (map (stated_at new)) m.lemmas
        ∙ (map-append (stated_at new) old.lemmas.items (m.position ∷ [])
        ∙ (ap (λ (fss : List (List plain.Fact)). fss ++ stated_at new m.position ∷ [])
        (same-stated old new m.stated old.lemmas.items h.placed)
        ∙ (ap (λ (fs : List plain.Fact). past_of old ++ fs ∷ []) (m.facts ∙ k.facts)
        ∙ (ap (λ (fss : List (List plain.Fact)). fss ++ facts_of s fss q ∷ []) h.facts ∙ sym (result_is-push s lemmas q)))));
  }

  -- if the next lemma is refused, the list of lemmas is refused there
  refused-lemma : (rest all : List Proof) (lemma node : ℕ) (r : result_is.Reason) → all ≡ lemmas ++ q ∷ rest
      → lemma ≡ suc (length lemmas) → RefusesAmong s (past_of old) (nodes_of q) 0 (tree.Refused node r)
      → IsRefusedAt s all lemma node (reason_of r)
  refused-lemma rest all lemma node r e f k = record {
    before = lemmas;
    proof = q;
    behind = rest;
    whole = e;
    number = f;
    accepted = h.accepted;
    first = subst (λ (n : ℕ).
        FailsFirst (AcceptsNode s (facts_of_lemmas s lemmas)) (IsFirstReason s (facts_of_lemmas s lemmas)) (nodes_of q) n
        (reason_of r)) (let m : k.0 ≡ node = omega (arith, k.1) in m)
        (subst (λ (fs : List (List plain.Fact)).
        FailsFirst (AcceptsNode s fs) (IsFirstReason s fs) (nodes_of q) k.0 (reason_of r)) h.facts k.2);
  }

  -- the list is refused as the next lemma is, whatever the fault
  pub refused-fault : (rest all : List Proof) (lemma : ℕ) (fault : TreeFault) → all ≡ lemmas ++ q ∷ rest
      → lemma ≡ suc (length lemmas) → RefusesAmong s (past_of old) (nodes_of q) 0 fault
      → RefusesLemmas s all (in_lemma fault lemma)
  refused-fault rest all lemma (tree.Refused node r) e f k = refused-lemma rest all lemma node r e f k
  refused-fault rest all lemma tree.Memory e f k = tt

-- no lemmas are accepted, with no facts
no-lemmas : (s : Setting) → AcceptsLemmas s []
unfolding AcceptsLemmas
no-lemmas s = tt

no-facts : (s : Setting) → [] ≡ facts_of_lemmas s []
unfolding facts_of_lemmas
no-facts s = refl

-- before the first lemma the facts of the virtual entry are stored
pub kept-none : (p : Program) (none stated : Vec (Vec Fact Global) Global) (lemmas : Vec ℕ Global) (first : Vec Fact Global)
    → none.items ≡ [] → stated.items ≡ none.items ++ first ∷ [] → lemmas.items ≡ []
    → facts_in_order first.items ≡ start_facts p
    → IsKeptOf p (setting_of p) [] (record { stated = stated; lemmas = lemmas })
kept-none p none stated lemmas first e f g h = record {
  some = omega (arith, ap length whole);
  start = ap (λ (xs : List (Vec Fact Global)). facts_from xs 0) whole ∙ h;
  placed = subst (AllByRecursion (λ n. n < length stated.items)) (sym g) tt;
  few = omega (arith, ap length whole);
  count = ap length g;
  accepted = no-lemmas (setting_of p);
  facts = ap (map (stated_at (record { stated = stated; lemmas = lemmas }))) g ∙ no-facts (setting_of p);
}
  where
    whole : stated.items ≡ first ∷ []
    whole = f ∙ ap (λ (xs : List (Vec Fact Global)). xs ++ first ∷ []) e

-- after the facts of one more lemma were copied, the copies are the facts of one more lemma
pub copied-more : (kept : StatedFacts) (xs : List ℕ) (i d : ℕ) (old new facts : List plain.Fact) → xs ≡ kept.lemmas.items
    → i < length xs → old ≡ all_facts (map (stated_at kept) (take i kept.lemmas.items)) → new ≡ old ++ facts
    → facts ≡ stated_at kept (get_or xs i d) → new ≡ all_facts (map (stated_at kept) (take (i + 1) kept.lemmas.items))
copied-more kept xs i d old new facts e l before n f =
    n ∙ (ap (λ (fs : List plain.Fact). fs ++ facts) before
    ∙ (ap (λ (fs : List plain.Fact). all_facts (map (stated_at kept) (take i kept.lemmas.items)) ++ fs) f
    ∙ (sym (facts-push (map (stated_at kept) (take i kept.lemmas.items)) (stated_at kept (get_or xs i d)))
    ∙ ap all_facts (sym (subst (λ (ys : List ℕ).
    map (stated_at kept) (take (i + 1) ys) ≡ map (stated_at kept) (take i ys) ++ stated_at kept (get_or xs i d) ∷ []) e
    (done-more (stated_at kept) xs i (get_or xs i d) l (get_or_default xs i d (get_or xs i d) l)))))))
