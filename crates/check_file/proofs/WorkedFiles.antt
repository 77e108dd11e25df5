-- The worked values of which small files can be numbered, and of the answers on small files.
use Rattle.std.proofs.Common.{◌≡◌, ℕ, [], ◌∷◌, ◌++◌, length, map, refl, sym, ap, subst, arith}
use Rattle.std.specs.List.{All, AllByRecursion}
use Rattle.cert_types.specs.AnswerViews.{reason_of, fault_of}
use Rattle.cert_types.specs.Views.{proof_of}
use Rattle.cert_types.specs.declared.file.ProofFile as code
use Rattle.cert_types.specs.cert_rules.Acceptance.{facts_of_lemmas}
use Rattle.cert_types.specs.cert_rules.GapChecks.{GapFault, Unbalanced}
use Rattle.cert_types.specs.cert_rules.Nodes.{Cite, Start}
use Rattle.cert_types.specs.cert_rules.Reasons.{Reason, Shape, NotEmpty}
use Rattle.cert_types.specs.cert_rules.Refusals.{IsRefusedAt, IsRefusedAtGap}
use Rattle.cert_types.specs.cert_rules.Setting.{Setting}
use Rattle.cert_types.specs.cert_program.guard_prep.Tightening.{divisor_of}
use Rattle.cert_types.specs.cert_program.Laws.{AcceptsFileFor}
use Rattle.cert_types.specs.cert_program.RankedSets.{forms_at}
use Rattle.cert_types.specs.cert_program.Setting.{setting_of}
use Rattle.cert_types.specs.cert_program.Worked.{three_rules}
use Rattle.cert_types.proofs.cert_rules.FilesInLine.{file-refusals-in-line, computed-file, computed-gap}
use Rattle.cert_types.proofs.cert_rules.Refusals.{refusals-in-line, computed-refused}
use Rattle.check_file.specs.Files.{HasFewNodes, IsAcceptedWith}
use Rattle.check_file.specs.WorkedFiles.{FilesAreNumbered, FilesAreAnswered, file_with, cited, off_lemma, off_gap}
use Rattle.check_file.specs.WorkedFiles.{entry_facts}

-- the worked values of which files can be numbered hold
pub files-numbered : FilesAreNumbered
files-numbered = record {
  nothing = λ f a b. record {
    lemmas = omega (arith, ap length a);
    gaps = omega (arith, ap length b);
    nodes = subst (λ ps. AllByRecursion HasFewNodes (map proof_of ps)) (sym a) tt;
  };
  many_gaps = λ f a b. record {
    lemmas = omega (arith, ap length a);
    gaps = omega (arith, b);
    nodes = subst (λ ps. AllByRecursion HasFewNodes (map proof_of ps)) (sym a) tt;
  };
  too_many_gaps = λ f e h. omega (arith, e, h.gaps);
  many_lemmas = λ f h a b. record { lemmas = omega (arith, a); gaps = omega (arith, ap length b); nodes = h };
  too_many_lemmas = λ f e h. omega (arith, e, h.lemmas);
  many_nodes = λ proof e. omega (arith, e);
  too_many_nodes = λ proof e h. omega (arith, e, h);
}

-- the setting of the program
abbrev setting : Setting
setting = setting_of three_rules

-- the first file is accepted
cited-accepted : AcceptsFileFor three_rules cited
unfolding divisor_of
cited-accepted = computed-file setting (forms_at three_rules) cited refl refl

-- the first file is accepted with the facts of both lemmas
cited_has_facts : IsAcceptedWith three_rules cited (entry_facts ++ entry_facts)
unfolding facts_of_lemmas
cited_has_facts = record { accepted = cited-accepted; result_is = refl }

-- the first file isn't accepted with the facts of one lemma
cited-not-once : ¬ (IsAcceptedWith three_rules cited entry_facts)
unfolding facts_of_lemmas
cited-not-once h =
    let same : entry_facts ≡ entry_facts ++ entry_facts = h.result_is in
    omega (arith, ap length same)

-- the second file is refused at the lemma that cites itself
self-refused : IsRefusedAt setting (Start ∷ Cite 2 ∷ []) 2 1 Shape
self-refused = computed-refused setting (Start ∷ Cite 2 ∷ []) 2 1 Shape refl

-- the second file is refused at no other node
self-alone : (l i : ℕ) (r : Reason) → IsRefusedAt setting (Start ∷ Cite 2 ∷ []) l i r
    → (2 ≡ l) × (1 ≡ i) × (Shape ≡ r)
self-alone l i r h = refusals-in-line.one setting (Start ∷ Cite 2 ∷ []) 2 l 1 i Shape r self-refused h

-- the third file is refused at its second gap
second-off : IsRefusedAtGap setting (forms_at three_rules) off_gap 2 (Unbalanced 0 1)
unfolding divisor_of
second-off = computed-gap setting (forms_at three_rules) off_gap 2 (Unbalanced 0 1) refl refl

-- the third file is refused at no other gap
second-alone : (g : ℕ) (x : GapFault) → IsRefusedAtGap setting (forms_at three_rules) off_gap g x
    → (2 ≡ g) × (Unbalanced 0 1 ≡ x)
second-alone g x h =
    file-refusals-in-line.one setting (forms_at three_rules) off_gap 2 g (Unbalanced 0 1) x second-off h

-- different faults and reasons are different
other-place : ¬ (Unbalanced 0 1 ≡ Unbalanced 0 0)
other-place e = let same : ◌≡◌ {A = ℕ} 1 0 = cc in omega (arith, same)

other-reason : ¬ (Shape ≡ NotEmpty)
other-reason e = cc

-- the worked answers hold
pub files-answered : FilesAreAnswered
unfolding facts_of_lemmas
files-answered = record {
  nothing = record { accepted = computed-file setting (forms_at three_rules) (file_with [] []) refl refl; result_is = refl };
  cited_accepted = cited_has_facts;
  cited_once = cited-not-once;
  cited_not_refused = λ l n r h.
      ((file-refusals-in-line.none setting (forms_at three_rules) cited).0 cited-accepted).0.none l n (reason_of r) h;
  cited_not_off = λ g x h.
      ((file-refusals-in-line.none setting (forms_at three_rules) cited).0 cited-accepted).1.none g (fault_of x) h;
  lemma_refused = self-refused;
  other_lemma = λ h. omega (arith, (self-alone 1 1 Shape h).0);
  other_node = λ h. omega (arith, (self-alone 2 2 Shape h).1);
  other_reason = λ h. other-reason (self-alone 2 1 NotEmpty h).2;
  lemma_first = λ g x h.
      file-refusals-in-line.not_both setting (forms_at three_rules) off_lemma 2 1 g Shape (fault_of x) self-refused h;
  lemma_not_accepted = λ facts h.
      ((file-refusals-in-line.none setting (forms_at three_rules) off_lemma).0 h.accepted).0.none 2 1 Shape self-refused;
  gap_refused = second-off;
  other_gap = λ h. omega (arith, (second-alone 1 (Unbalanced 0 1) h).0);
  other_fault = λ h. other-place (second-alone 2 (Unbalanced 0 0) h).1;
  no_lemma = λ l n r h. file-refusals-in-line.not_both setting (forms_at three_rules) off_gap l n 2 (reason_of r) (Unbalanced 0 1) h second-off;
  gap_not_accepted = λ facts h.
      ((file-refusals-in-line.none setting (forms_at three_rules) off_gap).0 h.accepted).1.none 2 (Unbalanced 0 1)
      second-off;
}
