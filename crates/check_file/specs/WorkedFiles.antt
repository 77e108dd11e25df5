-- Worked values of which small files can be numbered, and of the answers on small files.
use Rattle.std.specs.Prelude.{◌≡◌, ℕ, List, [], ◌∷◌, ◌++◌, length, map, pos}
use Rattle.std.specs.List.{AllByRecursion}
use Rattle.model.specs.Bounds.{Constant, Input}
use Rattle.model.specs.Facts.{Fact, Time, Size}
use Rattle.cert_types.specs.Views.{proof_of}
use Rattle.cert_types.specs.declared.answer.GapFault as faults
use Rattle.cert_types.specs.declared.answer.GapFault.TheVariants as off
use Rattle.cert_types.specs.declared.answer.Reason as reasons
use Rattle.cert_types.specs.declared.answer.Reason.TheVariants as result_is
use Rattle.cert_types.specs.declared.file.ProofFile as code
use Rattle.cert_types.specs.cert_rules.Gaps.{Gap, ProofFile}
use Rattle.cert_types.specs.cert_rules.Nodes.{Proof, Cite, Start}
use Rattle.cert_types.specs.cert_rules.Numbering.{nodes_of}
use Rattle.cert_types.specs.cert_rules.WorkedGaps.{scaled, one, nowhere}
use Rattle.cert_types.specs.cert_program.Worked.{three_rules}
use Rattle.cert_types.specs.cert_program.WorkedGaps.{gap_alone}
use Rattle.check_file.specs.declared.error.CheckError.TheVariants as error
use Rattle.check_file.specs.Files.{CanBeNumbered, HasFewNodes, IsAcceptedWith, RefusesFile}

-- a file with 2^32 - 1 gaps, or with a lemma of as many nodes, can be numbered; one more is too many, and so are 2^32
-- lemmas
pub record FilesAreNumbered : Type 0 where
  pub nothing : (f : code.ProofFile) → f.lemmas.items ≡ [] → f.gaps.items ≡ [] → CanBeNumbered f
  pub many_gaps : (f : code.ProofFile) → f.lemmas.items ≡ [] → length f.gaps.items ≡ 4294967295 → CanBeNumbered f
  pub too_many_gaps : (f : code.ProofFile) → length f.gaps.items ≡ 4294967296 → ¬ (CanBeNumbered f)
  pub many_lemmas : (f : code.ProofFile) → AllByRecursion HasFewNodes (map proof_of f.lemmas.items)
      → length f.lemmas.items ≡ 4294967295 → f.gaps.items ≡ [] → CanBeNumbered f
  pub too_many_lemmas : (f : code.ProofFile) → length f.lemmas.items ≡ 4294967296 → ¬ (CanBeNumbered f)
  pub many_nodes : (proof : Proof) → length (nodes_of proof) ≡ 4294967295 → HasFewNodes proof
  pub too_many_nodes : (proof : Proof) → length (nodes_of proof) ≡ 4294967296 → ¬ (HasFewNodes proof)

-- the facts that the virtual entry of the program states: it occurs once, and its place has the size of the start
-- argument
abbrev pub entry_facts : List Fact
entry_facts = Time 0 (Constant 1) ∷ Size 0 1 (Input 0) ∷ []

-- the gap of the rule that keeps its place, and one of the rule that falls by 2, whose place isn't balanced
abbrev pub staying : Gap
staying = gap_alone 3 one nowhere one

abbrev pub falling : Gap
falling = gap_alone 1 (scaled (pos 2 ∷ []) 1) nowhere (scaled (pos 2 ∷ []) 1)

-- a file
abbrev pub file_with : List Proof → List Gap → ProofFile
file_with lemmas gaps = record { lemmas = lemmas; gaps = gaps }

-- three files: a lemma and one that cites it, with a gap that holds; a lemma and one that cites itself, with a gap that
-- doesn't hold; and a lemma with a gap that holds and one that doesn't
abbrev pub cited : ProofFile
cited = file_with (Start ∷ Cite 1 ∷ []) (staying ∷ [])

abbrev pub off_lemma : ProofFile
off_lemma = file_with (Start ∷ Cite 2 ∷ []) (falling ∷ [])

abbrev pub off_gap : ProofFile
off_gap = file_with (Start ∷ []) (staying ∷ falling ∷ [])

-- the first file is accepted with the facts of both lemmas, in order, and with no others, and isn't refused. The second
-- is refused at its second lemma, at no other, for no other reason and at no gap, and isn't accepted; the third is
-- refused at its second gap, at no other, for no other fault and at no lemma. The empty file is accepted without a fact
pub record FilesAreAnswered : Type 0 where
  pub nothing : IsAcceptedWith three_rules (file_with [] []) []
  pub cited_accepted : IsAcceptedWith three_rules cited (entry_facts ++ entry_facts)
  pub cited_once : ¬ (IsAcceptedWith three_rules cited entry_facts)
  pub cited_not_refused : (l n : ℕ) (r : reasons.Reason) → ¬ (RefusesFile three_rules cited (error.No l n r))
  pub cited_not_off : (g : ℕ) (x : faults.GapFault) → ¬ (RefusesFile three_rules cited (error.NoGap g x))
  pub lemma_refused : RefusesFile three_rules off_lemma (error.No 2 1 result_is.Shape)
  pub other_lemma : ¬ (RefusesFile three_rules off_lemma (error.No 1 1 result_is.Shape))
  pub other_node : ¬ (RefusesFile three_rules off_lemma (error.No 2 2 result_is.Shape))
  pub other_reason : ¬ (RefusesFile three_rules off_lemma (error.No 2 1 result_is.Empty))
  pub lemma_first : (g : ℕ) (x : faults.GapFault) → ¬ (RefusesFile three_rules off_lemma (error.NoGap g x))
  pub lemma_not_accepted : (facts : List Fact) → ¬ (IsAcceptedWith three_rules off_lemma facts)
  pub gap_refused : RefusesFile three_rules off_gap (error.NoGap 2 (off.Balance 0 1))
  pub other_gap : ¬ (RefusesFile three_rules off_gap (error.NoGap 1 (off.Balance 0 1)))
  pub other_fault : ¬ (RefusesFile three_rules off_gap (error.NoGap 2 (off.Balance 0 0)))
  pub no_lemma : (l n : ℕ) (r : reasons.Reason) → ¬ (RefusesFile three_rules off_gap (error.No l n r))
  pub gap_not_accepted : (facts : List Fact) → ¬ (IsAcceptedWith three_rules off_gap facts)
