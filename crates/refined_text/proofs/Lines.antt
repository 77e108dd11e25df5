-- Refusals of the lemmas and of the claims of a file.
use Rattle.std.proofs.Common.{◌≡◌, List, Option, sym, subst}
use Rattle.std.specs.Prelude.{Result, Err, IfSome}
use Rattle.its_model.specs.model.Programs.{Program}
use Rattle.refined_programs.specs.Annotated.{Section}
use Rattle.cert_types.specs.cert_rules.Gaps.{ProofFile}
use Rattle.potential_types.specs.potential_nodes.SignedNodes.{SignedLemma}
use Rattle.proof_parts.specs.Parts.{Parts}
use Rattle.refined_files.specs.Files as files
use Rattle.refined_types.specs.declared.file.RefinedFile.{RefinedFile}
use Rattle.refined_types.specs.Views.{file_view}
use Rattle.refined_text.specs.declared.error.RefinedTextError.{RefinedTextError}
use Rattle.refined_text.specs.Outcomes.{Gives, Refuses, IsJust, TextReads}
use Rattle.refined_text.specs.Parts.{plain_text, lemma_text, claim_text}
use Rattle.refined_text.specs.Files.{ClaimsRead, LemmasRead, LinesRead}
use Rattle.refined_text.specs.Results.{Says, refusal_in}
use Rattle.refined_text.proofs.Steps.{stops-says, next-refused}

module _ (q : Program) (parts : Parts) (s : Option Section) (plain : ProofFile)
    (given : TextReads (plain_text q parts) (Gives plain)) where
  -- the lemmas are refused, behind the plain part
  pub lemmas-refused : (result : Result RefinedFile RefinedTextError) (error : RefinedTextError) → result ≡ Err error
      → IfSome (refusal_in error) (λ r. TextReads (lemma_text q parts) (Refuses r))
      → Says file_view (LinesRead q parts s) result
  lemmas-refused result error e h =
      subst (λ (r : Result RefinedFile RefinedTextError). Says file_view (LinesRead q parts s) r) (sym e)
      (next-refused (TextReads (plain_text q parts)) (LemmasRead q parts s) plain (refusal_in error) given
      (stops-says (TextReads (lemma_text q parts)) (ClaimsRead parts s plain) (refusal_in error) h))

  -- the claims are refused, behind the lemmas
  pub claims-refused : (signed : List SignedLemma) → TextReads (lemma_text q parts) (Gives signed)
      → (result : Result RefinedFile RefinedTextError) (error : RefinedTextError) → result ≡ Err error
      → IfSome (refusal_in error) (λ r. TextReads (claim_text parts) (Refuses r))
      → Says file_view (LinesRead q parts s) result
  claims-refused signed read result error e h =
      subst (λ (r : Result RefinedFile RefinedTextError). Says file_view (LinesRead q parts s) r) (sym e)
      (next-refused (TextReads (plain_text q parts)) (LemmasRead q parts s) plain (refusal_in error) given
      (next-refused (TextReads (lemma_text q parts)) (ClaimsRead parts s plain) signed (refusal_in error) read
      (stops-says {B = files.RefinedFile} (TextReads (claim_text parts))
      (λ claims. IsJust (record { section = s; plain = plain; signed = signed; claims = claims }))
      (refusal_in error) h)))
