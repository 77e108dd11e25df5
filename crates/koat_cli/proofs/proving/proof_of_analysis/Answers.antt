-- The text is that of the file of the analysis, whose lemmas write bounds over the start arguments alone.
use Rattle.std.proofs.Common.{ℕ, All, subst}
use Rattle.std.proofs.lemmas.List.{length-map}
use Rattle.its_model.specs.Views.{name_of, program_of}
use Rattle.cert_text.specs.OverFirst.{IsOverFirst}
use Rattle.cert_types.specs.Views.{proof_of}
use Rattle.analysis_certs.proofs.ProvedFiles.{proved-accepted}
use Rattle.koat_cli.proofs.ProofFiles.{proof_file_answered}
use Rattle.koat_cli.proofs.proving.proof_of_analysis.Goals as goal

pub print-requires : goal.print-requires
print-requires c =
    let names = c.args.program.now.start_names.items in
    subst (λ (n : ℕ). All (λ lemma. IsOverFirst n (proof_of lemma)) c.in_ok-found.found.lemmas.items) (length-map names name_of)
    (proved-accepted.over_first (program_of c.args.program.now) c.args.pivots c.in_ok-found.found c.requires
    (record { found = c.in_ok-found.ensures.found; lemmas = c.in_ok-found.ensures.lemmas }))

pub returns : goal.returns
returns c =
    proof_file_answered (program_of c.args.program.now) c.args.pivots c.in_ok-found.found c.status_of-status.result
    c.in_ok-text.text.items c.requires c.in_ok-found.ensures.found c.in_ok-found.ensures.holds c.in_ok-found.ensures.reasons
    c.in_ok-found.ensures.lemmas c.status_of-status.ensures c.in_ok-text.ensures
