use Rattle.refined_files.proofs.FileLaws.{files-hold}
use Rattle.refined_files.proofs.accepted_refined_files_hold.Goals as goal

pub returns : goal.returns
returns c =
    files-hold c.accepted_sections_are_certified.ensures c.accepted_sections_spell_valid.ensures
    c.accepted_files_hold.ensures c.accepted_potentials_hold.ensures c.accepted_claims_hold.ensures
    c.own_claims_hold.ensures c.refused_claims_are_first.ensures
