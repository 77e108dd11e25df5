use Rattle.cert_rules.proofs.Numbering.{lemmas-nodes}
use Rattle.cert_rules.proofs.Refusals.{refusals-in-line}
use Rattle.cert_rules.proofs.FilesInLine.{file-refusals-in-line}
use Rattle.cert_rules.proofs.refusals_are_in_line.Goals as goal

pub returns : goal.returns
returns c = record { nodes = lemmas-nodes; lemmas = refusals-in-line; files = file-refusals-in-line }
