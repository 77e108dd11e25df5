use Rattle.std.proofs.Common.{◌≡◌, ◌++◌, length, map, drop, codes}
use Rattle.its_model.specs.Views.{program_of}
use Rattle.cert_types.specs.Views.{proof_of, uses_of}
use Rattle.cert_text.specs.OverFirst.{AreOverFirst}
use Rattle.cert_text.specs.Texts.{uses_text, more_uses_text}
use Rattle.cert_text.proofs.trees.+write_proof.Given as goal

-- the text so far and that of the remaining nodes are the whole text, and the remaining nodes are over the first
-- arguments
abbrev pub invariant-push_uses-loop-proof : goal.invariant-push_uses-loop-proof
invariant-push_uses-loop-proof l =
    (l.text.items ++ (more_uses_text (program_of l.p) (uses_of (map proof_of (drop l.proof-index l.others))) ++ codes "}")
    ≡ l.fn.text.items ++ uses_text (program_of l.p) (uses_of (map proof_of l.uses)))
    × AreOverFirst (length l.p.start_names.items) (uses_of (map proof_of (drop l.proof-index l.others)))
