use Rattle.std.proofs.Common.{◌∙◌, List, ℕ, ap, take}
use Rattle.text_core.specs.Names.{continues_name, is_same}
use Rattle.text_core.proofs.PrefixLaws.{take-prefix}
use Rattle.proof_parts.proofs.kind.begins_with_word.Goals as goal

pub returns : goal.returns
returns c =
    c.eq.ensures
    ∙ ap (λ (first : List ℕ). is_same first c.args.word.now)
    (ap (λ (n : ℕ). take n c.args.line.now) c.name_len.ensures.value ∙ take-prefix continues_name c.args.line.now)
