use Rattle.std.proofs.Common.{◌≡◌, ◌+◌, length, sym, subst}
use Rattle.cert_types.specs.rule_forms.SoughtParts.{sought_places}
use Rattle.local_size.specs.declared.kinds.Kind.{Kind}
use Rattle.local_size.specs.Asking.{kind_of}
use Rattle.local_size.proofs.Problems.{sought-affine}
use Rattle.local_size.proofs.reading.sought_count.Goals as goal

pub returns-in-Affine : goal.returns-in-Affine
returns-in-Affine c =
    subst (λ (k : Kind). c.args.left + 1 ≡ length (sought_places c.args.left (kind_of k))) (sym c.in-Affine.is)
    (sym (sought-affine c.args.left))
