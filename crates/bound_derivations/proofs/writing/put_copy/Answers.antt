use Rattle.std.proofs.Common.{[], ◌∷◌, subst}
use Rattle.model.specs.Bounds.{Bound}
use Rattle.cert_types.specs.Views.{result_variable_of}
use Rattle.bound_derivations.specs.ByKey.{IsWritten}
use Rattle.bound_derivations.proofs.Writes.{put_written}
use Rattle.bound_derivations.proofs.writing.put_copy.Goals as goal

pub returns : goal.returns
returns c =
    subst (λ (b : Bound). IsWritten c.args.table.now (result_variable_of c.args.key ∷ []) b c.args.lemma c.put.new.table)
    c.in_ok-copy.ensures
    (put_written c.args.table.now c.put.new.table (result_variable_of c.args.key) record {
      bound = c.in_ok-copy.copy;
      lemma = c.args.lemma;
    } c.put.ensures.times c.put.ensures.sizes)
