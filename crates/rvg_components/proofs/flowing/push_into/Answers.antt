use Rattle.std.proofs.Common.{ℕ, ◌<◌, ◌^◌, ◌∙◌, arith}
use Rattle.std.proofs.lemmas.List.Elements.{All-same}
use Rattle.local_size.specs.LocalAnswers.{local_answer_of}
use Rattle.cert_types.specs.Composing.{optional_poly}
use Rattle.rvg_components.specs.Reading.{answer_reads}
use Rattle.rvg_components.proofs.ReadPlaces.{read-few}
use Rattle.rvg_components.proofs.flowing.push_into.Goals as goal

-- few places are read
pub push_to-requires-clause-few : goal.push_to-requires-clause-few
push_to-requires-clause-few c =
    All-same (λ (j : ℕ). j < 2 ^ 31) c.deref.result.now
    (answer_reads (optional_poly c.nonlinear_update-poly.result) (local_answer_of c.index-answers-position.result) c.args.prepared_rule.now.left) (c.deref.ensures.value ∙ c.in_ok-places.ensures)
    (read-few (optional_poly c.nonlinear_update-poly.result) (local_answer_of c.index-answers-position.result) c.args.prepared_rule.now.left (2 ^ 31) (omega (arith, c.requires.left_few)))
