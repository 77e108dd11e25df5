use Rattle.std.proofs.Common.{◌≡◌, ◌<◌, length, ◌∙◌, arith}
use Rattle.std.proofs.lemmas.List.{length-map}
use Rattle.std.proofs.lemmas.Result.{IfOk-weaker}
use Rattle.poly_terms.specs.Expanding.{sum_of}
use Rattle.poly_terms.specs.Views.{monomial_of, poly_of}
use Rattle.poly_terms.proofs.MergeLaws.{short-sum}
use Rattle.poly_terms.proofs.sum.sum.Goals as goal

pub returns-then-len-lt2-2 : goal.returns-then-len-lt2-2
returns-then-len-lt2-2 c =
    let p = poly_of c.args.p in
    let q = poly_of c.args.q in
    IfOk-weaker c.sum_by_insertion-then-len-lt2-2.result
    (λ whole. poly_of whole ≡ sum_of q p)
    (λ whole. poly_of whole ≡ sum_of p q)
    (λ whole e. e ∙ short-sum p q (let few : length p < 2 = omega (arith, length-map c.args.p.terms.items monomial_of, c.args.p.terms.ok.0) in few) c.requires.right_ascending)
    c.sum_by_insertion-then-len-lt2-2.ensures
