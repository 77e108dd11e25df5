use Rattle.std.proofs.Common.{◌≡◌, ◌++◌, ◌∷◌, [], ℕ, List, replicate, append_assoc, append-nil, ap, sym, ◌∙◌, arith}
use Rattle.std.proofs.lemmas.List.{replicate_more}
use Rattle.poly_terms.proofs.packing.push_copies.Goals as goal

pub loop-init : goal.loop-init
loop-init c = sym (append-nil c.args.vars.now.items)

pub loop-preserved : goal.loop-preserved
loop-preserved c =
    c.in_ok-push.ensures.items
    ∙ (ap (λ (us : List ℕ). us ++ c.args.v ∷ []) c.loop.invariant
    ∙ (append_assoc c.args.vars.now.items (replicate c.loop.counter c.args.v) (c.args.v ∷ [])
    ∙ ap (λ (us : List ℕ). c.args.vars.now.items ++ us) (replicate_more c.loop.counter c.args.v)))

pub returns : goal.returns
returns c =
    c.loop.invariant
    ∙ ap (λ (n : ℕ). c.args.vars.now.items ++ replicate n c.args.v) (let e : c.loop.counter ≡ c.args.count = omega (arith, c.loop.auto.counter-end) in e)
