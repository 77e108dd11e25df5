use Rattle.std.proofs.Common.{◌∙◌, ◌+◌, ℕ, get_or, map, drop, sym, arith}
use Rattle.std.proofs.lemmas.List.{drop_more}
use Rattle.poly_terms.specs.Views.{poly_of}
use Rattle.potential_nodes.specs.Lookup.{is_there}
use Rattle.potential_types.specs.Views.{fact_view}
use Rattle.program_claims.specs.Heads.{head_bound, are_heads_there}
use Rattle.claims_check.proofs.PairLaws.{there-pass, pass-differ, pass-step, pass-fails, pass-done}
use Rattle.claims_check.proofs.heads.are_heads_there.Goals as goal

pub loop-i-preserved : goal.loop-i-preserved
loop-i-preserved c =
    let facts = map fact_view c.args.known.facts.now in
    let form = poly_of c.args.head.form.now in
    let place = c.args.head.place in
    let ts = c.args.copies.now in
    let ns = c.args.numbers.now in
    let i = c.loop-i.i in
    let test = λ (t n : ℕ). is_there (head_bound facts form place t n) in
    let all = are_heads_there facts form place ts ns in
    let here = there-pass facts form place (drop i ts) (drop i ns) in
    there-pass facts form place (drop (i + 1) ts) (drop (i + 1) ns)
    ∙ pass-step test ts ns i (get_or ts i 0) (get_or ns i 0) all (drop_more ts i 0 (omega arith))
    (drop_more ns i 0 (omega arith)) (sym c.is_head_there-is_found.ensures ∙ c.if-not-is_found.false) (sym here
    ∙ c.loop-i.invariant)

pub returns-then-not-is_found : goal.returns-then-not-is_found
returns-then-not-is_found c =
    let facts = map fact_view c.args.known.facts.now in
    let form = poly_of c.args.head.form.now in
    let place = c.args.head.place in
    let ts = c.args.copies.now in
    let ns = c.args.numbers.now in
    let i = c.loop-i.i in
    let test = λ (t n : ℕ). is_there (head_bound facts form place t n) in
    let all = are_heads_there facts form place ts ns in
    let here = there-pass facts form place (drop i ts) (drop i ns) in
    pass-fails test ts ns i (get_or ts i 0) (get_or ns i 0) all (drop_more ts i 0 (omega arith))
    (drop_more ns i 0 (omega arith)) (sym c.is_head_there-is_found.ensures ∙ c.if-not-is_found.true) (sym here
    ∙ c.loop-i.invariant)

pub returns : goal.returns
returns c =
    let facts = map fact_view c.args.known.facts.now in
    let form = poly_of c.args.head.form.now in
    let place = c.args.head.place in
    let ts = c.args.copies.now in
    let ns = c.args.numbers.now in
    let i = c.loop-i.i in
    let test = λ (t n : ℕ). is_there (head_bound facts form place t n) in
    let all = are_heads_there facts form place ts ns in
    let here = there-pass facts form place (drop i ts) (drop i ns) in
    pass-done test ts ns i all (omega arith) (omega arith) (sym here ∙ c.loop-i.invariant)

pub returns-then-copies-numbers : goal.returns-then-copies-numbers
returns-then-copies-numbers c =
    let facts = map fact_view c.args.known.facts.now in
    let form = poly_of c.args.head.form.now in
    let place = c.args.head.place in
    let ts = c.args.copies.now in
    let ns = c.args.numbers.now in
    let test = λ (t n : ℕ). is_there (head_bound facts form place t n) in
    sym (there-pass facts form place ts ns ∙ pass-differ test ts ns (λ e. omega (arith, e)))
