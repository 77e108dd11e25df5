use Rattle.std.proofs.Common.{ℕ, Bool, cond, min, ap, sym, ◌∙◌, ◌+◌, ◌-◌, ◌^◌}
use Rattle.text_grammar.specs.text_core.NameIndex.{names_in}
use Rattle.text_grammar.specs.text_core.Names.{position_of}
use Rattle.cert_lexer.proofs.Positions.{below_is}
use Rattle.cert_lexer.proofs.bound_pieces.variable.Goals as goal

pub returns-in-Some : goal.returns-in-Some
returns-in-Some c =
    let name = c.args.name.now in
    let names = names_in c.args.names.now in
    c.number_of.ensures
    ∙ ap (λ (i : ℕ). min i (2 ^ 32 - 1)) c.in-Some.ensures.0
    ∙ sym (ap (λ (v : Bool). min (cond v (position_of name names) (position_of name names + c.args.before)) (2 ^ 32 - 1))
    (below_is name names ∙ c.in-Some.ensures.1))

pub returns-in-None : goal.returns-in-None
returns-in-None c =
    let name = c.args.name.now in
    let names = names_in c.args.names.now in
    c.sum_of.ensures
    ∙ ap (λ (i : ℕ). min (i + c.args.before) (2 ^ 32 - 1)) c.position_or_count.ensures
    ∙ sym (ap (λ (v : Bool). min (cond v (position_of name names) (position_of name names + c.args.before)) (2 ^ 32 - 1))
    (below_is name names ∙ c.in-None.ensures))
