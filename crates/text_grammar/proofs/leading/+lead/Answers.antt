use Rattle.std.proofs.Common.{rules}
use Rattle.std.proofs.Common.{◌≡◌, ap, sym, subst, ◌∙◌, ◌-◌, length}
use Rattle.std.proofs.lemmas.Bool.{ltb-true}
use Rattle.std.specs.Prelude.{IfOk}
use Rattle.text_grammar.specs.Leads.{Lead, lead_among, row_after}
use Rattle.text_grammar.specs.Views.{lead_of, rules_view}
use Rattle.text_grammar.proofs.TableLaws.{entry-after}
use Rattle.text_grammar.proofs.RuleLaws.{rule_at, no_rule_at}
use Rattle.text_grammar.proofs.leading.+lead.Goals as goal

pub lead_of_nonterminal-returns-in-Some : goal.lead_of_nonterminal-returns-in-Some
lead_of_nonterminal-returns-in-Some t c =
    let all = rules_view c.args.rules.now in
    subst (λ (l : Lead). IfOk c.lead_of_bodies.result (λ e. lead_of e ≡ l))
    (sym (entry-after all c.args.class c.args.rounds c.args.number c.if-rounds-eq0.false
    ∙ ap (lead_among c.args.class (row_after all c.args.class (c.args.rounds - 1))) (rule_at c.args.rules.now c.args.number c.in-Some.bodies.now (ltb-true c.args.number (length c.args.rules.now) (sym c.in-Some.ensures.lookup.0)) c.in-Some.ensures.lookup.1)))
    c.lead_of_bodies.ensures

pub lead_of_nonterminal-returns-in-None : goal.lead_of_nonterminal-returns-in-None
lead_of_nonterminal-returns-in-None t c =
    let all = rules_view c.args.rules.now in
    sym (entry-after all c.args.class c.args.rounds c.args.number c.if-rounds-eq0.false
    ∙ ap (lead_among c.args.class (row_after all c.args.class (c.args.rounds - 1))) (no_rule_at c.args.rules.now c.args.number (search rules)))
