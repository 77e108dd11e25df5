use Rattle.std.proofs.Common.{rules}
use Rattle.std.proofs.Common.{List, [], ◌∷◌, ◌++◌, refl, ap, ◌∙◌}
use Rattle.std.specs.Borrow.{Bor}
use Rattle.std.proofs.lemmas.List.{map-append}
use Rattle.text_grammar.specs.declared.symbol.Item.{Item}
use Rattle.text_grammar.specs.Grammars.{rules_of}
use Rattle.text_grammar.specs.Spelled.{alternatives_of}
use Rattle.text_grammar.specs.Views.{rules_view}
use Rattle.text_grammar.proofs.RuleLaws.{more_rules, all_rules}
use Rattle.text_grammar.proofs.rules.rules_of.Goals as goal

pub loop-item-preserved-in-End : goal.loop-item-preserved-in-End
loop-item-preserved-in-End c =
    let i = c.loop-item.invariant in
    let rule = c.loop-item.rule in
    let after = c.in-Some.after.now in
    record {
      all = ap (λ (rs : List (Bor (List Item))). rules_view rs ++ rules_of after) c.in_ok-push.ensures.items
          ∙ ap (λ rs. rs ++ rules_of after) (map-append (λ (r : Bor (List Item)). alternatives_of r.now) c.loop-item.rules.items (rule ∷ []))
          ∙ more_rules (rules_view c.loop-item.rules.items) rule.now c.loop-item.left.now after c.args.items.now i.all i.ends i.after (search rules);
      ends = refl;
      after = refl;
    }

pub returns : goal.returns
returns c =
    let i = c.loop-item.invariant in
    all_rules (rules_view c.loop-item.rules.items) c.loop-item.rule.now c.loop-item.left.now c.args.items.now i.all i.ends c.in_default.ensures.cases
