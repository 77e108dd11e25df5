-- The knowledge of a left term and its arrow depends on few parts of a draft.
use Rattle.std.specs.Prelude.{◌≡◌, map, option_map}
use Rattle.std.proofs.Common.{sym, ap, subst, ◌∙◌}
use Rattle.poly_terms.specs.Views.{term_of}
use Rattle.its_model.specs.Views.{rule_of}
use Rattle.its_text.specs.GrammarStates.{ArrowRead}
use Rattle.its_text.specs.StateFaults.{Tokens}
use Rattle.its_reader.specs.Standing.{KnowsSections, KnowsArrow}
use Rattle.its_reader.specs.declared.draft.Draft.{Draft}

-- a draft that agrees in these parts represents the same left term and arrow
pub arrow_kept : (ts : Tokens) (l : ArrowRead) (old new : Draft) → KnowsArrow ts l old → new.sections ≡ old.sections
    → new.rules ≡ old.rules → new.rule.source ≡ old.rule.source → new.rule.left ≡ old.rule.left
    → new.rule.cost ≡ old.rule.cost → KnowsArrow ts l new
arrow_kept ts l old new k sections rules source left cost = record {
  sections = subst (KnowsSections ts l.ruling.sections) (sym sections) k.sections;
  rules_are = ap (λ v. map rule_of v.items) rules ∙ k.rules_are;
  source_is = source ∙ k.source_is;
  left_is = left ∙ k.left_is;
  cost_is = ap (option_map term_of) cost ∙ k.cost_is;
}
