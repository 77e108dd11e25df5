use Rattle.std.proofs.Common.{◌≡◌, ℕ, Bool, List, map, sym, ◌∙◌, ap, subst, ◌↔◌}
use Rattle.std.specs.Prelude.{IsTrue}
use Rattle.std.specs.Bool.{Decides}
use Rattle.std.proofs.lemmas.Bool.Decides.{same_from_decides}
use Rattle.refined_programs.specs.model.Programs.{Rule}
use Rattle.refined_programs.specs.poly_terms.declared.poly.Row.{Row}
use Rattle.refined_programs.specs.poly_terms.Views.{form_of}
use Rattle.refined_programs.specs.its_model.Views.{rule_of}
use Rattle.refined_programs.specs.its_model.linear_forms.Forms.{Form}
use Rattle.refinement_rows.specs.linear_forms.Certificates.{Implies, minus_one}
use Rattle.refinement_rows.specs.guard_prep.declared.rule_rows.RuleRows.{RuleRows}
use Rattle.refinement_rows.specs.guard_prep.Prepared.{Prepared, prepared, rows_of}
use Rattle.refinement_rows.specs.guard_prep.Views.{prepared_of}
use Rattle.farkas_cert.specs.Sizes.{AreSmall}
use Rattle.cert_rules.specs.NumberTests.{implies}
use Rattle.cert_rules.proofs.NumberTests.{decides-implies}
use Rattle.refinement_check.proofs.certificates.shows.Goals as goal

-- the rows that are borrowed are those of the rule
rows-same : (rows : List Row) (m : RuleRows) (r : Rule) → rows ≡ m.rows.items → prepared_of m ≡ prepared r
    → map form_of rows ≡ rows_of r
rows-same rows m r e same = ap (map form_of) e ∙ ap (λ (x : Prepared). x.rows) same

-- the answer whether multipliers imply -1 is the computed one
shown-by : (v : Bool) (rows fs : List Form) (given by : List ℕ) → rows ≡ fs → given ≡ by
    → IsTrue v ↔ Implies rows given minus_one → v ≡ implies fs by minus_one
shown-by v rows fs given by e f h =
    same_from_decides v (implies fs by minus_one)
    (subst (λ (xs : List Form). Decides v (Implies xs by minus_one)) e
    (subst (λ (ms : List ℕ). Decides v (Implies rows ms minus_one)) f h))
    (decides-implies fs by minus_one)

pub empty-requires-clause-rows_small : goal.empty-requires-clause-rows_small
empty-requires-clause-rows_small c =
    let r = rule_of c.args.obligation.now.rule in
    subst AreSmall (sym (rows-same _ c.args.prepared.now r c.deref.ensures.value c.requires.rows))
    (c.rows_suit_certificates.ensures.sums r c.requires.preparable)

pub returns : goal.returns
returns c =
    let r = rule_of c.args.obligation.now.rule in
    shown-by c.empty.result _ (rows_of r) _ c.args.obligation.now.by.items
    (rows-same _ c.args.prepared.now r c.deref.ensures.value c.requires.rows) c.deref-2.ensures.value c.empty.ensures
