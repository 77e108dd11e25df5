use Rattle.std.proofs.Common.{◌≡◌, ◌*◌, ap, map, refl, subst, arith, length, List, ◌∷◌, []}
use Rattle.std.specs.Prelude.{ℤ}
use Rattle.simplex_core.specs.linear_forms.Forms.{at}
use Rattle.simplex_core.specs.linear_forms.QuestionLaws.{after, parameters_of, multipliers_by_group}
use Rattle.its_model.specs.Views.{program_of}
use Rattle.cert_types.specs.Views.{form_of}
use Rattle.rule_questions.specs.ProgramQuestions.{places_of}
use Rattle.rank_search.specs.Reading.{read_forms, shape_at}
use Rattle.rank_search.proofs.Groups.{columns-append, multipliers-together}
use Rattle.rank_search.proofs.found.rank_node.Goals as goal

pub moves_from-requires : goal.moves_from-requires
moves_from-requires c =
    let r = c.requires.room in
    let e = columns-append (map (shape_at c.args.prepared_rules.now) c.args.set.now)
    (shape_at c.args.prepared_rules.now c.args.strict ∷ []) in
    let l = ap (λ (ns : List ℤ). length ns) c.deref-2.ensures.value in omega (arith, r, e, l)

pub rule_multipliers-requires : goal.rule_multipliers-requires
rule_multipliers-requires c =
    let r = c.requires.room in
    let e = columns-append (map (shape_at c.args.prepared_rules.now) c.args.set.now)
    (shape_at c.args.prepared_rules.now c.args.strict ∷ []) in
    let n = c.in_ok-moves.ensures.next in
    let l = ap (λ (ns : List ℤ). length ns) c.deref-3.ensures.value in omega (arith, r, e, l, n)

pub returns : goal.returns
returns c = record {
  numbered = refl;
  same_set = c.in_ok-from_slice.ensures.items;
  over = refl;
  forms = subst (λ (ns : List ℤ). map form_of c.in_ok-forms.forms.items
      ≡ read_forms (program_of c.args.p.now) (places_of c.args.shut.now)
      (parameters_of (at ns)) 0 c.args.symbols.now) c.deref.ensures.value c.in_ok-forms.ensures;
  multipliers = multipliers-together (at c.args.solution.now.numbers.items)
      (2 * c.args.parameters) c.moves_from.new.next
      (map (shape_at c.args.prepared_rules.now) c.args.set.now) (shape_at c.args.prepared_rules.now c.args.strict) _ _
      (subst (λ (ns : List ℤ). map (λ m. m.items) c.in_ok-moves.moves.items
      ≡ multipliers_by_group (after (2 * c.args.parameters) (at ns))
      (map (shape_at c.args.prepared_rules.now) c.args.set.now)) c.deref-2.ensures.value c.in_ok-moves.ensures.moves)
      c.in_ok-moves.ensures.next
      (subst (λ (ns : List ℤ). c.in_ok-floor.floor.items ∷ []
      ≡ multipliers_by_group (after c.moves_from.new.next (at ns))
      (shape_at c.args.prepared_rules.now c.args.strict ∷ [])) c.deref-3.ensures.value c.in_ok-floor.ensures);
  unused = c.new.ensures.items;
}
