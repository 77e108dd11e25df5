use Rattle.std.proofs.Common.{◌≡◌, ℕ, ◌+◌, arith, refl, ◌∙◌, subst, length, map}
use Rattle.std.specs.Int.{w128}
use Rattle.std.proofs.lemmas.Int.{to_z-of_z}
use Rattle.simplex_core.proofs.linear_forms.SolutionLaws.{length-map}
use Rattle.poly_terms.specs.Views.{form_of}
use Rattle.lp_builder.specs.Descriptions.{group_of}
use Rattle.lp_builder.proofs.Groups.{Written, written-none, written-more, group-held, group-shaped, line-at}
use Rattle.lp_builder.proofs.builder.Builder.add_group.Goals as goal

pub loop-number-init : goal.loop-number-init
loop-number-init c = written-none _ _ c.requires.ready.at_start

pub loop-number-preserved : goal.loop-number-preserved
loop-number-preserved c =
    let a = c.args.self.now in
    let b = c.loop-number.self in
    let w = c.loop-number.invariant in
    let n = c.loop-number.number in
    let writes = line-at a.parameters b.parameters a.columns b.columns c.args.unknowns n c.args.rows.now c.args.goals.now c.args.fixed.now b.writer c.put_line.new.writer
    w.parameters w.columns c.in_ok-put_line.ensures in
    written-more a b _ c.put_line.new.writer (group_of a.parameters c.args.unknowns c.args.rows.now c.args.goals.now c.args.fixed.now) n _ w writes c.next_row.ensures refl refl
    c.in_ok-push.ensures.items (to_z-of_z w128 c.less.result (record { sfits = c.less.type_inv }) ∙ c.less.ensures)

pub returns : goal.returns
returns c =
    let a = c.args.self.now in
    let b = c.loop-number.self in
    let g = group_of a.parameters c.args.unknowns c.args.rows.now c.args.goals.now c.args.fixed.now in
    let w = c.loop-number.invariant in
    let all : c.loop-number.number ≡ c.args.unknowns + 1 = omega (arith, c.loop-number-test.false, c.loop-number.auto.number-end) in
    let whole = subst (λ (n : ℕ). Written a b g n) all w in
    let many : length (map form_of c.args.rows.now) ≡ length c.args.rows.now = length-map form_of c.args.rows.now in
    record {
      ready = record {
        at_start = w.col;
        few_rows = omega (arith, w.row, c.requires.few_rows, all);
        few_columns = omega (arith, w.columns, w.parameters, c.requires.few_columns);
      };
      holds = group-held a b _ g (group-shaped a.parameters c.args.unknowns c.args.rows.now c.args.goals.now c.args.fixed.now c.requires.writable) whole refl refl refl refl (omega (arith, many));
      parameters = w.parameters;
      rows = omega (arith, w.row, all);
      columns = omega (arith, w.columns, w.parameters, many);
    }
