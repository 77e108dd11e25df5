use Rattle.std.proofs.Common.{◌≡◌, ℕ, List, ◌++◌, sym, ap, ◌∙◌, subst, arith}
use Rattle.std.specs.Prelude.{OnOk}
use Rattle.its_model.specs.Views.{program_of}
use Rattle.cert_types.specs.cert_rules.Gaps.{SymbolPlace}
use Rattle.rank_search.specs.rule_questions.ProgramQuestions.{places_of}
use Rattle.size_bounds.specs.Tables.{table_of}
use Rattle.time_bounds.specs.Shutting.{into, shut_at, shut_by}
use Rattle.time_bounds.proofs.ShutByPlace.{arity_few, arity_read}
use Rattle.time_bounds.proofs.sets.push_entered.Goals as goal

pub push_shut-requires : goal.push_shut-requires
push_shut-requires c =
    omega (arith, arity_few c.args.cx.now.program.now c.args.symbol c.index.result.now c.requires.ready.valid c.requires.within c.index.ensures)

pub returns : goal.returns
returns c =
    let p = program_of c.args.cx.now.program.now in
    let tab = table_of c.args.table.now in
    let same : shut_at tab c.deref.result.now c.args.symbol c.index.result.now.arity ≡ shut_by p tab c.args.entering.now c.args.symbol =
    ap (λ (xs : List ℕ). shut_at tab xs c.args.symbol c.index.result.now.arity) (c.deref.ensures.value ∙ c.in_ok-into.ensures)
    ∙ ap (λ (n : ℕ). shut_at tab (into p c.args.entering.now c.args.symbol) c.args.symbol n)
    (sym (arity_read c.args.cx.now.program.now c.args.symbol c.index.result.now c.requires.within c.index.ensures)) in
    subst (λ (ys : List SymbolPlace). OnOk c.push_shut.result (places_of c.push_shut.new.shut.items ≡ places_of c.args.shut.now.items ++ ys)) same c.push_shut.ensures
