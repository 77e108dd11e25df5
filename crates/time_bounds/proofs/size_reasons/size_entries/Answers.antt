use Rattle.std.proofs.Common.{◌≡◌, ◌+◌, List, [], ◌∷◌, ◌++◌, length, map, take, Option, Some, sym, ◌∙◌, ap, subst}
use Rattle.std.proofs.Common.{arith}
use Rattle.std.specs.List.{All}
use Rattle.std.proofs.lemmas.List.{take_more, length-take-le}
use Rattle.std.proofs.lemmas.Result.{IfOk-weaker}
use Rattle.outcome.specs.Reports.{Size}
use Rattle.outcome.specs.Views.{size_of}
use Rattle.time_bounds.specs.declared.candidates.Candidate.{Candidate}
use Rattle.time_bounds.specs.declared.sizing.ComponentAttempt.{ComponentAttempt}
use Rattle.time_bounds.specs.Candidates.{result_variables_in}
use Rattle.time_bounds.specs.Attempts.{why_of}
use Rattle.time_bounds.specs.SizeSaid.{seen_rows, said_table, put_why, put_whys, AreThere}
use Rattle.time_bounds.specs.AnalysisLemmas.{CarriesSizes}
use Rattle.time_bounds.specs.Numbered.{EachNumbered}
use Rattle.size_bounds.specs.Tables.{number_at}
use Rattle.time_bounds.proofs.SaidRows.{whys_more, take_past, there_rows, said_seen}
use Rattle.time_bounds.proofs.SizeNumbers.{all_carried}
use Rattle.time_bounds.proofs.size_reasons.size_entries.Goals as goal

pub loop-position-preserved : goal.loop-position-preserved
loop-position-preserved c =
    let table = said_table c.args.table.now in
    let i = c.loop-position.position in
    let cs = c.args.candidates.now in
    let xs = c.args.attempts.now in
    let cand = c.index-candidates-position.result in
    let x = c.index-attempts-position.result in
    let low = c.loop-position-test.true in
    let one : take (i + 1) cs ≡ take i cs ++ cand ∷ [] =
    take_more cs i cand low ∙ ap (λ (y : Candidate). take i cs ++ y ∷ []) (sym c.index-candidates-position.is) in
    let two : take (i + 1) xs ≡ take i xs ++ x ∷ [] =
    take_more xs i x (omega (arith, low, c.requires.one_each)) ∙ ap (λ (y : ComponentAttempt). take i xs ++ y ∷ []) (sym c.index-attempts-position.is) in
    let long : length (take i cs) ≡ length (take i xs) =
    length-take-le i cs (omega (arith, low)) ∙ sym (length-take-le i xs (omega (arith, low, c.requires.one_each))) in
    record {
      sizes =
          c.in_ok-write_reason.ensures.sizes
          ∙ (ap (λ (rows : List (List (Option Size))). put_why rows (result_variables_in cand) (why_of cand x)) c.loop-position.invariant.sizes
          ∙ (sym (whys_more table (take i cs) (take i xs) cand x long)
          ∙ (ap (λ (ds : List Candidate). put_whys table ds (take i xs ++ x ∷ [])) (sym one)
          ∙ ap (λ (ys : List ComponentAttempt). put_whys table (take (i + 1) cs) ys) (sym two))));
      carried = c.in_ok-write_reason.ensures.kept.each c.args.table.now c.loop-position.invariant.carried;
    }

pub entry_rows-requires : goal.entry_rows-requires
entry_rows-requires c =
    let table = said_table c.args.table.now in
    let i = c.loop-position.position in
    let all : seen_rows (map (λ row. row.items) c.loop-position.entries.items) ≡ put_whys table c.args.candidates.now c.args.attempts.now =
    c.loop-position.invariant.sizes
    ∙ (ap (λ (ds : List Candidate). put_whys table ds (take i c.args.attempts.now))
    (take_past i c.args.candidates.now (omega (arith, c.loop-position-test.false)))
    ∙ ap (λ (ys : List ComponentAttempt). put_whys table c.args.candidates.now ys)
    (take_past i c.args.attempts.now (omega (arith, c.loop-position-test.false, c.requires.one_each)))) in
    there_rows c.loop-position.entries.items (subst (λ (rows : List (List (Option Size))). All AreThere rows) (sym all) c.requires.there)

pub returns-clause-sizes : goal.returns-clause-sizes
returns-clause-sizes c =
    let table = said_table c.args.table.now in
    let i = c.loop-position.position in
    let all : seen_rows (map (λ row. row.items) c.loop-position.entries.items) ≡ put_whys table c.args.candidates.now c.args.attempts.now =
    c.loop-position.invariant.sizes
    ∙ (ap (λ (ds : List Candidate). put_whys table ds (take i c.args.attempts.now))
    (take_past i c.args.candidates.now (omega (arith, c.loop-position-test.false)))
    ∙ ap (λ (ys : List ComponentAttempt). put_whys table c.args.candidates.now ys)
    (take_past i c.args.attempts.now (omega (arith, c.loop-position-test.false, c.requires.one_each)))) in
    IfOk-weaker c.entry_rows.result
    (λ rows. map (λ row. map (λ e. Some e) row.items) rows.items ≡ map (λ row. row.items) c.loop-position.entries.items)
    (λ rows. map (λ row. map (λ e. Some (size_of e)) row.items) rows.items ≡ put_whys table c.args.candidates.now c.args.attempts.now)
    (λ rows e. said_seen rows.items ∙ (ap seen_rows e ∙ all)) c.entry_rows.ensures

pub returns-clause-carried : goal.returns-clause-carried
returns-clause-carried c =
    IfOk-weaker c.entry_rows.result
    (λ rows. map (λ row. map (λ e. Some e) row.items) rows.items ≡ map (λ row. row.items) c.loop-position.entries.items)
    (λ rows. EachNumbered (CarriesSizes (number_at c.args.table.now)) 0 (map (λ row. row.items) rows.items))
    (λ rows e. all_carried c.args.table.now rows.items (map (λ row. row.items) c.loop-position.entries.items) e c.loop-position.invariant.carried)
    c.entry_rows.ensures
