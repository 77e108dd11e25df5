use Rattle.std.proofs.Common.{List, ℕ, subst}
use Rattle.call_plans.specs.Calls.{sink_use_of}
use Rattle.call_plans.specs.Meanings.{Appended}
use Rattle.koat_cli.specs.Calls.{call_of}
use Rattle.koat_cli.proofs.Endings.{ended_whole}
use Rattle.koat_cli.proofs.EndsMean.{ends_mean}
use Rattle.koat_cli.proofs.top_call.run.Goals as goal

pub returns-in-Ok-put-clause-means : goal.returns-in-Ok-put-clause-means
returns-in-Ok-put-clause-means g c =
    let call = call_of g.F.Shelf c.args.words.now c.args.shelf.now c.prepare.new.shelf in
    let put = sink_use_of g.S.Sink c.args.sink.now c.put.new.self in
    let reply = c.in-Ok.reply in
    ends_mean reply.status call put
    (ended_whole call put reply.status reply.text.items c.in-Ok.ensures.says c.in-Ok.ensures.fault
    (subst (λ (text : List ℕ). Appended put text) c.deref.ensures.value c.in-Ok-put.ensures.ok) c.put.ensures.counted)
