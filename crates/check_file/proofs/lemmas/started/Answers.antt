use Rattle.check_file.proofs.KeptLemmas.{kept-none}
use Rattle.its_model.specs.Views.{program_of}
use Rattle.check_file.proofs.lemmas.started.Goals as goal

pub returns : goal.returns
returns c =
    kept-none (program_of c.args.p.now) c.new-stated.result c.push.new.self c.new.result c.in_ok-start_facts.field-0
    c.new-stated.ensures.items (c.in_ok-push.ensures {u = tt}).items c.new.ensures.items (c.in_ok-start_facts.ensures {u = tt})
