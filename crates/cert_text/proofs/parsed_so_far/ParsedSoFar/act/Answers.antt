use Rattle.cert_text.specs.ParsedSoFar.{draft_of, own_of}
use Rattle.cert_text.proofs.KeptLaws.{acts}
use Rattle.cert_text.proofs.parsed_so_far.ParsedSoFar.act.Goals as goal

pub returns : goal.returns
returns c =
    acts c.args.action (own_of c.args.self.now) (own_of c.end_node.new.self) (own_of c.arrange.new.self)
    (draft_of c.act.new.self) c.announce-coming.result c.in_ok-end_node.ensures c.in_ok-arrange.ensures c.in_ok-act.ensures
    c.announce-coming.ensures
