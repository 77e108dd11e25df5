use Rattle.std.proofs.Common.{ap, sym, ◌∙◌}
use Rattle.cert_text.specs.declared.action.Action.{Action}
use Rattle.cert_text.specs.ParsedSoFar.{draft_of}
use Rattle.cert_text.specs.Remembered.{numbered}
use Rattle.cert_text.proofs.draft.Draft.act_number.Goals as goal

pub returns-in_ok-read_form-in-FormRead : goal.returns-in_ok-read_form-in-FormRead
returns-in_ok-read_form-in-FormRead c =
    c.in_ok-read_form-in-FormRead.ensures c.args.number c.args.negative
    ∙ ap (λ (a : Action). numbered c.args.number c.args.negative c.args.symbol a (draft_of c.args.self.now))
    (sym c.in-FormRead.is)

pub returns-in_ok-read_move-in-MoveRead : goal.returns-in_ok-read_move-in-MoveRead
returns-in_ok-read_move-in-MoveRead c =
    c.in_ok-read_move-in-MoveRead.ensures c.args.number c.args.symbol c.args.negative
    ∙ ap (λ (a : Action). numbered c.args.number c.args.negative c.args.symbol a (draft_of c.args.self.now))
    (sym c.in-MoveRead.is)
