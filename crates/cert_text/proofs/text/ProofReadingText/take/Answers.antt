use Rattle.std.proofs.Common.{Option, None, cond, ap, ◌∙◌}
use Rattle.its_model.specs.Views.{program_of}
use Rattle.text_grammar.specs.text_core.Readers.{Fault}
use Rattle.cert_lexer.specs.declared.kind.ProofKind.{ProofKind}
use Rattle.cert_text.specs.ParsedSoFar.{own_of}
use Rattle.cert_text.proofs.Judging.{progressed, shown_behind}
use Rattle.cert_text.proofs.text.ProofReadingText.take.Goals as goal

pub returns-clause-known : goal.returns-clause-known
returns-clause-known c = λ es k.
    progressed (program_of c.args.self.now.program.now) es c.args.token.piece c.args.token.at (own_of c.args.self.now.kept)
    (own_of c.read.new.self) c.args.self.now.broken c.breaks-self.result c.in_ok-first_refusal.first_refusal k c.in_ok-first_refusal.ensures.moved
    c.in_ok-first_refusal.ensures.first_refusal c.breaks-self.ensures

pub returns-clause-shown : goal.returns-clause-shown
returns-clause-shown c = λ es k.
    c.unless-shown.ensures
    ∙ ap (λ (o : Option (Fault ProofKind)). cond c.args.self.now.broken None o) c.in_ok-first_refusal.ensures.first_refusal
    ∙ shown_behind (program_of c.args.self.now.program.now) es (own_of c.args.self.now.kept) c.args.self.now.broken
    c.args.token.piece c.args.token.at k
