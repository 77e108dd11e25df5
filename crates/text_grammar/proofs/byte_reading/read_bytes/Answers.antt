use Rattle.std.proofs.Common.{◌≡◌, ℕ, List, length, sym, subst}
use Rattle.text_core.specs.Tokens.{Token, AreInOrder}
use Rattle.text_core.specs.Reading.{answer}
use Rattle.text_grammar.specs.Texts.{reader}
use Rattle.text_grammar.specs.ByteTexts.{texts_of, tokens}
use Rattle.text_grammar.specs.Following.{Says}
use Rattle.text_grammar.proofs.ByteLaws.{tokens_in_order}
use Rattle.text_grammar.proofs.ResultLaws.{says_then_agrees}
use Rattle.text_grammar.proofs.byte_reading.read_bytes.Goals as goal

pub read-requires-clause-ordered : goal.read-requires-clause-ordered
read-requires-clause-ordered g c =
    subst (λ (ts : List (Token _)). AreInOrder 0 ts (length c.args.bytes.now)) (sym c.new-cut.ensures)
    (tokens_in_order c.args.bytes.now)

pub returns : goal.returns
returns g c =
    let bytes : List ℕ = c.args.bytes.now in
    says_then_agrees g.X.ByteText.tree_in (answer (reader (texts_of (g.X.ByteText.bytes_of c.args.text))) (length bytes) (tokens bytes)) c.read.result
    (subst (λ (text : _). Says (λ made t. g.X.ByteText.tree_in made ≡ t) (answer (reader (texts_of (g.X.ByteText.bytes_of text))) (length bytes) (tokens bytes)) c.read.result) c.new-2.ensures.text
    (subst (λ (ts : List (Token ℕ)). Says (λ made t. g.X.ByteText.tree_in made ≡ t) (answer (reader (texts_of (g.X.ByteText.bytes_of c.new-2.result.text))) (length bytes) ts) c.read.result) c.new-cut.ensures
    c.read.ensures))
