use Rattle.text_grammar.proofs.ResultLaws.{agreeing_is_right, agreeing_yields}
use Rattle.lp_text.specs.Texts.{lps}
use Rattle.lp_text.specs.Spelled.{IsTextWithin}
use Rattle.lp_text.specs.Views.{lp_of, refusal_in}
use Rattle.lp_text.proofs.LpParts.{lps_lawful}
use Rattle.lp_text.proofs.LpTexts.{parsed_written, written_parsed}
use Rattle.lp_text.proofs.reading.read_written.Goals as goal

pub returns-clause-answer : goal.returns-clause-answer
returns-clause-answer c =
    agreeing_is_right lps lp_of refusal_in lps_lawful (IsTextWithin c.args.bytes.now) c.args.bytes.now
    (parsed_written c.args.bytes.now) c.parse.result c.parse.ensures

pub returns-clause-complete : goal.returns-clause-complete
returns-clause-complete c = λ p w.
    agreeing_yields lps lp_of refusal_in c.args.bytes.now p (written_parsed c.args.bytes.now p w) c.parse.result
    c.parse.ensures
