-- The code's record of a number that is being spelled, as plain data.
use Rattle.text_grammar.specs.declared.numeral.Numeral as code
use Rattle.text_grammar.specs.ByteTexts.{Numeral}

abbrev pub numeral_of : code.Numeral → Numeral
numeral_of m = record { negative = m.negative; number = m.number; spelled = m.spelled }
