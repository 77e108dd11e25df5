-- The texts that the program writes, except for those of programs and reports; the usage text is that of the crate of
-- the command line.
use Rattle.std.specs.Prelude.{ℕ, List, ◌++◌, codes, decimal}
pub use Rattle.command_line.specs.Usage.{usage_text}
use Rattle.its_model.specs.text_core.Readers.{Fault}
use Rattle.its_reader.specs.its_text.Kinds.{LimitKind, TooManyRules, TooManyArguments, TooManyVariables, TooManyAtoms}
use Rattle.its_reader.specs.its_text.Kinds.{LongName}
use Rattle.its_reader.specs.its_text.Kinds.{TooManyTokens, TooManyTerms, HighDegree}
use Rattle.its_reader.specs.its_text.Kinds.{Kind, NotAscii, Syntax, MissingSection, RepeatedSection, ManyTargets}
use Rattle.its_reader.specs.its_text.Kinds.{LeftNotVariable}
use Rattle.its_reader.specs.its_text.Kinds.{LeftRepeated, ArityDiffers, NumberTooLarge, Limit, StartUnknown}
use Rattle.its_reader.specs.its_text.Kinds.{Disjunction}

-- the text if a program's file is too long
abbrev pub too_long_text : List ℕ
too_long_text = codes "program refused: too long\n"

-- what there are too many of, or what is too long or too high
abbrev pub limit_text : LimitKind → List ℕ
limit_text TooManyRules = codes "Limit Rules"
limit_text TooManyArguments = codes "Limit Arity"
limit_text TooManyVariables = codes "Limit Variables"
limit_text TooManyAtoms = codes "Limit Atoms"
limit_text LongName = codes "Limit Name"
limit_text TooManyTokens = codes "Limit Tokens"
limit_text TooManyTerms = codes "Limit Terms"
limit_text HighDegree = codes "Limit Degree"

-- what is wrong with a text
abbrev pub kind_text : Kind → List ℕ
kind_text NotAscii = codes "NotAscii"
kind_text Syntax = codes "Syntax"
kind_text MissingSection = codes "MissingSection"
kind_text RepeatedSection = codes "RepeatedSection"
kind_text ManyTargets = codes "ManyTargets"
kind_text LeftNotVariable = codes "LeftNotVariable"
kind_text LeftRepeated = codes "LeftRepeated"
kind_text ArityDiffers = codes "ArityDiffers"
kind_text NumberTooLarge = codes "NumberTooLarge"
kind_text (Limit k) = limit_text k
kind_text StartUnknown = codes "StartUnknown"
kind_text Disjunction = codes "Disjunction"

-- the text of a refusal: the byte, from 0, and what is wrong there
abbrev pub refusal_line : ℕ → List ℕ → List ℕ
refusal_line at kind = codes "program refused at " ++ (decimal at ++ (codes ": " ++ (kind ++ codes "\n")))

abbrev pub refusal_text : Fault Kind → List ℕ
refusal_text x = refusal_line x.at (kind_text x.kind)
