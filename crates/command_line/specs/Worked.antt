-- Worked values of the requests of words.
use Rattle.std.specs.Prelude.{[], ◌∷◌, codes}
use Rattle.command_line.specs.Lines.{Words}
use Rattle.command_line.specs.Requests.{Request, OfProgram, OfPair, OfNumber, Analyse, Prove, Facts, Best, Certify}
use Rattle.command_line.specs.Requests.{Check, Replay}
use Rattle.command_line.specs.Requests.{OfFile, While, Lasso, Generate, Selfrun, Lp, Translate, HasRequest}

-- the words have no request
abbrev pub HasNoRequest : Words → Type 0
HasNoRequest words = (r : Request) → ¬ (HasRequest words r)

-- command lines and their requests
pub record CommandLines : Type 0 where
  pub file_alone : HasRequest (codes "analyse" ∷ codes "p" ∷ []) (OfProgram Analyse 10000 (codes "p"))
  pub standard_input : HasRequest (codes "analyse" ∷ codes "-" ∷ []) (OfProgram Analyse 10000 (codes "-"))
  pub empty_word : HasRequest (codes "analyse" ∷ [] ∷ []) (OfProgram Analyse 10000 [])
  pub option_then_value : HasRequest (codes "analyse" ∷ codes "--pivots" ∷ codes "70" ∷ codes "p" ∷ [])
      (OfProgram Analyse 70 (codes "p"))
  pub option_with_value : HasRequest (codes "analyse" ∷ codes "p" ∷ codes "--pivots=5" ∷ [])
      (OfProgram Analyse 5 (codes "p"))
  pub none : HasRequest (codes "analyse" ∷ codes "--pivots" ∷ codes "0" ∷ codes "p" ∷ [])
      (OfProgram Analyse 0 (codes "p"))
  pub most : HasRequest (codes "analyse" ∷ codes "--pivots=1000000" ∷ codes "p" ∷ [])
      (OfProgram Analyse 1000000 (codes "p"))
  pub option_after_end : HasRequest (codes "analyse" ∷ codes "--" ∷ codes "--pivots" ∷ [])
      (OfProgram Analyse 10000 (codes "--pivots"))
  pub end_after_end : HasRequest (codes "analyse" ∷ codes "--" ∷ codes "--" ∷ []) (OfProgram Analyse 10000 (codes "--"))
  pub proofs : HasRequest (codes "prove" ∷ codes "--pivots=5" ∷ codes "p" ∷ []) (OfProgram Prove 5 (codes "p"))
  pub check : HasRequest (codes "check" ∷ codes "p" ∷ codes "q" ∷ []) (OfPair Check (codes "p") (codes "q"))
  pub replay : HasRequest (codes "replay" ∷ codes "p" ∷ codes "--" ∷ codes "-q" ∷ [])
      (OfPair Replay (codes "p") (codes "-q"))
  pub lasso : HasRequest (codes "lasso" ∷ codes "p" ∷ codes "q" ∷ []) (OfPair Lasso (codes "p") (codes "q"))
  pub generate : HasRequest (codes "generate" ∷ codes "6" ∷ []) (OfNumber Generate 6)
  pub number_after_end : HasRequest (codes "generate" ∷ codes "--" ∷ codes "0" ∷ []) (OfNumber Generate 0)
  pub selfrun : HasRequest (codes "selfrun" ∷ codes "100" ∷ []) (OfNumber Selfrun 100)
  pub facts : HasRequest (codes "facts" ∷ codes "p" ∷ []) (OfProgram Facts 10000 (codes "p"))
  pub facts_within : HasRequest (codes "facts" ∷ codes "--pivots" ∷ codes "0" ∷ codes "-" ∷ [])
      (OfProgram Facts 0 (codes "-"))
  pub best : HasRequest (codes "best" ∷ codes "p" ∷ []) (OfProgram Best 10000 (codes "p"))
  pub best_within : HasRequest (codes "best" ∷ codes "--pivots=5" ∷ codes "p" ∷ []) (OfProgram Best 5 (codes "p"))
  pub certify : HasRequest (codes "certify" ∷ codes "p" ∷ []) (OfProgram Certify 10000 (codes "p"))
  pub linear_program : HasRequest (codes "lp" ∷ codes "p" ∷ []) (OfFile Lp (codes "p"))
  pub dash_first : HasRequest (codes "lp" ∷ codes "--" ∷ codes "-p" ∷ []) (OfFile Lp (codes "-p"))
  pub while_program : HasRequest (codes "while" ∷ codes "p" ∷ []) (While 10000 (codes "p"))
  pub while_within : HasRequest (codes "while" ∷ codes "--pivots=5" ∷ codes "--" ∷ codes "-p" ∷ [])
      (While 5 (codes "-p"))
  pub translation : HasRequest (codes "translate" ∷ codes "p" ∷ []) (OfFile Translate (codes "p"))

-- words without a request
pub record OtherWords : Type 0 where
  pub no_word : HasNoRequest []
  pub other_command : HasNoRequest (codes "Analyse" ∷ codes "p" ∷ [])
  pub shorter_command : HasNoRequest (codes "gen" ∷ codes "1" ∷ [])
  pub letter_missing : HasNoRequest (codes "analys" ∷ codes "p" ∷ [])
  pub option_alone : HasNoRequest (codes "--version" ∷ [])
  pub option_first : HasNoRequest (codes "--pivots" ∷ codes "5" ∷ codes "analyse" ∷ codes "p" ∷ [])
  pub no_file : HasNoRequest (codes "analyse" ∷ [])
  pub two_files : HasNoRequest (codes "analyse" ∷ codes "p" ∷ codes "p" ∷ [])
  pub leading_zero : HasNoRequest (codes "analyse" ∷ codes "--pivots" ∷ codes "01" ∷ codes "p" ∷ [])
  pub too_many : HasNoRequest (codes "analyse" ∷ codes "--pivots=1000001" ∷ codes "p" ∷ [])
  pub no_number : HasNoRequest (codes "analyse" ∷ codes "--pivots=" ∷ codes "p" ∷ [])
  pub twice : HasNoRequest
      (codes "analyse" ∷ codes "--pivots=1" ∷ codes "--pivots" ∷ codes "1" ∷ codes "p" ∷ [])
  pub no_value : HasNoRequest (codes "analyse" ∷ codes "p" ∷ codes "--pivots" ∷ [])
  pub other_option : HasNoRequest (codes "analyse" ∷ codes "--help" ∷ codes "p" ∷ [])
  pub short_option : HasNoRequest (codes "analyse" ∷ codes "-p" ∷ [])
  pub one_of_two : HasNoRequest (codes "check" ∷ codes "p" ∷ [])
  pub lasso_alone : HasNoRequest (codes "lasso" ∷ codes "p" ∷ [])
  pub three_files : HasNoRequest (codes "check" ∷ codes "p" ∷ codes "q" ∷ codes "r" ∷ [])
  pub option_of_two : HasNoRequest (codes "replay" ∷ codes "--pivots=5" ∷ codes "p" ∷ codes "q" ∷ [])
  pub too_large : HasNoRequest (codes "generate" ∷ codes "101" ∷ [])
  pub two_numbers : HasNoRequest (codes "generate" ∷ codes "1" ∷ codes "2" ∷ [])
  pub zero_first : HasNoRequest (codes "selfrun" ∷ codes "01" ∷ [])
  pub with_sign : HasNoRequest (codes "selfrun" ∷ codes "+1" ∷ [])
  pub no_digit : HasNoRequest (codes "generate" ∷ [] ∷ [])
  pub option_of_number : HasNoRequest (codes "selfrun" ∷ codes "--pivots" ∷ codes "5" ∷ codes "1" ∷ [])
  pub facts_of_none : HasNoRequest (codes "facts" ∷ [])
  pub facts_of_two : HasNoRequest (codes "facts" ∷ codes "p" ∷ codes "p" ∷ [])
  pub one_fact : HasNoRequest (codes "fact" ∷ codes "p" ∷ [])
  pub lp_of_none : HasNoRequest (codes "lp" ∷ [])
  pub lp_of_two : HasNoRequest (codes "lp" ∷ codes "p" ∷ codes "q" ∷ [])
  pub option_of_lp : HasNoRequest (codes "lp" ∷ codes "--pivots=5" ∷ codes "p" ∷ [])
  pub while_of_none : HasNoRequest (codes "while" ∷ [])
  pub while_of_two : HasNoRequest (codes "while" ∷ codes "p" ∷ codes "p" ∷ [])
  pub while_too_many : HasNoRequest (codes "while" ∷ codes "--pivots=1000001" ∷ codes "p" ∷ [])
  pub letter_added : HasNoRequest (codes "whiles" ∷ codes "p" ∷ [])
  pub translate_of_two : HasNoRequest (codes "translate" ∷ codes "p" ∷ codes "q" ∷ [])
  pub option_of_translate : HasNoRequest (codes "translate" ∷ codes "--pivots=5" ∷ codes "p" ∷ [])
