-- Words without a request.
use Rattle.std.proofs.Common.{◌≡◌, ℕ, [], ◌∷◌, ◌++◌, refl, sym, ◌∙◌, ap, subst, arith, codes, get_or, true, false}
use Rattle.command_line.specs.declared.command.Command.{Command}
use Rattle.command_line.specs.declared.command.Command.TheVariants as commands
use Rattle.command_line.specs.declared.task.ProgramTask.{ProgramTask}
use Rattle.command_line.specs.declared.task.PairTask.{PairTask}
use Rattle.command_line.specs.declared.task.NumberTask.{NumberTask}
use Rattle.command_line.specs.declared.task.FileTask.{FileTask}
use Rattle.command_line.specs.Lines.{Word, Words, is_plain, AreWordsWith}
use Rattle.command_line.specs.Numerals.{IsNumber}
use Rattle.command_line.specs.Requests.{Analyse, Facts, Check, Replay, Lasso, Generate, Selfrun, Lp, Translate}
use Rattle.command_line.specs.Requests.{word_of, command_of}
use Rattle.command_line.specs.Requests.{AllowsPivots, IsRequestWith}
use Rattle.command_line.specs.Steps.{IsOther}
use Rattle.command_line.specs.Worked.{OtherWords, HasNoRequest}
use Rattle.command_line.proofs.OneWay.{one_command, no_command, request_by}
use Rattle.command_line.proofs.Commands.{none_of_none, none_without_command, none_by}
use Rattle.command_line.proofs.Firsts.{option_then_value_first, option_with_value_first, plain_first, other_first}
use Rattle.command_line.proofs.Firsts.{none_first, gives_along}

-- if a command has no request with the given values and positionals, words with this command have none
nothing : (c : Command) (others : Words)
    → ((values positionals : Words) → AreWordsWith others values positionals
    → ¬ (IsRequestWith (request_by c values positionals) values positionals))
    → HasNoRequest (word_of c ∷ others)
nothing c others none r h =
    let heads : word_of (command_of r) ≡ word_of c = cc (h.command) in
    let same : others ≡ h.others = cc (h.command) in
    none_by c h.values h.positionals (none h.values h.positionals (gives_along _ _ _ _ _ _ same refl refl h.gives)) r
    (record { command_is = one_command (command_of r) c heads; parts = h.parts })

-- words after a command with a program's file have no request if they don't give one file and a number of pivots
no_program : (task : ProgramTask) (others : Words)
    → ((values : Words) (n : ℕ) (file : Word) → AreWordsWith others values (file ∷ []) → AllowsPivots values n → ⊥)
    → HasNoRequest (word_of (commands.OfProgram task) ∷ others)
no_program task others none =
    nothing (commands.OfProgram task) others
    (λ values positionals g h. none values _ _ (gives_along _ _ _ _ _ _ refl refl (sym h.one) g) h.allowed)

-- words after the command of a while program have no request if they don't give these
no_while : (others : Words)
    → ((values : Words) (n : ℕ) (file : Word) → AreWordsWith others values (file ∷ []) → AllowsPivots values n → ⊥)
    → HasNoRequest (word_of commands.While ∷ others)
no_while others none =
    nothing commands.While others
    (λ values positionals g h. none values _ _ (gives_along _ _ _ _ _ _ refl refl (sym h.one) g) h.allowed)

-- words after a command with two files have no request if they don't give two files without the option
no_pair : (task : PairTask) (others : Words)
    → ((first second : Word) → AreWordsWith others [] (first ∷ second ∷ []) → ⊥)
    → HasNoRequest (word_of (commands.OfPair task) ∷ others)
no_pair task others none =
    nothing (commands.OfPair task) others
    (λ values positionals g h. none _ _ (gives_along _ _ _ _ _ _ refl (sym h.no_option) (sym h.two) g))

-- words after a command with a file alone have no request if they don't give one file without the option
no_file_of : (task : FileTask) (others : Words) → ((file : Word) → AreWordsWith others [] (file ∷ []) → ⊥)
    → HasNoRequest (word_of (commands.OfFile task) ∷ others)
no_file_of task others none =
    nothing (commands.OfFile task) others
    (λ values positionals g h. none _ (gives_along _ _ _ _ _ _ refl (sym h.no_option) (sym h.one) g))

-- words after a command with a number have no request if they don't give one number without the option
no_number_of : (task : NumberTask) (others : Words)
    → ((word : Word) (n : ℕ) → AreWordsWith others [] (word ∷ []) → IsNumber 100 word n → ⊥)
    → HasNoRequest (word_of (commands.OfNumber task) ∷ others)
no_number_of task others none =
    nothing (commands.OfNumber task) others
    (λ values positionals g h. none _ _ (gives_along _ _ _ _ _ _ refl (sym h.no_option) (sym h.one) g) h.number)

no_word : HasNoRequest []
no_word = none_of_none

-- `Analyse` isn't a command
other_command : HasNoRequest (codes "Analyse" ∷ codes "p" ∷ [])
other_command = none_without_command _ (codes "Analyse") (codes "p" ∷ []) refl (no_command (codes "Analyse") refl)

-- `gen`, `analys` and `fact`, which lack letters, `whiles`, which has one more, and an option aren't commands
shorter_command : HasNoRequest (codes "gen" ∷ codes "1" ∷ [])
shorter_command = none_without_command _ (codes "gen") (codes "1" ∷ []) refl (no_command (codes "gen") refl)

letter_missing : HasNoRequest (codes "analys" ∷ codes "p" ∷ [])
letter_missing = none_without_command _ (codes "analys") (codes "p" ∷ []) refl (no_command (codes "analys") refl)

one_fact : HasNoRequest (codes "fact" ∷ codes "p" ∷ [])
one_fact = none_without_command _ (codes "fact") (codes "p" ∷ []) refl (no_command (codes "fact") refl)

letter_added : HasNoRequest (codes "whiles" ∷ codes "p" ∷ [])
letter_added = none_without_command _ (codes "whiles") (codes "p" ∷ []) refl (no_command (codes "whiles") refl)

option_alone : HasNoRequest (codes "--version" ∷ [])
option_alone = none_without_command _ (codes "--version") [] refl (no_command (codes "--version") refl)

option_first : HasNoRequest (codes "--pivots" ∷ codes "5" ∷ codes "analyse" ∷ codes "p" ∷ [])
option_first =
    none_without_command _ (codes "--pivots") (codes "5" ∷ codes "analyse" ∷ codes "p" ∷ []) refl
    (no_command (codes "--pivots") refl)

no_file : (values : Words) (n : ℕ) (file : Word) → AreWordsWith [] values (file ∷ []) → AllowsPivots values n → ⊥
no_file values n file g a = let e = (none_first values (file ∷ []) g).1 in cc

-- words with the option before the file
file_last : (values : Words) (file : Word) → AreWordsWith (codes "p" ∷ []) values (file ∷ []) → values ≡ []
file_last values file g =
    let one = plain_first (codes "p") [] values (file ∷ []) refl g in
    (none_first values one.0 one.1).0

two_files : (values : Words) (n : ℕ) (file : Word) → AreWordsWith (codes "p" ∷ codes "p" ∷ []) values (file ∷ [])
    → AllowsPivots values n → ⊥
two_files values n file g a =
    let one = plain_first (codes "p") (codes "p" ∷ []) values (file ∷ []) refl g in
    let two = plain_first (codes "p") [] values one.0 refl one.1 in
    let e : file ∷ [] ≡ codes "p" ∷ codes "p" ∷ two.0 = one.2 ∙ ap (λ (ws : Words). codes "p" ∷ ws) two.2 in
    cc

leading_zero : (values : Words) (n : ℕ) (file : Word) → AreWordsWith (codes "--pivots" ∷ codes "01" ∷ codes "p" ∷ [])
    values (file ∷ [])
    → AllowsPivots values n → ⊥
leading_zero values n file g a =
    let one = option_then_value_first (codes "--pivots") (codes "01" ∷ codes "p" ∷ []) values (file ∷ []) refl g in
    let head : codes "01" ≡ one.value = cc (one.first) in
    let tail : codes "p" ∷ [] ≡ one.others = cc (one.first) in
    let none = file_last one.more file (gives_along _ _ _ _ _ _ tail refl refl one.gives) in
    let all : values ≡ codes "01" ∷ [] = cc (one.has_values, head, none) in
    let number = subst (λ (vs : Words). AllowsPivots vs n) all a in
    let e : true ≡ false = number.plain in
    cc

too_many : (values : Words) (n : ℕ) (file : Word) → AreWordsWith
    ((codes "--pivots=" ++ codes "1000001") ∷ codes "p" ∷ []) values (file ∷ [])
    → AllowsPivots values n → ⊥
too_many values n file g a =
    let one = option_with_value_first (codes "--pivots=" ++ codes "1000001") (codes "1000001") (codes "p" ∷ []) values
    (file ∷ []) refl g in
    let none = file_last one.0 file one.2 in
    let all : values ≡ codes "1000001" ∷ [] = cc (one.3, none) in
    let number = subst (λ (vs : Words). AllowsPivots vs n) all a in
    over n number
  where
    over : (m : ℕ) → IsNumber 1000000 (codes "1000001") m → ⊥
    over m h = omega (arith, h.value, h.in_range)

no_number : (values : Words) (n : ℕ) (file : Word) → AreWordsWith ((codes "--pivots=" ++ []) ∷ codes "p" ∷ []) values
    (file ∷ [])
    → AllowsPivots values n → ⊥
no_number values n file g a =
    let one = option_with_value_first (codes "--pivots=" ++ []) [] (codes "p" ∷ []) values (file ∷ []) refl g in
    let none = file_last one.0 file one.2 in
    let all : values ≡ [] ∷ [] = cc (one.3, none) in
    let number = subst (λ (vs : Words). AllowsPivots vs n) all a in
    number.some refl

twice : (values : Words) (n : ℕ) (file : Word)
    → AreWordsWith ((codes "--pivots=" ++ codes "1") ∷ codes "--pivots" ∷ codes "1" ∷ codes "p" ∷ []) values (file ∷ [])
    → AllowsPivots values n → ⊥
twice values n file g a =
    let one = option_with_value_first (codes "--pivots=" ++ codes "1") (codes "1")
    (codes "--pivots" ∷ codes "1" ∷ codes "p" ∷ []) values (file ∷ []) refl g in
    let two = option_then_value_first (codes "--pivots") (codes "1" ∷ codes "p" ∷ []) one.0 (file ∷ []) refl one.2 in
    let all : values ≡ codes "1" ∷ two.value ∷ two.more = cc (one.3, two.has_values) in
    subst (λ (vs : Words). AllowsPivots vs n) all a

no_value : (values : Words) (n : ℕ) (file : Word) → AreWordsWith (codes "p" ∷ codes "--pivots" ∷ []) values (file ∷ [])
    → AllowsPivots values n → ⊥
no_value values n file g a =
    let one = plain_first (codes "p") (codes "--pivots" ∷ []) values (file ∷ []) refl g in
    let two = option_then_value_first (codes "--pivots") [] values one.0 refl one.1 in
    let e : [] ≡ two.value ∷ two.others = two.first in
    cc

help_is_other : IsOther (codes "--help")
help_is_other = record {
  end = λ e. omega (arith, ap (λ (w : Word). get_or w 2 0) e);
  option_then_value = λ e. omega (arith, ap (λ (w : Word). get_or w 2 0) e);
  option_with_value = λ v e. omega (arith, ap (λ (w : Word). get_or w 2 0) e);
  plain = refl;
}

other_option : (values : Words) (n : ℕ) (file : Word) → AreWordsWith (codes "--help" ∷ codes "p" ∷ []) values
    (file ∷ []) → AllowsPivots values n → ⊥
other_option values n file g a = other_first (codes "--help") (codes "p" ∷ []) values (file ∷ []) help_is_other g

short_is_other : IsOther (codes "-p")
short_is_other = record {
  end = λ e. omega (arith, ap (λ (w : Word). get_or w 1 0) e);
  option_then_value = λ e. omega (arith, ap (λ (w : Word). get_or w 1 0) e);
  option_with_value = λ v e. omega (arith, ap (λ (w : Word). get_or w 1 0) e);
  plain = refl;
}

short_option : (values : Words) (n : ℕ) (file : Word) → AreWordsWith (codes "-p" ∷ []) values (file ∷ [])
    → AllowsPivots values n → ⊥
short_option values n file g a = other_first (codes "-p") [] values (file ∷ []) short_is_other g

one_of_two : (first second : Word) → AreWordsWith (codes "p" ∷ []) [] (first ∷ second ∷ []) → ⊥
one_of_two first second g =
    let one = plain_first (codes "p") [] [] (first ∷ second ∷ []) refl g in
    let e : first ∷ second ∷ [] ≡ codes "p" ∷ [] = one.2 ∙ ap (λ (ws : Words). codes "p" ∷ ws)
    (none_first [] one.0 one.1).1 in
    cc

three_files : (first second : Word) → AreWordsWith (codes "p" ∷ codes "q" ∷ codes "r" ∷ []) [] (first ∷ second ∷ []) → ⊥
three_files first second g =
    let one = plain_first (codes "p") (codes "q" ∷ codes "r" ∷ []) [] (first ∷ second ∷ []) refl g in
    let two = plain_first (codes "q") (codes "r" ∷ []) [] one.0 refl one.1 in
    let three = plain_first (codes "r") [] [] two.0 refl two.1 in
    let e : first ∷ second ∷ [] ≡ codes "p" ∷ codes "q" ∷ codes "r" ∷ three.0 = one.2
    ∙ ap (λ (ws : Words). codes "p" ∷ ws) (two.2 ∙ ap (λ (ws : Words). codes "q" ∷ ws) three.2) in
    cc

option_of_two : (first second : Word) → AreWordsWith ((codes "--pivots=" ++ codes "5") ∷ codes "p" ∷ codes "q" ∷ []) []
    (first ∷ second ∷ []) → ⊥
option_of_two first second g =
    let one = option_with_value_first (codes "--pivots=" ++ codes "5") (codes "5") (codes "p" ∷ codes "q" ∷ []) []
    (first ∷ second ∷ []) refl g in
    let e : [] ≡ codes "5" ∷ one.0 = one.3 in
    cc

option_of_number : (word : Word) (n : ℕ) → AreWordsWith (codes "--pivots" ∷ codes "5" ∷ codes "1" ∷ []) [] (word ∷ [])
    → IsNumber 100 word n → ⊥
option_of_number word n g h =
    let one = option_then_value_first (codes "--pivots") (codes "5" ∷ codes "1" ∷ []) [] (word ∷ []) refl g in
    let e : [] ≡ one.value ∷ one.more = one.has_values in
    cc

two_numbers : (word : Word) (n : ℕ) → AreWordsWith (codes "1" ∷ codes "2" ∷ []) [] (word ∷ []) → IsNumber 100 word n → ⊥
two_numbers word n g h =
    let one = plain_first (codes "1") (codes "2" ∷ []) [] (word ∷ []) refl g in
    let two = plain_first (codes "2") [] [] one.0 refl one.1 in
    let e : word ∷ [] ≡ codes "1" ∷ codes "2" ∷ two.0 = one.2 ∙ ap (λ (ws : Words). codes "1" ∷ ws) two.2 in
    cc

lp_of_none : (file : Word) → AreWordsWith [] [] (file ∷ []) → ⊥
lp_of_none file g = let e = (none_first [] (file ∷ []) g).1 in cc

lp_of_two : (file : Word) → AreWordsWith (codes "p" ∷ codes "q" ∷ []) [] (file ∷ []) → ⊥
lp_of_two file g =
    let one = plain_first (codes "p") (codes "q" ∷ []) [] (file ∷ []) refl g in
    let two = plain_first (codes "q") [] [] one.0 refl one.1 in
    let e : file ∷ [] ≡ codes "p" ∷ codes "q" ∷ two.0 = one.2 ∙ ap (λ (ws : Words). codes "p" ∷ ws) two.2 in
    cc

option_of_lp : (file : Word) → AreWordsWith ((codes "--pivots=" ++ codes "5") ∷ codes "p" ∷ []) [] (file ∷ []) → ⊥
option_of_lp file g =
    let one = option_with_value_first (codes "--pivots=" ++ codes "5") (codes "5") (codes "p" ∷ []) [] (file ∷ []) refl
    g in
    let e : [] ≡ codes "5" ∷ one.0 = one.3 in
    cc

-- the number that is the only word after a command
the_number : (w word : Word) (n : ℕ) → is_plain w ≡ true → AreWordsWith (w ∷ []) [] (word ∷ []) → IsNumber 100 word n
    → IsNumber 100 w n
the_number w word n plain g h =
    let one = plain_first w [] [] (word ∷ []) plain g in
    let same : word ≡ w = cc (one.2) in
    subst (λ (v : Word). IsNumber 100 v n) same h

too_large : (n : ℕ) → IsNumber 100 (codes "101") n → ⊥
too_large n h = omega (arith, h.value, h.in_range)

zero_first : (n : ℕ) → IsNumber 100 (codes "01") n → ⊥
zero_first n h = let e : true ≡ false = h.plain in cc

with_sign : (n : ℕ) → IsNumber 100 (codes "+1") n → ⊥
with_sign n h = let e : false ≡ true = h.digits in cc

pub other_words : OtherWords
other_words = record {
  no_word = no_word;
  other_command = other_command;
  shorter_command = shorter_command;
  letter_missing = letter_missing;
  option_alone = option_alone;
  option_first = option_first;
  no_file = no_program Analyse [] no_file;
  two_files = no_program Analyse (codes "p" ∷ codes "p" ∷ []) two_files;
  leading_zero = no_program Analyse (codes "--pivots" ∷ codes "01" ∷ codes "p" ∷ []) leading_zero;
  too_many = no_program Analyse ((codes "--pivots=" ++ codes "1000001") ∷ codes "p" ∷ []) too_many;
  no_number = no_program Analyse ((codes "--pivots=" ++ []) ∷ codes "p" ∷ []) no_number;
  twice = no_program Analyse ((codes "--pivots=" ++ codes "1") ∷ codes "--pivots" ∷ codes "1" ∷ codes "p" ∷ []) twice;
  no_value = no_program Analyse (codes "p" ∷ codes "--pivots" ∷ []) no_value;
  other_option = no_program Analyse (codes "--help" ∷ codes "p" ∷ []) other_option;
  short_option = no_program Analyse (codes "-p" ∷ []) short_option;
  one_of_two = no_pair Check (codes "p" ∷ []) one_of_two;
  lasso_alone = no_pair Lasso (codes "p" ∷ []) one_of_two;
  three_files = no_pair Check (codes "p" ∷ codes "q" ∷ codes "r" ∷ []) three_files;
  option_of_two = no_pair Replay ((codes "--pivots=" ++ codes "5") ∷ codes "p" ∷ codes "q" ∷ []) option_of_two;
  too_large = no_number_of Generate (codes "101" ∷ [])
      (λ word n g h. too_large n (the_number (codes "101") word n refl g h));
  two_numbers = no_number_of Generate (codes "1" ∷ codes "2" ∷ []) two_numbers;
  zero_first = no_number_of Selfrun (codes "01" ∷ [])
      (λ word n g h. zero_first n (the_number (codes "01") word n refl g h));
  with_sign = no_number_of Selfrun (codes "+1" ∷ [])
      (λ word n g h. with_sign n (the_number (codes "+1") word n refl g h));
  no_digit = no_number_of Generate ([] ∷ []) (λ word n g h. (the_number [] word n refl g h).some refl);
  option_of_number = no_number_of Selfrun (codes "--pivots" ∷ codes "5" ∷ codes "1" ∷ []) option_of_number;
  facts_of_none = no_program Facts [] no_file;
  facts_of_two = no_program Facts (codes "p" ∷ codes "p" ∷ []) two_files;
  one_fact = one_fact;
  lp_of_none = no_file_of Lp [] lp_of_none;
  lp_of_two = no_file_of Lp (codes "p" ∷ codes "q" ∷ []) lp_of_two;
  option_of_lp = no_file_of Lp ((codes "--pivots=" ++ codes "5") ∷ codes "p" ∷ []) option_of_lp;
  while_of_none = no_while [] no_file;
  while_of_two = no_while (codes "p" ∷ codes "p" ∷ []) two_files;
  while_too_many = no_while ((codes "--pivots=" ++ codes "1000001") ∷ codes "p" ∷ []) too_many;
  letter_added = letter_added;
  translate_of_two = no_file_of Translate (codes "p" ∷ codes "q" ∷ []) lp_of_two;
  option_of_translate = no_file_of Translate ((codes "--pivots=" ++ codes "5") ∷ codes "p" ∷ []) option_of_lp;
}
