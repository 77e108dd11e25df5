-- Words are read in one way.
use Rattle.std.proofs.Common.{◌≡◌, ◌≢◌, ℕ, suc, Bool, true, false, cond, List, [], ◌∷◌, ◌++◌, Option, Some, None, refl}
use Rattle.std.proofs.Common.{sym, ◌∙◌, ap, codes, arith}
use Rattle.std.specs.Prelude.{nat_eq}
use Rattle.std.specs.List.{Contains}
use Rattle.std.specs.Cmp.Lexicographic.{pointwise}
use Rattle.std.specs.Str.Parse.{digits_value}
use Rattle.command_line.specs.declared.command.Command.{Command}
use Rattle.command_line.specs.declared.command.Command.TheVariants as commands
use Rattle.command_line.specs.Lines.{Word, Words, Item, OptionThenValue, OptionWithValue, Positional, AreItems}
use Rattle.command_line.specs.Lines.{words_of_items, values_of}
use Rattle.command_line.specs.Lines.{positionals_of, AreWordsWith}
use Rattle.command_line.specs.Requests.{Request, OfProgram, OfPair, OfNumber, Analyse, Prove, Facts, Best, Certify}
use Rattle.command_line.specs.Requests.{Check, Replay}
use Rattle.command_line.specs.Requests.{OfFile, While, Lasso, Generate, Selfrun, Lp, Translate, word_of, all_commands}
use Rattle.command_line.specs.Requests.{command_of, default_pivots, AllowsPivots, IsRequestWith, HasRequest}
use Rattle.command_line.specs.Laws.{WordsAreReadInOneWay}
use Rattle.command_line.proofs.Firsts.{end_first, option_then_value_first, option_with_value_first, plain_first}
use Rattle.command_line.proofs.Firsts.{none_first, gives_along}

-- the words of items give the values and positionals of the items
one : (items : List Item) (after_end : Option Words) → AreItems items → (values positionals : Words)
    → AreWordsWith (words_of_items items after_end) values positionals
    → (values ≡ values_of items) × (positionals ≡ positionals_of items after_end)
one [] None proper values positionals h = none_first values positionals h
one [] (Some after_end) proper values positionals h = end_first (codes "--") after_end values positionals refl h
one (OptionThenValue x ∷ items) after_end proper values positionals h =
    let g = option_then_value_first (codes "--pivots") (x ∷ words_of_items items after_end) values positionals refl h in
    let head : x ≡ g.value = cc (g.first) in
    let tail : words_of_items items after_end ≡ g.others = cc (g.first) in
    let rest = one items after_end proper.1 g.more positionals (gives_along _ _ _ _ _ _ tail refl refl g.gives) in
    (g.has_values ∙ (ap (λ (w : Word). w ∷ g.more) (sym head) ∙ ap (λ (ws : Words). x ∷ ws) rest.0), rest.1)
one (OptionWithValue x ∷ items) after_end proper values positionals h =
    let g = option_with_value_first (codes "--pivots=" ++ x) x (words_of_items items after_end) values positionals refl
    h in
    let rest = one items after_end proper.1 g.0 positionals g.2 in
    (g.3 ∙ ap (λ (ws : Words). x ∷ ws) rest.0, rest.1)
one (Positional x ∷ items) after_end proper values positionals h =
    let g = plain_first x (words_of_items items after_end) values positionals proper.0 h in
    let rest = one items after_end proper.1 values g.0 g.1 in
    (rest.0, g.2 ∙ ap (λ (ws : Words). x ∷ ws) rest.1)

-- the same words give the same values and the same positionals
pub one_line : (words v p w q : Words) → AreWordsWith words v p → AreWordsWith words w q → (v ≡ w) × (p ≡ q)
one_line words v p w q g h =
    let same = one g.items g.after_end g.proper w q (gives_along _ _ _ _ _ _ (sym g.spelled) refl refl h) in
    (g.has_values ∙ sym same.0, g.has_positionals ∙ sym same.1)

-- the first of these commands whose word this is
abbrev pub first_named : Word → List Command → Option Command
first_named word [] = None
first_named word (c ∷ cs) = cond (pointwise nat_eq word (word_of c)) (Some c) (first_named word cs)

-- each command is listed, and no command before it has its word
pub named_first : (c : Command) → first_named (word_of c) all_commands ≡ Some c
named_first (commands.OfProgram Analyse) = refl
named_first (commands.OfProgram Prove) = refl
named_first (commands.OfProgram Facts) = refl
named_first (commands.OfProgram Best) = refl
named_first (commands.OfProgram Certify) = refl
named_first (commands.OfPair Check) = refl
named_first (commands.OfPair Replay) = refl
named_first (commands.OfPair Lasso) = refl
named_first (commands.OfNumber Generate) = refl
named_first (commands.OfNumber Selfrun) = refl
named_first (commands.OfFile Lp) = refl
named_first (commands.OfFile Translate) = refl
named_first commands.While = refl

-- a command that is found in a list is in it
found_listed : (word : Word) (cs : List Command) (c : Command) → first_named word cs ≡ Some c → Contains cs c
found_listed word [] c e = cc
found_listed word (d ∷ cs) c e = go (pointwise nat_eq word (word_of d)) e (found_listed word cs c)
  where
    go : (b : Bool) → cond b (Some d) (first_named word cs) ≡ Some c → (first_named word cs ≡ Some c → Contains cs c)
        → Contains (d ∷ cs) c
    go true e rest = let same : d ≡ c = cc in (0, omega arith, same)
    go false e rest = let at = rest e in (suc at.0, omega (arith, at.1), at.2)

-- each command is in the list of all commands
pub command_listed : (c : Command) → Contains all_commands c
command_listed c = found_listed (word_of c) all_commands c (named_first c)

-- two commands with the same word are equal
pub one_command : (c d : Command) → word_of c ≡ word_of d → c ≡ d
one_command c d e =
    let same : Some c ≡ Some d = sym (named_first c)
    ∙ (ap (λ (w : Word). first_named w all_commands) e ∙ named_first d) in
    cc

-- a word that none of the listed commands has is that of no command
pub no_command : (word : Word) → first_named word all_commands ≡ None → (c : Command) → word ≢ word_of c
no_command word none c e =
    let some : None ≡ Some c = sym none ∙ (ap (λ (w : Word). first_named w all_commands) e ∙ named_first c) in
    cc

-- the first and the second of words, and how many pivots values of the option allow, if any
abbrev pub first_of : Words → Word
first_of [] = []
first_of (word ∷ words) = word

abbrev pub second_of : Words → Word
second_of [] = []
second_of (word ∷ words) = first_of words

abbrev pub pivots_by : Words → ℕ
pivots_by [] = default_pivots
pivots_by (value ∷ values) = digits_value 10 value

-- the request of a command with these values of the option and these positionals, if any
abbrev pub request_by : Command → Words → Words → Request
request_by (commands.OfProgram task) values positionals = OfProgram task (pivots_by values) (first_of positionals)
request_by (commands.OfPair task) values positionals = OfPair task (first_of positionals) (second_of positionals)
request_by (commands.OfNumber task) values positionals = OfNumber task (digits_value 10 (first_of positionals))
request_by (commands.OfFile task) values positionals = OfFile task (first_of positionals)
request_by commands.While values positionals = While (pivots_by values) (first_of positionals)

-- values allow no other number of pivots
one_number : (values : Words) (n : ℕ) → AllowsPivots values n → n ≡ pivots_by values
one_number [] n h = h
one_number (v ∷ []) n h = sym h.value
one_number (v ∷ w ∷ vs) n h = absurd h

-- a command has no other request with these values and positionals
pub one_by : (r : Request) (values positionals : Words) → IsRequestWith r values positionals
    → r ≡ request_by (command_of r) values positionals
one_by (OfProgram task n f) values positionals h =
    ap (λ (k : ℕ). OfProgram task k f) (one_number values n h.allowed)
    ∙ ap (λ (ws : Words). OfProgram task (pivots_by values) (first_of ws)) (sym h.one)
one_by (OfPair task f q) values positionals h = ap (λ (ws : Words). OfPair task (first_of ws) (second_of ws))
    (sym h.two)
one_by (OfNumber task n) values positionals h =
    ap (OfNumber task) (sym h.number.value) ∙ ap (λ (ws : Words). OfNumber task (digits_value 10 (first_of ws)))
    (sym h.one)
one_by (OfFile task f) values positionals h = ap (λ (ws : Words). OfFile task (first_of ws)) (sym h.one)
one_by (While n f) values positionals h =
    ap (λ (k : ℕ). While k f) (one_number values n h.allowed)
    ∙ ap (λ (ws : Words). While (pivots_by values) (first_of ws)) (sym h.one)

-- words have at most one request
one_request : (words : Words) (r q : Request) → HasRequest words r → HasRequest words q → r ≡ q
one_request words r q a b =
    let heads : word_of (command_of r) ≡ word_of (command_of q) = cc (a.command, b.command) in
    let others : a.others ≡ b.others = cc (a.command, b.command) in
    let commands_are : command_of r ≡ command_of q = one_command (command_of r) (command_of q) heads in
    let line = one_line b.others a.values a.positionals b.values b.positionals
    (gives_along _ _ _ _ _ _ (sym others) refl refl a.gives) b.gives in
    let first : r ≡ request_by (command_of r) a.values a.positionals = one_by r a.values a.positionals a.parts in
    let second : q ≡ request_by (command_of q) b.values b.positionals = one_by q b.values b.positionals b.parts in
    cc (first, second, commands_are, line.0, line.1)

-- words are read in one way, and have at most one request
pub read_in_one_way : WordsAreReadInOneWay
read_in_one_way = record { one_line = one_line; one_request = one_request }
