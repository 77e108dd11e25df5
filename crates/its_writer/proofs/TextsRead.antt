-- The canonical text of a program is read as the written form of its sections.
use Rattle.std.proofs.Common.{◌≡◌, ℕ, List, [], ◌∷◌, ◌++◌, refl, ap, sym, ◌∙◌}
use Rattle.std.specs.Prelude.{codes}
use Rattle.std.specs.List.{AllByRecursion}
use Rattle.its_text.specs.expr_text.model.Programs.{Name, Program}
use Rattle.its_text.specs.expr_text.text_core.Names.{IsName, continues_name}
use Rattle.its_text.specs.expr_text.text_core.Readers.{onto}
use Rattle.its_text.specs.expr_text.text_core.Tokens.{pieces}
use Rattle.its_text.proofs.expr_text.text_core.PrefixLaws.{Stops}
use Rattle.its_text.specs.Pieces.{Piece, word, open_bracket, close_bracket}
use Rattle.its_text.specs.Lexing.{Within, Outside, tokens_of}
use Rattle.its_text.specs.Written.{words_behind, pieces_behind, Goal, Start, Variables}
use Rattle.its_text.specs.Grammar.{HaveTargets, Writes}
use Rattle.its_text.specs.expr_text.model.Programs as plain
use Rattle.its_text.specs.Written.{WrittenRule}
use Rattle.its_writer.specs.Layout.{each_then, arrow_by}
use Rattle.its_writer.specs.Expressions.{name_at, name_then}
use Rattle.its_writer.specs.Texts.{symbol_names, variables_of, rule_then, canonical_text}
use Rattle.its_writer.proofs.CanonicalSections.{rule_written, rules_written, canonical_sections}
use Rattle.its_writer.proofs.Lexed.{lexed, moved, word_lexed}
use Rattle.its_writer.proofs.RulesRead.{IsWritableRule, rules_read}

-- names with blanks before them begin with no byte that continues a name
blanks_stop : (names : List Name) (rest : List ℕ) → Stops continues_name rest → Stops continues_name (each_then (arrow_by (codes " ") name_then) names rest)
blanks_stop [] rest stop = stop
blanks_stop (n ∷ names) rest stop = refl

-- names with blanks before them are read
words_read : (done names : List Name) (before : List Piece) (rest : List ℕ) → AllByRecursion IsName names → Stops continues_name rest
    → onto (words_behind done before) (lexed (Within 0) (each_then (arrow_by (codes " ") name_then) names rest)) ≡ onto (words_behind (onto names done) before) (lexed (Within 0) rest)
words_read done [] before rest is stop = refl
words_read done (n ∷ names) before rest is stop =
    let behind : List ℕ = each_then (arrow_by (codes " ") name_then) names rest in
    ap (onto (words_behind done before)) (moved (Within 0) 1 (n ++ behind) ∙ word_lexed 0 n behind is.0 (blanks_stop names rest stop))
    ∙ words_read (n ∷ done) names before rest is.1 stop

-- the text of the section of the variables
variables_begin : (names : List Name) (rules : List ℕ)
    → lexed (Within 1) (codes "))\n(VAR" ++ each_then (arrow_by (codes " ") name_then) names (codes ")\n(RULES\n" ++ rules))
    ≡ close_bracket ∷ close_bracket ∷ open_bracket ∷ word (codes "VAR") ∷ lexed (Within 0) (each_then (arrow_by (codes " ") name_then) names (codes ")\n(RULES\n" ++ rules))
variables_begin [] rules = ap (λ ps. close_bracket ∷ close_bracket ∷ open_bracket ∷ word (codes "VAR") ∷ ps) (moved (Within 0) 7 (codes ")\n(RULES\n" ++ rules))
variables_begin (n ∷ names) rules =
    ap (λ ps. close_bracket ∷ close_bracket ∷ open_bracket ∷ word (codes "VAR") ∷ ps)
    (moved (Within 0) 7 (each_then (arrow_by (codes " ") name_then) (n ∷ names) (codes ")\n(RULES\n" ++ rules)))

-- in the written forms of rules each rule has a target
targets_written : (symbols : List Name) (done : List WrittenRule) (rules : List plain.Rule) → HaveTargets done → HaveTargets (rules_written symbols done rules)
targets_written symbols done [] h = h
targets_written symbols done (r ∷ rules) h = targets_written symbols (rule_written symbols r ∷ done) rules (tt, h)

-- a writable program: the start symbol and all variables have names, and its rules are writable
pub record IsWritableProgram (p : Program) : Type 0 where
  pub start : IsName (name_at (symbol_names p) p.start)
  pub variables : AllByRecursion IsName (variables_of p)
  pub rules : AllByRecursion (IsWritableRule (symbol_names p)) p.rules

-- the pieces before the start symbol
abbrev before_start : List Piece
before_start = word (codes "FUNCTIONSYMBOLS") ∷ open_bracket ∷ word (codes "STARTTERM") ∷ open_bracket ∷ pieces_behind (Goal ∷ [])

-- the text before the start symbol is read as its pieces
text_begins : (rest : List ℕ) → lexed Outside (codes "(GOAL COMPLEXITY)\n(STARTTERM (FUNCTIONSYMBOLS " ++ rest) ≡ onto before_start (lexed (Within 1) rest)
text_begins rest = ap (onto before_start) (moved (Within 1) 46 rest)

-- the text between the variables and the rules is read as its pieces
rules_begin : (rest : List ℕ) → lexed (Within 0) (codes ")\n(RULES\n" ++ rest) ≡ close_bracket ∷ open_bracket ∷ word (codes "RULES") ∷ lexed (Within 0) rest
rules_begin rest = ap (λ ps. close_bracket ∷ open_bracket ∷ word (codes "RULES") ∷ ps) (moved (Within 0) 9 rest)

-- the canonical text of a writable program is read as the pieces of its canonical sections
canonical_lexed : (p : Program) → IsWritableProgram p → lexed Outside (canonical_text p) ≡ onto (pieces_behind (canonical_sections p)) []
canonical_lexed p w =
    let start : Name = name_at (symbol_names p) p.start in
    let rules : List ℕ = each_then (rule_then (symbol_names p)) p.rules (41 ∷ 10 ∷ []) in
    let variables : List ℕ = each_then (arrow_by (codes " ") name_then) (variables_of p) (codes ")\n(RULES\n" ++ rules) in
    let before_names : List Piece = word (codes "VAR") ∷ open_bracket ∷ pieces_behind (Start start ∷ Goal ∷ []) in
    let before_rules : List Piece = word (codes "RULES") ∷ open_bracket ∷ pieces_behind (Variables (onto (variables_of p) []) ∷ Start start ∷ Goal ∷ []) in
    let first : lexed Outside (canonical_text p) ≡ onto before_start (lexed (Within 1) (start ++ (codes "))\n(VAR" ++ variables))) = text_begins (start ++ (codes "))\n(VAR" ++ variables)) in
    let second : lexed (Within 1) (start ++ (codes "))\n(VAR" ++ variables)) ≡ word start ∷ lexed (Within 1) (codes "))\n(VAR" ++ variables) = word_lexed 1 start (codes "))\n(VAR" ++ variables) w.start refl in
    let third : onto (word start ∷ before_start) (lexed (Within 1) (codes "))\n(VAR" ++ variables)) ≡ onto before_names (lexed (Within 0) variables) = ap (onto (word start ∷ before_start)) (variables_begin (variables_of p) rules) in
    let fourth : onto before_names (lexed (Within 0) variables) ≡ onto (words_behind (onto (variables_of p) []) before_names) (lexed (Within 0) (codes ")\n(RULES\n" ++ rules)) =
    words_read [] (variables_of p) before_names (codes ")\n(RULES\n" ++ rules) w.variables refl in
    let fifth : onto (words_behind (onto (variables_of p) []) before_names) (lexed (Within 0) (codes ")\n(RULES\n" ++ rules)) ≡ onto before_rules (lexed (Within 0) rules) =
    ap (onto (words_behind (onto (variables_of p) []) before_names)) (rules_begin rules) in
    let sixth : onto before_rules (lexed (Within 0) rules) ≡ onto (pieces_behind (canonical_sections p)) [] = rules_read (symbol_names p) [] p.rules before_rules (41 ∷ 10 ∷ []) w.rules in
    first ∙ ap (onto before_start) second ∙ third ∙ fourth ∙ fifth ∙ sixth

pub canonical_read : (p : Program) → IsWritableProgram p → Writes (canonical_sections p) (pieces (tokens_of (canonical_text p)))
canonical_read p w = record { are = (targets_written (symbol_names p) [] p.rules tt, (tt, (tt, (tt, tt)))); pieces = sym (canonical_lexed p w) }
