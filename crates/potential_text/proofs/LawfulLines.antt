-- Lines are lawful texts.
use Rattle.std.proofs.Common.{◌≡◌, ℕ, ◌<◌, ◌≤◌, Bool, true, false, cond, ◌||◌, List, Option, None, refl, arith, lit<}
use Rattle.std.specs.Prelude.{is_some, ◌==◌}
use Rattle.its_model.specs.model.Programs.{Name as NameOf}
use Rattle.text_grammar.specs.text_core.Faults.{Among}
use Rattle.text_grammar.specs.text_core.Readers.{Fault}
use Rattle.text_grammar.specs.Folds.{refusals, state}
use Rattle.text_grammar.specs.Texts.{IsLawful}
use Rattle.potential_text.specs.declared.kind.LineKind.{LineKind}
use Rattle.potential_text.specs.declared.kind.LineKind.TheVariants.{Syntax, NumberTooLarge, TooDeep, BadReference, Limit}
use Rattle.potential_text.specs.declared.kind.Part.{Part}
use Rattle.potential_text.specs.declared.piece.Word.{Word}
use Rattle.potential_text.specs.declared.piece.Word.TheVariants as words
use Rattle.potential_text.specs.declared.piece.Sign.{Sign as SignOf}
use Rattle.potential_text.specs.declared.piece.Sign.TheVariants as signs
use Rattle.potential_text.specs.declared.piece.Sort.{Sort}
use Rattle.potential_text.specs.declared.piece.Sort.TheVariants.{Name, Number, Sign, Wrong}
use Rattle.potential_text.specs.Drafts.{Draft}
use Rattle.potential_text.specs.Faults.{fault_of_piece, number_of}
use Rattle.potential_text.specs.Grammar.{class_of_sort, class_of_word, class_of_sign}
use Rattle.potential_text.specs.Reading.{line_fold, lines_of}
use Rattle.potential_text.proofs.ReadableGrammar.{readable}

-- each word, each sign and each number has one of the classes
word_classed : (w : Word) → class_of_word w < 52
word_classed words.Signed = lit< tt
word_classed words.Fall = lit< tt
word_classed words.Peak = lit< tt
word_classed words.Row = lit< tt
word_classed words.Rows = lit< tt
word_classed words.Zero = lit< tt
word_classed words.Times = lit< tt
word_classed words.Least = lit< tt
word_classed words.Add = lit< tt
word_classed words.Among = lit< tt
word_classed words.Sized = lit< tt
word_classed words.Phases = lit< tt
word_classed words.Functions = lit< tt
word_classed words.Den = lit< tt
word_classed words.Moves = lit< tt
word_classed words.Pays = lit< tt
word_classed words.Counts = lit< tt
word_classed words.Keep = lit< tt
word_classed words.Reset = lit< tt
word_classed words.By = lit< tt
word_classed words.Most = lit< tt
word_classed words.To = lit< tt
word_classed words.Part = lit< tt
word_classed words.Sum = lit< tt
word_classed words.Product = lit< tt
word_classed words.Maximum = lit< tt
word_classed words.Minimum = lit< tt
word_classed words.Quotient = lit< tt
word_classed words.Root = lit< tt
word_classed words.Power = lit< tt
word_classed words.Claim = lit< tt
word_classed words.Time = lit< tt
word_classed words.Cost = lit< tt
word_classed words.Total = lit< tt
word_classed words.Above = lit< tt
word_classed words.Below = lit< tt
word_classed words.Other = lit< tt

sign_classed : (s : SignOf) → class_of_sign s < 52
sign_classed signs.Blank = lit< tt
sign_classed signs.LineFeed = lit< tt
sign_classed signs.OpenSquare = lit< tt
sign_classed signs.CloseSquare = lit< tt
sign_classed signs.OpenCurly = lit< tt
sign_classed signs.CloseCurly = lit< tt
sign_classed signs.Open = lit< tt
sign_classed signs.Close = lit< tt
sign_classed signs.Semicolon = lit< tt
sign_classed signs.Minus = lit< tt
sign_classed signs.Star = lit< tt
sign_classed signs.Dot = lit< tt

number_classed : (v : Bool) → cond v 37 38 < 52
number_classed true = lit< tt
number_classed false = lit< tt

sort_classed : (s : Sort) → class_of_sort s < 52
sort_classed (Name w) = word_classed w
sort_classed (Number n) = number_classed (n == 0)
sort_classed (Sign s) = sign_classed s
sort_classed Wrong = lit< tt

-- kinds with one number are one
differ : (a b : LineKind) → number_of a ≡ number_of b → a ≡ b
differ Syntax Syntax h = refl
differ NumberTooLarge NumberTooLarge h = refl
differ TooDeep TooDeep h = refl
differ BadReference BadReference h = refl
differ Limit Limit h = refl
differ a b h = absurd (omega (arith, h))

-- the floor, by whether there was a fault, is no further than the next token
floor_near : (v : Bool) (at : ℕ) → cond v at 0 ≤ at
floor_near true at = omega arith
floor_near false at = omega arith

-- after a refusal no fault is shown, and else none before the first byte
shown_behind : (v : Bool) (o : Option LineKind) (at place : ℕ) (y : Fault LineKind)
    → Among y (refusals (cond v None o) place) → cond v at 0 ≤ y.at
shown_behind true o at place y a = absurd a
shown_behind false o at place y a = omega arith

-- the floor stays, and rises with a refusal
floor_stays : (v : Bool) (at : ℕ) → cond v at 0 ≤ cond v at 0
floor_stays v at = omega arith

floor_rises : (v w : Bool) (at behind : ℕ) → at ≤ behind → cond v at 0 ≤ cond (v || w) behind 0
floor_rises true w at behind h = h
floor_rises false w at behind h = omega arith

-- the texts are lawful
pub lawful : {T : Type 0} (tree_in : Draft → T) (part : Part) (names : List NameOf) (text : List ℕ)
    → IsLawful (lines_of tree_in part names text)
lawful tree_in part names text = record {
  readable = readable;
  classed = λ p. sort_classed p.sort;
  differ = differ;
  floor_next = λ es at. floor_near (state (line_fold tree_in part names text) es).broken at;
  floor_shown = λ es t y a. shown_behind (state (line_fold tree_in part names text) es).broken
      (fault_of_piece part names text t.piece (state (line_fold tree_in part names text) es).draft) t.at t.at y a;
  floor_did = λ es m at. floor_stays (state (line_fold tree_in part names text) es).broken at;
  floor_read = λ es t at some behind. floor_rises (state (line_fold tree_in part names text) es).broken
      (is_some (fault_of_piece part names text t.piece (state (line_fold tree_in part names text) es).draft)) t.at at
      (omega (arith, some, behind));
}
