-- The texts of a program's sections are lawful.
use Rattle.std.proofs.Common.{◌≡◌, ℕ, ◌<◌, ◌≤◌, Bool, true, false, cond, ◌||◌, List, Option, None, refl, arith, lit<}
use Rattle.std.specs.Prelude.{is_some, ◌==◌}
use Rattle.its_model.specs.model.Programs.{Program}
use Rattle.text_grammar.specs.text_core.Faults.{Among}
use Rattle.text_grammar.specs.text_core.Readers.{Fault}
use Rattle.text_grammar.specs.Folds.{refusals, state}
use Rattle.text_grammar.specs.Texts.{IsLawful}
use Rattle.section_text.specs.declared.kind.SectionKind.{SectionKind}
use Rattle.section_text.specs.declared.kind.SectionKind.TheVariants.{Syntax, NumberTooLarge, TooDeep, BadReference, Limit}
use Rattle.section_text.specs.declared.piece.Word.{Word}
use Rattle.section_text.specs.declared.piece.Word.TheVariants as words
use Rattle.section_text.specs.declared.piece.Sign.{Sign as SignOf}
use Rattle.section_text.specs.declared.piece.Sign.TheVariants as signs
use Rattle.section_text.specs.declared.piece.Sort.{Sort}
use Rattle.section_text.specs.declared.piece.Sort.TheVariants.{Name, Number, Sign, Wrong}
use Rattle.section_text.specs.Faults.{fault_of_piece, number_of}
use Rattle.section_text.specs.Grammar.{class_of_sort, class_of_word, class_of_sign}
use Rattle.section_text.specs.Reading.{section_fold, sections_of}
use Rattle.section_text.proofs.ReadableGrammar.{readable}

-- the class of each word, sign and number is below 23
word_classed : (w : Word) → class_of_word w < 23
word_classed words.Copy = lit< tt
word_classed words.Of = lit< tt
word_classed words.Facts = lit< tt
word_classed words.From = lit< tt
word_classed words.Rule = lit< tt
word_classed words.To = lit< tt
word_classed words.By = lit< tt
word_classed words.Never = lit< tt
word_classed words.If = lit< tt
word_classed words.Then = lit< tt
word_classed words.Else = lit< tt
word_classed words.Other = lit< tt

sign_classed : (s : SignOf) → class_of_sign s < 23
sign_classed signs.Blank = lit< tt
sign_classed signs.LineFeed = lit< tt
sign_classed signs.OpenSquare = lit< tt
sign_classed signs.CloseSquare = lit< tt
sign_classed signs.Open = lit< tt
sign_classed signs.Close = lit< tt
sign_classed signs.Semicolon = lit< tt
sign_classed signs.Minus = lit< tt

number_classed : (v : Bool) → cond v 12 13 < 23
number_classed true = lit< tt
number_classed false = lit< tt

sort_classed : (s : Sort) → class_of_sort s < 23
sort_classed (Name w) = word_classed w
sort_classed (Number n) = number_classed (n == 0)
sort_classed (Sign s) = sign_classed s
sort_classed Wrong = lit< tt

-- kinds with the same number are the same
differ : (a b : SectionKind) → number_of a ≡ number_of b → a ≡ b
differ Syntax Syntax h = refl
differ NumberTooLarge NumberTooLarge h = refl
differ TooDeep TooDeep h = refl
differ BadReference BadReference h = refl
differ Limit Limit h = refl
differ a b h = absurd (omega (arith, h))

-- the floor, whether there was a fault or not, is no further than the next token
floor_near : (v : Bool) (at : ℕ) → cond v at 0 ≤ at
floor_near true at = omega arith
floor_near false at = omega arith

-- after a fault no further one is shown; else none is shown before the first byte
shown_behind : (v : Bool) (o : Option SectionKind) (at place : ℕ) (y : Fault SectionKind)
    → Among y (refusals (cond v None o) place) → cond v at 0 ≤ y.at
shown_behind true o at place y a = absurd a
shown_behind false o at place y a = omega arith

-- the floor is unchanged without a fault, and rises to a fault's position
floor_stays : (v : Bool) (at : ℕ) → cond v at 0 ≤ cond v at 0
floor_stays v at = omega arith

floor_rises : (v w : Bool) (at behind : ℕ) → at ≤ behind → cond v at 0 ≤ cond (v || w) behind 0
floor_rises true w at behind h = h
floor_rises false w at behind h = omega arith

-- the texts are lawful
pub lawful : (q : Program) (text : List ℕ) → IsLawful (sections_of q text)
lawful q text = record {
  readable = readable;
  classed = λ p. sort_classed p.sort;
  differ = differ;
  floor_next = λ es at. floor_near (state (section_fold q text) es).broken at;
  floor_shown = λ es t y a. shown_behind (state (section_fold q text) es).broken
      (fault_of_piece q text t.piece (state (section_fold q text) es).draft) t.at t.at y a;
  floor_did = λ es m at. floor_stays (state (section_fold q text) es).broken at;
  floor_read = λ es t at some behind. floor_rises (state (section_fold q text) es).broken
      (is_some (fault_of_piece q text t.piece (state (section_fold q text) es).draft)) t.at at (omega (arith, some, behind));
}
