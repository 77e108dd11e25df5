-- Worked values of sections and refusals of small texts.
use Rattle.std.specs.Prelude.{◌≡◌, ℕ, zero, suc, List, [], ◌∷◌, map, length, codes, pos, negsuc, Option, Some, None}
use Rattle.text_grammar.specs.text_core.Tokens.{pieces}
use Rattle.text_grammar.specs.text_core.Reading.{Answer, Parsed, Refused, answer}
use Rattle.text_grammar.specs.Texts.{reader}
use Rattle.its_model.specs.model.Programs.{Program, Rule}
use Rattle.its_model.specs.linear_forms.Forms.{Form}
use Rattle.refined_programs.specs.Annotated.{To, Never, If, Section}
use Rattle.section_text.specs.declared.action.Role.TheVariants as roles
use Rattle.section_text.specs.declared.kind.SectionKind.{SectionKind}
use Rattle.section_text.specs.declared.kind.SectionKind.TheVariants.{Syntax, NumberTooLarge, TooDeep, BadReference, Limit}
use Rattle.section_text.specs.declared.piece.Word.TheVariants as words
use Rattle.section_text.specs.declared.piece.Sign.TheVariants as signs
use Rattle.section_text.specs.declared.piece.Sort.{Sort}
use Rattle.section_text.specs.declared.piece.Sort.TheVariants.{Name, Number, Sign, Wrong}
use Rattle.section_text.specs.Drafts.{Draft, InYes, begun}
use Rattle.section_text.specs.Faults.{fault_of_in}
use Rattle.section_text.specs.Grammar.{piece_of}
use Rattle.section_text.specs.Lexing.{tokens}
use Rattle.section_text.specs.Reading.{sections_of}

-- a rule that leads from one symbol to another and changes nothing
abbrev pub plain_rule : ℕ → ℕ → Rule
plain_rule source target = record {
  source = source;
  target = target;
  left = 1;
  free = 0;
  names = codes "A" ∷ [];
  updates = [];
  guard = [];
  cost = None;
}

-- a program with the symbols `a`, `b` and `c`, and three rules
abbrev pub three_rules : Program
three_rules = record {
  symbols = record { name = codes "a"; arity = 1 } ∷ record { name = codes "b"; arity = 1 }
      ∷ record { name = codes "c"; arity = 1 } ∷ [];
  start = 0;
  start_names = codes "A" ∷ [];
  rules = plain_rule 0 1 ∷ plain_rule 1 1 ∷ plain_rule 1 2 ∷ [];
}

-- the sorts of the pieces of bytes
abbrev pub cut : List ℕ → List Sort
cut bytes = map (λ p. p.sort) (pieces (tokens bytes))

-- the answer to reading bytes as a section of the program
abbrev pub answer_to : List ℕ → Answer Section SectionKind
answer_to bytes = answer (reader (sections_of three_rules bytes)) (length bytes) (tokens bytes)

-- worked values of how bytes are cut: into names, the longest ones, which may be words; numbers; and all other bytes
-- one by one
pub record BytesAreCut : Type 0 where
  pub line_words : cut (codes "copy of facts from rule") ≡ Name words.Copy ∷ Sign signs.Blank ∷ Name words.Of ∷ Sign signs.Blank
      ∷ Name words.Facts ∷ Sign signs.Blank ∷ Name words.From ∷ Sign signs.Blank ∷ Name words.Rule ∷ []
  pub case_words : cut (codes "to by never if then else") ≡ Name words.To ∷ Sign signs.Blank ∷ Name words.By
      ∷ Sign signs.Blank ∷ Name words.Never ∷ Sign signs.Blank ∷ Name words.If ∷ Sign signs.Blank ∷ Name words.Then
      ∷ Sign signs.Blank ∷ Name words.Else ∷ []
  pub names : cut (codes "copy.1 b.2") ≡ Name words.Other ∷ Sign signs.Blank ∷ Name words.Other ∷ []
  pub numbers : cut (codes "[0 -12]") ≡ Sign signs.OpenSquare ∷ Number 0 ∷ Sign signs.Blank ∷ Sign signs.Minus ∷ Number 12
      ∷ Sign signs.CloseSquare ∷ []
  pub brackets : cut (codes "(;)\n") ≡ Sign signs.Open ∷ Sign signs.Semicolon ∷ Sign signs.Close ∷ Sign signs.LineFeed ∷ []
  -- digits with a leading zero are wrong, and so are a byte over 127 and a tab
  pub leading_zero : cut (codes "01") ≡ Wrong ∷ []
  pub others : cut (9 ∷ 200 ∷ []) ≡ Wrong ∷ Wrong ∷ []
  -- a number over 2^56 counts as 2^56+1
  pub greatest : cut (codes "72057594037927936") ≡ Number 72057594037927936 ∷ []
  pub large : cut (codes "99999999999999999999") ≡ Number 72057594037927937 ∷ []

-- a form with one coefficient
abbrev pub form : ℕ → Form
form n = record { coefs = pos n ∷ []; constant = pos 0 }

-- small texts and the sections that they spell
pub record TextsAreRead : Type 0 where
  -- one copy without facts, and no branches
  pub one : answer_to (codes "copy a of a facts []\n")
      ≡ Parsed (record { copies = record { name = codes "a"; over = 0; facts = [] } ∷ []; branches = [] })
  -- two copies, one of which has a word as its name, and one two facts; and a branch with two ends
  pub two : answer_to (codes "copy a of a facts []\ncopy to of b facts [[1 -2]; [0]]\nfrom a rule 1 if [1 0] then (to to by [[1 2]; []]) else (never [3])\n")
      ≡ Parsed (record {
        copies = record { name = codes "a"; over = 0; facts = [] }
            ∷ record {
              name = codes "to";
              over = 1;
              facts = record { coefs = pos 1 ∷ []; constant = negsuc 1 } ∷ record { coefs = []; constant = pos 0 } ∷ [];
            } ∷ [];
        branches = record {
          source = 0;
          rule = 1;
          cases = If (form 1) (To 1 ((1 ∷ 2 ∷ []) ∷ [] ∷ [])) (Never (3 ∷ []));
        } ∷ [];
      })
  -- two branches, and cases within each case
  pub nested : answer_to (codes "copy a of a facts []\nfrom a rule 1 never []\nfrom a rule 2 if [1 0] then (if [2 0] then (never []) else (to a by [])) else (if [3 0] then (to a by []) else (never [1]))\n")
      ≡ Parsed (record {
        copies = record { name = codes "a"; over = 0; facts = [] } ∷ [];
        branches = record { source = 0; rule = 1; cases = Never [] }
            ∷ record {
              source = 0;
              rule = 2;
              cases = If (form 1) (If (form 2) (Never []) (To 0 [])) (If (form 3) (To 0 []) (Never (1 ∷ [])));
            } ∷ [];
      })

-- the refusal of a kind at a position
abbrev pub refused : SectionKind → ℕ → Answer Section SectionKind
refused kind at = Refused (record { kind = kind; at = at })

-- small texts that spell no section, and their first refusal
pub record TextsAreRefused : Type 0 where
  -- no line at all, a branch without a copy, and a line that ends too early are refused
  pub nothing : answer_to [] ≡ refused Syntax 0
  pub no_copy : answer_to (codes "from a rule 1 never []\n") ≡ refused Syntax 0
  pub early : answer_to (codes "copy a of a facts []") ≡ refused Syntax 20
  -- two blanks, an empty form, `-0`, a leading zero, and a copy after a branch are refused
  pub blanks : answer_to (codes "copy  a of a facts []\n") ≡ refused Syntax 5
  pub empty_form : answer_to (codes "copy a of a facts [[]]\n") ≡ refused Syntax 20
  pub minus_zero : answer_to (codes "copy a of a facts [[-0]]\n") ≡ refused Syntax 21
  pub zero_first : answer_to (codes "copy a of a facts [[01]]\n") ≡ refused Syntax 20
  pub copy_behind : answer_to (codes "copy a of a facts []\nfrom a rule 1 never []\ncopy b of b facts []\n") ≡ refused Syntax 44
  -- names that no symbol or no copy has, and the name of an earlier copy, are refused
  pub no_symbol : answer_to (codes "copy a of d facts []\n") ≡ refused BadReference 10
  pub same_name : answer_to (codes "copy a of a facts []\ncopy a of b facts []\n") ≡ refused BadReference 26
  pub no_source : answer_to (codes "copy x of a facts []\nfrom a rule 1 never []\n") ≡ refused BadReference 26
  pub no_target : answer_to (codes "copy a of a facts []\nfrom a rule 1 to b by []\n") ≡ refused BadReference 38
  -- rule 0, a rule number too great, and a number over 2^56, which isn't looked up, are refused; 2^56 itself isn't too
  -- large
  pub rule_zero : answer_to (codes "copy a of a facts []\nfrom a rule 0 never []\n") ≡ refused BadReference 33
  pub rule_four : answer_to (codes "copy a of a facts []\nfrom a rule 4 never []\n") ≡ refused BadReference 33
  pub large_rule : answer_to (codes "copy a of a facts []\nfrom a rule 72057594037927937 never []\n")
      ≡ refused NumberTooLarge 33
  pub large_multiplier : answer_to (codes "copy a of a facts []\nfrom a rule 1 never [72057594037927937]\n")
      ≡ refused NumberTooLarge 42
  pub large_constant : answer_to (codes "copy a of a facts [[-72057594037927937]]\n") ≡ refused NumberTooLarge 21
  pub greatest : answer_to (codes "copy a of a facts [[-72057594037927936]]\n") ≡ Parsed (record {
    copies = record {
      name = codes "a";
      over = 0;
      facts = record { coefs = []; constant = negsuc 72057594037927935 } ∷ [];
    } ∷ [];
    branches = [];
  })
  -- of two faults the first is reported
  pub first : answer_to (codes "copy a of d facts [\n") ≡ refused BadReference 10

-- a list of n equal elements
abbrev pub times : {X : Type 0} → ℕ → X → List X
times zero x = []
times (suc n) x = x ∷ times n x

-- states with this many open tests, copies or branches
abbrev pub within_tests : ℕ → Draft
within_tests n = record begun { tests = times n (InYes (form 1)) }

abbrev pub behind_copies : ℕ → Draft
behind_copies n = record begun { copies = times n (record { name = codes "a"; over = 0; facts = [] }) }

-- the fault of the name of a new copy with these bytes
abbrev pub fault_of : Draft → List ℕ → Option SectionKind
fault_of d name = fault_of_in roles.NewName three_rules name (record { sort = Name words.Other; at = 0; len = length name }) d

-- worked values of limits
pub record LimitsAreKept : Type 0 where
  -- cases at level 64 are read, and at level 65 refused
  pub level_64 : fault_of_in roles.CaseWord three_rules [] (piece_of (Name words.To)) (within_tests 63) ≡ None
  pub level_65 : fault_of_in roles.CaseWord three_rules [] (piece_of (Name words.To)) (within_tests 64) ≡ Some TooDeep
  -- copy 2,000 is read, and copy 2,001 refused
  pub copy_2000 : fault_of_in roles.CopyWord three_rules [] (piece_of (Name words.Copy)) (behind_copies 1999) ≡ None
  pub copy_2001 : fault_of_in roles.CopyWord three_rules [] (piece_of (Name words.Copy)) (behind_copies 2000) ≡ Some Limit
  -- a name of 256 bytes is read, and one of 257 refused; a name that an earlier copy has is a bad reference, even if it
  -- is too long
  pub name_256 : fault_of begun (times 256 97) ≡ None
  pub name_257 : fault_of begun (times 257 97) ≡ Some Limit
  pub old_name : fault_of (record begun { names = times 257 97 ∷ [] }) (times 257 97) ≡ Some BadReference

pub record WorkedSections : Type 0 where
  pub cuts : BytesAreCut
  pub texts : TextsAreRead
  pub refusals : TextsAreRefused
  pub limits : LimitsAreKept
