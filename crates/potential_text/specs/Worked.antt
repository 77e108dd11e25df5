-- Lines and refusals of small texts, as they were worked out by hand.
use Rattle.std.specs.Prelude.{◌≡◌, ℕ, zero, suc, Bool, true, false, List, [], ◌∷◌, map, length, codes, pos, negsuc, Option}
use Rattle.std.specs.Prelude.{Some, None}
use Rattle.text_grammar.specs.text_core.Tokens.{pieces}
use Rattle.text_grammar.specs.text_core.Reading.{Answer, Parsed, Refused, answer}
use Rattle.text_grammar.specs.Texts.{reader}
use Rattle.its_model.specs.model.Programs.{Name as NameOf}
use Rattle.poly_terms.specs.model.Polynomials.{Polynomial}
use Rattle.signed_bounds.specs.Bounds.{Constant, PositivePart, SumOf, ProductOf, MaximumOf, MinimumOf, Quotient, Root, PowerOf}
use Rattle.signed_bounds.specs.Bounds.{NoParts, Part}
use Rattle.potential_types.specs.potential_nodes.Certificates.{OneRow, TwoRows, ZeroRow}
use Rattle.potential_types.specs.potential_nodes.Combinations.{Times, Least, Add, Among}
use Rattle.potential_types.specs.potential_nodes.SignedNodes.{SignedNode, SignedLemma, Fall, Peak, Row, Combined, Sized, InPhases}
use Rattle.claim_types.specs.program_claims.Claims.{Claim, ByOne, ByEach, OnTime, OnCost, OnTotal, OnAbove, OnBelow}
use Rattle.potential_text.specs.declared.action.Field.TheVariants as fields
use Rattle.potential_text.specs.declared.action.Role.TheVariants as roles
use Rattle.potential_text.specs.declared.action.Opener.TheVariants as kinds
use Rattle.potential_text.specs.declared.kind.LineKind.{LineKind}
use Rattle.potential_text.specs.declared.kind.LineKind.TheVariants.{Syntax, NumberTooLarge, TooDeep, BadReference, Limit}
use Rattle.potential_text.specs.declared.kind.Part.TheVariants.{Lemmas}
use Rattle.potential_text.specs.declared.piece.Word.TheVariants as words
use Rattle.potential_text.specs.declared.piece.Sign.TheVariants as signs
use Rattle.potential_text.specs.declared.piece.Sort.{Sort}
use Rattle.potential_text.specs.declared.piece.Sort.TheVariants.{Name, Number, Sign, Wrong}
use Rattle.potential_text.specs.Numbers.{no_numbers}
use Rattle.potential_text.specs.Bounds.{no_parts}
use Rattle.potential_text.specs.Drafts.{Draft, begun}
use Rattle.potential_text.specs.Faults.{fault_of_piece}
use Rattle.potential_text.specs.Grammar.{piece_of}
use Rattle.potential_text.specs.Lexing.{tokens}
use Rattle.potential_text.specs.Reading.{lemma_texts, claim_texts}

-- the names of two symbols
abbrev pub two_names : List NameOf
two_names = codes "a" ∷ codes "b" ∷ []

-- the sorts of the pieces of bytes
abbrev pub cut : List ℕ → List Sort
cut bytes = map (λ p. p.sort) (pieces (tokens bytes))

-- the answer to bytes as lines of lemmas over these symbols, and as lines of claims
abbrev pub lemmas_of : List ℕ → Answer (List SignedLemma) LineKind
lemmas_of bytes = answer (reader (lemma_texts two_names bytes)) (length bytes) (tokens bytes)

abbrev pub claims_of_text : List ℕ → Answer (List Claim) LineKind
claims_of_text bytes = answer (reader (claim_texts bytes)) (length bytes) (tokens bytes)

-- how bytes are cut: into names, the longest ones, which may be words; numbers; and all other bytes one by one
pub record BytesAreCut : Type 0 where
  pub line_words : cut (codes "signed fall peak row rows zero times least add among sized phases")
      ≡ Name words.Signed ∷ Sign signs.Blank ∷ Name words.Fall ∷ Sign signs.Blank ∷ Name words.Peak
      ∷ Sign signs.Blank ∷ Name words.Row ∷ Sign signs.Blank ∷ Name words.Rows ∷ Sign signs.Blank
      ∷ Name words.Zero ∷ Sign signs.Blank ∷ Name words.Times ∷ Sign signs.Blank ∷ Name words.Least
      ∷ Sign signs.Blank ∷ Name words.Add ∷ Sign signs.Blank ∷ Name words.Among ∷ Sign signs.Blank
      ∷ Name words.Sized ∷ Sign signs.Blank ∷ Name words.Phases ∷ []
  pub part_words : cut (codes "functions den moves pays counts keep reset by most to")
      ≡ Name words.Functions ∷ Sign signs.Blank ∷ Name words.Den ∷ Sign signs.Blank ∷ Name words.Moves
      ∷ Sign signs.Blank ∷ Name words.Pays ∷ Sign signs.Blank ∷ Name words.Counts ∷ Sign signs.Blank
      ∷ Name words.Keep ∷ Sign signs.Blank ∷ Name words.Reset ∷ Sign signs.Blank ∷ Name words.By
      ∷ Sign signs.Blank ∷ Name words.Most ∷ Sign signs.Blank ∷ Name words.To ∷ []
  pub bound_words : cut (codes "part sum product maximum minimum quotient root power")
      ≡ Name words.Part ∷ Sign signs.Blank ∷ Name words.Sum ∷ Sign signs.Blank ∷ Name words.Product
      ∷ Sign signs.Blank ∷ Name words.Maximum ∷ Sign signs.Blank ∷ Name words.Minimum ∷ Sign signs.Blank
      ∷ Name words.Quotient ∷ Sign signs.Blank ∷ Name words.Root ∷ Sign signs.Blank ∷ Name words.Power ∷ []
  pub claim_words : cut (codes "claim time cost total above below")
      ≡ Name words.Claim ∷ Sign signs.Blank ∷ Name words.Time ∷ Sign signs.Blank ∷ Name words.Cost
      ∷ Sign signs.Blank ∷ Name words.Total ∷ Sign signs.Blank ∷ Name words.Above ∷ Sign signs.Blank
      ∷ Name words.Below ∷ []
  pub names : cut (codes "fall.1 b' row_")
      ≡ Name words.Other ∷ Sign signs.Blank ∷ Name words.Other ∷ Sign signs.Blank ∷ Name words.Other ∷ []
  pub numbers : cut (codes "-10*2 1.2")
      ≡ Sign signs.Minus ∷ Number 10 ∷ Sign signs.Star ∷ Number 2 ∷ Sign signs.Blank ∷ Number 1 ∷ Sign signs.Dot
      ∷ Number 2 ∷ []
  pub brackets : cut (codes "[](){};\n")
      ≡ Sign signs.OpenSquare ∷ Sign signs.CloseSquare ∷ Sign signs.Open ∷ Sign signs.Close
      ∷ Sign signs.OpenCurly ∷ Sign signs.CloseCurly ∷ Sign signs.Semicolon ∷ Sign signs.LineFeed ∷ []
  -- digits with a leading zero are no number, and a byte over 127 or a tab is no blank
  pub leading_zero : cut (codes "01")
      ≡ Wrong ∷ []
  pub others : cut (9 ∷ 200 ∷ []) ≡ Wrong ∷ Wrong ∷ []
  -- a number over 2^127-1 counts as 2^127
  pub large : cut (codes "9999999999999999999999999999999999999999")
      ≡ Number 170141183460469231731687303715884105728 ∷ []

-- the polynomial that is a number, and a lemma whose bound is one
abbrev pub number : ℕ → Polynomial
number n = record { coef = pos n; vars = [] } ∷ []

abbrev pub lemma_within : SignedNode → ℕ → SignedLemma
lemma_within node n = record { node = node; bound = Constant n }

-- texts, and the lemmas and the claims that they spell
pub record TextsAreRead : Type 0 where
  -- no line at all
  pub none : lemmas_of []
      ≡ Parsed ([])
  -- a potential without moves, which pays 1
  pub fall : lemmas_of (codes "signed fall functions [a [1]] den 1 moves [] pays [1 [1] {} {}] to part [1]\n")
      ≡ Parsed (record {
        node = Fall (record {
          potential = record { functions = record { symbol = 0; form = number 1 } ∷ []; den = 1; moves = [] };
          payments = record { rule = 1; amount = number 1; floor = []; positive = [] } ∷ [];
        });
        bound = PositivePart (number 1);
      } ∷ [])
  -- moves of both kinds, one of which cites a fact, and summands of each kind
  pub moves : lemmas_of (codes "signed peak 3 [1*1] {4 row 5} functions [b [-1*1; 1*2*2]] den 2 moves [1 keep [] {}; 2 reset [3] by 4 {1 row 1; 2 rows 1 2; -3 zero 1 2 by 3; 4 zero 2 1 by 1}] to 0\n")
      ≡ Parsed (record {
        node = Peak (record {
          potential = record {
            functions = record {
              symbol = 1;
              form = record { coef = negsuc 0; vars = 0 ∷ [] } ∷ record { coef = pos 1; vars = 1 ∷ 1 ∷ [] } ∷ [];
            } ∷ [];
            den = 2;
            moves = record { rule = 1; keeps = true; gain = []; cited = None; certificate = [] }
                ∷ record {
                  rule = 2;
                  keeps = false;
                  gain = number 3;
                  cited = Some 4;
                  certificate = OneRow 1 0 ∷ TwoRows 2 0 1 ∷ ZeroRow (negsuc 2) 0 1 2 ∷ ZeroRow (pos 4) 1 0 0 ∷ [];
                } ∷ [];
          };
          rule = 3;
          form = record { coef = pos 1; vars = 0 ∷ [] } ∷ [];
          floor = OneRow 4 4 ∷ [];
        });
        bound = Constant 0;
      } ∷ [])
  -- a polynomial that is at most a number, and one by sizes
  pub rows : lemmas_of (codes "signed row 2 [1] {} most 9 to 8\nsigned sized 1 [2] by [3 4] to 5\n")
      ≡ Parsed (lemma_within (Row (record { rule = 2; form = number 1; number = 9; certificate = [] })) 8
      ∷ lemma_within (Sized (record { rule = 1; form = number 2; cited = 3 ∷ 4 ∷ [] })) 5 ∷ [])
  -- facts that are composed of others
  pub combined : lemmas_of (codes "signed times 1 [1] by 2 3 to 4\nsigned least 1 2 to 3\nsigned add 1 2 to 4\nsigned among [1 [1]; 2 []] by 3 to 5\n")
      ≡ Parsed (lemma_within (Combined (Times 1 (number 1) 2 3)) 4 ∷ lemma_within (Combined (Least 1 2)) 3
      ∷ lemma_within (Combined (Add 1 2)) 4
      ∷ lemma_within (Combined (Among (record { rule = 1; form = number 1 } ∷ record { rule = 2; form = [] } ∷ []) 3)) 5 ∷ [])
  -- two phases
  pub phases : lemmas_of (codes "signed phases functions [a [1]] functions [a [2]] den 3 moves [1 {} {1 row 1}] counts [2 {2 row 2}] to 4\n")
      ≡ Parsed (lemma_within (InPhases (record {
        firsts = record { symbol = 0; form = number 1 } ∷ [];
        seconds = record { symbol = 0; form = number 2 } ∷ [];
        den = 3;
        moves = record { rule = 1; first = []; second = OneRow 1 0 ∷ [] } ∷ [];
        counted = record { rule = 2; floor = OneRow 2 1 ∷ [] } ∷ [];
      })) 4 ∷ [])
  -- each kind of bound
  pub bounds : lemmas_of (codes "signed add 1 2 to sum (1; product (); maximum (2; 3); minimum (4; 5; 6); quotient (7) by 8; root (9); power 2 to (part []))\n")
      ≡ Parsed (record {
        node = Combined (Add 1 2);
        bound = SumOf (Part (Constant 1) (Part (ProductOf NoParts)
            (Part (MaximumOf (Part (Constant 2) (Part (Constant 3) NoParts)))
            (Part (MinimumOf (Constant 4) (Part (Constant 5) (Part (Constant 6) NoParts)))
            (Part (Quotient (Constant 7) 8) (Part (Root (Constant 9)) (Part (PowerOf 2 (PositivePart [])) NoParts)))))));
      } ∷ [])
  -- each kind of claim, on sums by one fact or by one for each charge
  pub claims : claims_of_text (codes "claim time 2 by 5\nclaim cost 1 by [0 3] to 4\nclaim total by 3\nclaim above 1.2 by [1] to 2\nclaim below 1.3 by [] to 0\n")
      ≡ Parsed (OnTime 2 (ByOne 5) ∷ OnCost 1 (ByEach (0 ∷ 3 ∷ []) (Constant 4)) ∷ OnTotal (ByOne 3)
      ∷ OnAbove 1 2 (1 ∷ []) (Constant 2) ∷ OnBelow 1 3 [] (Constant 0) ∷ [])
  -- no claim
  pub no_claim : claims_of_text []
      ≡ Parsed ([])
  -- the greatest numbers that there may be
  pub greatest : lemmas_of (codes "signed row 4294967295 [-72057594037927936] {} most 72057594037927936 to quotient (170141183460469231731687303715884105727) by 170141183460469231731687303715884105727\n")
      ≡ Parsed (record {
        node = Row (record {
          rule = 4294967295;
          form = record { coef = negsuc 72057594037927935; vars = [] } ∷ [];
          number = 72057594037927936;
          certificate = [];
        });
        bound = Quotient (Constant 170141183460469231731687303715884105727) 170141183460469231731687303715884105727;
      } ∷ [])

-- the refusal of a kind at a position
abbrev pub refused : {T : Type 0} → LineKind → ℕ → Answer T LineKind
refused kind at = Refused (record { kind = kind; at = at })

-- bytes that are no lines, and their first refusal
pub record TextsAreRefused : Type 0 where
  -- a line that ends too early, two blanks, another word, and lines of the other part
  pub early : lemmas_of (codes "signed add 1 2 to 2") ≡ refused Syntax 19
  pub blanks : lemmas_of (codes "signed add  1 2 to 2\n") ≡ refused Syntax 11
  pub word : lemmas_of (codes "lemma add 1 2 to 2\n") ≡ refused Syntax 0
  pub claim_line : lemmas_of (codes "signed add 1 2 to 2\nclaim total by 3\n") ≡ refused Syntax 20
  pub signed_line : claims_of_text (codes "signed add 1 2 to 2\n") ≡ refused Syntax 0
  -- `-0`, a leading zero, a negative bound, a minimum of nothing, and a negative multiple of a row
  pub minus_zero : lemmas_of (codes "signed row 1 [-0] {} most 1 to 1\n") ≡ refused Syntax 15
  pub zero_first : lemmas_of (codes "signed add 01 2 to 2\n") ≡ refused Syntax 11
  pub negative : lemmas_of (codes "signed add 1 2 to -1\n") ≡ refused Syntax 18
  pub no_minimum : lemmas_of (codes "signed add 1 2 to minimum ()\n") ≡ refused Syntax 27
  pub negative_row : lemmas_of (codes "signed row 1 [] {-1 row 1} most 1 to 1\n") ≡ refused Syntax 20
  -- a name that no symbol has, and the number 0 of a row and of a variable
  pub no_symbol : lemmas_of (codes "signed fall functions [c [1]] den 1 moves [] pays [] to 1\n")
      ≡ refused BadReference 23
  pub row_zero : lemmas_of (codes "signed row 1 [] {1 row 0} most 1 to 1\n") ≡ refused BadReference 23
  pub second_row_zero : lemmas_of (codes "signed row 1 [] {1 rows 1 0} most 1 to 1\n") ≡ refused BadReference 26
  pub variable_zero : lemmas_of (codes "signed row 1 [1*0] {} most 1 to 1\n") ≡ refused BadReference 16
  -- numbers over their limits: a rule, a place, a fact, a coefficient, a constant, a divisor and a base
  pub large_rule : lemmas_of (codes "signed row 4294967296 [] {} most 1 to 1\n") ≡ refused NumberTooLarge 11
  pub large_place : claims_of_text (codes "claim above 1.4294967296 by [] to 1\n") ≡ refused NumberTooLarge 14
  pub large_fact : claims_of_text (codes "claim above 1.1 by [4294967296] to 1\n") ≡ refused NumberTooLarge 20
  pub large_coefficient : lemmas_of (codes "signed row 1 [-72057594037927937] {} most 1 to 1\n")
      ≡ refused NumberTooLarge 15
  pub large_constant : lemmas_of (codes "signed add 1 2 to 170141183460469231731687303715884105728\n")
      ≡ refused NumberTooLarge 18
  pub large_divisor : lemmas_of (codes "signed add 1 2 to quotient (1) by 170141183460469231731687303715884105728\n")
      ≡ refused NumberTooLarge 34
  pub large_base : lemmas_of (codes "signed add 1 2 to power 18446744073709551616 to (1)\n") ≡ refused NumberTooLarge 24
  -- of two faults the first
  pub first : lemmas_of (codes "signed fall functions [c [1*0]] den\n") ≡ refused BadReference 23

-- so many times the same
abbrev pub times : {X : Type 0} → ℕ → X → List X
times zero x = []
times (suc n) x = x ∷ times n x

-- what has been made within so many bounds, and of a bound with so many nodes, where the next piece begins a bound
abbrev pub within_bounds : ℕ → Draft
within_bounds n = record begun {
  role = roles.BoundWord;
  bound = record no_parts { opened = times n (record { kind = kinds.Sum; base = 0; before = [] }) };
}

abbrev pub behind_nodes : Bool → ℕ → Draft
behind_nodes bounding n =
    record begun { role = roles.Number fields.Size; numbers = record no_numbers { bounding = bounding; nodes = n } }

-- the fault of a piece behind what has been made
abbrev pub fault_behind : Draft → Sort → Option LineKind
fault_behind d sort = fault_of_piece Lemmas two_names [] (piece_of sort) d

-- which limits are kept
pub record LimitsAreKept : Type 0 where
  -- a part of a bound at level 200, and at level 201
  pub level_200 : fault_behind (within_bounds 199) (Name words.Root) ≡ None
  pub level_201 : fault_behind (within_bounds 200) (Name words.Root) ≡ Some TooDeep
  -- node 4,096 of a bound, and node 4,097; outside of bounds nothing is counted
  pub node_4096 : fault_behind (behind_nodes true 4095) (Number 1) ≡ None
  pub node_4097 : fault_behind (behind_nodes true 4096) (Number 1) ≡ Some Limit
  pub outside : fault_behind (behind_nodes false 4096) (Number 1) ≡ None

pub record WorkedLines : Type 0 where
  pub cuts : BytesAreCut
  pub texts : TextsAreRead
  pub refusals : TextsAreRefused
  pub limits : LimitsAreKept
