-- The texts of lemmas and claims, as they were worked out by hand; and that they are read as what they are the texts of.
use Rattle.std.specs.Prelude.{◌≡◌, ℕ, Bool, true, false, List, [], ◌∷◌, ◌++◌, codes, pos, negsuc, Some, None}
use Rattle.potential_nodes.specs.potentials.model.Programs.{Symbol, Program}
use Rattle.potential_nodes.specs.Certificates.{Summand, OneRow, TwoRows, ZeroRow}
use Rattle.potential_nodes.specs.Combinations.{Times, Least, Add, Among}
use Rattle.potential_nodes.specs.SignedNodes.{SignedLemma, Fall, Peak, Row, Combined, Sized, InPhases}
use Rattle.program_claims.specs.Claims.{Claim, ByOne, ByEach, OnTime, OnCost, OnTotal, OnAbove, OnBelow, OnSymbol}
use Rattle.signed_bounds.specs.Bounds.{Constant, PositivePart, SumOf, ProductOf, MaximumOf, MinimumOf, Quotient, Root}
use Rattle.signed_bounds.specs.Bounds.{PowerOf, NoParts, Part}
use Rattle.model.specs.Terms.{Literal}
use Rattle.text_grammar.specs.text_core.Reading.{Parsed}
use Rattle.potential_text.specs.Worked.{lemmas_of, claims_of_text, lemma_within, number}
use Rattle.potential_writer.specs.Lemmas.{lemma_lines}
use Rattle.potential_writer.specs.Claims.{claim_lines}

-- a program with two symbols
abbrev pub symbol : List ℕ → Symbol
symbol name = record { name = name; arity = 1 }

abbrev pub two_symbols : Program
two_symbols = record { symbols = symbol (codes "a") ∷ symbol (codes "b") ∷ []; start = 0; start_names = []; rules = [] }

-- a potential without moves, which pays 1
abbrev pub paying : SignedLemma
paying = record {
  node = Fall (record {
    potential = record { functions = record { symbol = 0; form = number 1 } ∷ []; den = 1; moves = [] };
    payments = record { rule = 1; amount = number 1; floor = []; positive = [] } ∷ [];
  });
  bound = PositivePart (number 1);
}

-- moves of both kinds, of which one cites a fact, and summands of each kind
abbrev pub covering : SignedLemma
covering = record {
  node = Peak (record {
    potential = record {
      functions = record {
        symbol = 1;
        form = record { coef = negsuc 0; vars = 0 ∷ [] } ∷ record { coef = pos 1; vars = 1 ∷ 1 ∷ [] } ∷ [];
      } ∷ [];
      den = 2;
      moves = record { rule = 1; keeps = true; gain = []; cited = None; certificate = [] }
          ∷ record {
            rule = 2;
            keeps = false;
            gain = number 3;
            cited = Some 4;
            certificate = OneRow 1 0 ∷ TwoRows 2 0 1 ∷ ZeroRow (negsuc 2) 0 1 2 ∷ ZeroRow (pos 4) 1 0 0 ∷ [];
          } ∷ [];
    };
    rule = 3;
    form = record { coef = pos 1; vars = 0 ∷ [] } ∷ [];
    floor = OneRow 4 4 ∷ [];
  });
  bound = Constant 0;
}

-- a polynomial that is at most a number, and one by sizes
abbrev pub plain_peaks : List SignedLemma
plain_peaks = lemma_within (Row (record { rule = 2; form = number 1; number = 9; certificate = [] })) 8
    ∷ lemma_within (Sized (record { rule = 1; form = number 2; cited = 3 ∷ 4 ∷ [] })) 5 ∷ []

-- facts that are composed of others
abbrev pub composed : List SignedLemma
composed = lemma_within (Combined (Times 1 (number 1) 2 3)) 4 ∷ lemma_within (Combined (Least 1 2)) 3
    ∷ lemma_within (Combined (Add 1 2)) 4
    ∷ lemma_within (Combined (Among (record { rule = 1; form = number 1 } ∷ record { rule = 2; form = [] } ∷ []) 3)) 5 ∷ []

-- two phases
abbrev pub in_phases : SignedLemma
in_phases = lemma_within (InPhases (record {
  firsts = record { symbol = 0; form = number 1 } ∷ [];
  seconds = record { symbol = 0; form = number 2 } ∷ [];
  den = 3;
  moves = record { rule = 1; first = []; second = OneRow 1 0 ∷ [] } ∷ [];
  counted = record { rule = 2; floor = OneRow 2 1 ∷ [] } ∷ [];
})) 4

-- each kind of bound
abbrev pub bounded : SignedLemma
bounded = record {
  node = Combined (Add 1 2);
  bound = SumOf (Part (Constant 1) (Part (ProductOf NoParts)
      (Part (MaximumOf (Part (Constant 2) (Part (Constant 3) NoParts)))
      (Part (MinimumOf (Constant 4) (Part (Constant 5) (Part (Constant 6) NoParts)))
      (Part (Quotient (Constant 7) 8) (Part (Root (Constant 9)) (Part (PowerOf 2 (PositivePart [])) NoParts)))))));
}

-- each kind of claim that has a text
abbrev pub claims : List Claim
claims = OnTime 2 (ByOne 5) ∷ OnCost 1 (ByEach (0 ∷ 3 ∷ []) (Constant 4)) ∷ OnTotal (ByOne 3)
    ∷ OnAbove 1 2 (1 ∷ []) (Constant 2) ∷ OnBelow 1 3 [] (Constant 0) ∷ []

-- the texts of these lemmas and claims
pub record LinesAreWritten : Type 0 where
  pub nothing : lemma_lines two_symbols [] ≡ []
  pub fall : lemma_lines two_symbols (paying ∷ [])
      ≡ codes "signed fall functions [a [1]] den 1 moves [] pays [1 [1] {} {}] to part [1]\n"
  pub moves : lemma_lines two_symbols (covering ∷ [])
      ≡ codes "signed peak 3 [1*1] {4 row 5} functions [b [-1*1; 1*2*2]] den 2 moves [1 keep [] {}; 2 reset [3] by 4 {1 row 1; 2 rows 1 2; -3 zero 1 2 by 3; 4 zero 2 1 by 1}] to 0\n"
  pub rows : lemma_lines two_symbols plain_peaks
      ≡ codes "signed row 2 [1] {} most 9 to 8\nsigned sized 1 [2] by [3 4] to 5\n"
  pub combined : lemma_lines two_symbols composed
      ≡ codes "signed times 1 [1] by 2 3 to 4\nsigned least 1 2 to 3\nsigned add 1 2 to 4\nsigned among [1 [1]; 2 []] by 3 to 5\n"
  pub phases : lemma_lines two_symbols (in_phases ∷ [])
      ≡ codes "signed phases functions [a [1]] functions [a [2]] den 3 moves [1 {} {1 row 1}] counts [2 {2 row 2}] to 4\n"
  pub bounds : lemma_lines two_symbols (bounded ∷ [])
      ≡ codes "signed add 1 2 to sum (1; product (); maximum (2; 3); minimum (4; 5; 6); quotient (7) by 8; root (9); power 2 to (part []))\n"
  pub each_claim : claim_lines claims
      ≡ codes "claim time 2 by 5\nclaim cost 1 by [0 3] to 4\nclaim total by 3\nclaim above 1.2 by [1] to 2\nclaim below 1.3 by [] to 0\n"
  -- a symbol that isn't there has no name, and a claim on a symbol no line
  pub absent : lemma_lines two_symbols (record {
    node = Fall (record {
      potential = record { functions = record { symbol = 2; form = [] } ∷ []; den = 1; moves = [] };
      payments = [];
    });
    bound = Constant 0;
  } ∷ []) ≡ codes "signed fall functions [ []] den 1 moves [] pays [] to 0\n"
  pub at_symbol : claim_lines (OnSymbol 0 (Literal (pos 1)) ∷ []) ≡ []

-- the texts of these lemmas and claims are read as them
pub record LinesAreReadBack : Type 0 where
  pub fall : lemmas_of (lemma_lines two_symbols (paying ∷ [])) ≡ Parsed (paying ∷ [])
  pub moves : lemmas_of (lemma_lines two_symbols (covering ∷ [])) ≡ Parsed (covering ∷ [])
  pub rows : lemmas_of (lemma_lines two_symbols plain_peaks) ≡ Parsed plain_peaks
  pub combined : lemmas_of (lemma_lines two_symbols composed) ≡ Parsed composed
  pub phases : lemmas_of (lemma_lines two_symbols (in_phases ∷ [])) ≡ Parsed (in_phases ∷ [])
  pub bounds : lemmas_of (lemma_lines two_symbols (bounded ∷ [])) ≡ Parsed (bounded ∷ [])
  pub each_claim : claims_of_text (claim_lines claims) ≡ Parsed claims

pub record WorkedTexts : Type 0 where
  pub written : LinesAreWritten
  pub read_back : LinesAreReadBack
