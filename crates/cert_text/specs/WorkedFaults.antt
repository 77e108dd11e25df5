-- Worked values of the answers to texts of small proof files.
use Rattle.std.specs.Prelude.{◌≡◌, ℕ, List, [], ◌∷◌, ◌++◌, length, codes, pos, Some, None}
use Rattle.its_model.specs.model.Programs.{Program}
use Rattle.its_model.specs.model.Bounds.{Constant, Input, SumOf, ProductOf, PowerOf}
use Rattle.cert_types.specs.cert_rules.Nodes.{Linear, Poly, EmptyCost, NeverCost, SideBoundCost}
use Rattle.cert_types.specs.cert_rules.Nodes.{Proof, Cite, Start, Empty, Unreached, Never, Spread, Cycle, Weaken}
use Rattle.cert_types.specs.cert_rules.Nodes.{CostBound}
use Rattle.cert_types.specs.cert_rules.Nodes.{NoProof, AndProof}
use Rattle.cert_types.specs.cert_rules.Gaps.{Gap, ProofFile}
use Rattle.text_grammar.specs.text_core.Reading.{Answer, Parsed, Refused, answer}
use Rattle.text_grammar.specs.Texts.{reader}
use Rattle.text_grammar.specs.Worked.{TextsAreRead}
use Rattle.cert_lexer.specs.declared.piece.Word.TheVariants as word
use Rattle.cert_lexer.specs.declared.kind.ProofKind.{ProofKind}
use Rattle.cert_lexer.specs.declared.kind.ProofKind.TheVariants.{Syntax, NumberTooLarge, TooDeep, BadReference}
use Rattle.cert_lexer.specs.declared.kind.ProofKind.TheVariants.{Limit}
use Rattle.cert_lexer.specs.Lexing.{tokens}
use Rattle.cert_text.specs.Remembered.{begun}
use Rattle.cert_text.specs.NumberFaults.{fault_of_line, fault_of_node}
use Rattle.cert_text.specs.Reading.{proofs_of}
use Rattle.cert_text.specs.Worked.{counting, form, member, only, rank_enter, size_enter, file_of_lemmas}
use Rattle.cert_text.specs.Worked.{lines_text, gap_with, gap_apart, spread_two, cycle_two, two_parts}

-- the answer to reading these bytes
abbrev pub ComesTo : List ℕ → Answer ProofFile ProofKind → Type 0
ComesTo bytes a = answer (reader (proofs_of counting)) (length bytes) (tokens counting bytes) ≡ a

-- this line is that of a lemma, in a file without costs; and in one with costs
abbrev pub IsLineOf : List ℕ → Proof → Type 0
IsLineOf line lemma =
    ComesTo (lines_text (codes "koat-proof 1" ∷ (codes "lemma " ++ line) ∷ codes "end" ∷ []))
    (Parsed (file_of_lemmas (lemma ∷ [])))

abbrev pub IsCostLineOf : List ℕ → Proof → Type 0
IsCostLineOf line lemma =
    ComesTo (lines_text (codes "koat-proof 2" ∷ (codes "lemma " ++ line) ∷ codes "end" ∷ []))
    (Parsed (file_of_lemmas (lemma ∷ [])))

-- bytes are refused
abbrev pub IsRefused : List ℕ → ProofKind → ℕ → Type 0
IsRefused bytes kind at = ComesTo bytes (Refused (record { kind = kind; at = at }))

-- the refusal of a file with these bytes in its first lemma; byte 0 of them is byte 19 of the file
abbrev pub IsRefusedLemma : List ℕ → ProofKind → ℕ → Type 0
IsRefusedLemma bytes kind at = IsRefused (codes "koat-proof 1\nlemma " ++ bytes) kind at

-- nodes of each kind, and gaps, are read
pub record NodesAreRead : Type 0 where
  pub cite : ComesTo (codes "koat-proof 1\nlemma start\nlemma cite 1\nend\n")
      (Parsed (file_of_lemmas (Start ∷ Cite 1 ∷ [])))
  pub empty : IsLineOf (codes "empty 2 [3 10]") (Empty 2 (3 ∷ 10 ∷ []))
  pub unreached : IsLineOf (codes "unreached 2 uses {}") (Unreached 2 NoProof)
  pub uses : IsLineOf (codes "unreached 2 uses {start; never (start)}")
      (Unreached 2 (AndProof Start (AndProof (Never Start) NoProof)))
  pub inside : IsLineOf (codes "unreached 2 uses {unreached 1 uses {start}; start}")
      (Unreached 2 (AndProof (Unreached 1 (only Start)) (AndProof Start NoProof)))
  pub rank : IsLineOf (codes "rank 1 set [1] den 1 forms [l0 [0 1]; l1 [0 0]] moves [[]] floor [] uses {start}")
      rank_enter
  pub spread : IsLineOf (codes "spread 1.1 up lin 1 [1 0] [] low lin 1 [-1 0] [] uses {start}") size_enter
  pub poly : IsLineOf (codes "spread 1.1 up poly low poly uses {}")
      (Spread (record {
        result_variable = record { rule = 1; place = 1 };
        local = record { up = Poly; low = Poly };
      }) NoProof)
  pub cycle : IsLineOf (codes "cycle [2.1 up lin 1 [1 0] [0] low lin 1 [0 0] [1]] uses {start}")
      (Cycle (member 2 (form (pos 1) (pos 0)) (0 ∷ []) (form (pos 0) (pos 0)) (1 ∷ []) ∷ []) (only Start))
  -- the elements of a list keep their order
  pub form_of_two : IsLineOf (codes "spread 1.1 up lin 2 [3 4 5] [6 7] low poly uses {}") spread_two
  pub two_members : IsLineOf (codes "cycle [1.1 up poly low poly; 2.1 up poly low poly] uses {}") cycle_two
  pub weaken : IsLineOf (codes "weaken (start) to 2^(2*A)")
      (Weaken Start (PowerOf 2 (ProductOf (two_parts (Constant 2) (Input 0)))))
  pub in_bracket : IsLineOf (codes "never (weaken (start) to 2^(A + 1))")
      (Never (Weaken Start (PowerOf 2 (SumOf (two_parts (Input 0) (Constant 1))))))
  pub side_bound : IsCostLineOf (codes "cost 1 lin 1 [1 0] [0] uses {start}")
      (CostBound (record { rule = 1; by = SideBoundCost (Linear 1 (form (pos 1) (pos 0)) (0 ∷ [])) }) (only Start))
  pub no_point : IsCostLineOf (codes "cost 1 empty [1] uses {}")
      (CostBound (record { rule = 1; by = EmptyCost (1 ∷ []) }) NoProof)
  pub never_run : IsCostLineOf (codes "never (cost 1 never uses {start})")
      (Never (CostBound (record { rule = 1; by = NeverCost }) (only Start)))
  pub gap : ComesTo
      (codes "koat-proof 1\ngap 2 set [2] shut [l0.1 l1.1] moves [[1 1]] floor [0 0] kept [[1 1]]\nend\n")
      (Parsed (record {
        lemmas = [];
        gaps = gap_with (record { symbol = 0; place = 1 } ∷ record { symbol = 1; place = 1 } ∷ []) ∷ [];
      }))
  pub gap_points : ComesTo
      (codes "koat-proof 1\ngap 2 set [2] shut [] moves [[1 2 3]; [4 5]] floor [6 7] kept [[8 9]]\nend\n")
      (Parsed (record { lemmas = []; gaps = gap_apart ∷ [] }))

-- the refusals of lemmas
pub record LemmasAreRefused : Type 0 where
  -- a lemma that cites itself is refused
  pub itself : IsRefusedLemma (codes "cite 1\n") BadReference 24
  pub lemma_zero : IsRefusedLemma (codes "cite 0\n") BadReference 24
  -- a citation of a lemma that doesn't exist is `BadReference` up to 2^56, and one more is too large
  pub largest_lemma : IsRefusedLemma (codes "cite 72057594037927936\n") BadReference 24
  pub large_lemma : IsRefusedLemma (codes "cite 72057594037927937\n") NumberTooLarge 24
  -- a node on costs is refused under version 1, and a file without one under version 2
  pub cost : IsRefusedLemma (codes "cost 1") Syntax 19
  pub no_cost : IsRefused (codes "koat-proof 2\nend\n") Syntax 13
  pub unpaid : IsRefused (codes "koat-proof 2\nlemma start\nend\n") Syntax 25
  -- rules and places that don't exist are refused; a number that is too large is reported before that
  pub rule_zero : IsRefusedLemma (codes "unreached 0 uses") BadReference 29
  pub third_rule : IsRefusedLemma (codes "unreached 3 uses") BadReference 29
  pub large_rule : IsRefusedLemma (codes "unreached 72057594037927937 uses") NumberTooLarge 29
  pub in_set : IsRefusedLemma (codes "rank 1 set [3]") BadReference 31
  pub place_zero : IsRefusedLemma (codes "spread 1.0 up") BadReference 28
  pub second_place : IsRefusedLemma (codes "spread 1.2 up") BadReference 28
  pub large_place : IsRefusedLemma (codes "spread 1.72057594037927937 up") NumberTooLarge 28
  pub symbol : IsRefusedLemma (codes "rank 1 set [1] den 1 forms [l9 [0]]") BadReference 47
  -- 2^56 is accepted, with a sign or without, and one more isn't
  pub largest : IsRefusedLemma (codes "empty 1 [72057594037927936") Syntax 45
  pub too_large : IsRefusedLemma (codes "empty 1 [72057594037927937") NumberTooLarge 28
  pub too_small : IsRefusedLemma (codes "spread 1.1 up lin 1 [-72057594037927937") NumberTooLarge 41
  -- of a reference to nothing and a later piece that can't follow the first is reported
  pub first_counts : IsRefusedLemma (codes "unreached 3 using") BadReference 29
  -- a node at level 65 is too deep, but `cost` under version 1 is reported before
  pub deepest : fault_of_node (record begun { levels = 64 }) word.Start ≡ None
  pub too_deep : fault_of_node (record begun { levels = 65 }) word.Start ≡ Some TooDeep
  pub cost_first : fault_of_node (record begun { levels = 65 }) word.Cost ≡ Some Syntax
  -- the 100,000th lemma and the 1,000th gap are read, and no further one
  pub last_lemma : (lemmas : List Proof) → length lemmas ≡ 99999
      → fault_of_line (record begun { lemmas = lemmas }) word.Lemma ≡ None
  pub lemma_behind : (lemmas : List Proof) → length lemmas ≡ 100000
      → fault_of_line (record begun { lemmas = lemmas }) word.Lemma ≡ Some Limit
  pub last_gap : (gaps : List Gap) → length gaps ≡ 999
      → fault_of_line (record begun { gaps = gaps }) word.Gap ≡ None
  pub gap_behind : (gaps : List Gap) → length gaps ≡ 1000
      → fault_of_line (record begun { gaps = gaps }) word.Gap ≡ Some Limit

-- the refusals of bounds; byte 0 of them is byte 37 of the file
pub record BoundsAreRefused : Type 0 where
  pub unlisted : IsRefusedLemma (codes "weaken (start) to B\n") BadReference 37
  pub before_bracket : IsRefusedLemma (codes "weaken (start) to B)") BadReference 37
  pub bracket : IsRefusedLemma (codes "weaken (start) to A)") Syntax 38
  pub twice : IsRefusedLemma (codes "weaken (start) to A*A\n") Syntax 39
  pub open_end : IsRefusedLemma (codes "weaken (start) to 2^\n") Syntax 39
  pub small_base : IsRefusedLemma (codes "weaken (start) to 1^A\n") Syntax 37
  pub large : IsRefusedLemma (codes "weaken (start) to 170141183460469231731687303715884105728\n") NumberTooLarge 37
  pub text_ends : IsRefusedLemma (codes "weaken (start) to A") Syntax 38
  pub unlisted_at_end : IsRefusedLemma (codes "weaken (start) to A + B") BadReference 41
  -- the positions of faults count bytes, of which pieces can have several
  pub behind_ten : IsRefusedLemma (codes "weaken (start) to 10*B + 10\n") BadReference 40

-- the refusals of gaps, whose numbers are at most 2^45; the first entry of a list of shut places begins at byte 33
pub record GapsAreRefused : Type 0 where
  pub rule : IsRefused (codes "koat-proof 1\ngap 3 ") BadReference 17
  pub large_rule : IsRefused (codes "koat-proof 1\ngap 35184372088833 ") NumberTooLarge 17
  pub symbol : IsRefused (codes "koat-proof 1\ngap 2 set [2] shut [l9.1]") BadReference 33
  pub symbol_first : IsRefused (codes "koat-proof 1\ngap 2 set [2] shut [l9.01]") BadReference 33
  pub name_alone : IsRefused (codes "koat-proof 1\ngap 2 set [2] shut [l0.x]") BadReference 33
  pub no_dot : IsRefused (codes "koat-proof 1\ngap 2 set [2] shut [l0]") Syntax 35
  pub no_number : IsRefused (codes "koat-proof 1\ngap 2 set [2] shut [l0.]") Syntax 36
  pub leading_zero : IsRefused (codes "koat-proof 1\ngap 2 set [2] shut [l0.01]") Syntax 36
  pub place_zero : IsRefused (codes "koat-proof 1\ngap 2 set [2] shut [l0.0]") BadReference 36
  pub second_place : IsRefused (codes "koat-proof 1\ngap 2 set [2] shut [l0.2]") BadReference 36
  pub too_large : IsRefused (codes "koat-proof 1\ngap 2 set [2] shut [] moves [[35184372088833") NumberTooLarge 43
  pub largest : IsRefused (codes "koat-proof 1\ngap 2 set [2] shut [] moves [[35184372088832") Syntax 57
  pub no_denominator : IsRefused (codes "koat-proof 1\ngap 2 set [2] shut [] moves [[1 -1]") Syntax 47

-- all worked answers
pub record FilesAreWorkedOut : Type 0 where
  pub nodes : NodesAreRead
  pub lemmas : LemmasAreRefused
  pub bounds : BoundsAreRefused
  pub gaps : GapsAreRefused

-- the reader of the proof files of each program satisfies the laws of readers: each text has one answer, the file or
-- the first refusal, and a file is accepted exactly if the grammar derives its text and its tokens have no fault
pub record ProofTextsAreRead : Type 0 where
  pub each : (p : Program) → TextsAreRead (proofs_of p)
