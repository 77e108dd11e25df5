-- The grammar of proof files can be read: the test holds for each class of pieces, and so as a whole.
use Rattle.std.proofs.Common.{◌≡◌, ℕ, true, refl}
use Rattle.std.specs.Prelude.{◌==◌}
use Rattle.text_grammar.specs.Sounding.{each_below, is_flagged, follows, completed, agrees, is_readable}
use Rattle.text_grammar.proofs.ReadableParts.{Below, readable_by}
use Rattle.cert_lexer.specs.Grammar.{proof_grammar}

-- the test holds for a class
abbrev At : ℕ → Type 0
At c = agrees proof_grammar c ≡ true

-- the test holds for each class and for the end of the text, proved one by one, since the whole is too long to compute
-- at once
up_to_0 : Below 0 At
up_to_0 = tt

up_to_1 : Below 1 At
up_to_1 = (refl, up_to_0)

up_to_2 : Below 2 At
up_to_2 = (refl, up_to_1)

up_to_3 : Below 3 At
up_to_3 = (refl, up_to_2)

up_to_4 : Below 4 At
up_to_4 = (refl, up_to_3)

up_to_5 : Below 5 At
up_to_5 = (refl, up_to_4)

up_to_6 : Below 6 At
up_to_6 = (refl, up_to_5)

up_to_7 : Below 7 At
up_to_7 = (refl, up_to_6)

up_to_8 : Below 8 At
up_to_8 = (refl, up_to_7)

up_to_9 : Below 9 At
up_to_9 = (refl, up_to_8)

up_to_10 : Below 10 At
up_to_10 = (refl, up_to_9)

up_to_11 : Below 11 At
up_to_11 = (refl, up_to_10)

up_to_12 : Below 12 At
up_to_12 = (refl, up_to_11)

up_to_13 : Below 13 At
up_to_13 = (refl, up_to_12)

up_to_14 : Below 14 At
up_to_14 = (refl, up_to_13)

up_to_15 : Below 15 At
up_to_15 = (refl, up_to_14)

up_to_16 : Below 16 At
up_to_16 = (refl, up_to_15)

up_to_17 : Below 17 At
up_to_17 = (refl, up_to_16)

up_to_18 : Below 18 At
up_to_18 = (refl, up_to_17)

up_to_19 : Below 19 At
up_to_19 = (refl, up_to_18)

up_to_20 : Below 20 At
up_to_20 = (refl, up_to_19)

up_to_21 : Below 21 At
up_to_21 = (refl, up_to_20)

up_to_22 : Below 22 At
up_to_22 = (refl, up_to_21)

up_to_23 : Below 23 At
up_to_23 = (refl, up_to_22)

up_to_24 : Below 24 At
up_to_24 = (refl, up_to_23)

up_to_25 : Below 25 At
up_to_25 = (refl, up_to_24)

up_to_26 : Below 26 At
up_to_26 = (refl, up_to_25)

up_to_27 : Below 27 At
up_to_27 = (refl, up_to_26)

up_to_28 : Below 28 At
up_to_28 = (refl, up_to_27)

up_to_29 : Below 29 At
up_to_29 = (refl, up_to_28)

up_to_30 : Below 30 At
up_to_30 = (refl, up_to_29)

up_to_31 : Below 31 At
up_to_31 = (refl, up_to_30)

up_to_32 : Below 32 At
up_to_32 = (refl, up_to_31)

up_to_33 : Below 33 At
up_to_33 = (refl, up_to_32)

up_to_34 : Below 34 At
up_to_34 = (refl, up_to_33)

up_to_35 : Below 35 At
up_to_35 = (refl, up_to_34)

up_to_36 : Below 36 At
up_to_36 = (refl, up_to_35)

up_to_37 : Below 37 At
up_to_37 = (refl, up_to_36)

up_to_38 : Below 38 At
up_to_38 = (refl, up_to_37)

up_to_39 : Below 39 At
up_to_39 = (refl, up_to_38)

up_to_40 : Below 40 At
up_to_40 = (refl, up_to_39)

up_to_41 : Below 41 At
up_to_41 = (refl, up_to_40)

up_to_42 : Below 42 At
up_to_42 = (refl, up_to_41)

up_to_43 : Below 43 At
up_to_43 = (refl, up_to_42)

up_to_44 : Below 44 At
up_to_44 = (refl, up_to_43)

up_to_45 : Below 45 At
up_to_45 = (refl, up_to_44)

up_to_46 : Below 46 At
up_to_46 = (refl, up_to_45)

up_to_47 : Below 47 At
up_to_47 = (refl, up_to_46)

-- the end can follow the text, the text can be completed, and the sample piece of each class belongs to it
ends : is_flagged (follows proof_grammar 46) 0 ≡ true
ends = refl

completes : is_flagged (completed proof_grammar) 0 ≡ true
completes = refl

sampled : each_below 46 (λ c. proof_grammar.class_of (proof_grammar.sample c) == c) ≡ true
sampled = refl

-- the grammar of proof files can be read
pub readable : is_readable proof_grammar ≡ true
readable = readable_by proof_grammar up_to_47 ends completes sampled
