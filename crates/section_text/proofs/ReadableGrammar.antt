-- The grammar of sections can be read: the test holds for each class of pieces, and so as a whole.
use Rattle.std.proofs.Common.{◌≡◌, ℕ, true, refl}
use Rattle.std.specs.Prelude.{◌==◌}
use Rattle.text_grammar.specs.Sounding.{each_below, is_flagged, follows, completed, agrees, is_readable}
use Rattle.text_grammar.proofs.ReadableParts.{Below, readable_by}
use Rattle.section_text.specs.Grammar.{section_grammar}

-- the test holds for a class
abbrev At : ℕ → Type 0
At c = agrees section_grammar c ≡ true

-- the test holds for each class and for the end of the text, proved one by one, since the whole is too long to compute
-- at once
up_to_0 : Below 0 At
up_to_0 = tt

up_to_1 : Below 1 At
up_to_1 = (refl, up_to_0)

up_to_2 : Below 2 At
up_to_2 = (refl, up_to_1)

up_to_3 : Below 3 At
up_to_3 = (refl, up_to_2)

up_to_4 : Below 4 At
up_to_4 = (refl, up_to_3)

up_to_5 : Below 5 At
up_to_5 = (refl, up_to_4)

up_to_6 : Below 6 At
up_to_6 = (refl, up_to_5)

up_to_7 : Below 7 At
up_to_7 = (refl, up_to_6)

up_to_8 : Below 8 At
up_to_8 = (refl, up_to_7)

up_to_9 : Below 9 At
up_to_9 = (refl, up_to_8)

up_to_10 : Below 10 At
up_to_10 = (refl, up_to_9)

up_to_11 : Below 11 At
up_to_11 = (refl, up_to_10)

up_to_12 : Below 12 At
up_to_12 = (refl, up_to_11)

up_to_13 : Below 13 At
up_to_13 = (refl, up_to_12)

up_to_14 : Below 14 At
up_to_14 = (refl, up_to_13)

up_to_15 : Below 15 At
up_to_15 = (refl, up_to_14)

up_to_16 : Below 16 At
up_to_16 = (refl, up_to_15)

up_to_17 : Below 17 At
up_to_17 = (refl, up_to_16)

up_to_18 : Below 18 At
up_to_18 = (refl, up_to_17)

up_to_19 : Below 19 At
up_to_19 = (refl, up_to_18)

up_to_20 : Below 20 At
up_to_20 = (refl, up_to_19)

up_to_21 : Below 21 At
up_to_21 = (refl, up_to_20)

up_to_22 : Below 22 At
up_to_22 = (refl, up_to_21)

up_to_23 : Below 23 At
up_to_23 = (refl, up_to_22)

up_to_24 : Below 24 At
up_to_24 = (refl, up_to_23)

-- the end can follow the text, the text can be completed, and the sample piece of each class belongs to it
ends : is_flagged (follows section_grammar 23) 0 ≡ true
ends = refl

completes : is_flagged (completed section_grammar) 0 ≡ true
completes = refl

sampled : each_below 23 (λ c. section_grammar.class_of (section_grammar.sample c) == c) ≡ true
sampled = refl

-- the grammar of sections can be read
pub readable : is_readable section_grammar ≡ true
readable = readable_by section_grammar up_to_24 ends completes sampled
