-- The marks of a bound in brackets are those of the item that it makes.
use Rattle.std.proofs.Common.{◌≡◌, ℕ, suc, Bool, true, false, cond, not, List, [], ◌∷◌, Some, None, refl, ap}
use Rattle.std.proofs.Common.{sym, ◌∙◌, arith}
use Rattle.std.specs.Prelude.{⊤}
use Rattle.its_model.specs.model.Bounds.{Bound, Constant, Input, SumOf, ProductOf, MaximumOf, PowerOf, Parts, NoParts}
use Rattle.its_model.specs.model.Bounds.{Part}
use Rattle.bound_text.specs.Shapes.{is_sum, is_leaf, is_variable, with_part}
use Rattle.bound_text.specs.Pieces.{Piece}
use Rattle.bound_text.specs.Writing.{Nothing, plus_between, comma_between}
use Rattle.bound_text.specs.ParserStates.{Bracket, Arguments, Exponent, Factor, term_of, bound_of_parts, can_end}
use Rattle.bound_text.specs.ParserStates.{product_node, product_node_round, node_of_any}
use Rattle.bound_text.specs.Steps.{can_close, item_of}
use Rattle.bound_text.specs.Inside.{Marks, unmarked, factor_marks, exponent_marks, bound_marks}
use Rattle.bound_text.specs.Inside.{joined_marks, more_marks, factors_marks, each_marks, star_marks, bracket_marks}
use Rattle.bound_text.specs.Inside.{level_behind}
use Rattle.bound_text.proofs.JoiningLaws.{as_one-with_part}
use Rattle.bound_text.proofs.MarkLaws as marks
use Rattle.bound_text.proofs.MarkLaws.{other_factor}
use Rattle.bound_text.proofs.PartLaws.{product_node-with_part}

-- one more factor that is no variable has its own marks
pub other_behind : (level : ℕ) (b : Bound) (fs : Parts) (rest : Marks) → is_variable b ≡ false
    → factors_marks level Nothing (with_part fs b) rest
    ≡ factors_marks level Nothing fs (star_marks fs (factor_marks (is_sum b) level (bound_marks level b) rest))
other_behind level b fs rest h =
    marks.factors_behind level (λ gs. with_part gs b) (factor_marks (is_sum b) level (bound_marks level b) rest) rest
    (λ w cs. ⊤)
    (record {
      behind = λ d ds. refl;
      alone = λ w p. other_factor level w b NoParts rest h;
      same = λ w j cs e p. tt;
      run = λ w j cs p. tt;
      other = λ w c cs p. tt;
    }) Nothing fs tt

-- the marks of parts with one more, which a separator joins
more-with_part : (s : List Piece) (level : ℕ) (bs : Parts) (b : Bound) (rest : Marks)
    → more_marks s level (with_part bs b) rest ≡ unmarked s (each_marks s level bs (bound_marks level b rest))
more-with_part s level NoParts b rest = refl
more-with_part s level (Part c cs) b rest =
    ap (λ (ms : Marks). unmarked s (bound_marks level c ms)) (more-with_part s level cs b rest)

joined-with_part : (s : List Piece) (level : ℕ) (bs : Parts) (b : Bound) (rest : Marks)
    → joined_marks s level (with_part bs b) rest ≡ each_marks s level bs (bound_marks level b rest)
joined-with_part s level NoParts b rest = refl
joined-with_part s level (Part c cs) b rest = ap (bound_marks level c) (more-with_part s level cs b rest)

-- the marks of parts with a separator after each, and one more
pub each-with_part : (s : List Piece) (level : ℕ) (bs : Parts) (b : Bound) (rest : Marks)
    → each_marks s level (with_part bs b) rest ≡ each_marks s level bs (bound_marks level b (unmarked s rest))
each-with_part s level NoParts b rest = refl
each-with_part s level (Part c cs) b rest =
    ap (λ (ms : Marks). bound_marks level c (unmarked s ms)) (each-with_part s level cs b rest)

-- with the product's node, parts are one level deeper
pub level_more : (above sum : ℕ) → level_behind above sum 1 ≡ suc (level_behind above sum 0)
level_more above sum = omega arith

-- the marks of a term are those of its factors
pub term_marks : (above sum : ℕ) (fs : Parts) (rest : Marks) → can_end fs ≡ true
    → bound_marks (level_behind above sum 0) (term_of fs) rest
    ≡ factors_marks (level_behind above sum (product_node fs)) Nothing fs rest
term_marks above sum NoParts rest h = cc
term_marks above sum (Part (Constant c) NoParts) rest h = refl
term_marks above sum (Part (Input i) NoParts) rest h = refl
term_marks above sum (Part (SumOf bs) NoParts) rest h = cc
term_marks above sum (Part (ProductOf bs) NoParts) rest h = refl
term_marks above sum (Part (MaximumOf bs) NoParts) rest h = refl
term_marks above sum (Part (PowerOf c e) NoParts) rest h = refl
term_marks above sum (Part b (Part c cs)) rest h =
    ap (λ (k : ℕ). factors_marks k Nothing (Part b (Part c cs)) rest) (sym (level_more above sum))

-- the marks of terms and factors inside this many levels, where the sum's node counts or doesn't
abbrev pub inside_marks : ℕ → ℕ → Parts → Parts → Marks → Marks
inside_marks above sum ts fs rest =
    each_marks plus_between (level_behind above sum 0) ts
    (factors_marks (level_behind above sum (product_node fs)) Nothing fs rest)

-- the marks of a bound are those of its terms and factors
pub bound_made_marks : (above : ℕ) (ts fs : Parts) (rest : Marks) → can_end fs ≡ true
    → bound_marks (suc above) (bound_of_parts ts fs) rest ≡ inside_marks above (node_of_any ts) ts fs rest
bound_made_marks above NoParts fs rest h =
    ap (λ (k : ℕ). bound_marks k (term_of fs) rest) (let e : suc above ≡ level_behind above 0 0 = omega arith in e)
    ∙ term_marks above 0 fs rest h
bound_made_marks above (Part b bs) fs rest h =
    ap (λ (c : Bound). bound_marks (suc above) c rest) (as_one-with_part b bs (term_of fs))
    ∙ ap (λ (k : ℕ). joined_marks plus_between k (with_part (Part b bs) (term_of fs)) rest)
    (let e : suc (suc above) ≡ level_behind above 1 0 = omega arith in e)
    ∙ joined-with_part plus_between (level_behind above 1 0) (Part b bs) (term_of fs) rest
    ∙ ap (each_marks plus_between (level_behind above 1 0) (Part b bs)) (term_marks above 1 fs rest h)

-- no term is a sum
no_sum : (fs : Parts) → can_end fs ≡ true → is_sum (term_of fs) ≡ true → ⊥
no_sum NoParts h e = cc
no_sum (Part (Constant c) NoParts) h e = cc
no_sum (Part (Input i) NoParts) h e = cc
no_sum (Part (SumOf bs) NoParts) h e = cc
no_sum (Part (ProductOf bs) NoParts) h e = cc
no_sum (Part (MaximumOf bs) NoParts) h e = cc
no_sum (Part (PowerOf c d) NoParts) h e = cc
no_sum (Part b (Part c cs)) h e = cc

-- the marks of a sum in brackets, whose bracket counts the sum's node, are those of its terms and factors
pub sum_made_marks : (above : ℕ) (ts fs : Parts) (rest : Marks) → can_end fs ≡ true
    → is_sum (bound_of_parts ts fs) ≡ true
    → bound_marks above (bound_of_parts ts fs) rest ≡ inside_marks above 0 ts fs rest
sum_made_marks above NoParts fs rest h e = absurd (no_sum fs h e)
sum_made_marks above (Part b bs) fs rest h e =
    ap (λ (c : Bound). bound_marks above c rest) (as_one-with_part b bs (term_of fs))
    ∙ ap (λ (k : ℕ). joined_marks plus_between k (with_part (Part b bs) (term_of fs)) rest)
    (let e : suc above ≡ level_behind above 0 0 = omega arith in e)
    ∙ joined-with_part plus_between (level_behind above 0 0) (Part b bs) (term_of fs) rest
    ∙ ap (each_marks plus_between (level_behind above 0 0) (Part b bs)) (term_marks above 0 fs rest h)

-- 1 if the sum in a bracket counts as a node of its own
abbrev pub sum_in : Bracket → Parts → ℕ
sum_in (Arguments bs) ts = node_of_any ts
sum_in (Exponent c) ts = node_of_any ts
sum_in Factor ts = 0

-- the marks of an item are those of its bracket, those of its contents, and the one of the closing bracket
pub item_marks : (level : ℕ) (bracket : Bracket) (ts fs : Parts) → can_end fs ≡ true
    → can_close bracket (bound_of_parts ts fs) ≡ true
    → factor_marks (is_sum (item_of bracket (bound_of_parts ts fs))) level
    (bound_marks level (item_of bracket (bound_of_parts ts fs))) []
    ≡ bracket_marks level bracket (inside_marks level (sum_in bracket ts) ts fs (None ∷ []))
item_marks level (Arguments bs) ts fs h k =
    ap (λ (ms : Marks). Some level ∷ ms)
    (joined-with_part comma_between (suc level) bs (bound_of_parts ts fs) (None ∷ [])
    ∙ ap (each_marks comma_between (suc level) bs) (bound_made_marks level ts fs (None ∷ []) h))
item_marks level (Exponent c) ts fs h k =
    ap (λ (v : Bool). Some level ∷ None ∷ exponent_marks v (bound_marks (suc level) (bound_of_parts ts fs)) [])
    (go (is_leaf (bound_of_parts ts fs)) k)
    ∙ ap (λ (ms : Marks). Some level ∷ None ∷ None ∷ ms) (bound_made_marks level ts fs (None ∷ []) h)
  where
    go : (v : Bool) → not v ≡ true → v ≡ false
    go true e = cc
    go false e = refl
item_marks level Factor ts fs h k =
    ap (λ (v : Bool). factor_marks v level (bound_marks level (bound_of_parts ts fs)) []) k
    ∙ ap (λ (ms : Marks). Some level ∷ ms) (sum_made_marks level ts fs (None ∷ []) h k)

-- no item is a variable
pub item_other : (bracket : Bracket) (b : Bound) → can_close bracket b ≡ true → is_variable (item_of bracket b) ≡ false
item_other (Arguments bs) b h = refl
item_other (Exponent c) b h = refl
item_other Factor (SumOf bs) h = refl
item_other Factor (Constant c) h = cc
item_other Factor (Input i) h = cc
item_other Factor (ProductOf bs) h = cc
item_other Factor (MaximumOf bs) h = cc
item_other Factor (PowerOf c e) h = cc

-- after an item the product's node counts if it counted before its bracket
pub item_node : (bracket : Bracket) (fs : Parts) (b : Bound) → can_close bracket b ≡ true
    → product_node (with_part fs (item_of bracket b)) ≡ product_node_round bracket fs
item_node (Arguments bs) fs b h = product_node-with_part fs (MaximumOf (with_part bs b)) refl
item_node (Exponent c) fs b h = product_node-with_part fs (PowerOf c b) refl
item_node Factor NoParts b h = ap (λ (v : Bool). cond v 1 0) h
item_node Factor (Part c NoParts) b h = refl
item_node Factor (Part c (Part d ds)) b h = refl
