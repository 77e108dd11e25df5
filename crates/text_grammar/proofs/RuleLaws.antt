-- The rules that items spell, one after the other.
use Rattle.std.proofs.Common.{◌≡◌, Bool, true, false, cond, ℕ, zero, suc, List, [], ◌∷◌, ◌++◌, refl, ap, sym, ◌∙◌, append_assoc, length}
use Rattle.std.proofs.Common.{◌<◌, ◌≤◌, arith}
use Rattle.std.specs.Prelude.{slice_index_or}
use Rattle.std.specs.Borrow.{Bor}
use Rattle.std.proofs.lemmas.List.{append-nil, get_or-map}
use Rattle.text_grammar.specs.declared.symbol.Symbol.{Symbol}
use Rattle.text_grammar.specs.declared.symbol.Symbol.TheVariants.{Piece, Made, Mark}
use Rattle.text_grammar.specs.declared.symbol.Item.{Item}
use Rattle.text_grammar.specs.declared.symbol.Item.TheVariants.{APiece, AMade, AMark, Or, End}
use Rattle.text_grammar.specs.Grammars.{alternatives, rules_behind, rules_of}
use Rattle.text_grammar.specs.Spelled.{alternatives_of, body_of, others_of}
use Rattle.text_grammar.specs.Views.{rules_view}

-- some rule ends in these items
abbrev pub has_end : List Item → Bool
has_end [] = false
has_end (APiece c ∷ items) = has_end items
has_end (AMade n ∷ items) = has_end items
has_end (AMark m ∷ items) = has_end items
has_end (Or ∷ items) = has_end items
has_end (End ∷ items) = true

-- the items after the first rule
abbrev pub after_end : List Item → List Item
after_end [] = []
after_end (APiece c ∷ items) = after_end items
after_end (AMade n ∷ items) = after_end items
after_end (AMark m ∷ items) = after_end items
after_end (Or ∷ items) = after_end items
after_end (End ∷ items) = items

-- the rules that items denote after the alternatives and symbols of the first rule that were already read: the rule
-- that ends in them, and the rules after it
abbrev behind_read : (bodies : List (List Symbol)) (body : List Symbol) (items : List Item) → List (List (List Symbol))
behind_read bodies body items = cond (has_end items) ((bodies ++ (body ++ body_of items) ∷ others_of items) ∷ rules_of (after_end items)) []

rules_read : (bodies : List (List Symbol)) (body : List Symbol) (items : List Item) → rules_behind bodies body items ≡ behind_read bodies body items
rules_read bodies body [] = refl
rules_read bodies body (APiece c ∷ items) = rules_read bodies (body ++ Piece c ∷ []) items ∙ ap (λ b. cond (has_end items) ((bodies ++ b ∷ others_of items) ∷ rules_of (after_end items)) []) (append_assoc body (Piece c ∷ []) (body_of items))
rules_read bodies body (AMade n ∷ items) = rules_read bodies (body ++ Made n ∷ []) items ∙ ap (λ b. cond (has_end items) ((bodies ++ b ∷ others_of items) ∷ rules_of (after_end items)) []) (append_assoc body (Made n ∷ []) (body_of items))
rules_read bodies body (AMark m ∷ items) = rules_read bodies (body ++ Mark m ∷ []) items ∙ ap (λ b. cond (has_end items) ((bodies ++ b ∷ others_of items) ∷ rules_of (after_end items)) []) (append_assoc body (Mark m ∷ []) (body_of items))
rules_read bodies body (Or ∷ items) =
    rules_read (bodies ++ body ∷ []) [] items
    ∙ ap (λ bs. cond (has_end items) (bs ∷ rules_of (after_end items)) []) (append_assoc bodies (body ∷ []) (body_of items ∷ others_of items))
    ∙ ap (λ b. cond (has_end items) ((bodies ++ b ∷ body_of items ∷ others_of items) ∷ rules_of (after_end items)) []) (sym (append-nil body))
rules_read bodies body (End ∷ items) = ap (λ b. (bodies ++ b ∷ []) ∷ rules_of items) (sym (append-nil body))

-- items denote a first rule and the others after it
pub first_rule : (items : List Item) → has_end items ≡ true → rules_of items ≡ alternatives_of items ∷ rules_of (after_end items)
first_rule items h = rules_read [] [] items ∙ ap (λ b. cond b (alternatives_of items ∷ rules_of (after_end items)) []) h

-- if no rule ends in the items, they denote none
pub no_rule : (items : List Item) → has_end items ≡ false → rules_of items ≡ []
no_rule items h = rules_read [] [] items ∙ ap (λ b. cond b (alternatives_of items ∷ rules_of (after_end items)) []) h

-- the rules read so far and those of the items from the next rule on, after that rule is read
pub more_rules : (done : List (List (List Symbol))) (rule left after items : List Item) → done ++ rules_of rule ≡ rules_of items → has_end rule ≡ has_end left → after_end rule ≡ after_end left → left ≡ End ∷ after
    → (done ++ alternatives_of rule ∷ []) ++ rules_of after ≡ rules_of items
more_rules done rule left after items all ends behind is =
    append_assoc done (alternatives_of rule ∷ []) (rules_of after)
    ∙ ap (λ rs. done ++ alternatives_of rule ∷ rules_of rs) (sym (behind ∙ ap after_end is))
    ∙ ap (λ rs. done ++ rs) (sym (first_rule rule (ends ∙ ap has_end is)))
    ∙ all

-- if no items are left, the rules read so far are all
pub all_rules : (done : List (List (List Symbol))) (rule left items : List Item) → done ++ rules_of rule ≡ rules_of items → has_end rule ≡ has_end left → length left ≡ 0 → done ≡ rules_of items
all_rules done rule left items all ends none = sym (append-nil done) ∙ ap (λ rs. done ++ rs) (sym (no_rule rule (ends ∙ ap has_end (empty left none)))) ∙ all
  where
    empty : (xs : List Item) → length xs ≡ 0 → xs ≡ []
    empty [] h = refl
    empty (x ∷ xs) h = cc

-- the alternatives of a nonterminal are those of its rule; a nonterminal without a rule has none
pub rule_at : (rules : List (Bor (List Item))) (n : ℕ) (rule : Bor (List Item)) → n < length rules → rule ≡ slice_index_or rules n rule → alternatives (rules_view rules) n ≡ alternatives_of rule.now
rule_at rules n rule l is = get_or-map (λ (r : Bor (List Item)). alternatives_of r.now) rules n rule [] l ∙ ap (λ (r : Bor (List Item)). alternatives_of r.now) (sym is)

pub no_rule_at : (rules : List (Bor (List Item))) (n : ℕ) → length rules ≤ n → alternatives (rules_view rules) n ≡ []
no_rule_at [] zero l = refl
no_rule_at [] (suc n) l = refl
no_rule_at (r ∷ rules) zero l = absurd (omega (arith, l))
no_rule_at (r ∷ rules) (suc n) l = no_rule_at rules n (omega (arith, l))
