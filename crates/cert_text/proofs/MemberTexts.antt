-- Places with their local bounds, and how costs are shown, are read along their texts.
use Rattle.std.proofs.Common.{◌≡◌, ℕ, ◌≤◌, false, List, [], ◌∷◌, ◌++◌, map, length, refl, ap, sym, arith, inl, inr}
use Rattle.std.proofs.Common.{append-nil, append_assoc}
use Rattle.std.specs.Prelude.{codes}
use Rattle.std.specs.List.{AllByRecursion}
use Rattle.std.specs.Fmt.{decimal}
use Rattle.its_model.specs.model.Programs.{Program}
use Rattle.its_model.proofs.ListLaws.{all-from}
use Rattle.cert_types.specs.cert_rules.AcceptsPlain.{IsRule}
use Rattle.cert_types.specs.cert_rules.Nodes.{ResultVariable, Member}
use Rattle.cert_types.specs.cert_rules.Nodes.{CostBy, EmptyCost, NeverCost, SideBoundCost}
use Rattle.cert_types.specs.rule_forms.linear_forms.Limits.{certificate_limit}
use Rattle.text_grammar.specs.text_core.Names.{continues_name}
use Rattle.text_core.proofs.PrefixLaws.{Stops}
use Rattle.text_grammar.specs.declared.symbol.Symbol.{Symbol}
use Rattle.text_grammar.specs.declared.symbol.Symbol.TheVariants as item
use Rattle.cert_lexer.specs.declared.piece.Mode.TheVariants as mode
use Rattle.cert_lexer.specs.Lexing.{symbol_names, symbol_of}
use Rattle.cert_text.specs.Lists.{each_behind, listed}
use Rattle.cert_text.specs.Remembered.{Draft, State, no_draft}
use Rattle.cert_text.specs.Spelled.{IsCostByWithin, IsMemberWithin, IsResultVariableOf}
use Rattle.cert_text.specs.Texts.{side_bound_text, cost_by_text, local_text, member_text}
use Rattle.cert_text.proofs.Along.{Along, Bytes, Then, becomes, flatten, makes, marks, spelled_as}
use Rattle.cert_text.proofs.Cutting.{Bare, blank, closes, dot, number, opens, semicolon, word}
use Rattle.cert_text.proofs.Listing.{list_then, next_then, numbers, rule, same_32, small_number}
use Rattle.cert_text.proofs.PartTexts.{Scratch, side_bound, fine, place_none, placed, scratch}
use Rattle.cert_text.proofs.States.{Base, Last, Sure, limit_of, limit_least, st}

-- the rule of an existing place exists
result_variable_rule : (p : Program) (sp : ResultVariable) → IsResultVariableOf p sp → IsRule p sp.rule
result_variable_rule p sp h = record { rule = h.rule; numbered = h.numbered }

-- the number of an existing place is at most 32
pub result_variable_low : (p : Program) (sp : ResultVariable) → Sure p → IsResultVariableOf p sp → sp.place ≤ 32
result_variable_low p sp sure h = let m = h.most in let f = sure.few_places h.rule.target in omega (arith, m, f)

module _ {p : Program} {ss : List Symbol} {rest : List ℕ} {Q : State → Type 0} (sure : Sure p) (b : Base)
    (outside : b.in_gap ≡ false) where
  -- both side bounds of a place are read
  side_bounds : (m : Member) → IsMemberWithin p m → Stops continues_name rest → (l : Last) (g : Scratch) (d : Draft)
      → ((n : Last) (h : Scratch) → Along p ss
      (st b n (placed h m.result_variable.rule m.result_variable (record d { members = d.members ++ m ∷ [] }))) mode.Plain rest Q)
      → Along p (item.Piece 20 ∷ item.Piece 32 ∷ item.Made 30 ∷ item.Mark 33 ∷ item.Piece 32 ∷ item.Piece 21 ∷
      item.Piece 32 ∷ item.Made 30 ∷ item.Mark 34 ∷ ss)
      (st b l (placed g m.result_variable.rule m.result_variable d)) mode.Plain (local_text m.local ++ rest) Q
  side_bounds m h stops l g d more =
      spelled_as (flatten (Then (Bytes (codes "up ")) (Then (Bytes (side_bound_text m.local.up)) (Then (Bytes (codes " low "))
      (Bytes (side_bound_text m.local.low))))) rest)
      (word 117 (codes "p") refl refl refl refl (blank Bare
      (side_bound sure b outside m.local.up h.local.up refl (record l { symbol = symbol_of (symbol_names p) (codes "up") })
      (placed g m.result_variable.rule m.result_variable d)
      (λ n k. marks 33 (blank Bare (word 108 (codes "ow") refl refl refl refl (blank Bare
      (side_bound sure b outside m.local.low h.local.low stops (record n { symbol = symbol_of (symbol_names p) (codes "low") })
      (record (placed k m.result_variable.rule m.result_variable d) { up = m.local.up })
      (λ o j. marks 34 (more o j))))))))))

  -- a place with its local bound is read
  pub member : (m : Member) → IsMemberWithin p m → Stops continues_name rest → (l : Last) (g : Scratch) (r : ℕ)
      (sp : ResultVariable) (d : Draft)
      → ((n : Last) (h : Scratch) → Along p ss
      (st b n (placed h m.result_variable.rule m.result_variable (record d { members = d.members ++ m ∷ [] }))) mode.Plain rest Q)
      → Along p (item.Made 28 ∷ ss) (st b l (placed g r sp d)) mode.Plain (member_text m ++ rest) Q
  member m h stops l g r sp d more =
      let low = result_variable_low p m.result_variable sure h.result_variable in
      let least = limit_least b in
      let small : m.result_variable.place ≤ limit_of b = omega (arith, low, least) in
      spelled_as (flatten (Then (Then (Bytes (decimal m.result_variable.rule)) (Then (Bytes (codes "."))
      (Bytes (decimal m.result_variable.place)))) (Then (Bytes (codes " ")) (Bytes (local_text m.local)))) rest)
      (makes 28 (item.Made 9 ∷ item.Piece 41 ∷ item.Mark 31 ∷ item.Made 8 ∷ item.Mark 32 ∷ item.Piece 32 ∷
      item.Piece 20 ∷ item.Piece 32 ∷ item.Made 30 ∷ item.Mark 33 ∷ item.Piece 32 ∷ item.Piece 21 ∷ item.Piece 32 ∷
      item.Made 30 ∷ item.Mark 34 ∷ []) (inl refl)
      (rule b l (placed g r sp d) m.result_variable.rule sure (result_variable_rule p m.result_variable h.result_variable) refl
      (dot (marks 31 (number Bare m.result_variable.place (small_number b m.result_variable.place small) refl
      (place_none p (limit_of b) m.result_variable.rule m.result_variable.place m.result_variable h.result_variable refl refl small)
      (marks 32 (becomes (ap (λ (n : ℕ). st b (record l { number = m.result_variable.place })
      (placed g m.result_variable.rule (record { rule = m.result_variable.rule; place = n }) d)) (same_32 m.result_variable.place (omega (arith, low))))
      (blank Bare (side_bounds m h stops (record l { number = m.result_variable.place }) g d more)))))))))

-- a closing bracket, or a separator, ends a word
members_stop : (ws : List (List ℕ)) (rest : List ℕ) → Stops continues_name (each_behind (codes "; ") ws ++ (93 ∷ rest))
members_stop [] rest = refl
members_stop (w ∷ ws) rest = refl

module _ {p : Program} {ss : List Symbol} {rest : List ℕ} {Q : State → Type 0} (sure : Sure p) (b : Base)
    (outside : b.in_gap ≡ false) where
  -- the further places of a loop are read
  more_members : (ms : List Member) → AllByRecursion (IsMemberWithin p) ms → (l : Last) (g : Scratch) (r : ℕ) (sp : ResultVariable)
      (d : Draft)
      → ((n : Last) (h : Scratch) (k : ℕ) (sq : ResultVariable) → Along p ss
      (st b n (placed h k sq (record d { members = d.members ++ ms }))) mode.Plain rest Q)
      → Along p (item.Made 29 ∷ ss) (st b l (placed g r sp d)) mode.Plain
      (each_behind (codes "; ") (map member_text ms) ++ (93 ∷ rest)) Q
  more_members [] all l g r sp d more =
      makes 29 (item.Piece 35 ∷ []) (inl refl)
      (closes Bare (becomes (ap (λ (ms : List Member). st b l (placed g r sp (record d { members = ms })))
      (sym (append-nil d.members))) (more l g r sp)))
  more_members (m ∷ ms) all l g r sp d more =
      spelled_as (next_then (member_text m) (map member_text ms) (93 ∷ rest))
      (makes 29 (item.Piece 40 ∷ item.Piece 32 ∷ item.Made 28 ∷ item.Made 29 ∷ []) (inr (inl refl))
      (semicolon (blank Bare (member sure b outside m all.0 (members_stop (map member_text ms) rest) l g r sp d
      (λ n h. more_members ms all.1 n h m.result_variable.rule m.result_variable (record d { members = d.members ++ m ∷ [] })
      (λ o i k sq. becomes (ap (λ (ks : List Member). st b o (placed i k sq (record d { members = ks })))
      (append_assoc d.members (m ∷ []) ms)) (more o i k sq)))))))

  -- the places of a loop are read
  pub members : (ms : List Member) → 1 ≤ length ms → AllByRecursion (IsMemberWithin p) ms → (l : Last) (g : Scratch)
      (r : ℕ) (sp : ResultVariable) (d : Draft)
      → ((n : Last) (h : Scratch) (k : ℕ) (sq : ResultVariable) → Along p ss
      (st b n (placed h k sq (record d { members = d.members ++ ms }))) mode.Plain rest Q)
      → Along p (item.Piece 34 ∷ item.Made 28 ∷ item.Made 29 ∷ ss) (st b l (placed g r sp d)) mode.Plain
      (listed (map member_text ms) ++ rest) Q
  members [] one all l g r sp d more = absurd (omega (arith, one))
  members (m ∷ ms) one all l g r sp d more =
      spelled_as (list_then (member_text m) (map member_text ms) rest)
      (opens Bare (member sure b outside m all.0 (members_stop (map member_text ms) rest) l g r sp d
      (λ n h. more_members ms all.1 n h m.result_variable.rule m.result_variable (record d { members = d.members ++ m ∷ [] })
      (λ o i k sq. becomes (ap (λ (ks : List Member). st b o (placed i k sq (record d { members = ks })))
      (append_assoc d.members (m ∷ []) ms)) (more o i k sq)))))

  -- how the cost of a rule is shown is read
  pub by : (y : CostBy) → IsCostByWithin y → Stops continues_name rest → (l : Last) (r : ℕ)
      → ((n : Last) (g : Scratch) → Along p ss
      (st b n (scratch g (record no_draft { rule = r; by = y }))) mode.Plain rest Q)
      → Along p (item.Made 31 ∷ ss) (st b l (record no_draft { rule = r })) mode.Plain (cost_by_text y ++ rest) Q
  by (EmptyCost ms) h stops l r more =
      makes 31 (item.Piece 6 ∷ item.Piece 32 ∷ item.Made 15 ∷ item.Mark 38 ∷ []) (inl refl)
      (word 101 (codes "mpty") refl refl refl refl (blank Bare (numbers b ms
      (fine b outside ms (all-from (λ k. k ≤ certificate_limit) ms h))
      (record l { symbol = symbol_of (symbol_names p) (codes "empty") }) (record no_draft { rule = r })
      (λ n. marks 38 (more n (record { den = 0; numbers = []; integers = []; form = no_draft.form }))))))
  by NeverCost h stops l r more =
      makes 31 (item.Piece 8 ∷ item.Mark 39 ∷ []) (inr (inl refl))
      (word 110 (codes "ever") refl refl stops refl
      (marks 39 (more (record l { symbol = symbol_of (symbol_names p) (codes "never") })
      (record { den = 0; numbers = []; integers = []; form = no_draft.form }))))
  by (SideBoundCost a) h stops l r more =
      makes 31 (item.Made 30 ∷ item.Mark 40 ∷ []) (inr (inr (inl refl)))
      (side_bound sure b outside a h stops l (record no_draft { rule = r }) (λ n g. marks 40 (more n g)))
