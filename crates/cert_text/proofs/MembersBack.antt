-- Places with their local bounds, and how costs are shown, that were read along bytes are spelled by them.
use Rattle.std.proofs.Common.{◌≡◌, ℕ, zero, suc, ◌≤◌, ◌<◌, ◌^◌, false, List, [], ◌∷◌, ◌++◌, map, length, None, refl, ap, sym}
use Rattle.std.proofs.Common.{subst, ◌∙◌, arith, inl, inr, append-nil, append_assoc}
use Rattle.std.specs.Prelude.{codes, nat_lt, not}
use Rattle.std.specs.List.{AllByRecursion}
use Rattle.std.specs.Fmt.{decimal}
use Rattle.its_model.specs.model.Programs.{Program, rule_at}
use Rattle.cert_types.specs.cert_rules.Nodes.{ResultVariable, Member, LocalBound}
use Rattle.cert_types.specs.cert_rules.Nodes.{CostBy, EmptyCost, NeverCost, SideBoundCost}
use Rattle.text_grammar.specs.text_core.Choices.{when}
use Rattle.text_grammar.specs.declared.symbol.Symbol.{Symbol}
use Rattle.text_grammar.specs.declared.symbol.Symbol.TheVariants as item
use Rattle.cert_lexer.specs.declared.kind.ProofKind.TheVariants as kind
use Rattle.cert_lexer.specs.declared.piece.Word.TheVariants as word
use Rattle.cert_lexer.specs.declared.piece.Sign.TheVariants as sign
use Rattle.cert_lexer.specs.declared.piece.Mode.TheVariants as mode
use Rattle.cert_text.specs.NumberFaults.{has_place, or_else}
use Rattle.cert_text.specs.Lists.{each_behind, listed, numbers_text}
use Rattle.cert_text.specs.Remembered.{Draft, State, no_draft}
use Rattle.cert_text.specs.Spelled.{IsCostByWithin, IsMemberWithin}
use Rattle.cert_text.specs.Texts.{side_bound_text, cost_by_text, local_text, member_text}
use Rattle.cert_text.proofs.Along.{Along, Bytes, Then, flatten}
use Rattle.cert_text.proofs.Back.{less, made_back, mark_back, on, shorter, sign_back, turned_to, word_back}
use Rattle.cert_text.proofs.Cutting.{Bare}
use Rattle.cert_text.proofs.Listing.{list_then, next_then, same_32}
use Rattle.cert_text.proofs.ListsBack.{none_small, number_back, numbers_back, or_none, rule_back}
use Rattle.cert_text.proofs.MemberTexts.{result_variable_low}
use Rattle.cert_text.proofs.PartTexts.{Scratch, placed, scratch}
use Rattle.cert_text.proofs.PartsBack.{side_bound_back, numbers_within, place_there}
use Rattle.cert_text.proofs.States.{Base, Last, Sure, limit_of, limit_most, st}

-- the number of a place, within the limit, is unchanged by capping
place_small : (p : Program) (b : Base) (r n : ℕ) → or_else (when (nat_lt (limit_of b) n) kind.NumberTooLarge)
    (when (not (has_place p (rule_at p r) n)) kind.BadReference) ≡ None → n < 2 ^ 127
place_small p b r n h =
    let f = or_none (when (nat_lt (limit_of b) n) kind.NumberTooLarge)
    (when (not (has_place p (rule_at p r) n)) kind.BadReference) h in
    let m = limit_most b in
    let k = none_small (limit_of b) n f.0 in
    omega (arith, m, k)

module _ {p : Program} {ss : List Symbol} {Q : State → Type 0} {R : Type 0} (sure : Sure p) (b : Base)
    (outside : b.in_gap ≡ false) where
  -- a place with its local bound that was read is spelled by the bytes
  pub member_back : {whole : List ℕ} (l : Last) (g : Scratch) (r : ℕ) (sp : ResultVariable) (d : Draft)
      → Along p (item.Made 28 ∷ ss) (st b l (placed g r sp d)) mode.Plain whole Q
      → ((m : Member) (n : Last) (h : Scratch) (rest : List ℕ) → IsMemberWithin p m → whole ≡ member_text m ++ rest
      → Along p ss (st b n (placed h m.result_variable.rule m.result_variable (record d { members = d.members ++ m ∷ [] }))) mode.Plain rest Q
      → R) → R
  member_back l g r sp d a k =
      made_back 28 ((item.Made 9 ∷ item.Piece 41 ∷ item.Mark 31 ∷ item.Made 8 ∷ item.Mark 32 ∷ item.Piece 32 ∷
      item.Piece 20 ∷ item.Piece 32 ∷ item.Made 30 ∷ item.Mark 33 ∷ item.Piece 32 ∷ item.Piece 21 ∷ item.Piece 32 ∷
      item.Made 30 ∷ item.Mark 34 ∷ []) ∷ []) refl a (
        (λ x. rule_back b l (placed g r sp d) sure x (λ i r1 is e1 y.
            sign_back sign.Dot y (λ r2 e2 z.
            number_back Bare (λ n h. place_small p b i n h) (mark_back 31 z) (λ n r3 none e3 w.
            let f = or_none (when (nat_lt (limit_of b) n) kind.NumberTooLarge)
            (when (not (has_place p (rule_at p i) n)) kind.BadReference) none in
            let there = place_there p i n f.1 in
            let low = result_variable_low p (record { rule = i; place = n }) sure there in
            let result_variable : ResultVariable = record { rule = i; place = n } in
            sign_back sign.Blank (turned_to (ap (λ (j : ℕ). st b (record l { number = n })
            (placed g i (record { rule = i; place = j }) d)) (same_32 n (omega (arith, low)))) (mark_back 32 w)) (λ r4 e4 u.
            word_back word.Up (λ e. cc) (λ c cs. refl) u (λ s1 r5 none1 e5 t.
            sign_back sign.Blank t (λ r6 e6 o.
            side_bound_back sure b outside (record l { number = n; symbol = s1 }) (placed g i result_variable d) o (λ up m1 h1 r7 in_up e7 j.
            sign_back sign.Blank (mark_back 33 j) (λ r8 e8 v.
            word_back word.Low (λ e. cc) (λ c cs. refl) v (λ s2 r9 none2 e9 q.
            sign_back sign.Blank q (λ r10 e10 aa.
            side_bound_back sure b outside (record m1 { symbol = s2 }) (record (placed h1 i result_variable d) { up = up }) aa
            (λ lower m2 h2 rest in_low e bb.
            let local : LocalBound = record { up = up; low = lower } in
            k (record { result_variable = result_variable; local = local }) m2 h2 rest
            (record { result_variable = there; local = record { up = in_up; low = in_low } })
            (on (decimal i) e1 (on (codes ".") e2 (on (decimal n) e3 (on (codes " ") e4 (on (codes "up ")
            (on (codes "up") e5 e6) (on (side_bound_text up) e7 (on (codes " low ") (on (codes " ") e8 (on (codes "low") e9 e10)) e))))))
            ∙ sym (flatten (Then (Then (Bytes (decimal i)) (Then (Bytes (codes ".")) (Bytes (decimal n))))
            (Then (Bytes (codes " ")) (Then (Bytes (codes "up ")) (Then (Bytes (side_bound_text up)) (Then (Bytes (codes " low "))
            (Bytes (side_bound_text lower))))))) rest))
            (mark_back 34 bb))))))))))))),
        tt,
      )

module _ {p : Program} {ss : List Symbol} {Q : State → Type 0} {R : Type 0} (sure : Sure p) (b : Base)
    (outside : b.in_gap ≡ false) where
  -- the further places of a loop that were read are spelled by the bytes
  pub more_members_back : (f : ℕ) {whole : List ℕ} → length whole < f → (l : Last) (g : Scratch) (r : ℕ) (sp : ResultVariable) (d : Draft)
      → Along p (item.Made 29 ∷ ss) (st b l (placed g r sp d)) mode.Plain whole Q
      → ((ms : List Member) (n : Last) (h : Scratch) (j : ℕ) (sq : ResultVariable) (rest : List ℕ)
      → AllByRecursion (IsMemberWithin p) ms → whole ≡ each_behind (codes "; ") (map member_text ms) ++ (93 ∷ rest)
      → Along p ss (st b n (placed h j sq (record d { members = d.members ++ ms }))) mode.Plain rest Q → R) → R
  more_members_back zero few l g r sp d a k = absurd (omega (arith, few))
  more_members_back (suc f) few l g r sp d a k =
      made_back 29 ((item.Piece 35 ∷ []) ∷ (item.Piece 40 ∷ item.Piece 32 ∷ item.Made 28 ∷ item.Made 29 ∷ []) ∷ []) refl a (
        (λ x. sign_back sign.CloseSquare x (λ rest e y. k [] l g r sp rest tt e
            (turned_to (ap (λ (ms : List Member). st b l (placed g r sp (record d { members = ms })))
            (sym (append-nil d.members))) y))),
        (
          (λ x. sign_back sign.Semicolon x (λ r1 e1 y. sign_back sign.Blank y (λ r2 e2 z.
              member_back sure b outside l g r sp d z (λ m n h r3 is e3 w.
              let one = less 59 e1 in let two = less 32 e2 in let three = shorter (member_text m) r3 e3 in
              more_members_back f (omega (arith, few, one, two, three)) n h m.result_variable.rule m.result_variable
              (record d { members = d.members ++ m ∷ [] }) w
              (λ ms o i j sq rest all e u. k (m ∷ ms) o i j sq rest (is, all)
              (on (codes "; ") (on (codes ";") e1 e2) (on (member_text m) e3 e)
              ∙ sym (next_then (member_text m) (map member_text ms) (93 ∷ rest)))
              (turned_to (ap (λ (ks : List Member). st b o (placed i j sq (record d { members = ks })))
              (append_assoc d.members (m ∷ []) ms)) u)))))),
          tt,
        ),
      )

  -- the places of a loop that were read are spelled by the bytes
  pub members_back : {whole : List ℕ} (l : Last) (g : Scratch) (r : ℕ) (sp : ResultVariable) (d : Draft)
      → Along p (item.Piece 34 ∷ item.Made 28 ∷ item.Made 29 ∷ ss) (st b l (placed g r sp d)) mode.Plain whole Q
      → ((ms : List Member) (n : Last) (h : Scratch) (j : ℕ) (sq : ResultVariable) (rest : List ℕ) → 1 ≤ length ms
      → AllByRecursion (IsMemberWithin p) ms → whole ≡ listed (map member_text ms) ++ rest
      → Along p ss (st b n (placed h j sq (record d { members = d.members ++ ms }))) mode.Plain rest Q → R) → R
  members_back l g r sp d a k =
      sign_back sign.OpenSquare a (λ r1 e1 y. member_back sure b outside l g r sp d y (λ m n h r2 is e2 w.
      more_members_back (suc (length r2)) (omega arith) n h m.result_variable.rule m.result_variable
      (record d { members = d.members ++ m ∷ [] }) w
      (λ ms o i j sq rest all e u. k (m ∷ ms) o i j sq rest (omega arith) (is, all)
      (on (codes "[") e1 (on (member_text m) e2 e) ∙ sym (list_then (member_text m) (map member_text ms) rest))
      (turned_to (ap (λ (ks : List Member). st b o (placed i j sq (record d { members = ks })))
      (append_assoc d.members (m ∷ []) ms)) u))))

  -- how the cost of a rule is shown, if it was read, is spelled by the bytes
  pub by_back : {whole : List ℕ} (l : Last) (r : ℕ)
      → Along p (item.Made 31 ∷ ss) (st b l (record no_draft { rule = r })) mode.Plain whole Q
      → ((y : CostBy) (n : Last) (g : Scratch) (rest : List ℕ) → IsCostByWithin y → whole ≡ cost_by_text y ++ rest
      → Along p ss (st b n (scratch g (record no_draft { rule = r; by = y }))) mode.Plain rest Q → R) → R
  by_back l r a k =
      made_back 31 ((item.Piece 6 ∷ item.Piece 32 ∷ item.Made 15 ∷ item.Mark 38 ∷ []) ∷ (item.Piece 8 ∷ item.Mark 39 ∷ []) ∷
      (item.Made 30 ∷ item.Mark 40 ∷ []) ∷ []) refl a (
        (λ x. word_back word.Empty (λ e. cc) (λ c cs. refl) x (λ s r1 none e1 y. sign_back sign.Blank y (λ r2 e2 z.
            numbers_back b (record l { symbol = s }) (record no_draft { rule = r }) z (λ ms n rest all e w.
            k (EmptyCost ms) n (record { den = 0; numbers = []; integers = []; form = no_draft.form }) rest
            (numbers_within b outside ms all)
            (on (codes "empty ") (on (codes "empty") e1 e2) e
            ∙ sym (append_assoc (codes "empty ") (numbers_text ms) rest)) (mark_back 38 w))))),
        (
          (λ x. word_back word.Never (λ e. cc) (λ c cs. refl) x (λ s rest none e y.
              k NeverCost (record l { symbol = s }) (record { den = 0; numbers = []; integers = []; form = no_draft.form }) rest
              tt e (mark_back 39 y))),
          (
            (λ x. side_bound_back sure b outside l (record no_draft { rule = r }) x (λ y n g rest is e z.
                k (SideBoundCost y) n g rest is e (mark_back 40 z))),
            tt,
          ),
        ),
      )
