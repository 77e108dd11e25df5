-- Each step from a rule's beginning to the name of its target keeps the limits: what was read is within them after the
-- step exactly if it was before and the state is quiet (it shows no fault at the next token).
use Rattle.std.proofs.Common.{◌≡◌, Bool, true, false, not, if◌then◌else◌, ◌&&◌, ◌↔◌, nat_le, codes, List, [], ◌∷◌}
use Rattle.std.proofs.Common.{length, Some, refl, ap, sym, ◌∙◌, arith}
use Rattle.expr_text.specs.model.Programs.{Name}
use Rattle.expr_text.specs.model.Limits.{rule_limit, place_limit}
use Rattle.expr_text.specs.text_core.Names.{is_same, is_among}
use Rattle.expr_text.proofs.text_core.NameLaws.{same_equal}
use Rattle.expr_text.specs.Pieces as inner
use Rattle.its_text.specs.Pieces.{Piece, In, Comma, word}
use Rattle.its_text.specs.Numbering.{is_com}
use Rattle.its_text.specs.GrammarStates.{Ruling, ArrowRead, Alone, Aimed, AfterRule, LeftOpened, LeftRead, LeftParted, Arrowed}
use Rattle.its_text.specs.GrammarStates.{ComNamed, ComOpened, TargetNamed}
use Rattle.its_text.specs.Steps.{behind_target_name, behind_rule, step}
use Rattle.its_text.specs.StateFaults.{is_open}
use Rattle.its_text.proofs.RoomLaws.{below, not_at, and_true}
use Rattle.its_text.proofs.KeptStates.{first, IsRulingKept, IsOpenRuling, AreLeft}
use Rattle.its_text.proofs.SectionTurns.{Turns, rules_done}

-- another rule may come exactly if there are fewer than the limit
pub room_for_rule : (r : Ruling) → IsOpenRuling r ↔ (IsRulingKept r × (nat_le rule_limit (length r.rules) ≡ false))
room_for_rule r = (
  λ h. (h.0, not_at rule_limit (length r.rules) h.1),
  λ h. (h.0, below rule_limit (length r.rules) h.1),
)

-- between rules each step keeps the limits exactly if the state is quiet
pub ruled_turns : (r : Ruling) (p : inner.Piece) (ps : List Piece) → Turns (AfterRule r) (In p) ps (behind_rule r p)
ruled_turns r (inner.Word name) ps = room_for_rule r
ruled_turns r inner.Close ps = (λ h. ((rules_done r).0 h, refl), λ h. (rules_done r).1 h.0)
ruled_turns r (inner.Digits ds) ps = tt
ruled_turns r inner.Open ps = tt
ruled_turns r inner.Plus ps = tt
ruled_turns r inner.Minus ps = tt
ruled_turns r inner.Times ps = tt
ruled_turns r inner.Caret ps = tt
ruled_turns r (inner.Related sign) ps = tt
ruled_turns r (inner.Joining joint) ps = tt

-- One more left argument keeps the limits exactly if it is new and there is room for it.
left_more : (a : Name) (earlier : List Name) → AreLeft (a ∷ earlier)
    ↔ (AreLeft earlier × (is_among a earlier ≡ false) × (nat_le place_limit (length earlier) ≡ false))
left_more a earlier = (
  λ h. let few = h.1 in ((h.0.1, omega (arith, few)), h.0.0, not_at place_limit (length earlier) (omega (arith, few))),
  λ h. ((h.1, h.0.0), let few = below place_limit (length earlier) h.2 in omega (arith, few)),
)

no_left : AreLeft []
no_left = (tt, omega arith)

-- the first left argument keeps the limits exactly if the state is quiet
pub left_opened_turns : (r : Ruling) (name a : Name) (ps : List Piece)
    → Turns (LeftOpened r name) (word a) ps (Some (LeftRead r name a []))
left_opened_turns r name a ps =
    let more = left_more a [] in (
      λ h. let k = more.0 h.1 in (h.0, (h.2, k.1, k.2)),
      λ h. (h.0, more.1 (no_left, h.1.1, h.1.2), h.1.0),
    )

-- a left term without arguments keeps the limits exactly if the pieces before it do
pub left_closed_turns : (r : Ruling) (name : Name) (ps : List Piece)
    → Turns (LeftOpened r name) (In inner.Close) ps (step (LeftOpened r name) (In inner.Close))
left_closed_turns r name ps = (λ h. (h.0, tt), λ h. (h.0, no_left))

-- a comma after a left argument keeps the limits
pub left_comma_turns : (r : Ruling) (name a : Name) (earlier : List Name) (ps : List Piece)
    → Turns (LeftRead r name a earlier) Comma ps (Some (LeftParted r name a earlier))
left_comma_turns r name a earlier ps = (λ h. ((h.0, h.1, refl), tt), λ h. (h.0.0, h.0.1))

-- the bracket that closes a left term after an argument keeps the limits
pub left_closed_then_turns : (r : Ruling) (name a : Name) (earlier : List Name) (ps : List Piece)
    → Turns (LeftRead r name a earlier) (In inner.Close) ps (step (LeftRead r name a earlier) (In inner.Close))
left_closed_then_turns r name a earlier ps = (λ h. ((h.0, h.1, refl), tt), λ h. (h.0.0, h.0.1))

-- each further left argument keeps the limits exactly if the state is quiet
pub left_parted_turns : (r : Ruling) (name a b : Name) (earlier : List Name) (ps : List Piece)
    → Turns (LeftParted r name a earlier) (word b) ps (Some (LeftRead r name b (a ∷ earlier)))
left_parted_turns r name a b earlier ps =
    let more = left_more b (a ∷ earlier) in (
      λ h. let k = more.0 h.1 in ((h.0, k.0), (h.2, k.1, k.2)),
      λ h. (h.0.0, more.1 (h.0.1, h.1.1, h.1.2), h.1.0),
    )

-- A name that is `Com_` and digits names no target, and `Com_1` names none within `Com_1(`.
com_open : (a o : Bool) → (a && not true && o) ≡ false
com_open true o = refl
com_open false o = refl

other_open : (a o : Bool) → (a && not false && o) ≡ (a && o)
other_open true o = refl
other_open false o = refl

inside_com : (c v o : Bool) → (v ≡ true → c ≡ true) → ((c && o) ≡ false)
    ↔ (((v && o) ≡ false) × ((c && not v && o) ≡ false))
inside_com true true o k = (λ h. (h, refl), λ h. h.0)
inside_com true false o k = (λ h. (refl, h), λ h. h.1)
inside_com false true o k = let e = k refl in absurd (let f : false ≡ true = e in cc)
inside_com false false o k = (λ h. (refl, refl), λ h. refl)

-- a name after the arrow keeps the limits exactly if the state is quiet
pub arrowed_turns : (l : ArrowRead) (name : Name) (ps : List Piece) (v : Bool) → is_same name (codes "Com_1") ≡ v
    → Turns (Arrowed l) (word name) ps (Some (if v then ComNamed l else behind_target_name l Alone name))
arrowed_turns l name ps true e =
    let quiet : (is_com name && not (is_same name (codes "Com_1")) && is_open (first ps)) ≡ false
    = ap (λ (v : Bool). is_com name && not v && is_open (first ps)) e ∙ com_open (is_com name) (is_open (first ps)) in
    (λ h. (h, quiet), λ h. h.0)
arrowed_turns l name ps false e =
    let same : (is_com name && not (is_same name (codes "Com_1")) && is_open (first ps)) ≡
    (is_com name && is_open (first ps))
    = ap (λ (v : Bool). is_com name && not v && is_open (first ps)) e ∙ other_open (is_com name) (is_open (first ps)) in
    (λ h. (h.0, same ∙ h.1), λ h. (h.0, sym same ∙ h.1))

-- a name within `Com_1` keeps the limits exactly if the state is quiet
pub com_opened_turns : (l : ArrowRead) (name : Name) (ps : List Piece)
    → Turns (ComOpened l) (word name) ps (step (ComOpened l) (word name))
com_opened_turns l name ps =
    let inside =
    inside_com (is_com name) (is_same name (codes "Com_1")) (is_open (first ps))
    (λ e. ap is_com (same_equal name (codes "Com_1") e)) in
    (λ h. (h.0, inside.0 h.1), λ h. (h.0, inside.1 h.1))

-- the bracket after the target's name keeps the limits exactly if the pieces before it do
pub target_opened_turns : (a : Aimed) (ps : List Piece)
    → Turns (TargetNamed a) (In inner.Open) ps (step (TargetNamed a) (In inner.Open))
target_opened_turns a ps =
    let same = and_true (is_com a.name) in
    (λ h. ((h.0, same ∙ h.1), tt), λ h. (h.0.0, sym same ∙ h.0.1))
