-- The answer for a component is unique, if the answers for its places are.
use Rattle.std.proofs.Common.{◌≡◌, ◌-◌, ◌&&◌, ◌||◌, Bool, true, false, List, [], ◌∷◌, map, Option, Some, None, refl}
use Rattle.std.proofs.Common.{sym}
use Rattle.std.proofs.Common.{◌∙◌, ap, subst}
use Rattle.std.specs.List.{AllByRecursion, list_any}
use Rattle.std.proofs.lemmas.List.Elements.{recursion_from_All}
use Rattle.model.specs.Entries.{is_in}
use Rattle.model.specs.Paths.{pre}
use Rattle.cert_types.specs.cert_rules.Nodes.{ResultVariable, LocalBound, Member}
use Rattle.cert_types.specs.cert_rules.Known.{Table}
use Rattle.cert_types.specs.cert_rules.Setting.{Setting}
use Rattle.cert_types.specs.cert_rules.Reasons.{Reason, Shape, NotEmpty, Reached, NotZero, Move, Floor, SideBoundUp, SideBoundLow}
use Rattle.cert_types.specs.cert_rules.Reasons.{MissingTime, MissingSize, Nonlinear, Large, NotWeaker}
use Rattle.cert_types.specs.cert_rules.Checks.{spread_checks, cycle_checks}
use Rattle.cert_types.proofs.cert_rules.CheckLists.{passed_has_none, first_is_one}
use Rattle.cert_types.proofs.cert_rules.SizeReasons.{spread-passes, cycle-passes}
use Rattle.outcome.specs.Reports.{NoSize, SizeUnbounded, SizeHitLimit, SizeMissing, SizeNonlinear, SizeUntimed, SizeLarge}
use Rattle.local_size.specs.LocalAnswers.{Local, HasBound}
use Rattle.rvg_components.specs.Flows.{Locals, local_reads, value_flows, loops}
use Rattle.bound_fixpoint.specs.Derivations.{Node}
use Rattle.bound_fixpoint.specs.Searches.{SizeOutcome, SizedBy, Unsized}
use Rattle.bound_fixpoint.specs.Right.{IsReasonFor}
use Rattle.bound_fixpoint.proofs.Cases.{some_same}
use Rattle.time_bounds.specs.ProgramSizes.{unbounded_reason, limit_hit_reason, or_else, first_reason, lacks_side_bounds}
use Rattle.time_bounds.specs.ProgramSizes.{AnswersAlone, AnswersLoop, AnswersMembers, IsJudged, AnswersPlaces}

-- if two tests agree on each element, they agree on whether some element passes
any_same : (f g : ResultVariable → Bool) (ms : List ResultVariable) → AllByRecursion (λ m. f m ≡ g m) ms → list_any f ms ≡ list_any g ms
any_same f g [] h = refl
any_same f g (m ∷ ms) h =
    ap (λ (v : Bool). v || list_any f ms) h.0 ∙ ap (λ (v : Bool). g m || v) (any_same f g ms h.1)

-- the reason for a missing size that a reason of a node gives
abbrev size_reason_of : Reason → Option NoSize
size_reason_of Shape = None
size_reason_of NotEmpty = None
size_reason_of Reached = None
size_reason_of NotZero = None
size_reason_of (Move t) = None
size_reason_of Floor = None
size_reason_of (SideBoundUp t i) = None
size_reason_of (SideBoundLow t i) = None
size_reason_of (MissingTime t) = Some (SizeUntimed t)
size_reason_of (MissingSize t i) = Some (SizeMissing (record { rule = t; place = i }))
size_reason_of (Nonlinear t i) = Some (SizeNonlinear (record { rule = t; place = i }))
size_reason_of (Large n) = Some (SizeLarge n)
size_reason_of NotWeaker = None

size_reason_is : (why : NoSize) (r : Reason) → IsReasonFor why r → size_reason_of r ≡ Some why
size_reason_is (SizeUnbounded side ray kept) r h = absurd h
size_reason_is (SizeHitLimit t) r h = absurd h
size_reason_is (SizeMissing m) r h = ap size_reason_of h
size_reason_is (SizeNonlinear m) r h = ap size_reason_of h
size_reason_is (SizeUntimed t) r h = ap size_reason_of h
size_reason_is (SizeLarge n) r h = ap size_reason_of h

-- the reason of a check gives at most one reason for a missing size
size_reason_is_one : (v w : NoSize) (q r : Reason) → IsReasonFor v q → IsReasonFor w r → q ≡ r → v ≡ w
size_reason_is_one v w q r h k e = some_same v w (sym (size_reason_is v q h) ∙ (ap size_reason_of e ∙ size_reason_is w r k))

same_side_bounds : (l k : LocalBound) → HasBound l ≡ HasBound k → l ≡ k
same_side_bounds l k e = cc

-- a value flows by one list of answers exactly if it does by another with the same answer for the place that it flows
-- into
pub flow_same : (s : Setting) (f g : Locals) (m n : ResultVariable) → f n.rule n.place ≡ g n.rule n.place
    → value_flows s f m n ≡ value_flows s g m n
flow_same s f g m n e =
    ap (λ (x : Local). is_in m.rule (pre s.program n.rule) && local_reads s n x (m.place - 1)) e

module _ (s : Setting) (tab : Table) where
  -- the answer for the same members is unique
  spread_one : (members : List Member) (x y : SizeOutcome) → AnswersAlone s tab members x → AnswersAlone s tab members y
      → x ≡ y
  spread_one [] x y h k = absurd h
  spread_one (m ∷ []) (SizedBy b) (SizedBy c) h k = ap (λ (d : Node). SizedBy d) (h.0 ∙ sym k.0)
  spread_one (m ∷ []) (SizedBy b) (Unsized w) h k =
      absurd (passed_has_none (spread_checks s tab m) (spread-passes s tab m h.1) k.0 k.2)
  spread_one (m ∷ []) (Unsized v) (SizedBy c) h k =
      absurd (passed_has_none (spread_checks s tab m) (spread-passes s tab m k.1) h.0 h.2)
  spread_one (m ∷ []) (Unsized v) (Unsized w) h k =
      ap (λ (n : NoSize). Unsized n)
      (size_reason_is_one v w h.0 k.0 h.1 k.1 (first_is_one (spread_checks s tab m) h.0 k.0 h.2 k.2))
  spread_one (m ∷ n ∷ members) x y h k = absurd h

  cycle_one : (members : List Member) (x y : SizeOutcome) → AnswersLoop s tab members x → AnswersLoop s tab members y
      → x ≡ y
  cycle_one members (SizedBy b) (SizedBy c) h k = ap (λ (d : Node). SizedBy d) (h.0 ∙ sym k.0)
  cycle_one members (SizedBy b) (Unsized w) h k =
      absurd (passed_has_none (cycle_checks s tab members) (cycle-passes s tab members h.1) k.0 k.2)
  cycle_one members (Unsized v) (SizedBy c) h k =
      absurd (passed_has_none (cycle_checks s tab members) (cycle-passes s tab members k.1) h.0 h.2)
  cycle_one members (Unsized v) (Unsized w) h k =
      ap (λ (n : NoSize). Unsized n)
      (size_reason_is_one v w h.0 k.0 h.1 k.1 (first_is_one (cycle_checks s tab members) h.0 k.0 h.2 k.2))

  by_one : (v : Bool) (members : List Member) (x y : SizeOutcome) → AnswersMembers v s tab members x → AnswersMembers v s tab members y
      → x ≡ y
  by_one false members x y h k = spread_one members x y h k
  by_one true members x y h k = cycle_one members x y h k

  -- two lists of answers that agree on the places of a list
  module _ (f g : Locals) where
    abbrev IsSameAt : ResultVariable → Type 0
    IsSameAt m = f m.rule m.place ≡ g m.rule m.place

    loops_same : (result_variables : List ResultVariable) → AllByRecursion IsSameAt result_variables → loops s f result_variables ≡ loops s g result_variables
    loops_same result_variables h =
        any_same (λ n. list_any (λ m. value_flows s f m n) result_variables) (λ n. list_any (λ m. value_flows s g m n) result_variables) result_variables
        (outer result_variables h)
      where
        inner : (n : ResultVariable) → IsSameAt n → (ms : List ResultVariable)
            → AllByRecursion (λ m. value_flows s f m n ≡ value_flows s g m n) ms
        inner n e [] = tt
        inner n e (m ∷ ms) = (flow_same s f g m n e, inner n e ms)

        outer : (ns : List ResultVariable) → AllByRecursion IsSameAt ns
            → AllByRecursion (λ n. list_any (λ m. value_flows s f m n) result_variables ≡ list_any (λ m. value_flows s g m n) result_variables) ns
        outer [] k = tt
        outer (n ∷ ns) k =
            (any_same (λ m. value_flows s f m n) (λ m. value_flows s g m n) result_variables (inner n k.0 result_variables), outer ns k.1)

    reason_same : (reason : Local → Option NoSize) (result_variables : List ResultVariable) → AllByRecursion IsSameAt result_variables
        → first_reason reason f result_variables ≡ first_reason reason g result_variables
    reason_same reason [] h = refl
    reason_same reason (m ∷ result_variables) h =
        ap (λ (x : Local). or_else (reason x) (first_reason reason f result_variables)) h.0
        ∙ ap (λ (o : Option NoSize). or_else (reason (g m.rule m.place)) o) (reason_same reason result_variables h.1)

    lacks_same : (result_variables : List ResultVariable) → AllByRecursion IsSameAt result_variables → lacks_side_bounds f result_variables ≡ lacks_side_bounds g result_variables
    lacks_same result_variables h =
        ap (λ (o : Option NoSize). or_else o (first_reason limit_hit_reason f result_variables)) (reason_same unbounded_reason result_variables h)
        ∙ ap (λ (o : Option NoSize). or_else (first_reason unbounded_reason g result_variables) o) (reason_same limit_hit_reason result_variables h)

    -- the members with their local bounds are the same
    members_one : (result_variables : List ResultVariable) (ms ns : List Member) → result_variables ≡ map (λ m. m.result_variable) ms → result_variables ≡ map (λ n. n.result_variable) ns
        → AllByRecursion IsSameAt result_variables
        → AllByRecursion (λ (m : Member). f m.result_variable.rule m.result_variable.place ≡ HasBound m.local) ms
        → AllByRecursion (λ (n : Member). g n.result_variable.rule n.result_variable.place ≡ HasBound n.local) ns → ms ≡ ns
    members_one result_variables [] [] a b same h k = refl
    members_one [] [] (n ∷ ns) a b same h k = absurd (let none : ⊥ = cc in none)
    members_one (x ∷ result_variables) [] ns a b same h k = absurd (let none : ⊥ = cc in none)
    members_one [] (m ∷ ms) ns a b same h k = absurd (let none : ⊥ = cc in none)
    members_one (x ∷ result_variables) (m ∷ ms) [] a b same h k = absurd (let none : ⊥ = cc in none)
    members_one (x ∷ result_variables) (m ∷ ms) (n ∷ ns) a b same h k =
        let first : x ≡ m.result_variable = cc in
        let second : x ≡ n.result_variable = cc in
        let others : result_variables ≡ map (λ m. m.result_variable) ms = cc in
        let rest : result_variables ≡ map (λ n. n.result_variable) ns = cc in
        let left = subst (λ (z : ResultVariable). f z.rule z.place ≡ HasBound m.local) (sym first) h.0 in
        let right = subst (λ (z : ResultVariable). g z.rule z.place ≡ HasBound n.local) (sym second) k.0 in
        let side_bounds = same_side_bounds m.local n.local (sym left ∙ (same.0 ∙ right)) in
        joined (together (sym first ∙ second) side_bounds) (members_one result_variables ms ns others rest same.1 h.1 k.1)
      where
        together : m.result_variable ≡ n.result_variable → m.local ≡ n.local → m ≡ n
        together p q = λ i. record { result_variable = p i; local = q i }

        joined : m ≡ n → ms ≡ ns → m ∷ ms ≡ n ∷ ns
        joined p q = ap (λ (z : Member). z ∷ ms) p ∙ ap (λ (zs : List Member). n ∷ zs) q

    -- the answer for the component is unique
    judged_one : (result_variables : List ResultVariable) → AllByRecursion IsSameAt result_variables → (x y : SizeOutcome) → IsJudged s tab f result_variables x
        → IsJudged s tab g result_variables y → x ≡ y
    judged_one result_variables same x y h k =
        let members = members_one result_variables h.members k.members h.are_members.result_variables_are k.are_members.result_variables_are same
        (recursion_from_All (λ (m : Member). f m.result_variable.rule m.result_variable.place ≡ HasBound m.local) h.members
        h.are_members.bounds_are)
        (recursion_from_All (λ (n : Member). g n.result_variable.rule n.result_variable.place ≡ HasBound n.local) k.members
        k.are_members.bounds_are) in
        let moved = subst (λ (v : Bool). AnswersMembers v s tab h.members x) (loops_same result_variables same) h.sizing in
        by_one (loops s g result_variables) k.members x y
        (subst (λ (ms : List Member). AnswersMembers (loops s g result_variables) s tab ms x) members moved) k.sizing

    of_one : (result_variables : List ResultVariable) → AllByRecursion IsSameAt result_variables → (o : Option NoSize) (x y : SizeOutcome)
        → AnswersPlaces s tab f result_variables o x → AnswersPlaces s tab g result_variables o y → x ≡ y
    of_one result_variables same (Some why) x y h k = h ∙ sym k
    of_one result_variables same None x y h k = judged_one result_variables same x y h k

    pub sizing_one : (result_variables : List ResultVariable) → AllByRecursion IsSameAt result_variables → (x y : SizeOutcome)
        → AnswersPlaces s tab f result_variables (lacks_side_bounds f result_variables) x → AnswersPlaces s tab g result_variables (lacks_side_bounds g result_variables) y → x ≡ y
    sizing_one result_variables same x y h k =
        of_one result_variables same (lacks_side_bounds g result_variables) x y
        (subst (λ (o : Option NoSize). AnswersPlaces s tab f result_variables o x) (lacks_same result_variables same) h) k
