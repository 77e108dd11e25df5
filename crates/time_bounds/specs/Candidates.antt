-- Components of places with the parts of their members' local answers that never change.
use Rattle.std.specs.Prelude.{◌≡◌, ℕ, Bool, true, false, List, [], ◌∷◌, map, Some, None, ⊤}
use Rattle.std.specs.List.{All}
use Rattle.model.specs.Programs.{Program}
use Rattle.outcome.specs.Reports.{NoSize, Unsized}
use Rattle.outcome.specs.Views.{size_of}
use Rattle.local_size.specs.LocalAnswers.{HasBound}
use Rattle.local_size.specs.declared.answer.LocalAnswer.{LocalAnswer}
use Rattle.local_size.specs.declared.answer.LocalAnswer.TheVariants as answers
use Rattle.cert_types.specs.cert_rules.Nodes.{ResultVariable, Member}
use Rattle.cert_types.specs.cert_rules.AcceptsSizes.{HasMemberShape, HasCycleShape, AcceptsUp, AcceptsLow}
use Rattle.cert_types.specs.cert_program.Setting.{setting_of}
use Rattle.cert_types.specs.Views.{result_variable_of, member_of}
use Rattle.cert_types.specs.declared.side_bound.Member as code
use Rattle.rvg_components.specs.declared.component.Component.{Component}
use Rattle.rvg_components.specs.Flows.{Locals, loops}
use Rattle.rvg_components.specs.Listing.{AreComponents, members_of}
use Rattle.time_bounds.specs.declared.candidates.Candidate.{Candidate}
use Rattle.time_bounds.specs.declared.candidates.SideBounds.{SideBounds}
use Rattle.time_bounds.specs.declared.candidates.SideBounds.TheVariants as side_bounds
use Rattle.time_bounds.specs.ProgramSizes.{AreLive, AreLocals, AreLocalsOf, AreMembers, lacks_side_bounds}
use Rattle.time_bounds.specs.Locals.{AreAnswered}

-- the places of a candidate
abbrev pub result_variables_in : Candidate → List ResultVariable
result_variables_in c = map result_variable_of c.result_variables.items

-- whether an answer is a local bound
abbrev pub is_bound : LocalAnswer → Bool
is_bound (answers.Bound l) = true
is_bound (answers.UnboundedSide l) = false
is_bound (answers.OutOfLimits t) = false

-- a result variable with its local bound
pub record IsMember (local : Locals) (result_variable : ResultVariable) (m : Member) : Type 0 where
  pub result_variable_is : m.result_variable ≡ result_variable
  pub bound_is : local result_variable.rule result_variable.place ≡ HasBound m.local

-- there is at least one member, and a component that doesn't loop has exactly one
pub record IsLone (looping : Bool) (result_variables : List ResultVariable) : Type 0 where
  pub only : looping ≡ false → (m : ResultVariable) × (result_variables ≡ m ∷ [])

-- each member of a component has an answer, and a component that doesn't loop has one member
pub record IsAnswered (locals : List (List LocalAnswer)) (c : Component) : Type 0 where
  pub answered : AreAnswered locals (members_of c)
  pub lone : IsLone c.looping (members_of c)

-- what the answers for the places give: why a member has no side bounds, or the only member, or the members of a loop
abbrev pub AreSideBounds : Locals → List ResultVariable → Bool → SideBounds → Type 0
AreSideBounds local result_variables looping (side_bounds.Lacking entry) =
    (why : NoSize) × (lacks_side_bounds local result_variables ≡ Some why) × (size_of entry ≡ Unsized why)
AreSideBounds local result_variables looping (side_bounds.Alone m) =
    (lacks_side_bounds local result_variables ≡ None) × (looping ≡ false) × AreMembers local result_variables (member_of m ∷ [])
AreSideBounds local result_variables looping (side_bounds.Loop members) =
    (lacks_side_bounds local result_variables ≡ None) × (looping ≡ true) × AreMembers local result_variables (map member_of members.items)

-- the side bounds are those of the only member, which doesn't loop, or of the members of a loop
abbrev pub IsSideBoundsOf : List code.Member → Bool → SideBounds → Type 0
IsSideBoundsOf members looping (side_bounds.Lacking entry) = ⊥
IsSideBoundsOf members looping (side_bounds.Alone m) = (looping ≡ false) × (members ≡ m ∷ [])
IsSideBoundsOf members looping (side_bounds.Loop ms) = (looping ≡ true) × (ms.items ≡ members)

-- the candidate has the members of a component, with their side bounds
pub record IsArmed (local : Locals) (component : Component) (c : Candidate) : Type 0 where
  pub result_variables_are : result_variables_in c ≡ members_of component
  pub side_bounds_are : AreSideBounds local (members_of component) component.looping c.side_bounds

-- each candidate has the members of one of these components, in order, with their side bounds
abbrev pub AreArmed : Locals → List Component → List Candidate → Type 0
AreArmed local [] [] = ⊤
AreArmed local [] (c ∷ cs) = ⊥
AreArmed local (x ∷ found) [] = ⊥
AreArmed local (x ∷ found) (c ∷ cs) = IsArmed local x c × AreArmed local found cs

-- a member's side bounds are accepted
pub record IsAccepted (p : Program) (m : Member) : Type 0 where
  pub shape : HasMemberShape (setting_of p) m
  pub up : AcceptsUp (setting_of p) m
  pub low : AcceptsLow (setting_of p) m

-- the side bounds of the members of a loop are accepted
pub record AreAccepted (p : Program) (members : List Member) : Type 0 where
  pub shape : HasCycleShape (setting_of p) members
  pub up : All (AcceptsUp (setting_of p)) members
  pub low : All (AcceptsLow (setting_of p)) members

abbrev pub HasAccepted : Program → SideBounds → Type 0
HasAccepted p (side_bounds.Lacking entry) = ⊤
HasAccepted p (side_bounds.Alone m) = IsAccepted p (member_of m)
HasAccepted p (side_bounds.Loop members) = AreAccepted p (map member_of members.items)

-- the places of the candidate have these answers, and its side bounds are accepted
pub record IsRightCandidate (p : Program) (pivots : ℕ) (local : Locals) (c : Candidate) : Type 0 where
  pub answered : AreLocalsOf p pivots local (result_variables_in c)
  pub side_bounds_are : AreSideBounds local (result_variables_in c) (loops (setting_of p) local (result_variables_in c)) c.side_bounds
  pub accepted : HasAccepted p c.side_bounds

-- these are the components of a program, in their order
pub record AreCandidatesOf (p : Program) (pivots : ℕ) (cs : List Candidate) : Type 0 where
  pub is_live : ℕ → Bool
  pub live : AreLive p pivots is_live
  pub local : Locals
  pub locals : AreLocals p pivots is_live local
  pub components : AreComponents (setting_of p) is_live local (map result_variables_in cs)
  pub each : All (IsRightCandidate p pivots local) cs
