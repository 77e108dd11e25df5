-- The result of trying a component.
use Rattle.std.proofs.Common.{◌≡◌, ℕ, ◌||◌, Bool, true, false, List, [], ◌∷◌, ◌++◌, map, Option, None, refl, sym, ◌∙◌, ap, subst}
use Rattle.std.specs.Prelude.{Vec, IfOk, OnOk}
use Rattle.std.specs.declared.alloc.Global.{Global}
use Rattle.std.specs.declared.result.Result.{Result}
use Rattle.std.specs.declared.result.Result.TheVariants.{Ok, Err}
use Rattle.std.proofs.lemmas.List.{append-nil}
use Rattle.model.specs.Programs.{Program}
use Rattle.model.proofs.Membership.{no_is_not_yes}
use Rattle.bound_expr.specs.Views.{bound_of}
use Rattle.its_model.specs.Valid.{IsValid}
use Rattle.its_graph.specs.declared.graph.Graph.{Graph}
use Rattle.its_graph.specs.Graphs.{IsGraphOf}
use Rattle.guard_prep.specs.declared.rule_rows.RuleRows.{RuleRows}
use Rattle.outcome.specs.Reports.{NoSize, SizeMissing, SizeNonlinear, SizeUntimed, SizeLarge}
use Rattle.outcome.specs.declared.entry.SizeEntry.{SizeEntry}
use Rattle.cert_types.specs.declared.side_bound.Member as code
use Rattle.cert_types.specs.cert_rules.Nodes.{ResultVariable, Member}
use Rattle.cert_types.specs.cert_program.Setting.{setting_of}
use Rattle.cert_types.specs.Composing.{AreRowsOf}
use Rattle.cert_types.specs.Views.{result_variable_of, member_of}
use Rattle.rvg_components.specs.Flows.{Locals, loops}
use Rattle.bound_fixpoint.specs.Keys.{Bounds, at_key, has_key, lacks, over}
use Rattle.bound_fixpoint.specs.Derivations as plain
use Rattle.bound_fixpoint.specs.Derivations.{SpreadBy, CycleBy, bounds_of}
use Rattle.bound_fixpoint.specs.Needs.{needs_of}
use Rattle.bound_fixpoint.specs.Justification.{composed_bound}
use Rattle.bound_fixpoint.specs.Searches as searches
use Rattle.bound_fixpoint.specs.Searches.{OfSize, SizedBy, Unsized}
use Rattle.bound_fixpoint.specs.Answers as told
use Rattle.bound_fixpoint.specs.Answers.{SizesOf, are_open}
use Rattle.bound_fixpoint.specs.Rounds.{Tries}
use Rattle.bound_fixpoint.proofs.DerivationLists.{found-here, found_known}
use Rattle.bound_fixpoint.proofs.Keys.{has_key-first, has_key-later}
use Rattle.bound_derivations.specs.declared.derivation.Derivation.{Derivation}
use Rattle.bound_derivations.specs.Views.{derivations_of}
use Rattle.size_nodes.specs.Members.{IsMemberOfProgram, AreMembersOfProgram}
use Rattle.size_nodes.specs.Sizings as coded
use Rattle.size_nodes.specs.declared.sizing.Sizing.{Sizing}
use Rattle.size_nodes.specs.declared.sizing.Sizing.TheVariants as answers
use Rattle.time_bounds.specs.declared.candidates.Candidate.{Candidate}
use Rattle.time_bounds.specs.declared.candidates.SideBounds.{SideBounds}
use Rattle.time_bounds.specs.declared.candidates.SideBounds.TheVariants as side_bounds
use Rattle.time_bounds.specs.declared.sizing.ComponentAttempt.{ComponentAttempt}
use Rattle.time_bounds.specs.declared.sizing.ComponentAttempt.TheVariants as attempts
use Rattle.time_bounds.specs.Candidates.{result_variables_in, AreSideBounds, HasAccepted, IsRightCandidate}
use Rattle.time_bounds.specs.ProgramSizes.{AreMembers, AnswersMembers, AnswersPlaces, lacks_side_bounds}
use Rattle.time_bounds.specs.ProgramSearches.{searches_of_program}
use Rattle.time_bounds.specs.Attempts.{why_in, why_armless, attempt_by, derivations_by, LacksSize}
use Rattle.time_bounds.specs.Attempts.{IsSizeStep}

-- the answer for a component over bounds
abbrev pub IsSized : Program → ℕ → Bounds → Candidate → searches.SizeOutcome → Type 0
IsSized p pivots b c answer = (searches_of_program p pivots).Sizes b (result_variables_in c) answer

-- the result of an answer: the node with its premises and the bound that it composes, or why there is none
abbrev pub Gives : Program → ℕ → Bounds → Candidate → plain.Node → Sizing → Type 0
Gives p pivots b c node (answers.Found premises bound) = IsSized p pivots b c (SizedBy node)
    × (map result_variable_of premises.items ≡ needs_of (setting_of p) b node) × (bound_of bound ≡ composed_bound (setting_of p) b node)
Gives p pivots b c node (answers.Missing m) = IsSized p pivots b c (Unsized (SizeMissing (result_variable_of m)))
Gives p pivots b c node (answers.Nonlinear m) = IsSized p pivots b c (Unsized (SizeNonlinear (result_variable_of m)))
Gives p pivots b c node (answers.Untimed t) = IsSized p pivots b c (Unsized (SizeUntimed t))
Gives p pivots b c node (answers.Large n) = IsSized p pivots b c (Unsized (SizeLarge n))

-- the side bounds of a candidate, as plain data
pub side_bounds_seen : (p : Program) (pivots : ℕ) (local : Locals) (c : Candidate) (x : SideBounds) → IsRightCandidate p pivots local c → c.side_bounds ≡ x
    → AreSideBounds local (result_variables_in c) (loops (setting_of p) local (result_variables_in c)) x
side_bounds_seen p pivots local c x h e = subst (λ (y : SideBounds). AreSideBounds local (result_variables_in c) (loops (setting_of p) local (result_variables_in c)) y) e h.side_bounds_are

accepted_seen : (p : Program) (pivots : ℕ) (local : Locals) (c : Candidate) (x : SideBounds) → IsRightCandidate p pivots local c → c.side_bounds ≡ x → HasAccepted p x
accepted_seen p pivots local c x h e = subst (λ (y : SideBounds). HasAccepted p y) e h.accepted

-- the answer for a component by its members' side bounds is that for the component
pub judged : (p : Program) (pivots : ℕ) (local : Locals) (c : Candidate) (b : Bounds) (looping : Bool) (members : List Member)
    (answer : searches.SizeOutcome) → IsRightCandidate p pivots local c → lacks_side_bounds local (result_variables_in c) ≡ None
    → loops (setting_of p) local (result_variables_in c) ≡ looping → AreMembers local (result_variables_in c) members
    → AnswersMembers looping (setting_of p) (over b) members answer → IsSized p pivots b c answer
judged p pivots local c b looping members answer h armed turns are by = (
  local,
  h.answered,
  subst (λ (o : Option NoSize). AnswersPlaces (setting_of p) (over b) local (result_variables_in c) o answer) (sym armed) record {
    members = members;
    are_members = are;
    sizing = subst (λ (v : Bool). AnswersMembers v (setting_of p) (over b) members answer) (sym turns) by;
  },
)

-- the answer for the only member
pub spread_gives : (p : Program) (pivots : ℕ) (local : Locals) (c : Candidate) (m : code.Member) (b : Bounds) (a : Sizing)
    → IsRightCandidate p pivots local c → c.side_bounds ≡ side_bounds.Alone m → coded.IsSpreadSizing (setting_of p) (over b) (member_of m) a
    → Gives p pivots b c (SpreadBy (member_of m)) a
spread_gives p pivots local c m b a h e says = go a says
  where
    seen : AreSideBounds local (result_variables_in c) (loops (setting_of p) local (result_variables_in c)) (side_bounds.Alone m)
    seen = side_bounds_seen p pivots local c (side_bounds.Alone m) h e

    size : (answer : searches.SizeOutcome) → AnswersMembers false (setting_of p) (over b) (member_of m ∷ []) answer → IsSized p pivots b c answer
    size answer by = judged p pivots local c b false (member_of m ∷ []) answer h seen.0 seen.1 seen.2 by

    go : (a : Sizing) → coded.IsSpreadSizing (setting_of p) (over b) (member_of m) a → Gives p pivots b c (SpreadBy (member_of m)) a
    go (answers.Found premises bound) (accepted, needed, composed) =
        (size (SizedBy (SpreadBy (member_of m))) (refl, accepted), needed, composed)
    go (answers.Missing x) first = size (Unsized (SizeMissing (result_variable_of x))) (_, refl, first)
    go (answers.Nonlinear x) never = absurd never
    go (answers.Untimed t) never = absurd never
    go (answers.Large n) first = size (Unsized (SizeLarge n)) (_, refl, first)

-- the answer for the members of a loop
pub cycle_gives : (p : Program) (pivots : ℕ) (local : Locals) (c : Candidate) (ms : Vec code.Member Global) (b : Bounds) (a : Sizing)
    → IsRightCandidate p pivots local c → c.side_bounds ≡ side_bounds.Loop ms
    → coded.IsCycleSizing (setting_of p) (over b) (map member_of ms.items) a
    → Gives p pivots b c (CycleBy (map member_of ms.items)) a
cycle_gives p pivots local c ms b a h e says = go a says
  where
    seen : AreSideBounds local (result_variables_in c) (loops (setting_of p) local (result_variables_in c)) (side_bounds.Loop ms)
    seen = side_bounds_seen p pivots local c (side_bounds.Loop ms) h e

    size : (answer : searches.SizeOutcome) → AnswersMembers true (setting_of p) (over b) (map member_of ms.items) answer → IsSized p pivots b c answer
    size answer by = judged p pivots local c b true (map member_of ms.items) answer h seen.0 seen.1 seen.2 by

    go : (a : Sizing) → coded.IsCycleSizing (setting_of p) (over b) (map member_of ms.items) a
        → Gives p pivots b c (CycleBy (map member_of ms.items)) a
    go (answers.Found premises bound) (accepted, needed, composed) =
        (size (SizedBy (CycleBy (map member_of ms.items))) (refl, accepted), needed, composed)
    go (answers.Missing x) first = size (Unsized (SizeMissing (result_variable_of x))) (_, refl, first)
    go (answers.Nonlinear x) first = size (Unsized (SizeNonlinear (result_variable_of x))) (_, refl, first)
    go (answers.Untimed t) first = size (Unsized (SizeUntimed t)) (_, refl, first)
    go (answers.Large n) first = size (Unsized (SizeLarge n)) (_, refl, first)

-- trying a component that has its sizes gives no derivation
pub known_step : (p : Program) (pivots : ℕ) (old : List Derivation) (c : Candidate) → are_open (bounds_of p (derivations_of old)) (result_variables_in c) ≡ false
    → IsSizeStep p pivots old c attempts.Known old
known_step p pivots old c closed = record {
  more = [];
  tries = record {
    known = λ e. refl;
    tried = λ e. absurd (no_is_not_yes (are_open (bounds_of p (derivations_of old)) (result_variables_in c)) closed e);
  };
  grown = sym (append-nil (derivations_of old));
  attempt = closed;
  found = λ e. absurd (no_is_not_yes false refl e);
}

-- trying a component that lacks a size gives none, if the answer has none
pub lacking_tries : (p : Program) (pivots : ℕ) (fs : List plain.Derivation) (c : Candidate) (x : ComponentAttempt)
    → LacksSize p pivots (bounds_of p fs) c x → Tries (searches_of_program p pivots) (setting_of p) fs (SizesOf (result_variables_in c)) []
lacking_tries p pivots fs c x h = record {
  known = λ e. refl;
  tried = λ e. (
    told.Lacks (OfSize h.why),
    record { answer = Unsized h.why; answered = h.answered; is_answer = refl },
    refl,
  );
}

pub failed_step : (p : Program) (pivots : ℕ) (old : List Derivation) (c : Candidate) (a : Sizing)
    → LacksSize p pivots (bounds_of p (derivations_of old)) c (attempts.Failed a) → IsSizeStep p pivots old c (attempts.Failed a) old
failed_step p pivots old c a h = record {
  more = [];
  tries = lacking_tries p pivots (derivations_of old) c (attempts.Failed a) h;
  grown = sym (append-nil (derivations_of old));
  attempt = h;
  found = λ e. absurd (no_is_not_yes false refl e);
}

-- trying a component with a member without side bounds gives no derivation
pub armless : (p : Program) (pivots : ℕ) (local : Locals) (old : List Derivation) (c : Candidate) (entry : SizeEntry)
    → IsRightCandidate p pivots local c → c.side_bounds ≡ side_bounds.Lacking entry → are_open (bounds_of p (derivations_of old)) (result_variables_in c) ≡ true
    → IsSizeStep p pivots old c attempts.HasNoSideBound old
armless p pivots local old c entry h e unsized = record {
  more = [];
  tries = lacking_tries p pivots (derivations_of old) c attempts.HasNoSideBound lacks_it;
  grown = sym (append-nil (derivations_of old));
  attempt = lacks_it;
  found = λ k. absurd (no_is_not_yes false refl k);
}
  where
    seen : AreSideBounds local (result_variables_in c) (loops (setting_of p) local (result_variables_in c)) (side_bounds.Lacking entry)
    seen = side_bounds_seen p pivots local c (side_bounds.Lacking entry) h e

    lacks_it : LacksSize p pivots (bounds_of p (derivations_of old)) c attempts.HasNoSideBound
    lacks_it = record {
      unsized = unsized;
      why = seen.0;
      says = ap why_armless e ∙ ap why_in seen.2;
      answered = (
        local,
        h.answered,
        subst (λ (o : Option NoSize). AnswersPlaces (setting_of p) (over (bounds_of p (derivations_of old))) local (result_variables_in c) o
            (Unsized seen.0)) (sym seen.1) refl,
      );
    }

-- if each of these keys is known, none is missing
closed_by : (b : Bounds) (keys : List ResultVariable) → ((t i : ℕ) → has_key keys t i ≡ true → lacks (b t i) ≡ false) → are_open b keys ≡ false
closed_by b [] f = refl
closed_by b (k ∷ keys) f =
    join (lacks (at_key b k)) (are_open b keys) (f k.rule k.place (has_key-first k keys))
    (closed_by b keys (λ t i m. f t i (has_key-later k keys t i m)))
  where
    join : (v w : Bool) → v ≡ false → w ≡ false → (v || w) ≡ false
    join true w e g = absurd (no_is_not_yes true e refl)
    join false w e g = g

-- no key of a derivation is missing after it
pub found_closed : (p : Program) (fs : List plain.Derivation) (f : plain.Derivation) → are_open (bounds_of p (fs ++ f ∷ [])) f.keys ≡ false
found_closed p fs f =
    closed_by (bounds_of p (fs ++ f ∷ [])) f.keys
    (λ t i m. found_known p fs (f ∷ []) t i (ap lacks (found-here f [] t i m)))

-- taking an answer is a step of the round
pub taken : (p : Program) (pivots : ℕ) (old new : List Derivation) (c : Candidate) (node : plain.Node) (a : Sizing) (x : ComponentAttempt)
    → are_open (bounds_of p (derivations_of old)) (result_variables_in c) ≡ true → Gives p pivots (bounds_of p (derivations_of old)) c node a
    → x ≡ attempt_by a → derivations_of new ≡ derivations_of old ++ derivations_by (result_variables_in c) node a → IsSizeStep p pivots old c x new
taken p pivots old new c node a x unsized gives is grown =
    subst (λ (y : ComponentAttempt). IsSizeStep p pivots old c y new) (sym is) (go a gives grown)
  where
    -- the answer gives no size
    lacking : (b : Sizing) → (lacks_it : LacksSize p pivots (bounds_of p (derivations_of old)) c (attempts.Failed b))
        → derivations_of new ≡ derivations_of old ++ [] → IsSizeStep p pivots old c (attempts.Failed b) new
    lacking b h e = record {
      more = [];
      tries = lacking_tries p pivots (derivations_of old) c (attempts.Failed b) h;
      grown = e;
      attempt = h;
      found = λ k. absurd (no_is_not_yes false refl k);
    }

    go : (b : Sizing) → Gives p pivots (bounds_of p (derivations_of old)) c node b → derivations_of new ≡ derivations_of old ++ derivations_by (result_variables_in c) node b
        → IsSizeStep p pivots old c (attempt_by b) new
    go (answers.Found premises bound) (sized, needed, composed) e =
        let f : plain.Derivation = record {
          keys = result_variables_in c;
          node = node;
          premises = map result_variable_of premises.items;
          bound = bound_of bound;
        } in record {
          more = f ∷ [];
          tries = record {
            known = λ k. absurd (no_is_not_yes (are_open (bounds_of p (derivations_of old)) (result_variables_in c)) k unsized);
            tried = λ k. (
              told.Found node (map result_variable_of premises.items) (bound_of bound),
              record { answer = SizedBy node; answered = sized; is_answer = λ i. told.Found node (needed i) (composed i) },
              refl,
            );
          };
          grown = e;
          attempt = unsized;
          found = λ k.
              subst (λ (fs : List plain.Derivation). are_open (bounds_of p fs) (result_variables_in c) ≡ false) (sym e)
              (found_closed p (derivations_of old) f);
        }
    go (answers.Missing m) h e = lacking (answers.Missing m)
        (record { unsized = unsized; why = SizeMissing (result_variable_of m); says = refl; answered = h }) e
    go (answers.Nonlinear m) h e = lacking (answers.Nonlinear m)
        (record { unsized = unsized; why = SizeNonlinear (result_variable_of m); says = refl; answered = h }) e
    go (answers.Untimed t) h e = lacking (answers.Untimed t)
        (record { unsized = unsized; why = SizeUntimed t; says = refl; answered = h }) e
    go (answers.Large k) h e = lacking (answers.Large k)
        (record { unsized = unsized; why = SizeLarge k; says = refl; answered = h }) e

-- the input of the search for the size of the only member
pub given_alone : (p : Program) (pivots : ℕ) (local : Locals) (c : Candidate) (m : code.Member) (g : Graph) (prepared_rules : List RuleRows)
    → IsValid p → IsGraphOf g p → AreRowsOf prepared_rules p → IsRightCandidate p pivots local c → c.side_bounds ≡ side_bounds.Alone m → IsMemberOfProgram p g prepared_rules (member_of m)
given_alone p pivots local c m g prepared_rules valid graph rows h e =
    let k = accepted_seen p pivots local c (side_bounds.Alone m) h e in
    record { valid = valid; graph = graph; rows = rows; shape = k.shape; up = k.up; low = k.low }

-- the input of the search for the size of the members of a loop
pub given_loop : (p : Program) (pivots : ℕ) (local : Locals) (c : Candidate) (ms : Vec code.Member Global) (g : Graph) (prepared_rules : List RuleRows)
    → IsValid p → IsGraphOf g p → AreRowsOf prepared_rules p → IsRightCandidate p pivots local c → c.side_bounds ≡ side_bounds.Loop ms
    → AreMembersOfProgram p g prepared_rules (map member_of ms.items)
given_loop p pivots local c ms g prepared_rules valid graph rows h e =
    let k = accepted_seen p pivots local c (side_bounds.Loop ms) h e in
    record { valid = valid; graph = graph; rows = rows; shape = k.shape; up = k.up; low = k.low }

-- a property of a result, from one of its value and one of the derivations
pub all_taken : {T E : Type 0} (r : Result T E) (P R : T → Type 0) (Q : Type 0) → ((x : T) → P x → Q → R x) → IfOk r P → OnOk r Q → IfOk r R
all_taken (Ok x) P R Q f p q = f x p q
all_taken (Err e) P R Q f p q = tt
