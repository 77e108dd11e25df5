-- Points where reading can stop: no fault that is still to come is before the fault so far.
use Rattle.std.specs.Prelude.{◌≡◌, ℕ, ◌+◌, ◌-◌, ◌≤◌, ◌<◌, Bool, true, false, nat_lt, ◌==◌, ◌&&◌, ◌||◌, if◌then◌else◌}
use Rattle.std.specs.Prelude.{List, [], ◌∷◌, ◌++◌, Option, Some, None, ◌⊎◌, ⊤, refl}
use Rattle.std.proofs.Common.{ap, ◌∙◌, inl, inr, arith}
use Rattle.std.proofs.lemmas.Bool.Decides.{nat_tests}
use Rattle.text_core.specs.Tokens.{Token, AreInOrder}
use Rattle.text_core.specs.Readers.{Fault}
use Rattle.text_core.specs.Faults.{Among, next_at, stop_kind_at}
use Rattle.text_core.specs.Reading.{Refused, Stopped, Going, is_before, first_among, ended, further, run}
use Rattle.poly_terms.specs.Faults as polynomials
use Rattle.its_text.specs.expr_text.Trees.{Sum}
use Rattle.its_text.specs.expr_text.Pieces as inner
use Rattle.its_text.specs.expr_text.Steps as expression_steps
use Rattle.its_text.specs.expr_text.GuardGrammarStates.{GuardGrammarState, LeftSide, RightSide}
use Rattle.its_text.specs.expr_text.StateNames.{before_expression}
use Rattle.model.specs.Programs.{Name}
use Rattle.its_text.specs.Pieces.{Piece}
use Rattle.its_text.specs.Written.{Section}
use Rattle.its_text.specs.Numbering.{left_names}
use Rattle.its_text.specs.GrammarStates.{GrammarState, Costing, Arguing, MarkGuarding, SquareGuarding}
use Rattle.its_text.specs.StateNames.{names_with, headed_names}
use Rattle.its_text.specs.Kinds.{Kind, kind_number, ArityDiffers}
use Rattle.its_text.specs.Grammar.{programs}
use Rattle.its_text.specs.Steps.{step, finish}
use Rattle.its_text.specs.StateFaults as shown
use Rattle.its_text.specs.StateFaults.{Tokens, FaultList, fault_if, last_byte, next_piece, piece_behind}
use Rattle.its_text.specs.StateFaults.{expansion_faults, argument_faults, right_side_faults, ends_expression}
use Rattle.its_text.specs.StateFaults.{atom_faults, ended_faults, next_faults, last_faults}
use Rattle.its_text.proofs.Positions.{stands, split, among_at, next_stands, last_at}

-- a fault at a later position is not before another
later : (x y : Fault Kind) → x.at < y.at → is_before programs y x ≡ false
later x y h = both (nat_lt y.at x.at) refl (y.at == x.at) refl
  where
    both : (v : Bool) → nat_lt y.at x.at ≡ v → (w : Bool) → (y.at == x.at) ≡ w
        → v || (w && nat_lt (kind_number y.kind) (kind_number x.kind)) ≡ false
    both true e w k = absurd (grind (arith, nat_tests))
    both false e true k = absurd (grind (arith, nat_tests))
    both false e false k = refl

-- of two faults at one position, one with a number that isn't less isn't before the other
no_less : (x y : Fault Kind) → x.at ≤ y.at → kind_number x.kind ≤ kind_number y.kind → is_before programs y x ≡ false
no_less x y h n = both (nat_lt y.at x.at) refl (nat_lt (kind_number y.kind) (kind_number x.kind)) refl (y.at == x.at)
  where
    both : (v : Bool) → nat_lt y.at x.at ≡ v → (w : Bool) → nat_lt (kind_number y.kind) (kind_number x.kind) ≡ w
        → (u : Bool) → v || (u && w) ≡ false
    both true e w k u = absurd (grind (arith, nat_tests))
    both false e true k u = absurd (grind (arith, nat_tests))
    both false e false k true = refl
    both false e false k false = refl

-- no fault of a list is before this one
abbrev pub NoneBefore : Fault Kind → FaultList → Type 0
NoneBefore x [] = ⊤
NoneBefore x (y ∷ ys) = (is_before programs y x ≡ false) × NoneBefore x ys

stays_among : (x : Fault Kind) (ys : FaultList) → NoneBefore x ys → first_among programs (Some x) ys ≡ Some x
stays_among x [] h = refl
stays_among x (y ∷ ys) h = ap (λ (v : Bool). first_among programs (Some (if v then y else x)) ys) h.0
    ∙ stays_among x ys h.1

none_of : (x : Fault Kind) (ys : FaultList) → ((y : Fault Kind) → Among y ys → is_before programs y x ≡ false)
    → NoneBefore x ys
none_of x [] h = tt
none_of x (y ∷ ys) h = (h y (inl refl), none_of x ys (λ z a. h z (inr a)))

-- once a fault has stopped the reading it is the answer, whatever is left
pub stopped_is : (n : ℕ) (x : Fault Kind) (rest : Tokens) → run programs n (Stopped x) rest ≡ Refused x
stopped_is n x [] = refl
stopped_is n x (t ∷ rest) = refl

-- at the end of a text the fault so far is the answer if no fault found there is before it
ended_stays : (n : ℕ) (x stop_kind : Fault Kind) (o : Option (List Section)) → is_before programs stop_kind x ≡ false
    → ended programs (Some x) o stop_kind ≡ Refused x
ended_stays n x stop_kind (Some t) h = refl
ended_stays n x stop_kind None h = ap (λ (v : Bool). Refused (if v then stop_kind else x)) h

further_stays : (n : ℕ) (x stop_kind : Fault Kind) (done : Tokens) (t : Token Piece) (rest : Tokens)
    (o : Option GrammarState) → is_before programs stop_kind x ≡ false
    → ((g : GrammarState) → o ≡ Some g → run programs n (Going (Some x) (t ∷ done) g) rest ≡ Refused x)
    → run programs n (further programs (Some x) done t o stop_kind) rest ≡ Refused x
further_stays n x stop_kind done t rest None h go = ap
    (λ (v : Bool). run programs n (Stopped (if v then stop_kind else x)) rest) h ∙ stopped_is n x rest
further_stays n x stop_kind done t rest (Some g) h go = go g refl

-- tokens in order from a position on are in order from each position before it
pub ordered : (ts : Tokens) (a b n : ℕ) → b ≤ a → AreInOrder a ts n → AreInOrder b ts n
ordered [] a b n h o = omega (arith, h, o)
ordered (t ∷ ts) a b n h o = ((let p = o.0 in omega (arith, h, p)), o.1, o.2)

-- a fault before the last byte that was read is the answer
pub answer_before : (rest : Tokens) (n : ℕ) (done : Tokens) (f : GrammarState) (x : Fault Kind) → x.at < last_byte done
    → AreInOrder (last_byte done + 1) rest n → run programs n (Going (Some x) done f) rest ≡ Refused x
answer_before [] n done f x h o =
    ap (λ b. ended programs b (finish f) (stop_kind_at programs n f []))
    (stays_among x (shown.faults_of_state n done f []) (none_of x _ (λ y a. state y (stands n done f [] y a))))
    ∙ ended_stays n x (stop_kind_at programs n f []) (finish f)
    (later x (stop_kind_at programs n f []) (omega (arith, h, o)))
  where
    state : (y : Fault Kind) → (y.at ≡ last_byte done) ⊎ (y.at ≡ n) → is_before programs y x ≡ false
    state y (inl e) = later x y (omega (arith, h, e))
    state y (inr e) = later x y (omega (arith, h, o, e))
answer_before (t ∷ rest) n done f x h o =
    ap (λ b. run programs n (further programs b done t (step f t.piece) (stop_kind_at programs n f (t ∷ rest))) rest)
    (stays_among x (shown.faults_of_state n done f (t ∷ rest))
    (none_of x _ (λ y a. state y (stands n done f (t ∷ rest) y a))))
    ∙ further_stays n x (stop_kind_at programs n f (t ∷ rest)) done t rest (step f t.piece)
    (later x (stop_kind_at programs n f (t ∷ rest)) (let p = o.0 in omega (arith, h, p)))
    (λ g e. answer_before rest n (t ∷ done) g x (let p = o.0 in let q = o.1 in omega (arith, h, p, q))
    (let q = o.1 in ordered rest t.upto (t.upto - 1 + 1) n (omega (arith, q)) o.2))
  where
    state : (y : Fault Kind) → (y.at ≡ last_byte done) ⊎ (y.at ≡ t.at) → is_before programs y x ≡ false
    state y (inl e) = later x y (omega (arith, h, e))
    state y (inr e) = later x y (let p = o.0 in omega (arith, h, p, e))

-- each fault has a number of at least n
abbrev pub AtLeast : ℕ → FaultList → Type 0
AtLeast k [] = ⊤
AtLeast k (y ∷ ys) = (k ≤ kind_number y.kind) × AtLeast k ys

expansion_least : (at : ℕ) (o : Option polynomials.Fault) → AtLeast 9 (expansion_faults at o)
expansion_least at None = tt
expansion_least at (Some polynomials.LargeCoefficient) = (omega arith, tt)
expansion_least at (Some polynomials.ManyTerms) = (omega arith, tt)
expansion_least at (Some polynomials.HighDegree) = (omega arith, tt)

argument_least : (at : ℕ) (names : List Name) (o : Option Sum) → AtLeast 9 (argument_faults at names o)
argument_least at names None = tt
argument_least at names (Some s) = expansion_least at _

choice_least : (v : Bool) (ys : FaultList) → AtLeast 9 ys → AtLeast 9 (if v then ys else [])
choice_least true ys h = h
choice_least false ys h = tt

right_side_least : (at : ℕ) (names : List Name) (l : Sum) (sign : inner.Sign) (o : Option Sum)
    → AtLeast 9 (right_side_faults at names l sign o)
right_side_least at names l sign None = tt
right_side_least at names l sign (Some r) = expansion_least at _

atom_least : (at : ℕ) (names : List Name) (g : GuardGrammarState) (next : Option Piece)
    → AtLeast 9 (atom_faults at names g next)
atom_least at names (LeftSide c e) next = tt
atom_least at names (RightSide c l sign e) next = choice_least (ends_expression e next) _
    (right_side_least at (before_expression names (RightSide c l sign e)) l sign (expression_steps.finish e))

ended_least : (at : ℕ) (f : GrammarState) (next : Option Piece) → AtLeast 9 (ended_faults at f next)
ended_least at (Costing r t e) next = choice_least (ends_expression e next) _
    (argument_least at (left_names t) (expression_steps.finish e))
ended_least at (Arguing a arguments e) next = choice_least (ends_expression e next) _
    (argument_least at (names_with a.led arguments) (expression_steps.finish e))
ended_least at (MarkGuarding h g) next = atom_least at (headed_names h) g next
ended_least at (SquareGuarding h g) next = atom_least at (headed_names h) g next
ended_least at _ next = tt

among_least : (k : ℕ) (y : Fault Kind) (ys : FaultList) → AtLeast k ys → Among y ys → k ≤ kind_number y.kind
among_least k y [] h a = absurd a
among_least k y (z ∷ ys) h (inl e) = let p = h.0 in let same : kind_number y.kind ≡ kind_number z.kind =
    ap (λ (w : Fault Kind). kind_number w.kind) e in omega (arith, p, same)
among_least k y (z ∷ ys) h (inr a) = among_least k y ys h.1 a

-- a fault at the last byte has a number of at least 8
pub last_least : (at : ℕ) (f : GrammarState) (next : Option Piece) (y : Fault Kind) → Among y (last_faults at f next)
    → 8 ≤ kind_number y.kind
last_least at f next y a = go (shown.has_other_arity f) a
  where
    go : (v : Bool) → Among y (fault_if v ArityDiffers at ++ ended_faults at f next) → 8 ≤ kind_number y.kind
    go true (inl e) = let same : kind_number y.kind ≡ 8 = ap (λ (w : Fault Kind). kind_number w.kind) e in
        omega (arith, same)
    go true (inr b) = let k = among_least 9 y (ended_faults at f next) (ended_least at f next) b in omega (arith, k)
    go false b = let k = among_least 9 y (ended_faults at f next) (ended_least at f next) b in omega (arith, k)

-- a fault at the last byte has a number of at least 9 if no arity differs
pub last_least_9 : (at : ℕ) (f : GrammarState) (next : Option Piece) (y : Fault Kind) → shown.has_other_arity f ≡ false
    → Among y (last_faults at f next) → 9 ≤ kind_number y.kind
last_least_9 at f next y e a = go (shown.has_other_arity f) e a
  where
    go : (v : Bool) → v ≡ false → Among y (fault_if v ArityDiffers at ++ ended_faults at f next)
        → 9 ≤ kind_number y.kind
    go true e a = cc
    go false e b = among_least 9 y (ended_faults at f next) (ended_least at f next) b

-- a fault up to the last byte that was read is the answer if nothing that is shown at that byte has a lesser number
pub answer_here : (rest : Tokens) (n : ℕ) (done : Tokens) (f : GrammarState) (x : Fault Kind) → x.at ≤ last_byte done
    → AreInOrder (last_byte done + 1) rest n
    → ((y : Fault Kind) → Among y (last_faults (last_byte done) f (next_piece rest))
    → kind_number x.kind ≤ kind_number y.kind) → run programs n (Going (Some x) done f) rest ≡ Refused x
answer_here rest n done f x h o least = go rest o least
  where
    state : (rest : Tokens) → last_byte done < next_at n rest
        → ((y : Fault Kind) → Among y (last_faults (last_byte done) f (next_piece rest))
        → kind_number x.kind ≤ kind_number y.kind)
        → (y : Fault Kind) → Among y (shown.faults_of_state n done f rest) → is_before programs y x ≡ false
    state rest o least y a = either
        (split y (last_faults (last_byte done) f (next_piece rest))
        (next_faults (next_at n rest) f (next_piece rest) (piece_behind rest)) a)
      where
        either : (Among y (last_faults (last_byte done) f (next_piece rest)))
            ⊎ (Among y (next_faults (next_at n rest) f (next_piece rest) (piece_behind rest)))
            → is_before programs y x ≡ false
        either (inl b) = let e = among_at (last_byte done) y (last_faults (last_byte done) f (next_piece rest))
            (last_at (last_byte done) f (next_piece rest)) b in no_less x y (omega (arith, h, e)) (least y b)
        either (inr b) = let e = among_at (next_at n rest) y
            (next_faults (next_at n rest) f (next_piece rest) (piece_behind rest))
            (next_stands (next_at n rest) f (next_piece rest) (piece_behind rest)) b in
            later x y (omega (arith, h, o, e))

    go : (rest : Tokens) → AreInOrder (last_byte done + 1) rest n
        → ((y : Fault Kind) → Among y (last_faults (last_byte done) f (next_piece rest))
        → kind_number x.kind ≤ kind_number y.kind) → run programs n (Going (Some x) done f) rest ≡ Refused x
    go [] o least =
        ap (λ b. ended programs b (finish f) (stop_kind_at programs n f []))
        (stays_among x (shown.faults_of_state n done f []) (none_of x _ (state [] (omega (arith, o)) least)))
        ∙ ended_stays n x (stop_kind_at programs n f []) (finish f)
        (later x (stop_kind_at programs n f []) (omega (arith, h, o)))
    go (t ∷ rest) o least =
        let p = o.0 in let q = o.1 in
        ap (λ b. run programs n (further programs b done t (step f t.piece) (stop_kind_at programs n f (t ∷ rest)))
        rest) (stays_among x (shown.faults_of_state n done f (t ∷ rest))
        (none_of x _ (state (t ∷ rest) (omega (arith, p)) least)))
        ∙ further_stays n x (stop_kind_at programs n f (t ∷ rest)) done t rest (step f t.piece)
        (later x (stop_kind_at programs n f (t ∷ rest)) (omega (arith, h, p)))
        (λ g e. answer_before rest n (t ∷ done) g x (omega (arith, h, p, q))
        (ordered rest t.upto (t.upto - 1 + 1) n (omega (arith, q)) o.2))
