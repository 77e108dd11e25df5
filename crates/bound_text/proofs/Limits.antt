-- The limits on bounds, as the reader's states decide them: a bound that is read is within them, and the text of a
-- bound within them has no fault.
use Rattle.std.proofs.Common.{◌≡◌, ℕ, ◌^◌, ◌≤◌, Bool, true, false, ◌&&◌, List, [], ◌∷◌, Some, None, refl, ap, sym}
use Rattle.std.proofs.Common.{subst, ◌∙◌, inl, inr, arith}
use Rattle.std.specs.Prelude.{⊤}
use Rattle.std.proofs.lemmas.Bool.{and_parts, or_parts, or_from, leb-false as le_false, ltb-false as lt_false}
use Rattle.std.proofs.lemmas.Bool.{lt-leb as false_le, le-ltb as false_lt}
use Rattle.text_core.specs.model.Bounds.{Bound, Constant, Parts}
use Rattle.text_core.specs.Tokens.{Token, pieces}
use Rattle.text_core.specs.Faults.{Among}
use Rattle.text_core.specs.Limits.{ShowsNothing, KeepsLimits, ShowsNoLimit}
use Rattle.text_core.proofs.ShownFaults.{no_faults, nothing_passes}
use Rattle.bound_expr.specs.Measure.{node_count, depth_of}
use Rattle.bound_text.specs.Pieces.{Piece, Variable, Number, Maximum, Open, Close, Times, Caret, Plus, Blank, Comma}
use Rattle.bound_text.specs.Pieces.{Wrong}
use Rattle.bound_text.specs.Kinds.{Kind, Syntax, NumberTooLarge, UnknownName, TooDeep, TooLarge, kinds}
use Rattle.bound_text.specs.ParserStates.{Outer, Whole, Inside, Position, ParserState, Begins, RunCaret, PowerCaret, ItemRead}
use Rattle.bound_text.specs.ParserStates.{BlankRead, PlusRead, CommaRead, nodes_of, levels_of, last, bound_of_parts, can_end}
use Rattle.bound_text.specs.Steps.{step, step_at, finish_at, state_at_position}
use Rattle.bound_text.specs.Checks.{is_large, is_small_base, is_large_base, is_unlisted, begins, has_large_base}
use Rattle.bound_text.specs.Checks.{has_large_base_at, is_caret, caret_next}
use Rattle.bound_text.specs.Reading.{is_base, is_deep, has_many, stands, bounds}
use Rattle.bound_text.proofs.SoundnessLaws.{when-some, step_sound}
use Rattle.bound_text.proofs.StepCases.{Leads, step_leads}
use Rattle.bound_text.proofs.TreeSizes.{grows, bound_nodes, bound_depth}
use Rattle.bound_text.proofs.KeptBounds.{Kept, KeptState, KeptPiece, keeps, large_after, kept_bound, kept_state}
use Rattle.bound_text.proofs.KeptBefore.{BaseFits, bound_kept, keeps_back, base_fits, begin_number}
use Rattle.bound_text.proofs.ReaderLaws.{is_state}
use Rattle.bound_expr.specs.Limits.{depth_limit, node_limit}

-- a base that is too large is followed by no accepted `^`
pub base_ok : (position : Position) (fs : Parts) (piece : Piece) → (is_caret piece ≡ true → has_large_base_at position fs Caret ≡ false) → has_large_base_at position fs piece ≡ false
base_ok position fs Caret h = h refl
base_ok ItemRead fs piece h = refl
base_ok position fs piece h = refl

-- a piece of bytes that are in no text is rejected
wrong_none : (f : ParserState) → step f Wrong ≡ None
wrong_none f = go f.position
  where
    go : (position : Position) → step_at position f.outer f.terms f.factors Wrong ≡ None
    go Begins = refl
    go (RunCaret i) = refl
    go (PowerCaret c) = refl
    go ItemRead = refl
    go BlankRead = refl
    go PlusRead = refl
    go CommaRead = refl

-- a piece that passes the test of `^` is `^`
caret_piece : (piece : Piece) → is_caret piece ≡ true → piece ≡ Caret
caret_piece Caret h = refl
caret_piece (Variable i) h = cc
caret_piece (Number c) h = cc
caret_piece Maximum h = cc
caret_piece Open h = cc
caret_piece Close h = cc
caret_piece Times h = cc
caret_piece Plus h = cc
caret_piece Blank h = cc
caret_piece Comma h = cc
caret_piece Wrong h = cc

-- each kind of refusal is listed
pub each_kind : (kind : Kind) → Among kind kinds
each_kind Syntax = inl refl
each_kind NumberTooLarge = inr (inl refl)
each_kind UnknownName = inr (inr (inl refl))
each_kind TooDeep = inr (inr (inr (inl refl)))
each_kind TooLarge = inr (inr (inr (inr (inl refl))))

-- a bound with the shape of a text, which meets the conditions and is within the limits
pub record IsKeptWithin (n : ℕ) (b : Bound) : Type 0 where
  pub kept : Kept n b
  pub levels : depth_of b ≤ depth_limit
  pub nodes : node_count b ≤ node_limit

-- a state that meets the conditions and is within the limits, where no base that is too large is followed by `^`
pub record IsKept (n : ℕ) (f : ParserState) (ps : List Piece) : Type 0 where
  pub kept : KeptState n f
  pub levels : levels_of f ≤ depth_limit
  pub nodes : nodes_of f ≤ node_limit
  pub bases : caret_next ps ≡ true → has_large_base f Caret ≡ false

-- laws for a piece that is accepted and has no fault
module _ (n : ℕ) (f g : ParserState) (piece : Piece) (behind : List Piece) (led : step f piece ≡ Some g) (none : (kind : Kind) → stands n f piece behind kind ≡ false) where
  -- a piece without a fault meets the conditions
  pub kept_piece : KeptPiece n piece
  kept_piece = go piece refl
    where
      go : (q : Piece) → piece ≡ q → KeptPiece n q
      go (Variable i) e = le_false n i (ap (is_unlisted n) (sym e) ∙ none UnknownName)
      go (Number c) e = le_false (2 ^ 127) c (ap is_large (sym e) ∙ (or_parts (is_large piece) (is_base f behind && is_large_base piece) (none NumberTooLarge)).0)
      go Maximum e = tt
      go Open e = tt
      go Close e = tt
      go Times e = tt
      go Caret e = tt
      go Plus e = tt
      go Blank e = tt
      go Comma e = tt
      go Wrong e = let w = wrong_none f in let l = sym (ap (step f) e) ∙ led in cc

  -- after a piece without a fault, no base that is too large is followed by `^`
  pub base_kept : Leads f piece g → caret_next behind ≡ true → has_large_base g Caret ≡ false
  base_kept leads h = large_after f g piece leads (sym (ap (λ (v : Bool). v && is_large_base piece) (with_caret (begins f.position) (caret_next behind) h)) ∙ (or_parts (is_large piece) (is_base f behind && is_large_base piece) (none NumberTooLarge)).1)
    where
      with_caret : (a b : Bool) → b ≡ true → a && b ≡ a
      with_caret true b h = h
      with_caret false b h = refl

-- the bound of a text that ends here is no larger than the tree so far, and meets the conditions if that does
measures : (n : ℕ) (position : Position) (outer : Outer) (ts fs : Parts) (b : Bound) → finish_at position outer ts fs ≡ Some b
    → (KeptState n (state_at_position outer ts fs position) → Kept n b) × (depth_of b ≤ levels_of (state_at_position outer ts fs position)) × (node_count b ≤ nodes_of (state_at_position outer ts fs position))
measures n ItemRead Whole ts fs b h =
    let t = when-some (can_end fs) (bound_of_parts ts fs) b h in
    let d = bound_depth ts fs t.0 in
    let m = bound_nodes ts fs t.0 in (
      (λ k. subst (Kept n) t.1 (kept_bound n ts fs k.terms k.factors)),
      (let e : depth_of (bound_of_parts ts fs) ≡ depth_of b = ap depth_of t.1 in omega (arith, d, e)),
      (let e : node_count (bound_of_parts ts fs) ≡ node_count b = ap node_count t.1 in omega (arith, m, e)),
    )
measures n ItemRead (Inside bracket ts' fs' outer) ts fs b h = cc
measures n Begins outer ts fs b h = cc
measures n (RunCaret i) outer ts fs b h = cc
measures n (PowerCaret c) outer ts fs b h = cc
measures n BlankRead outer ts fs b h = cc
measures n PlusRead outer ts fs b h = cc
measures n CommaRead outer ts fs b h = cc

-- the reader leads to bounds within the limits alone
pub keeps_limits : (n : ℕ) → KeepsLimits (bounds n) (IsKeptWithin n) (IsKept n)
keeps_limits n = record {
  begins = λ ps. record { kept = record { outer = tt; terms = tt; factors = tt; position = tt }; levels = omega arith; nodes = omega arith; bases = λ h. refl };
  goes_on = λ len done f g t rest e k nothing led.
      let none : (kind : Kind) → stands n f t.piece (pieces rest) kind ≡ false = λ kind. nothing_passes t.at (stands n f t.piece (pieces rest)) kinds kind (each_kind kind) nothing in
      let leads = step_leads f g t.piece (is_state n (pieces done) f e) led in
      record {
        kept = keeps n f g t.piece leads k.kept (kept_piece n f g t.piece (pieces rest) led none) (base_ok f.position f.factors t.piece (λ h. k.bases (ap is_caret (caret_piece t.piece h))));
        levels = lt_false depth_limit (levels_of g) (sym (ap is_deep led) ∙ none TooDeep);
        nodes = lt_false node_limit (nodes_of g) (sym (ap has_many led) ∙ none TooLarge);
        bases = base_kept n f g t.piece (pieces rest) led none leads;
      };
  ends = λ done f b e k fin.
      let m = measures n f.position f.outer f.terms f.factors b fin in
      let l = k.levels in let s = k.nodes in
      record { kept = m.0 (record { outer = k.kept.outer; terms = k.kept.terms; factors = k.kept.factors; position = k.kept.position }); levels = (let d = m.1 in omega (arith, d, l)); nodes = (let c = m.2 in omega (arith, c, s)) };
}

-- the first of the pieces has no fault
abbrev pub Nothing : ℕ → ParserState → List Piece → Type 0
Nothing n f [] = ⊤
Nothing n f (p ∷ ps) = (kind : Kind) → stands n f p ps kind ≡ false

-- a state within the limits, where the base before `^` fits and the next piece has no fault
pub record IsSmall (n : ℕ) (f : ParserState) (ps : List Piece) : Type 0 where
  pub kept : KeptState n f
  pub levels : levels_of f ≤ depth_limit
  pub nodes : nodes_of f ≤ node_limit
  pub bases : caret_next ps ≡ true → BaseFits (last f.factors)
  pub none : Nothing n f ps

-- laws for a piece after which the state is within the limits: it has no fault
module _ (n : ℕ) (f g : ParserState) (piece : Piece) (behind : List Piece) (led : step f piece ≡ Some g) (kept : KeptPiece n piece) (fits : caret_next behind ≡ true → BaseFits (last g.factors)) where
  -- a number that is a base fits
  fitting : (c : ℕ) → is_base f behind ≡ true → piece ≡ Number c → BaseFits (Some (Constant c))
  fitting c base e =
      let t = and_parts (begins f.position) (caret_next behind) base in
      subst BaseFits (begin_number f g c t.0 (sym (ap (step f) e) ∙ led)) (fits t.1)

  -- the piece is no base under 2
  no_small : is_base f behind && is_small_base piece ≡ false
  no_small = go (is_base f behind) refl piece refl
    where
      go : (v : Bool) → is_base f behind ≡ v → (q : Piece) → piece ≡ q → v && is_small_base q ≡ false
      go false b q e = refl
      go true b (Number c) e = false_lt c 2 (fitting c b e).0
      go true b q e = refl

  -- the piece is no base over 2^64-1
  no_large : is_base f behind && is_large_base piece ≡ false
  no_large = go (is_base f behind) refl piece refl
    where
      go : (v : Bool) → is_base f behind ≡ v → (q : Piece) → piece ≡ q → v && is_large_base q ≡ false
      go false b q e = refl
      go true b (Number c) e = false_le (2 ^ 64) c (fitting c b e).1
      go true b q e = refl

  -- the piece is no number over 2^127-1
  no_large_number : is_large piece ≡ false
  no_large_number = go piece kept
    where
      go : (q : Piece) → KeptPiece n q → is_large q ≡ false
      go (Number c) k = false_le (2 ^ 127) c k
      go q k = refl

  -- the piece is no name that isn't listed
  no_unlisted : is_unlisted n piece ≡ false
  no_unlisted = go piece kept
    where
      go : (q : Piece) → KeptPiece n q → is_unlisted n q ≡ false
      go (Variable i) k = false_le n i k
      go q k = refl

  nothing_here : levels_of g ≤ depth_limit → nodes_of g ≤ node_limit → (kind : Kind) → stands n f piece behind kind ≡ false
  nothing_here shallow small Syntax = no_small
  nothing_here shallow small NumberTooLarge = or_from (is_large piece) (is_base f behind && is_large_base piece) no_large_number no_large
  nothing_here shallow small UnknownName = no_unlisted
  nothing_here shallow small TooDeep = ap is_deep led ∙ false_lt depth_limit (levels_of g) shallow
  nothing_here shallow small TooLarge = ap has_many led ∙ false_lt node_limit (nodes_of g) small

-- a state that ends a bound within the limits is within them
ended_small : (n : ℕ) (position : Position) (outer : Outer) (ts fs : Parts) (b : Bound) → finish_at position outer ts fs ≡ Some b → IsKeptWithin n b → IsSmall n (state_at_position outer ts fs position) []
ended_small n ItemRead Whole ts fs b h w =
    let t = when-some (can_end fs) (bound_of_parts ts fs) b h in
    let q = bound_kept n ts fs (subst (Kept n) (sym t.1) w.kept) in
    let d = bound_depth ts fs t.0 in
    let m = bound_nodes ts fs t.0 in
    let l = w.levels in
    let s = w.nodes in
    record {
      kept = kept_state n Whole ts fs ItemRead tt q.0 q.1 tt;
      levels = (let e : depth_of (bound_of_parts ts fs) ≡ depth_of b = ap depth_of t.1 in omega (arith, d, e, l));
      nodes = (let e : node_count (bound_of_parts ts fs) ≡ node_count b = ap node_count t.1 in omega (arith, m, e, s));
      bases = λ k. cc;
      none = tt;
    }
ended_small n ItemRead (Inside bracket ts' fs' outer) ts fs b h w = cc
ended_small n Begins outer ts fs b h w = cc
ended_small n (RunCaret i) outer ts fs b h w = cc
ended_small n (PowerCaret c) outer ts fs b h w = cc
ended_small n BlankRead outer ts fs b h w = cc
ended_small n PlusRead outer ts fs b h w = cc
ended_small n CommaRead outer ts fs b h w = cc

-- the text of a bound within the limits has no fault
pub shows_no_limit : (n : ℕ) → ShowsNoLimit (bounds n) (IsKeptWithin n) (IsSmall n)
shows_no_limit n = record {
  ends = λ done f b e fin w.
      let s = ended_small n f.position f.outer f.terms f.factors b fin w in
      record { kept = record { outer = s.kept.outer; terms = s.kept.terms; factors = s.kept.factors; position = s.kept.position }; levels = s.levels; nodes = s.nodes; bases = s.bases; none = tt };
  goes_back = λ done f g p ps e led s.
      let is = is_state n done f e in
      let leads = step_leads f g p is led in
      let m = s.nodes in
      let l = s.levels in
      let b = keeps_back n f g p leads (omega (arith, m)) s.kept in
      let grown = grows f g p leads in
      record {
        kept = b.0;
        levels = (let d = grown.levels in omega (arith, d, l));
        nodes = (let d = grown.nodes in omega (arith, d, m));
        bases = λ h. base_fits n f g (subst (λ (q : Piece). Leads f q g) (caret_piece p h) leads) (step_sound f g p is led).is_state s.kept;
        none = nothing_here n f g p ps led b.1 s.bases l m;
      };
  nothing = λ len done f rest e s. nothing len done f rest s;
}
  where
    nothing : (len : ℕ) (done : List (Token Piece)) (f : ParserState) (rest : List (Token Piece)) → IsSmall n f (pieces rest) → ShowsNothing (bounds n) len done f rest
    nothing len done f [] s = refl
    nothing len done f (t ∷ rest) s = no_faults t.at (stands n f t.piece (pieces rest)) kinds s.none
