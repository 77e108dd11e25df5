use Rattle.std.proofs.Common.{rules, ◌≡◌, ℕ, ◌*◌, ◌<◌, ◌≤◌, ◌^◌, ap, arith, sym, ◌∙◌, subst, List, length, get_or, to_z, of_z, replicate}
use Rattle.std.specs.Int.{w128}
use Rattle.std.specs.Prelude.{ℤ, pos, ◌+ℤ◌, ◌*ℤ◌, slice_index_or, unsigned_abs, FitsSigned}
use Rattle.std.proofs.lemmas.Int.{ints, to_z-of_z}
use Rattle.std.proofs.lemmas.List.{length-set, length-replicate}
use Rattle.std.proofs.lemmas.Option.{slice_get-get_or, same_Some}
use Rattle.simplex_core.specs.declared.problem.Entry.{Entry}
use Rattle.simplex_core.specs.Tableau.{sign_of}
use Rattle.simplex_core.proofs.EntrySums.{zeros-are, sums-none, sums-step, bounded-step}
use Rattle.simplex_core.proofs.sparse_table.numbers.column_sums.Goals as goal

-- a number that is read from a list is the one at its position
read-is : (sums : List ℤ) (c : ℕ) (x : ℤ) → c < length sums → x ≡ get_or sums c x → x ≡ slice_index_or sums c (pos 0)
read-is sums c x l e = e ∙ same_Some (get_or sums c x) (get_or sums c (pos 0)) (sym (slice_get-get_or sums c x l) ∙ slice_get-get_or sums c (pos 0) l)

-- equal numbers have the same size
same-size : (a b : ℤ) (n : ℕ) → a ≡ b → unsigned_abs b ≤ n → unsigned_abs a ≤ n
same-size a b n e l = subst (λ (z : ℤ). unsigned_abs z ≤ n) (sym e) l

pub loop-position-init : goal.loop-position-init
loop-position-init c =
    let all : c.in_ok-sums.sums.items ≡ replicate c.args.columns (pos 0) = c.in_ok-sums.ensures.items_if_clones_equal (λ _ e. e) in
    let zeros = zeros-are c.in_ok-sums.sums.items c.args.columns all in
    record {
      length_is = ap (λ (xs : List ℤ). length xs) all ∙ length-replicate c.args.columns (pos 0);
      bounded = λ j. let zero = zeros j in omega (arith, ints, zero);
      sums = sums-none (length c.args.right.now) c.args.columns c.args.right.now c.in_ok-sums.sums.items zeros;
    }

pub bounds-right-entry : goal.bounds-right-entry
bounds-right-entry c =
    let within = c.loop-position-test.true in
    let none : Entry = record { row = 0; col = 0; value = pos 0 } in
    (c.requires.cells.inside c.loop-position.position (get_or c.args.entries.now c.loop-position.position none)
    (slice_get-get_or c.args.entries.now c.loop-position.position none (omega arith))).0

pub signed-requires : goal.signed-requires
signed-requires c =
    let within = c.loop-position-test.true in
    let none : Entry = record { row = 0; col = 0; value = pos 0 } in
    let small = c.requires.small.each c.loop-position.position (get_or c.args.entries.now c.loop-position.position none)
    (slice_get-get_or c.args.entries.now c.loop-position.position none (omega arith)) in
    omega (arith, ints, small)

pub index_mut-requires : goal.index_mut-requires
index_mut-requires c =
    let within = c.loop-position-test.true in
    let none : Entry = record { row = 0; col = 0; value = pos 0 } in
    let inside = c.requires.cells.inside c.loop-position.position (get_or c.args.entries.now c.loop-position.position none)
    (slice_get-get_or c.args.entries.now c.loop-position.position none (omega arith)) in
    let lengths = c.loop-position.invariant.length_is in
    omega (arith, inside.1, lengths)

pub overflow_add-index_mut : goal.overflow_add-index_mut
overflow_add-index_mut c =
    let inv = c.loop-position.invariant in
    let sums = c.loop-position.sums.items in
    let k = c.loop-position.position in
    let none : Entry = record { row = 0; col = 0; value = pos 0 } in
    let e = get_or c.args.entries.now k none in
    let within = c.loop-position-test.true in
    let inside = c.requires.cells.inside k e (slice_get-get_or c.args.entries.now k none (omega arith)) in
    let lengths = inv.length_is in
    let column : e.col < length sums = omega (arith, inside.1, lengths) in
    let read = read-is sums e.col c.index_mut.result.now column c.index_mut.ensures.value in
    let old : unsigned_abs c.index_mut.result.now ≤ k * 2 ^ 31 = same-size c.index_mut.result.now (slice_index_or sums e.col (pos 0)) (k * 2 ^ 31) read (inv.bounded e.col) in
    let few : k < 2 ^ 64 = search rules in
    let bounded = c.signed.ensures.bounded in
    omega (arith, ints, bounded, old, few)

pub loop-position-preserved : goal.loop-position-preserved
loop-position-preserved c =
    let inv = c.loop-position.invariant in
    let entries = c.args.entries.now in
    let right = c.args.right.now in
    let sums = c.loop-position.sums.items in
    let k = c.loop-position.position in
    let none : Entry = record { row = 0; col = 0; value = pos 0 } in
    let e = get_or entries k none in
    let within = c.loop-position-test.true in
    let is = slice_get-get_or entries k none (omega arith) in
    let inside = c.requires.cells.inside k e is in
    let lengths = inv.length_is in
    let column : e.col < length sums = omega (arith, inside.1, lengths) in
    let few : k < 2 ^ 64 = search rules in
    let fits : FitsSigned w128 (slice_index_or right e.row (pos 0)) = search rules in
    let small = c.requires.small.each k e is in
    let number : ℤ = sign_of (slice_index_or right e.row (pos 0)) *ℤ e.value in
    let plain : to_z w128 (of_z w128 e.value) ≡ e.value = omega (arith, ints, small) in
    let signed : c.signed.result ≡ number =
    c.signed.ensures.value ∙ (ap (λ (z : ℤ). sign_of z *ℤ to_z w128 (of_z w128 e.value)) (to_z-of_z w128 (slice_index_or right e.row (pos 0)) fits)
    ∙ ap (λ (z : ℤ). sign_of (slice_index_or right e.row (pos 0)) *ℤ z) plain) in
    let bounded = c.signed.ensures.bounded in
    let number_small : unsigned_abs number < 2 ^ 31 = subst (λ (z : ℤ). unsigned_abs z < 2 ^ 31) signed bounded in
    let read = read-is sums e.col c.index_mut.result.now column c.index_mut.ensures.value in
    let old : unsigned_abs c.index_mut.result.now ≤ k * 2 ^ 31 = same-size c.index_mut.result.now (slice_index_or sums e.col (pos 0)) (k * 2 ^ 31) read (inv.bounded e.col) in
    let summed : to_z w128 (of_z w128 (to_z w128 (of_z w128 c.index_mut.result.now) +ℤ to_z w128 (of_z w128 c.signed.result))) ≡ c.index_mut.result.now +ℤ c.signed.result =
    omega (arith, ints, bounded, old, few) in
    let value : to_z w128 (of_z w128 (to_z w128 (of_z w128 c.index_mut.result.now) +ℤ to_z w128 (of_z w128 c.signed.result))) ≡ slice_index_or sums e.col (pos 0) +ℤ number =
    summed ∙ (ap (λ (z : ℤ). z +ℤ c.signed.result) read ∙ ap (λ (z : ℤ). slice_index_or sums e.col (pos 0) +ℤ z) signed) in
    record {
      length_is = length-set sums e.col _ ∙ inv.length_is;
      bounded = bounded-step k e.col sums number _ column value number_small inv.bounded;
      sums = sums-step (length right) c.args.columns k entries right sums e _ c.requires.cells is column value inv.sums;
    }
