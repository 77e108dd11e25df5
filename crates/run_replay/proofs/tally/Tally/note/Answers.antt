use Rattle.std.proofs.Common.{◌≡◌, ◌∙◌, ◌+◌, ◌-◌, ◌<◌, ℕ, List, [], length, map, set, max, get_or, pos, nat_abs, refl, sym, ap}
use Rattle.std.proofs.Common.{arith, Vec}
use Rattle.std.specs.declared.alloc.Global.{Global}
use Rattle.std.proofs.lemmas.List.{get_or-map, get_or_read, map-set}
use Rattle.bound_expr.specs.Capped.{capped}
use Rattle.run_replay.proofs.tally.Tally.note.Goals as goal

-- the numbers of the row that is read
row_read : (rows : List (Vec ℕ Global)) (k : ℕ) (x : Vec ℕ Global) → k < length rows → x ≡ get_or rows k x
    → x.items ≡ get_or (map (λ (row : Vec ℕ Global). row.items) rows) k []
row_read rows k x low e =
    let items : Vec ℕ Global → List ℕ = λ row. row.items in
    ap items e ∙ sym (get_or-map items rows k x [] low)

pub raise-requires : goal.raise-requires
raise-requires c =
    let t = c.args.self.now in
    let k = c.args.rule - 1 in
    ap length (row_read t.greatest.items k c.index_mut-2.result.now (omega (arith, c.requires.rule, c.requires.sized))
    c.index_mut-2.ensures.value) ∙ c.requires.places

pub returns : goal.returns
returns c =
    let t = c.args.self.now in
    let k = c.args.rule - 1 in
    let items : Vec ℕ Global → List ℕ = λ row. row.items in
    let counted = get_or_read t.counts.items k c.index_mut.result.now (omega (arith, c.requires.rule, c.requires.counted))
    c.index_mut.ensures.value 0 in
    let row = row_read t.greatest.items k c.index_mut-2.result.now (omega (arith, c.requires.rule, c.requires.sized))
    c.index_mut-2.ensures.value in
    let spent = get_or_read t.costs.items k c.index.result.now (omega (arith, c.requires.rule, c.requires.charged))
    c.index.ensures 0 in record {
      steps = refl;
      counts = ap (λ (n : ℕ). set t.counts.items k (n + 1)) counted;
      row = c.raise.new.row.items;
      greatest = map-set items t.greatest.items k c.raise.new.row;
      places = c.raise.ensures.length ∙ (ap length row ∙ c.requires.places);
      raised = λ j h. c.raise.ensures.each j h
          ∙ ap (λ (xs : List ℕ). max (get_or xs j 0) (nat_abs (get_or c.args.values.now j (pos 0)))) row;
      costs = ap (λ (n : ℕ). set t.costs.items k n)
          (c.capped_add.ensures ∙ ap (λ (n : ℕ). capped (n + c.args.cost)) spent);
      spent = c.capped_add-self.ensures;
    }
