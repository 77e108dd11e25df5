use Rattle.std.proofs.Common.{◌≡◌, ℕ, suc, ◌-◌, ◌<◌, length, map, sym, ◌∙◌, ap, arith}
use Rattle.bound_derivations.specs.ByKey.{put_place}
use Rattle.bound_derivations.proofs.Entries.{place_zero, place_none, place_set}
use Rattle.bound_derivations.proofs.writing.put_place.Goals as goal

pub returns-then-place-eq0 : goal.returns-then-place-eq0
returns-then-place-eq0 g c =
    place_zero (map (λ row. row.items) c.args.rows.now.items) c.args.rule c.args.value
    ∙ ap (λ (n : ℕ). put_place (map (λ row. row.items) c.args.rows.now.items) c.args.rule n c.args.value)
    (sym c.if-place-eq0.true)

pub returns-then-rule-len : goal.returns-then-rule-len
returns-then-rule-len g c =
    place_none (λ row. row.items) c.args.rows.now.items c.args.rule c.args.place c.args.value
    (omega (arith, c.if-rule-len.true, c.len.ensures, c.args.rows.now.ok.0))

pub returns : goal.returns
returns g c =
    let below : c.args.rule < length c.args.rows.now.items =
    omega (arith, c.if-rule-len.false, c.len.ensures, c.args.rows.now.ok.0) in
    let place : suc (c.args.place - 1) ≡ c.args.place = omega (arith, c.if-place-eq0.false) in
    place_set (λ row. row.items) c.args.rows.now.items c.args.rule (c.args.place - 1) c.args.value
    c.index_mut.result.now c.put_entry.new.row below
    c.index_mut.ensures.value c.put_entry.ensures
    ∙ ap (λ (n : ℕ). put_place (map (λ row. row.items) c.args.rows.now.items) c.args.rule n c.args.value) place
