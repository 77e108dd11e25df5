use Rattle.std.proofs.Common.{◌≡◌, ◌∙◌, ap}
use Rattle.text_grammar.specs.Leads.{entry, row_after}
use Rattle.text_grammar.specs.Tabled.{row_in}
use Rattle.text_grammar.specs.Views.{lead_of, leads_of, rules_view}
use Rattle.text_grammar.proofs.TableLaws.{put_kept, put_remains, row_stands}
use Rattle.text_grammar.proofs.tables.Tables.keep.Goals as goal

-- the computed lead is that of the rules
worked_out : (c : goal.In_ok-put-in_default) → lead_of c.in_ok-made.made ≡ entry (row_in c.args.self.now c.args.class) c.args.number
worked_out c = c.in_ok-made.ensures
    ∙ ap (λ rules. entry (row_after (rules_view rules) c.args.class c.args.self.now.rounds) c.args.number) c.deref-2.ensures.value

pub returns-in_ok-put-in_default-clause-remains : goal.returns-in_ok-put-in_default-clause-remains
returns-in_ok-put-in_default-clause-remains c =
    let t = c.args.self.now in
    let was = c.index_mut.result.now in
    put_remains t c.args.class c.put.new.row c.requires.sound c.requires.class c.args.number (lead_of c.in_ok-made.made)
    (leads_of was.items) (row_stands t c.args.class was c.requires.sound c.requires.class c.index_mut.ensures.value)
    c.in_ok-put-in_default.ensures (worked_out c)

pub returns-in_ok-put-in_default-clause-kept : goal.returns-in_ok-put-in_default-clause-kept
returns-in_ok-put-in_default-clause-kept c =
    put_kept c.args.self.now c.args.class c.put.new.row c.requires.sound c.requires.class c.args.number
    (lead_of c.in_ok-made.made) (leads_of c.index_mut.result.now.items) c.in_ok-put-in_default.ensures (worked_out c)
