use Rattle.std.proofs.Common.{ap, ◌∙◌, map}
use Rattle.cert_types.specs.Views.{proof_of}
use Rattle.cert_text.specs.ParsedSoFar.{draft_of, outer_of, own_of}
use Rattle.cert_text.specs.Remembered.{Inside}
use Rattle.cert_text.proofs.KeptLaws.{opens, outer_of-push}
use Rattle.cert_text.proofs.parsed_so_far.ParsedSoFar.open_uses.Goals as goal

pub returns : goal.returns
returns c =
    let outer = outer_of c.args.self.now.outer.items in
    opens (own_of c.args.self.now) (draft_of c.replace-draft.new.dest) (map proof_of c.replace-used.new.dest.items)
    (outer_of c.push.new.self.items)
    (Inside (draft_of c.args.self.now.draft) (map proof_of c.args.self.now.used.items) outer)
    (ap draft_of c.replace-draft.ensures.after ∙ c.new.ensures)
    (ap (λ v. map proof_of v.items) c.replace-used.ensures.after ∙ ap (map proof_of) c.new-2.ensures.items)
    (ap outer_of c.in_ok-push.ensures.items
    ∙ outer_of-push c.args.self.now.outer.items (record { draft = c.replace-draft.result; used = c.replace-used.result })
    ∙ ap (λ (d : _). Inside (draft_of d) (map proof_of c.replace-used.result.items) outer) c.replace-draft.ensures.value
    ∙ ap (λ (v : _). Inside (draft_of c.args.self.now.draft) (map proof_of v.items) outer) c.replace-used.ensures.value)
