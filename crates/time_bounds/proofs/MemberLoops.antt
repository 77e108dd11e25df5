-- Members with their local bounds loop exactly where their places do.
use Rattle.std.proofs.Common.{◌≡◌, ◌-◌, ◌&&◌, ◌||◌, Bool, List, [], ◌∷◌, map, refl, sym, ◌∙◌, ap}
use Rattle.std.specs.List.{AllByRecursion, list_any}
use Rattle.std.proofs.lemmas.List.Elements.{recursion_from_All}
use Rattle.model.specs.Entries.{is_in}
use Rattle.model.specs.Paths.{pre}
use Rattle.local_size.specs.LocalAnswers.{Local, HasBound}
use Rattle.cert_types.specs.cert_rules.Nodes.{ResultVariable, Member}
use Rattle.cert_types.specs.cert_rules.Setting.{Setting}
use Rattle.bound_fixpoint.specs.Loops.{reads_member, do_loop}
use Rattle.rvg_components.specs.Flows.{Locals, local_reads, value_flows, loops}
use Rattle.time_bounds.specs.ProgramSizes.{AreMembers}

-- a member has the local bound of the answer for its place
abbrev HasItsBound : Locals → Member → Type 0
HasItsBound local m = local m.result_variable.rule m.result_variable.place ≡ HasBound m.local

-- members loop exactly where their places do
pub loop_decided : (s : Setting) (local : Locals) (result_variables : List ResultVariable) (members : List Member) → AreMembers local result_variables members
    → do_loop s members ≡ loops s local result_variables
loop_decided s local result_variables members are =
    sym (ap (loops s local) are.result_variables_are ∙ outer members (recursion_from_All (HasItsBound local) members are.bounds_are))
  where
    inner : (n : Member) → HasItsBound local n → (ms : List Member)
        → list_any (λ m. value_flows s local m n.result_variable) (map (λ m. m.result_variable) ms) ≡ list_any (λ m. reads_member s n m) ms
    inner n e [] = refl
    inner n e (m ∷ ms) =
        ap (λ (l : Local). (is_in m.result_variable.rule (pre s.program n.result_variable.rule) && local_reads s n.result_variable l (m.result_variable.place - 1))
        || list_any (λ m. value_flows s local m n.result_variable) (map (λ m. m.result_variable) ms)) e
        ∙ ap (λ (v : Bool). reads_member s n m || v) (inner n e ms)

    outer : (ns : List Member) → AllByRecursion (HasItsBound local) ns
        → list_any (λ n. list_any (λ m. value_flows s local m n) (map (λ m. m.result_variable) members)) (map (λ m. m.result_variable) ns)
        ≡ list_any (λ n. list_any (λ m. reads_member s n m) members) ns
    outer [] h = refl
    outer (n ∷ ns) h =
        ap (λ (v : Bool). v || list_any (λ n. list_any (λ m. value_flows s local m n) (map (λ m. m.result_variable) members))
        (map (λ m. m.result_variable) ns)) (inner n h.0 members)
        ∙ ap (λ (v : Bool). list_any (λ m. reads_member s n m) members || v) (outer ns h.1)
