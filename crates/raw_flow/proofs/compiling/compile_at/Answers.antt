use Rattle.std.proofs.Common.{◌≡◌, ◌⊎◌, Err, inl, inr, refl, ap, sym, subst}
use Rattle.raw_codegen.specs.declared.programs.GiveRefusal.{GiveRefusal}
use Rattle.raw_codegen.specs.declared.programs.GiveRefusal.TheVariants.{TooMany, Memory}
use Rattle.raw_model.specs.Program.{ProgramSet, IsSet}
use Rattle.raw_flow.proofs.Sets.{set_is, is_valid, outs_fit, tiles_not_short}
use Rattle.raw_flow.proofs.compiling.compile_at.Goals as goal

refused : {P : Type 0} (refusal : GiveRefusal) → (refusal ≡ TooMany → P) → (refusal ≡ Memory) ⊎ ((refusal ≡ TooMany) × P)
refused TooMany long = inr (refl, long refl)
refused Memory long = inl refl

pub returns-in-Err-clause-refusal : goal.returns-in-Err-clause-refusal
returns-in-Err-clause-refusal c =
    refused c.in-Err.refusal (λ e. tiles_not_short c.args.flow.now c.args.ports.now c.args.inputs.now (c.in-Err.ensures.too_many (ap (λ r. Err r) e)))

pub port_programs-requires : goal.port_programs-requires
port_programs-requires c =
    let flow = c.args.flow.now in
    let ports = c.args.ports.now in
    let inputs = c.args.inputs.now in
    outs_fit flow ports inputs (is_valid c.law_compiled_at.ensures flow ports inputs c.keeps_rules.ensures.valid c.requires.ports (record { each = c.requires.inputs; words = c.words_fit.ensures }) c.in-Ok.tiles.items c.in-Ok.ensures.tiles c.in-Ok.ensures.short)

pub invariant_of-result : goal.invariant_of-result
invariant_of-result c =
    let flow = c.args.flow.now in
    let ports = c.args.ports.now in
    let inputs = c.args.inputs.now in
    let valid = is_valid c.law_compiled_at.ensures flow ports inputs c.keeps_rules.ensures.valid c.requires.ports (record { each = c.requires.inputs; words = c.words_fit.ensures }) c.in-Ok.tiles.items c.in-Ok.ensures.tiles c.in-Ok.ensures.short in
    let same = set_is flow ports inputs c.in_ok-topo.topo c.in_ok-ports.ports.items c.in-Ok.tiles.items c.new.result.items c.in_ok-topo.ensures c.in_ok-ports.ensures c.in-Ok.ensures.tiles c.new.ensures.items in
    subst (λ (set : ProgramSet). IsSet set) (sym same) valid

pub returns-clause-set : goal.returns-clause-set
returns-clause-set c =
    set_is c.args.flow.now c.args.ports.now c.args.inputs.now c.in_ok-topo.topo c.in_ok-ports.ports.items c.in-Ok.tiles.items c.new.result.items c.in_ok-topo.ensures c.in_ok-ports.ensures c.in-Ok.ensures.tiles c.new.ensures.items

pub returns-clause-right : goal.returns-clause-right
returns-clause-right c =
    let flow = c.args.flow.now in
    let ports = c.args.ports.now in
    let inputs = c.args.inputs.now in
    let valid = is_valid c.law_compiled_at.ensures flow ports inputs c.keeps_rules.ensures.valid c.requires.ports (record { each = c.requires.inputs; words = c.words_fit.ensures }) c.in-Ok.tiles.items c.in-Ok.ensures.tiles c.in-Ok.ensures.short in
    c.law_flow_at.ensures flow ports inputs c.keeps_rules.ensures.valid c.requires.ports (record { each = c.requires.inputs; words = c.words_fit.ensures }) valid
