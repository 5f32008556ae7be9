use Rattle.std.proofs.Common.{◌+◌, refl, sym, ap, ◌∙◌, add-zero}
use Rattle.std.proofs.lemmas.Option.{slice_get_read}
use Rattle.raw_set_text.specs.Entry.Entry.{Switch}
use Rattle.raw_set_text.specs.Faults.{routed_in}
use Rattle.raw_set_text.proofs.Building.TilesFaults.{over_limit, faultless, sum_none, sum_some, past_total, switch_free}
use Rattle.raw_set_text.proofs.Building.TilesGiven.{switch_stands}
use Rattle.raw_set_text.proofs.tiles.Tiles.add_switch.Goals as goal

pub returns-in_default-clause-fault : goal.returns-in_default-clause-fault
returns-in_default-clause-fault c = λ entries at stands e.
    over_limit _ _
    (switch_free _ entries at _ stands e c.requires.there c.requires.free)
    (past_total routed_in _ entries (Switch at c.args.code.items) _ _ stands.routed (c.len.ensures ∙ c.args.code.ok.0) ∙ sum_none _ _ _ (sym c.total_within.ensures ∙ c.in_default.is))

pub returns-clause-fault : goal.returns-clause-fault
returns-clause-fault c = λ entries at stands e.
    faultless _ _
    (switch_free _ entries at _ stands e c.requires.there c.requires.free)
    (past_total routed_in _ entries (Switch at c.args.code.items) _ _ stands.routed (c.len.ensures ∙ c.args.code.ok.0) ∙ (sum_some _ _ _ _ (sym c.total_within.ensures ∙ c.in-Some.is)).0)

pub returns-clause-stands : goal.returns-clause-stands
returns-clause-stands c = λ entries at stands e.
    switch_stands c.args.self.now _ entries at c.args.code.items c.args.tile _ c.set_switch.new.self stands e c.requires.there c.index_mut.ensures.value refl c.set_switch.ensures
    (record {
      cells = sym (add-zero _);
      turns = sym (add-zero _);
      instructions = sym (add-zero _);
      routed = (sum_some _ _ _ _ (sym c.total_within.ensures ∙ c.in-Some.is)).1 ∙ ap (λ n. c.args.self.now.routed + n) (c.len.ensures ∙ c.args.code.ok.0);
    })

pub set_switch-requires : goal.set_switch-requires
set_switch-requires c = c.requires.free _ (slice_get_read _ _ _ _ refl c.requires.there c.index_mut.ensures.value)
