use Rattle.std.proofs.Common.{◌+◌, refl, sym, ap, ◌∙◌, add-zero}
use Rattle.std.proofs.lemmas.Option.{slice_get_read}
use Rattle.raw_set_text.specs.Entry.Entry.{Tile}
use Rattle.raw_set_text.specs.Faults.{instructions_in}
use Rattle.raw_set_text.proofs.Building.TilesFaults.{over_limit, faultless, sum_none, sum_some, past_total, code_free}
use Rattle.raw_set_text.proofs.Building.TilesGiven.{code_stands}
use Rattle.raw_set_text.proofs.tiles.Tiles.add_code.Goals as goal

pub returns-in_default-clause-fault : goal.returns-in_default-clause-fault
returns-in_default-clause-fault c = λ entries at stands e.
    over_limit _ _
    (code_free _ entries at _ stands e c.requires.there c.requires.free)
    (past_total instructions_in _ entries (Tile at c.args.code.items) _ _ stands.instructions (c.len.ensures ∙ c.args.code.ok.0) ∙ sum_none _ _ _ (sym c.total_within.ensures ∙ c.in_default.is))

pub returns-clause-fault : goal.returns-clause-fault
returns-clause-fault c = λ entries at stands e.
    faultless _ _
    (code_free _ entries at _ stands e c.requires.there c.requires.free)
    (past_total instructions_in _ entries (Tile at c.args.code.items) _ _ stands.instructions (c.len.ensures ∙ c.args.code.ok.0) ∙ (sum_some _ _ _ _ (sym c.total_within.ensures ∙ c.in-Some.is)).0)

pub returns-clause-stands : goal.returns-clause-stands
returns-clause-stands c = λ entries at stands e.
    code_stands c.args.self.now _ entries at c.args.code.items c.args.tile _ c.set_code.new.self stands e c.requires.there c.index_mut.ensures.value refl c.set_code.ensures
    (record {
      cells = sym (add-zero _);
      turns = sym (add-zero _);
      instructions = (sum_some _ _ _ _ (sym c.total_within.ensures ∙ c.in-Some.is)).1 ∙ ap (λ n. c.args.self.now.instructions + n) (c.len.ensures ∙ c.args.code.ok.0);
      routed = sym (add-zero _);
    })

pub set_code-requires : goal.set_code-requires
set_code-requires c = c.requires.free _ (slice_get_read _ _ _ _ refl c.requires.there c.index_mut.ensures.value)
