use Rattle.std.proofs.Common.{length, refl, sym, subst, ◌∙◌}
use Rattle.std.specs.Prelude.{List}
use Rattle.raw_model.specs.Program.{TileProgram}
use Rattle.raw_codegen.specs.Limits.{AreShort}
use Rattle.raw_codegen.proofs.Halts.{finished}
use Rattle.raw_codegen.proofs.programs.Programs.finish.Goals as goal

pub returns-then-not-are_short-clause-too_many : goal.returns-then-not-are_short-clause-too_many
returns-then-not-are_short-clause-too_many c = λ n parts is e short.
    let whole = finished n (length c.self.inside.tiles.items) parts c.self.inside.tiles.items c.push_halts.new.tiles.items refl (c.in_ok-push_halts.ensures n) (c.self.view_is ∙ is) in
    let bad = c.if-not-are_short.ensures.1 (subst (λ (tiles : List TileProgram). AreShort tiles) (sym (c.deref.ensures.value ∙ whole)) short) in
    cc bad

pub returns-clause-tiles : goal.returns-clause-tiles
returns-clause-tiles c = λ n parts is.
    finished n (length c.self.inside.tiles.items) parts c.self.inside.tiles.items c.push_halts.new.tiles.items refl (c.in_ok-push_halts.ensures n) (c.self.view_is ∙ is)
