use Rattle.std.proofs.Common.{◌≡◌, ◌+◌, ◌*◌, ◌<◌, Err, ap, sym, subst, ◌∙◌}
use Rattle.raw_codegen.specs.Parts.{to_switches, Gives}
use Rattle.raw_route.specs.Tree.{tree_ins}
use Rattle.raw_route.proofs.HaulParts.{tree_some, tree_none, tree_full}
use Rattle.raw_route.proofs.giving.give_tree.Goals as goal
use Rattle.raw_route.proofs.giving.give_tree.Goals.{in-Some+in_ok-give_switch, in_default}

pub returns-in_err-give_switch-clause-too_many : goal.returns-in_err-give_switch-clause-too_many
returns-in_err-give_switch-clause-too_many c = λ e.
    let k = rw e at c.from_residual.ensures in
    let n = c.args.cols * c.args.rows in
    let size : c.from.result * c.from-2.result ≡ n = ap (λ x. x * c.from-2.result) c.from.ensures ∙ ap (λ x. c.args.cols * x) c.from-2.ensures in
    tree_full c.law_giving.ensures n n c.loop-tile.tile (tree_ins c.args.cols c.args.haul.now) c.in-Some.ins c.args.programs.now c.loop-tile.programs
    (subst (λ m. c.loop-tile.tile < m) size c.loop-tile-test.true) c.loop-tile.invariant (sym c.tree_ins.ensures ∙ c.in-Some.is)
    (c.in_err-give_switch.ensures.too_many n (ap (λ r. Err r) (sym k.1)))

pub loop-tile-preserved : goal.loop-tile-preserved
loop-tile-preserved c =
    let n = c.args.cols * c.args.rows in
    let given = tree_ins c.args.cols c.args.haul.now in
    elim c.match-tree_ins.branch [
      | in-Some+in_ok-give_switch w ↦ subst (Gives n (to_switches (c.loop-tile.tile + 1) given) c.args.programs.now) (sym w.programs-is)
          (tree_some c.law_giving.ensures n c.loop-tile.tile given w.in-Some.ins c.args.programs.now c.loop-tile.programs w.give_switch.new.self c.loop-tile.invariant (sym c.tree_ins.ensures ∙ w.in-Some.is) (w.in_ok-give_switch.ensures.gives n))
      | in_default w ↦ subst (Gives n (to_switches (c.loop-tile.tile + 1) given) c.args.programs.now) (sym w.programs-is)
          (tree_none c.law_giving.ensures n c.loop-tile.tile given c.args.programs.now c.loop-tile.programs c.loop-tile.invariant (sym c.tree_ins.ensures ∙ w.in_default.is))
    ]
