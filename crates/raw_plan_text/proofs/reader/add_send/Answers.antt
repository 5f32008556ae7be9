use Rattle.std.proofs.Common.{◌≡◌, ◌++◌, ◌∷◌, [], map, Some, refl, sym, ap, subst, ◌∙◌}
use Rattle.std.specs.Option.{option_map}
use Rattle.std.specs.List.{list_all}
use Rattle.raw_grid.specs.Topology.{without_ports}
use Rattle.raw_route.specs.Hauls.{Haulage}
use Rattle.raw_plan_text.specs.Forms.{Sent}
use Rattle.raw_plan_text.specs.Forms.Entry.{Send}
use Rattle.raw_plan_text.specs.Faults.{is_inside, number_in, entry_fault}
use Rattle.raw_plan_text.specs.Meaning.{haul_of}
use Rattle.raw_plan_text.specs.Answers.{PlanStands, each_once}
use Rattle.raw_plan_text.proofs.Steps.{grid_same, off_from, off_to, named_twice, send_faultless, once_some, stands_more}
use Rattle.raw_plan_text.proofs.reader.add_send.Goals as goal
use Rattle.raw_plan_text.proofs.reader.add_send.Goals.{then-not-is_inside-via-then-not-is_inside, then-not-is_inside-via-else-not-is_inside+then-not-are_inside}

pub returns-then-not-is_inside-clause-fault : goal.returns-then-not-is_inside-clause-fault
returns-then-not-is_inside-clause-fault c entries stands =
    let grid = without_ports c.plan.inside.cols c.plan.inside.rows in
    let same = grid_same _ entries (c.plan.view_is ∙ stands.1) in
    rw c.refusal.ensures (
      refl,
      ap (λ s. entry_fault entries (Send s)) (sym c.send.view_is) ∙ elim c.then-not-is_inside.branch [
        | then-not-is_inside-via-then-not-is_inside w ↦ off_from entries _ grid same (sym c.is_inside.ensures ∙ w.if-not-is_inside.true)
        | then-not-is_inside-via-else-not-is_inside+then-not-are_inside w ↦ off_to entries _ grid same (ap (list_all (is_inside grid)) (sym w.deref.ensures.value) ∙ sym w.are_inside.ensures ∙ w.if-not-are_inside.true)
      ],
    )

pub returns-in_default-clause-fault : goal.returns-in_default-clause-fault
returns-in_default-clause-fault c entries stands =
    let grid = without_ports c.plan.inside.cols c.plan.inside.rows in
    let same = grid_same _ entries (c.plan.view_is ∙ stands.1) in
    let from = sym c.is_inside.ensures ∙ c.if-not-is_inside.false in
    let to = ap (list_all (is_inside grid)) (sym c.deref.ensures.value) ∙ sym c.are_inside.ensures ∙ c.if-not-are_inside.false in
    let none = ap (λ tiles. each_once (map (number_in grid) tiles)) (sym c.deref-2.ensures.value) ∙ sym c.in_ok-to.ensures ∙ ap (option_map (λ numbers. numbers.items)) c.in_default.is in
    rw c.refusal-in_default.ensures (refl, ap (λ s. entry_fault entries (Send s)) (sym c.send.view_is) ∙ named_twice entries _ grid same from to none)

pub returns-clause-fault : goal.returns-clause-fault
returns-clause-fault c entries stands =
    let grid = without_ports c.plan.inside.cols c.plan.inside.rows in
    let same = grid_same _ entries (c.plan.view_is ∙ stands.1) in
    let from = sym c.is_inside.ensures ∙ c.if-not-is_inside.false in
    let to = ap (list_all (is_inside grid)) (sym c.deref.ensures.value) ∙ sym c.are_inside.ensures ∙ c.if-not-are_inside.false in
    let some = ap (λ tiles. each_once (map (number_in grid) tiles)) (sym c.deref-2.ensures.value) ∙ sym c.in_ok-to.ensures ∙ ap (option_map (λ numbers. numbers.items)) c.in-Some.is in
    ap (λ s. entry_fault entries (Send s)) (sym c.send.view_is) ∙ send_faultless entries _ grid same from to c.in-Some.to.items some

pub returns-clause-stands : goal.returns-clause-stands
returns-clause-stands c entries stands =
    let grid = without_ports c.plan.inside.cols c.plan.inside.rows in
    let some = ap (λ tiles. each_once (map (number_in grid) tiles)) (sym c.deref-2.ensures.value) ∙ sym c.in_ok-to.ensures ∙ ap (option_map (λ numbers. numbers.items)) c.in-Some.is in
    let targets = (once_some _ _ c.in-Some.to.items some).1 in
    let is : c.add.new.self ≡ record c.args.plan.now {
      hauls = c.args.plan.now.hauls ++ record { from = c.tile_number-from.result; net = c.send.inside.net; to = c.in-Some.to.items } ∷ [];
      words = c.args.plan.now.words ++ c.send.inside.word ∷ [];
    } = c.in_ok-add.ensures {u = tt} in
    let sent : Sent = record { net = c.send.inside.net; from = c.send.inside.from; word = c.send.inside.word; to = c.send.inside.to.items } in
    let told : Haulage = record { from = c.tile_number-from.result; net = c.send.inside.net; to = c.in-Some.to.items } in
    let haul : told ≡ haul_of grid sent =
    ap (λ n. record { from = n; net = c.send.inside.net; to = c.in-Some.to.items }) c.tile_number-from.ensures
    ∙ ap (λ tiles. record { from = number_in grid c.send.inside.from; net = c.send.inside.net; to = tiles }) (sym targets) in
    subst (λ s. PlanStands (Some c.add.new.self) (entries ++ Send s ∷ [])) c.send.view_is
    (stands_more c.args.plan.now c.add.new.self entries sent grid (grid_same _ entries (c.plan.view_is ∙ stands.1)) stands
    (is ∙ ap (λ h. record c.args.plan.now { hauls = c.args.plan.now.hauls ++ h ∷ []; words = c.args.plan.now.words ++ c.send.inside.word ∷ [] }) haul))
