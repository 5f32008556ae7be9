use Rattle.std.proofs.Common.{◌*◌, [], ◌∷◌, ◌++◌, Err, map, inl, inr, ap, sym, ⊎_elim}
use Rattle.std.proofs.lemmas.Result.{on_ok_weaker}
use Rattle.raw_codegen.specs.Limits.{Overflows}
use Rattle.raw_route.specs.Counts.{AreCounts, HasManyWords}
use Rattle.raw_codegen.specs.Parts.{Gives}
use Rattle.raw_route.specs.Planned.{store_part}
use Rattle.raw_route.proofs.giving.give_haul.Goals as goal

pub returns-in_err-give_tree-clause-too_many : goal.returns-in_err-give_tree-clause-too_many
returns-in_err-give_tree-clause-too_many c = λ earlier are e.
    let k = rw e at c.from_residual-in_err-give_tree.ensures in
    let full = c.in_err-give_tree.ensures.too_many (ap (λ r. Err r) (sym k.1)) in
    inl (c.law_giving.ensures.later _ _ _ _ _ (c.in_ok-give_send.ensures.gives (c.args.cols * c.args.rows)) (c.law_giving.ensures.more _ _ _ _ full))

pub returns-clause-given : goal.returns-clause-given
returns-clause-given c = λ earlier are.
    let n = c.args.cols * c.args.rows in
    let both = c.law_giving.ensures.both in
    on_ok_weaker c.give_stores.result
    (λ (h : Gives n (map (store_part earlier c.args.haul.now.net) c.args.haul.now.to) c.give_tree.new.programs c.give_stores.new.programs × AreCounts n c.give_stores.new.counts.items (earlier ++ record { haul = c.args.haul.now; word = c.args.word } ∷ [])).
    (both n _ _ _ _ _ (c.in_ok-give_send.ensures.gives n) (both n _ _ _ _ _ c.in_ok-give_tree.ensures.gives h.0), h.1))
    (c.give_stores.ensures.stored n earlier c.args.word are)

pub returns-clause-too_many : goal.returns-clause-too_many
returns-clause-too_many c = λ earlier are e.
    let n = c.args.cols * c.args.rows in
    let later = c.law_giving.ensures.later in
    ⊎_elim
    (λ (h : Overflows n (map (store_part earlier c.args.haul.now.net) c.args.haul.now.to) c.give_tree.new.programs).
    inl (later n _ _ _ _ (c.in_ok-give_send.ensures.gives n) (later n _ _ _ _ c.in_ok-give_tree.ensures.gives h)))
    (λ (h : HasManyWords n earlier). inr h)
    (c.give_stores.ensures.too_many n earlier are e)
