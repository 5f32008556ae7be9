use Rattle.std.proofs.Common.{◌≡◌, List, ◌++◌, sym, ap, ◌∙◌}
use Rattle.raw_queue.specs.declared.item.Item.{Item}
use Rattle.raw_queue.specs.Ends.{QueueEnd}
use Rattle.raw_live.proofs.Joins.{joined_of}
use Rattle.raw_live.proofs.live.run_and_close.Goals as goal

-- what was put and taken at ends that were given back
given_back : (put taken put_end take_end : QueueEnd) (rest : List Item) → put_end ≡ put → take_end ≡ taken → put_end.items ≡ take_end.items ++ rest → put.items ≡ taken.items ++ rest
given_back put taken put_end take_end rest p t e = ap (λ (x : QueueEnd). x.items) (sym p) ∙ e ∙ ap (λ (x : QueueEnd). x.items ++ rest) t

pub returns : goal.returns
returns g c =
    let ends = c.run_beside-answers.new.ends in
    let o = c.run_beside-answers.ensures in
    joined_of _ _ _ _ _ _ _ _ _ ends.read.items ends.fed.items c.close.ensures.rest ends.got.items ends.written.items c.close-2.ensures.rest
    (given_back ends.read ends.fed _ _ c.close.ensures.rest c.into_end-put_in.ensures c.into_end-take_in.ensures c.close.ensures.prefix)
    (given_back ends.got ends.written _ _ c.close-2.ensures.rest c.into_end-put_out.ensures c.into_end-take_out.ensures c.close-2.ensures.prefix) c.requires.intake c.requires.starts.valid _ o.read _ _ o.ran o.wrote
