use Rattle.std.proofs.Common.{◌≡◌, List, length, None, Some, cond, sym, ap, ◌∙◌, subst, rules}
use Rattle.std.specs.HashMap.{get}
use Rattle.raw_set_text.specs.declared.declaration.Edge.{Edge}
use Rattle.raw_stream_text.specs.Edges.{Key, key_of, same_key}
use Rattle.raw_stream_text.specs.Seated.{AreSeats}
use Rattle.raw_stream_text.proofs.Edges.{seats_more}
use Rattle.raw_stream_text.proofs.seats.Seats.add.Goals as goal

pub invariant_of-self-in-Ok : goal.invariant_of-self-in-Ok
invariant_of-self-in-Ok c =
    let edges : List Edge = c.self.inside.edges.items in
    let key : c.key_of-key.result ≡ key_of c.args.edge = c.key_of-key.ensures in
    let many : c.len-number.result ≡ length edges = search (rules, c.len-number.ensures) in
    let none : get same_key c.self.inside.numbers (key_of c.args.edge) ≡ None = search (rules, c.self.invariant, c.find.ensures, c.is_some.ensures, c.if-is_some.false) in
    let updates = c.in-Ok.ensures.updates.0 in
    subst (λ (xs : List Edge). AreSeats xs c.insert.new.self) (sym c.in_ok-push.ensures.items)
    (seats_more edges c.args.edge c.self.inside.numbers c.insert.new.self c.self.invariant none
    (λ q. updates q ∙ ap (λ (k : Key). cond (same_key k q) (Some c.len-number.result) (get same_key c.self.inside.numbers q)) key
    ∙ ap (λ n. cond (same_key (key_of c.args.edge) q) (Some n) (get same_key c.self.inside.numbers q)) many))
