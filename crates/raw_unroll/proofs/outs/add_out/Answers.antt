use Rattle.std.proofs.Common.{◌≡◌, ◌+◌, ◌*◌, ◌∷◌, ◌++◌, [], cond, length, get_or, map, Some, None, sym, ap, ◌∙◌, arith}
use Rattle.std.specs.Option.{option_to_list}
use Rattle.std.proofs.lemmas.Bool.{eq-eqb}
use Rattle.raw_stream.specs.Streams.{Stream, due_of}
use Rattle.raw_stream.specs.Unrolled.{place}
use Rattle.raw_unroll.proofs.outs.add_out.Goals as goal

pub returns : goal.returns
returns c =
    let s : Stream = c.args.stream.now in
    let outs = c.args.outs.now.items in
    let long : c.len.result ≡ length s.nodes = omega (arith, ap (λ (x : Stream). length x.nodes) c.stream.view_is) in
    let value : get_or c.args.places.now (c.args.row * c.len.result + c.args.out.node) 0 ≡ place s c.args.row c.args.out.node =
    ap (λ n. get_or c.args.places.now (c.args.row * n + c.args.out.node) 0) long ∙ c.requires.places.each c.args.row c.args.out.node c.requires.row c.requires.node in
    let due : due_of c.args.port c.args.out ≡ Some c.args.out.node = ap (λ b. cond b (Some c.args.out.node) None) (eq-eqb c.args.out.port c.args.port c.if-out-port.false) in
    c.in_ok-push.ensures.items ∙ ap (λ p. outs ++ p ∷ []) value ∙ ap (λ o. outs ++ map (place s c.args.row) (option_to_list o)) (sym due)
