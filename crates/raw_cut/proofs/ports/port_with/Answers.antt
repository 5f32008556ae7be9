use Rattle.std.proofs.Common.{◌≡◌, ℕ, ◌+◌, ◌*◌, List, length, map, sym, ap, ap₂, ◌∙◌, arith}
use Rattle.std.proofs.lemmas.List.{length-map}
use Rattle.raw_stream.specs.Streams.{due_at}
use Rattle.raw_rows.specs.Kernels.{room_for}
use Rattle.raw_cut.specs.Parts.{spare_at}
use Rattle.raw_cut.proofs.Rooms.{room_is, spare_few}
use Rattle.raw_cut.proofs.ports.port_with.Goals as goal

pub overflow_add-result : goal.overflow_add-result
overflow_add-result c = omega (arith, c.in-Some.ensures.few, c.requires.few, c.spare_at.ensures, spare_few c.args.topo.now c.args.spare c.args.port)

pub returns : goal.returns
returns c =
    let rs : List (List ℕ) = map (λ row. row.items) c.args.rows.now in
    let due : c.len.result ≡ length (due_at c.args.stream.now c.args.port) = let long = c.in_ok-due.due.ok.0 in omega (arith, long, c.len.ensures, ap length c.in_ok-due.ensures) in
    let room : c.in-Some.room ≡ room_for c.args.stream.now c.args.port rs =
    c.in-Some.ensures.value ∙ ap₂ (λ (a b : ℕ). a * b) (sym (length-map c.args.rows.now (λ row. row.items))) due ∙ sym (room_is c.args.stream.now c.args.port rs) in
    let both : c.in-Some.room + c.spare_at.result ≡ room_for c.args.stream.now c.args.port rs + spare_at c.args.topo.now c.args.spare c.args.port = ap₂ (λ (a b : ℕ). a + b) room c.spare_at.ensures in
    λ i. record { words = c.in_ok-words.ensures i; capacity = both i }
