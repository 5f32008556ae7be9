use Rattle.std.proofs.Common.{◌≡◌, ℕ, ◌<◌, [], Option, Some, None, subst}
use Rattle.std.specs.List.{All}
use Rattle.std.proofs.lemmas.List.Elements.{All-head}
use Rattle.std.proofs.lemmas.Option.{same_Some}
use Rattle.raw_network.specs.Network.{Sent}
use Rattle.raw_model.specs.Machine.{sent_to}
use Rattle.raw_serial.proofs.wires.Wires.put_where.Goals as goal

first_there : (n : ℕ) (o v : Option ℕ) (w x : ℕ) → o ≡ Some w → v ≡ Some x → All (λ (m : Sent). m.wire < n) (sent_to o v) → w < n
first_there n None v w x e f all = absurd (cc e)
first_there n (Some u) None w x e f all = absurd (cc f)
first_there n (Some u) (Some y) w x e f all =
    subst (λ k. k < n) (same_Some u w e) (All-head (λ (m : Sent). m.wire < n) (record { wire = u; value = y }) [] all)

pub put-requires-clause-there : goal.put-requires-clause-there
put-requires-clause-there c = first_there _ c.args.wire c.args.value c.in-Some.wire c.in-Some-value.value c.in-Some.is c.in-Some-value.is c.requires.there
