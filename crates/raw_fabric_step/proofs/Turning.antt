-- The steps of a turn, one after another.
use Rattle.std.proofs.Common.{ℕ, refl, ◌∙◌}
use Rattle.atomic_table.specs.Seated.{TableId}
use Rattle.atomic_table.specs.declared.shared.Seat.{Seat}
use Rattle.raw_fabric_rule.specs.Views.{About, View}
use Rattle.raw_fabric_rule.specs.Seats.{IsSameSeat}
use Rattle.raw_fabric_step.specs.declared.post.Post.{Post}
use Rattle.raw_fabric_step.specs.Units.{mine, Placed, IsLooked}
use Rattle.raw_fabric_step.specs.Fired.{IsHeldFor}
use Rattle.raw_fabric_step.specs.Turns.{IsSeated, TurnStands, TurnKept}
use Rattle.raw_fabric_step.proofs.Steady.{steady_none, steady_more}
use Rattle.raw_fabric_step.proofs.Looking.{ready_looked}
use Rattle.raw_fabric_step.proofs.Pairing.{ready_held}

module _ {S : Type 0} where
  pub same_seat : {a b c : Seat S View} → IsSameSeat a b → IsSameSeat b c → IsSameSeat a c
  same_seat first then = record { table = then.table ∙ first.table; number = then.number ∙ first.number; slots = then.slots ∙ first.slots }

  pub kept_none : (about : About) (post : Post) (seat : Seat S View) → Placed about seat.me.0 post.p post.index → TurnKept about post seat seat
  kept_none about post seat placed = record { same = record { table = refl; number = refl; slots = refl }; steady = steady_none about post.p seat.me.0; placed = placed }

  pub kept_more : {about : About} {post : Post} {a b c : Seat S View} → TurnKept about post a b → TurnKept about post b c → TurnKept about post a c
  kept_more first then = record { same = same_seat first.same then.same; steady = steady_more _ _ _ _ _ first.steady then.steady; placed = then.placed }

  pub seated_kept : {about : About} {id : TableId} {post : Post} {a b : Seat S View} → IsSeated about id a post → TurnKept about post a b → IsSeated about id b post
  seated_kept seated kept = record { table = kept.same.table ∙ seated.table; post_is = seated.post_is; placed = kept.placed }

  pub stands_looked : {about : About} {id : TableId} {post : Post} {status : ℕ} {a b : Seat S View} → TurnStands about id a post status → TurnKept about post a b
      → IsLooked about post.p (mine a.me.0 post.index) (mine b.me.0 post.index) → TurnStands about id b post status
  stands_looked stands kept looked = record { seated = seated_kept stands.seated kept; ready = ready_looked _ _ _ _ _ stands.ready looked }

  pub stands_held : {about : About} {id : TableId} {post : Post} {status : ℕ} {a b : Seat S View} → TurnStands about id a post status → TurnKept about post a b
      → IsHeldFor (mine a.me.0 post.index) (mine b.me.0 post.index) → TurnStands about id b post status
  stands_held stands kept held = record { seated = seated_kept stands.seated kept; ready = ready_held _ _ _ stands.ready held }
