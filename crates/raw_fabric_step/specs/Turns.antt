-- The turn of a processor of a pass: what stands before each of its steps at the table, and what they leave.
use Rattle.std.specs.Prelude.{◌≡◌, ℕ, ◌^◌, ◌<◌, Option, IfSome, false}
use Rattle.std.specs.List.{All}
use Rattle.atomic_table.specs.Seated.{TableId}
use Rattle.atomic_table.specs.declared.shared.Seat.{Seat}
use Rattle.raw_model.specs.Local.{Local}
use Rattle.raw_model.specs.Machine.{is_stopped}
use Rattle.raw_fabric_rule.specs.Views.{About, Hold, View}
use Rattle.raw_fabric_rule.specs.Rule.{HasStood}
use Rattle.raw_fabric_rule.specs.Plays.{values_of, fired_unit, fired}
use Rattle.raw_fabric_rule.specs.Commit.{IsStepOf}
use Rattle.raw_fabric_rule.specs.Seats.{IsSameSeat}
use Rattle.raw_fabric_step.specs.declared.looks.Unmet.{Unmet}
use Rattle.raw_fabric_step.specs.declared.post.Post.{Post}
use Rattle.raw_fabric_step.specs.Units.{mine, Placed, Steady, Logged, IsReady, IsIdle}
use Rattle.raw_fabric_step.specs.Posts.{IsPost}
use Rattle.raw_fabric_step.specs.Fired.{HasStepped, HasWaited}

-- the processor p, whose unit is u, is in this local state and not stopped, and no step of it is under way
pub record IsDue (about : About) (p : ℕ) (u : Hold) (l : Local) : Type 0 where
  pub local_is : u.local ≡ l
  pub going : is_stopped about.set p l ≡ false
  pub idle : IsIdle u

module _ {S : Type 0} where
  -- The seat of a pass of the fabric with this table, and the post of a processor of the pass.
  pub record IsSeated (about : About) (id : TableId) (seat : Seat S View) (post : Post) : Type 0 where
    -- the seat is at the table
    pub table : seat.table_id ≡ id
    -- the post tells where the processor's wires lead
    pub post_is : IsPost about id.words post
    -- the processor has the post's index among those of the pass
    pub placed : Placed about seat.me.0 post.p post.index

  -- What stands before each step of a turn at the table.
  pub record TurnStands (about : About) (id : TableId) (seat : Seat S View) (post : Post) (status : ℕ) : Type 0 where
    pub seated : IsSeated about id seat post
    -- this is the processor's own status word
    pub ready : IsReady status (mine seat.me.0 post.index)

  -- What each step of a turn leaves but the last.
  pub record TurnKept (about : About) (post : Post) (old new : Seat S View) : Type 0 where
    pub same : IsSameSeat old new
    -- the log is as before, and the other processors of the pass were at most looked for
    pub steady : Steady about post.p old.me.0 new.me.0
    pub placed : Placed about new.me.0 post.p post.index

  -- What the last step leaves: this word was stored as the processor's status word, and its row took effect.
  pub record RowCommitted (about : About) (post : Post) (word : ℕ) (old new : Seat S View) : Type 0 where
    pub same : IsSameSeat old new
    pub view_is : new.me.0 ≡ fired post.p old.me.0
    -- the log has the processor at its end, and the others were at most looked for
    pub logged : Logged about post.p old.me.0 new.me.0
    pub placed : Placed about new.me.0 post.p post.index
    pub unit_is : mine new.me.0 post.index ≡ fired_unit about.set post.p (mine old.me.0 post.index) (values_of (mine old.me.0 post.index))
    -- a state of the machine stood with the view before, and this was one step from there
    pub stood : HasStood about old.me.0
    pub step : IsStepOf about post.p word old.me.0
    -- the operands are words of 32 bits
    pub words : All (λ value. value < 2 ^ 32) (values_of (mine old.me.0 post.index))

  -- The processor did its row in the turn: after it, it has this status word and this local state, and it touched this address, or none.
  pub record TurnStepped (about : About) (post : Post) (status : ℕ) (now : Local) (touched : Option ℕ) (old new : Seat S View) : Type 0 where
    pub same : IsSameSeat old new
    pub stepped : HasStepped about post.p post.index status now touched old.me.0 new.me.0
    pub small : IfSome touched (λ address. address < 2 ^ 16)

  -- The processor waits, and its state, which was x and then is y, is unchanged.
  pub record TurnWaits {T : Type 0} (about : About) (post : Post) (r : Unmet) (old new : Seat S View) (x y : T) : Type 0 where
    pub same : IsSameSeat old new
    pub waited : HasWaited about post.p post.index r old.me.0 new.me.0
    pub unchanged : y ≡ x
