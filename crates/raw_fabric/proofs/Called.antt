-- A call for the processor of a post: what stands before its turn, and what the turn leaves of its pass.
use Rattle.std.proofs.Common.{◌≡◌, ℕ, ◌/◌, ◌≤◌, Bool, Some, get_or, set, refl, sym, ap, ◌∙◌, subst, arith}
use Rattle.std.specs.Prelude.{slice_get, vec_len, vec_capacity}
use Rattle.std.proofs.lemmas.Option.{same_Some}
use Rattle.raw_model.specs.Program.{ProgramSet}
use Rattle.raw_model.specs.Machine.{is_stopped}
use Rattle.raw_processor.specs.declared.processor.Processor.{Processor}
use Rattle.raw_processor.specs.Processor.{local_of}
use Rattle.raw_fabric_rule.specs.Views.{About, View}
use Rattle.raw_fabric_rule.specs.Seats.{IsSameSeat}
use Rattle.raw_fabric_step.specs.declared.post.Post.{Post}
use Rattle.raw_fabric_step.specs.Units.{Placed, mine, IsReady, first_log}
use Rattle.raw_fabric_step.specs.Turns.{TurnStands}
use Rattle.raw_steps.specs.Taking.{numbers}
use Rattle.raw_fabric.specs.declared.fabric.Fabric.{Fabric}
use Rattle.raw_fabric.specs.declared.pass.Pass.{Pass}
use Rattle.raw_fabric.specs.declared.answer.FabricTurn.{FabricTurn}
use Rattle.raw_fabric.specs.Holding.{IsUnitOf}
use Rattle.raw_fabric.specs.InRow.{LeavesOthers}
use Rattle.raw_fabric.specs.Opened.{about_of, id_of, IsPass, IsPostOf, CallStands}
use Rattle.raw_fabric.specs.Answers.{IsUnitTurn, CanStep, IsAnswer, IsTurnOf}
use Rattle.raw_fabric.proofs.Places.{read_at}
use Rattle.raw_fabric.proofs.Firing.{inside, placed, unit_here, read_here, answer_of, turn_of, pass_after}

module _ (f : Fabric) (pass : Pass) (post : Post) (r : CallStands f pass post.p) (is : IsPostOf f post) where
  abbrev a : About
  a = about_of f

  abbrev v : View
  v = pass.seat.me.0

  abbrev i : ℕ
  i = post.p / a.workers

  -- the processor that is read at the place of the post is that of the unit
  pub here : (x : Processor) → x ≡ get_or pass.processors.items post.index x → slice_get pass.processors.items i ≡ Some x
  here x read = read_here a (id_of f) pass post.p r.pass r.holds post.index x is.index_is read

  pub here_at : (x : Processor) → x ≡ get_or pass.processors.items post.index x → slice_get pass.processors.items post.index ≡ Some x
  here_at x read = ap (slice_get pass.processors.items) is.index_is ∙ here x read

  pub unit_at : (x : Processor) → x ≡ get_or pass.processors.items post.index x → IsUnitOf a post.p x (mine v post.index)
  unit_at x read = subst (λ q. IsUnitOf a post.p x (mine v q)) (sym is.index_is) (unit_here a (id_of f) pass post.p r.pass r.holds x (here x read))

  -- its turn can begin
  pub stands_at : (status : ℕ) → status ≡ get_or pass.statuses.items post.index status → TurnStands a (id_of f) pass.seat post status
  stands_at status read =
      let within = inside a (id_of f) pass post.p r.pass r.holds in
      let many = r.pass.statuses_many in
      let ok = pass.statuses.ok in
      let index = is.index_is in
      record {
        seated = record { table = r.pass.table_is; post_is = is.post_is; placed = subst (Placed a v post.p) (sym index) (placed a (id_of f) pass post.p r.pass r.holds) };
        ready = r.pass.statuses post.index status (read_at pass.statuses post.index status (omega arith) read);
      }

  -- whether it is stopped
  pub stop_at : (x y : Processor) (b : Bool) → x ≡ get_or pass.processors.items post.index x → slice_get pass.processors.items i ≡ Some y → is_stopped f.set.now post.p (local_of x) ≡ b
      → is_stopped a.set post.p (local_of y) ≡ b
  stop_at x y b read there said =
      subst (λ z. is_stopped a.set post.p (local_of z) ≡ b) (same_Some x y (sym (here x read) ∙ there))
      (ap (λ (s : ProgramSet). is_stopped s post.p (local_of x)) r.fabric.set_is ∙ said)

  -- a turn that does nothing
  pub no_turn : (turn : FabricTurn) → ((x : Processor) → slice_get pass.processors.items i ≡ Some x → IsAnswer a post.p i pass.room turn v v x x) → IsTurnOf a post.p turn pass pass
  no_turn turn answer = record {
    answer = λ x y ex ey. subst (IsAnswer a post.p i pass.room turn v v x) (same_Some x y (sym ex ∙ ey)) (answer x ex);
    others = λ j other. refl;
    room_same = refl;
  }

  -- a turn by which x became y
  module _ (new : Pass) (x y : Processor) (processors : new.processors.items ≡ set pass.processors.items post.index y) where
    abbrev w : View
    w = new.seat.me.0

    set_at : new.processors.items ≡ set pass.processors.items i y
    set_at = processors ∙ ap (λ j. set pass.processors.items j y) is.index_is

    pub turn_left : (turn : FabricTurn) → x ≡ get_or pass.processors.items post.index x → new.room ≡ pass.room → CanStep a post.p pass.room v x → IsUnitTurn a post.p post.index turn v w x y
        → IsTurnOf a post.p turn pass new
    turn_left turn read room can t =
        turn_of a post.p turn pass new x y (here x read) set_at room
        (answer_of a post.p i pass.room turn v w x y can (subst (λ q. IsUnitTurn a post.p q turn v w x y) is.index_is t))

    pub pass_left : (status : ℕ) → IsSameSeat pass.seat new.seat → new.log.worker ≡ pass.log.worker → new.workers ≡ pass.workers → new.statuses.items ≡ set pass.statuses.items post.index status
        → LeavesOthers a post.p v w → IsUnitOf a post.p y (mine w post.index) → IsReady status (mine w post.index) → first_log w.parts ≡ numbers new.log.steps.items
        → new.room ≤ vec_capacity new.log.steps → vec_len new.log.steps ≤ new.room → IsPass a (id_of f) pass.log.worker new
    pass_left status same worker workers statuses leaves unit ready =
        pass_after a (id_of f) pass new post.p r.pass r.holds x y status same.table same.slots worker workers set_at (statuses ∙ ap (λ j. set pass.statuses.items j status) is.index_is)
        leaves (subst (λ q. IsUnitOf a post.p y (mine w q)) is.index_is unit) (subst (λ q. IsReady status (mine w q)) is.index_is ready)
