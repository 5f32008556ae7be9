-- Several turns of one processor of a pass in a row.
use Rattle.std.proofs.Common.{◌≡◌, ℕ, ◌+◌, ◌<◌, true, false, List, [], ◌∷◌, ◌++◌, refl, sym, ap, ◌∙◌, subst, arith}
use Rattle.std.specs.Prelude.{◌≤◌, vec_len, vec_capacity}
use Rattle.std.proofs.lemmas.List.{map-append}
use Rattle.atomic_table.specs.Seated.{TableId}
use Rattle.atomic_table.specs.declared.shared.Seat.{Seat}
use Rattle.raw_grid.specs.declared.parts.ProcId.{ProcId}
use Rattle.raw_model.specs.Machine.{is_stopped}
use Rattle.raw_processor.specs.declared.processor.Processor.{Processor}
use Rattle.raw_processor.specs.Processor.{local_of, owed_of}
use Rattle.raw_fabric_rule.specs.Views.{About, View}
use Rattle.raw_fabric_rule.specs.Seats.{IsSameSeat}
use Rattle.raw_fabric_step.specs.declared.post.Post.{Post}
use Rattle.raw_fabric_step.specs.Units.{mine}
use Rattle.raw_fabric_step.proofs.Steady.{looked_twice, placed_on}
use Rattle.raw_steps.specs.declared.log.PassLog.{PassLog}
use Rattle.raw_steps.specs.Taking.{numbers}
use Rattle.raw_fabric.specs.declared.answer.FabricTurn.{FabricTurn}
use Rattle.raw_fabric.specs.declared.answer.FabricTurn.TheVariants.{Fired, Stalled, Stopped, LogFull, Waits}
use Rattle.raw_fabric.specs.Holding.{IsUnitOf}
use Rattle.raw_fabric.specs.Answers.{IsUnitTurn, UnitStands, UnitLeft, has_fired}
use Rattle.raw_fabric.specs.InRow.{LeavesOthers, RowStands, IsLogOf, IsOwingThen, AreTurns}
use Rattle.raw_fabric.proofs.Firing.{none_leaves, turn_leaves, turn_log, fired_log}
use Rattle.raw_fabric.proofs.Owed.{owing_turn}

leaves_twice : (about : About) (p : ℕ) (v w x : View) → LeavesOthers about p v w → LeavesOthers about p w x → LeavesOthers about p v x
leaves_twice about p v w x a b = record {
  sits = λ k many s. b.sits k many (a.sits k many s);
  others = λ q j other pl. looked_twice about q (mine v j) (mine w j) (mine x j) (a.others q j other pl) (b.others q j other (placed_on about v w q j a.sits pl));
}

module _ {S : Type 0} where
  same_twice : (a b c : Seat S View) → IsSameSeat a b → IsSameSeat b c → IsSameSeat a c
  same_twice a b c first next = record { table = next.table ∙ first.table; number = next.number ∙ first.number; slots = next.slots ∙ first.slots }

  -- from the seat s, the processor x and the log before them, so many steps of the processor of the post led to t, y and more
  pub record HasGone (about : About) (post : Post) (room : ℕ) (s : Seat S View) (x : Processor) (log : PassLog) (status done : ℕ) (t : Seat S View) (y : Processor) (more : PassLog) : Type 0 where
    pub left : UnitLeft about post status s t
    pub unit : IsUnitOf about post.p y (mine t.me.0 post.index)
    pub others : LeavesOthers about post.p s.me.0 t.me.0
    pub log_is : IsLogOf t.me.0 room more
    pub worker : more.worker ≡ log.worker
    pub many : vec_len more.steps ≡ vec_len log.steps + done
    pub none : done ≡ 0 → owed_of y ≡ owed_of x

  pub gone_none : (about : About) (id : TableId) (post : Post) (room : ℕ) (s : Seat S View) (x : Processor) (log : PassLog) (status : ℕ) → RowStands about id s post status x → IsLogOf s.me.0 room log →
      HasGone about post room s x log status 0 s x log
  gone_none about id post room s x log status r is = record {
    left = record { same = record { table = refl; number = refl; slots = refl }; placed = r.stands.seated.placed; ready = r.stands.ready };
    unit = r.unit;
    others = none_leaves about post.p s.me.0 s.me.0 refl;
    log_is = is;
    worker = refl;
    many = omega arith;
    none = λ e. refl;
  }

  module _ (about : About) (id : TableId) (post : Post) (room : ℕ) (s : Seat S View) (x : Processor) (log : PassLog) (first done : ℕ) (r : RowStands about id s post first x)
      (status : ℕ) (t : Seat S View) (y : Processor) (more : PassLog) (gone : HasGone about post room s x log status done t y more) where
    -- it may take its next turn
    pub gone_stands : is_stopped about.set post.p (local_of y) ≡ false → UnitStands about id t post status y
    gone_stands going = record {
      stands = record {
        seated = record { table = gone.left.same.table ∙ r.stands.seated.table; post_is = r.stands.seated.post_is; placed = gone.left.placed };
        ready = gone.left.ready;
      };
      unit = gone.unit;
      going = going;
    }

    -- a last turn that asks nothing of the seat
    pub gone_still : (turn : FabricTurn) → IsOwingThen turn (owed_of x) (owed_of x) → AreTurns turn log more (owed_of x) (owed_of y)
    gone_still turn owes = record {
      many = let m = gone.many in omega arith;
      none = λ same. let m = gone.many in subst (IsOwingThen turn (owed_of x)) (sym (gone.none (omega (arith, m, same)))) owes;
    }

    module _ (turn : FabricTurn) (then : ℕ) (u : Seat S View) (z : Processor) (left : UnitLeft about post then t u) (unit : IsUnitOf about post.p z (mine u.me.0 post.index))
        (is : IsUnitTurn about post.p post.index turn t.me.0 u.me.0 y z) where
      pub gone_left : UnitLeft about post then s u
      gone_left = record { same = same_twice s t u gone.left.same left.same; placed = left.placed; ready = left.ready }

      pub gone_others : LeavesOthers about post.p s.me.0 u.me.0
      gone_others = leaves_twice about post.p s.me.0 t.me.0 u.me.0 gone.others (turn_leaves about post.p post.index turn t.me.0 u.me.0 y z is)

      -- the next turn was a step
      pub gone_more : has_fired turn ≡ true → (next : PassLog) → next.worker ≡ more.worker → next.steps.items ≡ more.steps.items ++ record { 0 = post.p } ∷ [] →
          vec_len next.steps ≡ vec_len more.steps + 1 → room ≤ vec_capacity next.steps → vec_len more.steps < room →
          HasGone about post room s x log then (done + 1) u z next
      gone_more fired next worker items len cap short = record {
        left = gone_left;
        unit = unit;
        others = gone_others;
        log_is = record {
          log_is = fired_log about post.p post.index turn t.me.0 u.me.0 y z is fired ∙ ap (λ l. l ++ post.p ∷ []) gone.log_is.log_is
              ∙ sym (map-append (λ (q : ProcId). q.0) more.steps.items (record { 0 = post.p } ∷ [])) ∙ ap numbers (sym items);
          log_room = cap;
          log_short = omega (arith, len, short);
        };
        worker = worker ∙ gone.worker;
        many = let m = gone.many in omega (arith, m, len);
        none = λ e. absurd (omega (arith, e));
      }

      -- or none
      pub gone_log : has_fired turn ≡ false → IsLogOf u.me.0 room more
      gone_log none = record {
        log_is = turn_log about post.p post.index turn t.me.0 u.me.0 y z is none ∙ gone.log_is.log_is;
        log_room = gone.log_is.log_room;
        log_short = gone.log_is.log_short;
      }

      pub gone_turns : has_fired turn ≡ false → AreTurns turn log more (owed_of x) (owed_of z)
      gone_turns none = record {
        many = let m = gone.many in omega arith;
        none = λ same. let m = gone.many in owing_turn about post.p post.index turn t.me.0 u.me.0 x y z is none (gone.none (omega (arith, m, same)));
      }

-- a turn that is no step
pub unfired : (turn : FabricTurn) → (turn ≡ Fired → ⊥) → has_fired turn ≡ false
unfired Fired not = absurd (not refl)
unfired Stalled not = refl
unfired Stopped not = refl
unfired LogFull not = refl
unfired (Waits wire seen) not = refl
