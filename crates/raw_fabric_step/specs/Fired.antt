-- What a turn of a processor did to its pass.
use Rattle.std.specs.Prelude.{◌≡◌, ℕ, ◌<◌, ◌^◌, Option, List, [], ◌∷◌, ◌++◌, length}
use Rattle.std.specs.List.{All}
use Rattle.std.specs.Option.{option_to_list}
use Rattle.raw_model.specs.Local.{Local}
use Rattle.raw_fabric_rule.specs.Views.{About, Hold, View}
use Rattle.raw_fabric_rule.specs.ByEnds.{needs, next_local, touched_by}
use Rattle.raw_fabric_rule.specs.Rule.{HasStood}
use Rattle.raw_fabric_rule.specs.Plays.{Rises, counts_with, values_of, fired}
use Rattle.raw_fabric_rule.specs.Conditions.{ShowsRow}
use Rattle.raw_fabric_rule.specs.Commit.{IsStepOf}
use Rattle.raw_fabric_step.specs.declared.looks.Unmet.{Unmet}
use Rattle.raw_fabric_step.specs.Units.{mine, Placed, Steady, Logged, IsReady, IsLooked, IsIdle}
use Rattle.raw_fabric_step.specs.Causes.{IsCause}

-- fetches and stores took u to z
pub record IsHeldFor (u z : Hold) : Type 0 where
  pub local_same : z.local ≡ u.local
  pub touches_same : z.touches ≡ u.touches
  pub counts_same : z.counts ≡ u.counts
  pub seen_same : z.seen ≡ u.seen

-- looks, fetches and stores took u to z
pub record IsPrepared (about : About) (p : ℕ) (u z : Hold) : Type 0 where
  pub local_same : z.local ≡ u.local
  pub touches_same : z.touches ≡ u.touches
  pub counts_same : z.counts ≡ u.counts
  pub rises : Rises about p u z

-- Processor p, which is unit i of the pass, did its row with these operands, and has this status word: v is the view before, w after.
pub record HasFired (about : About) (p i status : ℕ) (values : List ℕ) (v w : View) : Type 0 where
  -- the view of the pass right before its status word was stored: since v it has looked, fetched and stored values for p
  pub before : View
  pub steady : Steady about p v before
  pub prepared : IsPrepared about p (mine v i) (mine before i)
  -- it shows the row of p, and these are the operands that it fetched
  pub shows : ShowsRow about p (mine before i)
  pub operands : values ≡ values_of (mine before i)
  -- a state of the machine stood with it, and the store of the status word was one step from there
  pub stood : HasStood about before
  pub is_step : IsStepOf about p status before
  pub after : w ≡ fired p before
  -- the operands are words, as many as the row takes
  pub words : All (λ value. value < 2 ^ 32) values
  pub many : length values ≡ length (needs about.set p (mine v i).local)
  -- the log has p at its end, and no other processor of the pass changed
  pub logged : Logged about p v w
  pub placed : Placed about w p i
  pub local_is : (mine w i).local ≡ next_local about.set p (mine v i).local values
  pub touches_are : (mine w i).touches ≡ (mine v i).touches ++ touched_by about.set p (mine v i).local values ∷ []
  pub counts_are : (mine w i).counts ≡ counts_with about.set p (mine v i) values
  -- no seen count of it fell
  pub rises : Rises about p (mine v i) (mine w i)
  pub idle : IsIdle (mine w i)
  pub ready : IsReady status (mine w i)

-- it did its row with the operands that it fetched, and is in this local state; it touched this address, or none
pub record HasStepped (about : About) (p i status : ℕ) (now : Local) (touched : Option ℕ) (v w : View) : Type 0 where
  pub values : List ℕ
  pub has_fired : HasFired about p i status values v w
  pub now_is : (mine w i).local ≡ now
  pub touched_is : (mine w i).touches ≡ (mine v i).touches ++ option_to_list touched ∷ []

-- processor p waits, and nothing but what was seen changed
pub record HasWaited (about : About) (p i : ℕ) (r : Unmet) (v w : View) : Type 0 where
  pub steady : Steady about p v w
  pub placed : Placed about w p i
  pub looked : IsLooked about p (mine v i) (mine w i)
  pub cause : IsCause about p r v w (mine v i) (mine w i)
