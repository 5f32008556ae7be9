-- What the two ends of a queue know, and the rule that holds between them.
use Rattle.std.specs.Prelude.{◌≡◌, ℕ, Bool, true, List, ◌++◌}
use mathlib.Core.Option.{some}
use lib.ListN.{get_elem?}
use Rattle.raw_queue.specs.declared.item.Item.{Item}
use Rattle.raw_queue.specs.declared.view.EndView.{EndView}

-- what an end may do, and what it has put and taken
abbrev pub view_of : Bool → Bool → List Item → List Item → EndView
view_of puts takes put taken = record { puts = puts; takes = takes; put = put; taken = taken }

-- an end that puts is this writer and knows what was put, and one that takes is this reader and knows what was taken
pub record Knows (writer reader : ℕ) (put taken : List Item) (end : ℕ) (v : EndView) : Type 0 where
  pub puts : v.puts ≡ true → (end ≡ writer) × (v.put ≡ put)
  pub takes : v.takes ≡ true → (end ≡ reader) × (v.taken ≡ taken)

-- what was taken, followed by what the queue holds, is what was put; one end at most puts, and one at most takes
pub record IsInOrder (items : List Item) (views : List EndView) : Type 0 where
  pub writer : ℕ
  pub reader : ℕ
  pub put : List Item
  pub taken : List Item
  pub ordered : put ≡ taken ++ items
  pub known : (end : ℕ) (v : EndView) → get_elem? views end ≡ some v → Knows writer reader put taken end v
