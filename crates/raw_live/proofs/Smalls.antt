-- Items whose ports and words are numbers of 32 bits.
use Rattle.std.proofs.Common.{List, [], ◌∷◌, ◌++◌}
use Rattle.raw_queue.specs.declared.item.Item.{Item}
use Rattle.raw_queue.specs.declared.item.Item.TheVariants.{Word, End}
use Rattle.raw_live.specs.Gots.{AreSmall}

pub small_append : (xs ys : List Item) → AreSmall xs → AreSmall ys → AreSmall (xs ++ ys)
small_append [] ys x y = y
small_append (Word port word ∷ xs) ys x y = (x.0, x.1, small_append xs ys x.2 y)
small_append (End ∷ xs) ys x y = small_append xs ys x y
