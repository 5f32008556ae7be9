-- The line on err, by how putting it ended.
use Rattle.std.proofs.Common.{ℕ, List, length, take, Option, None, Some, Result, Ok, Err, refl, inl, inr, arith}
use Rattle.std.proofs.Math.Seq.{take-length}
use Rattle.std.specs.Io.KnownBytes.{Appends}
use Rattle.raw_io.specs.Writing.{AppendsFront, grown, Writes}
use Rattle.raw_shell.specs.Seen.{SinkSeen, Says}

pub front_put : (old new : Option (List ℕ)) (text : List ℕ) → AppendsFront old new text → Appends old new (take (grown old new) text)
front_put None new text front = front
front_put (Some xs) None text front = front
front_put (Some xs) (Some ys) text front = front

-- the line, by how putting it ended
pub says : {T E : Type 0} (err : SinkSeen) (line : List ℕ) (result : Result T E) → Writes err.old err.new line result → Says err line
says err line (Ok x) w = record {
  count = length line;
  within = omega arith;
  put = rw take-length w.ok;
  whole = inl refl;
  counted = w.count;
}
says err line (Err x) w = record {
  count = grown err.old.bytes err.new.bytes;
  within = let short = w.front.short in omega (arith, short);
  put = front_put err.old.bytes err.new.bytes line w.front.front;
  whole = inr w.fault;
  counted = w.count;
}
