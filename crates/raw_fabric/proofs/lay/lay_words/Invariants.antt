use Rattle.std.proofs.Common.{◌≡◌, ℕ, ◌+◌, ◌<◌}
use Rattle.std.specs.Prelude.{slice_index, vec_len, vec_capacity}
use Rattle.raw_fabric.specs.Laying.{first_word, value_before}
use Rattle.raw_fabric.proofs.lay.lay_words.Given as goal

abbrev pub invariant-statuses : goal.invariant-statuses
invariant-statuses l = record {
  long : vec_len l.words ≡ l.i;
  room : vec_capacity l.words ≡ l.statuses + l.values;
  firsts : (i : ℕ) → i < l.i → slice_index l.words.items i ≡ first_word l.machine.set l.machine.state i;
}

abbrev pub invariant-values : goal.invariant-values
invariant-values l = record {
  long : vec_len l.words ≡ l.statuses + l.i;
  room : vec_capacity l.words ≡ l.statuses + l.values;
  firsts : (i : ℕ) → i < l.statuses → slice_index l.words.items i ≡ first_word l.machine.set l.machine.state i;
  stored : (i : ℕ) → i < l.i → slice_index l.words.items (l.statuses + i) ≡ value_before l.machine.state i;
}
