use Rattle.std.proofs.Common.{ℕ, ◌+◌, ◌<◌, cond, Some, get_or, sym, ap, ◌∙◌, subst, arith}
use Rattle.std.specs.List.{All}
use Rattle.std.specs.Ordering.{nat_cmp}
use Rattle.std.specs.Map.{keys_of}
use Rattle.std.specs.BTreeMap.{is_at}
use Rattle.std.proofs.lemmas.Map.Views.{All-keys-insert_entry}
use Rattle.raw_model.specs.declared.limits.TheConstants.{MEMORY_WORDS}
use Rattle.raw_set_text.specs.Memory.{word_of}
use Rattle.raw_set_text.proofs.Building.TilesCells.{word_next}
use Rattle.raw_set_text.proofs.tile_memory.write_words.Goals as goal

pub loop-i-preserved : goal.loop-i-preserved
loop-i-preserved c =
    let words = c.args.words.now in
    let place = c.args.first + c.loop-i.i in
    let word = get_or words c.loop-i.i 0 in
    record {
      words = λ k. c.in_ok-insert.ensures.updates.0 k
          ∙ ap (λ o. cond (is_at (nat_cmp place) k) (Some word) o) (c.loop-i.invariant.words k)
          ∙ word_next c.args.first c.loop-i.i k words (word_of c.args.memory.now k) (omega (arith, c.loop-i-test.true));
      inside = λ h. subst (λ es. All (λ (p : ℕ). p < MEMORY_WORDS) (keys_of es)) (sym c.in_ok-insert.ensures.entries)
          (All-keys-insert_entry nat_cmp place word (λ (p : ℕ). p < MEMORY_WORDS) c.loop-i.memory.entries (c.loop-i.invariant.inside h) (omega (arith, c.loop-i-test.true, c.requires)));
    }
