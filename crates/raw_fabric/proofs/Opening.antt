-- A machine that is taken apart for a fabric.
use Rattle.std.proofs.Common.{◌≡◌, ℕ, ◌<◌, Some, [], sym, ap, ◌∙◌, arith, mul-le-mul_right}
use Rattle.std.specs.Prelude.{slice_get, slice_index, slice_index_or}
use Rattle.std.proofs.lemmas.Option.{get_or_from_slice_get}
use Rattle.raw_grid.proofs.Growth.{procs_few}
use Rattle.raw_model.specs.Program.{ProgramSet, IsSet}
use Rattle.raw_processor.specs.declared.processor.Processor.{Processor}
use Rattle.raw_processor.specs.Processor.{local_of, cache_of, misses_of, owed_of}
use Rattle.raw_serial.specs.declared.parts.Parts.{Parts}
use Rattle.raw_serial.specs.Running.{Running}
use Rattle.raw_serial.specs.Taken.{IsMadeOf, IsWhole}
use Rattle.raw_serial.proofs.Fields.{field_at, at_field}
use Rattle.raw_serial.proofs.Reached.{made_whole}
use Rattle.raw_fabric_rule.specs.ByEnds.{procs, local, nobody}
use Rattle.raw_fabric_rule.specs.Word.{word_count}
use Rattle.raw_fabric.specs.Opened.{about_before}
use Rattle.raw_fabric.specs.Dealing.{HaveBefore}

-- the table has words
pub some_words : (g : ProgramSet) → IsSet g → 0 < word_count g
unfolding procs
some_words g is =
    let t = is.topology in
    let some = mul-le-mul_right g.topo.rows t.size.some_cols in
    let rows = t.size.some_rows in
    omega arith

-- ---- the processors of a machine
module _ (m : Running) (parts : Parts) (made : IsMadeOf m parts) where
  module _ (p : ℕ) (x : Processor) (here : slice_get parts.processors.items p ≡ Some x) where
    local_here : slice_get m.state.locals p ≡ Some (local_of x)
    local_here = ap (λ (r : Running). slice_get r.state.locals p) made ∙ at_field local_of parts.processors.items p x here

    pub local_there : local_of x ≡ local m.state p
    local_there = sym (get_or_from_slice_get m.state.locals p (local_of x) nobody local_here)

    pub cache_there : cache_of x ≡ slice_index_or m.caches p []
    cache_there = sym (ap (λ (r : Running). slice_index_or r.caches p []) made ∙ field_at cache_of parts.processors.items p x [] here)

    pub missed_there : misses_of x ≡ slice_index m.missed p
    missed_there = sym (ap (λ (r : Running). slice_index r.missed p) made ∙ field_at misses_of parts.processors.items p x 0 here)

    pub owed_there : owed_of x ≡ slice_index m.owed p
    owed_there = sym (ap (λ (r : Running). slice_index r.owed p) made ∙ field_at owed_of parts.processors.items p x 0 here)

  pub have_before : (workers : ℕ) → IsSet m.set → IsWhole m.set parts → HaveBefore (about_before m workers) parts.processors.items
  unfolding procs
  have_before workers valid whole =
      let all = made_whole m.set valid parts whole in
      let few = procs_few m.set.topo valid.topology in
      let each = whole.each in
      record {
        many = whole.each;
        few = omega arith;
        each = λ p x here. record {
          local_is = local_there p x here;
          kept = whole.kept p x here;
          fits = all.fits.locals p (local_of x) (at_field local_of parts.processors.items p x here);
          few = all.few p x here;
          cache_is = cache_there p x here;
          missed_is = missed_there p x here;
          owed_is = owed_there p x here;
        };
      }
