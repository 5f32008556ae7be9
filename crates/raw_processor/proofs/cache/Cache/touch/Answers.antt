use Rattle.std.proofs.Common.{ℕ, ◌+◌, ◌/◌, ◌%◌, List, ◌∷◌, [], ◌++◌, cond, slice_set, subst, sym, ap, ◌∙◌}
use Rattle.raw_model.specs.Cache.{StandsFor, misses}
use Rattle.raw_processor.proofs.Standing.{miss_told, stands_then}
use Rattle.raw_processor.proofs.Counting.{misses_push}
use Rattle.raw_processor.proofs.cache.Cache.touch.Goals as goal

-- the cache's field stands for what the cache stands for
opened : (c : goal.After-touch) (touched : List ℕ) → StandsFor c.args.self.now touched → StandsFor c.self.inside.sets touched
opened c touched stands = subst (λ cache. StandsFor cache touched) (sym c.self.view_is) stands

pub returns-clause-miss : goal.returns-clause-miss
returns-clause-miss c touched stands = c.touch.ensures.miss ∙ miss_told c.self.inside.sets touched c.args.address _ (opened c touched stands)

pub returns-clause-stands : goal.returns-clause-stands
returns-clause-stands c touched stands =
    subst
    (λ ways. StandsFor (slice_set c.self.inside.sets (c.args.address / 32 % 64) ways) (touched ++ c.args.address ∷ []))
    (sym c.touch.ensures.after)
    (stands_then c.self.inside.sets touched c.args.address _ (opened c touched stands))

pub returns-clause-misses : goal.returns-clause-misses
returns-clause-misses c touched stands = misses_push touched c.args.address ∙ ap (λ b. cond b (misses touched + 1) (misses touched)) (sym (returns-clause-miss c touched stands))
