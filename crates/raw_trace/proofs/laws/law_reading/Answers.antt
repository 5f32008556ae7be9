use Rattle.std.proofs.Common.{◌≡◌, ℕ, ◌+◌, ◌-◌, sym, subst, arith}
use Rattle.raw_trace.specs.Laws.{IsPosition, IsRead, AreWiresRead, IsGotRead}
use Rattle.raw_trace.proofs.Places.{before_is}
use Rattle.raw_trace.proofs.Told.{processor_read}
use Rattle.raw_trace.proofs.Wires.{wire_read, got_of_sink}
use Rattle.raw_trace.proofs.Turns.{turn_read}
use Rattle.raw_trace.proofs.laws.law_reading.Goals as goal

-- a position is so many cycles behind the first one
behind : (n first past k : ℕ) → IsPosition n first past k → first + (k - first) ≡ k
behind n first past k is = let later = is.later in omega (arith, later)

pub returns-clause-processors : goal.returns-clause-processors
returns-clause-processors c =
    λ set n first past k p valid is below.
    subst (IsRead set k p) (sym (before_is set first n past k is)) (processor_read set valid p below first (k - first) k (behind n first past k is))

pub returns-clause-wires : goal.returns-clause-wires
returns-clause-wires c =
    λ set n first past k valid is.
    subst (AreWiresRead set k) (sym (before_is set first n past k is)) (λ w within. wire_read set valid first w within (k - first) k (behind n first past k is))

pub returns-clause-got : goal.returns-clause-got
returns-clause-got c =
    λ set n first past k valid is.
    subst (IsGotRead set first k) (sym (before_is set first n past k is))
    (λ p w within kind to. got_of_sink set valid first (k - first) k p w (behind n first past k is) within kind to)

pub returns-clause-turns : goal.returns-clause-turns
returns-clause-turns c = λ set n first past k p valid is below. turn_read set valid p below first n past k is
