-- What is known where a byte was taken, or none was left, and where a byte was put behind others.
use Rattle.std.proofs.Common.{◌≡◌, ℕ, ◌+◌, Bool, false, List, [], ◌∷◌, ◌++◌, Option, Some, None, Result, Ok, Err, sym, ◌∙◌, subst}
use Rattle.std.specs.Prelude.{is_ok, is_err, if◌then◌else◌}
use Rattle.std.specs.Io.KnownBytes.{Consumes, IsAtEnd}
use Rattle.raw_io.specs.Sights.{SourceSight}
use Rattle.raw_debug_live.specs.Bytes.{TakesByte}

pub took : (old new : SourceSight) (o : Option ℕ) (next : ℕ) → o ≡ Some next → TakesByte old new (Ok o) → Consumes old.left new.left (next ∷ []) × (new.given ≡ old.given + 1)
took old new o next is takes = subst (λ x. TakesByte old new (Ok x)) is takes

pub took_none : (old new : SourceSight) (o : Option ℕ) → o ≡ None → TakesByte old new (Ok o) → IsAtEnd new.left × Consumes old.left new.left [] × (new.given ≡ old.given)
took_none old new o is takes = subst (λ x. TakesByte old new (Ok x)) is takes

pub pushed : {X T E : Type 0} (r : Result T E) (failed : Bool) (old new : List X) (x : X) → failed ≡ is_err r → failed ≡ false
    → new ≡ (if is_ok r then old ++ x ∷ [] else old) → new ≡ old ++ x ∷ []
pushed (Ok v) failed old new x is passed e = e
pushed (Err v) failed old new x is passed e = absurd (cc (sym is ∙ passed))
