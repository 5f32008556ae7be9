-- What the sinks have received, processor by processor.
use Rattle.std.proofs.Common.{◌≡◌, ℕ, ◌+◌, Option, Some, List, ◌++◌, drop, sym, ap, ◌∙◌, append_assoc}
use Rattle.std.specs.Prelude.{slice_get}
use Rattle.std.specs.List.{flat_map}
use Rattle.raw_model.specs.Local.{Local}
use Rattle.raw_model.specs.Parts.{got_by}
use Rattle.raw_flow.proofs.Steps.{drop_next}

pub received_more : (got more whole : List ℕ) (locals : List Local) (p : ℕ) (local : Local) → slice_get locals p ≡ Some local → more ≡ got ++ got_by local
    → got ++ flat_map got_by (drop p locals) ≡ whole → more ++ flat_map got_by (drop (p + 1) locals) ≡ whole
received_more got more whole locals p local at is before =
    ap (λ (words : List ℕ). words ++ flat_map got_by (drop (p + 1) locals)) is
    ∙ append_assoc got (got_by local) (flat_map got_by (drop (p + 1) locals))
    ∙ ap (λ (others : List Local). got ++ flat_map got_by others) (sym (drop_next locals p local at))
    ∙ before
