-- An input means one set, or has one fault, by what is so of texts and of images.
use Rattle.std.proofs.Common.{◌≡◌, ◌⊎◌, ◌∙◌, ℕ, List, sym, inl, inr, ⊎_elim}
use Rattle.raw_model.specs.Program.{ProgramSet}
use Rattle.raw_image.specs.declared.kind.ImageKind.{ImageKind}
use Rattle.raw_image.specs.Image.{Image, ImageFault}
use Rattle.raw_image.specs.Answers as image
use Rattle.raw_inputs.specs.declared.form.InputForm.{InputForm}
use Rattle.raw_inputs.specs.declared.form.InputForm.TheVariants as form
use Rattle.raw_inputs.specs.declared.flaw.LineKind.{LineKind}
use Rattle.raw_inputs.specs.declared.flaw.Refusal.{Refusal}
use Rattle.raw_inputs.specs.declared.flaw.Refusal.TheVariants as refusal
use Rattle.raw_inputs.specs.Inputs.{Means, HasLineFault, HasFault, MeansOrFails, HasOneFault, IsOneInput, IsOneSet}

-- ---- texts
module _ (written : InputForm) (input : List ℕ) (no_image : (offset : ℕ) (kind : ImageKind) → HasFault written input (refusal.Image offset kind) → ⊥) (answer : IsOneSet written input) where
  not_both : (set : ProgramSet) (fault : Refusal) → Means written input set → HasFault written input fault → ⊥
  not_both set (refusal.Line line kind) means fault = answer.not_both set line kind means fault
  not_both set (refusal.Image offset kind) means fault = no_image offset kind fault

  pub one_input : IsOneInput written input
  one_input = record { one_set = answer.one_meaning; lawful = answer.valid; not_both = not_both }

  pub means_or_fails : MeansOrFails written input
  means_or_fails =
      ⊎_elim (λ (means : (set : ProgramSet) × Means written input set). inl means)
      (λ (fault : (line : ℕ) × (kind : LineKind) × HasLineFault written input line kind). inr (refusal.Line fault.0 fault.1, fault.2))
      answer.some

  pub one_fault : HasOneFault written input
  one_fault (refusal.Line i a) (refusal.Line j b) x y = let same = answer.one_fault i j a b x y in λ t. refusal.Line (same.0 t) (same.1 t)
  one_fault (refusal.Line i a) (refusal.Image j b) x y = absurd (no_image j b y)
  one_fault (refusal.Image i a) other x y = absurd (no_image i a x)

-- ---- images
no_image_fault : (input : List ℕ) → ((bytes : List ℕ) (set : ProgramSet) (offset : ℕ) (kind : ImageKind) → Image bytes set → ImageFault bytes offset kind → ⊥)
    → (set : ProgramSet) (fault : Refusal) → Image input set → HasFault form.Image input fault → ⊥
no_image_fault input not_both set (refusal.Image offset kind) meaning fault = not_both input set offset kind meaning fault
no_image_fault input not_both set (refusal.Line line kind) meaning fault = fault

pub of_image : (input : List ℕ) → ((bytes : List ℕ) (a b : ProgramSet) → Image bytes a → Image bytes b → a ≡ b)
    → ((bytes : List ℕ) (set : ProgramSet) (offset : ℕ) (kind : ImageKind) → Image bytes set → ImageFault bytes offset kind → ⊥)
    → IsOneInput form.Image input
of_image input one_set not_both = record {
  one_set = one_set input;
  lawful = λ set meaning. meaning.1.lawful;
  not_both = no_image_fault input not_both;
}

pub either_image : (input : List ℕ) → image.HasOneAnswer input → MeansOrFails form.Image input
either_image input (inl one) = inl (one.0, one.1.image)
either_image input (inr one) = inr (refusal.Image one.0 one.1.0, one.1.1.fault)

pub one_image : (input : List ℕ) → image.HasOneAnswer input → HasOneFault form.Image input
one_image input (inl one) (refusal.Image i a) other x y = absurd (one.1.no_fault i a x)
one_image input (inr one) (refusal.Image i a) (refusal.Image j b) x y =
    let place = one.1.1.one_place i a x ∙ sym (one.1.1.one_place j b y) in
    let kind = one.1.1.one_kind i a x ∙ sym (one.1.1.one_kind j b y) in
    λ t. refusal.Image (place t) (kind t)
one_image input (inr one) (refusal.Image i a) (refusal.Line j b) x y = absurd y
one_image input one (refusal.Line i a) other x y = absurd x
