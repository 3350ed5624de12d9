-- What a run answers where the bytes of its inputs are known.
use Rattle.std.proofs.Common.{◌≡◌, ℕ, Bool, List, Option, Some, Result, Ok, Err, IfErr, refl, sym, subst}
use Rattle.std.specs.Io.KnownBytes.{Appends}
use Rattle.parser_kit.specs.declared.kit_error.KitError.TheVariants as kit
use Rattle.lrkit.specs.Answers.{GivesOutput, IsFaultOf}
use Rattle.lrkit.specs.Output.{Output}
use Rattle.lrkit.specs.Run.{AreGoodBefore, IsCauseIn, IsInput, IsRefusal, WritesOutput}
use Rattle.lrkit.specs.declared.fault.Input.TheVariants as inputs
use Rattle.lrkit.specs.declared.fault.RunFault.{RunFault}
use Rattle.lrkit.specs.declared.fault.RunFault.TheVariants.{Kit, Conflicts, NotARepair, NotUtf8, Read, TooLong, Write}

-- an input's text is its bytes
itself : (bs text : List ℕ) → IsInput (Some bs) text → IsInput (Some bs) bs
itself bs text is = subst (λ (t : List ℕ). IsInput (Some bs) t) (sym is.whole) is

module _ (g l r : List ℕ) where
  output_of : (known known' : Option (List ℕ)) (faulty : Bool) → WritesOutput (Some g) (Some l) (Some r) known known' faulty → (text : List ℕ) × GivesOutput g l r text faulty × Appends known known' text
  output_of known known' faulty w =
      let P : List ℕ → Type 0 = λ t. Output t w.line_text w.repair_text w.text faulty in
      let Q : List ℕ → Type 0 = λ t. Output g t w.repair_text w.text faulty in
      let R : List ℕ → Type 0 = λ t. Output g l t w.text faulty in
      let is_output = subst R (sym w.repairs_are.whole) (subst Q (sym w.lines_are.whole) (subst P (sym w.grammar_is.whole) w.is_output)) in
      let gives : GivesOutput g l r w.text faulty = record {
        grammar_is = itself g w.grammar_text w.grammar_is;
        lines_are = itself l w.line_text w.lines_are;
        repairs_are = itself r w.repair_text w.repairs_are;
        is_output = is_output;
      } in
      (w.text, gives, w.written)

  -- what is out is the output
  pub output_known : (kg kl kr known known' : Option (List ℕ)) → kg ≡ Some g → kl ≡ Some l → kr ≡ Some r → (faulty : Bool) → WritesOutput kg kl kr known known' faulty → (text : List ℕ) × GivesOutput g l r text faulty × Appends known known' text
  output_known kg kl kr known known' eg el er faulty w =
      let P : Option (List ℕ) → Type 0 = λ k. WritesOutput k kl kr known known' faulty in
      let Q : Option (List ℕ) → Type 0 = λ k. WritesOutput (Some g) k kr known known' faulty in
      let R : Option (List ℕ) → Type 0 = λ k. WritesOutput (Some g) (Some l) k known known' faulty in
      output_of known known' faulty (subst R er (subst Q el (subst P eg w)))

  fault_of : (a a' b b' d d' : ℕ) (e : RunFault) → IsRefusal (Some g) (Some r) e → AreGoodBefore (Some g) (Some r) e → IsCauseIn inputs.Grammar (Some g) a a' e → IsCauseIn inputs.Lines (Some l) b b' e → IsCauseIn inputs.Repairs (Some r) d d' e → IsFaultOf g l r e
  fault_of a a' b b' d d' (Kit (kit.Grammar es)) h before x y z = h
  fault_of a a' b b' d d' (Kit (kit.TooMany n)) h before x y z = h
  fault_of a a' b b' d d' (Kit (kit.TooManyStates n)) h before x y z = h
  fault_of a a' b b' d d' (Kit (kit.AcceptReduce p)) h before x y z = h
  fault_of a a' b b' d d' (Kit kit.TooLarge) h before x y z = h
  fault_of a a' b b' d d' (Kit (kit.TooManyReductions s q t n)) h before x y z = h
  fault_of a a' b b' d d' (Kit (kit.Memory e)) h before x y z = tt
  fault_of a a' b b' d d' (Conflicts i j m n) h before x y z = h
  fault_of a a' b b' d d' (NotARepair n) h before x y z = h
  fault_of a a' b b' d d' (NotUtf8 inputs.Grammar) h before x y z = (x refl, before)
  fault_of a a' b b' d d' (NotUtf8 inputs.Lines) h before x y z = (y refl, before)
  fault_of a a' b b' d d' (NotUtf8 inputs.Repairs) h before x y z = (z refl, before)
  fault_of a a' b b' d d' (Read i) h before x y z = tt
  fault_of a a' b b' d d' (TooLong inputs.Grammar) h before x y z = (x refl, before)
  fault_of a a' b b' d d' (TooLong inputs.Lines) h before x y z = (y refl, before)
  fault_of a a' b b' d d' (TooLong inputs.Repairs) h before x y z = (z refl, before)
  fault_of a a' b b' d d' Write h before x y z = tt

  -- a fault is what the bytes say, or comes of memory, or of a read or a write
  pub fault_known : (kg kl kr : Option (List ℕ)) (a a' b b' d d' : ℕ) → kg ≡ Some g → kl ≡ Some l → kr ≡ Some r → (result : Result Bool RunFault) → IfErr result (IsRefusal kg kr) → IfErr result (AreGoodBefore kg kr) →
      IfErr result (IsCauseIn inputs.Grammar kg a a') → IfErr result (IsCauseIn inputs.Lines kl b b') → IfErr result (IsCauseIn inputs.Repairs kr d d') → IfErr result (IsFaultOf g l r)
  fault_known kg kl kr a a' b b' d d' eg el er (Ok faulty) h before x y z = tt
  fault_known kg kl kr a a' b b' d d' eg el er (Err e) h before x y z =
      let P : Option (List ℕ) → Type 0 = λ k. IsRefusal k kr e in
      let Q : Option (List ℕ) → Type 0 = λ k. IsRefusal (Some g) k e in
      let R : Option (List ℕ) → Type 0 = λ k. AreGoodBefore k kr e in
      let S : Option (List ℕ) → Type 0 = λ k. AreGoodBefore (Some g) k e in
      let X : Option (List ℕ) → Type 0 = λ k. IsCauseIn inputs.Grammar k a a' e in
      let Y : Option (List ℕ) → Type 0 = λ k. IsCauseIn inputs.Lines k b b' e in
      let Z : Option (List ℕ) → Type 0 = λ k. IsCauseIn inputs.Repairs k d d' e in
      fault_of a a' b b' d d' e (subst Q er (subst P eg h)) (subst S er (subst R eg before)) (subst X eg x) (subst Y el y) (subst Z er z)
