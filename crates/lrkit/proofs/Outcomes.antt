-- What a run leaves, of what its parts leave.
use Rattle.std.proofs.Common.{◌≡◌, ℕ, Bool, Option, List, Result, Ok, Err, IfErr, OnErr, inl, inr}
use Rattle.std.specs.Str.Lines.{lines}
use Rattle.std.proofs.KnownBytes.{Keeps-refl}
use Rattle.lr_theory.specs.Repair.{Edit}
use Rattle.lrpar.specs.Checked.{ParserValue}
use Rattle.parser_kit.specs.declared.kit_error.KitError.{KitError}
use Rattle.parser_kit.specs.declared.kit_error.KitError.TheVariants as kit
use Rattle.lrkit.specs.Output.{BeginsTexts, IsReady}
use Rattle.lrkit.specs.Run.{IsEarlyIn, IsGoodKitIn, IsInput, IsLate, IsOutAt, IsReadFaultOf, IsRefusal, ReadsRepairsIn, WritesBeginning, WritesOutput}
use Rattle.lrkit.specs.RunKits.{HasOtherCounts, IsRunKit, IsRunKitRefusal}
use Rattle.lrkit.specs.Writing.{WritesLines}
use Rattle.lrkit.specs.declared.fault.Input.{Input}
use Rattle.lrkit.specs.declared.fault.RunFault.{RunFault}
use Rattle.lrkit.specs.declared.fault.RunFault.TheVariants.{Kit, Conflicts, NotARepair, NotUtf8, Read, TooLong, Write}

-- what is wrong with a text, and that it has no memory, is a refusal of the grammar
pub IsRefusal-kit : (known others : Option (List ℕ)) (text : List ℕ) (e : KitError ℕ) → IsInput known text → IsRunKitRefusal text e → IsRefusal known others (Kit e)
IsRefusal-kit known others text (kit.Memory e) input h = tt
IsRefusal-kit known others text (kit.Grammar es) input h = record { text = text; input = input; refused = h }
IsRefusal-kit known others text (kit.TooMany n) input h = record { text = text; input = input; refused = h }
IsRefusal-kit known others text (kit.TooManyStates n) input h = record { text = text; input = input; refused = h }
IsRefusal-kit known others text (kit.AcceptReduce p) input h = record { text = text; input = input; refused = h }
IsRefusal-kit known others text kit.TooLarge input h = record { text = text; input = input; refused = h }
IsRefusal-kit known others text (kit.TooManyReductions s x t n) input h = record { text = text; input = input; refused = h }

-- so are counts that aren't expected
pub IsRefusal-counts : (known others : Option (List ℕ)) (text : List ℕ) (k : ParserValue) (e : RunFault) → IsInput known text → IsRunKit text k → HasOtherCounts k e → IsRefusal known others e
IsRefusal-counts known others text k (Conflicts p q x y) input is h = record { text = text; input = input; k = k; is_kit = is; other = h }
IsRefusal-counts known others text k (Kit e) input is h = absurd h
IsRefusal-counts known others text k (NotARepair n) input is h = absurd h
IsRefusal-counts known others text k (NotUtf8 i) input is h = absurd h
IsRefusal-counts known others text k (Read i) input is h = absurd h
IsRefusal-counts known others text k (TooLong i) input is h = absurd h
IsRefusal-counts known others text k Write input is h = absurd h

-- what an input says comes before writing
pub IsOutAt-early : (g l r a : Option (List ℕ)) (input : Input) (e : RunFault) → IsEarlyIn input e → IsOutAt g l r a a e
IsOutAt-early g l r a input (Kit (kit.Memory e)) h = inl (Keeps-refl a)
IsOutAt-early g l r a input (Kit (kit.Grammar es)) h = Keeps-refl a
IsOutAt-early g l r a input (Kit (kit.TooMany n)) h = Keeps-refl a
IsOutAt-early g l r a input (Kit (kit.TooManyStates n)) h = Keeps-refl a
IsOutAt-early g l r a input (Kit (kit.AcceptReduce p)) h = Keeps-refl a
IsOutAt-early g l r a input (Kit kit.TooLarge) h = Keeps-refl a
IsOutAt-early g l r a input (Kit (kit.TooManyReductions s x t n)) h = Keeps-refl a
IsOutAt-early g l r a input (Conflicts p q x y) h = Keeps-refl a
IsOutAt-early g l r a input (NotARepair n) h = Keeps-refl a
IsOutAt-early g l r a input (NotUtf8 i) h = Keeps-refl a
IsOutAt-early g l r a input (Read i) h = Keeps-refl a
IsOutAt-early g l r a input (TooLong i) h = Keeps-refl a
IsOutAt-early g l r a input Write h = absurd h

-- an input that can't be read comes before writing
pub IsOutAt-unwritten : (g l r a : Option (List ℕ)) (input : Input) (e : RunFault) → IsReadFaultOf input e → IsOutAt g l r a a e
IsOutAt-unwritten g l r a input (Kit (kit.Memory e)) h = inl (Keeps-refl a)
IsOutAt-unwritten g l r a input (Kit (kit.Grammar es)) h = absurd h
IsOutAt-unwritten g l r a input (Kit (kit.TooMany n)) h = absurd h
IsOutAt-unwritten g l r a input (Kit (kit.TooManyStates n)) h = absurd h
IsOutAt-unwritten g l r a input (Kit (kit.AcceptReduce p)) h = absurd h
IsOutAt-unwritten g l r a input (Kit kit.TooLarge) h = absurd h
IsOutAt-unwritten g l r a input (Kit (kit.TooManyReductions s x t n)) h = absurd h
IsOutAt-unwritten g l r a input (Conflicts p q x y) h = absurd h
IsOutAt-unwritten g l r a input (NotARepair n) h = absurd h
IsOutAt-unwritten g l r a input (NotUtf8 i) h = Keeps-refl a
IsOutAt-unwritten g l r a input (Read i) h = Keeps-refl a
IsOutAt-unwritten g l r a input (TooLong i) h = Keeps-refl a
IsOutAt-unwritten g l r a input Write h = absurd h

module _ (g l r a b : Option (List ℕ)) (k : ParserValue) (rs : List (List Edit)) (text : List ℕ) (good : IsGoodKitIn g k) (reads : ReadsRepairsIn k r rs) (input : IsInput l text) where
  is_ready : IsReady good.text reads.text k rs
  is_ready = record { is_kit = good.is_kit; expected = good.expected; are_repairs = reads.are_repairs }

  pub WritesOutput-from : (f : Bool) → WritesLines k rs (lines text) a b f → WritesOutput g l r a b f
  WritesOutput-from f w = record {
    grammar_text = good.text;
    line_text = text;
    repair_text = reads.text;
    text = w.text;
    grammar_is = good.input;
    lines_are = input;
    repairs_are = reads.input;
    is_output = record { kit = k; repairs = rs; ready = is_ready; texts = w.texts };
    written = w.written;
  }

  beginning_of : BeginsTexts k rs (lines text) a b → WritesBeginning g l r a b
  beginning_of h = record {
    grammar_text = good.text;
    line_text = text;
    repair_text = reads.text;
    grammar_is = good.input;
    lines_are = input;
    repairs_are = reads.input;
    begins = record { kit = k; repairs = rs; ready = is_ready; begins = h };
  }

  of_fault : (e : RunFault) → IsLate e → BeginsTexts k rs (lines text) a b → IsOutAt g l r a b e
  of_fault Write h w = beginning_of w
  of_fault (Kit (kit.Memory e)) h w = inr (beginning_of w)
  of_fault (Kit (kit.Grammar es)) h w = absurd h
  of_fault (Kit (kit.TooMany n)) h w = absurd h
  of_fault (Kit (kit.TooManyStates n)) h w = absurd h
  of_fault (Kit (kit.AcceptReduce p)) h w = absurd h
  of_fault (Kit kit.TooLarge) h w = absurd h
  of_fault (Kit (kit.TooManyReductions s x t n)) h w = absurd h
  of_fault (Conflicts p q x y) h w = absurd h
  of_fault (NotARepair n) h w = absurd h
  of_fault (NotUtf8 i) h w = absurd h
  of_fault (Read i) h w = absurd h
  of_fault (TooLong i) h w = absurd h

  pub IsOutAt-late : (result : Result Bool RunFault) → IfErr result IsLate → OnErr result (BeginsTexts k rs (lines text) a b) → IfErr result (IsOutAt g l r a b)
  IsOutAt-late (Ok f) h w = tt
  IsOutAt-late (Err e) h w = of_fault e h w
