-- What stands read after each step of a loop that reads an input.
use Rattle.std.proofs.Common.{◌≡◌, ℕ, ◌≤◌, ◌<◌, ◌+◌, Option, None, Some, List, ◌++◌, length, arith, sym, ap, ◌∙◌, append-nil, length-append, subst}
use Rattle.std.specs.Io.KnownBytes.{Consumes, IsAtEnd}
use Rattle.std.proofs.KnownBytes.{Consumes-trans}
use Rattle.byte_streams.specs.Source.{IsWhole, HasMoreThan, one_more}
use Rattle.byte_streams.specs.Inputs.{most_bytes, Moves, TakesAtMost, IsInputFault, IsReadFault}
use Rattle.byte_streams.specs.declared.reading.InputFault.{InputFault}
use Rattle.byte_streams.specs.declared.reading.InputFault.TheVariants.{Read, TooLong, NotUtf8, Memory}

pub record SoFar (known known' : Option (List ℕ)) (faults faults' : ℕ) (bytes : List ℕ) (len : ℕ) : Type 0 where
  pub consumed : Consumes known known' bytes
  pub counted : faults' ≡ faults
  pub is_len : len ≡ length bytes
  pub bound : len ≤ most_bytes + 1

pub Consumes-Moves : (a b c : Option (List ℕ)) (bytes bytes' : List ℕ) → Consumes a b bytes → Moves b c bytes bytes' → Consumes a c bytes'
Consumes-Moves a b c bytes bytes' p m = let whole : Consumes a c (bytes ++ m.moved) = Consumes-trans a b c bytes m.moved p m.consumed in let P : List ℕ → Type 0 = λ bs. Consumes a c bs in subst P (sym m.appended) whole

pub IsWhole-end : (a b : Option (List ℕ)) (bytes : List ℕ) → Consumes a b bytes → IsAtEnd b → IsWhole a bytes
IsWhole-end None b bytes p e = tt
IsWhole-end (Some xs) None bytes p e = absurd p
IsWhole-end (Some xs) (Some ys) bytes p e = p ∙ ap (λ l. bytes ++ l) e ∙ append-nil bytes

pub HasMoreThan-consumed : (n : ℕ) (a b : Option (List ℕ)) (bytes : List ℕ) → Consumes a b bytes → n < length bytes → HasMoreThan n a
HasMoreThan-consumed n None b bytes p h = tt
HasMoreThan-consumed n (Some xs) None bytes p h = absurd p
HasMoreThan-consumed n (Some xs) (Some ys) bytes p h = omega (arith, ap length p, length-append bytes ys)

pub TakesAtMost-more : (n m : ℕ) (a b c : Option (List ℕ)) (bytes : List ℕ) → Consumes a b bytes → TakesAtMost m b c → length bytes + m ≤ n → TakesAtMost n a c
TakesAtMost-more n m a b c bytes p t h = record { gone = bytes ++ t.gone; consumed = Consumes-trans a b c bytes t.gone p t.consumed; bound = (let few : length t.gone ≤ m = t.bound in omega (arith, length-append bytes t.gone)) }

pub IsInputFault-from_read : (known : Option (List ℕ)) (a b c : ℕ) (e : InputFault) → b ≡ a → IsReadFault b c e → IsInputFault known a c e
IsInputFault-from_read known a b c Read same f = f ∙ ap one_more same
IsInputFault-from_read known a b c TooLong same f = absurd f
IsInputFault-from_read known a b c NotUtf8 same f = absurd f
IsInputFault-from_read known a b c (Memory e) same f = tt
