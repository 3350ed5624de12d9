-- Constructs one after another.
use Rattle.std.proofs.Common.{◌≡◌, ℕ, List, Option, Some, sym, subst}
use Rattle.cfg_read.specs.declared.yacc.YaccKind.{YaccKind}
use Rattle.cfg_read.specs.declared.yacc.parser.error.ReadError.{ReadError}
use Rattle.cfg_read.specs.declared.yacc.parser.error.ReadError.TheVariants as errors
use Rattle.cfg_read.specs.declared.yacc.parser.error.YaccGrammarErrorKind.{YaccGrammarErrorKind}
use Rattle.cfg_read.specs.Reading.{State, Step, Steps, here, then}
use Rattle.cfg_read.specs.SyntaxErrors.{Stops, StopsFrom, FailsFrom}
use Rattle.cfg_read.specs.Scanning.{IsFaultAt, IsFault}

pub join : {kind : YaccKind} {text : List ℕ} {s t u : State} → Steps kind text s t → Steps kind text t u → Steps kind text s u
join here q = q
join (then p r) q = then p (join r q)

pub one : {kind : YaccKind} {text : List ℕ} {s t : State} → Step kind text s t → Steps kind text s t
one p = then p here

pub and_then : {kind : YaccKind} {text : List ℕ} {s t u : State} → Steps kind text s t → Step kind text t u → Steps kind text s u
and_then r p = join r (one p)

pub and_stops : {kind : YaccKind} {text : List ℕ} {s t : State} {e : YaccGrammarErrorKind} {offset : ℕ} → Steps kind text s t → Stops kind text t e offset → StopsFrom kind text s e offset
and_stops {t = t} r p = record { last = t; steps = r; stops = p }

pub join_stops : {kind : YaccKind} {text : List ℕ} {s t : State} {e : YaccGrammarErrorKind} {offset : ℕ} → Steps kind text s t → StopsFrom kind text t e offset → StopsFrom kind text s e offset
join_stops r f = record { last = f.last; steps = join r f.steps; stops = f.stops }

pub join_fails : {kind : YaccKind} {text : List ℕ} {s t : State} (e : ReadError) → Steps kind text s t → FailsFrom kind text t e → FailsFrom kind text s e
join_fails (errors.Memory m) r f = tt
join_fails (errors.Fault e offset) r f = join_stops r f

-- a fault of one offset is the end of what led there
pub fails_at : {kind : YaccKind} {text : List ℕ} {s t : State} (wrong : Option YaccGrammarErrorKind) (a : ℕ) (e : ReadError) → Steps kind text s t → ((k : YaccGrammarErrorKind) → wrong ≡ Some k → Stops kind text t k a) → IsFaultAt wrong a e → FailsFrom kind text s e
fails_at wrong a (errors.Memory m) r stop f = tt
fails_at {kind = kind} {text = text} {s = s} wrong a (errors.Fault e offset) r stop f = subst (StopsFrom kind text s e) (sym f.1) (and_stops r (stop e f.0))

pub fails_by : {kind : YaccKind} {text : List ℕ} {s t : State} {P : Type 0} (wrong : YaccGrammarErrorKind) (a : ℕ) (e : ReadError) → Steps kind text s t → (P → Stops kind text t wrong a) → IsFault P wrong a e → FailsFrom kind text s e
fails_by wrong a (errors.Memory m) r stop f = tt
fails_by {kind = kind} {text = text} {s = s} wrong a (errors.Fault e offset) r stop f = rw (f.1, f.2) (and_stops r (stop f.0))
