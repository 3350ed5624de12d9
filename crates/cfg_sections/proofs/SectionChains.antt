-- Constructs of a section, one after another.
use Rattle.std.proofs.Common.{◌≡◌, ℕ, ◌+◌, List, Some, None, Global}
use Rattle.std.specs.Prelude.{slice_range}
use Rattle.std.specs.String.{string_bytes}
use Rattle.std.specs.declared.string.String.{String}
use Rattle.cfg_base.specs.SpanModel.{SpanModel}
use Rattle.cfg_sections.specs.declared.header.scan.PathShape.TheVariants as paths
use Rattle.cfg_sections.specs.declared.header.settings.Fault.{Fault}
use Rattle.cfg_sections.specs.declared.header.settings.Fault.TheVariants as faults
use Rattle.cfg_sections.specs.HeaderErrors.{KindText}
use Rattle.cfg_sections.specs.HeaderTexts.{path_text}
use Rattle.cfg_sections.specs.HeaderWords.{path_at}
use Rattle.cfg_sections.specs.Sections.{State, Step, Steps, here, then, Stops, StopsFrom, IsPath, alone, within, IsNoPath, span}
use Rattle.cfg_sections.specs.SectionResults.{Fails, FailsPath, IsMemory}

pub join : {bytes : List ℕ} {s t u : State} → Steps bytes s t → Steps bytes t u → Steps bytes s u
join here q = q
join (then p r) q = then p (join r q)

pub one : {bytes : List ℕ} {s t : State} → Step bytes s t → Steps bytes s t
one p = then p here

pub and_then : {bytes : List ℕ} {s t u : State} → Steps bytes s t → Step bytes t u → Steps bytes s u
and_then r p = join r (one p)

pub and_stops : {bytes : List ℕ} {s t : State} {kind : KindText} {offset : ℕ} → Steps bytes s t → Stops bytes t kind offset → StopsFrom bytes s kind offset
and_stops {t = t} r h = record { last = t; steps = r; stops = h }

pub join_stops : {bytes : List ℕ} {s t : State} {kind : KindText} {offset : ℕ} → Steps bytes s t → StopsFrom bytes t kind offset → StopsFrom bytes s kind offset
join_stops r f = record { last = f.last; steps = join r f.steps; stops = f.stops }

pub join_fails : (bytes : List ℕ) (s t : State) (e : Fault) → Steps bytes s t → Fails bytes t e → Fails bytes s e
join_fails bytes s t (faults.Memory m) r f = tt
join_fails bytes s t (faults.At kind offset) r f = join_stops r f

-- where no path stands, reading stops
pub path_fails : (bytes : List ℕ) (s t : State) (a : ℕ) (e : Fault) → Steps bytes s t → ((kind : KindText) (offset : ℕ) → IsNoPath bytes a kind offset → Stops bytes t kind offset) → FailsPath bytes a e → Fails bytes s e
path_fails bytes s t a (faults.Memory m) r h f = tt
path_fails bytes s t a (faults.At kind offset) r h f = and_stops r (h _ _ f)

pub memory_fails : (bytes : List ℕ) (s : State) (e : Fault) → IsMemory e → Fails bytes s e
memory_fails bytes s (faults.Memory m) h = tt
memory_fails bytes s (faults.At kind offset) h = absurd h

pub alone_path : {bytes : List ℕ} {a b : ℕ} (m : String Global × SpanModel) → path_at bytes a ≡ paths.Alone b → string_bytes m.0 ≡ slice_range bytes a b → m.1 ≡ span a b → IsPath bytes a (path_text (record { namespace = None; member = m })) b
alone_path m e t s = rw (t, s) (alone e)

pub within_path : {bytes : List ℕ} {a b c : ℕ} (n m : String Global × SpanModel) → path_at bytes a ≡ paths.Within b c → string_bytes n.0 ≡ slice_range bytes a b → n.1 ≡ span a b → string_bytes m.0 ≡ slice_range bytes (b + 2) c → m.1 ≡ span (b + 2) c →
    IsPath bytes a (path_text (record { namespace = Some n; member = m })) c
within_path n m e t s u v = rw (t, s, u, v) (within e)
