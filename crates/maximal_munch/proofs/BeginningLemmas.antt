-- What an automaton of its own says of the matches of a regex.
use Rattle.std.proofs.Common.{◌≡◌, ℕ, ◌<◌, ◌==◌, Bool, true, false, if◌then◌else◌, List, Option, None, Some, option_map, refl, sym, ◌∙◌, subst, IsSomeAnd, IfSome, arith}
use Rattle.std.proofs.lemmas.Bool.{eqb-true}
use Rattle.std.proofs.lemmas.Option.{none-some}
use Rattle.std.specs.Prelude.{chars}
use Rattle.regex.specs.Patterns.{Re, Match, Config, Reads, SameCaptures, find_str, span}
use Rattle.regex.specs.Names.{names_of}
use Rattle.regex.specs.Strings.{regex_config, regex_pattern, regex_source, IsReadFromSource}
use Rattle.regex.specs.declared.string.regex.Regex.{Regex}
use Rattle.regex.proofs.SearchLemmas.{leftmost_attempt}
use Rattle.regex_hir.specs.Meaning.{meaning}
use Rattle.regex_hir.specs.Re.{Trace, accept, attempt}
use Rattle.regex_hir.specs.declared.hir.Hir.{Hir}
use Rattle.regex_levels.specs.Beginnings.{BeginsIn as FindsIn}
use Rattle.regex_nfa.specs.declared.nfa.Nfa.{Nfa}
use Rattle.regex_syntax.specs.Captures.{outcome}
use Rattle.regex_syntax.specs.Grammar.{Names, read}
use Rattle.regex_syntax.proofs.CapturesLemmas as seen
use Rattle.maximal_munch.specs.Beginnings.{BeginsIn, IsAutomatonOf, front_len, match_len}

both : {A B : Type 0} (o : Option A) (P Q : A → Type 0) → ((x : A) → P x → Q x → B) → IsSomeAnd o P → IsSomeAnd o Q → B
both None P Q f p q = absurd p
both (Some x) P Q f p q = f x p q

-- two readings of one text match alike
pub read_alike : (config : Config) (source : List ℕ) (g h : Hir) (ms ns : Names) → Reads config source g ms → Reads config source h ns → SameCaptures (meaning g) (meaning h)
unfolding Reads
read_alike config source g h ms ns p q = both (read config (chars source)) _ _ (λ x a b. seen.◌also◌ a.1 (seen.alike_sym b.1)) p q

also_some : (o p : Option Trace) (t : Trace) → outcome o ≡ outcome p → o ≡ Some t → (u : Trace) × (p ≡ Some u)
unfolding outcome
also_some None p t same e = absurd (none-some t e)
also_some (Some x) None t same e = absurd (none-some _ (sym same))
also_some (Some x) (Some u) t same e = (u, refl)

-- a match with a byte at the front is found at the front
found_at_front : (p : Re) (rest : List ℕ) → 0 < match_len p rest → (t : Trace) × (attempt rest p accept 0 ≡ Some t)
found_at_front p rest = by (find_str p rest 0) refl
  where
    at : (m : Match) (b : Bool) → (m.start == 0) ≡ b → find_str p rest 0 ≡ Some m → 0 < (if b then m.trace.end else 0) → (t : Trace) × (attempt rest p accept 0 ≡ Some t)
    at m true front e some = (m.trace, subst (λ i. attempt rest p accept i ≡ Some m.trace) (eqb-true m.start 0 front) (leftmost_attempt p rest true 0 m e).2)
    at m false front e some = absurd (omega arith)

    by : (o : Option Match) → find_str p rest 0 ≡ o → 0 < front_len (option_map span o) → (t : Trace) × (attempt rest p accept 0 ≡ Some t)
    by None e some = absurd (omega arith)
    by (Some m) e some = at m (m.start == 0) refl e some

-- the first byte of a match is one that the automaton may read first
pub begins : (source : List ℕ) (config : Config) (tree : Hir) (names : Names) (nfa : Nfa) (level : List Bool) →
    Reads config source tree names → IsAutomatonOf source config nfa → FindsIn nfa level → BeginsIn (meaning tree) level
begins source config tree names nfa level reads own finds rest bytes some =
    let t = found_at_front (meaning tree) rest some in
    let same = read_alike config source tree own.tree names own.names reads own.reads in
    let u = also_some _ _ t.0 (same.at rest bytes accept 0) t.1 in
    (finds rest 0 u.0 (own.implements rest 0 ∙ u.1)).1

some_begins : (p : Re) (nfa : Nfa) → ((level : List Bool) → FindsIn nfa level → BeginsIn p level) → (o : Option (List Bool)) → IfSome o (FindsIn nfa) → IfSome o (BeginsIn p)
some_begins p nfa h None all = tt
some_begins p nfa h (Some level) all = h level all

-- the same, of a regex that was read from its source
pub begins_of : (r : Regex) (source : List ℕ) (config : Config) (nfa : Nfa) → regex_config r ≡ config → source ≡ regex_source r → IsReadFromSource r →
    IsAutomatonOf source config nfa → (o : Option (List Bool)) → IfSome o (FindsIn nfa) → IfSome o (BeginsIn (regex_pattern r))
begins_of r source config nfa is_config is_source read own =
    let hir = r.pattern.program.hir in
    let names = names_of r.pattern.names.items in
    let reads : Reads config source hir names = subst (λ s. Reads config s hir names) (sym is_source) (subst (λ c. Reads c (regex_source r) hir names) is_config read) in
    some_begins (regex_pattern r) nfa (λ level finds. begins source config hir names nfa level reads own finds)
