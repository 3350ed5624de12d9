-- The parts so far, and each way to go on or to end.
use Rattle.std.proofs.Common.{◌≡◌, ℕ, ◌+◌, ◌<◌, List, [], ◌∷◌, ◌++◌, length, drop, sym, ap, ◌∙◌, subst, append_assoc, arith}
use Rattle.std.proofs.lemmas.List.{append-nil}
use Rattle.maximal_munch.specs.RuleValues.{RuleSetValue, Stack, moved, target_at}
use Rattle.maximal_munch.specs.Munching.{MunchesFrom, Munches, IsBest, len_at, part_at, ends, stuck, part}
use Rattle.maximal_munch.specs.declared.rules.Target.{Target}
use Rattle.maximal_munch.specs.declared.munching.Part.{Part}
use Rattle.maximal_munch.specs.declared.munching.Ending.{Ending}
use Rattle.maximal_munch.specs.declared.munching.Ending.TheVariants.{Finished, NoMatch}
use Rattle.maximal_munch.proofs.BestSoFar.{longest_of, stuck_of}

-- with what comes from here on, the parts are those of the text
abbrev pub SoFar : RuleSetValue → List ℕ → List Part → ℕ → List ℕ → Stack → Type 0
SoFar v text parts at rest s = (more : List Part) (e : Ending) → MunchesFrom v at rest s more e → Munches v text (parts ++ more) e

module _ (v : RuleSetValue) (text : List ℕ) (parts : List Part) (at : ℕ) (rest : List ℕ) (s : Stack) (so : SoFar v text parts at rest s) where
  module _ (k n : ℕ) (some : 0 < length rest) (best : IsBest (len_at v s.current rest) k n) where
    pub stop_stuck : n ≡ 0 → Munches v text parts (NoMatch at)
    stop_stuck e = subst (λ ps. Munches v text ps (NoMatch at)) (append-nil parts) (so [] (NoMatch at) (stuck some (stuck_of best e)))

    pub go_on : 0 < n → (target : Target) (t : Stack) → target ≡ target_at v k → t ≡ moved target s → (parts' : List Part) (rest' : List ℕ) →
        parts' ≡ parts ++ part_at k at n ∷ [] → rest' ≡ drop n rest → SoFar v text parts' (at + n) rest' t
    go_on pos target t is goes parts' rest' pe re = λ more end h.
        let p = part_at k at n in
        let there : MunchesFrom v (at + n) (drop n rest) t more end = subst (λ r. MunchesFrom v (at + n) r t more end) re h in
        let from = subst (λ u. MunchesFrom v (at + n) (drop n rest) u more end) (goes ∙ ap (λ x. moved x s) is) there in
        let whole : Munches v text (parts ++ p ∷ more) end = so (p ∷ more) end (part k n some (longest_of best pos) from) in
        let same : parts' ++ more ≡ parts ++ p ∷ more = ap (λ l. l ++ more) pe ∙ append_assoc parts (p ∷ []) more in
        subst (λ ps. Munches v text ps end) (sym same) whole

pub stop_end : (v : RuleSetValue) (text : List ℕ) (parts : List Part) (at : ℕ) (rest : List ℕ) (s : Stack) → SoFar v text parts at rest s → length rest ≡ 0 → Munches v text parts Finished
stop_end v text parts at [] s so e = subst (λ ps. Munches v text ps Finished) (append-nil parts) (so [] Finished ends)
stop_end v text parts at (b ∷ bs) s so e = absurd (omega arith)
