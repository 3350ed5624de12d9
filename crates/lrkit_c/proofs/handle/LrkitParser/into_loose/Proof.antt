-- `into_loose` makes the parts of a box of a handle that is not empty.
use Rattle.std.proofs.Common.{◌≡◌, List, [], ◌∷◌, ◌++◌, refl, sym, ap, ◌∙◌, subst}
use mir.Val.{Val, vptr}
use base.Logic.{SProp, ent, id⊢}
use base.Fml.{ftrue}
use prog.Wp.{WpFn}
use types.Kit.{‵, raw, ◌⊛◌, ◌$◌, ◌∵◌, !, qed, by, move, keep, split, fsplit, fjoin, suffices, use0, rewrite}
use types.Run.{stop, fld, of_opd, no_more, and_then, returns, enter}
use types.ByLocal.{alloc_all, pass_all, free_all, look_at, get, get_in, sets}
use types.Part.{agg, sub, whole}
use contract.Monad.{fact}
use contract.Running.{tables}
use denote.Exit.{yes}
use denote.RattleType.{RattleType, owns}
use denote.Signature.{types_at, plain}
use denote.RawPtr.{Ptr, block_ptr, null_ptr}
use denote.Steps.{nothing, heard}
use denote.Triple.Walked.{Stays, stay_dropped, walk_of, Goes-dropped}
use Rattle.std.specs.Prelude.{Option, Some, None}
use Rattle.std.proofs.raw_atomic.Walks.{proved_at, leaves}
use base.Logic.{emp, never, fst∗}
use mir.Raw.{raw as bare}
use mir.Syntax.{impl, tnil, dnil}
use types.Logic.{sem}
use denote.Memory.{lone}
use denote.RawPtr.{in_a_block}
use Rattle.lrkit_c.specs.Handles.{frees}
use Rattle.std.specs.Prelude.{IsSome}
use Rattle.std.specs.Box.Ownership.{box_owns}
use Rattle.std.proofs.alloc.Calls.{Al, handle_tells}
use Rattle.lrkit_c.specs.Handles.{held_at}
use contract.Monad.{fact_i}
use Rattle.std.specs.contracts.alloc.Global as heap
use Rattle.std.proofs.alloc.Global.TheLaws as heap_laws
use Rattle.std.specs.contracts.impls.GlobalAllocator.TheImpl.{ghosts}
use Rattle.lrkit_c.proofs.Handles.{word, handle_out, R}
use Rattle.lrkit_c.proofs.Values.{both, Loose, loose_good, loose_in}
use Rattle.lrkit_c.specs.contracts.handle.LrkitParser as handle
use Rattle.lrkit_c.specs.contracts.handle.LrkitParser.into_loose.{ended, clauses}
use Rattle.lrkit_c.specs.contracts.handle.LrkitParser.into_loose.Key.{name as #self}
use Rattle.lrkit_c.proofs.handle.LrkitParser.into_loose.Statement.{statement}
use Rattle.lrkit_c.proofs.handle.LrkitParser.into_loose.Code as code

abbrev Z : RattleType
Z = heap.the_row

abbrev From : RattleType
From = Loose R Z heap_laws.the_row_laws ghosts

abbrev al : Al
al = record { row = Z; laws = heap_laws.the_row_laws; g = ghosts; d = impl [] tnil dnil; drops = impl [] tnil dnil }

held_in : {X : Type 0} (o : Option X) → IsSome o → (x : X) × (o ≡ Some x)
held_in None filled = cc
held_in (Some x) filled = (x, refl)

abbrev Same : Option R.Denot → Option R.Denot → Type 0
Same a b = a ≡ b

pub into_loose_spec : {M : Type 1} → statement M
into_loose_spec 𝓤 𝓛 𝓜 𝓡 wired =
    let H = 𝓛.H in let 𝓣 = tables 𝓤 H 𝓜 𝓡 𝓡.env in let c = clauses 𝓛 𝓜.mem 𝓡.returns in let LZ = heap_laws.the_row_laws in
    let hs : Stays (ended).signature.params (ended).kept = (stay_dropped (plain (λ _. handle.the_row)) yes, (stay_dropped (plain (λ _. Z)) yes, tt)) in
    proved_at 𝓛 ended hs c 𝓜 𝓡 (Goes-dropped 𝓛 0 (plain (λ _. handle.the_row)) yes (λ κs x f. refl), (Goes-dropped 𝓛 0 (plain (λ _. Z)) yes (λ κs x f. refl), tt)) #self code.function (code.unfolded 𝓤 H 𝓜 𝓡 wired) (λ z are.
    let v = z.0.3.0 in let Post : Val → SProp 𝓤 = (walk_of 𝓛 ended hs c).post z in let Run : List Val → SProp 𝓤 = λ ws. WpFn 𝓤 H 𝓣.C 𝓣.Λ code.function ws Post in
    qed 𝓛 ((‵ ftrue ⊛ ‵ (owns (types_at (ended).signature.params z.0.0) z.0.3 z.0.4)) ∷ raw ((c z.0.0 z.0.3).requires z.1) ∷ []) ∵ split ! $ move ! (1 ∷ []) $ fsplit ! $
    handle_out ! v z.0.4.0 (λ ws. move ! (3 ∷ []) $ heard ! (IsSome v.value) (λ filled.
    let found = held_in v.value filled in let x = found.0 in let a = z.0.3.1.0 in
    rewrite ! 0 (λ (o : Option R.Denot). ‵ (held_at R v.at o)) found.1 refl $
    in_a_block ! v.at (λ p. box_owns frees R p x) (fst∗ 𝓤 (never 𝓤) (sem 𝓛 (frees (bare (lone R.mir)) null_ptr))) (λ b o e.
    move ! (1 ∷ []) $ fsplit ! $ handle_tells al ! a z.0.4.1.0 (λ h ea fits.
    let w : Val = word (block_ptr b o) in let typed = loose_good R Z LZ ghosts b o h fits in
    let is : z.0.4.0 ≡ w ∷ [] = ws ∙ ap (λ (p : Ptr). word p ∷ []) e in
    suffices ! (Run (w ∷ h ∷ [])) (subst (λ (us : List Val). ent 𝓤 (Run (w ∷ h ∷ [])) (Run us)) (sym (λ i. is i ++ (ea i ++ []))) (id⊢ 𝓤 (Run (w ∷ h ∷ [])))) $
    enter ! 𝓣.C 𝓣.Λ code.function (w ∷ h ∷ []) Post $ alloc_all ! (λ l. pass_all ! refl ((tt, (tt, tt)), (fits, tt)) $
    sets ! (of_opd ! (get_in ! (fld ! refl (stop !)) (sub ! 0 refl (whole !)))) refl (tt, tt) $
    sets ! (of_opd ! (get ! refl)) refl (tt, tt) $
    sets ! (agg ! (and_then ! (get ! refl) (and_then ! (get ! refl) (no_more !)))) refl typed $
    move ! (2 ∷ 0 ∷ []) $ loose_in R Z LZ ghosts ! b o h a x $
    use0 𝓛 (raw (fact 𝓤 (Same (Some x) v.value))) (fact_i 𝓤 (Same (Some x) v.value) (emp 𝓤) (sym found.1)) $ nothing ! $ nothing ! $ nothing ! $ fjoin ! $ nothing ! $ fjoin ! $
    returns ! (look_at ! 0 refl) $ free_all ! refl $ keep ! (1 ∷ 0 ∷ 3 ∷ 2 ∷ []) $
    by ! (leaves 𝓛 ended hs c z (both (vptr b o) h) (record { at = block_ptr b o; alloc = a; value = x }) (tt, (tt, tt)) (tt, (tt, tt)))))))))
