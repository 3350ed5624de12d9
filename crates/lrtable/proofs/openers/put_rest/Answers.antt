use Rattle.std.proofs.Common.{◌≡◌, ◌<◌, List, length, get_or, map, set, sym, ap, ◌∙◌, subst, arith}
use Rattle.std.proofs.lemmas.List.{length-map, map-set, map_push}
use Rattle.lrtable.specs.Closes.{PutsAt, joined_front}
use Rattle.lrtable.specs.Fronts.{front_of, front_with}
use Rattle.lrtable.specs.Opening.{Front}
use Rattle.lrtable.specs.declared.openers.Opener.{Opener}
use Rattle.state_table.proofs.CoreSteps.{map_at}
use Rattle.lrtable.proofs.OpenLaws.{mapped}
use Rattle.lrtable.proofs.openers.put_rest.Goals as goal

pub join_rest-requires : goal.join_rest-requires
join_rest-requires c =
    let xs = c.args.openers.now.items in
    let k = c.in-Some.k in
    let here = subst (λ (l : List Opener). (k < length l) × ((d : Front) → (get_or (map front_of l) k d).rule ≡ c.args.rule)) c.as_slice.ensures.value c.in-Some.ensures in
    c.requires (front_of c.index_mut.result.now) (mapped front_of xs k c.index_mut.result.now here.0 c.index_mut.ensures.value)

pub returns-in-Some : goal.returns-in-Some
returns-in-Some c =
    let xs = c.args.openers.now.items in
    let k = c.in-Some.k in
    let e = front_with c.args.rule c.args.rest in
    let here = subst (λ (l : List Opener). (k < length l) × ((d : Front) → (get_or (map front_of l) k d).rule ≡ c.args.rule)) c.as_slice.ensures.value c.in-Some.ensures in
    let at = map_at front_of xs k c.index_mut.result.now e here.0 c.index_mut.ensures.value in
    let n = length-map xs front_of in
    let lt = here.0 in
    subst (λ l. PutsAt e (map front_of xs) l) (sym (map-set front_of xs k c.join_rest.new.opener ∙ ap (λ (f : Front). set (map front_of xs) k f) (c.join_rest.ensures ∙ ap (λ (f : Front). joined_front f e.first e.nullable) (sym at))))
    (PutsAt.joined k (omega (arith, n, lt)) (here.1 e))

pub returns-in_ok-push-in-None : goal.returns-in_ok-push-in-None
returns-in_ok-push-in-None c =
    let xs = c.args.openers.now.items in
    let e = front_with c.args.rule c.args.rest in
    let o : Opener = record { rule = c.args.rule; rest = c.args.rest } in
    subst (λ (l : List Opener). PutsAt e (map front_of xs) (map front_of l)) (sym c.in_ok-push-in-None.ensures.items) (subst (λ l. PutsAt e (map front_of xs) l) (sym (map_push front_of xs o)) PutsAt.last)
