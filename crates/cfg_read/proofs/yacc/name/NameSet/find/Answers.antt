use Rattle.std.proofs.Common.{◌≡◌, ℕ, List, ap, sym, ◌∙◌, subst, IfSome, slice_get, Some, option_map}
use Rattle.std.specs.List.{list_any, IsDistinct}
use Rattle.std.specs.Str.{bytes_eq}
use Rattle.std.proofs.lemmas.Option.{slice_get-map}
use Rattle.std.proofs.lemmas.Slice.Eq.{bytes_eq-Decides}
use Rattle.cfg_read.specs.NameTexts.{name_text}
use Rattle.cfg_read.proofs.TextPlaces.{distinct_texts, any_at, place_found, is_there}
use Rattle.cfg_read.proofs.yacc.name.NameSet.find.Goals as goal

pub returns-in-Some-clause-there : goal.returns-in-Some-clause-there
returns-in-Some-clause-there c =
    let ks = c.self.inside.names.keys in
    let h = c.place-hint.result in
    let same : name_text c.in-Some.found.now ≡ name_text c.args.name.now = (bytes_eq-Decides (name_text c.in-Some.found.now) (name_text c.args.name.now)).0 (sym c.if-eq.ensures) in
    ap (λ (ts : List (List ℕ)). slice_get ts h) (sym c.self.view_is)
    ∙ slice_get-map name_text ks h
    ∙ ap (option_map name_text) (sym c.in-Some.ensures.key)
    ∙ ap (λ t. Some t) same

pub returns-in-Some-clause-found : goal.returns-in-Some-clause-found
returns-in-Some-clause-found c = sym (any_at c.args.self.now c.place-hint.result (name_text c.args.name.now) (returns-in-Some-clause-there c))

pub returns-in-Some-clause-unique : goal.returns-in-Some-clause-unique
returns-in-Some-clause-unique c = subst (IsDistinct bytes_eq) c.self.view_is (distinct_texts c.self.inside.names.keys c.self.invariant)

pub returns-in_default-clause-there : goal.returns-in_default-clause-there
returns-in_default-clause-there c =
    let q = name_text c.args.name.now in
    subst (λ (ts : List (List ℕ)). IfSome c.get_index_of.result (λ p. slice_get ts p ≡ Some q)) c.self.view_is (place_found c.self.inside.names.keys q c.get_index_of.result c.get_index_of.ensures.index)

pub returns-in_default-clause-found : goal.returns-in_default-clause-found
returns-in_default-clause-found c =
    let q = name_text c.args.name.now in
    c.get_index_of.ensures.found ∙ is_there c.self.inside.names.keys q ∙ ap (list_any (bytes_eq q)) c.self.view_is

pub returns-in_default-clause-unique : goal.returns-in_default-clause-unique
returns-in_default-clause-unique c = subst (IsDistinct bytes_eq) c.self.view_is (distinct_texts c.self.inside.names.keys c.self.invariant)
